-- The lines of a book at its end.
use Rattle.std.proofs.Common.{◌≡◌, ℕ, zero, suc, List, [], ◌∷◌, inl, inr, refl, sym, ap}
use Rattle.std.specs.Prelude.{Some, slice_get}
use Rattle.fut_base.specs.declared.event.Event.{Event}
use Rattle.fut_base.specs.Dag.{Among}
use Rattle.task_code.specs.Flat.{Compiled}
use Rattle.run_book.specs.Lines.{LineNow, IsLineOf}
use Rattle.run_book.specs.Books.{AreOpen}

-- one of some lines has a place
line_at : (l : LineNow) (lines : List LineNow) → Among l lines → (t : ℕ) × (slice_get lines t ≡ Some l)
line_at l [] a = absurd a
line_at l (m ∷ lines) (inl same) = (zero, ap (λ x. Some x) same)
line_at l (m ∷ lines) (inr a) = let at = line_at l lines a in (suc at.0, at.1)

-- jobs wait only for values that have not come
pub lines_open : (code : Compiled) (book : List (ℕ × Event)) (lines : List LineNow)
    → ((t : ℕ) (l : LineNow) → slice_get lines t ≡ Some l → IsLineOf code book t l) → AreOpen lines
lines_open code book lines each l j a b = let at = line_at l lines a in ((each at.0 l at.1).waiters j b).0
