-- Places of lists.
use Rattle.std.proofs.Common.{◌≡◌, ℕ, ◌+◌, ◌<◌, ◌≤◌, Bool, false, List, length, get_or, map, refl, sym, ◌∙◌, ap, subst, arith, inl, inr}
use Rattle.std.specs.Prelude.{slice_get, Some, option_map}
use Rattle.std.proofs.lemmas.Bool.{cases_eq}
use Rattle.std.proofs.lemmas.Option.{slice_get-map, slice_get_read, same_Some}
use Rattle.fut_base.specs.declared.record.Entry.{Entry}
use Rattle.fut_base.specs.Events.{event_of}

pub event_at : (entries : List Entry) (i : ℕ) (e : Entry) → i < length entries → e ≡ get_or entries i e → slice_get (map event_of entries) i ≡ Some (event_of e)
event_at entries i e lt is =
    slice_get-map event_of entries i ∙ ap (option_map event_of) (slice_get_read entries (length entries) i e refl lt is)

-- no item from place i on passes the test
abbrev pub NoneFrom : {X : Type 0} → (X → Bool) → List X → ℕ → Type 0
NoneFrom {X} p xs i = (k : ℕ) (x : X) → i ≤ k → slice_get xs k ≡ Some x → p x ≡ false

pub none_from_here : {X : Type 0} (p : X → Bool) (xs : List X) (i n : ℕ) (x : X) → n ≡ i + 1 → slice_get xs i ≡ Some x → p x ≡ false → NoneFrom p xs n
    → NoneFrom p xs i
none_from_here p xs i n x next at fails later k y le there =
    elim (cases_eq k i) [
      | inl same ↦
          subst (λ z. p z ≡ false) (same_Some x y (sym at ∙ subst (λ m. slice_get xs m ≡ Some y) same there)) fails
      | inr other ↦ later k y (omega (arith, next)) there
    ]
