-- Lines that are changed where they stand.
use Rattle.std.proofs.Common.{◌≡◌, ◌≢◌, ℕ, zero, suc, ◌<◌, ◌≤◌, List, [], ◌∷◌, ◌++◌, length, get_or, subst, ap, sym, refl, ◌∙◌, arith}
use Rattle.std.specs.Prelude.{Option, Some, None, slice_get, slice_set, option_and_then, Result, Ok, Err, OnOk}
use Rattle.std.proofs.lemmas.List.{append-nil}
use Rattle.std.proofs.lemmas.Option.{same_Some, get_or_from_slice_get, slice_get-get_or, slice_get_past}
use Rattle.fut_base.specs.declared.record.Value.{Value}
use Rattle.run_book.specs.Jobs.{JobNow}
use Rattle.run_book.specs.Lines.{LineNow, Ended}
use Rattle.run_book.specs.Turns.{change_at, AreSameLines, with_end, with_less, parent_of, told_of_end, after_end}
use Rattle.run_book.specs.Books.{waiters_of, waits_for_last, parent_line, wait_for}
use Rattle.run_book.proofs.Changing.{set_indexed, same_with_room}

pub on_ok : {A E : Type 0} (r : Result A E) (P Q : Type 0) → OnOk r P → (P → Q) → OnOk r Q
on_ok (Ok x) P Q h f = f h
on_ok (Err x) P Q h f = tt

-- of a list, with one item put in another's place
set_here : {X : Type 0} (xs : List X) (t : ℕ) (y : X) → t < length xs → slice_get (slice_set xs t y) t ≡ Some y
set_here [] t y low = absurd (omega arith)
set_here (x ∷ xs) zero y low = refl
set_here (x ∷ xs) (suc t) y low = set_here xs t y (omega arith)

set_else : {X : Type 0} (xs : List X) (t u : ℕ) (y : X) → u ≢ t → slice_get (slice_set xs t y) u ≡ slice_get xs u
set_else [] t u y other = refl
set_else (x ∷ xs) zero zero y other = absurd (other refl)
set_else (x ∷ xs) zero (suc u) y other = refl
set_else (x ∷ xs) (suc t) zero y other = refl
set_else (x ∷ xs) (suc t) (suc u) y other = set_else xs t u y (λ e. other (ap suc e))

-- ---- room for a child

pub room_lines : (t : ℕ) (ls : List LineNow) (d m : LineNow) → t < length ls → m ≡ record (get_or ls t d) { room = m.room } → AreSameLines ls (slice_set ls t m)
room_lines t ls d m low same = same_with_room t ls (get_or ls t d) m (slice_get-get_or ls t d low) same

pub room_here : (t : ℕ) (ls : List LineNow) (m l : LineNow) → t < length ls → 1 ≤ m.room → slice_get (slice_set ls t m) t ≡ Some l → 1 ≤ l.room
room_here t ls m l low room at = subst (λ (z : LineNow). 1 ≤ z.room) (same_Some m l (sym (set_here ls t m low) ∙ at)) room

pub no_line : (t : ℕ) (ls : List LineNow) (l : LineNow) → length ls ≤ t → slice_get ls t ≡ Some l → ⊥
no_line t ls l high at = absurd (none_some (sym (slice_get_past ls t high) ∙ at))
  where
    none_some : ◌≡◌ {A = Option LineNow} None (Some l) → ⊥
    none_some e = cc

-- ---- an end

pub told_none : (t : ℕ) (ls : List LineNow) (l d : LineNow) → slice_get ls t ≡ Some l → [] ≡ waits_for_last (Some (get_or ls t d))
    → [] ≡ waits_for_last (slice_get ls t)
told_none t ls l d at none = none ∙ ap waits_for_last (ap Some (get_or_from_slice_get ls t l d at) ∙ sym at)

parent_at : (t : ℕ) (ls : List LineNow) (l d : LineNow) (parent : Option ℕ) → slice_get ls t ≡ Some l → parent ≡ (get_or ls t d).parent → parent ≡ l.parent
parent_at t ls l d parent at is = is ∙ ap (λ (z : LineNow). z.parent) (get_or_from_slice_get ls t l d at)

pub settled_none : (t : ℕ) (ls : List LineNow) (l d y : LineNow) (value : Value) (last : Ended) → slice_get ls t ≡ Some l
    → y ≡ with_end value last (get_or ls t d)
    → None ≡ (get_or ls t d).parent → slice_set ls t y ≡ after_end t value last ls
settled_none t ls l d y value last at new none =
    let parent : None ≡ parent_of (slice_get ls t) = parent_at t ls l d None at none ∙ sym (ap parent_of at) in
    set_indexed t (with_end value last) ls l d y at new ∙ ap (λ o. told_of_end o (change_at t (with_end value last) ls)) parent

pub settled_parent : (t p : ℕ) (ls : List LineNow) (l d : LineNow) → slice_get ls t ≡ Some l → Some p ≡ (get_or ls t d).parent
    → (l.parent ≡ Some p) × (parent_of (slice_get ls t) ≡ Some p)
settled_parent t p ls l d at is = let parent = sym (parent_at t ls l d (Some p) at is) in (parent, ap parent_of at ∙ parent)

pub settled_jobs : (t p : ℕ) (ls : List LineNow) (l d y : LineNow) (jobs : List JobNow) → slice_get ls t ≡ Some l → Some p ≡ (get_or ls t d).parent → p ≢ t
    → l.waiters ≡ [] → jobs ≡ waits_for_last (slice_get (slice_set ls t y) p) → jobs ≡ wait_for ls t
settled_jobs t p ls l d y jobs at is other none told =
    let parent = (settled_parent t p ls l d at is).0 in
    told ∙ ap waits_for_last (set_else ls t p y other) ∙ sym (append-nil (waits_for_last (slice_get ls p)))
    ∙ ap (λ (js : List JobNow). waits_for_last (slice_get ls p) ++ js) (sym none)
    ∙ ap (λ o. waits_for_last (option_and_then (λ (q : ℕ). slice_get ls q) o) ++ l.waiters) (sym parent)
    ∙ ap (λ o. waits_for_last (parent_line ls o) ++ waiters_of o) (sym at)

pub settled_lines : (t p : ℕ) (ls : List LineNow) (l d y : LineNow) (value : Value) (last : Ended) (new : List LineNow) → slice_get ls t ≡ Some l
    → y ≡ with_end value last (get_or ls t d) → Some p ≡ (get_or ls t d).parent → new ≡ change_at p with_less (slice_set ls t y)
    → new ≡ after_end t value last ls
settled_lines t p ls l d y value last new at line is told =
    told ∙ ap (λ ms. change_at p with_less ms) (set_indexed t (with_end value last) ls l d y at line)
    ∙ ap (λ o. told_of_end o (change_at t (with_end value last) ls)) (sym (settled_parent t p ls l d at is).1)
