-- An item that is put after another once there is a label between.
use Rattle.std.proofs.Common.{◌≡◌, ◌≢◌, ℕ, ◌-◌, ◌<◌, ◌∙◌, inl, inr, length, List, [], ◌∷◌, ◌++◌, sym, subst, ap, refl, arith}
use Rattle.std.specs.Prelude.{Option, Some, None, nat_lt, slice_index}
use Rattle.std.proofs.lemmas.Bool.Decides.{nat_tests}
use Rattle.order_list.specs.declared.place.Window.{Window}
use Rattle.order_list.specs.declared.place.Place.TheVariants.{Relabel}
use Rattle.order_list.specs.Ordered.{Ordered, put_after, high_by, high_of, next_of}
use Rattle.order_list.specs.Labels.{place_of, middle_of, SpacedBy, HasSpace, HasMadeSpace, LabelsAfter, LabelsBy, HasInserted}
use Rattle.order_list.proofs.Chains.{tested}

-- where no relabelling is needed there is a label between
pub has_space : (l : Ordered) (x : ℕ) → place_of l x ≢ Relabel → HasSpace l x
has_space l x ne =
    elim (tested (nat_lt (high_of l x - slice_index l.labels x) 2)) [
      | inl e ↦ absurd (ne (rw e refl))
      | inr e ↦ grind (arith, nat_tests)
    ]

-- the labels with the one in the middle between x and the next item
abbrev pub with_middle : Ordered → ℕ → List ℕ
with_middle l x = l.labels ++ middle_of (slice_index l.labels x) (high_of l x) ∷ []

-- where there is a label between, the new item gets the one in the middle
pub gets_middle : (l : Ordered) (x : ℕ) (labels : List ℕ) → HasSpace l x → LabelsAfter l x labels → labels ≡ with_middle l x
gets_middle l x labels space a =
    elim (tested (nat_lt (high_of l x - slice_index l.labels x) 2)) [
      | inl e ↦ absurd (let lt : high_of l x - slice_index l.labels x < 2 = grind (arith, nat_tests) in omega (arith, space, lt))
      | inr e ↦ rw e at a
    ]

middle_after : (l : Ordered) (x : ℕ) → place_of l x ≢ Relabel → LabelsAfter l x (with_middle l x)
middle_after l x ne =
    elim (tested (nat_lt (high_of l x - slice_index l.labels x) 2)) [
      | inl e ↦ absurd (ne (rw e refl))
      | inr e ↦ rw e refl
    ]

-- the labels after a relabelling and an insert with the middle label are those after the insert
pub labels_after : (old mid : Ordered) (x : ℕ) (w : Option Window) → HasMadeSpace old x w mid → LabelsAfter old x (with_middle mid x)
labels_after old mid x w m = by_window w m.labels_are
  where
    high_is : (labels : List ℕ) → high_by labels (next_of x mid.order) ≡ high_by labels (next_of x old.order)
    high_is labels = ap (λ order. high_by labels (next_of x order)) m.order_is

    by_window : (w : Option Window) → SpacedBy old x mid.labels w → LabelsAfter old x (with_middle mid x)
    by_window None s =
        subst (LabelsAfter old x) (sym (ap (λ h. mid.labels ++ middle_of (slice_index mid.labels x) h ∷ []) (high_is mid.labels)
        ∙ ap (λ ls. ls ++ middle_of (slice_index ls x) (high_by ls (next_of x old.order)) ∷ []) s.1)) (middle_after old x s.0)
    by_window (Some w) s =
        subst (LabelsBy old x (with_middle mid x)) (sym s.0)
        (w, mid.labels, s.1, ap (λ h. mid.labels ++ middle_of (slice_index mid.labels x) h ∷ []) (high_is mid.labels))

-- an insert where there is a label between, after a relabelling, is an insert into the list from before it
pub inserted_after : (old mid new : Ordered) (x item : ℕ) (w : Option Window) → HasMadeSpace old x w mid → HasInserted mid x item new
    → HasInserted old x item new
inserted_after old mid new x item w m i = record {
  number = i.number ∙ ap (λ order. length order) m.order_is;
  order_is = i.order_is ∙ ap (λ order. put_after x (item ∷ []) order) m.order_is;
  labels_are = subst (LabelsAfter old x) (sym (gets_middle mid x new.labels m.space i.labels_are)) (labels_after old mid x w m);
  room_is = i.room_is ∙ m.room_is;
}
