-- What lists that are put together have.
use Rattle.std.proofs.Common.{◌≡◌, ℕ, ◌<◌, List, [], ◌∷◌, ◌++◌, inl, inr, subst, sym, refl}
use Rattle.std.specs.Prelude.{◌↔◌, ◌⊎◌, Option, Some, None}
use Rattle.order_list.specs.Sides.{Lists}
use Rattle.fut_base.specs.Dag.{Among}
use Rattle.strand_laws.proofs.Places.{among_or, among_left, among_right}
use Rattle.strand_tree.specs.declared.strand.Strand.{Strand}
use Rattle.reach_table.specs.Merging.{together, IsGreatest}

pub put : (ones one other all : List Strand) → ones ≡ one → ((w : Strand) → Among w all ↔ (Among w ones ⊎ Among w other)) → (w : Strand) → Among w all
    ↔ Among w (one ++ other)
put ones one other all is iff w = (
  λ a. elim ((iff w).0 a) [ inl l ↦ among_left w one other (subst (λ x. Among w x) is l) | inr r ↦ among_right w one other r ],
  λ a. (iff w).1 (elim (among_or w one other a) [ inl l ↦ inl (subst (λ x. Among w x) (sym is) l) | inr r ↦ inr r ]),
)

-- a strand is added
pub with_last : (one other both both' all : List Strand) (last : Option Strand) (v : Strand) → last ≡ Some v
    → ((w : Strand) → Among w both ↔ (Among w one ⊎ Among w other)) → both' ≡ both → ((w : Strand) → Among w all ↔ (Among w both' ⊎ Among w (v ∷ [])))
    → (w : Strand) → Among w all ↔ Among w (together one other last)
with_last one other both both' all last v is iff same more w =
    let first : (x : Strand) → Among x both ↔ Among x (one ++ other) = put one one other both refl iff in
    let second : (x : Strand) → Among x all ↔ Among x (both ++ v ∷ []) = put both' both (v ∷ []) all same more in
    let P : Option Strand → Type 0 = λ o. Among w all ↔ Among w (together one other o) in
    let k : P (Some v) = (
      λ a. elim (among_or w both (v ∷ []) ((second w).0 a)) [
        | inl l ↦ among_left w (one ++ other) (v ∷ []) ((first w).0 l)
        | inr r ↦
            among_right w (one ++ other) (v ∷ []) r
      ],
      λ a. (second w).1
          (elim (among_or w (one ++ other) (v ∷ []) a) [ inl l ↦ among_left w both (v ∷ []) ((first w).1 l) | inr r ↦ among_right w both (v ∷ []) r ]),
    ) in
    subst P (sym is) k

pub with_none : (one other both : List Strand) (last : Option Strand) → last ≡ None → ((w : Strand) → Among w both ↔ (Among w one ⊎ Among w other))
    → (w : Strand) → Among w both ↔ Among w (together one other last)
with_none one other both last is iff w =
    let first : (x : Strand) → Among x both ↔ Among x (one ++ other) = put one one other both refl iff in
    let P : Option Strand → Type 0 = λ o. Among w both ↔ Among w (together one other o) in
    let k : P None = (
      λ a. among_left w (one ++ other) [] ((first w).0 a),
      λ a. (first w).1 (elim (among_or w (one ++ other) [] a) [ inl l ↦ l | inr r ↦ absurd r ]),
    ) in
    subst P (sym is) k

pub greatest_same : (lists : Lists) (own : ℕ) (xs ys : List Strand) → ((w : Strand) → Among w xs ↔ Among w ys) → (w : Strand) → IsGreatest lists own xs w
    → IsGreatest lists own ys w
greatest_same lists own xs ys iff w g = record { among = (iff w).0 g.among; foreign = g.foreign; greatest = λ x a e n. g.greatest x ((iff x).1 a) e n }

-- the greatest of all strands of two tables
pub greatest_of : (lists : Lists) (own : ℕ) (last : Option Strand) (one one' other other' all all' left table : List Strand) → one' ≡ one → other' ≡ other
    → ((w : Strand) → Among w all ↔ Among w (together one' other' last)) → all' ≡ all → ((w : Strand) → Among w left ↔ IsGreatest lists own all' w)
    → table ≡ left → (w : Strand) → Among w table ↔ IsGreatest lists own (together one other last) w
greatest_of lists own last one one' other other' all all' left table is_one is_other iff is_all kept is w =
    let P : List Strand → Type 0 = λ l. (x : Strand) → Among x all ↔ Among x (together l other' last) in
    let Q : List Strand → Type 0 = λ l. (x : Strand) → Among x all ↔ Among x (together one l last) in
    let R : List Strand → Type 0 = λ l. (x : Strand) → Among x l ↔ Among x (together one other last) in
    let whole : (x : Strand) → Among x all' ↔ Among x (together one other last) = subst R (sym is_all) (subst Q is_other (subst P is_one iff)) in
    let back : (x : Strand) → Among x (together one other last) ↔ Among x all' = (λ x. ((whole x).1, (whole x).0)) in
    let T : List Strand → Type 0 = λ l. Among w l ↔ IsGreatest lists own (together one other last) w in
    subst T (sym is) (
      λ a. greatest_same lists own all' (together one other last) whole w ((kept w).0 a),
      λ g. (kept w).1 (greatest_same lists own (together one other last) all' back w g),
    )

-- the lists have all strands
pub all_in : (last : Option Strand) (one one' other other' all all' : List Strand) → one' ≡ one → other' ≡ other
    → ((w : Strand) → Among w all ↔ Among w (together one' other' last)) → all' ≡ all → (w : Strand) → Among w all' → Among w (together one other last)
all_in last one one' other other' all all' is_one is_other iff is_all w a =
    let P : List Strand → Type 0 = λ l. Among w (together l other' last) in
    let Q : List Strand → Type 0 = λ l. Among w (together one l last) in
    subst Q is_other (subst P is_one ((iff w).0 (subst (λ l. Among w l) is_all a)))

-- all strands that are put together are known
pub all_together : (known : ℕ) (one other : List Strand) (v : Strand) → ((w : Strand) → Among w one → w.number < known)
    → ((w : Strand) → Among w other → w.number < known) → v.number < known → (w : Strand) → Among w (together one other (Some v)) → w.number < known
all_together known one other v first second here w a =
    let P : Strand → Type 0 = λ z. z.number < known in
    elim (among_or w (one ++ other) (v ∷ []) a) [
      | inl l ↦ elim (among_or w one other l) [ inl k ↦ first w k | inr k ↦ second w k ]
      | inr (inl e) ↦ subst P e here
      | inr (inr k) ↦ absurd k
    ]
