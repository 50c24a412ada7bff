-- Strands that stand for others, and greatest strands of lists of different futures.
use Rattle.std.proofs.Common.{◌≡◌, ◌≢◌, ℕ, ◌+◌, ◌<◌, ◌≤◌, Bool, true, false, true≢false, List, ◌++◌}
use Rattle.std.proofs.Common.{length, get_or, take, ◌⊎◌, inl, inr, refl, subst, sym, ap, arith, ◌∙◌}
use Rattle.std.specs.Prelude.{◌↔◌, nat_lt, if◌then◌else◌, Option, Some, None}
use Rattle.std.proofs.lemmas.Bool.{lt-ltb, ltb-true}
use Rattle.std.proofs.lemmas.List.{append_assoc}
use Rattle.order_list.specs.Sides.{Lists}
use Rattle.fut_base.specs.Dag.{Among}
use Rattle.strand_laws.proofs.Places.{among_or, among_left, among_right}
use Rattle.strand_laws.proofs.Worlds.{lt_or_le}
use Rattle.strand_tree.specs.declared.strand.Strand.{Strand}
use Rattle.reach_table.specs.Telling.{HasOneOfEach}
use Rattle.reach_table.specs.Merging.{precedes_in, listed, together, IsGreatest}
use Rattle.reach_table.specs.Joining.{IsEarlier, HoldsAll, IsLeast, lesser_of}
use Rattle.reach_table.proofs.Members.{in_more}
use Rattle.reach_table.proofs.Putting.{greatest_same}

-- one more strand for which one of these stands
pub holds_more : (lists : Lists) (ws xs : List Strand) (j : ℕ) (d w : Strand) → j < length xs → HoldsAll lists ws (take j xs) → Among w ws
    → (get_or xs j d ≡ w) ⊎ IsEarlier lists (get_or xs j d) w → HoldsAll lists ws (take (j + 1) xs)
holds_more lists ws xs j d w lt held here new x a = elim (in_more xs j d lt x a) [
  | inl l ↦ held x l
  | inr e ↦ (let P : Strand → Type 0 = λ z. (z ≡ w) ⊎ IsEarlier lists z w in (w, here, subst P e new))
]

pub holds_both : (lists : Lists) (ws xs ys : List Strand) → HoldsAll lists ws xs → HoldsAll lists ws ys → HoldsAll lists ws (xs ++ ys)
holds_both lists ws xs ys f g x a = elim (among_or x xs ys a) [ inl l ↦ f x l | inr r ↦ g x r ]

-- strands that are alone of their futures, and stand for all others, are the greatest
module _ (lists : Lists) (own : ℕ) (ws xs : List Strand) (one : HasOneOfEach ws) (off : (w : Strand) → Among w ws → w.future ≢ own)
    (held : HoldsAll lists ws xs) where
  greatest_held : (w : Strand) → Among w ws → (x : Strand) → Among x (ws ++ xs) → x.future ≡ w.future → x.number ≢ w.number
      → precedes_in lists w.number x.number ≡ false
  greatest_held w a x b e ne = elim (among_or x ws xs b) [
    | inl l ↦ absurd (ne (ap (λ (z : Strand). z.number) (one x w l a e)))
    | inr r ↦ (
        let k = held x r in
        elim k.2 [
          | inl same ↦ (
              let P : Strand → Type 0 = λ z. Among z ws in
              absurd (ne (ap (λ (z : Strand). z.number) (one x w (subst P (sym same) k.1) a e))))
          | inr early ↦ (
              let same : k.0 ≡ w = one k.0 w k.1 a (sym early.future ∙ e) in
              let P : Strand → Type 0 = λ z. precedes_in lists z.number x.number ≡ false in
              subst P same early.not_after)
        ])
  ]

  pub held_greatest : (w : Strand) → Among w ws ↔ IsGreatest lists own (ws ++ xs) w
  held_greatest w = (
    λ a. record { among = among_left w ws xs a; foreign = off w a; greatest = greatest_held w a },
    λ g. elim (among_or w ws xs g.among) [
      | inl l ↦ l
      | inr r ↦ (
          let k = held w r in
          elim k.2 [
            | inl same ↦ (let P : Strand → Type 0 = λ z. Among z ws in subst P (sym same) k.1)
            | inr early ↦ absurd (true≢false (sym early.before ∙ g.greatest k.0 (among_left k.0 ws xs k.1) (sym early.future) (λ q. early.other (sym q))))
          ])
    ],
  )

-- the same with one more strand apart
pub held_together : (lists : Lists) (own : ℕ) (ws other : List Strand) (last : Option Strand) → HasOneOfEach ws → ((w : Strand) → Among w ws → w.future ≢ own)
    → HoldsAll lists ws other → HoldsAll lists ws (listed last) → (w : Strand) → Among w ws ↔ IsGreatest lists own (together ws other last) w
held_together lists own ws other last one off f g w =
    let P : List Strand → Type 0 = λ l. Among w ws ↔ IsGreatest lists own l w in
    subst P (sym (append_assoc ws other (listed last)))
    (held_greatest lists own ws (other ++ listed last) one off (holds_both lists ws other (listed last) f g) w)

-- two tables the other way round
turned_in : (one other : List Strand) (last : Option Strand) (w : Strand) → Among w (together one other last) → Among w (together other one last)
turned_in one other last w a = elim (among_or w (one ++ other) (listed last) a) [
  | inr r ↦ among_right w (other ++ one) (listed last) r
  | inl l ↦ among_left w (other ++ one) (listed last) (elim (among_or w one other l) [ inl k ↦ among_right w other one k | inr k ↦ among_left w other one k ])
]

pub greatest_turned : (lists : Lists) (own : ℕ) (one other : List Strand) (last : Option Strand) (ws : List Strand)
    → ((w : Strand) → Among w ws ↔ IsGreatest lists own (together other one last) w) → (w : Strand) → Among w ws
    ↔ IsGreatest lists own (together one other last) w
greatest_turned lists own one other last ws iff w = (
  λ a. greatest_same lists own (together other one last) (together one other last) (λ x. (turned_in other one last x, turned_in one other last x)) w
      ((iff w).0 a),
  λ g. (iff w).1
      (greatest_same lists own (together one other last) (together other one last) (λ x. (turned_in one other last x, turned_in other one last x)) w g),
)

-- of lists of different futures each has its own greatest strands
module _ (lists : Lists) (own : ℕ) (ps qs : List Strand) (apart : (x y : Strand) → Among x ps → Among y qs → x.future ≢ y.future) where
  pub greatest_apart : (w : Strand) → IsGreatest lists own (ps ++ qs) w ↔ (IsGreatest lists own ps w ⊎ IsGreatest lists own qs w)
  greatest_apart w = (
    λ g. elim (among_or w ps qs g.among) [
      | inl l ↦ inl (record { among = l; foreign = g.foreign; greatest = λ x a e n. g.greatest x (among_left x ps qs a) e n })
      | inr r ↦ inr (record { among = r; foreign = g.foreign; greatest = λ x a e n. g.greatest x (among_right x ps qs a) e n })
    ],
    λ s. elim s [
      | inl g ↦ record {
        among = among_left w ps qs g.among;
        foreign = g.foreign;
        greatest = λ x a e n. elim (among_or x ps qs a) [ inl l ↦ g.greatest x l e n | inr r ↦ absurd (apart w x g.among r (sym e)) ];
      }
      | inr g ↦ record {
        among = among_right w ps qs g.among;
        foreign = g.foreign;
        greatest = λ x a e n. elim (among_or x ps qs a) [ inl l ↦ absurd (apart x w l g.among e) | inr r ↦ g.greatest x r e n ];
      }
    ],
  )

-- the lesser of two least numbers is the least of all
lesser_by : (P Q : ℕ → Type 0) (x y : ℕ) (b : Bool) → (b ≡ true → x ≤ y) → (b ≡ false → y ≤ x) → IsLeast P (Some x) → IsLeast Q (Some y)
    → IsLeast (λ k. P k ⊎ Q k) (if b then Some x else Some y)
lesser_by P Q x y true le ge h k = (inl h.0, λ m s. elim s [ inl p ↦ h.1 m p | inr q ↦ (let j = k.1 m q in let l = le refl in omega (arith, j, l)) ])
lesser_by P Q x y false le ge h k = (inr k.0, λ m s. elim s [ inl p ↦ (let j = h.1 m p in let l = ge refl in omega (arith, j, l)) | inr q ↦ k.1 m q ])

pub least_either : (P Q : ℕ → Type 0) (a b : Option ℕ) → IsLeast P a → IsLeast Q b → IsLeast (λ k. P k ⊎ Q k) (lesser_of a b)
least_either P Q None None h k = λ m s. elim s [ inl p ↦ h m p | inr q ↦ k m q ]
least_either P Q None (Some y) h k = (inr k.0, λ m s. elim s [ inl p ↦ absurd (h m p) | inr q ↦ k.1 m q ])
least_either P Q (Some x) None h k = (inl h.0, λ m s. elim s [ inl p ↦ h.1 m p | inr q ↦ absurd (k m q) ])
least_either P Q (Some x) (Some y) h k =
    lesser_by P Q x y (nat_lt x y) (λ e. (let l = ltb-true x y e in omega (arith, l)))
    (λ e. elim (lt_or_le x y) [ inl l ↦ absurd (true≢false (sym (lt-ltb x y l) ∙ e)) | inr g ↦ g ]) h k
