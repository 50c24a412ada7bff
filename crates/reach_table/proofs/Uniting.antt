-- Two rising lists, put together one item after the other.
use Rattle.std.proofs.Common.{◌≡◌, ◌≢◌, ℕ, ◌+◌, ◌<◌, List, [], ◌∷◌, ◌++◌, length, drop, get_or, ◌⊎◌, inl, inr, subst, sym}
use Rattle.std.specs.Prelude.{◌↔◌}
use Rattle.std.proofs.lemmas.List.{append_assoc, append-nil, drop_more}
use Rattle.fut_base.specs.Dag.{Among}
use Rattle.strand_laws.proofs.Places.{among_or, among_left, among_right}
use Rattle.strand_tree.specs.declared.strand.Strand.{Strand}
use Rattle.reach_table.specs.Sorted.{IsBelow, IsRising}
use Rattle.reach_table.proofs.Rising.{below_trans, below_or, rising_left, rising_in}

-- what has been taken of both lists, and what is left of each
pub record Unites (one other all ra rb : List Strand) : Type 0 where
  pub left : IsRising (all ++ ra)
  pub right : IsRising (all ++ rb)
  pub all_of : (w : Strand) → Among w all → Among w one ⊎ Among w other
  pub one_of : (w : Strand) → Among w ra → Among w one
  pub other_of : (w : Strand) → Among w rb → Among w other
  pub one_in : (w : Strand) → Among w one → Among w all ⊎ Among w ra
  pub other_in : (w : Strand) → Among w other → Among w all ⊎ Among w rb

pub begins : (one other : List Strand) → IsRising one → IsRising other → Unites one other [] one other
begins one other r k =
    record { left = r; right = k; all_of = λ w a. absurd a; one_of = λ w a. a; other_of = λ w a. a; one_in = λ w a. inr a; other_in = λ w a. inr a }

turned : (all : List Strand) (x : Strand) (rest : List Strand) → IsRising (all ++ x ∷ rest) → IsRising ((all ++ x ∷ []) ++ rest)
turned all x rest r = subst IsRising (sym (append_assoc all (x ∷ []) rest)) r

first_of : (all : List Strand) (x : Strand) (rest : List Strand) → IsRising (all ++ x ∷ rest) → IsRising (all ++ x ∷ [])
first_of all x rest r = rising_left (all ++ x ∷ []) rest (turned all x rest r)

-- x is below the first of the rest, and so below all of it
under : (x y : Strand) (rest : List Strand) → IsBelow x y → IsRising (y ∷ rest) → (w : Strand) → Among w (y ∷ rest) → IsBelow x w
under x y rest b r w (inl e) = subst (λ z. IsBelow x z) e b
under x y rest b r w (inr a) = below_trans x y w b (r.0 w a)

tail_of : (all ys : List Strand) → IsRising (all ++ ys) → IsRising ys
tail_of [] ys r = r
tail_of (z ∷ zs) ys r = tail_of zs ys r.1

pub take_one : (one other all : List Strand) (x y : Strand) (ra rb : List Strand) → IsBelow x y → Unites one other all (x ∷ ra) (y ∷ rb)
    → Unites one other (all ++ x ∷ []) ra (y ∷ rb)
take_one one other all x y ra rb b u =
    record {
      left = turned all x ra u.left;
      right = turned all x (y ∷ rb) (rising_in all x (y ∷ rb) u.right (first_of all x ra u.left) (under x y rb b (tail_of all (y ∷ rb) u.right)));
      all_of = λ w a. elim (among_or w all (x ∷ []) a) [ inl l ↦ u.all_of w l | inr (inl e) ↦ inl (u.one_of w (inl e)) | inr (inr k) ↦ absurd k ];
      one_of = λ w a. u.one_of w (inr a);
      other_of = u.other_of;
      one_in =
          λ w a. elim (u.one_in w a) [
            | inl l ↦ inl (among_left w all (x ∷ []) l)
            | inr (inl e) ↦ inl (among_right w all (x ∷ []) (inl e))
            | inr (inr k) ↦
                inr k
          ];
      other_in = λ w a. elim (u.other_in w a) [ inl l ↦ inl (among_left w all (x ∷ []) l) | inr k ↦ inr k ];
    }

pub swapped : (one other all ra rb : List Strand) → Unites one other all ra rb → Unites other one all rb ra
swapped one other all ra rb u =
    record {
      left = u.right;
      right = u.left;
      all_of = λ w a. elim (u.all_of w a) [ inl l ↦ inr l | inr r ↦ inl r ];
      one_of = u.other_of;
      other_of = u.one_of;
      one_in = u.other_in;
      other_in = u.one_in;
    }

pub take_other : (one other all : List Strand) (x y : Strand) (ra rb : List Strand) → IsBelow y x → Unites one other all (x ∷ ra) (y ∷ rb)
    → Unites one other (all ++ y ∷ []) (x ∷ ra) rb
take_other one other all x y ra rb b u =
    swapped other one (all ++ y ∷ []) rb (x ∷ ra) (take_one other one all y x rb ra b (swapped one other all (x ∷ ra) (y ∷ rb) u))

pub take_both : (one other all : List Strand) (x y : Strand) (ra rb : List Strand) → x ≡ y → Unites one other all (x ∷ ra) (y ∷ rb)
    → Unites one other (all ++ x ∷ []) ra rb
take_both one other all x y ra rb same u =
    let P : Strand → Type 0 = λ z. IsRising (all ++ z ∷ rb) in
    record {
      left = turned all x ra u.left;
      right = turned all x rb (subst P (sym same) u.right);
      all_of = λ w a. elim (among_or w all (x ∷ []) a) [ inl l ↦ u.all_of w l | inr (inl e) ↦ inl (u.one_of w (inl e)) | inr (inr k) ↦ absurd k ];
      one_of = λ w a. u.one_of w (inr a);
      other_of = λ w a. u.other_of w (inr a);
      one_in =
          λ w a. elim (u.one_in w a) [
            | inl l ↦ inl (among_left w all (x ∷ []) l)
            | inr (inl e) ↦ inl (among_right w all (x ∷ []) (inl e))
            | inr (inr k) ↦
                inr k
          ];
      other_in =
          λ w a. elim (u.other_in w a) [
            | inl l ↦ inl (among_left w all (x ∷ []) l)
            | inr (inl e) ↦
                inl (among_right w all (x ∷ []) (inl (same_is same e)))
            | inr (inr k) ↦ inr k
          ];
    }
  where
    same_is : {w : Strand} → x ≡ y → y ≡ w → x ≡ w
    same_is p q = cc (p, q)

-- one of the lists is at its end
abbrev pub IsOut : List Strand → List Strand → Type 0
IsOut ra rb = (ra ≡ []) ⊎ (rb ≡ [])

pub ends_rising : (one other all ra rb : List Strand) → Unites one other all ra rb → IsOut ra rb → IsRising ((all ++ ra) ++ rb)
ends_rising one other all ra rb u (inl e) =
    let P : List Strand → Type 0 = λ l. IsRising ((all ++ l) ++ rb) in
    let Q : List Strand → Type 0 = λ l. IsRising (l ++ rb) in
    subst P (sym e) (subst Q (sym (append-nil all)) u.right)
ends_rising one other all ra rb u (inr e) =
    let P : List Strand → Type 0 = λ l. IsRising ((all ++ ra) ++ l) in
    subst P (sym e) (subst IsRising (sym (append-nil (all ++ ra))) u.left)

pub ends_members : (one other all ra rb : List Strand) → Unites one other all ra rb → (w : Strand) → Among w ((all ++ ra) ++ rb) ↔ (Among w one ⊎ Among w other)
ends_members one other all ra rb u w = (
  λ a. elim (among_or w (all ++ ra) rb a) [
    | inl l ↦ elim (among_or w all ra l) [ inl k ↦ u.all_of w k | inr k ↦ inl (u.one_of w k) ]
    | inr r ↦ inr (u.other_of w r)
  ],
  λ s. elim s [
    | inl a ↦ elim (u.one_in w a) [ inl l ↦ among_left w (all ++ ra) rb (among_left w all ra l) | inr r ↦ among_left w (all ++ ra) rb (among_right w all ra r) ]
    | inr a ↦ elim (u.other_in w a) [ inl l ↦ among_left w (all ++ ra) rb (among_left w all ra l) | inr r ↦ among_right w (all ++ ra) rb r ]
  ],
)

-- the heads of what is left
heads : (one other all : List Strand) (i j : ℕ) (d : Strand) → i < length one → j < length other → Unites one other all (drop i one) (drop j other)
    → Unites one other all (get_or one i d ∷ drop (i + 1) one) (get_or other j d ∷ drop (j + 1) other)
heads one other all i j d li lj u =
    let P : List Strand → Type 0 = λ l. Unites one other all l (drop j other) in
    let Q : List Strand → Type 0 = λ l. Unites one other all (get_or one i d ∷ drop (i + 1) one) l in
    subst Q (drop_more other j d lj) (subst P (drop_more one i d li) u)

module _ (one other all new : List Strand) (i j : ℕ) (d : Strand) (li : i < length one) (lj : j < length other)
    (u : Unites one other all (drop i one) (drop j other)) where
  pub step_other : (IsBelow (get_or one i d) (get_or other j d) → ⊥) → get_or one i d ≢ get_or other j d → new ≡ all ++ get_or other j d ∷ []
      → Unites one other new (drop i one) (drop (j + 1) other)
  step_other off ne is =
      let k = take_other one other all (get_or one i d) (get_or other j d) _ _ (below_or _ _ off (λ e. ne (sym e))) (heads one other all i j d li lj u) in
      let P : List Strand → Type 0 = λ l. Unites one other (all ++ get_or other j d ∷ []) l (drop (j + 1) other) in
      let Q : List Strand → Type 0 = λ l. Unites one other l (drop i one) (drop (j + 1) other) in
      subst Q (sym is) (subst P (sym (drop_more one i d li)) k)

  pub step_one : IsBelow (get_or one i d) (get_or other j d) → new ≡ all ++ get_or one i d ∷ [] → Unites one other new (drop (i + 1) one) (drop j other)
  step_one b is =
      let k = take_one one other all (get_or one i d) (get_or other j d) _ _ b (heads one other all i j d li lj u) in
      let P : List Strand → Type 0 = λ l. Unites one other (all ++ get_or one i d ∷ []) (drop (i + 1) one) l in
      let Q : List Strand → Type 0 = λ l. Unites one other l (drop (i + 1) one) (drop j other) in
      subst Q (sym is) (subst P (sym (drop_more other j d lj)) k)

  pub step_both : get_or one i d ≡ get_or other j d → new ≡ all ++ get_or one i d ∷ [] → Unites one other new (drop (i + 1) one) (drop (j + 1) other)
  step_both same is =
      let Q : List Strand → Type 0 = λ l. Unites one other l (drop (i + 1) one) (drop (j + 1) other) in
      subst Q (sym is) (take_both one other all (get_or one i d) (get_or other j d) _ _ same (heads one other all i j d li lj u))
