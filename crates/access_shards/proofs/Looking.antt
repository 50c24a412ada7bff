-- What is found where one more kept access is looked at.
use Rattle.std.proofs.Common.{◌≡◌, ℕ, ◌<◌, List, [], ◌∷◌, ◌++◌, inl, inr, subst, ap, sym, refl, arith, ◌∙◌, append_assoc, Bool, ◌+◌, take, drop, length, get_or}
use Rattle.std.proofs.lemmas.List.{take_more, take-append-drop}
use Rattle.std.specs.Prelude.{Option, Some, None}
use Rattle.fut_base.specs.declared.event.Event.{Event}
use Rattle.fut_base.specs.Dag.{Among, ReachesBy, edges_of}
use Rattle.strand_tree.specs.declared.strand.Strand.{Strand}
use Rattle.access_shards.specs.declared.kept.Access.{Access}
use Rattle.access_shards.specs.Finding.{IsApart, IsLastApart, AreOf, FindsLast, AreThoseApart, FindsApart, LooksOn, KeepsApart}
use Rattle.strand_laws.proofs.Places.{among_or, among_left, among_right}
use Rattle.access_shards.proofs.Keeping.{in_order_more, in_order_last}

module _ (table : List Strand) (at : Strand) (known : ℕ) (english hebrew : List ℕ) where
  shorter : (s : List Event) (xs : List Access) (a : Access) → AreOf s (xs ++ a ∷ []) → AreOf s xs
  shorter s xs a of = record { order = (in_order_last xs a of.order).0; strands = λ b h. of.strands b (among_left b xs (a ∷ []) h) }

  -- the last one of a list and one more
  pub look_step : (xs : List Access) (a : Access) (found next : Option ℕ) → FindsLast table at known english hebrew xs found
      → LooksOn table at known english hebrew a found next → FindsLast table at known english hebrew (xs ++ a ∷ []) next
  look_step xs a found next finds looks s view of =
      let strand = of.strands a (among_right a xs (a ∷ []) (inl refl)) in
      let before = finds s view (shorter s xs a of) in
      let order = in_order_last xs a of.order in
      elim (looks s view strand) [
        | inl r ↦ subst (λ o. IsLastApart s at (xs ++ a ∷ []) o) (sym r.1) (stays s r.0 found before)
        | inr r ↦ subst (λ o. IsLastApart s at (xs ++ a ∷ []) o) (sym r.1) (
          a,
          among_right a xs (a ∷ []) (inl refl),
          refl,
          r.0,
          λ b h _. elim (among_or b xs (a ∷ []) h) [
            | inl l ↦ (let k = order.1 b l in omega (arith, k))
            | inr (inl e) ↦ (let k = ap (λ (z : Access). z.place) e in omega (arith, k))
            | inr (inr n) ↦ absurd n
          ],
        )
      ]
    where
      stays : (s : List Event) → ReachesBy (edges_of s) a.strand.number at.number → (o : Option ℕ) → IsLastApart s at xs o → IsLastApart s at (xs ++ a ∷ []) o
      stays s r None all = λ b h. elim (among_or b xs (a ∷ []) h) [
        | inl l ↦ all b l
        | inr (inl e) ↦ subst (λ (z : Access). ReachesBy (edges_of s) z.strand.number at.number) e r
        | inr (inr n) ↦ absurd n
      ]
      stays s r (Some place) f = (
        f.0,
        among_left f.0 xs (a ∷ []) f.1,
        f.2,
        f.3,
        λ b h apart. elim (among_or b xs (a ∷ []) h) [
          | inl l ↦ f.4 b l apart
          | inr (inl e) ↦ absurd (apart (subst (λ (z : Access). ReachesBy (edges_of s) z.strand.number at.number) e r))
          | inr (inr n) ↦ absurd n
        ],
      )

  -- those of a list and one more from which the strand is not reached
  pub keep_step : (xs : List Access) (a : Access) (old new : List Access) → FindsApart table at known english hebrew xs old
      → KeepsApart table at known english hebrew a old new → FindsApart table at known english hebrew (xs ++ a ∷ []) new
  keep_step xs a old new finds keeps s view of =
      let strand = of.strands a (among_right a xs (a ∷ []) (inl refl)) in
      let before = finds s view (shorter s xs a of) in
      let order = in_order_last xs a of.order in
      elim (keeps s view strand) [
        | inl r ↦ subst (λ l. AreThoseApart s at (xs ++ a ∷ []) l) (sym r.1)
            (record {
              those = λ b. (
                (λ h. (let k = (before.those b).0 h in (among_left b xs (a ∷ []) k.0, k.1))),
                (λ k. (elim (among_or b xs (a ∷ []) k.0) [
                  | inl l ↦ (before.those b).1 (l, k.1)
                  | inr (inl e) ↦ absurd (k.1 (subst (λ (z : Access). ReachesBy (edges_of s) z.strand.number at.number) e r.0))
                  | inr (inr n) ↦ absurd n
                ])),
              );
              order = before.order;
            })
        | inr r ↦ subst (λ l. AreThoseApart s at (xs ++ a ∷ []) l) (sym r.1)
            (record {
              those = λ b. (
                (λ h. (elim (among_or b old (a ∷ []) h) [
                  | inl l ↦ (let k = (before.those b).0 l in (among_left b xs (a ∷ []) k.0, k.1))
                  | inr (inl e) ↦ (among_right b xs (a ∷ []) (inl e), subst (λ z. IsApart s at z) e r.0)
                  | inr (inr n) ↦ absurd n
                ])),
                (λ k. (elim (among_or b xs (a ∷ []) k.0) [
                  | inl l ↦ among_left b old (a ∷ []) ((before.those b).1 (l, k.1))
                  | inr l ↦ among_right b old (a ∷ []) l
                ])),
              );
              order = in_order_more old a before.order (λ b h. order.1 b ((before.those b).0 h).0);
            })
      ]

  pub looks_at : (known' : ℕ) (english' hebrew' : List ℕ) (a : Access) (found next : Option ℕ) → known' ≡ known → english' ≡ english → hebrew' ≡ hebrew
      → LooksOn table at known' english' hebrew' a found next → LooksOn table at known english hebrew a found next
  looks_at known' english' hebrew' a found next k e h l =
      subst (λ n. LooksOn table at n english hebrew a found next) k
      (subst (λ n. LooksOn table at known' n hebrew a found next) e
      (subst (λ n. LooksOn table at known' english' n a found next) h l))

  pub keeps_at : (known' : ℕ) (english' hebrew' : List ℕ) (a : Access) (old new : List Access) → known' ≡ known → english' ≡ english → hebrew' ≡ hebrew
      → KeepsApart table at known' english' hebrew' a old new → KeepsApart table at known english hebrew a old new
  keeps_at known' english' hebrew' a old new k e h l =
      subst (λ n. KeepsApart table at n english hebrew a old new) k
      (subst (λ n. KeepsApart table at known' n hebrew a old new) e
      (subst (λ n. KeepsApart table at known' english' n a old new) h l))

  pub none_apart : FindsApart table at known english hebrew [] []
  none_apart s view of = record { those = λ b. ((λ h. absurd h), λ k. k.0); order = tt }

-- stands where a list has no access
abbrev pub no_access : Access
no_access = record { place = 0; strand = record { number = 0; future = 0 } }
