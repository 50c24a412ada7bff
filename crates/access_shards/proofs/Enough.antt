-- What is kept of the accesses of a cell is enough to find its next race, whatever the kinds of access are.
use Rattle.std.proofs.Common.{◌≡◌, ℕ, ◌+◌, ◌<◌, ◌≤◌, zero, suc, Bool, true, false, List, [], ◌∷◌, ◌++◌, ◌⊎◌, inl, inr, subst, ap, sym, refl, ◌∙◌, true≢false}
use Rattle.std.proofs.Common.{arith}
use Rattle.std.proofs.lemmas.Bool.{cases_lt, cases_eq}
use Rattle.fut_base.specs.Dag.{Among, IsPath, ReachesBy, AreJoinedBy}
use Rattle.access_shards.specs.Touches.{Touch, Kinds, WritesConflict, IsRising, IsLate, HasNoRace, HasNoWrite, IsLastWrite, MustBeKept}

path_on : (es : List (ℕ × ℕ)) (one two : List (ℕ × ℕ)) (u v w : ℕ) → IsPath es one u v → IsPath es two v w → IsPath es (one ++ two) u w
path_on es [] two u v w h k = subst (λ x. IsPath es two x w) (sym h) k
path_on es (e ∷ one) two u v w h k = (h.0, h.1, path_on es one two e.1 v w h.2 k)

-- one path after another
pub reach_on : (es : List (ℕ × ℕ)) (u v w : ℕ) → ReachesBy es u v → ReachesBy es v w → ReachesBy es u w
reach_on es u v w r q = (r.0 ++ q.0, path_on es r.0 q.0 u v w r.1 q.1)

-- accesses of one place are one
pub one_at : {K : Type 0} → (past : List (Touch K)) → IsRising past → (a b : Touch K) → Among a past → Among b past → a.place ≡ b.place → a ≡ b
one_at [] rising a b ha hb same = absurd ha
one_at (x ∷ past) rising a b (inl ea) (inl eb) same = sym ea ∙ eb
one_at (x ∷ past) rising a b (inl ea) (inr hb) same = let lt = rising.0 b hb in let e = ap (λ t. t.place) ea in absurd (omega (arith, lt, e, same))
one_at (x ∷ past) rising a b (inr ha) (inl eb) same = let lt = rising.0 a ha in let e = ap (λ t. t.place) eb in absurd (omega (arith, lt, e, same))
one_at (x ∷ past) rising a b (inr ha) (inr hb) same = one_at past rising.1 a b ha hb same

module _ (K : Type 0) (kinds : Kinds K) where
  -- there is a last write, or none at all
  pub last_write : (past : List (Touch K)) → IsRising past → ((w : Touch K) × IsLastWrite K kinds past w) ⊎ HasNoWrite K kinds past
  last_write [] rising = inr (λ t h. absurd h)
  last_write (x ∷ past) rising = go (kinds.writes x.kind) refl (last_write past rising.1)
    where
      go : (b : Bool) → kinds.writes x.kind ≡ b → ((w : Touch K) × IsLastWrite K kinds past w) ⊎ HasNoWrite K kinds past
          → ((w : Touch K) × IsLastWrite K kinds (x ∷ past) w) ⊎ HasNoWrite K kinds (x ∷ past)
      go true is rest =
          inl (
            x,
            record {
              there = inl refl;
              write = is;
              last = λ t h _. elim h [
                | inl e ↦ (let q = ap (λ (i : Touch K). i.place) e in omega (arith, q))
                | inr k ↦ (let lt = rising.0 t k in omega (arith, lt))
              ];
            },
          )
      go false is (inl found) =
          inl (
            found.0,
            record {
              there = inr found.1.there;
              write = found.1.write;
              last = λ t h w. elim h [
                | inl e ↦ absurd (true≢false (sym w ∙ ap (λ (i : Touch K). kinds.writes i.kind) (sym e) ∙ is))
                | inr k ↦ found.1.last t k w
              ];
            },
          )
      go false is (inr none) = inr (λ t h. elim h [ inl e ↦ ap (λ (i : Touch K). kinds.writes i.kind) (sym e) ∙ is | inr k ↦ none t k ])

-- a further access x after those of a cell
module _ (K : Type 0) (kinds : Kinds K) (es : List (ℕ × ℕ)) (past : List (Touch K)) (x : Touch K) where
  -- an access from which x is not reached, and which conflicts with it
  abbrev pub Meets : Touch K → Type 0
  Meets t = (kinds.conflict t.kind x.kind ≡ true) × (ReachesBy es t.strand x.strand → ⊥)

  module _ (strong : WritesConflict K kinds) (rising : IsRising (x ∷ past)) (late : IsLate es (x ∷ past)) where
    -- where two accesses are joined, the later one is reached from the earlier one
    pub reached : (a b : Touch K) → Among a (x ∷ past) → Among b (x ∷ past) → a.place < b.place → AreJoinedBy es a.strand b.strand
        → ReachesBy es a.strand b.strand
    reached a b ha hb lt (inl r) = r
    reached a b ha hb lt (inr r) = ([], late a b ha hb lt r)

    -- a race with x is one of a kept access at the same place or later: here for accesses after all writes
    latest_enough : (n : ℕ) (g : Touch K) → x.place ≤ g.place + n → Among g past
        → ((w : Touch K) → Among w past → kinds.writes w.kind ≡ true → w.place < g.place) → Meets g
        → ((c : Touch K) → MustBeKept K kinds es past c → g.place ≤ c.place → Meets c → ⊥) → ⊥
    latest_enough zero g le there after meets none = let lt = rising.0 g there in omega (arith, lt, le)
    latest_enough (suc n) g le there after meets none =
        none g
        (inr (record {
          there = there;
          kind_is = refl;
          after = after;
          latest = λ u hu ku lt joined.
              latest_enough n u (omega (arith, le, lt)) hu (λ w hw write. let k = after w hw write in omega (arith, k, lt)) (
                ap (λ k. kinds.conflict k x.kind) ku ∙ meets.0,
                λ r. meets.1
                    (reach_on es g.strand u.strand x.strand (reached g u (inr there) (inr hu) lt joined) r),
              )
              (λ c kept above. none c kept (omega (arith, lt, above)));
        }))
        (omega arith) meets

    -- while there was no race, a race with x is one of a kept access at the same place or later
    pub enough : HasNoRace K kinds es past → (g : Touch K) → Among g past → Meets g
        → ((c : Touch K) → MustBeKept K kinds es past c → g.place ≤ c.place → Meets c → ⊥) → ⊥
    enough calm g there meets none = elim (last_write K kinds past rising.1) [
      | inr free ↦ latest_enough x.place g (omega arith) there (λ w hw write. absurd (true≢false (sym write ∙ free w hw))) meets none
      | inl found ↦ at_write found.0 found.1
    ]
      where
        at_write : (w : Touch K) → IsLastWrite K kinds past w → ⊥
        at_write w last = elim (cases_lt g.place w.place) [
          | inl lt ↦ calm g w (record {
            one = there;
            other = last.there;
            order = lt;
            conflict = strong.after w.kind g.kind last.write;
            apart = λ joined.
                none w (inl last) (omega (arith, lt)) (
                  strong.before w.kind x.kind last.write,
                  λ r. meets.1
                      (reach_on es g.strand w.strand x.strand (reached g w (inr there) (inr last.there) lt joined) r),
                );
          })
          | inr ge ↦ elim (cases_eq g.place w.place) [
            | inl same ↦ (let e = one_at past rising.1 w g last.there there (sym same) in
                none g (inl (subst (λ t. IsLastWrite K kinds past t) e last)) (omega arith) meets)
            | inr other ↦ latest_enough x.place g (omega arith) there (λ v hv write. let k = last.last v hv write in omega (arith, k, ge, other)) meets none
          ]
        ]
