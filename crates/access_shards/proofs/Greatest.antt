-- The greatest partner of a further access is one that must be kept.
use Rattle.std.proofs.Common.{◌≡◌, ℕ, ◌<◌, true, List, ◌∷◌, inl, inr, subst, ap, sym, refl, ◌∙◌, true≢false, arith}
use Rattle.std.proofs.lemmas.Bool.{cases_lt, cases_eq}
use Rattle.fut_base.specs.Dag.{Among, AreJoinedBy}
use Rattle.access_shards.specs.Touches.{Touch, Kinds, WritesConflict, IsRising, IsLate, HasNoRace, IsLastWrite, MustBeKept, IsGreatestPartner}
use Rattle.access_shards.specs.Laws.{KeptIsEnough}
use Rattle.access_shards.proofs.Enough.{reach_on, one_at, last_write, reached, enough}

module _ (K : Type 0) (kinds : Kinds K) (es : List (ℕ × ℕ)) (past : List (Touch K)) (x : Touch K) (strong : WritesConflict K kinds)
    (rising : IsRising (x ∷ past)) (late : IsLate es (x ∷ past)) (calm : HasNoRace K kinds es past) where
  -- a later access that conflicts with x, and that one is joined with which x is not joined with, is not joined with x
  apart_on : (g u : Touch K) → Among g past → Among u past → g.place < u.place → AreJoinedBy es g.strand u.strand → (AreJoinedBy es g.strand x.strand → ⊥)
      → AreJoinedBy es u.strand x.strand → ⊥
  apart_on g u hg hu lt j apart k =
      apart
      (inl (reach_on es g.strand u.strand x.strand (reached K kinds es past x strong rising late g u (inr hg) (inr hu) lt j)
      (reached K kinds es past x strong rising late u x (inr hu) (inl refl) (rising.0 u hu) k)))

  module _ (g : Touch K) (most : IsGreatestPartner K kinds es x (λ a. Among a past) g) where
    after_writes : ((w : Touch K) → Among w past → kinds.writes w.kind ≡ true → w.place < g.place) → MustBeKept K kinds es past g
    after_writes after =
        inr (record {
          there = most.there;
          kind_is = refl;
          after = after;
          latest = λ u hu ku lt joined. (
              let le = most.greatest u hu (record {
                conflict = ap (λ k. kinds.conflict k x.kind) ku ∙ most.partner.conflict;
                apart = apart_on g u most.there hu lt joined most.partner.apart;
              }) in
              omega (arith, le, lt));
        })

    at_write : (w : Touch K) → IsLastWrite K kinds past w → MustBeKept K kinds es past g
    at_write w last = elim (cases_lt g.place w.place) [
      | inl lt ↦ absurd (calm g w (record {
        one = most.there;
        other = last.there;
        order = lt;
        conflict = strong.after w.kind g.kind last.write;
        apart = λ joined. (
            let le = most.greatest w last.there (record {
              conflict = strong.before w.kind x.kind last.write;
              apart = apart_on g w most.there last.there lt joined most.partner.apart;
            }) in
            omega (arith, le, lt));
      }))
      | inr ge ↦ elim (cases_eq g.place w.place) [
        | inl same ↦ inl (subst (λ t. IsLastWrite K kinds past t) (one_at past rising.1 w g last.there most.there (sym same)) last)
        | inr other ↦ after_writes (λ v hv write. let k = last.last v hv write in omega (arith, k, ge, other))
      ]
    ]

    must : MustBeKept K kinds es past g
    must = elim (last_write K kinds past rising.1) [
      | inr free ↦ after_writes (λ w hw write. absurd (true≢false (sym write ∙ free w hw)))
      | inl found ↦ at_write found.0 found.1
    ]

  there_of : (t : Touch K) → MustBeKept K kinds es past t → Among t past
  there_of t (inl l) = l.there
  there_of t (inr l) = l.there

  pub to_kept : (t : Touch K) → IsGreatestPartner K kinds es x (λ a. Among a past) t → IsGreatestPartner K kinds es x (MustBeKept K kinds es past) t
  to_kept t most = record { there = must t most; partner = most.partner; greatest = λ b k p. most.greatest b (there_of b k) p }

  pub from_kept : (t : Touch K) → IsGreatestPartner K kinds es x (MustBeKept K kinds es past) t → IsGreatestPartner K kinds es x (λ a. Among a past) t
  from_kept t most =
      record {
        there = there_of t most.there;
        partner = most.partner;
        greatest = λ b hb p. elim (cases_lt t.place b.place) [
          | inr le ↦ le
          | inl lt ↦ absurd (enough K kinds es past x strong rising late calm b hb (p.conflict, λ r. p.apart (inl r))
              (λ c kept above m. (
              let le = most.greatest c kept (record {
                conflict = m.0;
                apart = λ j. m.1 (reached K kinds es past x strong rising late c x (inr (there_of c kept)) (inl refl) (rising.0 c (there_of c kept)) j);
              }) in
              omega (arith, le, above, lt))))
        ];
      }

pub kept_is_enough : (K : Type 0) (kinds : Kinds K) → KeptIsEnough K kinds
kept_is_enough K kinds es past x strong rising late calm t =
    (to_kept K kinds es past x strong rising late calm t, from_kept K kinds es past x strong rising late calm t)
