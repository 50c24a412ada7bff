-- What is kept with one access more, whatever the kinds of access are.
use Rattle.std.proofs.Common.{◌≡◌, ◌≢◌, ℕ, ◌<◌, ◌≤◌, true, false, List, ◌∷◌, ◌⊎◌, inl, inr, subst, ap, sym, refl, ◌∙◌, true≢false, arith}
use Rattle.std.proofs.lemmas.Bool.{cases_lt}
use Rattle.fut_base.specs.Dag.{Among, ReachesBy, AreJoinedBy}
use Rattle.access_shards.specs.Touches.{Touch, Kinds, WritesConflict, IsRising, IsLate, AreRacing, HasNoRace, IsFirstPair, HasNoWrite, IsLastWrite, IsLatest}
use Rattle.access_shards.specs.Touches.{MustBeKept}
use Rattle.access_shards.proofs.Enough.{Meets, reached, enough}

module _ (K : Type 0) (kinds : Kinds K) (es : List (ℕ × ℕ)) (past : List (Touch K)) (x : Touch K) (rising : IsRising (x ∷ past)) where
  -- the earlier access of a race is one of those before
  earlier : (a b : Touch K) → Among a (x ∷ past) → Among b (x ∷ past) → a.place < b.place → Among a past
  earlier a b (inr ha) hb lt = ha
  earlier a b (inl ea) (inl eb) lt = let p = ap (λ (t : Touch K). t.place) ea in let q = ap (λ (t : Touch K). t.place) eb in absurd (omega (arith, p, q, lt))
  earlier a b (inl ea) (inr hb) lt = let p = ap (λ (t : Touch K). t.place) ea in let q = rising.0 b hb in absurd (omega (arith, p, q, lt))

  -- a race is with x, or was there before
  old_race : (a b : Touch K) → AreRacing K kinds es (x ∷ past) a b → (x ≡ b) ⊎ AreRacing K kinds es past a b
  old_race a b r = elim r.other [
    | inl e ↦ inl e
    | inr h ↦ inr (record { one = earlier a b r.one r.other r.order; other = h; order = r.order; conflict = r.conflict; apart = r.apart })
  ]

  below : (b : Touch K) → Among b (x ∷ past) → b.place ≤ x.place
  below b (inl e) = let p = ap (λ (t : Touch K). t.place) e in omega (arith, p)
  below b (inr h) = let p = rising.0 b h in omega (arith, p)

  -- a race of x is that of an access which meets it
  meets : (a b : Touch K) → x ≡ b → AreRacing K kinds es (x ∷ past) a b → Meets K kinds es past x a
  meets a b e r = (
    subst (λ (t : Touch K). kinds.conflict a.kind t.kind ≡ true) (sym e) r.conflict,
    λ q. r.apart
        (inl (subst (λ (t : Touch K). ReachesBy es a.strand t.strand) e q)),
  )

  -- the first pair stays
  pub pair_stays : (i j : ℕ) → IsFirstPair K kinds es past i j → IsFirstPair K kinds es (x ∷ past) i j
  pair_stays i j p =
      let a = p.race.0 in
      let b = p.race.1 in
      let r = p.race.2 in
      let jb = p.race.4 in
      let lt : j < x.place = (let k = rising.0 b r.other in omega (arith, k, jb)) in
      record {
        race = (a, b, record { one = inr r.one; other = inr r.other; order = r.order; conflict = r.conflict; apart = r.apart }, p.race.3, jb);
        least = λ c d q. elim (old_race c d q) [ inl e ↦ (let k = ap (λ (t : Touch K). t.place) e in omega (arith, k, lt)) | inr o ↦ p.least c d o ];
        greatest = λ c d q same. elim (old_race c d q) [
          | inl e ↦ (let k = ap (λ (t : Touch K). t.place) e in absurd (omega (arith, k, lt, same)))
          | inr o ↦ p.greatest c d o same
        ];
      }

  -- an access after all writes that no later one of its kind is joined with, of those before
  pub latest_before : (k : K) (t : Touch K) → kinds.writes x.kind ≡ false → x ≢ t → IsLatest K kinds es (x ∷ past) k t → IsLatest K kinds es past k t
  latest_before k t is ne l =
      record {
        there = elim l.there [ inl e ↦ absurd (ne e) | inr h ↦ h ];
        kind_is = l.kind_is;
        after = λ w h. l.after w (inr h);
        latest = λ u h. l.latest u (inr h);
      }

  -- of another kind than x the same are kept, unless x writes
  pub latest_other : (k : K) (t : Touch K) → kinds.writes x.kind ≡ false → x.kind ≢ k → IsLatest K kinds es past k t → IsLatest K kinds es (x ∷ past) k t
  latest_other k t is ne l =
      record {
        there = inr l.there;
        kind_is = l.kind_is;
        after = λ w h write. elim h [
          | inl e ↦ absurd (true≢false (sym write ∙ ap (λ (i : Touch K). kinds.writes i.kind) (sym e) ∙ is))
          | inr p ↦ l.after w p write
        ];
        latest = λ u h ku lt j. elim h [ inl e ↦ ne (ap (λ (i : Touch K). i.kind) e ∙ ku) | inr p ↦ l.latest u p ku lt j ];
      }

  -- of the kind of x those are kept that x is not joined with, unless x writes
  pub latest_stays : (k : K) (t : Touch K) → kinds.writes x.kind ≡ false → (AreJoinedBy es t.strand x.strand → ⊥) → IsLatest K kinds es past k t
      → IsLatest K kinds es (x ∷ past) k t
  latest_stays k t is apart l =
      record {
        there = inr l.there;
        kind_is = l.kind_is;
        after = λ w h write. elim h [
          | inl e ↦ absurd (true≢false (sym write ∙ ap (λ (i : Touch K). kinds.writes i.kind) (sym e) ∙ is))
          | inr p ↦ l.after w p write
        ];
        latest = λ u h ku lt j. elim h [ inl e ↦ apart (subst (λ (i : Touch K). AreJoinedBy es t.strand i.strand) (sym e) j) | inr p ↦ l.latest u p ku lt j ];
      }

  -- and x itself
  pub latest_new : kinds.writes x.kind ≡ false → IsLatest K kinds es (x ∷ past) x.kind x
  latest_new is =
      record {
        there = inl refl;
        kind_is = refl;
        after = λ w h write. elim h [ inl e ↦ absurd (true≢false (sym write ∙ ap (λ (i : Touch K). kinds.writes i.kind) (sym e) ∙ is)) | inr p ↦ rising.0 w p ];
        latest = λ u h ku lt j. (let k = below u h in omega (arith, k, lt));
      }

  -- nothing is after a write
  pub latest_none : (k : K) (t : Touch K) → kinds.writes x.kind ≡ true → IsLatest K kinds es (x ∷ past) k t → ⊥
  latest_none k t is l = let lt = l.after x (inl refl) is in let k = below t l.there in omega (arith, lt, k)

  -- the last write
  pub write_new : kinds.writes x.kind ≡ true → IsLastWrite K kinds (x ∷ past) x
  write_new is = record { there = inl refl; write = is; last = λ t h _. below t h }

  pub write_stays : (w : Touch K) → kinds.writes x.kind ≡ false → IsLastWrite K kinds past w → IsLastWrite K kinds (x ∷ past) w
  write_stays w is l =
      record {
        there = inr l.there;
        write = l.write;
        last = λ t h write. elim h [
          | inl e ↦ absurd (true≢false (sym write ∙ ap (λ (i : Touch K). kinds.writes i.kind) (sym e) ∙ is))
          | inr p ↦ l.last t p write
        ];
      }

  pub no_write : kinds.writes x.kind ≡ false → HasNoWrite K kinds past → HasNoWrite K kinds (x ∷ past)
  no_write is none = λ t h. elim h [ inl e ↦ ap (λ (i : Touch K). kinds.writes i.kind) (sym e) ∙ is | inr p ↦ none t p ]

  module _ (strong : WritesConflict K kinds) (late : IsLate es (x ∷ past)) (calm : HasNoRace K kinds es past) where
    -- where no kept access meets x there is still no race
    pub still_none : ((c : Touch K) → MustBeKept K kinds es past c → Meets K kinds es past x c → ⊥) → HasNoRace K kinds es (x ∷ past)
    still_none none a b r = elim (old_race a b r) [
      | inr o ↦ calm a b o
      | inl e ↦ enough K kinds es past x strong rising late calm a (earlier a b r.one r.other r.order) (meets a b e r) (λ c kept _ m. none c kept m)
    ]

    -- the greatest kept access that meets x makes the first pair with it
    pub pair_found : (c : Touch K) → Among c past → Meets K kinds es past x c
        → ((d : Touch K) → MustBeKept K kinds es past d → Meets K kinds es past x d → d.place ≤ c.place) → IsFirstPair K kinds es (x ∷ past) c.place x.place
    pair_found c there m most =
        let lt : c.place < x.place = rising.0 c there in
        record {
          race = (
            c,
            x,
            record {
              one = inr there;
              other = inl refl;
              order = lt;
              conflict = m.0;
              apart = λ j. m.1 (reached K kinds es past x strong rising late c x (inr there) (inl refl) lt j);
            },
            refl,
            refl,
          );
          least = λ a b r. elim (old_race a b r) [ inl e ↦ (let k = ap (λ (t : Touch K). t.place) e in omega (arith, k)) | inr o ↦ absurd (calm a b o) ];
          greatest = λ a b r same. elim (cases_lt c.place a.place) [
            | inr le ↦ le
            | inl gt ↦ absurd (elim (old_race a b r) [
              | inr o ↦ calm a b o
              | inl e ↦ enough K kinds es past x strong rising late calm a (earlier a b r.one r.other r.order) (meets a b e r)
                  (λ d kept above md. let k = most d kept md in omega (arith, k, above, gt))
            ])
          ];
        }
