-- What is kept of the reads and writes of a cell with one more.
use Rattle.std.proofs.Common.{◌≡◌, ℕ, ◌<◌, Bool, true, false, ◌||◌, List, [], ◌∷◌, ◌++◌, inl, inr, subst, ap, sym, refl, ◌∙◌, true≢false, arith, option_to_list}
use Rattle.std.specs.Prelude.{Option, Some, None}
use Rattle.fut_base.specs.declared.event.Event.{Event}
use Rattle.fut_base.specs.Dag.{Among, ReachesBy, edges_of}
use Rattle.strand_laws.proofs.Places.{among_or, among_left, among_right}
use Rattle.strand_tree.specs.declared.strand.Strand.{Strand}
use Rattle.strand_tree.specs.Placing.{IsStrandOf}
use Rattle.access_shards.specs.declared.kept.Access.{Access}
use Rattle.access_shards.specs.Touches.{Touch, WritesConflict, HasNoRace, IsFirstPair, IsLastWrite, IsLatest, MustBeKept}
use Rattle.access_shards.specs.Kept.{Kind, reading, writing, is_write, kinds, Shows, IsWriter, IsInOrder, AreReaders, all_kept, touch, MayCome}
use Rattle.access_shards.specs.Finding.{IsApart, IsLastApart, AreThoseApart}
use Rattle.access_shards.proofs.Enough.{one_at, reached, Meets}
use Rattle.access_shards.proofs.Next.{latest_before, latest_stays, latest_new, latest_none, write_new, write_stays, no_write, still_none, pair_found}

or_right : (b : Bool) → (b || true) ≡ true
or_right true = refl
or_right false = refl

pub strong : WritesConflict Kind kinds
strong =
    record {
      before = λ w k h. ap (λ b. b || is_write k) h ∙ or_left (is_write k);
      after = λ w k h. ap (λ b. is_write k || b) h ∙ or_right (is_write k);
    }
  where
    or_left : (b : Bool) → (true || b) ≡ true
    or_left b = refl

-- a list in order, and one more at its end
pub in_order_more : (xs : List Access) (y : Access) → IsInOrder xs → ((a : Access) → Among a xs → a.place < y.place) → IsInOrder (xs ++ y ∷ [])
in_order_more [] y h above = ((λ b k. absurd k), tt)
in_order_more (x ∷ xs) y h above = (
  (λ b k. elim (among_or b xs (y ∷ []) k) [
    | inl l ↦ h.0 b l
    | inr (inl e) ↦ subst (λ (z : Access). x.place < z.place) e (above x (inl refl))
    | inr (inr n) ↦ absurd n
  ]),
  in_order_more xs y h.1 (λ a k. above a (inr k)),
)

pub in_order_last : (xs : List Access) (y : Access) → IsInOrder (xs ++ y ∷ []) → IsInOrder xs × ((a : Access) → Among a xs → a.place < y.place)
in_order_last [] y h = (tt, λ a k. absurd k)
in_order_last (x ∷ xs) y h =
    let rest = in_order_last xs y h.1 in (
      ((λ b k. h.0 b (among_left b xs (y ∷ []) k)), rest.0),
      λ a k. elim k [ inl e ↦ subst (λ (z : Access). z.place < y.place) e (h.0 y (among_right y xs (y ∷ []) (inl refl))) | inr l ↦ rest.1 a l ],
    )

-- what comes after those of a cell that have no race, of which these are kept
module _ (s : List Event) (past : List (Touch Kind)) (at : Strand) (place : ℕ) (kind : Kind) (may : MayCome s past at place kind)
    (calm : HasNoRace Kind kinds (edges_of s) past) (writer : Option Access) (readers : List Access) (wrote : IsWriter s past writer)
    (read : AreReaders s past readers) where
  abbrev x : Touch Kind
  x = touch place at.number kind

  abbrev es : List (ℕ × ℕ)
  es = edges_of s

  -- a kept access is shown
  last_shown : (o : Option Access) → IsWriter s past o → (c : Touch Kind) → IsLastWrite Kind kinds past c → (a : Access) × (o ≡ Some a) × Shows s a c
  last_shown None w c l = absurd (true≢false (sym l.write ∙ w c l.there))
  last_shown (Some a) w c l =
      let one = w.1.last c l.there l.write in
      let two = l.last w.0 w.1.there w.1.write in
      let e : w.0 ≡ c = one_at past may.rising.1 w.0 c w.1.there l.there (omega (arith, one, two)) in
      (a, refl, subst (Shows s a) e w.2)

  reads : (c : Touch Kind) (k : Kind) → IsLatest Kind kinds es past k c → k ≡ reading
  reads c reading l = refl
  reads c writing l = (let lt = l.after c l.there (ap is_write l.kind_is) in absurd (omega (arith, lt)))

  in_writer : (o : Option Access) (a : Access) → o ≡ Some a → Among a (option_to_list o)
  in_writer o a e = subst (λ z. Among a (option_to_list z)) (sym e) (inl refl)

  shown : (c : Touch Kind) → MustBeKept Kind kinds es past c → (a : Access) × Among a (all_kept writer readers) × Shows s a c
  shown c (inl l) = let k = last_shown writer wrote c l in (k.0, among_left k.0 (option_to_list writer) readers (in_writer writer k.0 k.1), k.2)
  shown c (inr l) =
      let k = read.whole c (subst (λ z. IsLatest Kind kinds es past z c) (reads c c.kind l) l) in
      (k.0, among_right k.0 (option_to_list writer) readers k.1, k.2)

  -- what is kept shows an access that must be
  from_writer : (o : Option Access) → IsWriter s past o → (a : Access) → Among a (option_to_list o)
      → (c : Touch Kind) × IsLastWrite Kind kinds past c × Shows s a c
  from_writer None w a h = absurd h
  from_writer (Some b) w a (inl e) = (w.0, w.1, subst (λ z. Shows s z w.0) e w.2)
  from_writer (Some b) w a (inr h) = absurd h

  kept_one : (a : Access) → Among a (all_kept writer readers) → (c : Touch Kind) × MustBeKept Kind kinds es past c × Shows s a c
  kept_one a h = elim (among_or a (option_to_list writer) readers h) [
    | inl l ↦ (let k = from_writer writer wrote a l in (k.0, inl k.1, k.2))
    | inr l ↦ (let k = read.each a l in (k.0, inr (subst (λ z. IsLatest Kind kinds es past z k.0) (sym k.1.kind_is) k.1), k.2))
  ]

  among_past : (c : Touch Kind) → MustBeKept Kind kinds es past c → Among c past
  among_past c (inl l) = l.there
  among_past c (inr l) = l.there

  -- x is reached from what is kept exactly where it is from what that shows
  meets_apart : (a : Access) (c : Touch Kind) → Shows s a c → Meets Kind kinds es past x c → IsApart s at a
  meets_apart a c sh m = λ r. m.1 (subst (λ n. ReachesBy es n at.number) sh.number_is r)

  apart_meets : (a : Access) (c : Touch Kind) → Shows s a c → kinds.conflict c.kind kind ≡ true → IsApart s at a → Meets Kind kinds es past x c
  apart_meets a c sh k ap' = (k, λ r. ap' (subst (λ n. ReachesBy es n at.number) (sym sh.number_is) r))

  -- the last write and the reads after it are in order
  pub kept_in_order : IsInOrder (all_kept writer readers)
  kept_in_order = go writer wrote
    where
      go : (o : Option Access) → IsWriter s past o → IsInOrder (all_kept o readers)
      go None w = read.order
      go (Some a) w = (
        (λ b h. (let k = read.each b h in let lt = k.1.after w.0 w.1.there w.1.write in
            omega (arith, lt, w.2.place_is, k.2.place_is))),
        read.order,
      )

  pub strands_of : (a : Access) → Among a (all_kept writer readers) → IsStrandOf s a.strand
  strands_of a h = (kept_one a h).2.strand_of

  conflicts : (c : Touch Kind) → kinds.conflict c.kind reading ≡ true → is_write c.kind ≡ true
  conflicts c h = go (is_write c.kind) h
    where
      go : (b : Bool) → (b || false) ≡ true → b ≡ true
      go true e = refl
      go false e = e

  write_kept : (c : Touch Kind) → MustBeKept Kind kinds es past c → is_write c.kind ≡ true → IsLastWrite Kind kinds past c
  write_kept c (inl l) w = l
  write_kept c (inr l) w = let lt = l.after c l.there w in absurd (omega (arith, lt))

  -- the one kept write, which a read meets, makes the first pair with it
  pub found_by_read : kind ≡ reading → (first : ℕ) → IsLastApart s at (option_to_list writer) (Some first) → IsFirstPair Kind kinds es (x ∷ past) first place
  found_by_read is first f =
      let k = from_writer writer wrote f.0 f.1 in
      let m : Meets Kind kinds es past x k.0 = apart_meets f.0 k.0 k.2 (strong.before k.0.kind kind k.1.write) f.3 in
      subst (λ n. IsFirstPair Kind kinds es (x ∷ past) n place) (sym k.2.place_is ∙ f.2)
      (pair_found Kind kinds es past x may.rising strong may.late calm k.0 k.1.there m
      (λ d kept md. k.1.last d (among_past d kept) (conflicts d (subst (λ z. kinds.conflict d.kind z ≡ true) is md.0))))

  -- the last kept access that a write meets makes the first pair with it
  pub found_by_write : kind ≡ writing → (first : ℕ) → IsLastApart s at (all_kept writer readers) (Some first) → IsFirstPair Kind kinds es (x ∷ past) first place
  found_by_write is first f =
      let k = kept_one f.0 f.1 in
      let m : Meets Kind kinds es past x k.0 = apart_meets f.0 k.0 k.2 (strong.after kind k.0.kind (ap is_write is)) f.3 in
      subst (λ n. IsFirstPair Kind kinds es (x ∷ past) n place) (sym k.2.place_is ∙ f.2)
      (pair_found Kind kinds es past x may.rising strong may.late calm k.0 (among_past k.0 k.1) m
      (λ d kept md. (let j = shown d kept in let le = f.4 j.0 j.1 (meets_apart j.0 d j.2 md) in omega (arith, le, k.2.place_is, j.2.place_is))))

  -- a read that is reached from the kept write, if there is one, makes no race
  pub none_by_read : kind ≡ reading → IsLastApart s at (option_to_list writer) None → HasNoRace Kind kinds es (x ∷ past)
  none_by_read is f =
      still_none Kind kinds es past x may.rising strong may.late calm
      (λ c kept m. (
      let w = write_kept c kept (conflicts c (subst (λ z. kinds.conflict c.kind z ≡ true) is m.0)) in
      let k = last_shown writer wrote c w in
      meets_apart k.0 c k.2 m (f k.0 (in_writer writer k.0 k.1))))

  -- nor does a write that is reached from each kept access
  pub none_by_write : IsLastApart s at (all_kept writer readers) None → HasNoRace Kind kinds es (x ∷ past)
  none_by_write f =
      still_none Kind kinds es past x may.rising strong may.late calm
      (λ c kept m. (let k = shown c kept in meets_apart k.0 c k.2 m (f k.0 k.1)))

  -- the new access as it is kept
  abbrev Shown : Access → Type 0
  Shown new = Shows s new x

  -- after a write it alone is kept
  pub kept_by_write : kind ≡ writing → (new : Access) → Shown new → IsWriter s (x ∷ past) (Some new) × AreReaders s (x ∷ past) []
  kept_by_write is new sh = (
    (x, write_new Kind kinds es past x may.rising (ap is_write is), sh),
    record {
      each = λ a h. absurd h;
      whole = λ t l. absurd (latest_none Kind kinds es past x may.rising reading t (ap is_write is) l);
      order = tt;
    },
  )

  -- after a read the last write stays
  pub writer_stays : kind ≡ reading → IsWriter s (x ∷ past) writer
  writer_stays is = go writer wrote
    where
      go : (o : Option Access) → IsWriter s past o → IsWriter s (x ∷ past) o
      go None w = no_write Kind kinds es past x may.rising (ap is_write is) w
      go (Some a) w = (w.0, write_stays Kind kinds es past x may.rising w.0 (ap is_write is) w.1, w.2)

  -- and the reads from which it is not reached, and it
  pub kept_by_read : kind ≡ reading → (new : Access) → Shown new → (left : List Access) → AreThoseApart s at readers left
      → AreReaders s (x ∷ past) (left ++ new ∷ [])
  kept_by_read is new sh left those =
      let free : is_write kind ≡ false = ap is_write is in
      record {
        each = λ a h. elim (among_or a left (new ∷ []) h) [
          | inl l ↦ (
              let k = (those.those a).0 l in
              let r = read.each a k.0 in (
                r.0,
                latest_stays Kind kinds es past x may.rising reading r.0 free
                    (λ j. k.1 (subst (λ n. ReachesBy es n at.number) (sym r.2.number_is)
                    (reached Kind kinds es past x strong may.rising may.late r.0 x (inr r.1.there) (inl refl) (may.rising.0 r.0 r.1.there) j)))
                    r.1,
                r.2,
              ))
          | inr (inl e) ↦ (
            x,
            subst (λ z. IsLatest Kind kinds es (x ∷ past) z x) is (latest_new Kind kinds es past x may.rising free),
            subst (λ z. Shows s z x) e sh,
          )
          | inr (inr n) ↦ absurd n
        ];
        whole = λ t l. elim l.there [
          | inl e ↦ (new, among_right new left (new ∷ []) (inl refl), subst (Shows s new) e sh)
          | inr h ↦ (
              let lt = may.rising.0 t h in
              let b = latest_before Kind kinds es past x may.rising reading t free (λ e.
              (let p = ap (λ (i : Touch Kind). i.place) e in absurd (omega (arith, p, lt)))) l in
              let k = read.whole t b in (
                k.0,
                among_left k.0 left (new ∷ []) ((those.those k.0).1
                    (k.1, λ r. l.latest x (inl refl) is lt (inl (subst (λ n. ReachesBy es n at.number) k.2.number_is r)))),
                k.2,
              ))
        ];
        order = in_order_more left new those.order (λ a h. (
            let k = (those.those a).0 h in
            let r = read.each a k.0 in
            let lt = may.rising.0 r.0 r.1.there in
            omega (arith, lt, r.2.place_is, sh.place_is)));
      }
