-- What is kept of reads where a run of them makes place for a new one.
use Rattle.std.proofs.Common.{◌≡◌, ◌≢◌, ℕ, zero, suc, ◌+◌, ◌-◌, ◌<◌, ◌≤◌, Bool, true, false, List, [], ◌∷◌}
use Rattle.std.proofs.Common.{◌++◌, ◌⊎◌, inl, inr, subst, ap, sym, refl, ◌∙◌, length, length-append, take, drop, arith, true≢false}
use Rattle.std.proofs.lemmas.Bool.{cases_lt, cases_eq}
use Rattle.std.proofs.lemmas.List.{take-append-drop}
use Rattle.std.specs.Prelude.{◌↔◌}
use Rattle.fut_base.specs.declared.event.Event.{Event}
use Rattle.fut_base.specs.Dag.{Among, ReachesBy, edges_of}
use Rattle.fut_base.specs.Orders.{english_of}
use Rattle.fut_base.proofs.Members.{at_place}
use Rattle.strand_laws.proofs.Places.{among_or, among_left, among_right}
use Rattle.strand_tree.specs.declared.strand.Strand.{Strand}
use Rattle.strand_tree.specs.Placing.{IsStrandOf}
use Rattle.reach_table.proofs.Members.{in_take_or_drop, from_take, from_drop}
use Rattle.access_shards.specs.declared.kept.Access.{Access}
use Rattle.access_shards.specs.declared.run.Run.{Run}
use Rattle.access_shards.specs.Kept.{IsInOrder, IsViewOf}
use Rattle.access_shards.specs.Finding.{IsApart, AreOf, AreThoseApart, AllOnKnown}
use Rattle.access_shards.specs.Logged.{StandsFirst, RiseInEnglish, IsInEnglish, AreSorted}
use Rattle.access_shards.specs.Reading.{IsNotAfter, AreApart, AreUnjoined, AreReads, IsOneMore, KeepsAll, KeepsRead}
use Rattle.access_shards.specs.Runs.{access_at, IsRow, IsRun, AreRun, EndsIn}
use Rattle.access_shards.specs.Replacing.{AreLeft, IsReplaced}
use Rattle.access_shards.proofs.Looking.{no_access}
use Rattle.access_shards.proofs.Rising.{rise_on, one_rises, in_order_left}
use Rattle.access_shards.proofs.Runs.{index_of, in_take, in_drop, of_take, of_drop, in_english_at, differ_at}
use Rattle.access_shards.proofs.Runs.{in_english_take, in_english_drop, in_english_both, up_to, after, in_run, off_left, off_right}
use Rattle.access_shards.proofs.Listing.{one_access}

-- accesses in order that rise are in the English order
pub rise_english : (s : List Event) (all : List Access) → IsInOrder all → AreApart s all → RiseInEnglish s all → IsInEnglish s all
rise_english s [] order apart rise = tt
rise_english s (x ∷ all) order apart rise = (
  (λ b m. (rise x b (inl refl) (inr m) (order.0 b m), λ e. apart x b (inl refl) (inr m) (order.0 b m) ([], e))),
  rise_english s all order.1 (λ a b ha hb. apart a b (inr ha) (inr hb)) (λ a b ha hb. rise a b (inr ha) (inr hb)),
)

module _ (s : List Event) (table : List Strand) (new : Access) (known : ℕ) (english hebrew : List ℕ) (view : IsViewOf s table new.strand known english hebrew)
    (old : List Access) (order : IsInOrder old) (of : (a : Access) → Among a old → IsStrandOf s a.strand) (unjoined : AreUnjoined s old)
    (all_known : AllOnKnown known old) (at_known : new.strand.number < known) (row : List Access) (same : (a : Access) → Among a row ↔ Among a old)
    (listed : IsInEnglish s row) (ends : EndsIn new.strand.future row) (run : Run) (start_is : run.start ≤ run.end) (end_is : run.end ≤ length row)
    (is : IsRun english hebrew new.strand row run) where
  abbrev at : Strand
  at = new.strand

  of_row : (a : Access) → Among a row → IsStrandOf s a.strand
  of_row a h = of a ((same a).0 h)

  unjoined_row : AreUnjoined s row
  unjoined_row a b ha hb = unjoined a b ((same a).0 ha) ((same b).0 hb)

  known_row : AllOnKnown known row
  known_row a h = all_known a ((same a).0 h)

  run_up : (i : ℕ) → i < run.end → IsNotAfter (english_of s) (access_at row i).strand at
  run_up = up_to s table at known english hebrew view row listed of_row unjoined_row known_row at_known ends run start_is end_is is

  run_after : (i : ℕ) → run.end ≤ i → i < length row → StandsFirst s at (access_at row i).strand
  run_after = after s table at known english hebrew view row listed of_row unjoined_row known_row at_known ends run start_is end_is is

  run_reached : (i : ℕ) → run.start ≤ i → i < run.end → ReachesBy (edges_of s) (access_at row i).strand.number at.number
  run_reached = in_run s table at known english hebrew view row listed of_row unjoined_row known_row at_known ends run start_is end_is is

  run_left : (i : ℕ) → i < run.start → IsApart s at (access_at row i)
  run_left = off_left s table at known english hebrew view row listed of_row unjoined_row known_row at_known ends run start_is end_is is

  run_right : (i : ℕ) → run.end ≤ i → i < length row → IsApart s at (access_at row i)
  run_right = off_right s table at known english hebrew view row listed of_row unjoined_row known_row at_known ends run start_is end_is is

  -- a member of the row that is not of the run is apart, and the other way round
  out_apart : (a : Access) → Among a row → ((k : ℕ) → run.start ≤ k → k < run.end → a.place ≡ (access_at row k).place → ⊥) → IsApart s at a
  out_apart a h off =
      let i = index_of a row h in
      elim (cases_lt i.0 run.start) [
        | inl lt ↦ subst (IsApart s at) i.2 (run_left i.0 lt)
        | inr ge ↦ elim (cases_lt i.0 run.end) [
          | inl lt ↦ absurd (off i.0 ge lt (sym (ap (λ (z : Access). z.place) i.2)))
          | inr le ↦ subst (IsApart s at) i.2 (run_right i.0 le i.1)
        ]
      ]

  apart_out : (a : Access) → Among a old → IsApart s at a → (k : ℕ) → run.start ≤ k → k < run.end → a.place ≡ (access_at row k).place → ⊥
  apart_out a h off k ge lt e =
      let b = at_place row k no_access (omega (arith, lt, end_is)) in
      let one = one_access old order a (access_at row k) h ((same (access_at row k)).0 b) e in
      off (subst (λ (z : Access). ReachesBy (edges_of s) z.strand.number at.number) (sym one) (run_reached k ge lt))

  -- those left of the reads
  pub left_apart : (left : List Access) → AreLeft at.number row run.start run.end old left → AreThoseApart s at old left
  left_apart left k =
      record {
        those = λ a. (
          (λ h. (let m = k.from a h in (m.0, out_apart a ((same a).1 m.0) m.1))),
          (λ m. k.to a m.0 (λ e. m.1 ([], e)) (apart_out a m.0 m.1)),
        );
        order = k.order;
      }

  -- the list in the English order with the new one
  abbrev pub put : List Access
  put = take run.start row ++ new ∷ drop run.end row

  first_of : (a : Access) → IsNotAfter (english_of s) a.strand at → IsApart s at a → StandsFirst s a.strand at
  first_of a k off = record { future_is = k.future_is; first = elim k.first [ inl e ↦ absurd (off ([], e)) | inr f ↦ f ] }

  pub put_english : IsInEnglish s put
  put_english =
      in_english_both s (take run.start row) (new ∷ drop run.end row) (in_english_take s run.start row listed) (
        (λ b m. (let j = of_drop b row run.end m in (
          subst (λ (z : Access). StandsFirst s at z.strand) j.3 (run_after j.0 j.1 j.2),
          λ e. subst (IsApart s at) j.3 (run_right j.0 j.1 j.2) ([], sym e),
        ))),
        in_english_drop s run.end row listed,
      )
      (λ a b ha hb. (let i = of_take a row run.start ha in
      elim hb [
        | inl e ↦ subst (λ (z : Access). StandsFirst s a.strand z.strand × (a.strand.number ≡ z.strand.number → ⊥)) e (
          subst (λ (z : Access). StandsFirst s z.strand at) i.3
              (first_of (access_at row i.0) (run_up i.0 (omega (arith, i.1, start_is))) (run_left i.0 i.1)),
          λ q. subst (IsApart s at) i.3 (run_left i.0 i.1) ([], q),
        )
        | inr m ↦ (
            let j = of_drop b row run.end m in (
              subst (λ (z : Access). StandsFirst s a.strand z.strand) j.3
                  (subst (λ (z : Access). StandsFirst s z.strand (access_at row j.0).strand) i.3
                  (in_english_at s row listed i.0 j.0 (omega (arith, i.1, start_is, j.1)) j.2)),
              λ q. differ_of i.0 j.0 (omega (arith, i.1, start_is, j.1)) j.2
                  (ap (λ (z : Access). z.strand.number) i.3 ∙ q ∙ sym (ap (λ (z : Access). z.strand.number) j.3)),
            ))
      ]))
    where
      differ_of : (i j : ℕ) → i < j → j < length row → (access_at row i).strand.number ≡ (access_at row j).strand.number → ⊥
      differ_of i j lt le = differ_at s row listed i j lt le

  pub put_those : (left : List Access) → AreThoseApart s at old left → (a : Access) → Among a put ↔ Among a (left ++ new ∷ [])
  put_those left those a = (
    λ h. elim (among_or a (take run.start row) (new ∷ drop run.end row) h) [
      | inl l ↦ (let i = of_take a row run.start l in
          among_left a left (new ∷ []) ((those.those a).1 ((same a).0 (from_take run.start row a l), subst (IsApart s at) i.3 (run_left i.0 i.1))))
      | inr (inl e) ↦ among_right a left (new ∷ []) (inl e)
      | inr (inr l) ↦ (let i = of_drop a row run.end l in
          among_left a left (new ∷ []) ((those.those a).1 ((same a).0 (from_drop run.end row a l), subst (IsApart s at) i.3 (run_right i.0 i.1 i.2))))
    ],
    λ h. elim (among_or a left (new ∷ []) h) [
      | inl l ↦ (
          let k = (those.those a).0 l in
          let i = index_of a row ((same a).1 k.0) in
          elim (cases_lt i.0 run.start) [
            | inl lt ↦ among_left a (take run.start row) (new ∷ drop run.end row)
                (subst (λ z. Among z (take run.start row)) i.2 (in_take row run.start i.0 lt i.1))
            | inr ge ↦ elim (cases_lt i.0 run.end) [
              | inl lt ↦ absurd (k.1 (subst (λ (z : Access). ReachesBy (edges_of s) z.strand.number at.number) i.2 (run_reached i.0 ge lt)))
              | inr le ↦ among_right a (take run.start row) (new ∷ drop run.end row)
                  (inr (subst (λ z. Among z (drop run.end row)) i.2 (in_drop row run.end i.0 le i.1)))
            ]
          ])
      | inr (inl e) ↦ among_right a (take run.start row) (new ∷ drop run.end row) (inl e)
      | inr (inr n) ↦ absurd n
    ],
  )

  pub replaced : (after sorted : List Access) → IsReplaced row run.start run.end new old after → sorted ≡ put
      → IsOneMore s new old after × AreSorted s after sorted
  replaced after sorted r e =
      let those = left_apart r.left r.those in (
        record { left = r.left; those = those; after_is = r.after_is },
        subst (λ (l : List Access). AreSorted s after l) (sym e) (record {
          order = put_english;
          those = inr (subst (λ (l : List Access). (a : Access) → Among a put ↔ Among a l) (sym r.after_is) (put_those r.left those));
        }),
      )

  -- where the reads are listed themselves, and the run is at their end
  pub ended : row ≡ old → run.end ≡ length row → AreThoseApart s at old (take run.start old)
  ended e all = subst (λ (l : List Access). AreThoseApart s at old (take run.start l)) e (record {
    those = λ a. (
      (λ h. (let i = of_take a row run.start h in ((same a).0 (from_take run.start row a h), subst (IsApart s at) i.3 (run_left i.0 i.1)))),
      (λ k. (
          let i = index_of a row ((same a).1 k.0) in
          elim (cases_lt i.0 run.start) [
            | inl lt ↦ subst (λ z. Among z (take run.start row)) i.2 (in_take row run.start i.0 lt i.1)
            | inr ge ↦ absurd (k.1 (subst (λ (z : Access). ReachesBy (edges_of s) z.strand.number at.number) i.2
                (run_reached i.0 ge (omega (arith, i.1, all)))))
          ])),
    );
    order = in_order_left (take run.start row) (drop run.start row) (subst IsInOrder (sym (take-append-drop run.start row)) (subst IsInOrder (sym e) order));
  })

  pub none_after : run.end ≡ length row → (a : Access) → Among a old → IsNotAfter (english_of s) a.strand at
  none_after all a h =
      let i = index_of a row ((same a).1 h) in
      subst (λ (z : Access). IsNotAfter (english_of s) z.strand at) i.2 (run_up i.0 (omega (arith, i.1, all)))

module _ (table : List Strand) (new : Access) (known : ℕ) (english hebrew : List ℕ) (old after : List Access) (at_known : new.strand.number < known)
    (all_known : AllOnKnown known old) where
  itself : (a : Access) → Among a old ↔ Among a old
  itself a = ((λ h. h), (λ h. h))

  -- the reads rise, and the last ones are dropped
  pub keeps_end : (rise listed : Bool) (sorted sorted' : List Access) (run : Run) → rise ≡ true → EndsIn new.strand.future old
      → AreRun english hebrew new.strand listed old old run → run.end ≡ length old → after ≡ take run.start old ++ new ∷ [] → sorted' ≡ []
      → KeepsRead table new known english hebrew rise old sorted true after sorted'
  keeps_end rise listed_in sorted sorted' run rises ends are all is none s view reads before =
      let order = reads.of.order in
      let listed = rise_english s old order reads.apart (reads.rising rises) in
      let run_is = are.is (λ _. record { order = order; each = λ a h. h }) in
      let those = ended s table new known english hebrew view old order reads.of.strands reads.unjoined all_known at_known old
      itself listed ends run are.start_is
      are.end_is run_is refl all in (
        record { left = take run.start old; those = those; after_is = is },
        (λ _. subst (RiseInEnglish s) (sym is) (rise_on s new old (take run.start old) (reads.rising rises)
            (none_after s table new known english hebrew view old order reads.of.strands reads.unjoined all_known at_known old
            itself listed ends run are.start_is
            are.end_is run_is all) those before)),
        subst (λ (l : List Access). AreSorted s after l) (sym none) (record { order = tt; those = inl refl }),
      )

  -- they rise, and are copied
  pub keeps_copied : (rise listed : Bool) (sorted sorted' : List Access) (run : Run) → rise ≡ true → EndsIn new.strand.future old
      → AreRun english hebrew new.strand listed old old run
      → (IsInOrder old → IsReplaced old run.start run.end new old after) → sorted' ≡ take run.start old ++ new ∷ drop run.end old
      → KeepsRead table new known english hebrew rise old sorted false after sorted'
  keeps_copied rise listed_in sorted sorted' run rises ends are r e s view reads before =
      let order = reads.of.order in
      let listed = rise_english s old order reads.apart (reads.rising rises) in
      let k = replaced s table new known english hebrew view old order reads.of.strands reads.unjoined all_known at_known old
      itself listed ends run are.start_is
      are.end_is (are.is (λ _. record { order = order; each = λ a h. h })) after sorted' (r order) e in
      (k.0, (λ y. absurd (true≢false (sym y))), k.1)

  -- they are listed
  pub keeps_listed : (rise listed : Bool) (sorted sorted' : List Access) (run : Run) → 0 < length sorted → EndsIn new.strand.future sorted
      → AreRun english hebrew new.strand listed old sorted run
      → (IsInOrder old → IsReplaced sorted run.start run.end new old after) → sorted' ≡ take run.start sorted ++ new ∷ drop run.end sorted
      → KeepsRead table new known english hebrew rise old sorted false after sorted'
  keeps_listed rise listed_in sorted sorted' run some ends are r e s view reads before =
      let order = reads.of.order in
      elim reads.listed.those [
        | inl none ↦ absurd (let p = ap (length {A = Access}) none in omega (arith, some, p))
        | inr same ↦ (
            let k = replaced s table new known english hebrew view old order reads.of.strands reads.unjoined all_known at_known
            sorted same reads.listed.order ends
            run are.start_is are.end_is (are.is (λ _. record { order = order; each = λ a h. (same a).0 h })) after sorted' (r order) e in
            (k.0, (λ y. absurd (true≢false (sym y))), k.1))
      ]

  -- all were looked at
  pub keeps_all : (rise answer : Bool) (sorted sorted' : List Access) → (answer ≡ true → length after ≡ 1) → sorted' ≡ []
      → KeepsAll table new known english hebrew old after → KeepsRead table new known english hebrew rise old sorted answer after sorted'
  keeps_all rise answer sorted sorted' one none all s view reads before = (
    all s view reads.of,
    (λ y. one_rises s after (one y)),
    subst (λ (l : List Access). AreSorted s after l) (sym none) (record { order = tt; those = inl refl }),
  )

  -- the same by what a judge says at another time
  pub all_at : (known' : ℕ) (english' hebrew' : List ℕ) → known' ≡ known → english' ≡ english → hebrew' ≡ hebrew
      → KeepsAll table new known' english' hebrew' old after → KeepsAll table new known english hebrew old after
  all_at known' english' hebrew' k e h l =
      subst (λ n. KeepsAll table new n english hebrew old after) k
      (subst (λ n. KeepsAll table new known' n hebrew old after) e
      (subst (λ n. KeepsAll table new known' english' n old after) h l))

-- what is kept of a read by a judge at another time
pub read_at : (table : List Strand) (new : Access) (known known' : ℕ) (english hebrew english' hebrew' : List ℕ) (old after : List Access)
    (rise rise' answer : Bool) (sorted sorted' after' : List Access) → known' ≡ known → english' ≡ english → hebrew' ≡ hebrew → rise' ≡ rise → sorted' ≡ sorted
    → KeepsRead table new known' english' hebrew' rise' old sorted' answer after after'
    → KeepsRead table new known english hebrew rise old sorted answer after after'
read_at table new known known' english hebrew english' hebrew' old after rise rise' answer sorted sorted' after' k e h r t l =
    subst (λ b. KeepsRead table new known english hebrew b old sorted answer after after') r
    (subst (λ n. KeepsRead table new known english hebrew rise' old n answer after after') t
    (subst (λ n. KeepsRead table new n english hebrew rise' old sorted' answer after after') k
    (subst (λ n. KeepsRead table new known' n hebrew rise' old sorted' answer after after') e
    (subst (λ n. KeepsRead table new known' english' n rise' old sorted' answer after after') h l))))
