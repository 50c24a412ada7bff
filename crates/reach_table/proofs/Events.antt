-- Tables after one more event.
use Rattle.std.proofs.Common.{◌≡◌, ◌≢◌, ℕ, ◌+◌, ◌<◌, ◌≤◌, Bool, true, false, List, [], ◌∷◌, ◌++◌, map, flat_map}
use Rattle.std.proofs.Common.{length, reverse, inl, inr, ◌⊎◌, subst, ap, sym, refl, ◌∙◌, arith, ◌==◌, if◌then◌else◌}
use Rattle.std.specs.Prelude.{◌↔◌, Option, Some, None}
use Rattle.std.specs.List.{cons_option}
use Rattle.std.proofs.lemmas.List.{reverse-append}
use Rattle.order_list.specs.Sides.{Lists}
use Rattle.fut_base.specs.declared.event.Event.{Event}
use Rattle.fut_base.specs.declared.event.Action.{Action}
use Rattle.fut_base.specs.declared.event.Action.TheVariants.{Reads, Writes, Spawns, Creates, Syncs, Gets, Ends}
use Rattle.fut_base.specs.Dag.{Among, block_of}
use Rattle.fut_base.specs.Orders.{precedes_past, stands_before, english_past, hebrew_past}
use Rattle.fut_base.specs.Sound.{IsSound, IsSoundPast, MayFollow, next_strand, future_of, home_of}
use Rattle.fut_base.specs.Tables.{table_past, maximal, lasts_of}
use Rattle.strand_laws.proofs.Places.{among_or, among_left, among_right, place, before_place, place_before}
use Rattle.strand_laws.proofs.Worlds.{Keeps, lt_or_le}
use Rattle.strand_laws.proofs.Links.{ev, if_self, if_off}
use Rattle.strand_laws.proofs.Sources.{or_off, or_left, or_right, home_old, grows_next, whole_en, whole_he}
use Rattle.strand_laws.proofs.Homes.{current_belongs}
use Rattle.strand_laws.proofs.Doubles.{not_before_self}
use Rattle.strand_laws.proofs.Inside.{far_of_precedes}
use Rattle.strand_laws.proofs.Tabling.{TabOf, table_of}
use Rattle.strand_tree.specs.declared.strand.Strand.{Strand}
use Rattle.strand_tree.specs.Placing.{IsStrandOf}
use Rattle.reach_table.specs.Telling.{number_of, HasTable, AllKnown}
use Rattle.reach_table.specs.Merging.{together, listed, IsGreatest}
use Rattle.reach_table.specs.Tabled.{and_then, AfterSpawn, AfterCreate, KidAfterCreate, AfterGet, MergesOneMore, MergeBegins, AfterSync, TablesStay, OrdersStay}
use Rattle.reach_table.proofs.Members.{of_number, numbered, flat_in, flat_out}
use Rattle.reach_table.proofs.Greatest.{top_of_max, max_of_top, max_same, false_if, again, at_once}
use Rattle.reach_table.proofs.Agreeing.{kept_is_max}

-- the strands of the list are the table of v, with the newest event first
pub record IsTable (past : List Event) (v : ℕ) (table : List Strand) : Type 0 where
  pub same : (x : ℕ) → Among x (map number_of table) ↔ Among x (table_past past v)
  pub there : (w : Strand) → Among w table → w.number < next_strand past
  pub home : (w : Strand) → Among w table → w.future ≡ home_of past w.number

table_in : (s : List Event) (v : ℕ) (table : List Strand) → HasTable s v table → IsTable (reverse s) v table
table_in s v table h = record { same = h.same; there = λ w a. (h.homes w a).there; home = λ w a. (h.homes w a).future_is }

module _ (s : List Event) (task at : ℕ) (action : Action) where
  turned : reverse (and_then s task at action) ≡ ev task at action ∷ reverse s
  turned = reverse-append s (ev task at action ∷ [])

  sound_in : IsSound (and_then s task at action) → IsSoundPast (ev task at action ∷ reverse s)
  sound_in sound = subst IsSoundPast turned sound

  table_out : (v : ℕ) (table : List Strand) → IsTable (ev task at action ∷ reverse s) v table → HasTable (and_then s task at action) v table
  table_out v table t =
      let P : List Event → Type 0 = λ past. IsTable past v table in
      let k = subst P (sym turned) t in
      record { same = k.same; homes = λ w a. record { there = k.there w a; future_is = k.home w a } }

-- an old list of strands, as the table of a new strand, or of an old one
grown : (past : List Event) (task at : ℕ) (action : Action) → IsSoundPast (ev task at action ∷ past) → (v v' : ℕ) (table : List Strand) → IsTable past v table
    → table_past (ev task at action ∷ past) v' ≡ table_past past v → IsTable (ev task at action ∷ past) v' table
grown past task at action sound v v' table t e =
    record {
      same = λ x. subst (λ ws. Among x (map number_of table) ↔ Among x ws) (sym e) (t.same x);
      there = λ w a. (let k = t.there w a in omega arith);
      home = λ w a. t.home w a ∙ sym (home_old past sound.0 task at action sound.1 w.number (t.there w a));
    }

pub after_spawn : (table : List Strand) → AfterSpawn table table
after_spawn table s task at code child kid cont args sound h =
    let action : Action = Spawns code child kid cont args in
    let past = reverse s in
    let t = table_in s at table h in
    let sp = sound_in s task at action sound in (
      table_out s task at action kid table
          (grown past task at action sp at kid table t (ap (λ b. if b then table_past past at else table_past past kid) (or_left kid cont))),
      table_out s task at action cont table
          (grown past task at action sp at cont table t (ap (λ b. if b then table_past past at else table_past past cont) (or_right cont kid))),
    )

pub after_create : (table : List Strand) → AfterCreate table table
after_create table s task at code child kid cont args sound h =
    let action : Action = Creates code child kid cont args in
    let past = reverse s in
    let sp = sound_in s task at action sound in
    let next : cont ≡ kid + 1 = sp.1.acts.2 in
    let ne : cont ≢ kid = (λ e. absurd (omega (arith, e, next))) in
    table_out s task at action cont table (grown past task at action sp at cont table (table_in s at table h)
    (if_off cont kid (at ∷ table_past past at) (if cont == cont then table_past past at else table_past past cont) ne
    ∙ if_self cont (table_past past at) (table_past past cont)))

pub kid_after_create : (old : List Strand) (v : Strand) (new : List Strand) → ((w : Strand) → Among w new ↔ Among w (old ++ v ∷ [])) → KidAfterCreate old v new
kid_after_create old v new iff s task code child kid cont args sound here h =
    let action : Action = Creates code child kid cont args in
    let past = reverse s in
    let sp = sound_in s task v.number action sound in
    table_out s task v.number action kid new
    (record {
      same = same sp;
      there = λ w a. (let k = there w a in omega arith);
      home = λ w a. home w a ∙ sym (home_old past sp.0 task v.number action sp.1 w.number (there w a));
    })
  where
    there : (w : Strand) → Among w new → w.number < next_strand (reverse s)
    there w a = elim (among_or w old (v ∷ []) ((iff w).0 a)) [
      | inl l ↦ (h.homes w l).there
      | inr (inl e) ↦ subst (λ (z : Strand). z.number < next_strand (reverse s)) e here.there
      | inr (inr k) ↦ absurd k
    ]

    home : (w : Strand) → Among w new → w.future ≡ home_of (reverse s) w.number
    home w a = elim (among_or w old (v ∷ []) ((iff w).0 a)) [
      | inl l ↦ (h.homes w l).future_is
      | inr (inl e) ↦ subst (λ (z : Strand). z.future ≡ home_of (reverse s) z.number) e here.future_is
      | inr (inr k) ↦ absurd k
    ]

    old_table : ℕ → List ℕ
    old_table = table_past (reverse s)

    to : (x : ℕ) → Among x (map number_of new) → Among x (v.number ∷ table_past (reverse s) v.number)
    to x a =
        let k = of_number x new a in
        elim (among_or k.0 old (v ∷ []) ((iff k.0).0 k.1)) [
          | inl l ↦ inr ((h.same x).0 (subst (λ z. Among z (map number_of old)) k.2 (numbered k.0 old l)))
          | inr (inl e) ↦ inl (ap number_of e ∙ k.2)
          | inr (inr z) ↦ absurd z
        ]

    back : (x : ℕ) → Among x (v.number ∷ table_past (reverse s) v.number) → Among x (map number_of new)
    back x (inl e) = subst (λ z. Among z (map number_of new)) e (numbered v new ((iff v).1 (among_right v old (v ∷ []) (inl refl))))
    back x (inr a) =
        let k = of_number x old ((h.same x).1 a) in
        subst (λ z. Among z (map number_of new)) k.2 (numbered k.0 new ((iff k.0).1 (among_left k.0 old (v ∷ []) k.1)))

    same : IsSoundPast (ev task v.number (Creates code child kid cont args) ∷ reverse s) → (x : ℕ) → Among x (map number_of new)
        ↔ Among x (table_past (ev task v.number (Creates code child kid cont args) ∷ reverse s) kid)
    same sp x = subst (λ ws. Among x (map number_of new) ↔ Among x ws)
        (sym (if_self kid (v.number ∷ table_past (reverse s) v.number) (if kid == cont then table_past (reverse s) v.number else table_past (reverse s) kid)))
        (to x, back x)

-- a strand that an event makes from others, with a table that is what these leave
made : (s : List Event) (task at : ℕ) (action : Action) (v own : ℕ) (xs : List ℕ) (table : List Strand)
    → IsSound (and_then s task at action) → table_past (ev task at action ∷ reverse s) v ≡ maximal (reverse s) own xs
    → ((x : ℕ) → Among x (map number_of table) ↔ Among x (maximal (reverse s) own xs)) → ((w : Strand) → Among w table → IsStrandOf s w)
    → HasTable (and_then s task at action) v table
made s task at action v own xs table sound is same homes =
    let sp = sound_in s task at action sound in
    table_out s task at action v table (record {
      same = λ x. subst (λ ws. Among x (map number_of table) ↔ Among x ws) (sym is) (same x);
      there = λ w a. (let k = (homes w a).there in omega arith);
      home = λ w a. (homes w a).future_is ∙ sym (home_old (reverse s) sp.0 task at action sp.1 w.number (homes w a).there);
    })

-- the strands that are put together
together_or : (one other : List Strand) (last : Option Strand) (w : Strand) → Among w (together one other last)
    → Among w one ⊎ Among w other ⊎ Among w (listed last)
together_or one other last w a = elim (among_or w (one ++ other) (listed last) a) [
  | inl l ↦ elim (among_or w one other l) [ inl k ↦ inl k | inr k ↦ inr (inl k) ]
  | inr r ↦ inr (inr r)
]

pub in_one : (one other : List Strand) (last : Option Strand) (w : Strand) → Among w one → Among w (together one other last)
in_one one other last w a = among_left w (one ++ other) (listed last) (among_left w one other a)

pub in_other : (one other : List Strand) (last : Option Strand) (w : Strand) → Among w other → Among w (together one other last)
in_other one other last w a = among_left w (one ++ other) (listed last) (among_right w one other a)

pub in_last : (one other : List Strand) (last : Option Strand) (w : Strand) → Among w (listed last) → Among w (together one other last)
in_last one other last w a = among_right w (one ++ other) (listed last) a

lift : (old ws : List Strand) → ((w : Strand) → Among w old → Among w ws) → (z : ℕ) → Among z (map number_of old) → Among z (map number_of ws)
lift old ws up z a = let k = of_number z old a in subst (λ y. Among y (map number_of ws)) k.2 (numbered k.0 ws (up k.0 k.1))

last_in : (last : Option Strand) (end : Strand) → last ≡ Some end → Among end (listed last)
last_in last end is = subst (λ o. Among end (listed o)) (sym is) (inl refl)

last_is : (last : Option Strand) (end w : Strand) → last ≡ Some end → Among w (listed last) → end ≡ w
last_is last end w is a = elim (subst (λ o. Among w (listed o)) is a) [ inl e ↦ e | inr k ↦ absurd k ]

no_last : (last : Option Strand) (w : Strand) → last ≡ None → Among w (listed last) → ⊥
no_last last w is a = subst (λ o. Among w (listed o)) is a

module _ (lists : Lists) (own : ℕ) (one other new : List Strand) (last : Option Strand)
    (iff : (w : Strand) → Among w new ↔ IsGreatest lists own (together one other last) w)
    (all : AllKnown (length lists.english.order) (together one other last)) where
  pub after_get : AfterGet lists own one other last new
  after_get s task future strand value at end sound at_is own_is h1 end_is is_last ended h2 orders =
      made s task at.number action strand own xs new sound is same (λ w a. homes w ((iff w).0 a).among)
    where
      action : Action
      action = Gets future value strand

      sp : IsSoundPast (ev task at.number action ∷ reverse s)
      sp = sound_in s task at.number action sound

      xs : List ℕ
      xs = table_past (reverse s) at.number ++ ((end.number ∷ table_past (reverse s) end.number) ++ [])

      own_task : future_of (reverse s) task ≡ own
      own_task = sym (own_is ∙ at_is.future_is ∙ current_belongs (reverse s) sp.0 task at.number sp.1.stands)

      is : table_past (ev task at.number action ∷ reverse s) strand ≡ maximal (reverse s) own xs
      is =
          let f : ℕ → List ℕ = λ l. l ∷ table_past (reverse s) l in
          if_self strand
          (maximal (reverse s) (future_of (reverse s) task) (table_past (reverse s) at.number ++ flat_map f (lasts_of (reverse s) (future ∷ []))))
          (table_past (reverse s) strand)
          ∙ ap (λ g. maximal (reverse s) g (table_past (reverse s) at.number ++ flat_map f (lasts_of (reverse s) (future ∷ [])))) own_task
          ∙ ap (λ o. maximal (reverse s) own (table_past (reverse s) at.number ++ flat_map f (cons_option o []))) ended

      homes : (w : Strand) → Among w (together one other last) → IsStrandOf s w
      homes w a = elim (together_or one other last w a) [
        | inl l ↦ h1.homes w l
        | inr (inl l) ↦ h2.homes w l
        | inr (inr l) ↦ subst (λ z. IsStrandOf s z) (last_is last end w is_last l) end_is
      ]

      to : (z : ℕ) → Among z (map number_of (together one other last)) → Among z xs
      to z a =
          let k = of_number z (together one other last) a in
          elim (together_or one other last k.0 k.1) [
            | inl l ↦ among_left z (table_past (reverse s) at.number) _ ((h1.same z).0 (subst (λ y. Among y (map number_of one)) k.2 (numbered k.0 one l)))
            | inr (inl l) ↦ among_right z (table_past (reverse s) at.number) _
                (among_left z (end.number ∷ table_past (reverse s) end.number) []
                (inr ((h2.same z).0 (subst (λ y. Among y (map number_of other)) k.2 (numbered k.0 other l)))))
            | inr (inr l) ↦ among_right z (table_past (reverse s) at.number) _
                (among_left z (end.number ∷ table_past (reverse s) end.number) [] (inl (ap number_of (last_is last end k.0 is_last l) ∙ k.2)))
          ]

      back : (z : ℕ) → Among z xs → Among z (map number_of (together one other last))
      back z a = elim (among_or z (table_past (reverse s) at.number) _ a) [
        | inl l ↦ lift one _ (in_one one other last) z ((h1.same z).1 l)
        | inr r ↦ elim (among_or z (end.number ∷ table_past (reverse s) end.number) [] r) [
          | inr k ↦ absurd k
          | inl (inr l) ↦ lift other _ (in_other one other last) z ((h2.same z).1 l)
          | inl (inl e) ↦ subst (λ y. Among y (map number_of (together one other last))) e
              (numbered end _ (in_last one other last end (last_in last end is_last)))
        ]
      ]

      same : (x : ℕ) → Among x (map number_of new) ↔ Among x (maximal (reverse s) own xs)
      same x =
          let k = kept_is_max s sp.0 lists own (length lists.english.order) (together one other last) orders homes all new iff x in
          let j = max_same (reverse s) own (map number_of (together one other last)) xs to back x in
          (λ a. j.0 (k.0 a), λ a. k.1 (j.1 a))

  pub merges_one_more : MergesOneMore lists own one other last new
  merges_one_more s strands v sound m lv h none orders = record { same = same; homes = λ w a. homes w ((iff w).0 a).among; there = there }
    where
      table : ℕ → List ℕ
      table = table_past (reverse s)

      xs : List ℕ
      xs = flat_map (table_past (reverse s)) strands

      kept : List ℕ
      kept = maximal (reverse s) own (flat_map (table_past (reverse s)) strands)

      there : (z : ℕ) → Among z (strands ++ v ∷ []) → z < next_strand (reverse s)
      there z a = elim (among_or z strands (v ∷ []) a) [
        | inl l ↦ m.there z l
        | inr (inl e) ↦ subst (λ y. y < next_strand (reverse s)) e lv
        | inr (inr k) ↦ absurd k
      ]

      homes : (w : Strand) → Among w (together one other last) → IsStrandOf s w
      homes w a = elim (together_or one other last w a) [
        | inl l ↦ m.homes w l
        | inr (inl l) ↦ h.homes w l
        | inr (inr l) ↦ absurd (no_last last w none l)
      ]

      low_of : (u z : ℕ) → u < next_strand (reverse s) → Among z (table_past (reverse s) u) → z < next_strand (reverse s)
      low_of u z lu a = let k = (table_of (reverse s) sound u lu).lt z a in omega (arith, k, lu)

      low : (z : ℕ) → Among z (flat_map (table_past (reverse s)) strands) → z < next_strand (reverse s)
      low z a = let k = flat_out (table_past (reverse s)) z strands a in low_of k.0 z (m.there k.0 k.1) k.2

      to : (z : ℕ) → Among z (map number_of (together one other last)) → Among z
          (maximal (reverse s) own (flat_map (table_past (reverse s)) strands) ++ table_past (reverse s) v)
      to z a =
          let k = of_number z (together one other last) a in
          elim (together_or one other last k.0 k.1) [
            | inl l ↦ among_left z _ (table_past (reverse s) v) ((m.same z).0 (subst (λ y. Among y (map number_of one)) k.2 (numbered k.0 one l)))
            | inr (inl l) ↦ among_right z (maximal (reverse s) own (flat_map (table_past (reverse s)) strands)) _
                ((h.same z).0 (subst (λ y. Among y (map number_of other)) k.2 (numbered k.0 other l)))
            | inr (inr l) ↦ absurd (no_last last k.0 none l)
          ]

      back : (z : ℕ) → Among z (maximal (reverse s) own (flat_map (table_past (reverse s)) strands) ++ table_past (reverse s) v)
          → Among z (map number_of (together one other last))
      back z a = elim (among_or z (maximal (reverse s) own (flat_map (table_past (reverse s)) strands)) (table_past (reverse s) v) a) [
        | inl l ↦ lift one _ (in_one one other last) z ((m.same z).1 l)
        | inr r ↦ lift other _ (in_other one other last) z ((h.same z).1 r)
      ]

      out : (z : ℕ) → Among z (flat_map (table_past (reverse s)) strands ++ table_past (reverse s) v)
          → Among z (flat_map (table_past (reverse s)) (strands ++ v ∷ []))
      out z a = elim (among_or z (flat_map (table_past (reverse s)) strands) (table_past (reverse s) v) a) [
        | inl l ↦ (let k = flat_out (table_past (reverse s)) z strands l in flat_in (table_past (reverse s)) z k.0 _ (among_left k.0 strands (v ∷ []) k.1) k.2)
        | inr r ↦ flat_in (table_past (reverse s)) z v _ (among_right v strands (v ∷ []) (inl refl)) r
      ]

      ins : (z : ℕ) → Among z (flat_map (table_past (reverse s)) (strands ++ v ∷ []))
          → Among z (flat_map (table_past (reverse s)) strands ++ table_past (reverse s) v)
      ins z a =
          let k = flat_out (table_past (reverse s)) z (strands ++ v ∷ []) a in
          elim (among_or k.0 strands (v ∷ []) k.1) [
            | inl l ↦ among_left z (flat_map (table_past (reverse s)) strands) _ (flat_in (table_past (reverse s)) z k.0 strands l k.2)
            | inr (inl e) ↦ among_right z (flat_map (table_past (reverse s)) strands) _ (subst (λ y. Among z (table_past (reverse s) y)) (sym e) k.2)
            | inr (inr n) ↦ absurd n
          ]

      same : (x : ℕ) → Among x (map number_of new) ↔ Among x (maximal (reverse s) own (flat_map (table_past (reverse s)) (strands ++ v ∷ [])))
      same x =
          let past = reverse s in
          let xs : List ℕ = flat_map (table_past past) strands in
          let ys : List ℕ = table_past past v in
          let ly : (z : ℕ) → Among z ys → z < next_strand past = (λ z a. low_of v z lv a) in
          let k = kept_is_max s sound lists own (length lists.english.order) (together one other last) orders homes all new iff x in
          let j = max_same past own (map number_of (together one other last)) (maximal past own xs ++ ys) to back x in
          let i = max_same past own (xs ++ ys) (flat_map (table_past past) (strands ++ v ∷ [])) out ins x in (
            λ a. i.0 (max_of_top past own (xs ++ ys) x (again past sound own xs ys low ly x (top_of_max past own (maximal past own xs ++ ys) x (j.0 (k.0 a))))),
            λ a. k.1
                (j.1 (max_of_top past own (maximal past own xs ++ ys) x (at_once past sound own xs ys low ly x (top_of_max past own (xs ++ ys) x (i.1 a))))),
          )

pub merge_begins : MergeBegins
merge_begins s at table sound at_is h = record { same = same; homes = h.homes; there = there }
  where
    o : TabOf (reverse s) at.number (table_past (reverse s) at.number)
    o = table_of (reverse s) sound at.number at_is.there

    there : (z : ℕ) → Among z (at.number ∷ []) → z < next_strand (reverse s)
    there z (inl e) = subst (λ y. y < next_strand (reverse s)) e at_is.there
    there z (inr k) = absurd k

    low : (z : ℕ) → Among z (table_past (reverse s) at.number) → z < next_strand (reverse s)
    low z a = let k = o.lt z a in let l = at_is.there in omega (arith, k, l)

    alone : (z : ℕ) → Among z (table_past (reverse s) at.number ++ []) → Among z (table_past (reverse s) at.number)
    alone z a = elim (among_or z (table_past (reverse s) at.number) [] a) [ inl l ↦ l | inr k ↦ absurd k ]

    apart : (x y : ℕ) → Among x (table_past (reverse s) at.number) → Among y (table_past (reverse s) at.number)
        → home_of (reverse s) y ≡ home_of (reverse s) x → precedes_past (reverse s) x y ≡ true → ⊥
    apart x y a b e p =
        let ne : x ≢ y = (λ q. not_before_self (reverse s) sound x (subst (λ z. precedes_past (reverse s) x z ≡ true) (sym q) p)) in
        ne (o.apart x y a b (sym e) (far_of_precedes (reverse s) sound x y (low x a) (low y b) (sym e) ne p))

    same : (x : ℕ) → Among x (map number_of table) ↔ Among x (maximal (reverse s) at.future (flat_map (table_past (reverse s)) (at.number ∷ [])))
    same x = (
      λ a. (
          let b = (h.same x).0 a in
          max_of_top (reverse s) at.future (table_past (reverse s) at.number ++ []) x (record {
            among = among_left x (table_past (reverse s) at.number) [] b;
            foreign = λ e. o.other x b (e ∙ at_is.future_is);
            top = λ y c e. false_if _ (apart x y b (alone y c) e);
          })),
      λ a. (h.same x).1 (alone x (top_of_max (reverse s) at.future (table_past (reverse s) at.number ++ []) x a).among),
    )

pub after_sync : AfterSync
after_sync s task strand at table sound at_is m =
    let past = reverse s in
    let sp = sound_in s task at.number (Syncs strand) sound in
    let own_task : future_of past task ≡ at.future = sym (at_is.future_is ∙ current_belongs past sp.0 task at.number sp.1.stands) in
    let xs : List ℕ = table_past past at.number ++ flat_map (table_past past) (lasts_of past (block_of past task)) in
    made s task at.number (Syncs strand) strand at.future xs table sound
    (if_self strand (maximal past (future_of past task) xs) (table_past past strand) ∙ ap (λ f. maximal past f xs) own_task) m.same m.homes

-- strands that were there keep their tables
module _ (past : List Event) (t s : ℕ) where
  table_old : (a : Action) → MayFollow past (ev t s a) → (v : ℕ) → v < next_strand past → table_past (ev t s a ∷ past) v ≡ table_past past v
  table_old (Reads _ _) m v l = refl
  table_old (Writes _ _) m v l = refl
  table_old (Spawns code c k y args) m v l =
      let e : k ≡ next_strand past = m.acts.1 in
      let d : y ≡ k + 1 = m.acts.2 in
      ap (λ b. if b then table_past past s else table_past past v) (or_off v k y (λ q. absurd (omega arith)) (λ q. absurd (omega arith)))
  table_old (Creates code c k y args) m v l =
      let e : k ≡ next_strand past = m.acts.1 in
      let d : y ≡ k + 1 = m.acts.2 in
      if_off v k (s ∷ table_past past s) (if v == y then table_past past s else table_past past v) (λ q. absurd (omega arith))
      ∙ if_off v y (table_past past s) (table_past past v) (λ q. absurd (omega arith))
  table_old (Syncs x) m v l = let e : x ≡ next_strand past = m.acts.0 in if_off v x _ (table_past past v) (λ q. absurd (omega arith))
  table_old (Gets f g x) m v l = let e : x ≡ next_strand past = m.acts.0 in if_off v x _ (table_past past v) (λ q. absurd (omega arith))
  table_old (Ends _) m v l = refl

pub strands_more : (later past : List Event) → next_strand past ≤ next_strand (later ++ past)
strands_more [] past = omega arith
strands_more (e ∷ later) past = let k = strands_more later past in omega arith

pub sound_before : (later past : List Event) → IsSoundPast (later ++ past) → IsSoundPast past
sound_before [] past sp = sp
sound_before (e ∷ later) past sp = sound_before later past sp.0

tables_later : (later past : List Event) (v : ℕ) (table : List Strand) → IsSoundPast (later ++ past) → v < next_strand past → IsTable past v table
    → IsTable (later ++ past) v table
tables_later [] past v table sp lv t = t
tables_later (e ∷ later) past v table sp lv t =
    let ih = tables_later later past v table sp.0 lv t in
    let more = strands_more later past in
    grown (later ++ past) e.task e.strand e.action sp v v table ih (table_old (later ++ past) e.task e.strand e.action sp.1 v (omega arith))

pub tables_stay : TablesStay
tables_stay s later v table sound lv h =
    let turn : reverse (s ++ later) ≡ reverse later ++ reverse s = reverse-append s later in
    let k = tables_later (reverse later) (reverse s) v table (subst IsSoundPast turn sound) lv (table_in s v table h) in
    let P : List Event → Type 0 = λ past. IsTable past v table in
    let j = subst P (sym turn) k in
    record { same = j.same; homes = λ w a. record { there = j.there w a; future_is = j.home w a } }

same_bool : (a b : Bool) → (a ≡ true → b ≡ true) → (b ≡ true → a ≡ true) → a ≡ b
same_bool true b f g = sym (f refl)
same_bool false true f g = g refl
same_bool false false f g = refl

-- where places are kept, so is the order
same_before : (n : ℕ) (xs ys : List ℕ) (x y : ℕ) → Keeps n (λ v. place v xs) (λ v. place v ys) → x < n → y < n → x ≢ y → Among y xs → Among y ys
    → stands_before x y ys ≡ stands_before x y xs
same_before n xs ys x y keeps lx ly ne ax ay =
    same_bool _ _
    (λ p. (
    let k = before_place x y ys ne p in
    elim (lt_or_le (place x xs) (place y xs)) [
      | inl l ↦ place_before x y xs ax l
      | inr g ↦ absurd (let j = keeps.le y x ly lx g in omega (arith, k, j))
    ]))
    (λ p. place_before x y ys ay (keeps.lt x y lx ly (before_place x y xs ne p)))

module _ (x y : ℕ) (ne : x ≢ y) where
  english_later : (later past : List Event) → IsSoundPast (later ++ past) → x < next_strand past → y < next_strand past
      → stands_before x y (english_past (later ++ past)) ≡ stands_before x y (english_past past)
  english_later [] past sp lx ly = refl
  english_later (e ∷ later) past sp lx ly =
      let p : List Event = later ++ past in
      let more = strands_more later past in
      let g = grows_next (later ++ past) sp.0 e.task e.strand e.action sp.1 in
      let here : x < next_strand (later ++ past) = omega arith in
      let there : y < next_strand (later ++ past) = omega arith in
      same_before (next_strand (later ++ past)) (english_past (later ++ past)) (english_past (e ∷ (later ++ past))) x y g.e_keep here there ne
      ((whole_en (later ++ past) sp.0).all y there) ((whole_en (e ∷ (later ++ past)) sp).all y (omega arith))
      ∙ english_later later past sp.0 lx ly

  hebrew_later : (later past : List Event) → IsSoundPast (later ++ past) → x < next_strand past → y < next_strand past
      → stands_before x y (hebrew_past (later ++ past)) ≡ stands_before x y (hebrew_past past)
  hebrew_later [] past sp lx ly = refl
  hebrew_later (e ∷ later) past sp lx ly =
      let more = strands_more later past in
      let g = grows_next (later ++ past) sp.0 e.task e.strand e.action sp.1 in
      let here : x < next_strand (later ++ past) = omega arith in
      let there : y < next_strand (later ++ past) = omega arith in
      same_before (next_strand (later ++ past)) (hebrew_past (later ++ past)) (hebrew_past (e ∷ (later ++ past))) x y g.h_keep here there ne
      ((whole_he (later ++ past) sp.0).all y there) ((whole_he (e ∷ (later ++ past)) sp).all y (omega arith))
      ∙ hebrew_later later past sp.0 lx ly

pub orders_stay : OrdersStay
orders_stay s later known english hebrew sound are =
    let turn : reverse (s ++ later) ≡ reverse later ++ reverse s = reverse-append s later in
    let sp : IsSoundPast (reverse later ++ reverse s) = subst IsSoundPast turn sound in
    let en : english ≡ english_past (reverse later ++ reverse s) = are.english_is ∙ ap english_past turn in
    let he : hebrew ≡ hebrew_past (reverse later ++ reverse s) = are.hebrew_is ∙ ap hebrew_past turn in
    record {
      first = λ x y kx ky ne. ap (stands_before x y) en ∙ english_later x y ne (reverse later) (reverse s) sp kx.there ky.there;
      second = λ x y kx ky ne. ap (stands_before x y) he ∙ hebrew_later x y ne (reverse later) (reverse s) sp kx.there ky.there;
    }
