-- One more structural event in what a finder knows.
use Rattle.std.proofs.Common.{◌≡◌, ◌≢◌, ℕ, ◌+◌, ◌<◌, Bool, true, false, List, [], ◌∷◌, ◌++◌, length, reverse, set, inl, inr, subst, ap, sym, refl, ◌∙◌, arith}
use Rattle.std.proofs.Common.{slice_get, length-append, ◌&&◌, if◌then◌else◌}
use Rattle.std.specs.Prelude.{Option, Some, None}
use Rattle.std.proofs.lemmas.List.{length-set}
use Rattle.std.proofs.lemmas.Option.{slice_get_within}
use Rattle.fut_base.specs.declared.record.Value.{Value}
use Rattle.fut_base.specs.declared.event.Event.{Event}
use Rattle.fut_base.specs.declared.event.Action.{Action}
use Rattle.fut_base.specs.declared.event.Action.TheVariants.{Reads, Writes, Spawns, Creates, Syncs, Gets, Ends}
use Rattle.fut_base.specs.Events.{structural, structure_of}
use Rattle.fut_base.specs.Dag.{last_of, block_of, ends}
use Rattle.fut_base.specs.Orders.{english_past, hebrew_past}
use Rattle.fut_base.specs.Sound.{IsSound, IsSoundPast, MayAct, current, current_by, next_task, tasks_by}
use Rattle.strand_laws.proofs.Links.{ev, if_off, if_self, linked, shown}
use Rattle.strand_laws.proofs.Frames.{frame}
use Rattle.strand_laws.proofs.Places.{by_eq}
use Rattle.strand_tree.specs.Placing.{AreOrders}
use Rattle.reach_table.proofs.Events.{tables_stay}
use Rattle.access_shards.specs.Logged.{Logged, IsLogOf}
use Rattle.access_shards.specs.Histories.{touches_of, IsInStep}
use Rattle.access_shards.proofs.Growing.{strand_stays, log_stays}
use Rattle.access_shards.proofs.Histories.{accesses_are_late}
use Rattle.race_finder.specs.declared.track.Track.{Track}
use Rattle.race_finder.specs.Finding.{last_if, IsTrackOf, AreTracksOf, AreLogsOf, Knows}
use Rattle.race_finder.proofs.Lists.{set_get, push_get}
use Rattle.race_finder.proofs.Next.{turned, untouched, structure_more, kind_none}

-- an event changes nothing of a task that was there and does not act
current_stays : (past : List Event) (by : ℕ) (a : Action) (t : ℕ) (o : Option ℕ) → MayAct past by a → t ≢ by → t < next_task past → current_by by a t o ≡ o
current_stays past by (Reads c v) t o m ne lt = refl
current_stays past by (Writes c v) t o m ne lt = refl
current_stays past by (Spawns code child kid cont args) t o m ne lt = if_off t by _ _ ne ∙ if_off t child _ _ (λ q. absurd (omega (arith, m.0, q, lt)))
current_stays past by (Creates code child kid cont args) t o m ne lt = if_off t by _ _ ne ∙ if_off t child _ _ (λ q. absurd (omega (arith, m.0, q, lt)))
current_stays past by (Syncs x) t o m ne lt = if_off t by _ _ ne
current_stays past by (Gets f v x) t o m ne lt = if_off t by _ _ ne
current_stays past by (Ends v) t o m ne lt = refl

last_stays : (past : List Event) (e : Event) (t : ℕ) → t ≢ e.task → last_of (e ∷ past) t ≡ last_of past t
last_stays past e t ne = by_eq (λ b. (if b && ends e.action then Some e.strand else last_of past t) ≡ last_of past t) t e.task (λ q. absurd (ne q)) (λ _. refl)

block_stays : (past : List Event) (e : Event) (t : ℕ) → t ≢ e.task → block_of (e ∷ past) t ≡ block_of past t
block_stays past e t ne = if_off t e.task _ _ ne

-- a list of structural events and one more
module _ (s : List Event) (e : Event) (sound : IsSound (s ++ e ∷ [])) where
  pub followed : IsSoundPast (e ∷ reverse s)
  followed = subst IsSoundPast (turned s e) sound

  pub acting_there : e.task < next_task (reverse s)
  acting_there = ((linked (reverse s) followed.0).cur e.task e.strand followed.1.stands).0

  pub track_stays : (t : ℕ) (d : Track) → IsTrackOf s t d → t ≢ e.task → t < next_task (reverse s) → IsTrackOf (s ++ e ∷ []) t d
  track_stays t d of ne lt =
      record {
        stands = ap (λ l. current l t) (turned s e) ∙ current_stays (reverse s) e.task e.action t (current (reverse s) t) followed.1.acts ne lt ∙ of.stands;
        strand = strand_stays s (e ∷ []) sound d.at of.strand;
        table = tables_stay s (e ∷ []) d.at.number d.reach sound of.strand.there of.table;
        block_is = of.block_is ∙ sym (ap (λ l. block_of l t) (turned s e) ∙ block_stays (reverse s) e t ne);
        last_is = ap (λ l. last_of l t) (turned s e) ∙ last_stays (reverse s) e t ne ∙ of.last_is;
      }

  pub tracks_acted : (tracks : List Track) (new : Track) → tasks_by e.action ≡ 0 → AreTracksOf s tracks → IsTrackOf (s ++ e ∷ []) e.task new
      → AreTracksOf (s ++ e ∷ []) (set tracks e.task new)
  tracks_acted tracks new none a of =
      let n = length-set tracks e.task new in
      let more : next_task (reverse (s ++ e ∷ [])) ≡ next_task (reverse s) + tasks_by e.action = ap next_task (turned s e) in
      record {
        count = omega (arith, n, more, none, a.count);
        each = λ t d at. elim (set_get tracks e.task t new d at) [
          | inl q ↦ subst (IsTrackOf (s ++ e ∷ []) t) q.1 (subst (λ k. IsTrackOf (s ++ e ∷ []) k new) (sym q.0) of)
          | inr q ↦ track_stays t d (a.each t d q.1) q.0 (let lt = slice_get_within tracks t d q.1 in omega (arith, lt, a.count))
        ];
      }

  pub tracks_forked : (tracks : List Track) (new kid : Track) → tasks_by e.action ≡ 1 → AreTracksOf s tracks → IsTrackOf (s ++ e ∷ []) e.task new
      → IsTrackOf (s ++ e ∷ []) (next_task (reverse s)) kid
      → AreTracksOf (s ++ e ∷ []) (set tracks e.task new ++ kid ∷ [])
  tracks_forked tracks new kid one a of kid_of =
      let n = length-set tracks e.task new in
      let m = length-append (set tracks e.task new) (kid ∷ []) in
      let more : next_task (reverse (s ++ e ∷ [])) ≡ next_task (reverse s) + tasks_by e.action = ap next_task (turned s e) in
      let last : length (set tracks e.task new) ≡ next_task (reverse s) = n ∙ a.count in
      record {
        count = omega (arith, m, last, more, one);
        each = λ t d at. elim (push_get (set tracks e.task new) kid t d at) [
          | inl q ↦ subst (IsTrackOf (s ++ e ∷ []) t) q.1 (subst (λ k. IsTrackOf (s ++ e ∷ []) k kid) (sym (q.0 ∙ last)) kid_of)
          | inr r ↦ elim (set_get tracks e.task t new d r.1) [
            | inl q ↦ subst (IsTrackOf (s ++ e ∷ []) t) q.1 (subst (λ k. IsTrackOf (s ++ e ∷ []) k new) (sym q.0) of)
            | inr q ↦ track_stays t d (a.each t d q.1) q.0 (omega (arith, r.0, last))
          ]
        ];
      }

  -- the acting task stands where its strand says, and has not ended
  pub acting_at : (d : Track) → IsTrackOf s e.task d → d.at.number ≡ e.strand
  acting_at d of = some_same (sym of.stands ∙ followed.1.stands)
    where
      some_same : {a b : ℕ} → Some a ≡ Some b → a ≡ b
      some_same {a} {b} h = cc

  pub acting_runs : (d : Track) → IsTrackOf s e.task d → d.ended ≡ false
  acting_runs d of = none_if d.ended d.at.number (sym of.last_is ∙ followed.1.running)
    where
      none_if : (b : Bool) (n : ℕ) → last_if b n ≡ None → b ≡ false
      none_if true n h = cc
      none_if false n h = refl

  pub new_block : block_of (reverse s) (next_task (reverse s)) ≡ []
  new_block = let l = linked (reverse s) followed.0 in l.block (next_task (reverse s)) ∙ (l.unborn (next_task (reverse s)) (omega arith)).0

  pub new_last : last_of (reverse s) (next_task (reverse s)) ≡ None
  new_last =
      let l = linked (reverse s) followed.0 in
      let t = next_task (reverse s) in
      l.last t ∙ ap (λ b. shown b (frame (reverse s) t).cur) (l.unborn t (omega arith)).1

module _ (h : List Event) (e : Event) (steps : IsInStep (h ++ e ∷ [])) (plain : structural e.action ≡ true) where
  pub sound_more : IsSound (structure_of h ++ e ∷ [])
  sound_more = subst IsSound (structure_more h e plain) steps.sound

  logs_more : (logs : List Logged) → IsInStep h → AreLogsOf h logs → AreLogsOf (h ++ e ∷ []) logs
  logs_more logs before a =
      record {
        each = λ c l at.
            subst (λ s. IsLogOf s (touches_of c (h ++ e ∷ [])) l) (sym (structure_more h e plain))
            (subst (λ p. IsLogOf (structure_of h ++ e ∷ []) p l) (sym (untouched h e c (kind_none e.action c plain)))
            (log_stays (structure_of h) (e ∷ []) (touches_of c h) l sound_more (accesses_are_late h c before).2 (a.each c l at)));
        rest = λ c le. untouched h e c (kind_none e.action c plain) ∙ a.rest c le;
      }

  -- all that is known with one more structural event
  pub knows_structural : (english hebrew english' hebrew' : List ℕ) (tracks tracks' : List Track) (logs : List Logged) (count count' : ℕ)
      → Knows h english hebrew tracks logs count
      → AreOrders (structure_of h ++ e ∷ []) english' hebrew' → AreTracksOf (structure_of h ++ e ∷ []) tracks' → count' ≡ count + 1
      → Knows (h ++ e ∷ []) english' hebrew' tracks' logs count'
  knows_structural english hebrew english' hebrew' tracks tracks' logs count count' k orders tasks counted =
      record {
        steps = steps;
        orders = subst (λ s. AreOrders s english' hebrew') (sym (structure_more h e plain)) orders;
        tasks = subst (λ s. AreTracksOf s tracks') (sym (structure_more h e plain)) tasks;
        cells = logs_more logs k.steps k.cells;
        few = k.few;
        length_is = (let n = length-append h (e ∷ []) in omega (arith, n, k.length_is, counted));
      }

abbrev pub ended : Track → Track
ended d = record { at = d.at; reach = d.reach; block = d.block; ended = true }

module _ (h : List Event) (t st : ℕ) (v : Value) (steps : IsInStep (h ++ ev t st (Ends v) ∷ [])) where
  abbrev e : Event
  e = ev t st (Ends v)

  end_track : (d : Track) → IsTrackOf (structure_of h) t d → IsTrackOf (structure_of h ++ e ∷ []) t (ended d)
  end_track d of =
      let s = structure_of h in
      let sound = sound_more h e steps refl in
      let past = reverse s in
      record {
        stands = ap (λ l. current l t) (turned s e) ∙ of.stands;
        strand = strand_stays s (e ∷ []) sound d.at of.strand;
        table = tables_stay s (e ∷ []) d.at.number d.reach sound of.strand.there of.table;
        block_is = of.block_is ∙ sym (ap (λ l. block_of l t) (turned s e) ∙ if_self t (block_of past t) (block_of past t));
        last_is = ap (λ l. last_of l t) (turned s e) ∙ by_eq (λ b. (if b && true then Some st else last_of past t) ≡ Some d.at.number) t t
            (λ _. ap Some (sym (acting_at s e sound d of))) (λ ne. absurd (ne refl));
      }

  pub knows_end : (english hebrew : List ℕ) (tracks : List Track) (logs : List Logged) (count count' : ℕ) (d : Track) → Knows h english hebrew tracks logs count
      → slice_get tracks t ≡ Some d → count' ≡ count + 1
      → Knows (h ++ e ∷ []) english hebrew (set tracks t (ended d)) logs count'
  knows_end english hebrew tracks logs count count' d k at counted =
      let s = structure_of h in
      knows_structural h e steps refl english hebrew english hebrew tracks (set tracks t (ended d)) logs count count' k
      (record { english_is = k.orders.english_is ∙ sym (ap english_past (turned s e)); hebrew_is = k.orders.hebrew_is ∙ sym (ap hebrew_past (turned s e)) })
      (tracks_acted s e (sound_more h e steps refl) tracks (ended d) refl k.tasks (end_track d (k.tasks.each t d at))) counted

-- the same of any event by which a task ends
pub end_taken : (h : List Event) (e : Event) (task : ℕ) (v : Value) → e.task ≡ task → e.action ≡ Ends v → IsInStep (h ++ e ∷ [])
    → (english hebrew : List ℕ) (tracks : List Track) (logs : List Logged) (count count' : ℕ) (d : Track) → Knows h english hebrew tracks logs count
    → slice_get tracks task ≡ Some d → count' ≡ count + 1
    → Knows (h ++ e ∷ []) english hebrew (set tracks task (ended d)) logs count'
end_taken h e task v task_is acts steps english hebrew tracks logs count count' d k at counted =
    let E : Action → Event = λ a. ev e.task e.strand a in
    subst (λ a. Knows (h ++ E a ∷ []) english hebrew (set tracks task (ended d)) logs count') (sym acts)
    (subst (λ t. Knows (h ++ E (Ends v) ∷ []) english hebrew (set tracks t (ended d)) logs count') task_is
    (knows_end h e.task e.strand v (subst (λ a. IsInStep (h ++ E a ∷ [])) acts steps) english hebrew tracks logs count count' d k
    (subst (λ t. slice_get tracks t ≡ Some d) (sym task_is) at) counted))
