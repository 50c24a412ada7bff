-- Structural events that come next.
use Rattle.std.proofs.Common.{◌≡◌, ℕ, ◌+◌, ◌*◌, ◌≤◌, Bool, true, false, cond, List, [], ◌∷◌, ◌++◌, length, reverse, filter, set, inl, inr, subst, ap, sym, refl}
use Rattle.std.proofs.Common.{◌∙◌, arith, slice_get}
use Rattle.std.specs.Prelude.{Option, Some}
use Rattle.std.proofs.lemmas.List.{length-reverse, length-set}
use Rattle.fut_base.specs.declared.event.Event.{Event}
use Rattle.fut_base.specs.declared.event.Action.{Action}
use Rattle.fut_base.specs.declared.event.Action.TheVariants.{Reads, Writes, Spawns, Creates, Syncs, Gets, Ends}
use Rattle.fut_base.specs.Events.{structural, structure_of}
use Rattle.fut_base.specs.Dag.{block_of}
use Rattle.fut_base.specs.Sound.{IsSound, MayAct, AllEnded, next_task, next_strand, strands_by, tasks_by, value_of}
use Rattle.strand_laws.proofs.Links.{ev}
use Rattle.strand_laws.proofs.Structure.{reverse_filter}
use Rattle.strand_tree.specs.declared.strand.Strand.{Strand}
use Rattle.strand_tree.specs.Placing.{AreNext, IsStrandOf, IsLastOfFirst}
use Rattle.reach_table.specs.Telling.{HasTable}
use Rattle.reach_table.proofs.Events.{after_sync}
use Rattle.access_shards.specs.Logged.{Logged}
use Rattle.access_shards.specs.Histories.{IsInStep}
use Rattle.race_finder.specs.declared.track.Track.{Track}
use Rattle.race_finder.specs.declared.forks.Fork.{Fork}
use Rattle.race_finder.specs.declared.forks.Fork.TheVariants as fork
use Rattle.race_finder.specs.Places.{Placed}
use Rattle.race_finder.specs.Finding.{last_if, IsTrackOf, AreTracksOf, Knows, IsSpawnBy, IsCreateBy, IsForkBy, IsGetBy, IsSyncBy}
use Rattle.race_finder.specs.Acting.{AreForked, SpawnsOne, CreatesOne, ForksOne, AreJoined, GetsOne, SyncsOne, AreOf, MaySync, TableAfterGet, TableOfBlock}
use Rattle.race_finder.specs.Acting.{IsSameTrack}
use Rattle.race_finder.proofs.Lists.{set_get}
use Rattle.access_shards.proofs.Histories.{by_structure}
use Rattle.race_finder.proofs.Accesses.{strands_in}
use Rattle.race_finder.proofs.Structural.{followed, acting_at, tracks_forked, tracks_acted, sound_more, knows_structural}

-- a history has at most two strands an event, and one more
few_by : (a : Action) → strands_by a ≤ 2
few_by (Reads c v) = omega arith
few_by (Writes c v) = omega arith
few_by (Spawns d c k y args) = omega arith
few_by (Creates d c k y args) = omega arith
few_by (Syncs x) = omega arith
few_by (Gets f v x) = omega arith
few_by (Ends v) = omega arith

few_next : (b : Bool) (e : Event) (rest : List Event) (n : ℕ) → next_strand rest ≤ 1 + 2 * n → next_strand (cond b (e ∷ rest) rest) ≤ 1 + 2 * (n + 1)
few_next true e rest n le = let k = few_by e.action in omega (arith, k, le)
few_next false e rest n le = omega (arith, le)

few_strands : (past : List Event) → next_strand (filter by_structure past) ≤ 1 + 2 * length past
few_strands [] = omega arith
few_strands (e ∷ past) = let k = few_next (by_structure e) e (filter by_structure past) (length past) (few_strands past) in omega (arith, k)

pub places_few : (h : List Event) (english hebrew : List ℕ) (tracks : List Track) (logs : List Logged) (count : ℕ) → Knows h english hebrew tracks logs count
    → (length english ≤ 1 + 2 * length h) × (length english ≡ length hebrew)
places_few h english hebrew tracks logs count k =
    let n = strands_in (structure_of h) english hebrew k.steps.sound k.orders in
    let few = subst (λ l. next_strand l ≤ 1 + 2 * length (reverse h)) (sym (reverse_filter by_structure h)) (few_strands (reverse h)) in
    let len = length-reverse h in
    (omega (arith, n.0, few, len), n.0 ∙ sym n.1)

ev_same : (e : Event) (t st : ℕ) (a : Action) → e.task ≡ t → e.strand ≡ st → e.action ≡ a → e ≡ ev t st a
ev_same e t st a p q r = ap (λ x. ev x e.strand e.action) p ∙ ap (λ x. ev t x e.action) q ∙ ap (λ x. ev t st x) r

-- a task of which the same is remembered
pub same_known : (h : List Event) (english hebrew english' hebrew' : List ℕ) (tracks : List Track) (logs : List Logged) (count task : ℕ) (d d' : Track)
    → Knows h english hebrew tracks logs count → slice_get tracks task ≡ Some d
    → IsSameTrack d d' → english' ≡ english → hebrew' ≡ hebrew → Knows h english' hebrew' (set tracks task d') logs count
same_known h english hebrew english' hebrew' tracks logs count task d d' k at same en he =
    let s = structure_of h in
    let of = k.tasks.each task d at in
    let of' : IsTrackOf s task d' = record {
      stands = of.stands ∙ ap (λ (v : Strand). Some v.number) (sym same.at_is);
      strand = subst (λ v. IsStrandOf s v) (sym same.at_is) of.strand;
      table = subst (λ (v : Strand). HasTable s v.number d'.reach) (sym same.at_is) (subst (λ t. HasTable s d.at.number t) (sym same.table_is) of.table);
      block_is = same.block_is ∙ of.block_is;
      last_is = of.last_is ∙ ap (λ b. last_if b d.at.number) (sym same.ended_is) ∙ ap (λ (v : Strand). last_if d'.ended v.number) (sym same.at_is);
    } in
    record {
      steps = k.steps;
      orders = record { english_is = en ∙ k.orders.english_is; hebrew_is = he ∙ k.orders.hebrew_is };
      tasks = record {
        count = length-set tracks task d' ∙ k.tasks.count;
        each = λ t x xt. elim (set_get tracks task t d' x xt) [
          | inl q ↦ subst (IsTrackOf s t) q.1 (subst (λ n. IsTrackOf s n d') (sym q.0) of')
          | inr q ↦ k.tasks.each t x q.1
        ];
      };
      cells = k.cells;
      few = k.few;
      length_is = k.length_is;
    }

-- whose fork it is
pub fork_task : (f : Fork) (task child : ℕ) (e : Event) → IsForkBy f task child e → e.task ≡ task
fork_task fork.Spawn task child e p = p.task_is
fork_task fork.Create task child e p = p.task_is

module _ (h : List Event) (e : Event) (steps : IsInStep (h ++ e ∷ [])) (english hebrew : List ℕ) (tracks : List Track) (logs : List Logged) (count : ℕ)
    (k : Knows h english hebrew tracks logs count) where
  abbrev s : List Event
  s = structure_of h

  module _ (a : Action) (acts : e.action ≡ a) (plain : structural a ≡ true) where
    plain_e : structural e.action ≡ true
    plain_e = ap structural acts ∙ plain

    sound : IsSound (s ++ e ∷ [])
    sound = sound_more h e steps plain_e

    may : MayAct (reverse s) e.task a
    may = subst (MayAct (reverse s) e.task) acts (followed s e sound).1.acts

    forked : (task child : ℕ) (places' : Placed) (d' kid : Track) (count' : ℕ) → e.task ≡ task → tasks_by a ≡ 1 → child ≡ next_task (reverse s)
        → AreForked (s ++ e ∷ []) places' task child d' kid → count' ≡ count + 1
        → Knows (h ++ e ∷ []) places'.english places'.hebrew (set tracks task d' ++ kid ∷ []) logs count'
    forked task child places' d' kid count' task_is one child_is f counted =
        knows_structural h e steps plain_e english hebrew places'.english places'.hebrew tracks (set tracks task d' ++ kid ∷ []) logs count count' k f.orders
        (subst (λ t. AreTracksOf (s ++ e ∷ []) (set tracks t d' ++ kid ∷ [])) task_is
        (tracks_forked s e sound tracks d' kid (ap tasks_by acts ∙ one) k.tasks (subst (λ t. IsTrackOf (s ++ e ∷ []) t d') (sym task_is) f.acting)
        (subst (λ t. IsTrackOf (s ++ e ∷ []) t kid) child_is f.made)))
        counted

    joined : (task : ℕ) (places' : Placed) (d' : Track) (count' : ℕ) → e.task ≡ task → tasks_by a ≡ 0 → AreJoined (s ++ e ∷ []) places' task d'
        → count' ≡ count + 1
        → Knows (h ++ e ∷ []) places'.english places'.hebrew (set tracks task d') logs count'
    joined task places' d' count' task_is none j counted =
        knows_structural h e steps plain_e english hebrew places'.english places'.hebrew tracks (set tracks task d') logs count count' k j.orders
        (subst (λ t. AreTracksOf (s ++ e ∷ []) (set tracks t d')) task_is
        (tracks_acted s e sound tracks d' (ap tasks_by acts ∙ none) k.tasks (subst (λ t. IsTrackOf (s ++ e ∷ []) t d') (sym task_is) j.acting)))
        counted

    -- the acting task's strand, and the event with the numbers that were given
    here : (task : ℕ) (d : Track) → e.task ≡ task → slice_get tracks task ≡ Some d → (e.strand ≡ d.at.number) × IsTrackOf s task d
    here task d task_is at =
        let of = k.tasks.each task d at in
        (sym (acting_at s e sound d (subst (λ t. IsTrackOf s t d) (sym task_is) of)), of)

  first_new : length english ≡ next_strand (reverse s)
  first_new = (strands_in s english hebrew k.steps.sound k.orders).0

  pub spawn_taken : (task child : ℕ) (places places' : Placed) (d d' kid : Track) (tracks' : List Track) (count' : ℕ) → IsSpawnBy task child e
      → places.english ≡ english → places.hebrew ≡ hebrew → slice_get tracks task ≡ Some d
      → AreNext (length places.english) kid.at.number d'.at.number → SpawnsOne places d child places' d' kid → tracks' ≡ set tracks task d' ++ kid ∷ []
      → count' ≡ count + 1
      → Knows (h ++ e ∷ []) places'.english places'.hebrew tracks' logs count'
  spawn_taken task child places places' d d' kid tracks' count' p en he at numbers one tracks_is counted =
      let code = p.acts.0 in
      let args = p.acts.3 in
      let a = Spawns code child p.acts.1 p.acts.2 args in
      let m = may a p.acts.4 refl in
      let n = first_new in
      let len = ap (length {A = ℕ}) en in
      let kid_is : p.acts.1 ≡ kid.at.number = omega (arith, m.1, n, len, numbers.kid_is) in
      let cont_is : p.acts.2 ≡ d'.at.number = omega (arith, m.1, m.2, n, len, numbers.cont_is) in
      let at_is = here a p.acts.4 refl task d p.task_is at in
      let same : e ≡ ev task d.at.number (Spawns code child kid.at.number d'.at.number args) =
      ev_same e task d.at.number _ p.task_is at_is.0 (p.acts.4 ∙ ap (λ x. Spawns code child x p.acts.2 args) kid_is
      ∙ ap (λ x. Spawns code child kid.at.number x args) cont_is) in
      let f = one s task code args (subst (λ x. IsSound (s ++ x ∷ [])) same (sound a p.acts.4 refl)) (record {
        english_is = en ∙ k.orders.english_is;
        hebrew_is = he ∙ k.orders.hebrew_is;
      }) at_is.1 in
      subst (λ ds. Knows (h ++ e ∷ []) places'.english places'.hebrew ds logs count') (sym tracks_is)
      (forked a p.acts.4 refl task child places' d' kid count' p.task_is refl m.0
      (subst (λ x. AreForked (s ++ x ∷ []) places' task child d' kid) (sym same) f) counted)

  pub create_taken : (task child : ℕ) (places places' : Placed) (d d' kid : Track) (tracks' : List Track) (count' : ℕ) → IsCreateBy task child e
      → places.english ≡ english → places.hebrew ≡ hebrew → slice_get tracks task ≡ Some d
      → AreNext (length places.english) kid.at.number d'.at.number → CreatesOne places d child places' d' kid → tracks' ≡ set tracks task d' ++ kid ∷ []
      → count' ≡ count + 1
      → Knows (h ++ e ∷ []) places'.english places'.hebrew tracks' logs count'
  create_taken task child places places' d d' kid tracks' count' p en he at numbers one tracks_is counted =
      let code = p.acts.0 in
      let args = p.acts.3 in
      let a = Creates code child p.acts.1 p.acts.2 args in
      let m = may a p.acts.4 refl in
      let n = first_new in
      let len = ap (length {A = ℕ}) en in
      let kid_is : p.acts.1 ≡ kid.at.number = omega (arith, m.1, n, len, numbers.kid_is) in
      let cont_is : p.acts.2 ≡ d'.at.number = omega (arith, m.1, m.2, n, len, numbers.cont_is) in
      let at_is = here a p.acts.4 refl task d p.task_is at in
      let same : e ≡ ev task d.at.number (Creates code child kid.at.number d'.at.number args) =
      ev_same e task d.at.number _ p.task_is at_is.0 (p.acts.4 ∙ ap (λ x. Creates code child x p.acts.2 args) kid_is
      ∙ ap (λ x. Creates code child kid.at.number x args) cont_is) in
      let f = one s task code args (subst (λ x. IsSound (s ++ x ∷ [])) same (sound a p.acts.4 refl)) (record {
        english_is = en ∙ k.orders.english_is;
        hebrew_is = he ∙ k.orders.hebrew_is;
      }) at_is.1 in
      subst (λ ds. Knows (h ++ e ∷ []) places'.english places'.hebrew ds logs count') (sym tracks_is)
      (forked a p.acts.4 refl task child places' d' kid count' p.task_is refl m.0
      (subst (λ x. AreForked (s ++ x ∷ []) places' task child d' kid) (sym same) f) counted)

  pub fork_taken : (f : Fork) (task child : ℕ) (places places' : Placed) (d d' kid : Track) (tracks' : List Track) (count' : ℕ) → IsForkBy f task child e
      → places.english ≡ english → places.hebrew ≡ hebrew → slice_get tracks task ≡ Some d
      → AreNext (length places.english) kid.at.number d'.at.number → ForksOne f places d child places' d' kid → tracks' ≡ set tracks task d' ++ kid ∷ []
      → count' ≡ count + 1 → Knows (h ++ e ∷ []) places'.english places'.hebrew tracks' logs count'
  fork_taken fork.Spawn = spawn_taken
  fork_taken fork.Create = create_taken

  -- what is known of places in which there is room, and of all tasks
  pub known_of : (places : Placed) → places.english ≡ english → places.hebrew ≡ hebrew → AreOf s places tracks
  known_of places en he = record {
    sound = k.steps.sound;
    orders = record { english_is = en ∙ k.orders.english_is; hebrew_is = he ∙ k.orders.hebrew_is };
    tasks = k.tasks;
  }

  pub value_known : (task future : ℕ) (p : IsGetBy task future e) → value_of (reverse s) future ≡ Some p.acts.0
  value_known task future p = (may (Gets future p.acts.0 p.acts.1) p.acts.2 refl).1

  pub get_taken : (task future : ℕ) (places places' : Placed) (d d' : Track) (table : List Strand) (count' : ℕ) → IsGetBy task future e
      → places.english ≡ english → places.hebrew ≡ hebrew → slice_get tracks task ≡ Some d
      → d'.at.number ≡ length places.english → TableAfterGet places tracks task future table → GetsOne places d table places' d' → count' ≡ count + 1
      → Knows (h ++ e ∷ []) places'.english places'.hebrew (set tracks task d') logs count'
  get_taken task future places places' d d' table count' p en he at number table_is one counted =
      let value = p.acts.0 in
      let a = Gets future value p.acts.1 in
      let m = may a p.acts.2 refl in
      let n = first_new in
      let len = ap (length {A = ℕ}) en in
      let strand_is : p.acts.1 ≡ d'.at.number = omega (arith, m.0, n, len, number) in
      let at_is = here a p.acts.2 refl task d p.task_is at in
      let same : e ≡ ev task d.at.number (Gets future value d'.at.number) =
      ev_same e task d.at.number _ p.task_is at_is.0 (p.acts.2 ∙ ap (λ x. Gets future value x) strand_is) in
      let sound' : IsSound (s ++ ev task d.at.number (Gets future value d'.at.number) ∷ []) = subst (λ x. IsSound (s ++ x ∷ [])) same (sound a p.acts.2 refl) in
      let of = known_of places en he in
      let j = one s task future value sound' of.orders at_is.1 (table_is s value d'.at.number d of at sound') in
      joined a p.acts.2 refl task places' d' count' p.task_is refl (subst (λ x. AreJoined (s ++ x ∷ []) places' task d') (sym same) j) counted

  pub sync_may : (task : ℕ) (places : Placed) → IsSyncBy task e → places.english ≡ english → places.hebrew ≡ hebrew → MaySync s places tracks task
  sync_may task places p en he = record {
    of = known_of places en he;
    ended = subst (λ t. AllEnded (reverse s) (block_of (reverse s) t)) p.task_is (may (Syncs p.acts.0) p.acts.1 refl).1;
  }

  pub sync_taken : (task : ℕ) (places places' : Placed) (d d' : Track) (table : List Strand) (last : Option Strand) (count' : ℕ) → IsSyncBy task e
      → places.english ≡ english → places.hebrew ≡ hebrew → slice_get tracks task ≡ Some d
      → d'.at.number ≡ length places.english → TableOfBlock places tracks task table → IsLastOfFirst s task last → SyncsOne places d table last places' d'
      → count' ≡ count + 1
      → Knows (h ++ e ∷ []) places'.english places'.hebrew (set tracks task d') logs count'
  sync_taken task places places' d d' table last count' p en he at number table_is last_is one counted =
      let a = Syncs p.acts.0 in
      let m = may a p.acts.1 refl in
      let n = first_new in
      let len = ap (length {A = ℕ}) en in
      let strand_is : p.acts.0 ≡ d'.at.number = omega (arith, m.0, n, len, number) in
      let at_is = here a p.acts.1 refl task d p.task_is at in
      let same : e ≡ ev task d.at.number (Syncs d'.at.number) = ev_same e task d.at.number _ p.task_is at_is.0 (p.acts.1 ∙ ap (λ x. Syncs x) strand_is) in
      let sound' : IsSound (s ++ ev task d.at.number (Syncs d'.at.number) ∷ []) = subst (λ x. IsSound (s ++ x ∷ [])) same (sound a p.acts.1 refl) in
      let of = known_of places en he in
      let table' = after_sync s task d'.at.number d.at table sound' at_is.1.strand (table_is s d (sync_may task places p en he) at) in
      let j = one s task sound' of.orders at_is.1 last_is table' in
      joined a p.acts.1 refl task places' d' count' p.task_is refl (subst (λ x. AreJoined (s ++ x ∷ []) places' task d') (sym same) j) counted
