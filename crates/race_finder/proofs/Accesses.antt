-- One more access in what a finder knows.
use Rattle.std.proofs.Common.{◌≡◌, ℕ, ◌+◌, ◌<◌, ◌≤◌, ◌^◌, List, [], ◌∷◌, ◌++◌, length, reverse, set, inl, inr, subst, ap, sym, ◌∙◌, arith, option_to_list}
use Rattle.std.proofs.Common.{slice_get, length-append}
use Rattle.std.specs.Prelude.{Option, Some, None}
use Rattle.std.proofs.lemmas.List.{append-nil, length-set}
use Rattle.fut_base.specs.declared.event.Event.{Event}
use Rattle.fut_base.specs.Events.{structure_of}
use Rattle.fut_base.specs.Dag.{Among, edges_of}
use Rattle.fut_base.specs.Sound.{IsSound, next_strand}
use Rattle.strand_laws.proofs.Structure.{structure_has_edges}
use Rattle.strand_laws.proofs.Homes.{orders_have_strands}
use Rattle.strand_laws.proofs.Links.{linked}
use Rattle.strand_laws.proofs.Places.{among_or}
use Rattle.strand_tree.specs.declared.strand.Strand.{Strand}
use Rattle.strand_tree.specs.Placing.{IsStrandOf, AreOrders}
use Rattle.reach_table.specs.Telling.{AllKnown}
use Rattle.reach_table.proofs.Events.{orders_stay}
use Rattle.access_shards.specs.declared.kept.Access.{Access}
use Rattle.access_shards.specs.declared.kept.Kept.{Kept}
use Rattle.access_shards.specs.declared.kept.Kept.TheVariants.{Clean, Found}
use Rattle.access_shards.specs.Touches.{Touch, IsLate, IsRising}
use Rattle.access_shards.specs.Kept.{Kind, touch, AreKnown, IsViewOf, IsKept, IsWriter}
use Rattle.access_shards.specs.Logged.{Logged, IsLogOf, KeepsOneMore}
use Rattle.access_shards.proofs.Logging.{log_same}
use Rattle.access_shards.specs.Histories.{kind_of, touches_of, IsInStep}
use Rattle.access_shards.proofs.Growing.{current_may_come}
use Rattle.access_shards.proofs.Histories.{accesses_are_late}
use Rattle.race_finder.specs.declared.track.Track.{Track}
use Rattle.race_finder.specs.Finding.{IsTrackOf, AreTracksOf, AreLogsOf, Knows}
use Rattle.race_finder.proofs.Lists.{set_get, push_get}
use Rattle.race_finder.proofs.Next.{touched, untouched, structure_same, standing, current_of, last_in, kind_else, kind_plain}

-- the items of lists that are the orders are the strands
pub strands_in : (s : List Event) (english hebrew : List ℕ) → IsSound s → AreOrders s english hebrew
    → (length english ≡ next_strand (reverse s)) × (length hebrew ≡ next_strand (reverse s))
strands_in s english hebrew sound o =
    let k = orders_have_strands (reverse s) sound in
    (ap (length {A = ℕ}) o.english_is ∙ k.0, ap (length {A = ℕ}) o.hebrew_is ∙ k.1)

pub strand_known : (s : List Event) (english hebrew : List ℕ) → IsSound s → AreOrders s english hebrew → (v : Strand) → IsStrandOf s v
    → v.number < length english
strand_known s english hebrew sound o v of = let k = strands_in s english hebrew sound o in omega (arith, k.0, of.there)

pub view_of : (s : List Event) (english hebrew : List ℕ) (t : ℕ) (d : Track) → IsSound s → AreOrders s english hebrew → IsTrackOf s t d
    → IsViewOf s d.reach d.at (length english) english hebrew
view_of s english hebrew t d sound o of =
    record {
      sound = sound;
      here = of.strand;
      table_is = of.table;
      orders = orders_stay s [] (length english) english hebrew (subst IsSound (sym (append-nil s)) sound)
          (subst (λ l. AreOrders l english hebrew) (sym (append-nil s)) o);
    }

pub track_known : (s : List Event) (english hebrew : List ℕ) (t : ℕ) (d : Track) → IsSound s → AreOrders s english hebrew → IsTrackOf s t d
    → (d.at.number < length english) × AllKnown (length english) d.reach
track_known s english hebrew t d sound o of = (
  strand_known s english hebrew sound o d.at of.strand,
  λ w there. strand_known s english hebrew sound
      o w (of.table.homes w there),
)

writer_known : (s : List Event) (english hebrew : List ℕ) → IsSound s → AreOrders s english hebrew → (past : List (Touch Kind)) (o : Option Access)
    → IsWriter s past o → (a : Access) → Among a (option_to_list o) → a.strand.number < length english
writer_known s english hebrew sound o past None w a there = absurd there
writer_known s english hebrew sound o past (Some x) w a (inl e) = strand_known s english hebrew sound o a.strand
    (subst (λ (z : Access). IsStrandOf s z.strand) e w.2.strand_of)
writer_known s english hebrew sound o past (Some x) w a (inr z) = absurd z

pub kept_known : (s : List Event) (english hebrew : List ℕ) → IsSound s → AreOrders s english hebrew → (past : List (Touch Kind)) (kept : Kept)
    → IsKept s past kept → AreKnown (length english) kept
kept_known s english hebrew sound o past (Found i j) k = tt
kept_known s english hebrew sound o past (Clean writer readers) k = λ a there. elim (among_or a (option_to_list writer) readers.items there) [
  | inl h ↦ writer_known s english hebrew sound o past writer k.1 a h
  | inr h ↦ strand_known s english hebrew sound o a.strand (k.2.each a h).2.strand_of
]

-- what is kept with the access that an event is
pub kept_next : (h : List Event) (e : Event) (c : ℕ) (kind : Kind) (d : Track) (english hebrew : List ℕ) (place : ℕ) (old new : Logged)
    → IsInStep h → IsInStep (h ++ e ∷ []) → kind_of c e.action ≡ Some kind → AreOrders (structure_of h) english hebrew → IsTrackOf (structure_of h) e.task d
    → place ≡ length h
    → KeepsOneMore d.reach d.at place kind (length english) english hebrew old new
    → IsLogOf (structure_of h) (touches_of c h) old → IsLogOf (structure_of (h ++ e ∷ [])) (touches_of c (h ++ e ∷ [])) new
kept_next h e c kind d english hebrew place old new before steps is o of place_is keeps k =
    let s = structure_of h in
    let past = touches_of c h in
    let stand = standing h e steps in
    let here : d.at.number ≡ e.strand = some_same (sym of.stands ∙ current_of h e.task ∙ stand.stands) in
    let late = accesses_are_late h c before in
    let more : touches_of c (h ++ e ∷ []) ≡ touch place d.at.number kind ∷ past =
    touched h e c kind is ∙ ap (λ n. touch n e.strand kind ∷ past) (sym place_is) ∙ ap (λ n. touch place n kind ∷ past) (sym here) in
    let rising : IsRising (touch place d.at.number kind ∷ past) = subst (λ l. IsRising l) more (accesses_are_late (h ++ e ∷ []) c steps).0 in
    let late' : IsLate (edges_of s) past = subst (λ es. IsLate es past) (sym (structure_has_edges h)) late.1 in
    let come = current_may_come s past e.task d.at place kind before.sound late.2 late' of.stands (last_in h e.task ∙ stand.running) rising in
    let kept : IsLogOf s (touch place d.at.number kind ∷ past) new = keeps s past (view_of s english hebrew e.task d before.sound o of) come k in
    subst (λ l. IsLogOf l (touches_of c (h ++ e ∷ [])) new) (sym (structure_same h e (kind_plain e.action c kind is)))
    (subst (λ l. IsLogOf s l new) (sym more) kept)
  where
    some_same : {a b : ℕ} → Some a ≡ Some b → a ≡ b
    some_same {a} {b} h = cc

-- a log of a cell without accesses is added
pub logs_push : (h : List Event) (logs : List Logged) (l : Logged) → ((s : List Event) → IsLogOf s [] l) → AreLogsOf h logs → AreLogsOf h (logs ++ l ∷ [])
logs_push h logs l empty a =
    record {
      each = λ c k is. elim (push_get logs l c k is) [
        | inl n ↦ subst (λ (x : Logged). IsLogOf (structure_of h) (touches_of c h) x) n.1
            (subst (λ p. IsLogOf (structure_of h) p l) (sym (a.rest c (omega (arith, n.0)))) (empty (structure_of h)))
        | inr o ↦ a.each c k o.1
      ];
      rest = λ c le. a.rest c (let n = length-append logs (l ∷ []) in omega (arith, n, le));
    }

-- the logs of a history with one more access
pub logs_next : (h : List Event) (e : Event) (c : ℕ) (kind : Kind) (logs : List Logged) (new : Logged) → kind_of c e.action ≡ Some kind → c < length logs
    → AreLogsOf h logs
    → IsLogOf (structure_of (h ++ e ∷ [])) (touches_of c (h ++ e ∷ [])) new → AreLogsOf (h ++ e ∷ []) (set logs c new)
logs_next h e c kind logs new is lt a k =
    record {
      each = λ d l at. elim (set_get logs c d new l at) [
        | inl n ↦ subst (λ (x : Logged). IsLogOf (structure_of (h ++ e ∷ [])) (touches_of d (h ++ e ∷ [])) x) n.1
            (subst (λ q. IsLogOf (structure_of (h ++ e ∷ [])) (touches_of q (h ++ e ∷ [])) new) (sym n.0) k)
        | inr o ↦
            subst (λ s. IsLogOf s (touches_of d (h ++ e ∷ [])) l) (sym (structure_same h e (kind_plain e.action c kind is)))
            (subst (λ p. IsLogOf (structure_of h) p l) (sym (untouched h e d (kind_else e.action c d kind is o.0))) (a.each d l o.1))
      ];
      rest = λ d le. (
          let n = length-set logs c new in
          untouched h e d (kind_else e.action c d kind is (λ q. absurd (omega (arith, n, le, q, lt)))) ∙ a.rest d (omega (arith, n, le)));
    }

-- a log whose room alone is another
pub logs_same : (h : List Event) (logs : List Logged) (c : ℕ) (old new : Logged) → slice_get logs c ≡ Some old → new.kept ≡ old.kept → new.rise ≡ old.rise
    → new.sorted ≡ old.sorted → AreLogsOf h logs → AreLogsOf h (set logs c new)
logs_same h logs c old new is same level order a =
    record {
      each = λ d l at. elim (set_get logs c d new l at) [
        | inl n ↦ subst (λ (x : Logged). IsLogOf (structure_of h) (touches_of d h) x) n.1
            (subst (λ q. IsLogOf (structure_of h) (touches_of q h) new) (sym n.0)
            (log_same (structure_of h) (touches_of c h) old new same level order (a.each c old is)))
        | inr o ↦ a.each d l o.1
      ];
      rest = λ d le. a.rest d (let n = length-set logs c new in omega (arith, n, le));
    }

-- all that is known with one more access
pub knows_access : (h : List Event) (e : Event) (c : ℕ) (kind : Kind) (english hebrew english' hebrew' : List ℕ) (tracks : List Track)
    (logs logs' : List Logged) (count count' : ℕ) → IsInStep (h ++ e ∷ []) → kind_of c e.action ≡ Some kind → Knows h english hebrew tracks logs count
    → english' ≡ english → hebrew' ≡ hebrew
    → AreLogsOf (h ++ e ∷ []) logs' → length logs' ≤ 2 ^ 32 → count' ≡ count + 1 → Knows (h ++ e ∷ []) english' hebrew' tracks logs' count'
knows_access h e c kind english hebrew english' hebrew' tracks logs logs' count count' steps is k en he cells few counted =
    let same = structure_same h e (kind_plain e.action c kind is) in
    record {
      steps = steps;
      orders = subst (λ s. AreOrders s english' hebrew') (sym same) (record { english_is = en ∙ k.orders.english_is; hebrew_is = he ∙ k.orders.hebrew_is });
      tasks = subst (λ s. AreTracksOf s tracks) (sym same) k.tasks;
      cells = cells;
      few = few;
      length_is = (let n = length-append h (e ∷ []) in omega (arith, n, k.length_is, counted));
    }

-- the task of an event that may come next is there
pub task_in : (h : List Event) (e : Event) (english hebrew : List ℕ) (tracks : List Track) (logs : List Logged) (count task : ℕ)
    → Knows h english hebrew tracks logs count → IsInStep (h ++ e ∷ []) → e.task ≡ task → task < length tracks
task_in h e english hebrew tracks logs count task k steps is =
    let stand = standing h e steps in
    let lt = ((linked (reverse (structure_of h)) k.steps.sound).cur e.task e.strand (current_of h e.task ∙ stand.stands)).0 in
    omega (arith, lt, is, k.tasks.count)

pub track_of : (h : List Event) (english hebrew : List ℕ) (tracks : List Track) (logs : List Logged) (count task : ℕ) (d : Track)
    → Knows h english hebrew tracks logs count → slice_get tracks task ≡ Some d
    → (d.at.number < length english) × AllKnown (length english) d.reach
track_of h english hebrew tracks logs count task d k at = track_known (structure_of h) english hebrew task d k.steps.sound k.orders (k.tasks.each task d at)

-- what stays known where logs are added and given room
pub knows_logs : (h : List Event) (english hebrew : List ℕ) (tracks : List Track) (logs logs' : List Logged) (count : ℕ)
    → Knows h english hebrew tracks logs count
    → AreLogsOf h logs' → length logs' ≤ 2 ^ 32 → Knows h english hebrew tracks logs' count
knows_logs h english hebrew tracks logs logs' count k cells few = record {
  steps = k.steps;
  orders = k.orders;
  tasks = k.tasks;
  cells = cells;
  few = few;
  length_is = k.length_is;
}

-- a cell's log in a list that was made longer and given room
module _ (h : List Event) (english hebrew : List ℕ) (tracks : List Track) (logs grown : List Logged) (count cell : ℕ) (old room : Logged)
    (k : Knows h english hebrew tracks logs count) (cells : AreLogsOf h grown) (few : length grown ≤ 2 ^ 32)
    (at : slice_get grown cell ≡ Some old) (same : room.kept ≡ old.kept) (level : room.rise ≡ old.rise) (order : room.sorted ≡ old.sorted) where
  pub knows_room : Knows h english hebrew tracks (set grown cell room) count
  knows_room = knows_logs h english hebrew tracks logs (set grown cell room) count k (logs_same h grown cell old room at same level order cells)
      (let n = length-set grown cell room in omega (arith, n, few))

  pub room_known : (l : Logged) → slice_get (set grown cell room) cell ≡ Some l → AreKnown (length english) l.kept
  room_known l is = kept_known (structure_of h) english hebrew k.steps.sound k.orders (touches_of cell h) l.kept (knows_room.cells.each cell l is).kept

  pub access_taken : (e : Event) (kind : Kind) (task : ℕ) (d : Track) (l new : Logged) (english' hebrew' : List ℕ) (count' : ℕ) → IsInStep (h ++ e ∷ [])
      → e.task ≡ task → kind_of cell e.action ≡ Some kind
      → slice_get tracks task ≡ Some d → cell < length grown → slice_get (set grown cell room) cell ≡ Some l
      → KeepsOneMore d.reach d.at count kind (length english) english hebrew l new
      → english' ≡ english → hebrew' ≡ hebrew → count' ≡ count + 1 → Knows (h ++ e ∷ []) english' hebrew' tracks (set (set grown cell room) cell new) count'
  access_taken e kind task d l new english' hebrew' count' steps task_is kind_is d_at there l_at keeps en he counted =
      let n = length-set grown cell room in
      let m = length-set (set grown cell room) cell new in
      let of : IsTrackOf (structure_of h) e.task d = subst (λ t. IsTrackOf (structure_of h) t d) (sym task_is) (k.tasks.each task d d_at) in
      let kept = kept_next h e cell kind d english hebrew count l new k.steps steps kind_is k.orders of k.length_is keeps (knows_room.cells.each cell l l_at) in
      knows_access h e cell kind english hebrew english' hebrew' tracks (set grown cell room) (set (set grown cell room) cell new) count count'
      steps kind_is knows_room en he
      (logs_next h e cell kind (set grown cell room) new kind_is (omega (arith, n, there)) knows_room.cells kept) (omega (arith, n, m, few)) counted
