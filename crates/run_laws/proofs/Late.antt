-- No path leads from the strand of a later event to that of an earlier one.
use Rattle.std.proofs.Common.{◌≡◌, ◌↔◌, ℕ, ◌<◌, ◌≤◌, List, [], ◌∷◌, ◌++◌, inl, inr, refl, sym, ap, ◌∙◌, subst, arith}
use Rattle.std.proofs.lemmas.List.{reverse-append}
use Rattle.std.proofs.lemmas.List.Elements.{filter-append}
use Rattle.std.specs.Prelude.{Some, None, option_map, reverse}
use Rattle.fut_base.specs.declared.record.Value.{Value}
use Rattle.fut_base.specs.declared.event.Event.{Event}
use Rattle.fut_base.specs.Events.{structural, structure_of}
use Rattle.fut_base.specs.Dag.{Among, Reaches, ReachesBy, edges_past, last_of}
use Rattle.fut_base.specs.Sound.{IsSoundPast, current, next_strand}
use Rattle.fut_syntax.specs.Trees as tree
use Rattle.task_machine.specs.Machine.{Machine, opening, Leads}
use Rattle.task_machine.proofs.Leading.{split}
use Rattle.task_machine.proofs.Making.{strands_rise, strands_were_made}
use Rattle.strand_laws.proofs.Still.{current_ends_paths, paths_are_kept}
use Rattle.strand_laws.proofs.Structure.{structure_has_edges}
use Rattle.run_laws.specs.Laws.{LaterReachesNone, PathsOutlast, Mirrors, past_of}
use Rattle.run_laws.proofs.Mirrored.{mirrors}
use Rattle.run_laws.proofs.Once.{shifted, strands_grow}
use Rattle.run_laws.proofs.Sound.{sound_past}

past_split : (before rest : List Event) → past_of (before ++ rest) ≡ reverse (structure_of rest) ++ past_of before
past_split before rest =
    ap (λ (l : List Event). reverse l) (filter-append (λ e. structural e.action) before rest) ∙ reverse-append (structure_of before) (structure_of rest)

-- each event stands on a strand that there is afterwards
stood : (P : tree.Program) (front h : List Event) (m n : Machine) → Leads P (opening P) front m → Leads P m h n → (d : Event) → Among d h → d.strand < n.strands
stood P front [] m n c l d a = absurd a
stood P front (e ∷ h) m n c (next, step, rest) d (inl same) =
    let made : step.task.strand < m.strands = strands_were_made P front m e.task step.task c step.present in
    let on : step.task.strand ≡ e.strand = step.strand in
    let up = strands_rise P m e next step in
    let grow : next.strands ≤ n.strands = strands_grow P next h n rest in
    subst (λ (z : Event). z.strand < n.strands) same (omega arith)
stood P front (e ∷ h) m n c (next, step, rest) d (inr a) = stood P (front ++ e ∷ []) h next n (shifted P front m e next c step) rest d a

pub later_reaches_none : LaterReachesNone
later_reaches_none P before e later (m, l) d a reach =
    let k = split P (opening P) before (e ∷ later) m l in
    let step = k.2.1 in
    let x : Mirrors (past_of before) k.0 = mirrors P before k.0 k.1 in
    let me = x.each e.task step.task step.present in
    let cur : current (past_of before) e.task ≡ Some e.strand = me.strand ∙ ap (λ s. Some s) step.strand in
    let run : last_of (past_of before) e.task ≡ None = me.last ∙ ap (λ o. option_map (λ (v : Value). step.task.strand) o) step.running in
    let low : d.strand < k.0.strands = stood P [] before (opening P) k.0 refl k.1 d a in
    let same : next_strand (past_of before) ≡ k.0.strands = x.strands in
    let whole = past_split before (e ∷ later) in
    let sp : IsSoundPast (reverse (structure_of (e ∷ later)) ++ past_of before) = subst IsSoundPast whole (sound_past P (before ++ e ∷ later) m l) in
    let there : ReachesBy (edges_past (reverse (structure_of (e ∷ later)) ++ past_of before)) e.strand d.strand =
    subst (λ es. ReachesBy es e.strand d.strand) (sym (structure_has_edges (before ++ e ∷ later)) ∙ ap edges_past whole) reach in
    let kept = (paths_are_kept (reverse (structure_of (e ∷ later))) (past_of before) sp e.strand d.strand (omega arith)).0 there in
    sym (current_ends_paths (past_of before) (sound_past P before k.0 k.1) e.task e.strand d.strand cur run kept)

-- the paths of a legal history are those of its structure
in_structure : (h : List Event) (u v : ℕ) → Reaches h u v ↔ ReachesBy (edges_past (past_of h)) u v
in_structure h u v = (subst (λ es. ReachesBy es u v) (sym (structure_has_edges h)), subst (λ es. ReachesBy es u v) (structure_has_edges h))

pub paths_outlast : PathsOutlast
paths_outlast P before later m l (n, whole) u v low =
    let x : Mirrors (past_of before) m = mirrors P before m l in
    let same : next_strand (past_of before) ≡ m.strands = x.strands in
    let parts = past_split before later in
    let sp : IsSoundPast (reverse (structure_of later) ++ past_of before) = subst IsSoundPast parts (sound_past P (before ++ later) n whole) in
    let kept = paths_are_kept (reverse (structure_of later)) (past_of before) sp u v (omega arith) in
    let short = in_structure before u v in
    let long = in_structure (before ++ later) u v in (
      λ r. long.1 (subst (λ l. ReachesBy (edges_past l) u v) (sym parts) (kept.1 (short.0 r))),
      λ r. short.1 (kept.0 (subst (λ l. ReachesBy (edges_past l) u v) parts (long.0 r))),
    )
