-- At the end of a run the entries of all traces are those of the log.
use Rattle.std.proofs.Common.{◌≡◌, ℕ, suc, ◌<◌, ◌≤◌, ◌==◌, List, [], ◌∷◌, ◌++◌, length, inl, inr, refl, sym, ap, ◌∙◌, subst, arith}
use Rattle.std.specs.Prelude.{◌↔◌, min, map, slice_get, option_map, Option, Some, None}
use Rattle.std.proofs.lemmas.Bool.{eq-eqb}
use Rattle.std.proofs.lemmas.List.{map-append}
use Rattle.std.proofs.lemmas.Option.{same_Some, slice_get_within, slice_get-map}
use Rattle.fut_base.specs.declared.record.Entry.{Entry}
use Rattle.fut_base.specs.declared.event.Event.{Event}
use Rattle.fut_base.specs.Dag.{Among}
use Rattle.fut_base.specs.Events.{event_of}
use Rattle.fut_base.specs.Listed.{Listed}
use Rattle.fut_base.proofs.Members.{among_split, among_left, among_right}
use Rattle.fut_syntax.specs.Trees as tree
use Rattle.fut_check.specs.Items.{IsWellTyped}
use Rattle.task_code.specs.Flat.{IsCodeOf}
use Rattle.trace_merge.specs.Placing.{entries_in}
use Rattle.event_clock.specs.declared.view.Carried.{Carried}
use Rattle.event_clock.specs.Views.{carries}
use Rattle.event_clock.specs.Rule.{own_of, Rises}
use Rattle.merge_laws.specs.Parts.{Drawn, IsMerge, IsSharedRun}
use Rattle.merge_laws.specs.Logs.{owns_from, history_of}
use Rattle.merge_laws.proofs.Lists.{weight, among_map, map_among}
use Rattle.merge_laws.proofs.Steps.{get_some}
use Rattle.run_book.specs.Drawn.{drawn_of}
use Rattle.run_book.specs.Jobs.{JobNow}
use Rattle.run_book.specs.Books.{BookNow, task_of}
use Rattle.run_shard.specs.Shards.{shard_of}
use Rattle.over_laws.specs.Over.{Final, IsOver, IsShut, OverGivesHistory, carried_job, traces_in, traces_left, holders_of}
use Rattle.over_laws.proofs.Over.{ended_tasks}
use Rattle.over_laws.proofs.Touching.{both}
use Rattle.over_laws.proofs.Ending.{all_in}

-- ---- lists

-- lists with the same at each place
all_gets : {X : Type 0} (xs ys : List X) → ((k : ℕ) → slice_get xs k ≡ slice_get ys k) → xs ≡ ys
all_gets [] [] f = refl
all_gets [] (y ∷ ys) f = let e = f 0 in cc
all_gets (x ∷ xs) [] f = let e = f 0 in cc
all_gets (x ∷ xs) (y ∷ ys) f = ap (λ l. x ∷ l) (all_gets xs ys (λ k. f (suc k))) ∙ ap (λ z. z ∷ ys) (same_Some x y (f 0))

entry_split : (ts : List (Listed (ℕ × Entry))) (x : ℕ × Entry) → Among x (entries_in ts) → (t : Listed (ℕ × Entry)) × Among t ts × Among x t.items
entry_split [] x a = absurd a
entry_split (t ∷ ts) x a = elim (among_split x t.items (entries_in ts) a) [
  | inl here ↦ (t, inl refl, here)
  | inr there ↦ (let r = entry_split ts x there in (r.0, inr r.1, r.2))
]

split_entry : (ts : List (Listed (ℕ × Entry))) (t : Listed (ℕ × Entry)) (x : ℕ × Entry) → Among t ts → Among x t.items → Among x (entries_in ts)
split_entry [] t x a b = absurd a
split_entry (s ∷ ts) t x (inl same) b = among_left x s.items (entries_in ts) (subst (λ (u : Listed (ℕ × Entry)). Among x u.items) (sym same) b)
split_entry (s ∷ ts) t x (inr there) b = among_right x s.items (entries_in ts) (split_entry ts t x there b)

-- of a rising list two entries with one ticket are one
rising_one : (items : List (ℕ × Entry)) → Rises (drawn_of items) → (x y : ℕ × Entry) → Among x items → Among y items → x.0 ≡ y.0 → x ≡ y
rising_one [] up x y a b same = absurd a
rising_one (z ∷ items) up x y (inl e) (inl f) same = sym e ∙ f
rising_one (z ∷ items) up x y (inl e) (inr b) same =
    let low = up.0 (y.0, event_of y.1) (among_map (λ (p : ℕ × Entry). (p.0, event_of p.1)) y items b) in
    let here : z.0 ≡ x.0 = ap (λ (p : ℕ × Entry). p.0) e in
    absurd (omega (arith, low, here, same))
rising_one (z ∷ items) up x y (inr a) (inl f) same =
    let low = up.0 (x.0, event_of x.1) (among_map (λ (p : ℕ × Entry). (p.0, event_of p.1)) x items a) in
    let here : z.0 ≡ y.0 = ap (λ (p : ℕ × Entry). p.0) f in
    absurd (omega (arith, low, here, same))
rising_one (z ∷ items) up x y (inr a) (inr b) same = rising_one items up.1 x y a b same

-- a trace beside its task
abbrev Labelled : Type 0
Labelled = ℕ × Listed (ℕ × Entry)

abbrev carried_as : Labelled → Carried
carried_as p = record { task = p.0; trace = drawn_of p.1.items }

carries_some : (k : ℕ) (t : Listed (ℕ × Entry)) (ps : List Labelled) → Among (k, t) ps → 0 < carries k (map carried_as ps)
carries_some k t [] a = absurd a
carries_some k t (p ∷ ps) (inl same) =
    let one : weight (p.0 == k) ≡ 1 = ap weight (eq-eqb p.0 k (ap (λ (q : Labelled). q.0) same)) in
    omega (arith, one)
carries_some k t (p ∷ ps) (inr there) = let low = carries_some k t ps there in omega (arith, low)

-- a task that is carried once has one trace
one_trace : (k : ℕ) (t u : Listed (ℕ × Entry)) (ps : List Labelled) → carries k (map carried_as ps) ≤ 1 → Among (k, t) ps → Among (k, u) ps → t ≡ u
one_trace k t u [] once a b = absurd a
one_trace k t u (p ∷ ps) once (inl e) (inl f) = sym (ap (λ (q : Labelled). q.1) e) ∙ ap (λ (q : Labelled). q.1) f
one_trace k t u (p ∷ ps) once (inl e) (inr b) =
    let one : weight (p.0 == k) ≡ 1 = ap weight (eq-eqb p.0 k (ap (λ (q : Labelled). q.0) e)) in
    let low = carries_some k u ps b in
    absurd (omega (arith, one, low, once))
one_trace k t u (p ∷ ps) once (inr a) (inl f) =
    let one : weight (p.0 == k) ≡ 1 = ap weight (eq-eqb p.0 k (ap (λ (q : Labelled). q.0) f)) in
    let low = carries_some k t ps a in
    absurd (omega (arith, one, low, once))
one_trace k t u (p ∷ ps) once (inr a) (inr b) = one_trace k t u ps (omega (arith, once)) a b

-- an entry whose event was drawn at a ticket has this ticket
at_ticket : (entries : List (ℕ × Entry)) (x : ℕ × Entry) (d : Drawn) → (x.0, event_of x.1) ≡ d → Among x entries → Among (d.0, x.1) entries
at_ticket entries x d same a = subst (λ (z : Drawn). Among (z.0, x.1) entries) same a

-- ---- labels

abbrev label_ended : Listed (ℕ × Entry) → Labelled
label_ended t = (task_of (drawn_of t.items), t)

abbrev label_job : JobNow → Labelled
label_job j = (j.task.number, j.task.trace)

abbrev labels_of : BookNow → List JobNow → List Labelled
labels_of b js = map label_ended b.traces ++ map label_job js

labels_traces : (ts : List (Listed (ℕ × Entry))) → map (λ (p : Labelled). p.1) (map label_ended ts) ≡ ts
labels_traces [] = refl
labels_traces (t ∷ ts) = ap (λ l. t ∷ l) (labels_traces ts)

labels_jobs : (js : List JobNow) → map (λ (p : Labelled). p.1) (map label_job js) ≡ map (λ (j : JobNow). j.task.trace) js
labels_jobs [] = refl
labels_jobs (j ∷ js) = ap (λ l. j.task.trace ∷ l) (labels_jobs js)

labels_left : (b : BookNow) (js : List JobNow) → map (λ (p : Labelled). p.1) (labels_of b js) ≡ traces_left b js
labels_left b js =
    map-append (λ (p : Labelled). p.1) (map label_ended b.traces) (map label_job js)
    ∙ ap (λ l. l ++ map (λ (p : Labelled). p.1) (map label_job js)) (labels_traces b.traces) ∙ ap (λ l. b.traces ++ l) (labels_jobs js)

carried_ended : (ts : List (Listed (ℕ × Entry))) → map carried_as (map label_ended ts)
    ≡ map (λ (trace : List Drawn). record { task = task_of trace; trace = trace }) (map (λ (t : Listed (ℕ × Entry)). drawn_of t.items) ts)
carried_ended [] = refl
carried_ended (t ∷ ts) = ap (λ l. carried_as (label_ended t) ∷ l) (carried_ended ts)

carried_jobs : (js : List JobNow) → map carried_as (map label_job js) ≡ map carried_job js
carried_jobs [] = refl
carried_jobs (j ∷ js) = ap (λ l. carried_job j ∷ l) (carried_jobs js)

-- ---- the run

module _ (P : tree.Program) (the : Final) (count : ℕ) (typed : IsWellTyped P) (of : IsCodeOf P the.code) (over : IsOver the) (shut : IsShut the count) where
  abbrev log : List (ℕ × Event)
  log = shut.log

  abbrev owns : List (List Drawn)
  owns = own_of 0 log ∷ owns_from 1 8 log

  run : IsSharedRun P (length log) shard_of (own_of 0 log) (owns_from 1 8 log) (traces_in the.heard.view.tasks)
  run = (both P the count typed of over shut).0

  merge : IsMerge owns (history_of log)
  merge = (both P the count typed of over shut).1

  -- what the book's holder carries are the labelled traces
  carried_here : the.heard.view.tasks ≡ map carried_as (labels_of the.book the.jobs)
  carried_here =
      over.heard.tasks ∙ ap (λ cs. cs ++ map carried_job the.jobs) (ended_tasks P the count typed of over shut)
      ∙ ap (λ cs. cs ++ map carried_job the.jobs) (sym (carried_ended the.book.traces))
      ∙ ap (λ cs. map carried_as (map label_ended the.book.traces) ++ cs) (sym (carried_jobs the.jobs))
      ∙ sym (map-append carried_as (map label_ended the.book.traces) (map label_job the.jobs))

  trace_here : (p : Labelled) → Among p (labels_of the.book the.jobs) → Among (p.0, drawn_of p.1.items) (traces_in the.heard.view.tasks)
  trace_here p a =
      among_map (λ (c : Carried). (c.task, c.trace)) (carried_as p) the.heard.view.tasks
      (subst (λ (cs : List Carried). Among (carried_as p) cs) (sym carried_here) (among_map carried_as p (labels_of the.book the.jobs) a))

  -- an entry has a labelled trace, and its event stands in the history at its ticket
  label_at : (x : ℕ × Entry) → Among x (entries_in (traces_left the.book the.jobs)) → (p : Labelled) × Among p (labels_of the.book the.jobs) × Among x p.1.items
  label_at x a =
      let t = entry_split (traces_left the.book the.jobs) x a in
      let p = map_among (λ (p : Labelled). p.1) t.0 (labels_of the.book the.jobs)
      (subst (λ (l : List (Listed (ℕ × Entry))). Among t.0 l) (sym (labels_left the.book the.jobs)) t.1) in
      (p.0, p.1, subst (λ (u : Listed (ℕ × Entry)). Among x u.items) (sym p.2) t.2)

  stands_at : (x : ℕ × Entry) (p : Labelled) → Among p (labels_of the.book the.jobs) → Among x p.1.items
      → (slice_get (history_of log) x.0 ≡ Some (event_of x.1)) × ((event_of x.1).task ≡ p.0)
  stands_at x p a there =
      let mine = among_map (λ (p : ℕ × Entry). (p.0, event_of p.1)) x p.1.items there in
      let both = ((run.whole (p.0, drawn_of p.1.items) (trace_here p a)).each (x.0, event_of x.1)).0 mine in
      ((merge x.0 (event_of x.1)).0 both.0, both.1)

  stands_there : (x : ℕ × Entry) → Among x (entries_in (traces_left the.book the.jobs)) → slice_get (history_of log) x.0 ≡ Some (event_of x.1)
  stands_there x a = let p = label_at x a in (stands_at x p.0 p.1 p.2).0

  below : (x : ℕ × Entry) → Among x (entries_in (traces_left the.book the.jobs)) → x.0 < min count the.clock.size.bound
  below x a =
      let low = slice_get_within (history_of log) x.0 (event_of x.1) (stands_there x a) in
      let all = all_in the.clock.size (holders_of the.heard the.shards) count shut in
      omega (arith, low, all)

  once : (x y : ℕ × Entry) → Among x (entries_in (traces_left the.book the.jobs)) → Among y (entries_in (traces_left the.book the.jobs)) → x.0 ≡ y.0 → x ≡ y
  once x y a c same =
      let p = label_at x a in
      let q = label_at y c in
      let at_x = stands_at x p.0 p.1 p.2 in
      let at_y = stands_at y q.0 q.1 q.2 in
      let event : event_of x.1 ≡ event_of y.1 = same_Some (event_of x.1) (event_of y.1) (sym at_x.0 ∙ ap (λ k. slice_get (history_of log) k) same ∙ at_y.0) in
      let task : p.0.0 ≡ q.0.0 = sym at_x.1 ∙ ap (λ (e : Event). e.task) event ∙ at_y.1 in
      let few : carries q.0.0 (map carried_as (labels_of the.book the.jobs)) ≤ 1 = subst (λ cs. carries q.0.0 cs ≤ 1) carried_here (over.heard.once q.0.0) in
      let one : p.0.1 ≡ q.0.1 =
      one_trace q.0.0 p.0.1 q.0.1 (labels_of the.book the.jobs) few (subst (λ k. Among (k, p.0.1) (labels_of the.book the.jobs)) task p.1) q.1 in
      rising_one q.0.1.items (run.whole (q.0.0, drawn_of q.0.1.items) (trace_here q.0 q.1)).rising x y
      (subst (λ (u : Listed (ℕ × Entry)). Among x u.items) one p.2) q.2 same

  -- no ticket is missing
  all : (k : ℕ) (e : Event) → slice_get (history_of log) k ≡ Some e → (made : Entry) × Among (k, made) (entries_in (traces_left the.book the.jobs))
  all k e got =
      let there = (merge k e).1 got in
      let t = run.tasks (k, e) there in
      let mine = ((run.whole (e.task, t.0) t.1).each (k, e)).1 (there, refl) in
      let c = map_among (λ (c : Carried). (c.task, c.trace)) (e.task, t.0) the.heard.view.tasks t.1 in
      let p = map_among carried_as c.0 (labels_of the.book the.jobs) (subst (λ (cs : List Carried). Among c.0 cs) carried_here c.1) in
      let trace : drawn_of p.0.1.items ≡ t.0 = ap (λ (c : Carried). c.trace) p.2 ∙ ap (λ (r : ℕ × List Drawn). r.1) c.2 in
      let x = map_among (λ (p : ℕ × Entry). (p.0, event_of p.1)) (k, e) p.0.1.items (subst (λ (l : List Drawn). Among (k, e) l) (sym trace) mine) in
      let there : Among p.0.1 (traces_left the.book the.jobs) =
      subst (λ (l : List (Listed (ℕ × Entry))). Among p.0.1 l) (labels_left the.book the.jobs)
      (among_map (λ (p : Labelled). p.1) p.0 (labels_of the.book the.jobs) p.1) in
      let own = split_entry (traces_left the.book the.jobs) p.0.1 x.0 there x.1 in
      (x.0.1, at_ticket (entries_in (traces_left the.book the.jobs)) x.0 (k, e) x.2 own)

  all_below : (k : ℕ) → k < min count the.clock.size.bound → (made : Entry) × Among (k, made) (entries_in (traces_left the.book the.jobs))
  all_below k lt =
      let size = all_in the.clock.size (holders_of the.heard the.shards) count shut in
      let e = get_some (history_of log) k (omega (arith, lt, size)) in
      all k e.0 e.1

  module _ (made : List Entry) (are : (k : ℕ) (e : Entry) → (slice_get made k ≡ Some e) ↔ Among (k, e) (entries_in (traces_left the.book the.jobs))) where
    same_at : (k : ℕ) (o : Option Entry) → slice_get made k ≡ o → option_map event_of o ≡ slice_get (history_of log) k
    same_at k (Some e) got = sym (stands_there (k, e) ((are k e).0 got))
    same_at k None none = nothing (slice_get (history_of log) k) refl
      where
        nothing : (o : Option Event) → slice_get (history_of log) k ≡ o → None ≡ o
        nothing None e = refl
        nothing (Some v) e = (let m = all k v e in let got = (are k m.0).1 m.1 in let both : None ≡ Some m.0 = sym none ∙ got in cc)

    same_events : map event_of made ≡ history_of log
    same_events = all_gets (map event_of made) (history_of log) (λ k. slice_get-map event_of made k ∙ same_at k (slice_get made k) refl)

pub over_gives_history : OverGivesHistory
over_gives_history P the count typed of over shut =
    record {
      apart = record {
        below = below P the count typed of over shut;
        once = once P the count typed of over shut;
      };
      all = all_below P the count typed of over shut;
      events = same_events P the count typed of over shut;
    }
