use Rattle.std.proofs.Common.{ℕ, ◌<◌, length, sym, ◌∙◌, subst}
use Rattle.std.proofs.lemmas.Option.{same_Some}
use Rattle.std.proofs.lemmas.Result.{IfOk-weaker}
use Rattle.fut_base.specs.declared.record.Entry.{Entry}
use Rattle.fut_base.specs.Dag.{Among}
use Rattle.trace_merge.specs.Placing.{entries_in}
use Rattle.task_machine.proofs.Places.{get_below}
use Rattle.trace_merge.proofs.fill.Goals as goal

pub taken-requires : goal.taken-requires
taken-requires c k less =
    let (e, a) = c.requires.all k (subst (λ n. k < n) c.place_all.ensures.length less) in
    (e, c.place_all.ensures.placed.each (k, e) a)

pub returns : goal.returns
returns c =
    IfOk-weaker c.taken.result _ _
    (λ h is k e. (
      (λ got.
          let within : k < length c.args.places.now =
          subst (λ n. k < n) (is.size ∙ c.place_all.ensures.length) (get_below h.items k e got) in
          let (f, a) = c.requires.all k within in
          subst (λ (x : Entry). Among {X = ℕ × Entry} (k, x) (entries_in c.args.traces.items)) (same_Some f e (sym (is.each k f (c.place_all.ensures.placed.each (k, f) a)) ∙ got)) a),
      (λ a. is.each k e (c.place_all.ensures.placed.each (k, e) a)),
    ))
    c.taken.ensures
