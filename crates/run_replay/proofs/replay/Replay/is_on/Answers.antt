use Rattle.std.proofs.Common.{◌≡◌, ◌∙◌, ap, refl, sym, subst, length, arith}
use Rattle.std.specs.Prelude.{slice_get, Some}
use Rattle.std.proofs.lemmas.Option.{slice_get_read, same_Some}
use Rattle.std.proofs.lemmas.Bool.Decides.{Decides-eqb}
use Rattle.task_machine.proofs.Places.{get_below}
use Rattle.run_replay.specs.declared.line.TaskLine.{TaskLine}
use Rattle.run_replay.specs.Replays.{ReplayNow}
use Rattle.run_replay.proofs.replay.Replay.is_on.Goals as goal

pub returns-in-Some : goal.returns-in-Some
returns-in-Some c =
    let t = c.args.task in
    let line = c.in-Some.line.now in
    let there = slice_get_read c.deref.result.now (length c.deref.result.now) t line refl c.in-Some.ensures.lookup.3.0 (c.in-Some.ensures.lookup.3.1 line) in
    let present : slice_get c.args.self.now.lines t ≡ Some line =
    subst (λ (v : ReplayNow). slice_get v.lines t ≡ Some line) c.self.view_is (subst (λ xs. slice_get xs t ≡ Some line) c.deref.ensures.value there) in
    let d = Decides-eqb line.strand c.args.strand in
    (λ h. (line, present, d.0 h), λ on. d.1 (ap (λ (l : TaskLine). l.strand) (same_Some line on.0 (sym present ∙ on.1)) ∙ on.2))

pub returns-in-None : goal.returns-in-None
returns-in-None c =
    let t = c.args.task in
    let most = c.in-None.ensures.lookup.3 in
    let size = ap (λ (v : ReplayNow). length v.lines) c.self.view_is in
    let same = ap length c.deref.ensures.value in
    (λ h. cc, λ on. absurd (let less = get_below c.args.self.now.lines t on.0 on.1 in omega (arith, less, most, size, same)))
