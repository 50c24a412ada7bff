use Rattle.std.proofs.Common.{◌≡◌, ◌<◌, ◌∙◌, ap, refl, sym, subst, length, false}
use Rattle.std.specs.Prelude.{slice_get, slice_set, Some}
use Rattle.std.proofs.lemmas.Option.{slice_get_read, same_Some}
use Rattle.std.proofs.lemmas.Result.{on_ok_weaker}
use Rattle.task_code.specs.Tasks.{IsStill}
use Rattle.run_replay.specs.declared.line.TaskLine.{TaskLine}
use Rattle.run_replay.specs.Replays.{HasRoom, StillAt}
use Rattle.run_replay.proofs.Lining.{same_at, get_set_here}
use Rattle.run_replay.proofs.table.give_room.Goals as goal

pub returns-in_err-reserve-clause-same : goal.returns-in_err-reserve-clause-same
returns-in_err-reserve-clause-same c =
    same_at c.args.code.now c.args.lines.now.items c.reserve.new.self.items c.args.place c.requires.exists c.reserve.ensures.items

pub returns-clause-same : goal.returns-clause-same
returns-clause-same c =
    let old = c.args.lines.now.items in
    let lines = c.reserve.new.self.items in
    let t = c.args.place in
    let before = c.index_mut.result.now in
    let here : t < length lines = subst (λ xs. t < length xs) (sym c.reserve.ensures.items) c.requires.exists in
    let present : slice_get lines t ≡ Some before = slice_get_read lines (length lines) t before refl here c.index_mut.ensures.value in
    record {
      before = before;
      after = c.make_room.new.line;
      present = subst (λ xs. slice_get xs t ≡ Some before) c.reserve.ensures.items present;
      is = ap (λ xs. slice_set xs t c.make_room.new.line) c.reserve.ensures.items;
      keeps = c.make_room.ensures.same;
    }

pub returns-clause-room : goal.returns-clause-room
returns-clause-room c =
    let lines = c.reserve.new.self.items in
    let t = c.args.place in
    let here : t < length lines = subst (λ (xs : _). t < length xs) (sym c.reserve.ensures.items) c.requires.exists in
    on_ok_weaker {P = (HasRoom c.make_room.new.line)} _
    (λ x. (c.make_room.new.line, get_set_here lines t c.make_room.new.line here, x)) c.make_room.ensures.room

pub returns-in_err-reserve-clause-still : goal.returns-in_err-reserve-clause-still
returns-in_err-reserve-clause-still c = λ st. subst (λ xs. StillAt c.args.code.now xs c.args.place) (sym c.reserve.ensures.items) st

pub returns-clause-still : goal.returns-clause-still
returns-clause-still c = λ st.
    let lines = c.reserve.new.self.items in
    let t = c.args.place in
    let before = c.index_mut.result.now in
    let here : t < length lines = subst (λ (xs : _). t < length xs) (sym c.reserve.ensures.items) c.requires.exists in
    let present : slice_get lines t ≡ Some before = slice_get_read lines (length lines) t before refl here c.index_mut.ensures.value in
    let old = subst (λ xs. StillAt c.args.code.now xs t) (sym c.reserve.ensures.items) st in
    let same : old.0 ≡ before = same_Some old.0 before (sym old.1 ∙ present) in (
      c.make_room.new.line,
      get_set_here lines t c.make_room.new.line here,
      c.make_room.ensures.same.task.ended ∙ subst (λ (l : TaskLine). l.task.spot.ended ≡ false) same old.2,
      c.make_room.ensures.still (subst (λ (l : TaskLine). IsStill c.args.code.now l.task) same old.3),
    )
