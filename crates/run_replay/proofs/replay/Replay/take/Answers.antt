use Rattle.std.proofs.Common.{◌+◌, ◌<◌, ◌∙◌, ap, refl, sym, subst, length, arith}
use Rattle.std.specs.Prelude.{option_to_list}
use Rattle.std.proofs.lemmas.Option.{slice_get_read, same_Some}
use Rattle.fut_base.specs.Events.{action_of, event_of}
use Rattle.run_replay.specs.contracts.replay.Replay.{the_view}
use Rattle.run_replay.specs.declared.line.TaskLine.{TaskLine}
use Rattle.run_laws.specs.Ready.{ready_of}
use Rattle.run_replay.specs.Ready.{Reorders, StandsIn, links_of}
use Rattle.run_replay.specs.Replays.{ReplayNow, StandsStill, StillAt, Takes, AreBegun, IsLegalAct}
use Rattle.run_replay.proofs.Outcome.{on_err}
use Rattle.run_replay.proofs.Acting.{may_find, stands_in}
use Rattle.run_replay.proofs.Starting.{still_by, takes_by, now_of}
use Rattle.run_replay.proofs.replay.Replay.take.Goals as goal

pub returns-in_err-give_room-clause-unchanged : goal.returns-in_err-give_room-clause-unchanged
returns-in_err-give_room-clause-unchanged c =
    let new : ReplayNow =
    (now_of c.give_room.new.lines.items c.self.inside.cells.items
    (links_of c.self.inside.ready) c.self.inside.entries c.self.inside.creates c.self.inside.strands c.self.inside.finder) in
    on_err _ _
    (subst (λ v. StandsStill c.args.code.now v new) c.self.view_is
    (still_by c.args.code.now (the_view c.self.inside) new c.args.task c.in_err-give_room.ensures.same refl refl refl refl refl (λ h f. f)))

pub returns-in_err-reserve-clause-unchanged : goal.returns-in_err-reserve-clause-unchanged
returns-in_err-reserve-clause-unchanged c =
    let new : ReplayNow =
    (now_of c.give_room.new.lines.items c.self.inside.cells.items
    (links_of c.reserve.new.self) c.self.inside.entries c.self.inside.creates c.self.inside.strands c.self.inside.finder) in
    on_err _ _
    (subst (λ v. StandsStill c.args.code.now v new) c.self.view_is
    (still_by c.args.code.now (the_view c.self.inside) new c.args.task c.in_ok-give_room.ensures.same refl c.reserve.ensures.same refl refl refl
    (λ h f. f)))

pub take-requires : goal.take-requires
take-requires c =
    let t = c.args.task in
    let a = action_of c.args.act in
    let lines = c.self.inside.lines.items in
    let x = c.index.result.now in
    let exists = subst (λ (v : ReplayNow). t < length v.lines) (sym c.self.view_is) c.requires.exists in
    let present = slice_get_read lines (length lines) t x refl exists c.index.ensures in
    let k = subst (λ v. IsLegalAct c.args.code.now v t a) (sym c.self.view_is) c.requires.legal in
    let few = c.requires.few in
    let is = ap (λ (v : ReplayNow). v.entries) c.self.view_is in
    let long = k.replay.entries in (
      k.history,
      k.replay.found,
      may_find c.args.code.now (the_view c.self.inside) t a x (event_of c.in_ok-own.own) k present c.in_ok-own.ensures,
      omega (arith, few, is, long),
    )

pub returns-in_err-take-clause-unchanged : goal.returns-in_err-take-clause-unchanged
returns-in_err-take-clause-unchanged c =
    let new : ReplayNow =
    (now_of c.give_room.new.lines.items c.self.inside.cells.items
    (links_of c.reserve.new.self) c.self.inside.entries c.self.inside.creates c.self.inside.strands c.take.new.self) in
    on_err _ _
    (subst (λ v. StandsStill c.args.code.now v new) c.self.view_is
    (still_by c.args.code.now
    (the_view c.self.inside) new c.args.task c.in_ok-give_room.ensures.same refl c.reserve.ensures.same refl refl refl c.in_err-take.ensures.stays))

pub returns-clause-taken : goal.returns-clause-taken
returns-clause-taken c =
    let code = c.args.code.now in
    let t = c.args.task in
    let a = action_of c.args.act in
    let lines = c.self.inside.lines.items in
    let x = c.index.result.now in
    let exists = subst (λ (v : ReplayNow). t < length v.lines) (sym c.self.view_is) c.requires.exists in
    let present = slice_get_read lines (length lines) t x refl exists c.index.ensures in
    let again = slice_get_read lines (length lines) t c.index-2.result.now refl exists c.index-2.ensures in
    let same = same_Some c.index-2.result.now x (sym again ∙ present) in
    let are = subst (λ (l : TaskLine). AreBegun code l.future a (option_to_list c.in_ok-child.child)) same c.in_ok-child.ensures in
    let new : ReplayNow =
    (now_of c.commit.new.lines.items c.write.new.cells.items (links_of c.reorder.new.self) (c.self.inside.entries + 1)
    (c.self.inside.creates + c.creates_of.result) (c.self.inside.strands + c.strands_of.result) c.take.new.self) in
    subst (λ v. Takes code v new t a (event_of c.in_ok-own.own)) c.self.view_is
    (takes_by code (the_view c.self.inside) new c.give_room.new.lines.items t a (event_of c.in_ok-own.own)
    (option_to_list c.in_ok-child.child) x present c.in_ok-give_room.ensures.same
    (c.in_ok-give_room.ensures.still
    (subst (λ (v : ReplayNow). StillAt code v.lines t) (sym c.self.view_is) c.requires.still)) c.commit.ensures are c.in_ok-own.ensures
    c.write.ensures (ap (λ n. c.self.inside.strands + n) c.strands_of.ensures) refl (ap (λ n. c.self.inside.creates + n) c.creates_of.ensures)
    (subst (λ l. Reorders l (links_of c.reorder.new.self) t a) c.reserve.ensures.same c.reorder.ensures) c.in_ok-take.ensures.takes)

pub reorder-requires-clause-stands : goal.reorder-requires-clause-stands
reorder-requires-clause-stands c =
    let t = c.args.task in
    let k = c.requires.legal in
    let s = stands_in c.args.code.now c.args.self.now t (action_of c.args.act) k in
    let few = c.requires.few in
    let long = k.replay.entries in
    let most = k.replay.few in
    let same = ap (λ (v : ReplayNow). v.ready) c.self.view_is in (
      _,
      _,
      subst (λ l. StandsIn (length c.args.self.now.lines) (ready_of k.history) l t) (sym (c.reserve.ensures.same ∙ same)) s.0,
      s.1,
      omega (arith, few, most),
    )
