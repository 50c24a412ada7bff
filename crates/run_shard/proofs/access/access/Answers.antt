use Rattle.std.proofs.Common.{ap, sym, ◌∙◌, subst}
use Rattle.fut_base.specs.Events.{event_of}
use Rattle.event_clock.specs.Views.{noted, after_note}
use Rattle.event_clock.specs.Rule.{IsJoin}
use Rattle.order_query.specs.Logs.{count_of}
use Rattle.run_shard.specs.Turns.{CanJudge}
use Rattle.run_place.specs.Placed.{Placed}
use Rattle.run_shard.proofs.Calling.{call_judges, call_alike, drawn_as}
use Rattle.run_shard.proofs.Given.{IsCall, call_job, call_turned, call_place, call_learns, call_made}
use Rattle.run_shard.proofs.access.access.Goals as goal

pub make-did-requires-clause-known : goal.make-did-requires-clause-known
make-did-requires-clause-known g c =
    let clock = g.J.Run.clock in
    let orders = g.J.Run.orders in
    let code = g.J.Run.code in
    let e = event_of c.args.entry in
    let h = c.args.holder.now in
    let h1 = c.tell.new.holder in
    let r = c.args.reader.now in
    let r1 = c.tell.new.reader in
    let l = c.args.log.now in
    let l1 = c.reserve.new.self in
    let t = c.args.task.now in
    let t1 = c.ready.new.task in
    let p = c.args.place.now in
    let p1 = c.tell.new.place in
    subst (λ (q : Placed). CanJudge (count_of r1.log) q.table q.at l1.kept) (sym c.place.view_is)
    (call_judges clock orders code e h h1 r r1 l l1 t t1 p p1 c.requires.rest c.ready.ensures.job c.ready.ensures.same c.requires.own c.requires.access c.tell.ensures.told
    c.tell.ensures.alike c.tell.ensures.strand c.requires.known c.reserve.ensures.kept)

pub give_back-requires-clause-alike : goal.give_back-requires-clause-alike
give_back-requires-clause-alike g c =
    let clock = g.J.Run.clock in
    let orders = g.J.Run.orders in
    let code = g.J.Run.code in
    let e = event_of c.args.entry in
    let h = c.args.holder.now in
    let h1 = c.tell.new.holder in
    let r = c.args.reader.now in
    let r1 = c.tell.new.reader in
    let l = c.args.log.now in
    let l1 = c.reserve.new.self in
    let t = c.args.task.now in
    let t1 = c.ready.new.task in
    let p = c.args.place.now in
    let p1 = c.tell.new.place in
    let h2 = c.make-did.new.holder in
    let r2 = c.make-did.new.reader in
    let l2 = c.make-did.new.log in
    let t2 = c.make-did.new.task in
    let d = c.make-did.result in
    let inside : Placed = record { at = c.place.inside.at; table = c.place.inside.reach; pass = c.place.inside.pass; reader = c.place.inside.reader } in
    let drew =
    drawn_as clock c.args.clock.now code c.args.code.now e p1 inside r2 h1 h2 l1 l2 t1 t2 d
    c.requires.run.0 c.requires.run.2 c.place.view_is c.make-did.ensures.drawn in
    call_alike clock orders code e h h1 r r1 l l1 t t1 p p1 c.requires.rest c.ready.ensures.job c.ready.ensures.same c.requires.own c.requires.access c.tell.ensures.told
    c.tell.ensures.alike c.tell.ensures.strand
    clock.size.bound h2 r2 l2 t2 d c.ready.ensures.wish c.tell.ensures.own.0 drew c.make-did.ensures.reader

pub returns-clause-job : goal.returns-clause-job
returns-clause-job g c =
    let clock = g.J.Run.clock in
    let orders = g.J.Run.orders in
    let code = g.J.Run.code in
    let e = event_of c.args.entry in
    let h = c.args.holder.now in
    let h1 = c.tell.new.holder in
    let r = c.args.reader.now in
    let r1 = c.tell.new.reader in
    let l = c.args.log.now in
    let l1 = c.reserve.new.self in
    let t = c.args.task.now in
    let t1 = c.ready.new.task in
    let p = c.args.place.now in
    let p1 = c.tell.new.place in
    let h2 = c.make-did.new.holder in
    let r2 = c.make-did.new.reader in
    let l2 = c.make-did.new.log in
    let t2 = c.make-did.new.task in
    let d = c.make-did.result in
    let inside : Placed = record { at = c.place.inside.at; table = c.place.inside.reach; pass = c.place.inside.pass; reader = c.place.inside.reader } in
    let drew =
    drawn_as clock c.args.clock.now code c.args.code.now e p1 inside r2 h1 h2 l1 l2 t1 t2 d
    c.requires.run.0 c.requires.run.2 c.place.view_is c.make-did.ensures.drawn in
    let h3 = c.give_back.new.holder in
    let r3 = c.give_back.new.reader in
    let p2 = c.give_back.new.place in
    let call : IsCall clock orders code clock.size.bound e h h1 h2 h3 r r1 r2 r3 l l1 l2 t t1 t2 p p1 p2 d =
    record {
      rest = c.requires.rest;
      job = c.ready.ensures.job;
      log = record { kept = c.reserve.ensures.kept; rise = c.reserve.ensures.rise; sorted = c.reserve.ensures.sorted };
      task = c.ready.ensures.same;
      own = c.requires.own;
      access = c.requires.access;
      stands = c.ready.ensures.wish;
      told = c.tell.ensures.told;
      told_own = c.tell.ensures.own.0;
      one = c.tell.ensures.one;
      told_home = c.tell.ensures.home;
      alike = c.tell.ensures.alike;
      told_at = c.tell.ensures.strand;
      told_place = c.tell.ensures.place;
      drew = drew;
      loaded = c.make-did.ensures.reader;
      drew_home = c.make-did.ensures.home;
      back = subst (λ n. IsJoin p1.pass.view (noted n h2.view) p2.pass.view) c.number.ensures c.give_back.ensures.pass;
      back_at = c.give_back.ensures.strand;
      knew = c.give_back.ensures.knew;
      placed = c.give_back.ensures.place;
      given = (c.give_back.ensures.holder.0 ∙ ap (λ n. after_note n h2.view) c.number.ensures, c.give_back.ensures.holder.1);
      given_reader = c.give_back.ensures.reader;
    } in
    call_job clock orders code clock.size.bound e h h1 h2 h3 r r1 r2 r3 l l1 l2 t t1 t2 p p1 p2 d call

pub returns-clause-turned : goal.returns-clause-turned
returns-clause-turned g c =
    let clock = g.J.Run.clock in
    let orders = g.J.Run.orders in
    let code = g.J.Run.code in
    let e = event_of c.args.entry in
    let h = c.args.holder.now in
    let h1 = c.tell.new.holder in
    let r = c.args.reader.now in
    let r1 = c.tell.new.reader in
    let l = c.args.log.now in
    let l1 = c.reserve.new.self in
    let t = c.args.task.now in
    let t1 = c.ready.new.task in
    let p = c.args.place.now in
    let p1 = c.tell.new.place in
    let h2 = c.make-did.new.holder in
    let r2 = c.make-did.new.reader in
    let l2 = c.make-did.new.log in
    let t2 = c.make-did.new.task in
    let d = c.make-did.result in
    let inside : Placed = record { at = c.place.inside.at; table = c.place.inside.reach; pass = c.place.inside.pass; reader = c.place.inside.reader } in
    let drew =
    drawn_as clock c.args.clock.now code c.args.code.now e p1 inside r2 h1 h2 l1 l2 t1 t2 d
    c.requires.run.0 c.requires.run.2 c.place.view_is c.make-did.ensures.drawn in
    let h3 = c.give_back.new.holder in
    let r3 = c.give_back.new.reader in
    let p2 = c.give_back.new.place in
    let call : IsCall clock orders code clock.size.bound e h h1 h2 h3 r r1 r2 r3 l l1 l2 t t1 t2 p p1 p2 d =
    record {
      rest = c.requires.rest;
      job = c.ready.ensures.job;
      log = record { kept = c.reserve.ensures.kept; rise = c.reserve.ensures.rise; sorted = c.reserve.ensures.sorted };
      task = c.ready.ensures.same;
      own = c.requires.own;
      access = c.requires.access;
      stands = c.ready.ensures.wish;
      told = c.tell.ensures.told;
      told_own = c.tell.ensures.own.0;
      one = c.tell.ensures.one;
      told_home = c.tell.ensures.home;
      alike = c.tell.ensures.alike;
      told_at = c.tell.ensures.strand;
      told_place = c.tell.ensures.place;
      drew = drew;
      loaded = c.make-did.ensures.reader;
      drew_home = c.make-did.ensures.home;
      back = subst (λ n. IsJoin p1.pass.view (noted n h2.view) p2.pass.view) c.number.ensures c.give_back.ensures.pass;
      back_at = c.give_back.ensures.strand;
      knew = c.give_back.ensures.knew;
      placed = c.give_back.ensures.place;
      given = (c.give_back.ensures.holder.0 ∙ ap (λ n. after_note n h2.view) c.number.ensures, c.give_back.ensures.holder.1);
      given_reader = c.give_back.ensures.reader;
    } in
    call_turned clock orders code clock.size.bound e h h1 h2 h3 r r1 r2 r3 l l1 l2 t t1 t2 p p1 p2 d call

pub returns-clause-place : goal.returns-clause-place
returns-clause-place g c =
    let clock = g.J.Run.clock in
    let orders = g.J.Run.orders in
    let code = g.J.Run.code in
    let e = event_of c.args.entry in
    let h = c.args.holder.now in
    let h1 = c.tell.new.holder in
    let r = c.args.reader.now in
    let r1 = c.tell.new.reader in
    let l = c.args.log.now in
    let l1 = c.reserve.new.self in
    let t = c.args.task.now in
    let t1 = c.ready.new.task in
    let p = c.args.place.now in
    let p1 = c.tell.new.place in
    let h2 = c.make-did.new.holder in
    let r2 = c.make-did.new.reader in
    let l2 = c.make-did.new.log in
    let t2 = c.make-did.new.task in
    let d = c.make-did.result in
    let inside : Placed = record { at = c.place.inside.at; table = c.place.inside.reach; pass = c.place.inside.pass; reader = c.place.inside.reader } in
    let drew =
    drawn_as clock c.args.clock.now code c.args.code.now e p1 inside r2 h1 h2 l1 l2 t1 t2 d
    c.requires.run.0 c.requires.run.2 c.place.view_is c.make-did.ensures.drawn in
    let h3 = c.give_back.new.holder in
    let r3 = c.give_back.new.reader in
    let p2 = c.give_back.new.place in
    let call : IsCall clock orders code clock.size.bound e h h1 h2 h3 r r1 r2 r3 l l1 l2 t t1 t2 p p1 p2 d =
    record {
      rest = c.requires.rest;
      job = c.ready.ensures.job;
      log = record { kept = c.reserve.ensures.kept; rise = c.reserve.ensures.rise; sorted = c.reserve.ensures.sorted };
      task = c.ready.ensures.same;
      own = c.requires.own;
      access = c.requires.access;
      stands = c.ready.ensures.wish;
      told = c.tell.ensures.told;
      told_own = c.tell.ensures.own.0;
      one = c.tell.ensures.one;
      told_home = c.tell.ensures.home;
      alike = c.tell.ensures.alike;
      told_at = c.tell.ensures.strand;
      told_place = c.tell.ensures.place;
      drew = drew;
      loaded = c.make-did.ensures.reader;
      drew_home = c.make-did.ensures.home;
      back = subst (λ n. IsJoin p1.pass.view (noted n h2.view) p2.pass.view) c.number.ensures c.give_back.ensures.pass;
      back_at = c.give_back.ensures.strand;
      knew = c.give_back.ensures.knew;
      placed = c.give_back.ensures.place;
      given = (c.give_back.ensures.holder.0 ∙ ap (λ n. after_note n h2.view) c.number.ensures, c.give_back.ensures.holder.1);
      given_reader = c.give_back.ensures.reader;
    } in
    call_place clock orders code clock.size.bound e h h1 h2 h3 r r1 r2 r3 l l1 l2 t t1 t2 p p1 p2 d call

pub returns-clause-learns : goal.returns-clause-learns
returns-clause-learns g c =
    let clock = g.J.Run.clock in
    let orders = g.J.Run.orders in
    let code = g.J.Run.code in
    let e = event_of c.args.entry in
    let h = c.args.holder.now in
    let h1 = c.tell.new.holder in
    let r = c.args.reader.now in
    let r1 = c.tell.new.reader in
    let l = c.args.log.now in
    let l1 = c.reserve.new.self in
    let t = c.args.task.now in
    let t1 = c.ready.new.task in
    let p = c.args.place.now in
    let p1 = c.tell.new.place in
    let h2 = c.make-did.new.holder in
    let r2 = c.make-did.new.reader in
    let l2 = c.make-did.new.log in
    let t2 = c.make-did.new.task in
    let d = c.make-did.result in
    let inside : Placed = record { at = c.place.inside.at; table = c.place.inside.reach; pass = c.place.inside.pass; reader = c.place.inside.reader } in
    let drew =
    drawn_as clock c.args.clock.now code c.args.code.now e p1 inside r2 h1 h2 l1 l2 t1 t2 d
    c.requires.run.0 c.requires.run.2 c.place.view_is c.make-did.ensures.drawn in
    let h3 = c.give_back.new.holder in
    let r3 = c.give_back.new.reader in
    let p2 = c.give_back.new.place in
    let call : IsCall clock orders code clock.size.bound e h h1 h2 h3 r r1 r2 r3 l l1 l2 t t1 t2 p p1 p2 d =
    record {
      rest = c.requires.rest;
      job = c.ready.ensures.job;
      log = record { kept = c.reserve.ensures.kept; rise = c.reserve.ensures.rise; sorted = c.reserve.ensures.sorted };
      task = c.ready.ensures.same;
      own = c.requires.own;
      access = c.requires.access;
      stands = c.ready.ensures.wish;
      told = c.tell.ensures.told;
      told_own = c.tell.ensures.own.0;
      one = c.tell.ensures.one;
      told_home = c.tell.ensures.home;
      alike = c.tell.ensures.alike;
      told_at = c.tell.ensures.strand;
      told_place = c.tell.ensures.place;
      drew = drew;
      loaded = c.make-did.ensures.reader;
      drew_home = c.make-did.ensures.home;
      back = subst (λ n. IsJoin p1.pass.view (noted n h2.view) p2.pass.view) c.number.ensures c.give_back.ensures.pass;
      back_at = c.give_back.ensures.strand;
      knew = c.give_back.ensures.knew;
      placed = c.give_back.ensures.place;
      given = (c.give_back.ensures.holder.0 ∙ ap (λ n. after_note n h2.view) c.number.ensures, c.give_back.ensures.holder.1);
      given_reader = c.give_back.ensures.reader;
    } in
    call_learns clock orders code clock.size.bound e h h1 h2 h3 r r1 r2 r3 l l1 l2 t t1 t2 p p1 p2 d call

pub returns-clause-made : goal.returns-clause-made
returns-clause-made g c =
    let clock = g.J.Run.clock in
    let orders = g.J.Run.orders in
    let code = g.J.Run.code in
    let e = event_of c.args.entry in
    let h = c.args.holder.now in
    let h1 = c.tell.new.holder in
    let r = c.args.reader.now in
    let r1 = c.tell.new.reader in
    let l = c.args.log.now in
    let l1 = c.reserve.new.self in
    let t = c.args.task.now in
    let t1 = c.ready.new.task in
    let p = c.args.place.now in
    let p1 = c.tell.new.place in
    let h2 = c.make-did.new.holder in
    let r2 = c.make-did.new.reader in
    let l2 = c.make-did.new.log in
    let t2 = c.make-did.new.task in
    let d = c.make-did.result in
    let inside : Placed = record { at = c.place.inside.at; table = c.place.inside.reach; pass = c.place.inside.pass; reader = c.place.inside.reader } in
    let drew =
    drawn_as clock c.args.clock.now code c.args.code.now e p1 inside r2 h1 h2 l1 l2 t1 t2 d
    c.requires.run.0 c.requires.run.2 c.place.view_is c.make-did.ensures.drawn in
    let h3 = c.give_back.new.holder in
    let r3 = c.give_back.new.reader in
    let p2 = c.give_back.new.place in
    let call : IsCall clock orders code clock.size.bound e h h1 h2 h3 r r1 r2 r3 l l1 l2 t t1 t2 p p1 p2 d =
    record {
      rest = c.requires.rest;
      job = c.ready.ensures.job;
      log = record { kept = c.reserve.ensures.kept; rise = c.reserve.ensures.rise; sorted = c.reserve.ensures.sorted };
      task = c.ready.ensures.same;
      own = c.requires.own;
      access = c.requires.access;
      stands = c.ready.ensures.wish;
      told = c.tell.ensures.told;
      told_own = c.tell.ensures.own.0;
      one = c.tell.ensures.one;
      told_home = c.tell.ensures.home;
      alike = c.tell.ensures.alike;
      told_at = c.tell.ensures.strand;
      told_place = c.tell.ensures.place;
      drew = drew;
      loaded = c.make-did.ensures.reader;
      drew_home = c.make-did.ensures.home;
      back = subst (λ n. IsJoin p1.pass.view (noted n h2.view) p2.pass.view) c.number.ensures c.give_back.ensures.pass;
      back_at = c.give_back.ensures.strand;
      knew = c.give_back.ensures.knew;
      placed = c.give_back.ensures.place;
      given = (c.give_back.ensures.holder.0 ∙ ap (λ n. after_note n h2.view) c.number.ensures, c.give_back.ensures.holder.1);
      given_reader = c.give_back.ensures.reader;
    } in
    call_made clock orders code clock.size.bound e h h1 h2 h3 r r1 r2 r3 l l1 l2 t t1 t2 p p1 p2 d call
