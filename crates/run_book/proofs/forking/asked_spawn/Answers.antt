use Rattle.std.proofs.Common.{◌≡◌, ℕ, List, length, subst, ap, sym, ◌∙◌, arith}
use Rattle.fut_base.specs.declared.record.Value.{Value}
use Rattle.fut_syntax.specs.Trees as tree
use Rattle.task_machine.specs.State.{TaskState, ToSpawn, wish_of}
use Rattle.task_code.specs.Flat.{IsCodeOf}
use Rattle.task_code.specs.Tasks.{TaskNow, IsSomeTask, IsTaskOf, IsStill}
use Rattle.run_book.specs.Jobs.{JobNow, Stands, known_to}
use Rattle.run_book.proofs.Advancing.{is_some_task, HasAdvanced, stands_advanced, stands_same, job_advanced, HasRoomNow, job_reserved}
use Rattle.run_book.proofs.Asked.{not_spawn, spawn_answers, still_same}
use Rattle.run_book.specs.Coming.{IsComing}
use Rattle.task_types.specs.Typed.{ArgsFit, any_future}
use Rattle.task_machine.specs.State.{start_state}
use Rattle.run_book.proofs.forking.asked_spawn.Goals as goal

pub advance-requires-clause-running : goal.advance-requires-clause-running
advance-requires-clause-running g c = c.job.invariant.running

pub advance-requires-clause-task : goal.advance-requires-clause-task
advance-requires-clause-task g c =
    subst (λ k. IsSomeTask k c.job.inside.task) (sym c.requires.code) (is_some_task g.J.Run.clock g.J.Run.orders g.J.Run.code _ c.job.invariant)

pub advance-requires-clause-most : goal.advance-requires-clause-most
advance-requires-clause-most g c = omega arith

pub unreachable-requires : goal.unreachable-requires
unreachable-requires g c =
    let wish = subst (λ (j : JobNow). Stands g.J.Run.code j.task (λ P w. (n : ℕ) × (args : List Value) × (w ≡ ToSpawn n args))) (sym c.job.view_is) c.requires.wish in
    not_spawn g.J.Run.code c.job.inside.task c.advance.result c.job.invariant.program
    (λ P typed of. let s = c.job.invariant.started P typed of in (s.0, s.1, s.3)) wish
    (λ P args s of x. c.advance.ensures.wish P args s (subst (λ k. IsCodeOf P k) (sym c.requires.code) of) (subst (λ k. IsTaskOf P k args c.job.inside.task s) (sym c.requires.code) x))
    c.in_default.not-Spawn

pub unreachable-unreachable : goal.unreachable-unreachable
unreachable-unreachable g c = c.unreachable.result

pub invariant_of-job : goal.invariant_of-job
invariant_of-job g c =
    let e = c.advance.ensures in
    let t = c.spawned.ensures.task in
    let moved : HasAdvanced c.args.code.now c.job.inside.task c.advance.new.self =
    record { number = e.task.0; which = e.task.1; running = e.task.2; trace = e.trace; state = e.state; still = c.in-Spawn.ensures.stops } in
    let room : HasRoomNow c.advance.new.self c.spawned.new.task = record { number = t.0; which = t.1; spot = t.2; held = t.3; trace = t.4 } in
    let one = job_advanced g.J.Run.clock g.J.Run.orders g.J.Run.code (record { task = c.job.inside.task; place = c.job.inside.place; pace = c.job.inside.pace })
    c.advance.new.self c.job.invariant (subst (λ k. HasAdvanced k c.job.inside.task c.advance.new.self) c.requires.code moved) in
    job_reserved g.J.Run.clock g.J.Run.orders g.J.Run.code (record { task = c.advance.new.self; place = c.job.inside.place; pace = c.job.inside.pace })
    c.spawned.new.task one room

pub invariant_of-job-2 : goal.invariant_of-job-2
invariant_of-job-2 g c =
    let e = c.advance.ensures in
    let t = c.spawned.ensures.task in
    let moved : HasAdvanced c.args.code.now c.job.inside.task c.advance.new.self =
    record { number = e.task.0; which = e.task.1; running = e.task.2; trace = e.trace; state = e.state; still = c.in-Spawn.ensures.stops } in
    let room : HasRoomNow c.advance.new.self c.spawned.new.task = record { number = t.0; which = t.1; spot = t.2; held = t.3; trace = t.4 } in
    let one = job_advanced g.J.Run.clock g.J.Run.orders g.J.Run.code (record { task = c.job.inside.task; place = c.job.inside.place; pace = c.job.inside.pace })
    c.advance.new.self c.job.invariant (subst (λ k. HasAdvanced k c.job.inside.task c.advance.new.self) c.requires.code moved) in
    job_reserved g.J.Run.clock g.J.Run.orders g.J.Run.code (record { task = c.advance.new.self; place = c.job.inside.place; pace = c.job.inside.pace })
    c.spawned.new.task one room

pub returns-in-Ok-room-clause-child : goal.returns-in-Ok-room-clause-child
returns-in-Ok-room-clause-child g c =
    let t = c.spawned.ensures.task in
    let b = c.in-Ok.ensures.begins in
    let room : HasRoomNow c.advance.new.self c.spawned.new.task = record { number = t.0; which = t.1; spot = t.2; held = t.3; trace = t.4 } in
    let still : IsStill g.J.Run.code c.spawned.new.task =
    subst (λ k. IsStill k c.spawned.new.task) c.requires.code (still_same c.args.code.now c.advance.new.self c.spawned.new.task room c.in-Spawn.ensures.stops) in
    let same = ap (λ (j : JobNow). j.task) c.room_for_two-job.ensures.job in
    subst (λ k. IsComing g.J.Run.code k (length c.args.lines.now.items) c.in-Ok.coming.which c.in-Ok.coming.args.items c.in-Ok.coming.task) (sym same)
    (record {
      still = still;
      room = c.in-Ok.ensures.room;
      number_is = b.1;
      which_is = b.2 ∙ sym b.0;
      running = b.3;
      empty = b.4;
      state =
          subst (λ w. (P : tree.Program) → IsCodeOf P g.J.Run.code → ArgsFit any_future P w c.in-Ok.coming.args.items
          → IsTaskOf P g.J.Run.code c.in-Ok.coming.args.items c.in-Ok.coming.task (start_state P w c.in-Ok.coming.args.items)) (sym b.0)
          (subst (λ k. (P : tree.Program) → IsCodeOf P k → ArgsFit any_future P c.in-Spawn.which c.in-Ok.coming.args.items
          → IsTaskOf P k c.in-Ok.coming.args.items c.in-Ok.coming.task (start_state P c.in-Spawn.which c.in-Ok.coming.args.items)) c.requires.code c.in-Ok.ensures.state);
    })

pub returns-in-Ok-room-clause-answers : goal.returns-in-Ok-room-clause-answers
returns-in-Ok-room-clause-answers g c =
    let b = c.in-Ok.ensures.begins in
    let back = sym c.requires.code in
    let wish = subst (λ (j : JobNow). Stands g.J.Run.code j.task (λ P w. (n : ℕ) × (args : List Value) × (w ≡ ToSpawn n args))) (sym c.job.view_is) c.requires.wish in
    let here = spawn_answers g.J.Run.code c.job.inside.task c.advance.new.self c.in-Spawn.which c.in-Ok.coming.args.items
    (λ P args s of x.
    subst (λ k. IsTaskOf P k args c.advance.new.self s) c.requires.code
    (c.advance.ensures.state P args s (subst (λ k. IsCodeOf P k) back of) (subst (λ k. IsTaskOf P k args c.job.inside.task s) back x)))
    wish
    (λ P args s of x. c.in-Spawn.ensures.wish P args s (subst (λ k. IsCodeOf P k) back of) (subst (λ k. IsTaskOf P k args c.job.inside.task s) back x))
    (λ P given s t w args of x at is.
    c.in-Ok.ensures.args P given s t w args (subst (λ k. IsCodeOf P k) back of) (subst (λ k. IsTaskOf P k given c.advance.new.self s) back x) at is) in
    let told = subst (λ n. Stands g.J.Run.code c.job.inside.task (λ P w. w ≡ ToSpawn n c.in-Ok.coming.args.items)) (sym b.0) here in
    subst (λ (j : JobNow). Stands g.J.Run.code j.task (λ P w. w ≡ ToSpawn c.in-Ok.coming.which c.in-Ok.coming.args.items)) c.job.view_is told

pub returns-in-Ok-room-clause-stands : goal.returns-in-Ok-room-clause-stands
returns-in-Ok-room-clause-stands g c =
    let b = c.in-Ok.ensures.begins in
    let back = sym c.requires.code in
    let wish = subst (λ (j : JobNow). Stands g.J.Run.code j.task (λ P w. (n : ℕ) × (args : List Value) × (w ≡ ToSpawn n args))) (sym c.job.view_is) c.requires.wish in
    let here = spawn_answers g.J.Run.code c.job.inside.task c.advance.new.self c.in-Spawn.which c.in-Ok.coming.args.items
    (λ P args s of x.
    subst (λ k. IsTaskOf P k args c.advance.new.self s) c.requires.code
    (c.advance.ensures.state P args s (subst (λ k. IsCodeOf P k) back of) (subst (λ k. IsTaskOf P k args c.job.inside.task s) back x)))
    wish
    (λ P args s of x. c.in-Spawn.ensures.wish P args s (subst (λ k. IsCodeOf P k) back of) (subst (λ k. IsTaskOf P k args c.job.inside.task s) back x))
    (λ P given s t w args of x at is.
    c.in-Ok.ensures.args P given s t w args (subst (λ k. IsCodeOf P k) back of) (subst (λ k. IsTaskOf P k given c.advance.new.self s) back x) at is) in
    let told : Stands g.J.Run.code c.job.inside.task (λ P w. w ≡ ToSpawn c.in-Ok.coming.which c.in-Ok.coming.args.items) =
    subst (λ n. Stands g.J.Run.code c.job.inside.task (λ P w. w ≡ ToSpawn n c.in-Ok.coming.args.items)) (sym b.0) here in
    let e = c.advance.ensures in
    let t = c.spawned.ensures.task in
    let moved : HasAdvanced c.args.code.now c.job.inside.task c.advance.new.self =
    record { number = e.task.0; which = e.task.1; running = e.task.2; trace = e.trace; state = e.state; still = c.in-Spawn.ensures.stops } in
    let room : HasRoomNow c.advance.new.self c.spawned.new.task = record { number = t.0; which = t.1; spot = t.2; held = t.3; trace = t.4 } in
    let first : JobNow = record { task = c.job.inside.task; place = c.job.inside.place; pace = c.job.inside.pace } in
    let after = stands_same g.J.Run.code c.advance.new.self c.spawned.new.task (λ P w. w ≡ ToSpawn c.in-Ok.coming.which c.in-Ok.coming.args.items) room
    (stands_advanced g.J.Run.code (known_to first) c.job.inside.task c.advance.new.self (λ P w. w ≡ ToSpawn c.in-Ok.coming.which c.in-Ok.coming.args.items)
    (subst (λ k. HasAdvanced k c.job.inside.task c.advance.new.self) c.requires.code moved) c.job.invariant.started told) in
    let same = ap (λ (j : JobNow). j.task) c.room_for_two-job.ensures.job in
    subst (λ k. Stands g.J.Run.code k (λ P w. w ≡ ToSpawn c.in-Ok.coming.which c.in-Ok.coming.args.items)) (sym same) after
