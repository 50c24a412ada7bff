use Rattle.std.proofs.Common.{refl}
use Rattle.task_machine.specs.Machine.{Machine, Leads, opening}
use Rattle.task_machine.specs.Rows.{spawn_program, spawn_history}
use Rattle.task_machine.proofs.Worked.{machine_after, leads_all}
use Rattle.task_machine.proofs.laws.spawn_row.Goals as goal

abbrev last : Machine
last = machine_after spawn_program (opening spawn_program) spawn_history

leads : Leads spawn_program (opening spawn_program) spawn_history last
leads =
    leads_all spawn_program (opening spawn_program) spawn_history (
      (refl, refl, refl, refl, refl, (refl, refl, refl)),
      (
        (refl, refl, refl, refl, refl, tt),
        (
          (refl, refl, refl, refl, refl, tt),
          ((refl, refl, refl, refl, refl, tt), ((refl, refl, refl, refl, refl, (refl, (refl, tt))), ((refl, refl, refl, refl, refl, tt), tt))),
        ),
      ),
    )

pub returns : goal.returns
returns c = record { legal = (last, leads); whole = (last, leads, (refl, (refl, tt))) }
