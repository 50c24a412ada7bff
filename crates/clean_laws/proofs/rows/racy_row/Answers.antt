use Rattle.std.proofs.Common.{refl}
use Rattle.task_machine.specs.Machine.{opening}
use Rattle.task_machine.specs.Rows.{spawn_program, spawn_history}
use Rattle.clean_laws.specs.Rows.{main_first_to_one_cell}
use Rattle.task_machine.proofs.Worked.{machine_after, leads_all}
use Rattle.clean_laws.proofs.rows.racy_row.Goals as goal

pub returns : goal.returns
returns c =
    record {
      first = record {
        machine = machine_after spawn_program (opening spawn_program) spawn_history;
        leads = leads_all spawn_program (opening spawn_program) spawn_history (
          (refl, refl, refl, refl, refl, (refl, refl, refl)),
          (
            (refl, refl, refl, refl, refl, tt),
            (
              (refl, refl, refl, refl, refl, tt),
              ((refl, refl, refl, refl, refl, tt), ((refl, refl, refl, refl, refl, (refl, (refl, tt))), ((refl, refl, refl, refl, refl, tt), tt))),
            ),
          ),
        );
        ended = (refl, (refl, tt));
        cells_are = refl;
      };
      other = record {
        machine = machine_after spawn_program (opening spawn_program) main_first_to_one_cell;
        leads = leads_all spawn_program (opening spawn_program) main_first_to_one_cell (
          (refl, refl, refl, refl, refl, (refl, refl, refl)),
          (
            (refl, refl, refl, refl, refl, tt),
            (
              (refl, refl, refl, refl, refl, tt),
              ((refl, refl, refl, refl, refl, tt), ((refl, refl, refl, refl, refl, (refl, (refl, tt))), ((refl, refl, refl, refl, refl, tt), tt))),
            ),
          ),
        );
        ended = (refl, (refl, tt));
        cells_are = refl;
      };
    }
