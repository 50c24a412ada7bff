use Rattle.std.proofs.Common.{◌≡◌, [], refl, sym, ap, ◌∙◌}
use Rattle.std.proofs.lemmas.Option.{same_Some}
use Rattle.std.specs.Prelude.{Option, Some, None, pos}
use Rattle.fut_base.specs.declared.record.Value.{Value}
use Rattle.fut_base.specs.declared.record.Value.TheVariants.{Int}
use Rattle.fut_base.specs.declared.event.Action.TheVariants.{Writes, Ends}
use Rattle.fut_base.specs.Rows.{ev}
use Rattle.task_machine.specs.State.{TaskState, start_state, effect_of}
use Rattle.task_machine.specs.Machine.{Running, acted, IsLegal}
use Rattle.task_machine.proofs.Making.{acting_task}
use Rattle.task_machine.proofs.Stepping.{stands_here}
use Rattle.merge_laws.specs.Rows.{ended_program, ended_trace}
use Rattle.merge_laws.proofs.laws.ended_row.Goals as goal

abbrev s0 : TaskState
s0 = start_state ended_program 0 []

abbrev s1 : TaskState
s1 = effect_of s0 (Ends (Int (pos 0)))

abbrev s2 : TaskState
s2 = effect_of s1 (Writes 0 (pos 1))

not_none : (v : Value) → ◌≡◌ {A = Option Value} (Some v) None → ⊥
not_none v h = cc

not_legal : IsLegal ended_program ended_trace → ⊥
not_legal (m, (n, first, (k, second, rest))) =
    let gone : acted first.task first.stop (Ends (Int (pos 0))) ≡ second.task =
    same_Some (acted first.task first.stop (Ends (Int (pos 0)))) second.task
    (sym (acting_task ended_program _ (ev 0 0 (Ends (Int (pos 0)))) n first) ∙ second.present) in
    not_none (Int (pos 0)) (ap (λ (r : Running). r.value) gone ∙ second.running)

pub returns : goal.returns
returns c =
    record {
      state = (s2, (s0, stands_here s0 refl, refl, (s1, stands_here s1 refl, refl, refl)));
      stands = refl;
      not_legal = not_legal;
    }
