-- What the finder of a run may take: the next event stands on the current strand of its task.
use Rattle.std.proofs.Common.{List, [], ◌∷◌, ◌++◌, sym, ap, ◌∙◌, subst}
use Rattle.std.specs.Prelude.{Some, option_map, reverse}
use Rattle.fut_base.specs.declared.record.Value.{Value}
use Rattle.fut_base.specs.declared.event.Event.{Event}
use Rattle.fut_syntax.specs.Trees as tree
use Rattle.task_machine.specs.Machine.{Machine, opening, IsStep, Leads}
use Rattle.task_machine.proofs.Leading.{leads_further}
use Rattle.run_laws.proofs.Mirrored.{mirrors}
use Rattle.run_laws.proofs.Sound.{legal_is_sound}
use Rattle.access_shards.specs.Histories.{AreStanding, IsStanding, IsInStep}
use Rattle.race_finder.proofs.Next.{current_of, last_in, turned}

stands_here : (P : tree.Program) (h : List Event) (m n : Machine) (e : Event) → Leads P (opening P) h m → IsStep P m e n → IsStanding (reverse h) e
stands_here P h m n e leads step =
    let me = (mirrors P h m leads).each e.task step.task step.present in
    record {
      stands = sym (current_of h e.task) ∙ (me.strand ∙ ap (λ s. Some s) step.strand);
      running = sym (last_in h e.task) ∙ (me.last ∙ ap (λ o. option_map (λ (v : Value). step.task.strand) o) step.running);
    }

-- a history in step is in step with a step more
pub in_step_further : (P : tree.Program) (h : List Event) (m n : Machine) (e : Event) → Leads P (opening P) h m → IsStep P m e n → IsInStep h
    → IsInStep (h ++ e ∷ [])
in_step_further P h m n e leads step steps =
    record {
      sound = legal_is_sound P (h ++ e ∷ []) (n, leads_further P (opening P) h e m n leads step);
      standing = subst AreStanding (sym (turned h e)) (steps.standing, stands_here P h m n e leads step);
    }
