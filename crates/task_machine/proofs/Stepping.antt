-- A task stands at one event, and a step leads to one machine.
use Rattle.std.proofs.Common.{◌≡◌, ℕ, zero, suc, ◌<◌, List, [], ◌∷◌, refl, sym, ◌∙◌, subst, arith, lit<}
use Rattle.std.specs.Prelude.{Some, None}
use Rattle.std.proofs.lemmas.Option.{same_Some}
use Rattle.fut_base.specs.declared.limits.TheConstants.{MOST_LOCAL_STEPS}
use Rattle.fut_base.specs.declared.event.Event.{Event}
use Rattle.fut_base.specs.declared.record.Value.{Value}
use Rattle.fut_syntax.specs.Trees as tree
use Rattle.task_machine.specs.State.{TaskState, local_step, receives}
use Rattle.task_machine.specs.Runs.{Steps, StandsWithin, GoesOn, StandsAt, IsOutOfSteps}
use Rattle.task_machine.specs.Machine.{Machine, Running, IsStep, after}

pub same_stop : (n k : ℕ) (s t u : TaskState) → Steps n s t → local_step t ≡ None → Steps k s u → local_step u ≡ None → t ≡ u
same_stop zero zero s t u a at b bt = sym a ∙ b
same_stop zero (suc k) s t u a at b bt =
    absurd (let e : local_step s ≡ None = subst (λ x. local_step x ≡ None) (sym a) at in let f : local_step s ≡ Some b.0 = b.1 in cc)
same_stop (suc n) zero s t u a at b bt =
    absurd (let e : local_step s ≡ None = subst (λ x. local_step x ≡ None) (sym b) bt in let f : local_step s ≡ Some a.0 = a.1 in cc)
same_stop (suc n) (suc k) s t u a at b bt =
    let same : a.0 ≡ b.0 = same_Some a.0 b.0 (sym a.1 ∙ b.1) in
    same_stop n k a.0 t u a.2 at (subst (λ x. Steps k x u) (sym same) b.2) bt

pub stands_at_one : (s t u : TaskState) → StandsAt s t → StandsAt s u → t ≡ u
stands_at_one s t u (l, m, (n, below, steps, stop)) (l', m', (n', below', steps', stop')) = same_stop n n' s t u steps stop steps' stop'

no_further : (n k : ℕ) (s t u : TaskState) → n < k → Steps n s t → local_step t ≡ None → Steps k s u → ⊥
no_further n zero s t u lt a at b = absurd (omega arith)
no_further zero (suc k) s t u lt a at b = let e : local_step s ≡ None = subst (λ x. local_step x ≡ None) (sym a) at in let f : local_step s ≡ Some b.0 =
    b.1 in cc
no_further (suc n) (suc k) s t u lt a at b =
    let same : a.0 ≡ b.0 = same_Some a.0 b.0 (sym a.1 ∙ b.1) in
    no_further n k a.0 t u (omega arith) a.2 at (subst (λ x. Steps k x u) (sym same) b.2)

pub stands_or_goes_on_within : (limit : ℕ) (s t : TaskState) → StandsWithin limit s t → GoesOn limit s → ⊥
stands_or_goes_on_within limit s t (n, below, steps, stop) (u, on) = no_further n limit s t u below steps stop on

pub stands_or_goes_on : (s t : TaskState) → StandsAt s t → IsOutOfSteps s → ⊥
stands_or_goes_on s t (l, m, w) (l', m', g) = stands_or_goes_on_within l s t w (subst (λ x. GoesOn x s) (m' ∙ sym m) g)

after_same : (P : tree.Program) (m : Machine) (e : Event) (r q : Running) (s t : TaskState) → r ≡ q → s ≡ t → after P m e r s ≡ after P m e q t
after_same P m e r q s t a b = cc

pub step_is_one : (P : tree.Program) (m : Machine) (e : Event) (a b : Machine) → IsStep P m e a → IsStep P m e b → a ≡ b
step_is_one P m e a b x y =
    let same : x.task ≡ y.task = same_Some x.task y.task (sym x.present ∙ y.present) in
    let stop : x.stop ≡ y.stop = stands_at_one x.task.state x.stop y.stop x.stands (subst (λ (r : Running). StandsAt r.state y.stop) (sym same) y.stands) in
    x.gives ∙ after_same P m e x.task y.task x.stop y.stop same stop ∙ sym y.gives

-- a task whose first statement is no local one stands at its event
pub stands_here : (s : TaskState) → local_step s ≡ None → StandsAt s s
stands_here s stop = (MOST_LOCAL_STEPS, refl, (0, lit< tt, refl, stop))

-- a value that comes opens or closes no block
pub receives_open : (s : TaskState) (todo : List tree.Stmt) (v : Value) → (receives s todo v).is_open ≡ s.is_open
receives_open s [] v = refl
receives_open s (stmt ∷ rest) v = refl
