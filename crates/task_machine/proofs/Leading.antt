-- Events that lead from one machine to another.
use Rattle.std.proofs.Common.{◌≡◌, ◌↔◌, List, [], ◌∷◌, ◌++◌, refl, sym, ◌∙◌, subst}
use Rattle.fut_base.specs.declared.event.Event.{Event}
use Rattle.fut_syntax.specs.Trees as tree
use Rattle.task_machine.specs.Machine.{Machine, opening, IsStep, Leads, IsLegal}
use Rattle.task_machine.proofs.Stepping.{step_is_one}

pub leads_to_one : (P : tree.Program) (m : Machine) (h : List Event) (a b : Machine) → Leads P m h a → Leads P m h b → a ≡ b
leads_to_one P m [] a b x y = sym x ∙ y
leads_to_one P m (e ∷ h) a b x y =
    leads_to_one P x.0 h a b x.2 (subst (λ n. Leads P n h b) (step_is_one P m e y.0 x.0 y.1 x.1) y.2)

pub split : (P : tree.Program) (m : Machine) (h k : List Event) (n : Machine) → Leads P m (h ++ k) n
    → (middle : Machine) × Leads P m h middle × Leads P middle k n
split P m [] k n x = (m, refl, x)
split P m (e ∷ h) k n (next, step, rest) = let s = split P next h k n rest in (s.0, (next, step, s.1), s.2)

pub join : (P : tree.Program) (m : Machine) (h k : List Event) (n middle : Machine) → Leads P m h middle → Leads P middle k n → Leads P m (h ++ k) n
join P m [] k n middle x y = subst (λ q. Leads P q k n) (sym x) y
join P m (e ∷ h) k n middle (next, step, rest) y = (next, step, join P next h k n middle rest y)

pub leads_by_parts : (P : tree.Program) (m : Machine) (h k : List Event) (n : Machine) → Leads P m (h ++ k) n
    ↔ ((middle : Machine) × Leads P m h middle × Leads P middle k n)
leads_by_parts P m h k n = (split P m h k n, λ x. join P m h k n x.0 x.1 x.2)

pub leads_further : (P : tree.Program) (m : Machine) (h : List Event) (e : Event) (n next : Machine) → Leads P m h n → IsStep P n e next
    → Leads P m (h ++ e ∷ []) next
leads_further P m h e n next x step = join P m h (e ∷ []) next n x (next, step, refl)

pub prefix_is_legal : (P : tree.Program) (h k : List Event) → IsLegal P (h ++ k) → IsLegal P h
prefix_is_legal P h k (m, x) = let s = split P (opening P) h k m x in (s.0, s.1)
