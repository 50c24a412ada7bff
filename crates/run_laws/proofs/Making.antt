-- Evaluation makes no handle.
use Rattle.std.proofs.Common.{◌≡◌, ℕ, List, [], ◌∷◌, inl, inr, refl, subst}
use Rattle.std.specs.Prelude.{ℤ}
use Rattle.fut_base.specs.declared.record.Value.{Value}
use Rattle.fut_base.specs.declared.record.Value.TheVariants.{Int, Fut}
use Rattle.fut_base.specs.Dag.{Among}
use Rattle.task_machine.specs.Variables.{Slot, Variables, values_of}
use Rattle.task_machine.specs.State.{Wish, wish_of}
use Rattle.run_laws.specs.Laws.{EvaluationMakesNoHandle, HasHandle}
use Rattle.run_laws.proofs.Handles.{Each, InAll, HandsOut, value_in_all, wish_all}
use Rattle.run_laws.proofs.Waits.{each_among}

-- a value is a number, or a handle that is in a variable
abbrev Found : Variables → Value → Type 0
Found vars (Int z) = Unit {0}
Found vars (Fut f) = HasHandle vars f

numbers_found : (vars : Variables) (z : ℤ) → Found vars (Int z)
numbers_found vars z = tt

each_found : (vars : Variables) (v : List ℕ × Slot) → Among v vars → (vs : List Value) → ((w : Value) → Among w vs → Among w (values_of v.1))
    → Each (Found vars) vs
each_found vars v here [] f = tt
each_found vars v here (Int z ∷ vs) f = (tt, each_found vars v here vs (λ w a. f w (inr a)))
each_found vars v here (Fut g ∷ vs) f = ((v, here, f (Fut g) (inl refl)), each_found vars v here vs (λ w a. f w (inr a)))

all_found : (vars some : Variables) → ((v : List ℕ × Slot) → Among v some → Among v vars) → InAll (Found vars) some
all_found vars [] f = tt
all_found vars (v ∷ some) f = (each_found vars v (f v (inl refl)) (values_of v.1) (λ w a. a), all_found vars some (λ w a. f w (inr a)))

pub evaluation_makes_no_handle : EvaluationMakesNoHandle
evaluation_makes_no_handle P s =
    let V : Value → Type 0 = Found s.vars in
    let all : InAll (Found s.vars) s.vars = all_found s.vars s.vars (λ v a. a) in
    let out : HandsOut (Found s.vars) s.is_open (wish_of P s) = wish_all (Found s.vars) (numbers_found s.vars) P s all in
    let by : (w : Wish) → wish_of P s ≡ w → HandsOut (Found s.vars) s.is_open w = λ w e. subst (λ z. HandsOut (Found s.vars) s.is_open z) e out in
    record {
      value = λ e f is. subst (λ z. Found s.vars z) is (value_in_all (Found s.vars) (numbers_found s.vars) s.vars e all);
      got = λ f is. by _ is;
      spawned = λ code args is f a. each_among (Found s.vars) args (Fut f) (by _ is) a;
      created = λ code args is f a. each_among (Found s.vars) args (Fut f) (by _ is) a;
      ended = λ f is. (by _ is).0;
    }
