-- Texts in parts.
use Rattle.std.proofs.Common.{◌≡◌, ℕ, List, [], ◌∷◌, ◌++◌, append_assoc, subst}
use Rattle.std.specs.Prelude.{Option, decimal, codes}
use Rattle.fut_base.specs.declared.ports.Wrote.{Wrote}
use Rattle.fut_base.specs.declared.ports.Wrote.TheVariants.{All, Failed}
use Rattle.fut_base.specs.declared.event.Event.{Event}
use Rattle.fut_base.specs.declared.record.Value.{Value}
use Rattle.fut_base.specs.Ports.{Writes}
use Rattle.fut_base.proofs.Writing.{writes_after, stopped_early}
use Rattle.run_record.specs.RunText.{value_text, values_line, call_line, entry_line, action_line}

-- a front and then a rest, which are the whole
pub front_then : (a b c : Option (List ℕ)) (f g h : ℕ) (front rest all : List ℕ) (r : Wrote) → front ++ rest ≡ all → Writes a b f g front All
    → Writes b c g h rest r → Writes a c f h all r
front_then a b c f g h front rest all r is one two =
    subst (λ text. Writes a c f h text r) is (writes_after a b c f g h front rest r one.0 one.1 two)

-- a front of which a beginning was written
pub front_failed : (a b : Option (List ℕ)) (f g : ℕ) (front rest all : List ℕ) → front ++ rest ≡ all → Writes a b f g front Failed → Writes a b f g all Failed
front_failed a b f g front rest all is one =
    subst (λ text. Writes a b f g text Failed) is (stopped_early a b f g front rest one)

-- what is written of a call before its arguments
abbrev pub call_front : List ℕ → ℕ → ℕ → ℕ → ℕ → List ℕ
call_front word code child kid cont =
    word ++ (decimal code ++ (codes " t" ++ (decimal child ++ (codes " s" ++ (decimal kid ++ (codes " s" ++ (decimal cont ++ [])))))))

pub call_splits : (word : List ℕ) (code child kid cont : ℕ) (args : List Value)
    → call_front word code child kid cont ++ values_line args ≡ word ++ call_line code child kid cont args
call_splits word code child kid cont args = simp append_assoc

-- what is written of an entry before its act
abbrev pub entry_front : ℕ → Event → List ℕ
entry_front place e = decimal place ++ (codes " t" ++ (decimal e.task ++ (codes " s" ++ (decimal e.strand ++ codes " "))))

pub entry_splits : (place : ℕ) (e : Event) → entry_front place e ++ action_line e.action ≡ entry_line place e
entry_splits place e = simp append_assoc

-- the next value of some, and the others
pub values_next : (v : Value) (vs : List Value) → values_line (v ∷ vs) ≡ (codes " " ++ (value_text v ++ [])) ++ values_line vs
values_next v vs = simp append_assoc
