-- Faults have one first fault.
use Rattle.std.proofs.Common.{◌≡◌, ℕ, ◌+◌, ◌*◌, ◌≤◌, List, refl, sym, ap, ◌∙◌, subst, arith}
use Rattle.std.specs.Prelude.{nat_eq, if◌then◌else◌, slice_get, IsSomeAnd}
use Rattle.std.proofs.lemmas.Option.{same_Some}
use Rattle.fut_tokens.specs.declared.token.Position.{Position}
use Rattle.fut_syntax.specs.declared.tree.Program as declared
use Rattle.fut_syntax.specs.Trees.{Program}
use Rattle.fut_rules.specs.declared.fault.Rule.{Rule}
use Rattle.fut_rules.specs.declared.fault.Rule.TheVariants as rule
use Rattle.fut_rules.specs.declared.fault.Fault.{Fault}
use Rattle.fut_rules.specs.Faults.{rule_number, IsAmong, IsFirst}
use Rattle.fut_check.specs.Items.{faults_of, IsWellTyped}
use Rattle.fut_check.specs.Checks.{IsChecked, IsFaultOf}
use Rattle.fut_check.proofs.First.{small, not_before}

-- the rule of a number
abbrev rule_of : ℕ → Rule
rule_of n =
    if nat_eq n 1 then rule.UnknownName
    else (if nat_eq n 2 then rule.DoubledName
    else (if nat_eq n 3 then rule.ArgumentCount
    else (if nat_eq n 4 then rule.IntForHandle
    else (if nat_eq n 5 then rule.HandleForInt
    else (if nat_eq n 6 then rule.HandleDepth
    else (if nat_eq n 7 then rule.ArrayLength
    else (if nat_eq n 8 then rule.ResultType
    else (if nat_eq n 9 then rule.NoMain
    else (if nat_eq n 10 then rule.MainParameters
    else (if nat_eq n 11 then rule.NoValue else rule.ConstantLimit))))))))))

rule_back : (r : Rule) → rule_of (rule_number r) ≡ r
rule_back rule.UnknownName = refl
rule_back rule.DoubledName = refl
rule_back rule.ArgumentCount = refl
rule_back rule.IntForHandle = refl
rule_back rule.HandleForInt = refl
rule_back rule.HandleDepth = refl
rule_back rule.ArrayLength = refl
rule_back rule.ResultType = refl
rule_back rule.NoMain = refl
rule_back rule.MainParameters = refl
rule_back rule.NoValue = refl
rule_back rule.ConstantLimit = refl

same_rank : (a b r s : ℕ) → r ≤ 12 → s ≤ 12 → a * 13 + r ≤ b * 13 + s → b * 13 + s ≤ a * 13 + r → a ≡ b
same_rank a b r s p q h k = omega arith

pub one_first : (fs : List Fault) (f g : Fault) → IsFirst f fs → IsFirst g fs → f ≡ g
one_first fs f g a b =
    let le = not_before g f (a.first g b.among) in
    let ge = not_before f g (b.first f a.among) in
    let token : f.token ≡ g.token = same_rank f.token g.token (rule_number f.rule) (rule_number g.rule) (small f.rule) (small g.rule) le ge in
    let number : rule_number f.rule ≡ rule_number g.rule = omega (arith, token, le, ge) in
    let same : f.rule ≡ g.rule = sym (rule_back f.rule) ∙ ap rule_of number ∙ rule_back g.rule in
    let make : ℕ → Rule → Fault = λ n r. record { token = n; rule = r } in
    ap (λ n. make n f.rule) token ∙ ap (λ r. make g.token r) same

pub one_fault : (p : declared.Program) (n m : ℕ) (a b : Position) → IsFaultOf p n a → IsFaultOf p m b → (n ≡ m) × (a ≡ b)
one_fault p n m a b x y =
    let tree = same_Some x.tree y.tree (sym x.is ∙ y.is) in
    let first : IsFirst x.fault (faults_of y.tree) = subst (λ (t : Program). IsFirst x.fault (faults_of t)) tree x.first in
    let same = one_first (faults_of y.tree) x.fault y.fault first y.first in (
      x.rule ∙ ap (λ (f : Fault). rule_number f.rule) same ∙ sym y.rule,
      same_Some a b (sym x.stands ∙ ap (λ (f : Fault). slice_get p.places f.token) same ∙ y.stands),
    )

pub no_fault : (p : declared.Program) (n : ℕ) (a : Position) → IsChecked p → IsFaultOf p n a → ⊥
no_fault p n a h x =
    let clean : IsWellTyped x.tree = subst (λ o. IsSomeAnd o IsWellTyped) x.is h in
    subst (λ fs. IsAmong x.fault fs) clean x.first.among
