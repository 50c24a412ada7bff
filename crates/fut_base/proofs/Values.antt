-- Equal values.
use Rattle.std.proofs.Common.{◌≡◌, Decides, ap}
use Rattle.std.proofs.lemmas.Bool.{false≢true}
use Rattle.std.proofs.lemmas.Bool.Decides.{Decides-eqb, Decides-int_eq}
use Rattle.fut_base.specs.declared.record.Value.{Value}
use Rattle.fut_base.specs.declared.record.Value.TheVariants.{Int, Fut}
use Rattle.fut_base.specs.contracts.record.ValuePartialEq.TheImpl as eq

pub value_decides : (a b : Value) → Decides (eq.eq-value.it a b) (a ≡ b)
value_decides (Int x) (Int y) = (λ h. ap Int ((Decides-int_eq x y).0 h), λ e. (Decides-int_eq x y).1 (let same : x ≡ y = cc in same))
value_decides (Int x) (Fut y) = (λ h. absurd (false≢true h), λ e. cc)
value_decides (Fut x) (Int y) = (λ h. absurd (false≢true h), λ e. cc)
value_decides (Fut x) (Fut y) = (λ h. ap Fut ((Decides-eqb x y).0 h), λ e. (Decides-eqb x y).1 (let same : x ≡ y = cc in same))
