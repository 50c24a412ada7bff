-- The tokens of kinds.
use Rattle.std.proofs.Common.{◌≡◌, ◌∷◌, refl, true}
use Rattle.fut_tokens.specs.Ended.{IsEnded}
use Rattle.fut_syntax.specs.Faults.{all_simple}
use Rattle.fut_explain.specs.declared.kind.Kind.{Kind}
use Rattle.fut_explain.specs.declared.kind.Kind.TheVariants as kind
use Rattle.fut_explain.specs.Kinds.{kind_token, behind_kind}

pub kind_ended : (k : Kind) → IsEnded (kind_token k ∷ behind_kind k)
kind_ended kind.End = refl
kind_ended _ = refl

pub behind_simple : (k : Kind) → all_simple (behind_kind k) ≡ true
behind_simple kind.End = refl
behind_simple _ = refl
