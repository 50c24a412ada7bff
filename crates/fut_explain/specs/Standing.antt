-- Which tokens can stand at the fault of a text.
use Rattle.std.specs.Prelude.{◌≡◌, ℕ, ◌<◌, ◌≤◌, ◌⊎◌, Bool, true, false, List, [], ◌∷◌, ◌++◌, length, take, Option, Some, None}
use Rattle.std.proofs.Common.{Vec, Global}
use Rattle.fut_tokens.specs.Ended.{IsEnded}
use Rattle.fut_tokens.specs.declared.token.Token.{Token}
use Rattle.fut_tokens.specs.declared.token.Position.{Position}
use Rattle.fut_tokens.specs.Lexed.{IsTokensOf}
use Rattle.fut_syntax.specs.Faults.{IsBad, IsGood, IsFault}
use Rattle.fut_explain.specs.declared.kind.Kind.{Kind}
use Rattle.fut_explain.specs.Kinds.{kind_token, behind_kind}

-- the first token of a text that can't come stands behind these, of which there are so many
pub record IsBehind (text : List ℕ) (at : ℕ) (before : List Token) : Type 0 where
  pub tokens : List Token
  pub places : List Position
  pub left : ℕ
  pub cut : IsTokensOf text tokens places
  pub fault : IsFault tokens left
  pub are : before ≡ fault.before
  pub count : at ≡ length before

-- a token of a kind can come behind these tokens: some program goes on so; or none does, or a bracket is one too many
abbrev pub Tells : List Token → Kind → Bool → Type 0
Tells before k true = IsGood before (kind_token k)
Tells before k false = IsBad before (kind_token k)

-- each of some tokens can come behind those before it
abbrev pub AreGood : List Token → Type 0
AreGood before = (a : List Token) (x : Token) (b : List Token) → before ≡ a ++ x ∷ b → IsGood a x

-- these tokens are some that can come, then one of a kind and the end token: this says whether it can come
abbrev pub TellsAll : List Token → Kind → Bool → Type 0
TellsAll front k b = (before : List Token) → AreGood before → front ≡ before ++ kind_token k ∷ behind_kind k → Tells before k b

-- of some kinds these are the ones of which a token can come behind some tokens, in their order
abbrev pub AreStanding : List Token → List Kind → List Kind → Type 0
AreStanding before [] found = found ≡ []
AreStanding before (k ∷ ks) found =
    ((rest : List Kind) × (found ≡ k ∷ rest) × Tells before k true × AreStanding before ks rest) ⊎ (Tells before k false × AreStanding before ks found)

-- the first tokens of a text, so many, then one of a kind and the end token; or the text has no more
abbrev pub IsTried : List ℕ → ℕ → Kind → Option (Vec Token Global) → Type 0
IsTried text at k (Some front) = IsEnded front.items × ((tokens : List Token) × (places : List Position) × IsTokensOf text tokens places
    × (at < length tokens) × (front.items ≡ take at tokens ++ kind_token k ∷ behind_kind k))
IsTried text at k None = (tokens : List Token) × (places : List Position) × IsTokensOf text tokens places × (length tokens ≤ at)
