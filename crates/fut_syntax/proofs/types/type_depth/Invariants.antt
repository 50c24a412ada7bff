use Rattle.std.proofs.Common.{◌≡◌, ℕ, ◌+◌, ◌-◌, ◌≤◌, List, ◌∷◌, length}
use Rattle.fut_tokens.specs.declared.token.Token.{Token}
use Rattle.fut_syntax.specs.Tokens.{type_before}
use Rattle.fut_syntax.specs.Steps.{behind}
use Rattle.fut_syntax.specs.Machine.{Symbol, Type', run64}
use Rattle.fut_syntax.proofs.types.type_depth.Given as goal

abbrev pub invariant-futs : goal.invariant-futs
invariant-futs l = record {
  goes : (d : ℕ) (k : List Symbol) → run64 (Type' ∷ k) d l.fn.cursor ≡ run64 (Type' ∷ k) d l.cursor;
  fewer : length (behind l.cursor) ≤ l.left;
  tokens : (rest : ℕ) (r : List Token) → l.cursor ≡ type_before rest r → l.fn.cursor ≡ type_before ((l.left - length (behind l.cursor)) + rest) r;
}

abbrev pub decreases-futs : goal.decreases-futs
decreases-futs l = length l.cursor
