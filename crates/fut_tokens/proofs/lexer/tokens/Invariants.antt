use Rattle.std.proofs.Common.{◌≡◌, ◌≤◌, ◌-◌, length, take}
use Rattle.fut_tokens.specs.Lexed.{place_after}
use Rattle.fut_tokens.specs.Lexing.{IsBegun}
use Rattle.fut_tokens.proofs.lexer.tokens.Given as goal

abbrev pub invariant-loop-at : goal.invariant-loop-at
invariant-loop-at l = record {
  within : l.at ≤ length l.text;
  here : l.place ≡ place_after (take l.at l.text);
  begun : IsBegun l.text l.at l.lexed.tokens.items l.lexed.places.items l.lexed.comments;
}

abbrev pub decreases-loop-at : goal.decreases-loop-at
decreases-loop-at l = length l.text - l.at
