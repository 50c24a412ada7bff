use Rattle.std.proofs.Common.{◌≡◌, take}
use Rattle.fut_tokens.specs.Lexed.{place_after}
use Rattle.fut_tokens.proofs.lexer.place_at.Given as goal

abbrev pub invariant-loop-i : goal.invariant-loop-i
invariant-loop-i l = l.here ≡ place_after (take l.i l.text)
