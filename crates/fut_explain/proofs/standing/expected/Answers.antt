use Rattle.std.proofs.Common.{sym, subst, arith}
use Rattle.std.specs.Prelude.{IfOk}
use Rattle.fut_explain.proofs.Trying.{AreExpected, expected_whole, expected_fault}
use Rattle.fut_explain.proofs.standing.expected.Goals as goal
use Rattle.fut_explain.proofs.standing.expected.Goals.{in-Ok, in-Err-Syntax, in-Err-NoMemory}

pub returns : goal.returns
returns c =
    let text = c.args.text.now in
    let tokens = c.in_ok-all.field-0.tokens.items in
    let places = c.in_ok-all.field-0.places.items in
    let cut = c.in_ok-all.ensures.tokens in
    elim c.match-parse_tokens.branch [
      | in-Ok w ↦ expected_whole text tokens places w.in-Ok.ensures.0 c.match-parse_tokens.result cut w.in-Ok.ensures.2
      | in-Err-Syntax w ↦ subst (λ r. IfOk r (AreExpected text)) (sym w.result-is)
          (expected_fault text tokens places w.in-Err-Syntax.left c.len-count.result w.kinds.result.now w.standing.result cut
          (rw w.in-Err-Syntax.field-0-is at w.in-Err-Syntax.ensures)
          (omega (arith, c.len-count.ensures, c.in_ok-all.field-0.tokens.ok.0)) w.kinds.ensures w.standing.ensures)
      | in-Err-NoMemory w ↦ subst (λ r. IfOk r (AreExpected text)) (sym w.result-is) tt
    ]
