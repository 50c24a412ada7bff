use Rattle.std.proofs.Common.{◌≡◌, ℕ, suc, ◌+◌, List, sym, subst, arith}
use Rattle.std.proofs.lemmas.List.{take_rest}
use Rattle.fut_tokens.specs.declared.lexer.Part.TheVariants as part
use Rattle.fut_tokens.specs.Cut.{is_inline}
use Rattle.fut_tokens.specs.Parts.{IsPart}
use Rattle.fut_tokens.specs.Runs.{IsRun}
use Rattle.fut_tokens.proofs.Fronts.{space_front, comment_front, token_front}
use Rattle.fut_tokens.proofs.lexer.first_part.Goals as goal

pub returns-then-is_blank : goal.returns-then-is_blank
returns-then-is_blank c = space_front c.args.text.now c.requires (sym c.if-is_blank.ensures)

pub returns-then-starts_comment : goal.returns-then-starts_comment
returns-then-starts_comment c =
    let text = c.args.text.now in
    let e : suc (suc c.line_run.result) ≡ 2 + c.line_run.result = omega arith in
    let run = subst (λ (q : List ℕ). IsRun is_inline q c.line_run.result) (take_rest text 2) c.line_run.ensures in
    subst (λ (m : ℕ). IsPart text part.Comment m) e (comment_front text c.line_run.result (sym c.if-starts_comment.ensures) run)

pub returns : goal.returns
returns c = token_front c.args.text.now c.in_ok-lexeme.lexeme.token c.in_ok-lexeme.lexeme.length (sym c.if-starts_comment.ensures) c.in_ok-lexeme.ensures
