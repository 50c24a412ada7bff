-- What is told of a text is what the definition says.
use Rattle.std.proofs.Common.{◌≡◌, ℕ, List, [], ◌++◌, ◌∙◌, ap, append_assoc, Vec, Global}
use Rattle.std.specs.Prelude.{Option, Result, Ok, Err, IfOk}
use Rattle.fut_tokens.specs.declared.token.Position.{Position}
use Rattle.fut_syntax.specs.declared.tree.Program as declared
use Rattle.fut_syntax.specs.Texts.{IsFaultPlace, Parses}
use Rattle.fut_check.specs.Checks.{IsFaultOf}
use Rattle.fut_causes.specs.declared.cause.Cause.{Cause}
use Rattle.fut_causes.specs.Answers.{IsCauseOf}
use Rattle.fut_explain.specs.declared.kind.Kind.{Kind}
use Rattle.fut_explain.specs.declared.mark.Marked.{Marked}
use Rattle.fut_explain.specs.Lines.{IsMarked}
use Rattle.fut_explain.specs.Explained.{TellsSyntax, TellsType, syntax_text, type_text}
use Rattle.fut_explain.proofs.Trying.{AreExpected}

pub tells_syntax : {E : Type 0} (text : List ℕ) (place : Position) (mark : Marked) (found : Vec Kind Global) (shown : List Kind) (r : Result (Vec ℕ Global) E)
    → IsFaultPlace text place → IsMarked text place mark → AreExpected text found → shown ≡ found.items
    → IfOk r (λ out. out.items ≡ syntax_text place mark shown) → IfOk r (λ out. TellsSyntax text out.items)
tells_syntax text place mark found shown (Ok out) fault marked standing is h = record {
  place = place;
  mark = mark;
  found = found.items;
  fault = fault;
  marked = marked;
  standing = standing;
  is = h ∙ ap (λ l. syntax_text place mark l) is;
}
tells_syntax text place mark found shown (Err e) fault marked standing is h = tt

pub tells_type : {E : Type 0} (text : List ℕ) (program : declared.Program) (place : Position) (rule : ℕ) (mark : Marked) (cause : Option Cause)
    (r : Result (Vec ℕ Global) E)
    → Parses text (Ok program) → IsFaultOf program rule place → IsMarked text place mark → IsCauseOf program rule place cause
    → IfOk r (λ out. out.items ≡ type_text place rule mark cause)
    → IfOk r (λ out. TellsType text out.items)
tells_type text program place rule mark cause (Ok out) parsed fault marked caused h = record {
  program = program;
  place = place;
  rule = rule;
  mark = mark;
  cause = cause;
  parsed = parsed;
  fault = fault;
  marked = marked;
  caused = caused;
  is = h;
}
tells_type text program place rule mark cause (Err e) parsed fault marked caused h = tt

-- five parts were added one after the other
pub five_parts : (o p q r s t a b c d e : List ℕ) → o ≡ [] → p ≡ o ++ a → q ≡ p ++ b → r ≡ q ++ c → s ≡ r ++ d → t ≡ s ++ e
    → t ≡ a ++ (b ++ (c ++ (d ++ e)))
five_parts o p q r s t a b c d e none one two three four five =
    five ∙ (ap (λ l. l ++ e) (four ∙ ap (λ l. l ++ d) (three ∙ ap (λ l. l ++ c) (two ∙ ap (λ l. l ++ b) (one ∙ ap (λ l. l ++ a) none))))
    ∙ (append_assoc ((a ++ b) ++ c) d e ∙ (append_assoc (a ++ b) c (d ++ e) ∙ append_assoc a b (c ++ (d ++ e)))))
