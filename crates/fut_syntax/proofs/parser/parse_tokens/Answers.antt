use Rattle.std.proofs.Common.{◌≡◌, List, [], ◌∷◌, subst}
use Rattle.std.specs.Prelude.{Some}
use Rattle.fut_tokens.specs.declared.token.Token.{Token}
use Rattle.fut_syntax.specs.declared.cursor.Stop.{Stop}
use Rattle.fut_syntax.specs.Trees.{Program}
use Rattle.fut_syntax.specs.Views.{program_tree}
use Rattle.fut_syntax.specs.Faults.{IsWhole, IsFault}
use Rattle.fut_syntax.specs.Machine.{First}
use Rattle.fut_syntax.specs.Steps.{Stops}
use Rattle.fut_syntax.proofs.Tops.{answer_ok, answer_fault}
use Rattle.fut_syntax.proofs.parser.parse_tokens.Goals as goal

pub returns-in-Ok : goal.returns-in-Ok
returns-in-Ok c =
    subst (λ (q : List Token). (tree : Program) × (program_tree c.in-Ok.items ≡ Some tree) × IsWhole q tree) c.new-cursor.ensures
    (answer_ok c.new-cursor.result c.in-Ok.items c.in-Ok.ensures.0 c.in-Ok.ensures.1)

pub returns-in-Err-Fault : goal.returns-in-Err-Fault
returns-in-Err-Fault c =
    subst (λ (q : List Token). IsFault q c.behind.result) c.new-cursor.ensures
    (answer_fault c.new-cursor.result c.items.new.cursor c.behind.result
    (subst
    (λ (e : Stop). Stops
    (First ∷ []) 0 c.new-cursor.result c.items.new.cursor e) c.in-Err-Fault.field-0-is c.in-Err-Fault.ensures) c.behind.ensures.one c.behind.ensures.count)
