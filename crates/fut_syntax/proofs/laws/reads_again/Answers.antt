use Rattle.std.proofs.Common.{◌≡◌, List, subst, Result, Ok, Err}
use Rattle.std.specs.Prelude.{Some}
use Rattle.fut_syntax.specs.declared.tree.Item.{Item}
use Rattle.fut_syntax.specs.declared.parser.TokenFault.{TokenFault}
use Rattle.fut_syntax.specs.declared.parser.TokenFault.TheVariants as fault
use Rattle.fut_syntax.specs.Trees.{Program}
use Rattle.fut_syntax.specs.Tokens.{program_tokens}
use Rattle.fut_syntax.specs.Views.{program_tree}
use Rattle.fut_syntax.specs.Faults.{IsWhole}
use Rattle.fut_syntax.specs.Answers.{IsAnswer}
use Rattle.fut_syntax.specs.Laws.{Gives}
use Rattle.fut_syntax.proofs.Whole.{no_fault}
use Rattle.fut_syntax.proofs.OneTree.{program_once}
use Rattle.fut_syntax.proofs.laws.reads_again.Goals as goal

again : (p : Program) (r : Result (List Item) TokenFault) → IsWhole (program_tokens p) p → IsAnswer (program_tokens p) r → Gives p r
again p (Ok is) whole a = subst (λ (x : Program). program_tree is ≡ Some x) (program_once a.0 p a.2.0) a.1
again p (Err (fault.Syntax left)) whole a = no_fault (program_tokens p) p left whole a
again p (Err fault.NoMemory) whole a = tt

pub returns : goal.returns
returns c = again
