-- Texts have one tree at most, and none where they have a fault place. A tree's canonical text has this tree.
use Rattle.std.proofs.Common.{◌≡◌, ℕ, false, List, [], ◌∷◌, map, sym, ap, ◌∙◌, subst, Result, Ok, Err}
use Rattle.std.specs.Prelude.{Some}
use Rattle.fut_tokens.specs.declared.token.Position.{Position}
use Rattle.fut_syntax.specs.Trees.{Item, CellsOf, TaskOf, Program}
use Rattle.fut_syntax.specs.Faults.{IsFault}
use Rattle.fut_syntax.specs.Texts.{IsProgram, IsFaultPlace, Parses}
use Rattle.fut_syntax.specs.TextLaws.{Rereads}
use Rattle.fut_syntax.specs.Views.{program_tree}
use Rattle.fut_tokens.specs.Lexed.{HasComments}
use Rattle.fut_syntax.specs.Lines.{item_tokens, program_lines, canonical_text}
use Rattle.fut_tokens.specs.Spelling.{has_scrap, HaveTokens}
use Rattle.fut_syntax.specs.declared.program.ParseFault.{ParseFault}
use Rattle.fut_syntax.specs.declared.program.ParseFault.TheVariants as fault
use Rattle.fut_syntax.specs.declared.tree.Program as declared
use Rattle.fut_syntax.proofs.Appends.{program_ended}
use Rattle.fut_tokens.proofs.Cuts.{tokens_once}
use Rattle.fut_syntax.proofs.OneTree.{program_once}
use Rattle.fut_syntax.proofs.Scraps.{program_none}
use Rattle.fut_tokens.proofs.Spacing.{lines_read, lines_plain}
use Rattle.fut_syntax.proofs.Whole.{no_fault}

pub one_program : (bytes : List ℕ) (P Q : Program) → IsProgram bytes P → IsProgram bytes Q → P ≡ Q
one_program bytes P Q p q =
    let same = (tokens_once bytes p.tokens q.tokens p.places q.places p.cut q.cut).0 in
    program_once P Q (p.whole.0 ∙ (same ∙ sym q.whole.0))

pub no_faulty_program : (bytes : List ℕ) (place : Position) (P : Program) → IsFaultPlace bytes place → IsProgram bytes P → ⊥
no_faulty_program bytes place P f p =
    let same = (tokens_once bytes f.tokens p.tokens f.places p.places f.cut p.cut).0 in
    no_fault p.tokens P f.left p.whole (subst (λ xs. IsFault xs f.left) same f.fault)

have_tokens : (is : List Item) → HaveTokens (map item_tokens is)
have_tokens [] = tt
have_tokens (CellsOf w n ∷ is) = have_tokens is
have_tokens (TaskOf w ps d b ∷ is) = have_tokens is

pub printed_reads : (bytes : List ℕ) (P : Program) → IsProgram bytes P → IsProgram (canonical_text P) P × HasComments (canonical_text P) false
printed_reads bytes P p =
    let none = ap has_scrap (sym p.whole.0) ∙ program_none P in
    let same = program_ended P ∙ p.whole.0 in
    let some = have_tokens (P.first ∷ P.others) in
    let read = lines_read bytes p.tokens p.places p.cut none (program_lines P) same some in
    (record { tokens = p.tokens; places = read.0; cut = read.1; whole = p.whole }, lines_plain bytes p.tokens p.places p.cut none (program_lines P) same some)

-- a text with no comment is read as the program that it is
read_as : (text : List ℕ) (P : Program) (r : Result declared.Program ParseFault) → IsProgram text P → HasComments text false → Parses text r → Rereads P r
read_as text P (Ok p) h n a = (
  subst (λ (Q : Program). program_tree p.items ≡ Some Q) (one_program text a.0.0 P a.0.2 h) a.0.1,
  sym (a.2 h.cut.pieces h.cut.cut) ∙ n h.cut.pieces h.cut.cut,
)
read_as text P (Err (fault.Syntax line column)) h n a = no_faulty_program text (record { line = line; column = column }) P a h
read_as text P (Err fault.NoMemory) h n a = tt

pub parses_again : (bytes : List ℕ) (P : Program) (r : Result declared.Program ParseFault) → IsProgram bytes P → Parses (canonical_text P) r → Rereads P r
parses_again bytes P r p a = let h = printed_reads bytes P p in read_as (canonical_text P) P r h.0 h.1 a
