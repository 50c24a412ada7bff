-- Laws of texts.
use Rattle.std.specs.Prelude.{◌≡◌, ℕ, false, List, Some, Result, Ok, Err}
use Rattle.fut_tokens.specs.declared.token.Position.{Position}
use Rattle.fut_syntax.specs.declared.program.ParseFault.{ParseFault}
use Rattle.fut_syntax.specs.declared.program.ParseFault.TheVariants as fault
use Rattle.fut_syntax.specs.declared.tree.Program as declared
use Rattle.fut_syntax.specs.Trees.{Program}
use Rattle.fut_syntax.specs.Views.{program_tree}
use Rattle.fut_tokens.specs.Lexed.{HasComments}
use Rattle.fut_syntax.specs.Lines.{canonical_text}
use Rattle.fut_syntax.specs.Texts.{IsProgram, IsFaultPlace, Parses}

-- a text is one program at most
abbrev pub OneProgram : Type 0
OneProgram = (bytes : List ℕ) (P Q : Program) → IsProgram bytes P → IsProgram bytes Q → P ≡ Q

-- a text with a fault place is no program
abbrev pub NoFaultyProgram : Type 0
NoFaultyProgram = (bytes : List ℕ) (place : Position) (P : Program) → IsFaultPlace bytes place → IsProgram bytes P → ⊥

-- the canonical text of a program is a text of this program, and has no comment
abbrev pub PrintedReads : Type 0
PrintedReads = (bytes : List ℕ) (P : Program) → IsProgram bytes P → IsProgram (canonical_text P) P × HasComments (canonical_text P) false

-- this tree was read, of a text with no comment, or there was no memory
abbrev pub Rereads : Program → Result declared.Program ParseFault → Type 0
Rereads P (Ok p) = (program_tree p.items ≡ Some P) × (p.comments ≡ false)
Rereads P (Err (fault.Syntax line column)) = ⊥
Rereads P (Err fault.NoMemory) = Unit {0}

-- reading the canonical text of a program gives this program, unless memory ran out
abbrev pub ParsesAgain : Type 0
ParsesAgain = (bytes : List ℕ) (P : Program) (r : Result declared.Program ParseFault) → IsProgram bytes P → Parses (canonical_text P) r → Rereads P r
