-- Laws of tokens.
use Rattle.std.specs.Prelude.{◌≡◌, ℕ, false, List}
use Rattle.fut_tokens.specs.declared.token.Token.{Token}
use Rattle.fut_tokens.specs.declared.token.Position.{Position}
use Rattle.fut_tokens.specs.Cut.{Piece, IsCut}
use Rattle.fut_tokens.specs.Lexed.{IsTokensOf}
use Rattle.fut_tokens.specs.Spelling.{Spaced, spaced, ended_tokens, AreReadable, AreBlank, has_scrap, lines_of, tokens_in_lines, HaveTokens}

-- a text is cut in one way
abbrev pub OneCut : Type 0
OneCut = (bytes : List ℕ) (ps qs : List Piece) → IsCut bytes ps → IsCut bytes qs → ps ≡ qs

-- every text has tokens
abbrev pub EveryText : Type 0
EveryText = (bytes : List ℕ) → (xs : List Token) × (places : List Position) × IsTokensOf bytes xs places

-- a text has one list of tokens, at one list of places
abbrev pub OneTokenList : Type 0
OneTokenList = (bytes : List ℕ) (xs ys : List Token) (ps qs : List Position) → IsTokensOf bytes xs ps → IsTokensOf bytes ys qs → (xs ≡ ys) × (ps ≡ qs)

-- readable tokens that are written, each with a blank behind it, are the tokens of what is written
abbrev pub SpacedReads : Type 0
SpacedReads = (ss : List Spaced) → AreReadable ss → AreBlank ss → (places : List Position) × IsTokensOf (spaced ss) (ended_tokens ss) places

-- the tokens of a text without scraps that are written again, each with a blank behind it, are the tokens of what is written
abbrev pub RespacedReads : Type 0
RespacedReads = (bytes : List ℕ) (xs : List Token) (places : List Position) → IsTokensOf bytes xs places → has_scrap xs ≡ false
    → (ss : List Spaced) → ended_tokens ss ≡ xs → AreBlank ss → (again : List Position) × IsTokensOf (spaced ss) xs again

-- the tokens of a text without scraps that are written again in lines are the tokens of these lines
abbrev pub LinesRead : Type 0
LinesRead = (bytes : List ℕ) (xs : List Token) (places : List Position) → IsTokensOf bytes xs places → has_scrap xs ≡ false
    → (lines : List (List Token)) → tokens_in_lines lines ≡ xs → HaveTokens lines → (again : List Position) × IsTokensOf (lines_of lines) xs again
