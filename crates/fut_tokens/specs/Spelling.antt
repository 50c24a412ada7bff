-- How tokens are written.
use Rattle.std.specs.Prelude.{◌≡◌, ℕ, Bool, true, false, ◌||◌, List, [], ◌∷◌, ◌++◌, Some, codes, decimal}
use Rattle.fut_tokens.specs.declared.token.Token.{Token}
use Rattle.fut_tokens.specs.declared.token.Token.TheVariants as t
use Rattle.fut_tokens.specs.Cut.{token_of, is_blank}

-- how a keyword or a symbol is written
abbrev pub fixed_spelling : Token → List ℕ
fixed_spelling t.Cells = codes "cells"
fixed_spelling t.Task = codes "task"
fixed_spelling t.Int = codes "int"
fixed_spelling t.Fut = codes "fut"
fixed_spelling t.Var = codes "var"
fixed_spelling t.If = codes "if"
fixed_spelling t.Else = codes "else"
fixed_spelling t.While = codes "while"
fixed_spelling t.Spawn = codes "spawn"
fixed_spelling t.Sync = codes "sync"
fixed_spelling t.Create = codes "create"
fixed_spelling t.Get = codes "get"
fixed_spelling t.Return = codes "return"
fixed_spelling t.Add = codes "add"
fixed_spelling t.LeftParen = codes "("
fixed_spelling t.RightParen = codes ")"
fixed_spelling t.LeftSquare = codes "["
fixed_spelling t.RightSquare = codes "]"
fixed_spelling t.LeftBrace = codes "{"
fixed_spelling t.RightBrace = codes "}"
fixed_spelling t.Comma = codes ","
fixed_spelling t.Semicolon = codes ";"
fixed_spelling t.Colon = codes ":"
fixed_spelling t.Equals = codes "="
fixed_spelling t.Plus = codes "+"
fixed_spelling t.Minus = codes "-"
fixed_spelling t.Star = codes "*"
fixed_spelling t.Slash = codes "/"
fixed_spelling t.Percent = codes "%"
fixed_spelling t.Ampersand = codes "&"
fixed_spelling t.Bar = codes "|"
fixed_spelling t.Bang = codes "!"
fixed_spelling t.EqualEqual = codes "=="
fixed_spelling t.BangEqual = codes "!="
fixed_spelling t.Less = codes "<"
fixed_spelling t.LessEqual = codes "<="
fixed_spelling t.Greater = codes ">"
fixed_spelling t.GreaterEqual = codes ">="
fixed_spelling _ = []

-- how a token is written
abbrev pub spelling : Token → List ℕ
spelling (t.Word w) = w
spelling (t.Number n) = decimal n
spelling x = fixed_spelling x

-- what is written of a token is this token again
pub record IsReadable (x : Token) : Type 0 where
  pub reads : token_of (spelling x) ≡ Some x

-- a token and the blank behind it
pub record Spaced : Type 0 where
  pub token : Token
  pub blank : ℕ

-- tokens are written, each with its blank
abbrev pub spaced : List Spaced → List ℕ
spaced [] = []
spaced (s ∷ ss) = spelling s.token ++ s.blank ∷ spaced ss

-- the tokens, and then the end token
abbrev pub ended_tokens : List Spaced → List Token
ended_tokens [] = t.End ∷ []
ended_tokens (s ∷ ss) = s.token ∷ ended_tokens ss

-- each token is readable
abbrev pub AreReadable : List Spaced → Type 0
AreReadable [] = Unit {0}
AreReadable (s ∷ ss) = IsReadable s.token × AreReadable ss

-- each blank is one
abbrev pub AreBlank : List Spaced → Type 0
AreBlank [] = Unit {0}
AreBlank (s ∷ ss) = (is_blank s.blank ≡ true) × AreBlank ss

-- a token is a scrap
abbrev pub is_scrap : Token → Bool
is_scrap t.Scrap = true
is_scrap _ = false

-- a scrap is among some tokens
abbrev pub has_scrap : List Token → Bool
has_scrap [] = false
has_scrap (x ∷ xs) = is_scrap x || has_scrap xs

-- tokens, each with a space before it, and then a line feed
abbrev pub rest_of_line : List Token → List ℕ
rest_of_line [] = 10 ∷ []
rest_of_line (x ∷ xs) = 32 ∷ spelling x ++ rest_of_line xs

-- tokens with one space between two, and then a line feed
abbrev pub line_of : List Token → List ℕ
line_of [] = 10 ∷ []
line_of (x ∷ xs) = spelling x ++ rest_of_line xs

-- lines one after the other
abbrev pub lines_of : List (List Token) → List ℕ
lines_of [] = []
lines_of (line ∷ lines) = line_of line ++ lines_of lines

-- the tokens of lines, and then the end token
abbrev pub tokens_in_lines : List (List Token) → List Token
tokens_in_lines [] = t.End ∷ []
tokens_in_lines (line ∷ lines) = line ++ tokens_in_lines lines

-- each line has a token
abbrev pub HaveTokens : List (List Token) → Type 0
HaveTokens [] = Unit {0}
HaveTokens ([] ∷ lines) = ⊥
HaveTokens ((x ∷ xs) ∷ lines) = HaveTokens lines
