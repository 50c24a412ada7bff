-- The kinds of tokens.
use Rattle.std.specs.Prelude.{ℕ, List, [], ◌∷◌, codes}
use Rattle.fut_tokens.specs.declared.token.Token.{Token}
use Rattle.fut_tokens.specs.declared.token.Token.TheVariants as t
use Rattle.fut_explain.specs.declared.kind.Kind.{Kind}
use Rattle.fut_explain.specs.declared.kind.Kind.TheVariants as kind

-- all kinds, in the order of the grammar
abbrev pub all_kinds : List Kind
all_kinds =
    kind.Cells ∷ kind.Task ∷ kind.Int ∷ kind.Fut ∷ kind.Var ∷ kind.If ∷ kind.Else ∷ kind.While ∷ kind.Spawn ∷ kind.Sync ∷ kind.Create ∷
    kind.Get ∷ kind.Return ∷ kind.Add ∷ kind.Word ∷ kind.Number ∷ kind.LeftParen ∷ kind.RightParen ∷ kind.LeftSquare ∷ kind.RightSquare ∷
    kind.LeftBrace ∷ kind.RightBrace ∷ kind.Comma ∷ kind.Semicolon ∷ kind.Colon ∷ kind.Equals ∷ kind.Plus ∷ kind.Minus ∷ kind.Star ∷
    kind.Slash ∷ kind.Percent ∷ kind.Ampersand ∷ kind.Bar ∷ kind.Bang ∷ kind.EqualEqual ∷ kind.BangEqual ∷ kind.Less ∷ kind.LessEqual ∷
    kind.Greater ∷ kind.GreaterEqual ∷ kind.End ∷ []

-- a token of a kind: of the words it is `a`, of the numbers 0
abbrev pub kind_token : Kind → Token
kind_token kind.Cells = t.Cells
kind_token kind.Task = t.Task
kind_token kind.Int = t.Int
kind_token kind.Fut = t.Fut
kind_token kind.Var = t.Var
kind_token kind.If = t.If
kind_token kind.Else = t.Else
kind_token kind.While = t.While
kind_token kind.Spawn = t.Spawn
kind_token kind.Sync = t.Sync
kind_token kind.Create = t.Create
kind_token kind.Get = t.Get
kind_token kind.Return = t.Return
kind_token kind.Add = t.Add
kind_token kind.Word = t.Word (codes "a")
kind_token kind.Number = t.Number 0
kind_token kind.LeftParen = t.LeftParen
kind_token kind.RightParen = t.RightParen
kind_token kind.LeftSquare = t.LeftSquare
kind_token kind.RightSquare = t.RightSquare
kind_token kind.LeftBrace = t.LeftBrace
kind_token kind.RightBrace = t.RightBrace
kind_token kind.Comma = t.Comma
kind_token kind.Semicolon = t.Semicolon
kind_token kind.Colon = t.Colon
kind_token kind.Equals = t.Equals
kind_token kind.Plus = t.Plus
kind_token kind.Minus = t.Minus
kind_token kind.Star = t.Star
kind_token kind.Slash = t.Slash
kind_token kind.Percent = t.Percent
kind_token kind.Ampersand = t.Ampersand
kind_token kind.Bar = t.Bar
kind_token kind.Bang = t.Bang
kind_token kind.EqualEqual = t.EqualEqual
kind_token kind.BangEqual = t.BangEqual
kind_token kind.Less = t.Less
kind_token kind.LessEqual = t.LessEqual
kind_token kind.Greater = t.Greater
kind_token kind.GreaterEqual = t.GreaterEqual
kind_token kind.End = t.End

-- what a reader is told of a kind
abbrev pub kind_name : Kind → List ℕ
kind_name kind.Cells = codes "cells"
kind_name kind.Task = codes "task"
kind_name kind.Int = codes "int"
kind_name kind.Fut = codes "fut"
kind_name kind.Var = codes "var"
kind_name kind.If = codes "if"
kind_name kind.Else = codes "else"
kind_name kind.While = codes "while"
kind_name kind.Spawn = codes "spawn"
kind_name kind.Sync = codes "sync"
kind_name kind.Create = codes "create"
kind_name kind.Get = codes "get"
kind_name kind.Return = codes "return"
kind_name kind.Add = codes "add"
kind_name kind.Word = codes "a word"
kind_name kind.Number = codes "a number"
kind_name kind.LeftParen = codes "("
kind_name kind.RightParen = codes ")"
kind_name kind.LeftSquare = codes "["
kind_name kind.RightSquare = codes "]"
kind_name kind.LeftBrace = codes "{"
kind_name kind.RightBrace = codes "}"
kind_name kind.Comma = codes ","
kind_name kind.Semicolon = codes ";"
kind_name kind.Colon = codes ":"
kind_name kind.Equals = codes "="
kind_name kind.Plus = codes "+"
kind_name kind.Minus = codes "-"
kind_name kind.Star = codes "*"
kind_name kind.Slash = codes "/"
kind_name kind.Percent = codes "%"
kind_name kind.Ampersand = codes "&"
kind_name kind.Bar = codes "|"
kind_name kind.Bang = codes "!"
kind_name kind.EqualEqual = codes "=="
kind_name kind.BangEqual = codes "!="
kind_name kind.Less = codes "<"
kind_name kind.LessEqual = codes "<="
kind_name kind.Greater = codes ">"
kind_name kind.GreaterEqual = codes ">="
kind_name kind.End = codes "the end of the text"

-- the tokens behind one of a kind: the end token, but behind that one none
abbrev pub behind_kind : Kind → List Token
behind_kind kind.End = []
behind_kind _ = t.End ∷ []
