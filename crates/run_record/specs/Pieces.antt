-- Texts as pieces.
use Rattle.std.specs.Prelude.{ℕ, List, [], ◌∷◌, ◌++◌, decimal}
use Rattle.std.specs.Fmt.{signed_decimal}
use Rattle.run_record.specs.declared.pieces.Piece.{Piece}
use Rattle.run_record.specs.declared.pieces.Piece.TheVariants.{Bytes, Number, Count, Signed, Datum}
use Rattle.run_record.specs.RunText.{value_text}

-- what a piece is as bytes
abbrev pub piece_text : Piece → List ℕ
piece_text (Bytes bytes) = bytes.now
piece_text (Number n) = decimal n
piece_text (Count n) = decimal n
piece_text (Signed z) = signed_decimal z
piece_text (Datum v) = value_text v

-- pieces one after another, in front of a rest
abbrev pub pieces_before : List Piece → List ℕ → List ℕ
pieces_before [] rest = rest
pieces_before (p ∷ ps) rest = piece_text p ++ pieces_before ps rest

-- the text of the pieces
abbrev pub pieces_text : List Piece → List ℕ
pieces_text ps = pieces_before ps []
