-- helper: in no public contract
-- A piece of the program, as a piece of the definition.
use Rattle.vfa_ir.specs.Tokens as tokens
use Rattle.vfa_lex.specs.declared.pieces.Piece.{Piece}
use Rattle.vfa_lex.specs.declared.pieces.Piece.TheVariants.{Gap, Token}

abbrev pub as_piece : Piece → tokens.Piece
as_piece (Gap more) = tokens.gap more
as_piece (Token kind more) = tokens.token kind more
