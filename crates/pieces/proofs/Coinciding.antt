-- Two conforming answers of piece_at coincide.
use mathlib.Core.Path.{◌≡◌, refl, ap}
use Rattle.std.specs.Prelude.{Result, Ok, Err}
use Rattle.refusals.specs.declared.Refusal.{Refusal}
use Rattle.refusals.proofs.Coinciding.{named, named_back, coincide}
use Rattle.pieces.specs.declared.Piece.{Piece}
use Rattle.pieces.specs.declared.Piece.TheVariants.{End, Copied, Called}
use Rattle.pieces.specs.Pieces.{Pieced, end, copied, called, trouble, piece_of}

piece_back : Pieced → Result Piece Refusal
piece_back end = Ok End
piece_back (copied n k) = Ok (Copied n k)
piece_back (called a n k) = Ok (Called a n k)
piece_back (trouble e) = Err (named e)

piece-same : (r : Result Piece Refusal) → piece_back (piece_of r) ≡ r
unfolding piece_of piece_back
piece-same (Ok End) = refl
piece-same (Ok (Copied n k)) = refl
piece-same (Ok (Called a n k)) = refl
piece-same (Err e) = ap Err (named_back e)

pub pieces_coincide : {x y : Result Piece Refusal} {d : Pieced} → piece_of x ≡ d → piece_of y ≡ d → x ≡ y
pieces_coincide = coincide piece_of piece_back piece-same
