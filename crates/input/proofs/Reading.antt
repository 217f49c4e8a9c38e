-- A read fills the room behind what is already there, and takes those bytes from the reader.
use Rattle.std.proofs.Common.{Option, ◌≡◌, ℕ, ◌+◌, ◌≤◌, List, ◌++◌, length, take, sym, ap, ◌∙◌, subst, length-take-le}
use Rattle.std.specs.Io.KnownBytes.{Consumes}
use Rattle.std.proofs.KnownBytes.{Consumes-trans}
use borrow.Rule.Slice.PartMut.{put_mid, post_of}
use lib.Seq.{take-append-le, take-append-add}

-- the bytes from the front on are those that stood there, and those of the piece put behind them
filled : (done room n : ℕ) (buf piece : List ℕ) → done ≤ length buf → n ≤ length piece
    → take done buf ++ take n piece ≡ take (done + n) (put_mid done room buf piece)
filled done room n buf piece within fits =
    let front = take done buf in
    let behind = post_of done room buf in
    sym
    (ap (λ m. take (m + n) (front ++ (piece ++ behind))) (sym (length-take-le done buf within))
    ∙ take-append-add front (piece ++ behind) n
    ∙ ap (λ l. front ++ l) (take-append-le n piece behind fits))

pub consumed : (start held now : Option (List ℕ)) (done room n : ℕ) (buf piece : List ℕ) → done ≤ length buf → n ≤ length piece
    → Consumes start held (take done buf) → Consumes held now (take n piece) → Consumes start now (take (done + n) (put_mid done room buf piece))
consumed start held now done room n buf piece within fits before read =
    subst (Consumes start now) (filled done room n buf piece within fits) (Consumes-trans start held now _ _ before read)
