use Rattle.std.proofs.Common.{◌≡◌, true, ◌++◌, length, is_ok, Some, sym, ap, ◌∙◌, subst, arith}
use Rattle.hybrid_rle.specs.Held.{piece_count, rows, Inside}
use Rattle.hybrid_rle.proofs.Pieces.{length_rows}
use Rattle.holders.proofs.Validities.{part_bits, sliced_ok}
use Rattle.holders.proofs.decode.push_piece.Goals as goal

pub returns-in-Bitmap-clause-bits : goal.returns-in-Bitmap-clause-bits
returns-in-Bitmap-clause-bits g c =
    let v = c.args.validity.now in
    let bs = c.in-Bitmap.bytes.now in
    let e = ap rows c.in-Bitmap.is in
    let l : length (rows c.args.piece) ≡ c.in-Bitmap.length = length_rows c.args.piece ∙ ap piece_count c.in-Bitmap.is in
    let i = subst (λ p. Inside (Some p)) c.in-Bitmap.is c.requires.inside in
    let s = c.requires.space in
    let x = c.extend_from_slice.ensures in
    let ok : is_ok c.extend_from_slice.result ≡ true = ap is_ok x.answer ∙ sliced_ok (length bs) (g.V.Validity.room v) (length (g.V.Validity.bits v)) c.in-Bitmap.offset c.in-Bitmap.length i.0 i.1 (omega arith) in
    (simp ok at x.bits) ∙ ap (λ t. g.V.Validity.bits v ++ t) (part_bits bs c.in-Bitmap.offset c.in-Bitmap.length ∙ sym e)
