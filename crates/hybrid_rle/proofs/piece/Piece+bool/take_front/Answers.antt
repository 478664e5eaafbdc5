use Rattle.std.proofs.Common.{◌-◌, ◌<◌, [], ◌∷◌, take, sym, ap, ◌∙◌, subst}
use Rattle.hybrid_rle.specs.Rows.{bits, beyond}
use Rattle.hybrid_rle.specs.Held.{piece_count, rows}
use Rattle.hybrid_rle.proofs.Pieces.{bits_cut, same_cut}
use Rattle.hybrid_rle.proofs.piece.Piece+bool.take_front.Goals as goal

pub returns-in-Bitmap-clause-first : goal.returns-in-Bitmap-clause-first
returns-in-Bitmap-clause-first c =
    let b = c.in-Bitmap in
    let more = subst (λ p. c.args.limit < piece_count p) b.is c.requires.more in
    (bits_cut b.bytes.now b.offset b.length c.args.limit more).0 ∙ ap (λ p. take c.args.limit (rows p)) (sym b.is)

pub returns-in-Bitmap-clause-rest : goal.returns-in-Bitmap-clause-rest
returns-in-Bitmap-clause-rest c =
    let b = c.in-Bitmap in
    let more = subst (λ p. c.args.limit < piece_count p) b.is c.requires.more in
    ap (λ o. bits b.bytes.now o (b.length - c.args.limit) ∷ []) c.row_after.ensures
    ∙ (bits_cut b.bytes.now b.offset b.length c.args.limit more).1
    ∙ ap (λ p. beyond c.args.limit (rows p ∷ [])) (sym b.is)

pub returns-in-Repeated-clause-first : goal.returns-in-Repeated-clause-first
returns-in-Repeated-clause-first c =
    let r = c.in-Repeated in
    let more = subst (λ p. c.args.limit < piece_count p) r.is c.requires.more in
    (same_cut r.value r.length c.args.limit more).0 ∙ ap (λ p. take c.args.limit (rows p)) (sym r.is)

pub returns-in-Repeated-clause-rest : goal.returns-in-Repeated-clause-rest
returns-in-Repeated-clause-rest c =
    let r = c.in-Repeated in
    let more = subst (λ p. c.args.limit < piece_count p) r.is c.requires.more in
    (same_cut r.value r.length c.args.limit more).1 ∙ ap (λ p. beyond c.args.limit (rows p ∷ [])) (sym r.is)
