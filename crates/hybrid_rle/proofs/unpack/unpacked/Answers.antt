use Rattle.std.proofs.Common.{◌/◌, ◌%◌, ◌^◌, ◌≤◌, take, drop, ap, ◌∙◌, arith}
use Rattle.std.proofs.lemmas.List.{take_rest}
use Rattle.hybrid_rle.specs.Runs.{field}
use Rattle.values.specs.Little.{little}
use Rattle.hybrid_rle.proofs.Places.{masked, five_bytes, drop_min}
use Rattle.hybrid_rle.proofs.unpack.unpacked.Goals as goal

pub returns : goal.returns
returns c =
    let e = c.min-w.ensures in
    let w : c.min-w.result ≤ 32 = omega arith in
    let bs = c.args.bytes.now in
    masked _ c.min-w.result w
    ∙ ap (λ v. v / 2 ^ (c.args.at % 8) % 2 ^ c.min-w.result) (c.window-value.ensures ∙ ap (λ t. little (take 5 t)) (take_rest bs c.min-first.result ∙ ap (λ n. drop n bs) c.min-first.ensures ∙ drop_min (c.args.at / 8) bs))
    ∙ five_bytes bs c.min-w.result c.args.at (λ i. let f = c.type_inv.bytes i in omega arith) w
    ∙ ap (λ k. field k bs c.args.at) e
