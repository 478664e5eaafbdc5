use Rattle.std.proofs.Common.{◌≤◌, sym, ap, ◌∙◌, arith, length-take}
use Rattle.std.proofs.lemmas.List.{get_or-take}
use Rattle.hybrid_rle.specs.Header.{within_limit, number}
use Rattle.hybrid_rle.proofs.Headers.{last_digit, more_digits, digits_below, cut_off}
use Rattle.hybrid_rle.proofs.header.read_number.Goals as goal

pub returns-then-bytes-most : goal.returns-then-bytes-most
returns-then-bytes-most c =
    let l = length-take c.min.result c.args.bytes.now in
    let e = cut_off c.args.bytes.now c.min-most.result c.loop-at.at c.loop-at.value (omega arith) (omega arith) c.loop-at.invariant.1 in
    sym (ap (λ n. within_limit c.args.limit (number n c.args.bytes.now)) (sym c.min-most.ensures) ∙ ap (within_limit c.args.limit) e)

pub returns-then-b-lt128 : goal.returns-then-b-lt128
returns-then-b-lt128 c =
    let m = c.min-most.ensures in
    let l = length-take c.min.result c.args.bytes.now in
    let few : c.min-most.result ≤ 10 = omega arith in
    let b = get_or-take c.min.result c.args.bytes.now c.loop-at.at 0 (omega arith) in
    let e = last_digit c.args.bytes.now c.min-most.result c.loop-at.at c.loop-at.value _ few (omega arith) (omega arith) b (omega arith) c.loop-at.invariant.1 (omega arith) in
    c.limited.ensures
    ∙ sym (ap (λ n. within_limit c.args.limit (number n c.args.bytes.now)) (sym m) ∙ ap (within_limit c.args.limit) e)

pub loop-at-preserved : goal.loop-at-preserved
loop-at-preserved c =
    let m = c.min-most.ensures in
    let l = length-take c.min.result c.args.bytes.now in
    let few : c.min-most.result ≤ 10 = omega arith in
    let b = get_or-take c.min.result c.args.bytes.now c.loop-at.at 0 (omega arith) in (
      digits_below _ c.loop-at.at c.loop-at.value (omega arith) c.loop-at.invariant.0,
      more_digits c.args.bytes.now c.min-most.result c.loop-at.at c.loop-at.value _ few (omega arith) (omega arith) b (omega arith) c.loop-at.invariant.1 (omega arith),
    )
