use Rattle.std.proofs.Common.{◌≡◌, ◌+◌, ◌-◌, ◌<◌, ◌≤◌, ◌++◌, length, take, drop, sym, ap, ◌∙◌, subst, arith}
use Rattle.hybrid_rle.specs.Rows.{flat}
use Rattle.hybrid_rle.specs.Held.{rows}
use Rattle.hybrid_rle.specs.Cursor.{to_come}
use Rattle.hybrid_rle.proofs.Pieces.{length_rows, piece_most, piece_falls, piece_none}
use Rattle.holders.specs.Judge.{needed}
use Rattle.holders.proofs.Filling.{needed_append}
use Rattle.holders.proofs.Tally.{needed_most}
use Rattle.holders.proofs.Along.{more_taken, more_dropped, not_ended, falls}
use Rattle.holders.proofs.measure.count_present.Goals as goal

pub unreachable-requires : goal.unreachable-requires
unreachable-requires c =
    let z = piece_none (c.args.limit - c.loop-done.done) (to_come c.loop-done.page) (to_come c.next_limited.new.self) c.in_default.ensures.given c.in_default.ensures.after in
    not_ended (flat (to_come c.args.page.now)) c.loop-done.done c.args.limit (sym z.0 ∙ c.loop-done.invariant.1) c.loop-done-test.true c.requires

pub overflow_add-done : goal.overflow_add-done
overflow_add-done c =
    let m = piece_most (c.args.limit - c.loop-done.done) (rows c.in-Some.piece) (to_come c.next_limited.new.self) (to_come c.loop-done.page) c.in-Some.ensures.given in
    let k : c.len-done.result ≡ length (rows c.in-Some.piece) = c.len-done.ensures ∙ sym (length_rows c.in-Some.piece) in
    let f = c.ranges.limit.fits in
    let t = c.loop-done-test.true in
    omega arith

pub overflow_add-count : goal.overflow_add-count
overflow_add-count c =
    let m = piece_most (c.args.limit - c.loop-done.done) (rows c.in-Some.piece) (to_come c.next_limited.new.self) (to_come c.loop-done.page) c.in-Some.ensures.given in
    let k = c.present_in-count.ensures in
    let q = needed_most (rows c.in-Some.piece) in
    let i = c.loop-done.invariant.3 in
    let f = c.ranges.limit.fits in
    let t = c.loop-done-test.true in
    omega arith

pub loop-done-smaller : goal.loop-done-smaller
loop-done-smaller c =
    let m = piece_most (c.args.limit - c.loop-done.done) (rows c.in-Some.piece) (to_come c.next_limited.new.self) (to_come c.loop-done.page) c.in-Some.ensures.given in
    let t = c.loop-done-test.true in
    let p = piece_falls (c.args.limit - c.loop-done.done) (rows c.in-Some.piece) (to_come c.next_limited.new.self) (to_come c.loop-done.page) (omega arith) c.in-Some.ensures.given c.in-Some.ensures.after in
    let q = falls c.args.limit c.loop-done.done (length (rows c.in-Some.piece)) (length (to_come c.loop-done.page)) (length (to_come c.next_limited.new.self)) t p m in
    subst (λ k. (c.args.limit - (c.loop-done.done + k)) + length (to_come c.next_limited.new.self) < (c.args.limit - c.loop-done.done) + length (to_come c.loop-done.page)) (length_rows c.in-Some.piece ∙ sym c.len-done.ensures) q

pub loop-done-preserved : goal.loop-done-preserved
loop-done-preserved c =
    let F = flat (to_come c.args.page.now) in
    let xs = rows c.in-Some.piece in
    let d = c.loop-done.done in
    let ys = flat (to_come c.next_limited.new.self) in
    let m : length xs ≤ c.args.limit - d = piece_most (c.args.limit - d) xs (to_come c.next_limited.new.self) (to_come c.loop-done.page) c.in-Some.ensures.given in
    let t = c.loop-done-test.true in
    let n : d + length xs ≤ c.args.limit = omega arith in
    let k : c.len-done.result ≡ length xs = c.len-done.ensures ∙ sym (length_rows c.in-Some.piece) in
    let some : d ≤ length F = omega (arith, c.requires) in
    let o : xs ++ ys ≡ drop d F = c.in-Some.ensures.onward ∙ c.loop-done.invariant.1 in
    let x : take (d + c.len-done.result) F ≡ take d F ++ xs = ap (λ j. take (d + j) F) k ∙ more_taken F xs ys d c.args.limit o some n in
    let u : needed (take (d + c.len-done.result) F) ≡ needed (take d F) + needed xs = ap needed x ∙ needed_append (take d F) xs in
    let p = c.present_in-count.ensures in
    let q = needed_most xs in
    let i = c.loop-done.invariant.2 in
    let j = c.loop-done.invariant.3 in (
      omega arith,
      more_dropped F xs ys d c.args.limit o some n ∙ ap (λ j. drop (d + j) F) (sym k),
      omega (arith, u),
      omega arith,
    )
