use Rattle.std.proofs.Common.{◌≡◌, ◌+◌, ◌-◌, ◌<◌, ◌≤◌, ◌++◌, length, take, drop, sym, ap, ◌∙◌, subst, arith}
use Rattle.hybrid_rle.specs.Rows.{flat}
use Rattle.hybrid_rle.specs.Held.{rows}
use Rattle.hybrid_rle.specs.Cursor.{to_come}
use Rattle.hybrid_rle.proofs.Pieces.{length_rows, piece_most, piece_falls, piece_none}
use Rattle.std.proofs.lemmas.List.{append_assoc}
use Rattle.holders.proofs.Filling.{mid_able, mid_grown}
use Rattle.holders.proofs.Along.{more_taken, more_dropped, all_rows, not_ended, falls, bits_then}
use Rattle.holders.proofs.decode.extend_from_decoder.Goals as goal

pub unreachable-requires : goal.unreachable-requires
unreachable-requires g c =
    let z = piece_none (c.args.limit - c.loop-done.done) (to_come c.loop-done.page) (to_come c.next_limited.new.self) c.in_default.ensures.given c.in_default.ensures.after in
    not_ended (flat (to_come c.args.page.now)) c.loop-done.done c.args.limit (sym z.0 ∙ c.loop-done.invariant.1) c.loop-done-test.true c.requires.rows

pub push_piece-requires-clause-able : goal.push_piece-requires-clause-able
push_piece-requires-clause-able g c =
    let F = flat (to_come c.args.page.now) in
    let xs = rows c.in-Some.piece in
    let m : length xs ≤ c.args.limit - c.loop-done.done = piece_most (c.args.limit - c.loop-done.done) xs (to_come c.next_limited.new.self) (to_come c.loop-done.page) c.in-Some.ensures.given in
    let t = c.loop-done-test.true in
    let n : c.loop-done.done + length xs ≤ c.args.limit = omega arith in
    let e = all_rows F xs (flat (to_come c.next_limited.new.self)) c.loop-done.done c.args.limit (c.in-Some.ensures.onward ∙ c.loop-done.invariant.1) (omega (arith, c.requires.rows)) n in
    mid_able _ _ (take c.args.limit F) (take c.loop-done.done F) xs (take (c.args.limit - (c.loop-done.done + length xs)) (flat (to_come c.next_limited.new.self))) _ e c.requires.able _ _ _ c.loop-done.invariant.4 c.loop-done.invariant.2 c.loop-done.invariant.3

pub push_piece-requires-clause-space : goal.push_piece-requires-clause-space
push_piece-requires-clause-space g c =
    let F = flat (to_come c.args.page.now) in
    let xs = rows c.in-Some.piece in
    let m = piece_most (c.args.limit - c.loop-done.done) xs (to_come c.next_limited.new.self) (to_come c.loop-done.page) c.in-Some.ensures.given in
    let t = c.loop-done-test.true in
    let u = bits_then (g.V.Validity.bits c.args.validity.now) F (g.V.Validity.bits c.loop-done.validity) c.loop-done.done (omega (arith, c.requires.rows)) c.loop-done.invariant.6 in
    let s = c.requires.space in
    subst (λ k. length (g.V.Validity.bits c.loop-done.validity) + length xs ≤ k) (sym c.loop-done.invariant.7) (omega arith)

pub overflow_add-done : goal.overflow_add-done
overflow_add-done g c =
    let m = piece_most (c.args.limit - c.loop-done.done) (rows c.in-Some.piece) (to_come c.next_limited.new.self) (to_come c.loop-done.page) c.in-Some.ensures.given in
    let k : c.len-done.result ≡ length (rows c.in-Some.piece) = c.len-done.ensures ∙ sym (length_rows c.in-Some.piece) in
    let f = c.ranges.limit.fits in
    let t = c.loop-done-test.true in
    omega arith

pub loop-done-smaller : goal.loop-done-smaller
loop-done-smaller g c =
    let m = piece_most (c.args.limit - c.loop-done.done) (rows c.in-Some.piece) (to_come c.next_limited.new.self) (to_come c.loop-done.page) c.in-Some.ensures.given in
    let t = c.loop-done-test.true in
    let p = piece_falls (c.args.limit - c.loop-done.done) (rows c.in-Some.piece) (to_come c.next_limited.new.self) (to_come c.loop-done.page) (omega arith) c.in-Some.ensures.given c.in-Some.ensures.after in
    let q = falls c.args.limit c.loop-done.done (length (rows c.in-Some.piece)) (length (to_come c.loop-done.page)) (length (to_come c.next_limited.new.self)) t p m in
    subst (λ k. (c.args.limit - (c.loop-done.done + k)) + length (to_come c.next_limited.new.self) < (c.args.limit - c.loop-done.done) + length (to_come c.loop-done.page)) (length_rows c.in-Some.piece ∙ sym c.len-done.ensures) q

pub loop-done-preserved : goal.loop-done-preserved
loop-done-preserved g c =
    let F = flat (to_come c.args.page.now) in
    let xs = rows c.in-Some.piece in
    let d = c.loop-done.done in
    let ys = flat (to_come c.next_limited.new.self) in
    let m : length xs ≤ c.args.limit - d = piece_most (c.args.limit - d) xs (to_come c.next_limited.new.self) (to_come c.loop-done.page) c.in-Some.ensures.given in
    let t = c.loop-done-test.true in
    let n : d + length xs ≤ c.args.limit = omega arith in
    let k : c.len-done.result ≡ length xs = c.len-done.ensures ∙ sym (length_rows c.in-Some.piece) in
    let some : d ≤ length F = omega (arith, c.requires.rows) in
    let o : xs ++ ys ≡ drop d F = c.in-Some.ensures.onward ∙ c.loop-done.invariant.1 in
    let e = all_rows F xs ys d c.args.limit o some n in
    let x : take (d + c.len-done.result) F ≡ take d F ++ xs = ap (λ j. take (d + j) F) k ∙ more_taken F xs ys d c.args.limit o some n in
    let z = c.push_piece.ensures in
    let y = mid_grown _ _ (take c.args.limit F) (take d F) xs (take (c.args.limit - (d + length xs)) ys) _ e c.requires.able _ (take (d + c.len-done.result) F) _ _ _ _ c.loop-done.invariant.4 x c.loop-done.invariant.2 c.loop-done.invariant.3 z.fills.items z.fills.left in (
      omega arith,
      more_dropped F xs ys d c.args.limit o some n ∙ ap (λ j. drop (d + j) F) (sym k),
      y.0,
      y.1,
      z.fills.room ∙ c.loop-done.invariant.4,
      z.fills.home ∙ c.loop-done.invariant.5,
      z.bits ∙ ap (λ l. l ++ xs) c.loop-done.invariant.6 ∙ append_assoc (g.V.Validity.bits c.args.validity.now) (take d F) xs ∙ ap (λ l. g.V.Validity.bits c.args.validity.now ++ l) (sym x),
      z.memory.0 ∙ c.loop-done.invariant.7,
      z.memory.1 ∙ c.loop-done.invariant.8,
    )
