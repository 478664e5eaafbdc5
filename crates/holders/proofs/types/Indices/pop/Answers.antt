use Rattle.std.proofs.Common.{◌≡◌, ◌<◌, true, length, is_some, Some, sym, ap, ◌∙◌, subst}
use Rattle.holders.specs.Left.{current_numbers}
use Rattle.holders.specs.Entries.{current_count}
use Rattle.hybrid_rle.proofs.Places.{small_width}
use Rattle.holders.proofs.Onward.{all_to_come, bounds, pop_packed}
use Rattle.holders.proofs.types.Indices.pop.Goals as goal

pub returns-in-Bitmap : goal.returns-in-Bitmap
returns-in-Bitmap c =
    let h = c.args.self.now in
    let r = h.runs in
    let e = c.in-Some.is ∙ ap Some c.in-Bitmap.is in
    let s = subst (λ x. is_some (all_to_come r.w (current_numbers r.w x) r.left r.rest.now) ≡ true) e c.requires.0 in
    let n = subst (λ x. 0 < current_count x) e c.requires.1 in
    pop_packed r.w c.in-Bitmap.offset c.in-Bitmap.length (length c.in-Bitmap.bytes.now) c.unpacked-v.result r.left c.in-Bitmap.bytes.now r.rest.now n (c.unpacked-v.ensures ∙ small_width r.w c.in-Bitmap.bytes.now c.in-Bitmap.offset (bounds r.w _ r.left r.rest.now c.requires.0).0) s
    ∙ sym (ap (λ x. all_to_come r.w (current_numbers r.w x) r.left r.rest.now) e)
