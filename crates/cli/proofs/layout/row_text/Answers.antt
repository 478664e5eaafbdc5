use Rattle.std.proofs.Common.{◌≡◌, cond, string_bytes, codes, sym, ap, ◌∙◌, rules}
use Rattle.values.specs.Values.{rows_in}
use Rattle.cli.specs.Layout.{text_at, row_at_text}
use Rattle.cli.proofs.Shown.{shown_row, made_as}
use Rattle.cli.proofs.layout.row_text.Goals as goal

pub returns-then-get : goal.returns-then-get
returns-then-get g c =
    let vs = g.P.Sink.items c.args.sink.now in
    let bs = g.V.Validity.bits c.args.validity.now in
    let s = shown_row vs bs c.args.i c.requires in
    let e : text_at vs c.args.i ≡ row_at_text (rows_in vs bs) c.args.i
    = ap (λ b. cond b (text_at vs c.args.i) (codes "null")) c.if-get.ensures.answer ∙ sym s in
    record { text = made_as string_bytes _ _ _ c.value_text.ensures.text e; sink = search rules; validity = search rules }

pub returns-else-get : goal.returns-else-get
returns-else-get g c =
    let vs = g.P.Sink.items c.args.sink.now in
    let bs = g.V.Validity.bits c.args.validity.now in
    let s = shown_row vs bs c.args.i c.requires in
    let e : codes "null" ≡ row_at_text (rows_in vs bs) c.args.i
    = ap (λ b. cond b (text_at vs c.args.i) (codes "null")) c.if-get.ensures.answer ∙ sym s in
    record { text = made_as string_bytes _ _ _ c.from_str.ensures.ok e; sink = search rules; validity = search rules }
