use Rattle.std.proofs.Common.{map, ap, ◌∙◌}
use Rattle.pages.specs.Meaning.{meaning}
use Rattle.holders.specs.Columns.{row_of, column_of}
use Rattle.holders.specs.Holding.{unused, held}
use Rattle.deserialize.proofs.Verdicts.{judged_answer, judged_rows, judged_held}
use Rattle.deserialize.proofs.primitive.basic.PageDecoderDecoder.build_state.Goals as goal

pub returns : goal.returns
returns g c =
    let h = c.args.self.now.holder in
    let f = g.C.OverPage.value in
    let form = h.column.form in
    let d = meaning c.args.d in
    let e = c.hold.ensures in
    record {
      answer = e.answer ∙ judged_answer form f h.column.optional (held h) d;
      column = ap (λ k. column_of k.form f k.optional) e.column;
      unused = ap (map (row_of f)) e.rows ∙ judged_rows form f h.column.optional (held h) d (unused h);
      held = e.dict ∙ judged_held form f h.column.optional (held h) d;
    }
