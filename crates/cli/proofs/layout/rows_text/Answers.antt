use Rattle.std.proofs.Common.{◌≡◌, ◌<◌, ◌≤◌, length, string_bytes, codes, refl, ap, ◌∙◌, arith}
use Rattle.values.specs.Values.{rows_in}
use Rattle.model.proofs.Rows.{length_rows}
use Rattle.cli.specs.Layout.{row_at_text}
use Rattle.cli.proofs.Laid.{laid_on, laid_out}
use Rattle.cli.proofs.layout.rows_text.Goals as goal

pub loop-i-preserved : goal.loop-i-preserved
loop-i-preserved g c =
    let vs = g.P.Sink.items c.args.sink.now in
    let bs = g.V.Validity.bits c.args.validity.now in
    let n = length_rows vs bs in
    let e = c.len-rows.ensures in
    let l : c.loop-i.i < length (rows_in vs bs) = omega arith in
    let row : string_bytes c.in_ok-row.row ≡ row_at_text (rows_in vs bs) c.loop-i.i
    = c.in_ok-row.ensures.text
    ∙ ap (λ s. row_at_text (rows_in (g.P.Sink.items s) (g.V.Validity.bits c.loop-i.validity)) c.loop-i.i) c.loop-i.invariant.1
    ∙ ap (λ v. row_at_text (rows_in vs (g.V.Validity.bits v)) c.loop-i.i) c.loop-i.invariant.2 in (
      laid_on (string_bytes c.loop-i.text) (codes "[") _ _ (rows_in vs bs) c.loop-i.i l c.loop-i.invariant.0 (c.as_str.ensures.value ∙ row) (c.in_ok-put_row.ensures refl),
      c.row_text.ensures.sink ∙ c.loop-i.invariant.1,
      c.row_text.ensures.validity ∙ c.loop-i.invariant.2,
    )

pub returns : goal.returns
returns g c =
    let vs = g.P.Sink.items c.args.sink.now in
    let bs = g.V.Validity.bits c.args.validity.now in
    let n = length_rows vs bs in
    let e = c.len-rows.ensures in
    let l : length (rows_in vs bs) ≤ c.loop-i.i = omega arith in
    record {
      text = laid_out (string_bytes c.loop-i.text) (codes "[") _ (codes "]") (rows_in vs bs) c.loop-i.i l c.loop-i.invariant.0 c.in_ok-push_str.ensures.bytes;
      sink = c.loop-i.invariant.1;
      validity = c.loop-i.invariant.2;
    }
