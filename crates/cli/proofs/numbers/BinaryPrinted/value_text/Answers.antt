use Rattle.std.proofs.Common.{ℕ, ◌<◌, [], length, string_bytes, sym, refl, ap, ◌∙◌, zero-add}
use Rattle.values.specs.Values.{Value, bytes}
use Rattle.sinks.specs.Offsets.{row, strings}
use Rattle.sinks.proofs.Marks.{length_all}
use Rattle.std.proofs.lemmas.List.FromFn.{get_or-map-range_with_len}
use Rattle.cli.specs.Layout.{text_of_value, quoted_text}
use Rattle.cli.proofs.Shown.{shown_at, shown_past, made_as}
use Rattle.cli.proofs.numbers.BinaryPrinted.value_text.Goals as goal

pub returns-in-None : goal.returns-in-None
returns-in-None c =
    let s = c.args.self.now in
    record { text = c.new.ensures.bytes ∙ shown_past _ c.args.i (rw (length_all s) c.in-None.ensures); same = refl }

pub returns-in-Some : goal.returns-in-Some
returns-in-Some c =
    let s = c.args.self.now in
    let i = c.args.i in
    let f : ℕ → Value = λ k. bytes (row s.offsets.now s.bytes.now k) in
    let h = c.in-Some.ensures.0 in
    let l : i < length (strings s.rows s.offsets.now s.bytes.now) = rw (length_all s) h in
    record {
      text = made_as string_bytes _ _ _ c.quoted.ensures
          (ap quoted_text c.in-Some.ensures.1 ∙ sym (shown_at (strings s.rows s.offsets.now s.bytes.now) i (bytes []) l ∙ ap text_of_value (get_or-map-range_with_len f 0 s.rows i i (bytes []) h (zero-add i))));
      same = refl;
    }
