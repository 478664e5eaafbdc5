use Rattle.std.proofs.Common.{string_bytes, sym, ap, ◌∙◌}
use Rattle.cli.specs.Layout.{text_of_flag}
use Rattle.cli.proofs.Shown.{shown_none, shown_flag, made_as}
use Rattle.cli.proofs.numbers.MutableBitmapPrinted.value_text.Goals as goal

pub returns-in-None-clause-text : goal.returns-in-None-clause-text
returns-in-None-clause-text c = c.new.ensures.bytes ∙ shown_none 0 _ c.args.i c.in-None.ensures.answer

pub returns-in-Some-true-clause-text : goal.returns-in-Some-true-clause-text
returns-in-Some-true-clause-text c =
    let b = c.in-Some-true.field-0 in
    made_as string_bytes _ _ _ c.from_str.ensures.ok (ap text_of_flag (sym c.in-Some-true.field-0-test) ∙ sym (shown_flag 0 _ c.args.i b (sym c.in-Some-true.ensures.answer)))

pub returns-in-Some-false-clause-text : goal.returns-in-Some-false-clause-text
returns-in-Some-false-clause-text c =
    let b = c.in-Some-false.field-0 in
    made_as string_bytes _ _ _ c.from_str-in-Some-false.ensures.ok (ap text_of_flag (sym c.in-Some-false.field-0-test) ∙ sym (shown_flag 0 _ c.args.i b (sym c.in-Some-false.ensures.answer)))
