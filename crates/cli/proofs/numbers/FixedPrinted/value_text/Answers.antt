use Rattle.std.proofs.Common.{string_bytes, sym, ◌∙◌}
use Rattle.cli.proofs.Shown.{shown_none, shown_number, printed_as}
use Rattle.cli.proofs.numbers.FixedPrinted.value_text.Goals as goal

pub returns-in-None-clause-text : goal.returns-in-None-clause-text
returns-in-None-clause-text g c = c.new.ensures.bytes ∙ shown_none 0 _ c.args.i c.in-None.ensures.answer

pub returns-in-Some-clause-text : goal.returns-in-Some-clause-text
returns-in-Some-clause-text g c =
    printed_as string_bytes _ _ _ _ c.to_string.ensures.ok (g.met.T.Decimal.decimal c.in-Some.x) (sym (shown_number 0 _ c.args.i _ (sym c.in-Some.ensures.answer)))
