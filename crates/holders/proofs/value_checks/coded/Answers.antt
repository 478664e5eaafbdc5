use Rattle.std.proofs.Common.{sym, ◌∙◌, rules}
use Rattle.holders.proofs.Codes.{coded_good, coded_bad}
use Rattle.holders.proofs.value_checks.coded.Goals as goal

pub returns-then-not-indices_below-clause-given : goal.returns-then-not-indices_below-clause-given
returns-then-not-indices_below-clause-given c = coded_bad c.args.column.form c.args.column.optional c.args.dict c.args.n _ c.args.bytes.now c.in_ok-w.rest c.in_ok-w.ensures.answer (search rules) (sym c.indices_below.ensures ∙ c.if-not-indices_below.true)

pub invariant_of-result : goal.invariant_of-result
invariant_of-result c = record { there = (coded_good c.args.column.form c.args.column.optional c.args.dict c.args.n _ c.args.bytes.now c.in_ok-w.rest c.in_ok-w.ensures.answer c.in_ok-w.ensures.small c.requires (sym c.indices_below.ensures ∙ c.if-not-indices_below.false)).0 }
