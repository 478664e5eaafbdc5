use Rattle.std.proofs.Common.{replicate, sym, ap, ◌∙◌}
use Rattle.hybrid_rle.specs.Held.{rows}
use Rattle.holders.specs.Judge.{needed}
use Rattle.holders.proofs.Validities.{needed_nulls, needed_values}
use Rattle.holders.proofs.present.present_in.Goals as goal

pub returns-then-value : goal.returns-then-value
returns-then-value c = sym (ap (λ p. needed (rows p)) c.in-Repeated.is ∙ ap (λ t. needed (replicate c.in-Repeated.length t)) c.if-value.true ∙ needed_values c.in-Repeated.length)

pub returns-else-value : goal.returns-else-value
returns-else-value c = sym (ap (λ p. needed (rows p)) c.in-Repeated.is ∙ ap (λ t. needed (replicate c.in-Repeated.length t)) c.if-value.false ∙ needed_nulls c.in-Repeated.length)
