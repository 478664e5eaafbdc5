use Rattle.std.proofs.Common.{◌≡◌, [], sym, ap, ◌∙◌}
use Rattle.pages.specs.Delivered.{first, others}
use Rattle.holders.specs.Cursors.{to_give}
use Rattle.holders.proofs.Lengths.{has_values, none_given}
use Rattle.holders.proofs.page_values.PageValues.next.Goals as goal

pub returns-then-self-eq0 : goal.returns-then-self-eq0
returns-then-self-eq0 c =
    let h = c.args.self.now in
    let z : to_give h ≡ [] = none_given h.n _ c.if-self-eq0.true (has_values h.form h.n h.values) in
    record { given = sym (ap first z); after = z ∙ sym (ap others z) }
