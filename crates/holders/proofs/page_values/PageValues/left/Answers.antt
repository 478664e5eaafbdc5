use Rattle.holders.proofs.Lengths.{has_values, length_given}
use Rattle.holders.proofs.page_values.PageValues.left.Goals as goal

pub returns : goal.returns
returns c =
    let h = c.args.self.now in
    length_given h.n _ (has_values h.form h.n h.values) h.there
