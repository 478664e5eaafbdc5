use Rattle.std.proofs.Common.{sym, ◌∙◌}
use Rattle.holders.specs.Left.{present_left}
use Rattle.holders.proofs.Lengths.{has_values, length_given, length_spread}
use Rattle.holders.proofs.holder.Holder.unused.Goals as goal

pub returns : goal.returns
returns g c =
    let h = c.args.self.now in
    let ps = present_left h.column.optional h.rows h.validity in
    let l = length_given h.values.n _ (has_values h.values.form h.values.n h.values.values) h.values.there in
    sym (length_spread ps _ (h.page ∙ l) ∙ h.count)
