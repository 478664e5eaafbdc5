use Rattle.std.proofs.Common.{arith}
use Rattle.holders.specs.Left.{present_left}
use Rattle.holders.proofs.Parting.{few_most}
use Rattle.holders.proofs.Tally.{needed_most}
use Rattle.holders.proofs.page.checked_page.Goals as goal

pub checked-requires : goal.checked-requires
checked-requires c =
    let m = needed_most (present_left c.args.column.optional c.args.p.rows c.split.new.v) in
    let a = c.in_ok-n.ensures.count in
    let b = c.in_ok-n.ensures.rows in
    let g = few_most c.args.p.rows c.in_ok-few.ensures in
    omega arith
