use Rattle.std.proofs.Common.{◌≡◌, ◌/◌, ◌%◌, ◌++◌, length, vec_items}
use Rattle.cli.specs.HeadFile.{heads_in}
use Rattle.cli.proofs.heads.heads_of.Given as goal

abbrev pub invariant-loop-head : goal.invariant-loop-head
invariant-loop-head l = (heads_in (length l.bytes / 15) l.bytes ≡ vec_items l.heads ++ heads_in (length l.rest / 15) l.rest) × (length l.rest % 15 ≡ length l.bytes % 15)

abbrev pub decreases-loop-head : goal.decreases-loop-head
decreases-loop-head l = length l.rest
