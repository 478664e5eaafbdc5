use Rattle.std.proofs.Common.{refl}
use Rattle.pages.proofs.Cuts.{cut_short_is_2}
use Rattle.pages.proofs.Wholes.{whole_then_one_fault}
use Rattle.pages.proofs.Writes.{delivers_what_was_written}
use Rattle.pages.proofs.stream.Stream.new.Goals as goal

pub returns : goal.returns
returns c = record { means = refl; law = delivers_what_was_written; cut = cut_short_is_2; whole = whole_then_one_fault; table = (refl, (refl, (refl, (refl, (refl, tt))))) }
