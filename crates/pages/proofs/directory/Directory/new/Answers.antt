use Rattle.std.proofs.Common.{refl}
use Rattle.pages.proofs.Directories.{delivers_what_was_laid}
use Rattle.pages.proofs.directory.Directory.new.Goals as goal

pub returns : goal.returns
returns c = record { means = c.over.ensures; law = delivers_what_was_laid; table = (refl, (refl, (refl, tt))) }
