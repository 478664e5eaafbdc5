-- What a source finds wrong by itself: each with its number and its words.
use Rattle.std.specs.Prelude.{ℕ, List, ◌++◌, codes, decimal}
use Rattle.pages.specs.declared.fault.SourceFault.{SourceFault}
use Rattle.pages.specs.declared.fault.SourceFault.TheVariants.{Command, Short, Flag, Sort, Outside, Other}

abbrev pub number_of : SourceFault → ℕ
number_of Command = 1
number_of Short = 2
number_of Flag = 3
number_of Sort = 4
number_of Outside = 5
number_of (Other n) = n

abbrev pub flaw_text : SourceFault → List ℕ
flaw_text Command = codes "an unknown command"
flaw_text Short = codes "a command or a body cut short"
flaw_text Flag = codes "a flag that is neither 0 nor 1"
flaw_text Sort = codes "a head of an unknown sort"
flaw_text Outside = codes "a part outside the buffer"
flaw_text (Other n) = codes "source fault " ++ decimal n
