-- What is said of a number or a run that is broken.
use Rattle.std.specs.Prelude.{ℕ, List, codes}
use Rattle.hybrid_rle.specs.declared.header.Broken.{Broken}
use Rattle.hybrid_rle.specs.declared.header.Broken.TheVariants.{Ended, Long, Large, Short, Above, Wide}

abbrev pub message : Broken → List ℕ
message Ended = codes "the bytes end inside a number"
message Long = codes "a number has too many bytes"
message Large = codes "a number is above its limit"
message Short = codes "the bytes end inside a run"
message Above = codes "a repeated number is too large"
message Wide = codes "a width is above 32 bits"
