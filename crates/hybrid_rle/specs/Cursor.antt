-- What a cursor means: the rows still to come, run by run.
use Rattle.std.specs.Prelude.{Bool, List, ◌++◌}
use Rattle.hybrid_rle.specs.Rows.{later}
use Rattle.hybrid_rle.specs.Held.{held}
use Rattle.hybrid_rle.specs.declared.validity.OptionalPageValidity.{OptionalPageValidity}

abbrev pub to_come : OptionalPageValidity → List (List Bool)
to_come c = held c.current ++ later c.runs.left c.runs.rest.now
