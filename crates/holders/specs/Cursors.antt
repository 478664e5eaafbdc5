-- The values that a cursor gives.
use Rattle.std.specs.Prelude.{ℕ, List}
use Rattle.holders.specs.Left.{values_left, or_none}
use Rattle.holders.specs.declared.page_values.PageValues.{PageValues}

abbrev pub to_give : PageValues → List (List ℕ)
to_give c = or_none (values_left c.form c.n c.values)
