-- What an append of bits from a slice answers.
use Rattle.std.specs.Prelude.{ℕ, ◌+◌, cond, Ok, Err, Result, nat_le}
use Rattle.bitmap.specs.declared.mutable.Refusal.{Refusal}
use Rattle.bitmap.specs.declared.mutable.Refusal.TheVariants.{Outside, Full}

-- n bits from bit offset on, of the `held` bits of a slice, after `used` bits where `room` fit: that they lie in the slice is looked at first
abbrev pub sliced : ℕ → ℕ → ℕ → ℕ → ℕ → Result (Unit {0}) Refusal
sliced held room used offset n = cond (nat_le (offset + n) held) (cond (nat_le (used + n) room) (Ok tt) (Err Full)) (Err Outside)
