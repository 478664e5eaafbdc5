-- What a call leaves of lent memory: as much room as before, in the same place.
use Rattle.std.specs.Prelude.{◌≡◌, ℕ, List}

abbrev pub SameMemory : {S A : Type 0} → (S → A) → (S → List ℕ) → S → S → Type 0
SameMemory room home old new = (room new ≡ room old) × (home new ≡ home old)
