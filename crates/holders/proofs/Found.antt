-- A page that was found sound has its values.
use Rattle.std.proofs.Common.{◌≡◌, ℕ, Bool, true, List, is_some, Some, None, Ok, Err, Option, Result, refl, arith}
use Rattle.std.specs.Option.{option_map}
use Rattle.faults.specs.declared.types.Cause.{Cause}
use Rattle.holders.specs.Judge.{spread}

abbrev pub sure : {A : Type 0} → Result A Cause → Result (Option A) Cause
sure (Ok x) = Ok (Some x)
sure (Err e) = Err e

pub sound_is_there : (o : Option (List (List ℕ))) (ps : List Bool) (r : Result (List (Option (List ℕ))) Cause) → Ok (option_map (spread ps) o) ≡ sure r → is_some o ≡ true
sound_is_there (Some x) ps r h = refl
sound_is_there None ps (Ok x) h = absurd (grind arith)
sound_is_there None ps (Err e) h = absurd (grind arith)
