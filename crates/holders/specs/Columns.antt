-- The columns: what a delivery comes to once each value's bytes are converted.
use Rattle.std.specs.Prelude.{◌≡◌, ℕ, zero, suc, Bool, true, false, List, [], ◌∷◌, map, replicate, Some, None, Ok, Err, Option, Result, refl}
use Rattle.std.proofs.Common.{arith}
use Rattle.faults.specs.declared.types.Cause.{Cause}
use Rattle.faults.specs.Faults.{then_do}
use Rattle.pages.specs.Delivered.{Delivered, page, dict, fault}
use Rattle.values.specs.Values.{Value, Row, null, value}
use Rattle.model.specs.Model as model
use Rattle.model.specs.Model.{Column, Dict, AllPresent, rows_of}
use Rattle.holders.specs.Judge.{Verdict, Page, Holds, Fault, judge, as_page, as_dict, dict_held, page_rows, few, flagged, encoded, values, needed, spread}
use Rattle.holders.specs.declared.types.Form.{Form}

-- a row is null or its converted value
abbrev pub row_of : (List ℕ → Value) → Option (List ℕ) → Row
row_of f None = null
row_of f (Some bs) = value (f bs)

abbrev pub converted : (List ℕ → Value) → Verdict (List (List ℕ)) (Option (List ℕ)) → model.Verdict
converted f (Page rs) = model.Page (map (row_of f) rs)
converted f (Holds d) = model.Holds d
converted f (Fault e) = model.Broken e

module _ (f : List ℕ → Value) where
  abbrev Full : Result (List (Option (List ℕ))) Cause → Type 0
  Full (Ok rs) = AllPresent (map (row_of f) rs)
  Full (Err e) = Unit {0}

  full_then : {A : Type 0} (r : Result A Cause) (k : A → Result (List (Option (List ℕ))) Cause) → ((x : A) → Full (k x)) → Full (then_do r k)
  full_then (Ok x) k h = h x
  full_then (Err e) k h = tt

  full_spread : (n : ℕ) (vs : List (List ℕ)) → AllPresent (map (row_of f) (spread (replicate n true) vs))
  full_spread zero vs = tt
  full_spread (suc n) [] = tt
  full_spread (suc n) (v ∷ vs) = (refl, full_spread n vs)

  full_page : (r : Result (List (Option (List ℕ))) Cause) → Full r → AllPresent (rows_of (converted f (as_page r)))
  full_page (Ok rs) h = h
  full_page (Err e) h = tt

  full_dict : (r : Result (Option (List (List ℕ))) Cause) → AllPresent (rows_of (converted f (as_dict r)))
  full_dict (Ok d) = tt
  full_dict (Err e) = tt

  module _ (form : Form) (h : Option Dict) (n c : ℕ) (flag : Bool) (bs : List ℕ) where
    abbrev filled_in : List (List ℕ) → Result (List (Option (List ℕ))) Cause
    filled_in vs = Ok (spread (replicate n true) vs)

    abbrev with_values : Option (List (List ℕ)) → Result (List (Option (List ℕ))) Cause
    with_values es = then_do (values form false es (needed (replicate n true)) bs) filled_in

    abbrev with_encoding : Unit {0} → Result (List (Option (List ℕ))) Cause
    with_encoding u = then_do (encoded form h c) with_values

    abbrev with_flag : Unit {0} → Result (List (Option (List ℕ))) Cause
    with_flag u = then_do (flagged false flag) with_encoding

    required_full : AllPresent (rows_of (converted f (judge form false h (page n c flag bs))))
    required_full =
        full_page (page_rows form false h n c flag bs)
        (full_then (few n) with_flag (λ _. full_then (flagged false flag) with_encoding (λ _. full_then (encoded form h c) with_values (λ es. full_then (values form false es (needed (replicate n true)) bs) filled_in (λ vs. full_spread n vs)))))

  -- no row of a required column is null
  pub judged_full : (form : Form) (o : Bool) → o ≡ false → (h : Option Dict) (d : Delivered) → AllPresent (rows_of (converted f (judge form o h d)))
  judged_full form true e h d = let z : ◌≡◌ {A = ℕ} 0 1 = cc in absurd (omega arith)
  judged_full form false e h (dict n bs) = full_dict (dict_held form h n bs)
  judged_full form false e h (fault k) = tt
  judged_full form false e h (page n c flag bs) = required_full form h n c flag bs

-- the column of a page form, a conversion and an optional flag
abbrev pub column_of : Form → (List ℕ → Value) → Bool → Column
column_of form f optional = record { optional = optional; judge = λ h d. converted f (judge form optional h d); full = judged_full f form optional }
