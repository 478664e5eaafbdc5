-- Lists that fit.
use Rattle.std.proofs.Common.{◌≡◌, ℕ, ◌≤◌, Bool, true, false, cond, leb, List, ◌++◌, length, refl, arith, length-append}
use Rattle.std.proofs.lemmas.Bool.{leb-true}
use Rattle.values.specs.Values.{Value, Room, fits, weights}
use Rattle.sinks.specs.Fits.{fits_from}
use Rattle.sinks.proofs.Rows.{weights_append}

both : (a b : Bool) → cond a b false ≡ true → (a ≡ true) × (b ≡ true)
both true b e = (refl, e)
both false b e = let z : ◌≡◌ {A = ℕ} 0 1 = cc in absurd (omega arith)

-- what fits has few enough rows and bytes
pub fits_parts : (r : Room) (vs : List Value) → fits r vs ≡ true → (length vs ≤ r.rows) × (weights vs ≤ r.bytes)
fits_parts r vs e = let p = both (leb (length vs) r.rows) (leb (weights vs) r.bytes) e in (leb-true _ _ p.0, leb-true _ _ p.1)

-- what fits with more after it fits
pub fits_front : (r : Room) (xs ys : List Value) → fits r (xs ++ ys) ≡ true → fits r xs ≡ true
fits_front r xs ys e =
    let p = fits_parts r (xs ++ ys) e in
    fits_from r xs (omega (arith, p.0, length-append xs ys)) (omega (arith, p.1, weights_append xs ys))
