-- Counting present rows, run by run.
use Rattle.std.proofs.Common.{◌≡◌, ℕ, ◌+◌, ◌≤◌, Bool, true, false, List, [], ◌∷◌, map, length, Some, Ok, Err, Result, refl, ap, ◌∙◌, arith}
use Rattle.hybrid_rle.specs.Runs.{Stretch, runs, ahead, allowed, numbers}
use Rattle.hybrid_rle.specs.Rows.{present, flat}
use Rattle.hybrid_rle.specs.declared.header.Broken.{Broken}
use Rattle.hybrid_rle.proofs.Streams.{Stepped, length_numbers}
use lib.ListN.{length-map}
use Rattle.holders.specs.Judge.{needed}
use Rattle.holders.specs.Counts.{tallied}
use Rattle.holders.proofs.Filling.{needed_append}

abbrev pub plus : ℕ → Result ℕ Broken → Result ℕ Broken
plus n (Ok m) = Ok (n + m)
plus n (Err e) = Err e

pub plus_plus : (a b : ℕ) (r : Result ℕ Broken) → plus a (plus b r) ≡ plus (a + b) r
plus_plus a b (Ok m) = ap Ok (omega arith)
plus_plus a b (Err e) = refl

pub needed_most : (ps : List Bool) → needed ps ≤ length ps
needed_most [] = omega arith
needed_most (true ∷ ps) = let i = needed_most ps in omega arith
needed_most (false ∷ ps) = let i = needed_most ps in omega arith

-- one run on
tally_ahead : (xs : List ℕ) (r : Result (List (List ℕ)) Broken) → tallied (ahead xs r) ≡ plus (needed (map present xs)) (tallied r)
tally_ahead xs (Ok xss) = ap Ok (needed_append (map present xs) (flat (map (map present) xss)))
tally_ahead xs (Err e) = refl

module _ (n left : ℕ) (bs rest : List ℕ) (r : Stretch) (step : Stepped 1 1 n bs (Ok (Some (r, left, rest)))) where
  pub tally_more : allowed 1 r ≡ true → (k : ℕ) → k ≡ needed (map present (numbers 1 r)) → tallied (runs 1 1 n bs) ≡ plus k (tallied (runs 1 1 left rest))
  tally_more a k e = ap tallied step.0 ∙ rw (a, e) (tally_ahead (numbers 1 r) (runs 1 1 left rest))

  pub tally_least : (k : ℕ) → k ≡ needed (map present (numbers 1 r)) → k + left ≤ n
  tally_least k e = omega (arith, step.2, needed_most (map present (numbers 1 r)), length-map (numbers 1 r) present, length_numbers 1 r)
