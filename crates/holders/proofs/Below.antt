-- Indices below the entries, run by run.
use Rattle.std.proofs.Common.{◌≡◌, ℕ, zero, suc, ◌-◌, ◌*◌, ◌^◌, ◌<◌, ◌≤◌, Bool, true, false, ◌&&◌, ltb, List, [], ◌∷◌, ◌++◌, replicate, Some, Ok, Err, Result, refl, ap, ◌∙◌, mul-le-mul_right, arith}
use Rattle.std.specs.List.{flat_map}
use Rattle.hybrid_rle.specs.Runs.{Stretch, runs, ahead, allowed, numbers, all_below}
use Rattle.hybrid_rle.specs.declared.header.Broken.{Broken}
use Rattle.hybrid_rle.proofs.Streams.{Stepped}
use Rattle.holders.specs.Counts.{below}

pub all_append : (top : ℕ) (xs ys : List ℕ) → all_below top (xs ++ ys) ≡ (all_below top xs && all_below top ys)
all_append top [] ys = refl
all_append top (x ∷ xs) ys = elim (ltb x top) as (λ t. (t && all_below top (xs ++ ys)) ≡ ((t && all_below top xs) && all_below top ys)) [ true ↦ all_append top xs ys | false ↦ refl ]

pub all_same : (top v k : ℕ) → ltb v top ≡ true → all_below top (replicate k v) ≡ true
all_same top v zero e = refl
all_same top v (suc k) e = rw e (all_same top v k e)

pub some_above : (top v k : ℕ) → 0 < k → ltb v top ≡ false → all_below top (replicate k v) ≡ false
some_above top v zero h e = absurd (omega arith)
some_above top v (suc k) h e = rw e refl

below_ahead : (top : ℕ) (xs : List ℕ) (r : Result (List (List ℕ)) Broken) → all_below top xs ≡ true → below top (ahead xs r) ≡ below top r
below_ahead top xs (Ok xss) h = all_append top xs (flat_map (λ ys. ys) xss) ∙ rw h refl
below_ahead top xs (Err e) h = refl

above_ahead : (top : ℕ) (xs : List ℕ) (r : Result (List (List ℕ)) Broken) → all_below top xs ≡ false → below top (ahead xs r) ≡ false
above_ahead top xs (Ok xss) h = all_append top xs (flat_map (λ ys. ys) xss) ∙ rw h refl
above_ahead top xs (Err e) h = refl

-- one run on
module _ (w e n left : ℕ) (bs rest : List ℕ) (r : Stretch) (step : Stepped w (2 ^ 32 - 1) n bs (Ok (Some (r, left, rest)))) (fit : allowed (2 ^ 32 - 1) r ≡ true) where
  pub below_more : all_below e (numbers w r) ≡ true → below e (runs w (2 ^ 32 - 1) n bs) ≡ below e (runs w (2 ^ 32 - 1) left rest)
  below_more a = ap (below e) step.0 ∙ rw fit (below_ahead e (numbers w r) (runs w (2 ^ 32 - 1) left rest) a)

  pub below_stop : all_below e (numbers w r) ≡ false → below e (runs w (2 ^ 32 - 1) n bs) ≡ false
  below_stop a = ap (below e) step.0 ∙ rw fit (above_ahead e (numbers w r) (runs w (2 ^ 32 - 1) left rest) a)

-- one number, so many times
pub some_below : (e v k : ℕ) → (k ≡ 0 → ⊥) → all_below e (replicate k v) ≡ ltb v e
some_below e v k h = by (ltb v e) refl
  where
    by : (t : Bool) → ltb v e ≡ t → all_below e (replicate k v) ≡ t
    by true l = all_same e v k l
    by false l = some_above e v k (omega arith) l

pub few_bits : (n w : ℕ) → n ≤ 1048576 → w ≤ 32 → n * w ≤ 2 ^ 25
few_bits n w h l = let a : n * w ≤ 1048576 * w = mul-le-mul_right w h in omega arith
