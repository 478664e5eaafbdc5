-- Indices, one after the other.
use Rattle.std.proofs.Common.{◌≡◌, ℕ, zero, suc, ◌+◌, ◌-◌, ◌*◌, ◌^◌, ◌<◌, ◌≤◌, min, Bool, true, false, cond, ◌&&◌, leb, List, [], ◌∷◌, length, is_some, Some, None, Ok, Err, Option, Result, sym, refl, ap, ◌∙◌, suc-mul, arith, le-leb, leb-true}
use Rattle.hybrid_rle.specs.Runs.{Stretch, run, runs, ahead, allowed, numbers, count, field, fields}
use Rattle.hybrid_rle.specs.declared.header.Broken.{Broken}
use Rattle.hybrid_rle.specs.declared.header.Broken.TheVariants.{Above}
use Rattle.hybrid_rle.proofs.Streams.{Roomy, Stepped}
use Rattle.holders.specs.Judge.{put}
use Rattle.holders.specs.Left.{ok_some, or_none, current_numbers, numbers_left}
use Rattle.holders.specs.Entries.{current_count}
use Rattle.hybrid_rle.specs.declared.piece.Piece.{Piece}
use Rattle.hybrid_rle.specs.declared.piece.Piece.TheVariants as pc
use Rattle.hybrid_rle.specs.declared.runs.Run.{Run}
use Rattle.hybrid_rle.specs.declared.runs.Run.TheVariants.{Bitmap, Repeated}
use Rattle.hybrid_rle.specs.Borrowed.{as_numbers, stretch}
use Rattle.holders.proofs.Below.{few_bits}

-- all indices to come, in parts
abbrev pub all_to_come : ℕ → Option (List ℕ) → ℕ → List ℕ → Option (List ℕ)
all_to_come w c left bs = cond (leb w 32 && leb left 1048576) (numbers_left c (runs w (2 ^ 32 - 1) left bs)) None

tests : {A : Type 0} (a b : Bool) (o : Option A) → is_some (cond (a && b) o None) ≡ true → (a ≡ true) × (b ≡ true) × (is_some o ≡ true)
tests true true o h = (refl, refl, h)
tests true false o h = absurd (grind arith)
tests false b o h = absurd (grind arith)

pub bounds : (w : ℕ) (c : Option (List ℕ)) (left : ℕ) (bs : List ℕ) → is_some (all_to_come w c left bs) ≡ true → (w ≤ 32) × (left ≤ 1048576) × (is_some (numbers_left c (runs w (2 ^ 32 - 1) left bs)) ≡ true)
bounds w c left bs h = let t = tests (leb w 32) (leb left 1048576) _ h in (leb-true _ _ t.0, leb-true _ _ t.1, t.2)

both : (c : Option (List ℕ)) (r : Result (List (List ℕ)) Broken) → is_some (numbers_left c r) ≡ true → (is_some c ≡ true) × (is_some (ok_some r) ≡ true)
both (Some is) (Ok xss) h = (refl, refl)
both (Some is) (Err e) h = absurd (grind arith)
both None r h = absurd (grind arith)

put_numbers : (t : Bool) (x : ℕ) (xs : List ℕ) (r : Result (List (List ℕ)) Broken) → put x (cond t (numbers_left (Some xs) r) None) ≡ cond t (numbers_left (Some (x ∷ xs)) r) None
put_numbers true x xs (Ok xss) = refl
put_numbers true x xs (Err e) = refl
put_numbers false x xs r = refl

-- the test of a packed run
fit_of : (b : Bool) (xs : List ℕ) → is_some (cond b (Some xs) None) ≡ true → b ≡ true
fit_of true xs h = refl
fit_of false xs h = absurd (grind arith)

pub run_fits : (w at n len left : ℕ) (bs rest : List ℕ) → is_some (all_to_come w (cond (leb (at + n * w) (min (8 * len) (2 ^ 26))) (Some (fields w n bs at)) None) left rest) ≡ true → (at + n * w ≤ 8 * len) × (at + n * w ≤ 2 ^ 26)
run_fits w at n len left bs rest h =
    let b = bounds w _ left rest h in
    let c = both _ (runs w (2 ^ 32 - 1) left rest) b.2 in
    let l = leb-true _ _ (fit_of (leb (at + n * w) (min (8 * len) (2 ^ 26))) (fields w n bs at) c.0) in
    (omega arith, omega arith)

pub pop_packed : (w at n len v left : ℕ) (bs rest : List ℕ) → 0 < n → v ≡ field w bs at → is_some (all_to_come w (cond (leb (at + n * w) (min (8 * len) (2 ^ 26))) (Some (fields w n bs at)) None) left rest) ≡ true → put v (all_to_come w (cond (leb (at + w + (n - 1) * w) (min (8 * len) (2 ^ 26))) (Some (fields w (n - 1) bs (at + w))) None) left rest) ≡ all_to_come w (cond (leb (at + n * w) (min (8 * len) (2 ^ 26))) (Some (fields w n bs at)) None) left rest
pop_packed w at zero len v left bs rest h e s = absurd (omega arith)
pop_packed w at (suc n) len v left bs rest h e s =
    let f = run_fits w at (suc n) len left bs rest s in
    let m : suc n - 1 ≡ n = omega arith in
    let z : at + w + n * w ≡ at + suc n * w = omega (arith, suc-mul n w) in
    let t : leb (at + suc n * w) (min (8 * len) (2 ^ 26)) ≡ true = le-leb _ _ (omega arith) in
    rw (m, z, t, e) (put_numbers (leb w 32 && leb left 1048576) (field w bs at) (fields w n bs (at + w)) (runs w (2 ^ 32 - 1) left rest))

-- the next run
none_left : (w : ℕ) (c : Option (Piece ℕ)) → current_count c ≡ 0 → is_some (current_numbers w c) ≡ true → current_numbers w c ≡ Some []
none_left w (Some (pc.Bitmap bs at n)) z h = let t = fit_of (leb (at + n * w) (min (8 * length bs.now) (2 ^ 26))) (fields w n bs.now at) h in rw (t, z) refl
none_left w (Some (pc.Repeated v n)) z h = rw z refl
none_left w None z h = refl

after_run : (t : Bool) (xs : List ℕ) (r : Result (List (List ℕ)) Broken) → is_some (ok_some (cond t (ahead xs r) (Err Above))) ≡ true → numbers_left (Some []) (cond t (ahead xs r) (Err Above)) ≡ numbers_left (Some xs) r
after_run true xs (Ok xss) h = refl
after_run true xs (Err e) h = absurd (grind arith)
after_run false xs r h = absurd (grind arith)

module _ (w n left : ℕ) (bs rest : List ℕ) (c : Option (Piece ℕ)) (z : current_count c ≡ 0) (s : is_some (all_to_come w (current_numbers w c) n bs) ≡ true) where
  within : (w ≤ 32) × (n ≤ 1048576) × (is_some (ok_some (runs w (2 ^ 32 - 1) n bs)) ≡ true)
  within = let b = bounds w _ n bs s in (b.0, b.1, (both (current_numbers w c) (runs w (2 ^ 32 - 1) n bs) b.2).1)

  -- a run that follows a run that is used up
  pub load_on : (r : Stretch) → Stepped w (2 ^ 32 - 1) n bs (Ok (Some (r, left, rest))) → all_to_come w (Some (numbers w r)) left rest ≡ all_to_come w (current_numbers w c) n bs
  load_on r h =
      let b = bounds w _ n bs s in
      let i = none_left w c z (both (current_numbers w c) (runs w (2 ^ 32 - 1) n bs) b.2).0 in
      let p : leb w 32 ≡ true = le-leb _ _ b.0 in
      let q : leb n 1048576 ≡ true = le-leb _ _ b.1 in
      let u : leb left 1048576 ≡ true = le-leb _ _ (omega (arith, h.2)) in
      let g : is_some (ok_some (cond (allowed (2 ^ 32 - 1) r) (ahead (numbers w r) (runs w (2 ^ 32 - 1) left rest)) (Err Above))) ≡ true = ap (λ y. is_some (ok_some y)) (sym h.0) ∙ within.2 in
      rw (p, q, u, i, h.0) (sym (after_run (allowed (2 ^ 32 - 1) r) (numbers w r) (runs w (2 ^ 32 - 1) left rest) g))

  -- as a piece it has all its numbers
  whole : (run : Run) → count (stretch run) ≤ 1048576 → Roomy w (stretch run) → current_numbers w (Some (as_numbers run)) ≡ Some (numbers w (stretch run))
  whole (Bitmap xs m) l h = let a = few_bits m w l within.0 in let t : leb (0 + m * w) (min (8 * length xs.now) (2 ^ 26)) ≡ true = le-leb _ _ (omega arith) in rw t refl
  whole (Repeated v m) l h = refl

  pub load_run : (run : Run) → Stepped w (2 ^ 32 - 1) n bs (Ok (Some (stretch run, left, rest))) → all_to_come w (current_numbers w (Some (as_numbers run))) left rest ≡ all_to_come w (current_numbers w c) n bs
  load_run run h = ap (λ x. all_to_come w x left rest) (whole run (let l = within.1 in omega (arith, h.2)) h.3) ∙ load_on (stretch run) h

  -- and the stream is sound
  pub load_ok : (e : Broken) → Stepped w (2 ^ 32 - 1) n bs (Err e) → ⊥
  load_ok e h = let o = ap (λ y. is_some (ok_some y)) (sym h.0) ∙ within.2 in absurd (grind arith)

-- where indices are left and none of the current run, the stream has some
some_of : (o : Option (List ℕ)) → 0 < length (or_none o) → is_some o ≡ true
some_of (Some xs) h = refl
some_of None h = absurd (omega arith)

none_of : (t : Bool) → length (or_none (cond {A = Option (List ℕ)} t (Some []) None)) ≡ 0
none_of true = refl
none_of false = refl

pub more_left : (w left : ℕ) (bs : List ℕ) (c : Option (Piece ℕ)) → current_count c ≡ 0 → 0 < length (or_none (all_to_come w (current_numbers w c) left bs)) → (is_some (all_to_come w (current_numbers w c) left bs) ≡ true) × (0 < left)
more_left w left bs c z h = let s = some_of (all_to_come w (current_numbers w c) left bs) h in (s, positive left h s)
  where
    positive : (left : ℕ) → 0 < length (or_none (all_to_come w (current_numbers w c) left bs)) → is_some (all_to_come w (current_numbers w c) left bs) ≡ true → 0 < left
    positive zero h s =
        let i = none_left w c z (both (current_numbers w c) (runs w (2 ^ 32 - 1) 0 bs) (bounds w _ 0 bs s).2).0 in
        let e = ap (λ x. length (or_none (all_to_come w x 0 bs))) i in
        let n = none_of (leb w 32 && leb 0 1048576) in
        absurd (omega arith)
    positive (suc n) h s = omega arith
