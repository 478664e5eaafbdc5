-- Laws of rows and their pieces.
use Rattle.std.proofs.Common.{◌≡◌, ℕ, zero, suc, ◌+◌, ◌-◌, ◌<◌, ◌≤◌, min, Bool, true, false, cond, eqb, ltb, leb, List, [], ◌∷◌, ◌++◌, map, length, take, drop, replicate, is_ok, Some, None, Ok, Err, Option, Result, sym, refl, ap, ◌∙◌, ⊎_elim, add-zero, arith, length-append, length-take}
use Rattle.std.specs.List.{flat_map}
use native.Mathlib.Nat.{sub-zero}
use lib.ListN.{length-map}
use Rattle.std.proofs.lemmas.Bool.Decides.{nat_tests, leb_tells}
use Rattle.std.proofs.lemmas.List.{append_assoc, take-append-drop, take_all, length-replicate, take-replicate, drop-replicate}
use Rattle.hybrid_rle.specs.Runs.{Stretch, packed, repeated, bit, fields, ahead, allowed, numbers, runs, sound, step}
use Rattle.hybrid_rle.specs.Rows.{present, bits, rows_of, later, gives_rows, piece, beyond, taken, flat}
use Rattle.hybrid_rle.specs.declared.header.Broken.{Broken}
use Rattle.hybrid_rle.specs.declared.header.Broken.TheVariants.{Above}
use Rattle.hybrid_rle.proofs.Streams.{Roomy, Stepped, stepped_at, Counts, counts_by}
use Rattle.hybrid_rle.specs.Borrowed.{as_rows, stretch, stepped, is_step}
use Rattle.hybrid_rle.specs.Held.{piece_count, rows, run_end, bytes_end}
use Rattle.hybrid_rle.specs.declared.piece.Piece.{Piece}
use Rattle.hybrid_rle.specs.declared.piece.Piece.TheVariants as pc
use Rattle.hybrid_rle.specs.declared.runs.Run.{Run}
use Rattle.hybrid_rle.specs.declared.runs.Run.TheVariants.{Bitmap, Repeated}
use Rattle.hybrid_rle.specs.declared.runs.Runs.{Runs}

-- bits
pub length_bits : (bs : List ℕ) (at n : ℕ) → length (bits bs at n) ≡ n
length_bits bs at zero = refl
length_bits bs at (suc n) = ap suc (length_bits bs (at + 1) n)

pub take_bits : (bs : List ℕ) (at n k : ℕ) → k ≤ n → take k (bits bs at n) ≡ bits bs at k
take_bits bs at n zero h = refl
take_bits bs at zero (suc k) h = absurd (omega arith)
take_bits bs at (suc n) (suc k) h = ap {B = List Bool} (λ r. present (bit bs at) ∷ r) (take_bits bs (at + 1) n k (omega arith))

pub drop_bits : (bs : List ℕ) (at n k : ℕ) → k ≤ n → drop k (bits bs at n) ≡ bits bs (at + k) (n - k)
drop_bits bs at n zero h = rw (add-zero, sub-zero) refl
drop_bits bs at zero (suc k) h = absurd (omega arith)
drop_bits bs at (suc n) (suc k) h =
    let e : at + 1 + k ≡ at + suc k = omega arith in
    let s : n - k ≡ suc n - suc k = omega arith in
    drop_bits bs (at + 1) n k (omega arith) ∙ rw (e, s) refl

-- the rows of a run of one-bit numbers
pub rows_packed : (bs : List ℕ) (at n : ℕ) → map present (fields 1 n bs at) ≡ bits bs at n
rows_packed bs at zero = refl
rows_packed bs at (suc n) = rw add-zero (ap {B = List Bool} (λ r. present (bit bs at) ∷ r) (rows_packed bs (at + 1) n))

pub rows_repeated : (v n : ℕ) → map present (replicate n v) ≡ replicate n (eqb v 1)
rows_repeated v zero = refl
rows_repeated v (suc n) = ap {B = List Bool} (λ r. eqb v 1 ∷ r) (rows_repeated v n)

split : (a : Bool) (xs : List ℕ) (r : Result (List (List ℕ)) Broken) → is_ok (cond a (ahead xs r) (Err Above)) ≡ true → (rows_of (cond a (ahead xs r) (Err Above)) ≡ map present xs ∷ rows_of r) × (is_ok r ≡ true)
split true xs (Ok x) h = (refl, refl)
split true xs (Err e) h = absurd (grind arith)
split false xs r h = absurd (grind arith)

-- one run on, in a stream that gives its rows
module _ (n left : ℕ) (bs rest : List ℕ) (gives : gives_rows n bs ≡ true) where
  run_on : (r : Stretch) → Stepped 1 1 n bs (Ok (Some (r, left, rest))) → (later n bs ≡ map present (numbers 1 r) ∷ later left rest) × (gives_rows left rest ≡ true)
  run_on r h =
      let s = split (allowed 1 r) (numbers 1 r) (runs 1 1 left rest) (sym (ap is_ok h.0) ∙ gives) in
      (ap rows_of h.0 ∙ s.0, s.1)

  pub rows_on : (r : Run) → Stepped 1 1 n bs (Ok (Some (stretch r, left, rest))) → rows (as_rows r) ∷ later left rest ≡ later n bs
  rows_on (Bitmap xs m) h = sym ((run_on (packed xs.now m) h).0 ∙ rw rows_packed refl)
  rows_on (Repeated v m) h = sym ((run_on (repeated v m) h).0 ∙ rw rows_repeated refl)

-- a run lies in its bytes
pub run_within : (r : Run) → Roomy 1 (stretch r) → run_end (Some (as_rows r)) ≤ bytes_end (Some (as_rows r))
run_within (Bitmap xs m) h = omega arith
run_within (Repeated v m) h = omega arith

-- the rows of a run
pub run_rows : (r : Run) → rows (as_rows r) ≡ map present (numbers 1 (stretch r))
run_rows (Bitmap xs m) = sym (rows_packed xs.now 0 m)
run_rows (Repeated v m) = sym (rows_repeated v m)

-- a step leaves a stream that gives its rows
pub gives_after : (res : Result (Option Run) Broken) (old new : Runs) → old.w ≡ 1 → stepped res new ≡ step old.w old.left old.rest.now → (is_step res ≡ false → new ≡ old) → gives_rows old.left old.rest.now ≡ true → gives_rows new.left new.rest.now ≡ true
gives_after (Ok (Some r)) old new one e kept g = (run_on old.left new.left old.rest.now new.rest.now g (stretch r) (stepped_at 1 1 old.left old.rest.now old.w _ (omega arith) one e)).1
gives_after (Ok None) old new one e kept g = ap (λ s. gives_rows s.left s.rest.now) (kept refl) ∙ g
gives_after (Err x) old new one e kept g = ap (λ s. gives_rows s.left s.rest.now) (kept refl) ∙ g

-- a piece has as many rows as its length says
pub length_rows : (p : Piece Bool) → length (rows p) ≡ piece_count p
length_rows (pc.Bitmap bs at n) = length_bits bs.now at n
length_rows (pc.Repeated s n) = length-replicate n s

-- rows that are cut, and rows that are used up
pub rows_cut : (xs ys zs : List Bool) (k : ℕ) → k < length xs → ys ≡ take k xs → zs ≡ drop k xs → (ys ≡ take k xs) × (zs ∷ [] ≡ beyond k (xs ∷ []))
rows_cut xs ys zs k h e f = let t : ltb k (length xs) ≡ true = grind (arith, nat_tests) in (e, rw (t, f) refl)

pub rows_whole : (xs : List Bool) (k : ℕ) → length xs ≤ k → (xs ≡ take k xs) × ([] ≡ beyond k (xs ∷ []))
rows_whole xs k h = let t : ltb k (length xs) ≡ false = grind (arith, nat_tests) in (sym (take_all k xs h), rw t refl)

pub bits_cut : (bs : List ℕ) (at n k : ℕ) → k < n → (bits bs at k ≡ take k (bits bs at n)) × (bits bs (at + k) (n - k) ∷ [] ≡ beyond k (bits bs at n ∷ []))
bits_cut bs at n k h = rows_cut (bits bs at n) _ _ k (rw length_bits h) (sym (take_bits bs at n k (omega arith))) (sym (drop_bits bs at n k (omega arith)))

pub same_cut : (s : Bool) (n k : ℕ) → k < n → (replicate k s ≡ take k (replicate n s)) × (replicate (n - k) s ∷ [] ≡ beyond k (replicate n s ∷ []))
same_cut s n k h = rows_cut (replicate n s) _ _ k (rw length-replicate h) (sym (take-replicate k n s (omega arith))) (sym (drop-replicate k n s))

-- what is beyond the first run comes before the other runs
pub beyond_more : (k : ℕ) (xs : List Bool) (xss : List (List Bool)) → beyond k (xs ∷ []) ++ xss ≡ beyond k (xs ∷ xss)
beyond_more k xs xss = elim (ltb k (length xs)) as (λ t. cond t (drop k xs ∷ []) [] ++ xss ≡ cond t (drop k xs ∷ xss) xss) [ true ↦ refl | false ↦ refl ]

-- a piece and what is beyond it are what there was
pub piece_beyond : (k : ℕ) (all : List (List Bool)) → taken (piece k all) ++ flat_map (λ xs. xs) (beyond k all) ≡ flat_map (λ xs. xs) all
piece_beyond k [] = refl
piece_beyond k (xs ∷ xss) = ⊎_elim short long (leb_tells (suc k) (length xs))
  where
    short : ((leb (suc k) (length xs) ≡ true) × (suc k ≤ length xs)) → take k xs ++ flat_map (λ ys. ys) (cond (leb (suc k) (length xs)) (drop k xs ∷ xss) xss) ≡ xs ++ flat_map (λ ys. ys) xss
    short p = rw p.0 (sym (append_assoc (take k xs) (drop k xs) (flat_map (λ ys. ys) xss)) ∙ ap (λ ys. ys ++ flat_map (λ zs. zs) xss) (take-append-drop k xs))

    long : ((leb (suc k) (length xs) ≡ false) × (length xs < suc k)) → take k xs ++ flat_map (λ ys. ys) (cond (leb (suc k) (length xs)) (drop k xs ∷ xss) xss) ≡ xs ++ flat_map (λ ys. ys) xss
    long p = let l : length xs ≤ k = omega arith in rw (p.0, take_all k xs l) refl

pub onward_is : (k : ℕ) (all : List (List Bool)) (r : Option (List Bool)) (xss : List (List Bool)) → r ≡ piece k all → xss ≡ beyond k all → taken r ++ flat xss ≡ flat all
onward_is k all r xss e f = rw (e, f) (piece_beyond k all)

length_flat : (xss : List (List ℕ)) → length (flat (map (map present) xss)) ≡ length (flat_map (λ xs. xs) xss)
length_flat [] = refl
length_flat (xs ∷ xss) = simp (length-append, length-map) (omega (arith, length_flat xss))

count_rows : (n : ℕ) (r : Result (List (List ℕ)) Broken) → Counts n r → Ok tt ≡ sound r → length (flat (rows_of r)) ≡ n
count_rows n (Ok xss) h o = length_flat xss ∙ h
count_rows n (Err e) h o = absurd (grind arith)

pub rows_count : (n : ℕ) (bs : List ℕ) → Ok tt ≡ sound (runs 1 1 n bs) → length (flat (later n bs)) ≡ n
rows_count n bs o = count_rows n (runs 1 1 n bs) (counts_by 1 1 n (length bs) bs) o

-- for a loop that takes pieces: each is no longer than asked, and either rows or runs become fewer
module _ (k : ℕ) (xs : List Bool) (xss : List (List Bool)) where
  pub piece_most : (all : List (List Bool)) → Some xs ≡ piece k all → length xs ≤ k
  piece_most [] e = absurd (grind arith)
  piece_most (ys ∷ yss) e = let f : xs ≡ take k ys = cc in rw (f, length-take) (omega arith)

  pub piece_falls : (all : List (List Bool)) → 0 < k → Some xs ≡ piece k all → xss ≡ beyond k all → (k - length xs) + length xss < k + length all
  piece_falls [] h e b = absurd (grind arith)
  piece_falls (ys ∷ yss) h e b = ⊎_elim short long (leb_tells (suc k) (length ys))
    where
      f : xs ≡ take k ys
      f = cc

      l : length xs ≡ min k (length ys)
      l = ap length f ∙ length-take k ys

      short : ((leb (suc k) (length ys) ≡ true) × (suc k ≤ length ys)) → (k - length xs) + length xss < k + suc (length yss)
      short p = let q : beyond k (ys ∷ yss) ≡ drop k ys ∷ yss = rw p.0 refl in let g : length xss ≡ suc (length yss) = ap length (b ∙ q) in omega (arith, l)

      long : ((leb (suc k) (length ys) ≡ false) × (length ys < suc k)) → (k - length xs) + length xss < k + suc (length yss)
      long p = let q : beyond k (ys ∷ yss) ≡ yss = rw p.0 refl in let g : length xss ≡ length yss = ap length (b ∙ q) in omega (arith, l)

pub piece_none : (k : ℕ) (all xss : List (List Bool)) → None ≡ piece k all → xss ≡ beyond k all → (flat all ≡ []) × (flat xss ≡ [])
piece_none k [] xss e b = (refl, ap flat b)
piece_none k (ys ∷ yss) xss e b = absurd (grind arith)
