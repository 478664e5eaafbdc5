-- Laws of streams of runs.
use Rattle.std.proofs.Common.{◌≡◌, ℕ, zero, suc, ◌+◌, ◌-◌, ◌*◌, ◌/◌, ◌%◌, ◌^◌, ◌<◌, ◌≤◌, min, Bool, true, false, cond, eqb, ltb, leb, List, [], ◌∷◌, length, take, drop, replicate, Some, None, Ok, Err, Result, sym, refl, ap, ◌∙◌, subst, mul-le-mul_right, mul_assoc, mul_comm, arith, length-append, length-drop, length-take, leb-true}
use native.Mathlib.Nat.{min-zero, zero-min, suc-min-suc}
use lib.ListN.{length-replicate}
use Rattle.std.specs.List.{flat_map}
use Rattle.std.proofs.lemmas.Bool.{le-leb}
use Rattle.hybrid_rle.specs.Header.{Read, above, number, fitting, header}
use Rattle.hybrid_rle.specs.Runs.{One, Stretch, packed, repeated, fields, cut, run_of, run, onto, ahead, allowed, numbers, count, field, upto, Step, step, runs_by, runs, sound, run_at, sound_at}
use Rattle.values.specs.Little.{little}
use Rattle.hybrid_rle.specs.declared.header.Broken.{Broken}
use Rattle.hybrid_rle.specs.declared.header.Broken.TheVariants.{Short, Above, Large}

-- a number takes a byte or more, and none past the end
abbrev Within : ℕ → Read → Type 0
Within n (Ok p) = (1 ≤ p.1) × (p.1 ≤ n)
Within n (Err e) = Unit {0}

within_above : (d n : ℕ) (r : Read) → Within n r → Within (suc n) (above d r)
within_above d n (Ok p) h = (omega arith, omega arith)
within_above d n (Err e) h = tt

within_number : (most : ℕ) (bs : List ℕ) → Within (length bs) (number most bs)
within_number zero bs = tt
within_number (suc most) [] = tt
within_number (suc most) (b ∷ bs) =
    elim (ltb b 128) as (λ t. Within (suc (length bs)) (cond t (Ok (b, 1)) (above (b - 128) (number most bs))))
    [ true ↦ (omega arith, omega arith) | false ↦ within_above (b - 128) (length bs) (number most bs) (within_number most bs) ]

within_fitting : (n : ℕ) (r : Read) → Within n r → Within n (fitting r)
within_fitting n (Ok p) h =
    elim (ltb p.0 (2 ^ 32)) as (λ t. Within n (cond t (Ok p) (Err Large))) [ true ↦ h | false ↦ tt ]
within_fitting n (Err e) h = tt

within_header : (bs : List ℕ) → Within (length bs) (header bs)
within_header bs = within_fitting (length bs) (number 5 bs) (within_number 5 bs)

-- what comes after a run is shorter
abbrev Shorter : ℕ → One → Type 0
Shorter n (Ok p) = length p.1 < n
Shorter n (Err e) = Unit {0}

shorter_cut : (n size : ℕ) (make : List ℕ → Stretch) (bs : List ℕ) → length bs < n → Shorter n (cut size make bs)
shorter_cut n size make bs h =
    elim (leb size (length bs)) as (λ t. Shorter n (cond t (Ok (make (take size bs), drop size bs)) (Err Short)))
    [ true ↦ simp length-drop (omega arith) | false ↦ tt ]

shorter_run_of : (w : ℕ) (bs : List ℕ) (r : Read) → Within (length bs) r → Shorter (length bs) (run_of w bs r)
shorter_run_of w bs (Err e) h = tt
shorter_run_of w bs (Ok p) h =
    let l : length (drop p.1 bs) < length bs = simp length-drop (omega arith) in
    elim (eqb (p.0 % 2) 1) as (λ t. Shorter (length bs) (cond t (cut (p.0 / 2 * w) (λ xs. packed xs (p.0 / 2 * 8)) (drop p.1 bs)) (cut ((w + 7) / 8) (λ xs. repeated (little xs) (p.0 / 2)) (drop p.1 bs)))) [
      | true ↦ shorter_cut (length bs) (p.0 / 2 * w) (λ xs. packed xs (p.0 / 2 * 8)) (drop p.1 bs) l
      | false ↦ shorter_cut (length bs) ((w + 7) / 8) (λ xs. repeated (little xs) (p.0 / 2)) (drop p.1 bs) l
    ]

pub run_shorter : (w : ℕ) (bs : List ℕ) (p : Stretch × List ℕ) → run w bs ≡ Ok p → length p.1 < length bs
run_shorter w bs p e = let s = shorter_run_of w bs (header bs) (within_header bs) in rw e at s

onto_same : {X Y : Type 0} (r : Result X Broken) (f g : X → Result Y Broken) → ((x : X) → r ≡ Ok x → f x ≡ g x) → onto r f ≡ onto r g
onto_same (Ok x) f g h = h x refl
onto_same (Err e) f g h = refl

-- enough fuel is enough
module _ (w top : ℕ) where
  pub fuel_same : (n f g : ℕ) (bs : List ℕ) → length bs ≤ f → length bs ≤ g → runs_by w top n f bs ≡ runs_by w top n g bs
  fuel_same zero f g bs p q = refl
  fuel_same (suc n) zero zero bs p q = refl
  fuel_same (suc n) zero (suc g) [] p q = refl
  fuel_same (suc n) zero (suc g) (b ∷ bs) p q = absurd (omega arith)
  fuel_same (suc n) (suc f) zero [] p q = refl
  fuel_same (suc n) (suc f) zero (b ∷ bs) p q = absurd (omega arith)
  fuel_same (suc n) (suc f) (suc g) bs p q =
      onto_same (run w bs) _ _ (λ x e. let l = run_shorter w bs x e in ap (λ r. cond (allowed top x.0) (ahead (take (suc n) (numbers w x.0)) r) (Err Above)) (fuel_same (suc n - count x.0) f g x.1 (omega arith) (omega arith)))

  -- the first run, and then the others
  pub runs_more : (n : ℕ) (bs : List ℕ) → runs w top (suc n) bs ≡ onto (run w bs) (λ p. cond (allowed top p.0) (ahead (take (suc n) (numbers w p.0)) (runs w top (suc n - count p.0) p.1)) (Err Above))
  runs_more n [] = refl
  runs_more n (b ∷ bs) =
      onto_same (run w (b ∷ bs)) _ _ (λ x e. let l = run_shorter w (b ∷ bs) x e in ap (λ r. cond (allowed top x.0) (ahead (take (suc n) (numbers w x.0)) r) (Err Above)) (fuel_same (suc n - count x.0) (length bs) (length x.1) x.1 (omega arith) (omega arith)))

-- a width of at most 32 is not refused
pub run_at_small : (w : ℕ) (bs : List ℕ) → w ≤ 32 → run_at w bs ≡ run w bs
run_at_small w bs h = rw (le-leb w 32 h)

pub sound_at_small : {X : Type 0} (w : ℕ) (r : Result X Broken) → w ≤ 32 → sound_at w r ≡ sound r
sound_at_small w r h = rw (le-leb w 32 h)

-- a packed run has its bits
abbrev pub Roomy : ℕ → Stretch → Type 0
Roomy w (packed xs m) = m * w ≤ 8 * length xs
Roomy w (repeated v m) = Unit {0}

abbrev RoomyOne : ℕ → One → Type 0
RoomyOne w (Ok p) = Roomy w p.0
RoomyOne w (Err e) = Unit {0}

eight : (q w l : ℕ) → l ≡ q * w → q * 8 * w ≤ 8 * l
eight q w l e = let a = mul_assoc q 8 w in let b = mul_comm 8 w in let d = mul_assoc q w 8 in let f = mul_comm (q * w) 8 in rw e (omega (arith, a, b, ap (λ x. q * x) b, d, f))

roomy_run_of : (w : ℕ) (bs : List ℕ) (r : Read) → RoomyOne w (run_of w bs r)
roomy_run_of w bs (Err e) = tt
roomy_run_of w bs (Ok p) =
    elim (eqb (p.0 % 2) 1) as (λ t. RoomyOne w (cond t (cut (p.0 / 2 * w) (λ xs. packed xs (p.0 / 2 * 8)) (drop p.1 bs)) (cut ((w + 7) / 8) (λ xs. repeated (little xs) (p.0 / 2)) (drop p.1 bs)))) [
      | true ↦ go (leb (p.0 / 2 * w) (length (drop p.1 bs))) refl
      | false ↦ elim (leb ((w + 7) / 8) (length (drop p.1 bs))) as (λ t. RoomyOne w (cond t (Ok (repeated (little (take ((w + 7) / 8) (drop p.1 bs))) (p.0 / 2), drop ((w + 7) / 8) (drop p.1 bs))) (Err Short))) [ true ↦ tt | false ↦ tt ]
    ]
  where
    go : (t : Bool) → leb (p.0 / 2 * w) (length (drop p.1 bs)) ≡ t → RoomyOne w (cond t (Ok (packed (take (p.0 / 2 * w) (drop p.1 bs)) (p.0 / 2 * 8), drop (p.0 / 2 * w) (drop p.1 bs))) (Err Short))
    go true e = eight (p.0 / 2) w _ (length-take (p.0 / 2 * w) (drop p.1 bs) ∙ omega (arith, leb-true _ _ e))
    go false e = tt

roomy_run : (w : ℕ) (bs : List ℕ) (p : Stretch × List ℕ) → run w bs ≡ Ok p → Roomy w p.0
roomy_run w bs p e = let r = roomy_run_of w bs (header bs) in rw e at r

-- a run up to its nth number
take_fields : (w m : ℕ) (bs : List ℕ) (at n : ℕ) → take n (fields w m bs at) ≡ fields w (min m n) bs at
take_fields w m bs at zero = rw min-zero refl
take_fields w zero bs at (suc n) = rw zero-min refl
take_fields w (suc m) bs at (suc n) = rw suc-min-suc (ap {B = List ℕ} (λ r. field w bs at ∷ r) (take_fields w m bs (at + w) n))

take_replicate : (v m n : ℕ) → take n (replicate m v) ≡ replicate (min m n) v
take_replicate v m zero = rw min-zero refl
take_replicate v zero (suc n) = rw zero-min refl
take_replicate v (suc m) (suc n) = rw suc-min-suc (ap {B = List ℕ} (λ r. v ∷ r) (take_replicate v m n))

numbers_upto : (w n : ℕ) (r : Stretch) → take n (numbers w r) ≡ numbers w (upto n r)
numbers_upto w n (packed bs m) = take_fields w m bs 0 n
numbers_upto w n (repeated v m) = take_replicate v m n

allowed_upto : (top n : ℕ) (r : Stretch) → allowed top r ≡ allowed top (upto n r)
allowed_upto top n (packed bs m) = refl
allowed_upto top n (repeated v m) = refl

count_upto : (n : ℕ) (r : Stretch) → n - count r + count (upto n r) ≡ n
count_upto n (packed bs m) = omega arith
count_upto n (repeated v m) = omega arith

roomy_upto : (w n : ℕ) (r : Stretch) → Roomy w r → Roomy w (upto n r)
roomy_upto w n (packed bs m) h = let l : min m n * w ≤ m * w = mul-le-mul_right w (omega arith) in omega arith
roomy_upto w n (repeated v m) h = tt

-- what a step says of the stream, whatever the largest number allowed
abbrev pub Stepped : ℕ → ℕ → ℕ → List ℕ → Step → Type 0
Stepped w top n bs (Ok (Some p)) =
    (runs w top n bs ≡ cond (allowed top p.0) (ahead (numbers w p.0) (runs w top p.1 p.2)) (Err Above))
    × (length p.2 < length bs)
    × (p.1 + count p.0 ≡ n)
    × Roomy w p.0
Stepped w top n bs (Ok None) = n ≡ 0
Stepped w top n bs (Err e) = (runs w top n bs ≡ Err e) × (0 < n)

pub stepped_is : (w top n : ℕ) (bs : List ℕ) → w ≤ 32 → Stepped w top n bs (step w n bs)
stepped_is w top zero bs h = refl
stepped_is w top (suc n) bs h = rw (run_at_small w bs h) (on (run w bs) refl)
  where
    on : (o : One) → run w bs ≡ o → Stepped w top (suc n) bs (onto o (λ p. Ok (Some (upto (suc n) p.0, suc n - count p.0, p.1))))
    on (Ok p) e = (
      runs_more w top n bs ∙ rw (e, numbers_upto w (suc n) p.0, allowed_upto top (suc n) p.0) refl,
      run_shorter w bs p e,
      count_upto (suc n) p.0,
      roomy_upto w (suc n) p.0 (roomy_run w bs p e),
    )
    on (Err x) e = (runs_more w top n bs ∙ rw e refl, omega arith)

-- the same of a step that was taken by this width
pub stepped_at : (w top n : ℕ) (bs : List ℕ) (k : ℕ) (s : Step) → w ≤ 32 → k ≡ w → s ≡ step k n bs → Stepped w top n bs s
stepped_at w top n bs k s h e is = subst (Stepped w top n bs) (sym (is ∙ ap (λ j. step j n bs) e)) (stepped_is w top n bs h)

pub sound_ahead : (t : Bool) (xs : List ℕ) (r : Result (List (List ℕ)) Broken) → t ≡ true → sound (cond t (ahead xs r) (Err Above)) ≡ sound r
sound_ahead true xs (Ok x) h = refl
sound_ahead true xs (Err e) h = refl
sound_ahead false xs r h = absurd (grind arith)

-- a stream gives as many numbers as are asked for
pub length_fields : (w n : ℕ) (bs : List ℕ) (at : ℕ) → length (fields w n bs at) ≡ n
length_fields w zero bs at = refl
length_fields w (suc n) bs at = ap suc (length_fields w n bs (at + w))

pub length_numbers : (w : ℕ) (r : Stretch) → length (numbers w r) ≡ count r
length_numbers w (packed bs n) = length_fields w n bs 0
length_numbers w (repeated v n) = length-replicate n v

abbrev pub Counts : ℕ → Result (List (List ℕ)) Broken → Type 0
Counts n (Ok xss) = length (flat_map (λ xs. xs) xss) ≡ n
Counts n (Err e) = Unit {0}

counts_ahead : (n c : ℕ) (xs : List ℕ) (r : Result (List (List ℕ)) Broken) → length xs ≡ c → Counts (n - c) r → Counts n (ahead (take n xs) r)
counts_ahead n c xs (Ok xss) e h = simp (length-append, length-take) (omega arith)
counts_ahead n c xs (Err x) e h = tt

counts_test : (n : ℕ) (t : Bool) (r : Result (List (List ℕ)) Broken) → Counts n r → Counts n (cond t r (Err Above))
counts_test n true r h = h
counts_test n false r h = tt

counts_onto : (n : ℕ) (r : One) (f : Stretch × List ℕ → Result (List (List ℕ)) Broken) → ((p : Stretch × List ℕ) → Counts n (f p)) → Counts n (onto r f)
counts_onto n (Ok p) f h = h p
counts_onto n (Err e) f h = tt

pub counts_by : (w top n fuel : ℕ) (bs : List ℕ) → Counts n (runs_by w top n fuel bs)
counts_by w top zero fuel bs = refl
counts_by w top (suc n) zero bs = tt
counts_by w top (suc n) (suc fuel) bs =
    counts_onto (suc n) (run w bs) _ (λ p. counts_test (suc n) (allowed top p.0) _ (counts_ahead (suc n) (count p.0) (numbers w p.0) (runs_by w top (suc n - count p.0) fuel p.1) (length_numbers w p.0) (counts_by w top (suc n - count p.0) fuel p.1)))
