-- Values, one after the other.
use Rattle.std.proofs.Common.{◌≡◌, ℕ, zero, suc, ◌+◌, ◌-◌, ◌*◌, ◌^◌, ◌<◌, min, Bool, true, false, cond, eqb, leb, List, [], ◌∷◌, map, length, is_some, Some, None, Option, sym, refl, ap, ◌∙◌, arith, eq-eqb, eqb-true}
use borrow.Author.Tests.{true-ltb}
use Rattle.std.specs.List.{slice_get}
use Rattle.holders.specs.Judge.{put, some_then, counted, arrays_in, chosen}
use Rattle.holders.specs.Left.{plain_left, or_none}
use Rattle.holders.specs.Entries.{nth_in, raw_bit}
use Rattle.hybrid_rle.specs.Runs.{field, fields}
use Rattle.holders.specs.declared.types.Form.{Form}
use Rattle.holders.specs.declared.types.Form.TheVariants.{Bits, Arrays}
use Rattle.holders.proofs.Lengths.{Has}
use Rattle.holders.proofs.Codes.{nth_some}

-- an element of one width
fit_of : {A : Type 0} (b : Bool) (x : A) → is_some (cond b (Some x) None) ≡ true → b ≡ true
fit_of true x h = refl
fit_of false x h = absurd (grind arith)

-- a value after its length
pub array_front : (n : ℕ) (bs v after : List ℕ) → 0 < n → Some (v, after) ≡ counted bs → put v (arrays_in (n - 1) after) ≡ arrays_in n bs
array_front zero bs v after l e = absurd (omega arith)
array_front (suc n) bs v after l e = let m : suc n - 1 ≡ n = omega arith in rw (m, sym e) refl

-- values by indices
abbrev pub by_indices : Option (List (List ℕ)) → Option (List ℕ) → ℕ → Option (List (List ℕ))
by_indices eo io n = some_then eo (λ es. some_then io (λ is. cond (eqb (length is) n) (chosen es is) None))

test_of : {A : Type 0} (b : Bool) (o : Option A) → is_some (cond b o None) ≡ true → (b ≡ true) × (is_some o ≡ true)
test_of true o h = (refl, h)
test_of false o h = absurd (grind arith)

pub some_index : (eo : Option (List (List ℕ))) (io : Option (List ℕ)) (n : ℕ) → is_some (by_indices eo io n) ≡ true → 0 < n → 0 < length (or_none io)
some_index (Some es) (Some is) n h l = let t = eqb-true _ _ (test_of (eqb (length is) n) (chosen es is) h).0 in omega arith
some_index (Some es) None n h l = absurd (grind arith)
some_index None io n h l = absurd (grind arith)

chosen_first : (o : Option (List ℕ)) (c : Option (List (List ℕ))) → is_some (some_then o (λ x. put x c)) ≡ true → is_some o ≡ true
chosen_first (Some x) c h = refl
chosen_first None c h = absurd (grind arith)

pub index_below : (eo : Option (List (List ℕ))) (ix ie : Option (List ℕ)) (n i k : ℕ) → put i ix ≡ ie → is_some (by_indices eo ie n) ≡ true → Has k eo → i < k
index_below (Some es) (Some is) ie n i k e h s =
    let a : is_some (by_indices (Some es) (Some (i ∷ is)) n) ≡ true = ap (λ x. is_some (by_indices (Some es) x n)) e ∙ h in
    let t = test_of (eqb (suc (length is)) n) (chosen es (i ∷ is)) a in
    let c = chosen_first (slice_get es i) (chosen es is) t.1 in
    let l = true-ltb _ _ (sym c ∙ nth_some es i) in omega arith
index_below (Some es) None ie n i k e h s = let a : is_some (by_indices (Some es) None n) ≡ true = ap (λ x. is_some (by_indices (Some es) x n)) e ∙ h in absurd (grind arith)
index_below None ix ie n i k e h s = absurd (grind arith)

pub coded_front : (eo : Option (List (List ℕ))) (ix ie : Option (List ℕ)) (n i : ℕ) (v : List ℕ) → put i ix ≡ ie → is_some (by_indices eo ie n) ≡ true → 0 < n → Some v ≡ nth_in eo i → put v (by_indices eo ix (n - 1)) ≡ by_indices eo ie n
coded_front (Some es) (Some is) ie n i v e h l s =
    let a : is_some (by_indices (Some es) (Some (i ∷ is)) n) ≡ true = ap (λ x. is_some (by_indices (Some es) x n)) e ∙ h in
    let t = (test_of (eqb (suc (length is)) n) (chosen es (i ∷ is)) a).0 in
    let q = eqb-true _ _ t in
    let u : eqb (length is) (n - 1) ≡ true = eq-eqb _ _ (omega arith) in
    rw (sym e, u, t, sym s) refl
coded_front (Some es) None ie n i v e h l s = let a : is_some (by_indices (Some es) None n) ≡ true = ap (λ x. is_some (by_indices (Some es) x n)) e ∙ h in absurd (grind arith)
coded_front None ix ie n i v e h l s = absurd (grind arith)

-- a value after its length, as the first of a page
pub array_first : (f : Form) (n : ℕ) (bs v r : List ℕ) → 0 < n → f ≡ Arrays → Some (v, r) ≡ counted bs → put v (plain_left f (n - 1) r 0) ≡ plain_left f n bs 0
array_first f n bs v r l e a = rw e (array_front n bs v r l a)

-- a bit
raw_is : (v : ℕ) → v < 2 → raw_bit (eqb v 1) ≡ v ∷ []
raw_is zero h = refl
raw_is (suc zero) h = refl
raw_is (suc (suc v)) h = absurd (omega arith)

pub bit_front : (f : Form) (n at v : ℕ) (bs raw : List ℕ) → f ≡ Bits → raw ≡ raw_bit (eqb v 1) → 0 < n → v ≡ field 1 bs at → is_some (plain_left f n bs at) ≡ true → put raw (plain_left f (n - 1) bs (at + 1)) ≡ plain_left f n bs at
bit_front f zero at v bs raw b r l e h = absurd (omega arith)
bit_front f (suc n) at v bs raw b r l e h =
    let k : is_some (plain_left Bits (suc n) bs at) ≡ true = ap (λ g. is_some (plain_left g (suc n) bs at)) (sym b) ∙ h in
    let t = fit_of (leb (at + suc n) (min (8 * length bs) (2 ^ 26))) (map (λ b. b ∷ []) (fields 1 (suc n) bs at)) k in
    let m : suc n - 1 ≡ n = omega arith in
    let z : at + 1 + n ≡ at + suc n = omega arith in
    let s : v < 2 = omega arith in
    rw (b, r, m, z, t, raw_is v s, e) refl
