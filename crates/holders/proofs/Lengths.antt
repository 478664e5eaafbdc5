-- How many values there are.
use Rattle.std.proofs.Common.{◌≡◌, ℕ, zero, suc, ◌+◌, ◌*◌, ◌^◌, min, Bool, true, false, cond, eqb, leb, List, [], ◌∷◌, map, length, drop, is_some, Some, None, Option, sym, refl, ap, ◌∙◌, arith, eqb-true}
use lib.ListN.{length-map}
use Rattle.std.specs.List.{slice_get}
use Rattle.hybrid_rle.specs.Runs.{fields}
use Rattle.hybrid_rle.proofs.Streams.{length_fields}
use Rattle.holders.specs.Judge.{some_then, put, parts, counted, arrays_in, chosen, needed, spread}
use Rattle.holders.specs.Left.{plain_left, values_left, dict_entries, indices_left, or_none}
use Rattle.holders.specs.declared.types.Form.{Form}
use Rattle.holders.specs.declared.types.Form.TheVariants.{Four, Eight, Bits, Arrays}
use Rattle.holders.specs.declared.types.Values.{Values}
use Rattle.holders.specs.declared.types.Values.TheVariants.{Plain, Coded}

-- a list that is there has n elements
abbrev pub Has : {A : Type 0} → ℕ → Option (List A) → Type 0
Has n (Some xs) = length xs ≡ n
Has n None = Unit {0}

pub has_test : {A : Type 0} (n : ℕ) (t : Bool) (o : Option (List A)) → Has n o → Has n (cond t o None)
has_test n true o h = h
has_test n false o h = tt

pub has_put : {A : Type 0} (n : ℕ) (x : A) (o : Option (List A)) → Has n o → Has (suc n) (put x o)
has_put n x (Some xs) h = ap suc h
has_put n x None h = tt

pub has_then : {A B : Type 0} (n : ℕ) (o : Option A) (f : A → Option (List B)) → ((x : A) → Has n (f x)) → Has n (some_then o f)
has_then n (Some x) f h = h x
has_then n None f h = tt

pub length_parts : (w n : ℕ) (bs : List ℕ) → length (parts w n bs) ≡ n
length_parts w zero bs = refl
length_parts w (suc n) bs = ap suc (length_parts w n (drop w bs))

pub has_arrays : (n : ℕ) (bs : List ℕ) → Has n (arrays_in n bs)
has_arrays zero bs = refl
has_arrays (suc n) bs = has_then (suc n) (counted bs) _ (λ p. has_put n p.0 (arrays_in n p.1) (has_arrays n p.1))

pub has_chosen : {A : Type 0} (es : List A) (is : List ℕ) → Has (length is) (chosen es is)
has_chosen es [] = refl
has_chosen es (i ∷ is) = has_then (suc (length is)) (slice_get es i) _ (λ x. has_put (length is) x (chosen es is) (has_chosen es is))

single : (n : ℕ) (bs : List ℕ) (at : ℕ) → length (map (λ b. b ∷ []) (fields 1 n bs at)) ≡ n
single n bs at = length-map (fields 1 n bs at) (λ b. b ∷ []) ∙ length_fields 1 n bs at

has_plain : (f : Form) (n : ℕ) (bs : List ℕ) (at : ℕ) → Has n (plain_left f n bs at)
has_plain Four n bs at = has_test n (leb (n * 4) (length bs)) (Some (parts 4 n bs)) (length_parts 4 n bs)
has_plain Eight n bs at = has_test n (leb (n * 8) (length bs)) (Some (parts 8 n bs)) (length_parts 8 n bs)
has_plain Bits n bs at = has_test n (leb (at + n) (min (8 * length bs) (2 ^ 26))) (Some (map (λ b. b ∷ []) (fields 1 n bs at))) (single n bs at)
has_plain Arrays n bs at = has_arrays n bs

picked : (n : ℕ) (es : List (List ℕ)) (is : List ℕ) (t : Bool) → eqb (length is) n ≡ t → Has n (cond t (chosen es is) None)
picked n es is true e = let h : length is ≡ n = eqb-true _ _ e in let c = has_chosen es is in rw h at c
picked n es is false e = tt

pub has_values : (f : Form) (n : ℕ) (v : Values) → Has n (values_left f n v)
has_values f n (Plain bs at) = has_plain f n bs.now at
has_values f n (Coded d i) = has_then n (dict_entries d) _ (λ es. has_then n (indices_left i) _ (λ is. picked n es is (eqb (length is) n) refl))

pub length_spread : {A : Type 0} (ps : List Bool) (vs : List A) → needed ps ≡ length vs → length (spread ps vs) ≡ length ps
length_spread [] vs h = refl
length_spread (false ∷ ps) vs h = ap suc (length_spread ps vs h)
length_spread (true ∷ ps) [] h = absurd (omega arith)
length_spread (true ∷ ps) (v ∷ vs) h = ap suc (length_spread ps vs (omega arith))

pub length_given : {A : Type 0} (n : ℕ) (o : Option (List A)) → Has n o → is_some o ≡ true → n ≡ length (or_none o)
length_given n (Some xs) h s = sym h
length_given n None h s = absurd (grind arith)

pub none_given : {A : Type 0} (n : ℕ) (o : Option (List A)) → n ≡ 0 → Has n o → or_none o ≡ []
none_given n (Some []) z h = refl
none_given n (Some (x ∷ xs)) z h = absurd (omega arith)
none_given n None z h = refl
