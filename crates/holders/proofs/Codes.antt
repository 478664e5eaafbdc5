-- Values by their indices.
use Rattle.std.proofs.Common.{◌≡◌, ℕ, zero, suc, ◌-◌, ◌*◌, ◌^◌, ◌≤◌, Bool, true, false, cond, ◌&&◌, eqb, ltb, leb, List, [], ◌∷◌, ◌++◌, length, is_ok, is_some, Some, None, Ok, Err, Option, Result, sym, refl, ap, ◌∙◌, arith, Bor, le-ltb, lt-ltb, eq-eqb, le-leb}
use Rattle.std.proofs.lemmas.Bool.Decides.{nat_tests}
use Rattle.std.specs.List.{flat_map, slice_get}
use Rattle.hybrid_rle.specs.Runs.{runs, sound, all_below}
use Rattle.hybrid_rle.specs.declared.header.Broken.{Broken}
use Rattle.hybrid_rle.proofs.Streams.{Counts, counts_by}
use Rattle.faults.specs.Faults.{then_do}
use Rattle.faults.specs.declared.types.Cause.{Cause}
use Rattle.faults.specs.declared.types.Cause.TheVariants.{Values as no_values, Index, NoDictionary}
use Rattle.holders.specs.Judge.{some_then, put, or_else, no_fault, width_of, indices, chosen, values, entries, parts}
use Rattle.holders.specs.Left.{ok_some, or_none, dict_entries, values_left}
use Rattle.holders.specs.Counts.{below}
use Rattle.holders.specs.declared.types.Form.{Form}
use Rattle.holders.specs.declared.types.Form.TheVariants.{Four, Eight, Bits, Arrays}
use Rattle.holders.specs.declared.types.Dict.{Dict}
use Rattle.holders.specs.declared.types.Values.{Values}
use Rattle.holders.specs.declared.types.Values.TheVariants.{Coded}
use Rattle.holders.proofs.Lengths.{Has, has_test, has_arrays, length_parts}
use Rattle.holders.proofs.After.{some_put}

pub nth_some : {A : Type 0} (es : List A) (i : ℕ) → is_some (slice_get es i) ≡ ltb i (length es)
nth_some [] i = sym (le-ltb i 0 (omega arith))
nth_some (e ∷ es) zero = sym (lt-ltb 0 (suc (length es)) (omega arith))
nth_some (e ∷ es) (suc i) = nth_some es i ∙ grind (arith, nat_tests)

-- all indices below the entries choose
pub chosen_some : {A : Type 0} (es : List A) (is : List ℕ) → is_some (chosen es is) ≡ all_below (length es) is
chosen_some es [] = refl
chosen_some es (i ∷ is) = go (chosen_some es is) (slice_get es i) (ltb i (length es)) (nth_some es i)
  where
    go : is_some (chosen es is) ≡ all_below (length es) is → (o : Option _) (t : Bool) → is_some o ≡ t → is_some (some_then o (λ x. put x (chosen es is))) ≡ (t && all_below (length es) is)
    go rest (Some x) true e = some_put x (chosen es is) ∙ rest
    go rest (Some x) false e = absurd (grind arith)
    go rest None true e = absurd (grind arith)
    go rest None false e = refl

pub has_entries : (f : Form) (n : ℕ) (bs : List ℕ) → Has n (entries f n bs)
has_entries Four n bs = has_test n (eqb (length bs) (n * 4)) (Some (parts 4 n bs)) (length_parts 4 n bs)
has_entries Eight n bs = has_test n (eqb (length bs) (n * 8)) (Some (parts 8 n bs)) (length_parts 8 n bs)
has_entries Bits n bs = tt
has_entries Arrays n bs = has_arrays n bs

abbrev coded_by : Option (List (List ℕ)) → Result (List ℕ) Cause → Result (List (List ℕ)) Cause
coded_by (Some es) i = then_do i (λ is. or_else Index (chosen es is))
coded_by None i = Err NoDictionary

values_coded : (f : Form) (o : Bool) (eo : Option (List (List ℕ))) (n : ℕ) (bs : List ℕ) → is_some eo ≡ true → values f o eo n bs ≡ coded_by eo (indices n bs)
values_coded f o (Some es) n bs h = refl
values_coded f o None n bs h = absurd (grind arith)

abbrev as_numbers : Result (List (List ℕ)) Broken → Result (List ℕ) Cause
as_numbers r = then_do (no_fault no_values r) (λ xss. Ok (flat_map (λ xs. xs) xss))

abbrev as_left : Option (List (List ℕ)) → Result (List (List ℕ)) Broken → ℕ → Option (List (List ℕ))
as_left eo r n = some_then eo (λ es. some_then (cond true (some_then (ok_some r) (λ xss. Some ([] ++ flat_map (λ xs. xs) xss))) None) (λ is. cond (eqb (length is) n) (chosen es is) None))

found : (o : Option (List (List ℕ))) → is_some o ≡ true → Ok (or_none o) ≡ or_else Index o
found (Some x) h = refl
found None h = absurd (grind arith)

not_found : (o : Option (List (List ℕ))) → is_some o ≡ false → Err Index ≡ or_else Index o
not_found (Some x) h = absurd (grind arith)
not_found None h = refl

good : (eo : Option (List (List ℕ))) (r : Result (List (List ℕ)) Broken) (k n : ℕ) → is_some eo ≡ true → Has k eo → Counts n r → below k r ≡ true → (is_some (as_left eo r n) ≡ true) × (Ok (or_none (as_left eo r n)) ≡ coded_by eo (as_numbers r))
good (Some es) (Ok xss) k n h e c b =
    let t : eqb (length (flat_map (λ xs. xs) xss)) n ≡ true = eq-eqb _ _ c in
    let there = chosen_some es (flat_map (λ xs. xs) xss) ∙ ap (λ m. all_below m (flat_map (λ xs. xs) xss)) e ∙ b in
    rw t (there, found (chosen es (flat_map (λ xs. xs) xss)) there)
good (Some es) (Err x) k n h e c b = absurd (grind arith)
good None r k n h e c b = absurd (grind arith)

bad : (eo : Option (List (List ℕ))) (r : Result (List (List ℕ)) Broken) (k : ℕ) → is_some eo ≡ true → Has k eo → is_ok (sound r) ≡ true → below k r ≡ false → Err Index ≡ coded_by eo (as_numbers r)
bad (Some es) (Ok xss) k h e s b = not_found (chosen es (flat_map (λ xs. xs) xss)) (chosen_some es (flat_map (λ xs. xs) xss) ∙ ap (λ m. all_below m (flat_map (λ xs. xs) xss)) e ∙ b)
bad (Some es) (Err x) k h e s b = absurd (grind arith)
bad None r k h e s b = absurd (grind arith)

pub has_dict : (d : Dict) → Has d.entries (dict_entries d)
has_dict d = has_test d.entries (leb d.entries 1048576) (entries d.form d.entries d.body.now) (has_entries d.form d.entries d.body.now)

module _ (f : Form) (o : Bool) (d : Dict) (n w : ℕ) (bytes : List ℕ) (rest : Bor (List ℕ)) (wide : Ok (w, rest.now) ≡ width_of bytes) where
  all_of : values f o (dict_entries d) n bytes ≡ coded_by (dict_entries d) (as_numbers (runs w (2 ^ 32 - 1) n rest.now))
  all_of = values_coded f o (dict_entries d) n bytes d.fine ∙ ap (coded_by (dict_entries d)) (rw (sym wide) refl)

  abbrev left : Values
  left = Coded d (record { runs = record { w = w; rest = rest; left = n }; current = None })

  pub coded_good : w ≤ 32 → n ≤ 1048576 → below d.entries (runs w (2 ^ 32 - 1) n rest.now) ≡ true → (is_some (values_left f n left) ≡ true) × (Ok (or_none (values_left f n left)) ≡ values f o (dict_entries d) n bytes)
  coded_good l m b =
      let t : leb w 32 ≡ true = le-leb w 32 l in
      let u : leb n 1048576 ≡ true = le-leb n 1048576 m in
      let g = good (dict_entries d) (runs w (2 ^ 32 - 1) n rest.now) d.entries n d.fine (has_dict d) (counts_by w (2 ^ 32 - 1) n (length rest.now) rest.now) b in
      rw (t, u) (g.0, g.1 ∙ sym all_of)

  pub coded_bad : is_ok (sound (runs w (2 ^ 32 - 1) n rest.now)) ≡ true → below d.entries (runs w (2 ^ 32 - 1) n rest.now) ≡ false → Err Index ≡ values f o (dict_entries d) n bytes
  coded_bad s b = bad (dict_entries d) (runs w (2 ^ 32 - 1) n rest.now) d.entries d.fine (has_dict d) s b ∙ sym all_of
