-- Rows by presence and values, cut at row k.
use Rattle.std.proofs.Common.{◌≡◌, ℕ, zero, suc, ◌+◌, ◌≤◌, Bool, true, false, List, [], ◌∷◌, map, length, take, drop, Some, None, Option, sym, refl, ap, ◌∙◌, arith, length-drop}
use lib.ListN.{length-map}
use Rattle.std.proofs.lemmas.List.{take-append-drop, take-map, drop-map}
use Rattle.values.specs.Values.{Value, Row, null, value, stands, validity}
use Rattle.holders.specs.Judge.{needed, spread}
use Rattle.holders.specs.Columns.{row_of}
use Rattle.holders.specs.Filled.{filled}
use Rattle.holders.proofs.Filling.{needed_append}

abbrev pub as_row : Option Value → Row
as_row None = null
as_row (Some v) = value v

pub rows_converted : (f : List ℕ → Value) (ps : List Bool) (raws : List (List ℕ)) → map (row_of f) (spread ps raws) ≡ map as_row (spread ps (map f raws))
rows_converted f [] raws = refl
rows_converted f (false ∷ ps) raws = ap {B = List Row} (λ t. null ∷ t) (rows_converted f ps raws)
rows_converted f (true ∷ ps) [] = refl
rows_converted f (true ∷ ps) (r ∷ raws) = ap {B = List Row} (λ t. value (f r) ∷ t) (rows_converted f ps raws)

take_spread : {A : Type 0} (k : ℕ) (ps : List Bool) (vs : List A) → take k (spread ps vs) ≡ spread (take k ps) vs
take_spread zero ps vs = refl
take_spread (suc k) [] vs = refl
take_spread {A} (suc k) (false ∷ ps) vs = ap {B = List (Option A)} (λ t. None ∷ t) (take_spread k ps vs)
take_spread (suc k) (true ∷ ps) [] = refl
take_spread {A} (suc k) (true ∷ ps) (v ∷ vs) = ap {B = List (Option A)} (λ t. Some v ∷ t) (take_spread k ps vs)

drop_spread : {A : Type 0} (k : ℕ) (ps : List Bool) (vs : List A) → needed ps ≤ length vs → drop k (spread ps vs) ≡ spread (drop k ps) (drop (needed (take k ps)) vs)
drop_spread zero ps vs h = refl
drop_spread (suc k) [] vs h = refl
drop_spread (suc k) (false ∷ ps) vs h = drop_spread k ps vs h
drop_spread (suc k) (true ∷ ps) [] h = absurd (omega arith)
drop_spread (suc k) (true ∷ ps) (v ∷ vs) h = drop_spread k ps vs (omega arith)

stands_rows : (b : Value) (ps : List Bool) (vs : List Value) → stands b (map as_row (spread ps vs)) ≡ filled b ps vs
stands_rows b [] vs = refl
stands_rows b (false ∷ ps) vs = ap {B = List Value} (λ t. b ∷ t) (stands_rows b ps vs)
stands_rows b (true ∷ ps) [] = refl
stands_rows b (true ∷ ps) (v ∷ vs) = ap {B = List Value} (λ t. v ∷ t) (stands_rows b ps vs)

validity_rows : (ps : List Bool) (vs : List Value) → needed ps ≤ length vs → validity (map as_row (spread ps vs)) ≡ ps
validity_rows [] vs h = refl
validity_rows (false ∷ ps) vs h = ap {B = List Bool} (λ t. false ∷ t) (validity_rows ps vs h)
validity_rows (true ∷ ps) [] h = absurd (omega arith)
validity_rows (true ∷ ps) (v ∷ vs) h = ap {B = List Bool} (λ t. true ∷ t) (validity_rows ps vs (omega arith))

pub needed_cut : (k : ℕ) (ps : List Bool) → needed (take k ps) + needed (drop k ps) ≡ needed ps
needed_cut k ps = sym (needed_append (take k ps) (drop k ps)) ∙ ap needed (take-append-drop k ps)

-- the first k rows, and those after them
module _ (f : List ℕ → Value) (k : ℕ) (ps : List Bool) (raws : List (List ℕ)) (enough : needed ps ≤ length raws) where
  first_rows : take k (map (row_of f) (spread ps raws)) ≡ map as_row (spread (take k ps) (map f raws))
  first_rows = ap (take k) (rows_converted f ps raws) ∙ take-map as_row k (spread ps (map f raws)) ∙ ap (map as_row) (take_spread k ps (map f raws))

  pub enough_values : needed ps ≤ length (map f raws)
  enough_values = omega (arith, length-map raws f)

  pub enough_first : needed (take k ps) ≤ length (map f raws)
  enough_first = omega (arith, length-map raws f, needed_cut k ps)

  pub first_stands : (b : Value) → stands b (take k (map (row_of f) (spread ps raws))) ≡ filled b (take k ps) (map f raws)
  first_stands b = ap (stands b) first_rows ∙ stands_rows b (take k ps) (map f raws)

  pub first_validity : validity (take k (map (row_of f) (spread ps raws))) ≡ take k ps
  first_validity = ap validity first_rows ∙ validity_rows (take k ps) (map f raws) enough_first

  pub rows_left : (ps' : List Bool) (raws' : List (List ℕ)) → ps' ≡ drop k ps → map f raws' ≡ drop (needed (take k ps)) (map f raws) → map (row_of f) (spread ps' raws') ≡ drop k (map (row_of f) (spread ps raws))
  rows_left ps' raws' d e =
      rows_converted f ps' raws' ∙ ap (λ t. map as_row (spread t (map f raws'))) d ∙ ap (λ t. map as_row (spread (drop k ps) t)) e
      ∙ sym (ap (drop k) (rows_converted f ps raws) ∙ drop-map as_row k (spread ps (map f raws)) ∙ ap (map as_row) (drop_spread k ps (map f raws) enough_values))

  -- the values left are those that the rows left need
  pub needs_left : (n : ℕ) (ps' : List Bool) (raws' : List (List ℕ)) → ps' ≡ drop k ps → map f raws' ≡ drop (needed (take k ps)) (map f raws) → needed ps ≡ length raws → n ≡ length raws' → needed ps' ≡ n
  needs_left n ps' raws' d e w z =
      ap needed d ∙ omega (arith, needed_cut k ps, ap length e, length-map raws' f, length-map raws f, length-drop (needed (take k ps)) (map f raws))
