-- What a holder keeps, in the terms of the loops over its rows.
use Rattle.std.proofs.Common.{◌≡◌, ℕ, ◌+◌, ◌-◌, ◌≤◌, Bool, true, false, ◌&&◌, leb, List, [], ◌∷◌, ◌++◌, map, length, take, drop, replicate, sym, refl, ap, ◌∙◌, arith, length-append, length-drop}
use lib.ListN.{length-map}
use Rattle.std.proofs.lemmas.List.{take-map, take-replicate, length-take-le}
use Rattle.std.proofs.lemmas.Bool.{le-leb, leb-true}
use Rattle.hybrid_rle.specs.declared.validity.OptionalPageValidity.{OptionalPageValidity}
use Rattle.hybrid_rle.specs.Cursor.{to_come}
use Rattle.hybrid_rle.specs.Rows.{flat}
use Rattle.values.specs.Values.{Value, Row, Room, fits, weight, weights, stands}
use Rattle.model.specs.Model.{bits_due}
use Rattle.model.specs.Rooms.{room_for}
use Rattle.holders.specs.Judge.{needed, spread}
use Rattle.holders.specs.Columns.{row_of}
use Rattle.holders.specs.Holding.{unused_as}
use Rattle.holders.specs.Left.{present_left}
use Rattle.holders.specs.Cursors.{to_give}
use Rattle.holders.specs.declared.forms.PageForm.{Ghosts}
use Rattle.holders.specs.declared.holder.Holder.{Holder}
use Rattle.holders.specs.declared.page_values.PageValues.{PageValues}
use Rattle.holders.proofs.Spreads.{first_stands, rows_left, needs_left, enough_first}
use Rattle.holders.proofs.Validities.{needed_values}
use Rattle.holders.proofs.Measures.{filled_weight, leb_same}
use Rattle.model.proofs.Rows.{length_stands}
use Rattle.sinks.specs.Fits.{fits_from}
use Rattle.sinks.proofs.Rows.{weights_append}
use Rattle.holders.proofs.Lengths.{has_values, length_given, length_spread}

pub values_number : (v : PageValues) → v.n ≡ length (to_give v)
values_number v = length_given v.n _ (has_values v.form v.n v.values) v.there

-- each present row has its value
pub all_needed : {F : Type 0} {gs : Ghosts F} (h : Holder F gs) → needed (present_left h.column.optional h.rows h.validity) ≡ length (to_give h.values)
all_needed h = h.page ∙ values_number h.values

module _ (f : List ℕ → Value) (light : (bs : List ℕ) → weight (f bs) ≡ 0) where
  weightless : (xs : List (List ℕ)) → weights (map f xs) ≡ 0
  weightless [] = refl
  weightless (x ∷ xs) = omega (arith, light x, weightless xs)

  -- values that take no bytes fit
  pub light_fit : (m spare : ℕ) (xs : List (List ℕ)) → true ≡ leb (weights (take m (map f xs))) spare
  light_fit m spare xs = sym (le-leb _ spare (omega (arith, ap weights (take-map f m xs), weightless (take m xs))))

-- the holder's rows are counted
pub unused_number : {F : Type 0} {gs : Ghosts F} (h : Holder F gs) (f : List ℕ → Value) → length (unused_as f h) ≡ h.rows
unused_number h f =
    let ps = present_left h.column.optional h.rows h.validity in
    length-map (spread ps (to_give h.values)) (row_of f) ∙ length_spread ps (to_give h.values) (all_needed h) ∙ h.count

pub enough : {F : Type 0} {gs : Ghosts F} (h : Holder F gs) → needed (present_left h.column.optional h.rows h.validity) ≤ length (to_give h.values)
enough h = let a = all_needed h in omega arith

-- what the loops leave in a holder: n rows, by presence in v, with the values w
pub record LeftIn {F : Type 0} {gs : Ghosts F} (h : Holder F gs) (f : List ℕ → Value) (k n : ℕ) (v : OptionalPageValidity) (w : PageValues) : Type 0 where
  pub page : needed (present_left h.column.optional n v) ≡ w.n
  pub count : length (present_left h.column.optional n v) ≡ n
  pub rows : map (row_of f) (spread (present_left h.column.optional n v) (to_give w)) ≡ drop k (unused_as f h)

module _ {F : Type 0} {gs : Ghosts F} (h : Holder F gs) (f : List ℕ → Value) (k : ℕ) where
  abbrev ps : List Bool
  ps = present_left h.column.optional h.rows h.validity

  abbrev raws : List (List ℕ)
  raws = to_give h.values

  -- the bytes of the first k rows fit where the bytes of their values do
  pub bytes_same : (r : Room) (vs : List Value) (spare : ℕ) → weight r.blank ≡ 0 → weights vs + spare ≡ r.bytes → leb (weights (take (needed (take k ps)) (map f raws))) spare ≡ leb (weights vs + weights (stands r.blank (take k (unused_as f h)))) r.bytes
  bytes_same r vs spare l e =
      sym (leb_same (weights vs) spare r.bytes r.bytes e refl (weights (take (needed (take k ps)) (map f raws))))
      ∙ ap (λ n. leb (weights vs + n) r.bytes) (sym (filled_weight r.blank (take k ps) (map f raws) l (enough_first f k ps raws (enough h))) ∙ ap weights (sym (first_stands f k ps raws (enough h) r.blank)))

  pub kept_rows : (n : ℕ) (v : OptionalPageValidity) (w : PageValues) → n ≡ h.rows - k → present_left h.column.optional (h.rows - k) v ≡ drop k ps → map f (to_give w) ≡ drop (needed (take k ps)) (map f raws) → LeftIn h f k n v w
  kept_rows n v w s i e =
      let d = ap (λ m. present_left h.column.optional m v) s ∙ i in
      record {
        page = needs_left f k ps raws (enough h) w.n (present_left h.column.optional n v) (to_give w) d e (all_needed h) (values_number w);
        count = ap length d ∙ length-drop k ps ∙ ap (λ m. m - k) h.count ∙ sym s;
        rows = rows_left f k ps raws (enough h) (present_left h.column.optional n v) (to_give w) d e;
      }

-- a page's rows, where rows may be null and where none is
pub flat_is : (o : Bool) (n : ℕ) (v : OptionalPageValidity) → o ≡ true → present_left o n v ≡ flat (to_come v)
flat_is o n v e = ap (λ t. present_left t n v) e

pub all_are : (o : Bool) (n : ℕ) (v : OptionalPageValidity) → o ≡ false → present_left o n v ≡ replicate n true
all_are o n v e = ap (λ t. present_left t n v) e

pub first_all : (o : Bool) (n k : ℕ) (v : OptionalPageValidity) → o ≡ false → k ≤ n → take k (present_left o n v) ≡ replicate k true
first_all o n k v e h = ap (take k) (all_are o n v e) ∙ take-replicate k n true h

pub required_among : (o : Bool) (n k : ℕ) (v : OptionalPageValidity) → o ≡ false → k ≤ n → k ≡ needed (take k (present_left o n v))
required_among o n k v e h = sym (ap needed (first_all o n k v e h) ∙ needed_values k)

-- the first three tests of room, and all four
pub no_room : (a b c d : Bool) → false ≡ (a && b && c) → false ≡ (a && b && c && d)
no_room false b c d e = refl
no_room true false c d e = refl
no_room true true false d e = refl
no_room true true true d e = let z : ◌≡◌ {A = ℕ} 0 1 = cc in absurd (omega arith)

pub all_room : (a b c d : Bool) → true ≡ (a && b && c) → d ≡ (a && b && c && d)
all_room true true true d e = refl
all_room false b c d e = let z : ◌≡◌ {A = ℕ} 0 1 = cc in absurd (omega arith)
all_room true false c d e = let z : ◌≡◌ {A = ℕ} 0 1 = cc in absurd (omega arith)
all_room true true false d e = let z : ◌≡◌ {A = ℕ} 0 1 = cc in absurd (omega arith)

both_true : (a b : Bool) → (a && b) ≡ true → (a ≡ true) × (b ≡ true)
both_true true true e = (refl, refl)
both_true true false e = absurd (grind arith)
both_true false b e = absurd (grind arith)

pub each_room : (a b c : Bool) → true ≡ (a && b && c) → (a ≡ true) × (b ≡ true) × (c ≡ true)
each_room true true true e = (refl, refl, refl)
each_room false b c e = let z : ◌≡◌ {A = ℕ} 0 1 = cc in absurd (omega arith)
each_room true false c e = let z : ◌≡◌ {A = ℕ} 0 1 = cc in absurd (omega arith)
each_room true true false e = let z : ◌≡◌ {A = ℕ} 0 1 = cc in absurd (omega arith)

-- the tests of room, as the code has them and as they are defined
pub same_tests : (o : Bool) (r : Room) (n k rows len cap count most : ℕ) (us : List Row) (vs : List Value) (bs : List Bool) → length us ≡ rows → len ≡ length vs → cap ≡ r.rows → count ≡ length bs → most ≡ n
    → (leb k rows && leb (len + k) cap && leb (bits_due o (count + k)) most) ≡ (leb k (length us) && leb (length vs + k) r.rows && leb (bits_due o (length bs + k)) n)
same_tests o r n k rows len cap count most us vs bs a b c d e =
    ap (λ x. leb k x && leb (len + k) cap && leb (bits_due o (count + k)) most) (sym a)
    ∙ ap (λ x. leb k (length us) && leb (x + k) cap && leb (bits_due o (count + k)) most) b
    ∙ ap (λ x. leb k (length us) && leb (length vs + k) x && leb (bits_due o (count + k)) most) c
    ∙ ap (λ x. leb k (length us) && leb (length vs + k) r.rows && leb (bits_due o (x + k)) most) d
    ∙ ap (λ x. leb k (length us) && leb (length vs + k) r.rows && leb (bits_due o (length bs + k)) x) e

-- what it takes that there is room for k rows
pub room_parts : (o : Bool) (r : Room) (n k : ℕ) (us : List Row) (vs : List Value) (bs : List Bool) → true ≡ room_for o r n k us vs bs → (k ≤ length us) × (fits r (vs ++ stands r.blank (take k us)) ≡ true) × (bits_due o (length bs + k) ≤ n)
room_parts o r n k us vs bs e =
    let ws = stands r.blank (take k us) in
    let u = both_true (leb k (length us) && leb (length vs + k) r.rows && leb (bits_due o (length bs + k)) n) (leb (weights vs + weights ws) r.bytes) (sym e) in
    let t = each_room (leb k (length us)) (leb (length vs + k) r.rows) (leb (bits_due o (length bs + k)) n) (sym u.0) in
    let w = leb-true k (length us) t.0 in
    let l = leb-true (length vs + k) r.rows t.1 in
    let z : length ws ≡ k = length_stands r.blank (take k us) ∙ length-take-le k us w in
    (w, fits_from r (vs ++ ws) (omega (arith, length-append vs ws)) (omega (arith, weights_append vs ws, leb-true (weights vs + weights ws) r.bytes u.1)), leb-true (bits_due o (length bs + k)) n t.2)
