-- Rows of bytes by their offsets: one row more, the bytes that rows take, and where they are seen.
use Rattle.std.proofs.Common.{◌≡◌, ℕ, ◌+◌, ◌-◌, ◌^◌, ◌<◌, ◌≤◌, Bool, true, false, cond, ◌&&◌, leb, ltb, ◌≢◌, List, [], ◌∷◌, ◌++◌, map, length, get_or, take, drop, set, ℤ, pos, Some, None, sym, refl, ap, ◌∙◌, ⊎_elim, zero-add, arith, length-append, w32, to_z, of_z}
use Rattle.std.specs.List.{range_with_len}
use Rattle.std.specs.Option.{option_map}
use Rattle.std.proofs.lemmas.List.FromFn.{map-range_with_len_more, length-map-range_with_len, get_or-map-range_with_len, take-map-range_with_len}
use Rattle.std.proofs.lemmas.List.{drop-take, take-take, take_at, drop_at, length-take-le, get_or-set_same, get_or-set_other}
use Rattle.std.proofs.lemmas.Int.{to_z_pos}
use Rattle.std.proofs.lemmas.Bool.{cases_lt, lt-ltb, le-ltb}
use Rattle.bitmap.proofs.Runs.{counted_same}
use Rattle.values.specs.Values.{Value, bytes, fits, joined, weights, Seen, seen_as, seen_at, a_place}
use Rattle.sinks.specs.Offsets.{place, mark, cut, row, string, strings, row_room, byte_room, of_offsets}
use Rattle.sinks.specs.Fits.{length_row, spans}
use Rattle.sinks.specs.declared.binary.Binary.{Binary}
use Rattle.sinks.proofs.Rows.{weights_append, seen_past, seen_within}

-- a place below 2 ^ 31 as 32 bits, and back
pub as_offset : (x : ℤ) (m : ℕ) → x ≡ pos m → m < 2 ^ 31 → to_z w32 (of_z w32 x) ≡ pos m
as_offset x m e h = ap (λ t. to_z w32 (of_z w32 t)) e ∙ to_z_pos w32 m h

pub stored : (x : ℤ) (m n : ℕ) → x ≡ pos (byte_room m) → m ≤ byte_room n → to_z w32 (of_z w32 x) ≡ pos m
stored x m n e h = let small : byte_room m ≡ m = omega arith in as_offset x m (e ∙ ap pos small) (omega arith)

-- a cut looks at no byte past its end
cut_front : (text : List ℕ) (a n u : ℕ) → a + n ≤ u → cut (take u text) a n ≡ cut text a n
cut_front text a n u h =
    let p : a + (u - a) ≡ u = omega arith in
    let q : n ≤ u - a = omega arith in
    ap (λ t. cut (take t text) a n) (sym p) ∙ ap (take n) (drop-take a (u - a) text) ∙ take-take n (u - a) (drop a text) q

-- a sink s, and one row more, of k bytes: x is its offset
module _ (s : Binary) (k : ℕ) (x : ℤ) (is : x ≡ pos (s.used + k)) (room : s.rows + 1 < length s.offsets.now) where
  abbrev offs : List ℤ
  offs = s.offsets.now

  abbrev more : List ℤ
  more = set offs (s.rows + 1) x

  mark_old : (i : ℕ) → i ≤ s.rows → mark more i ≡ mark offs i
  mark_old i h = let ne : i ≢ s.rows + 1 = λ e. omega arith in ap place (get_or-set_other offs (s.rows + 1) i x (pos 0) ne)

  mark_last : mark offs s.rows ≡ s.used
  mark_last = ap place s.last

  pub last_pushed : get_or more (s.rows + 1) (pos 0) ≡ pos (s.used + k)
  last_pushed = get_or-set_same offs (s.rows + 1) x (pos 0) room ∙ is

  mark_new : mark more (s.rows + 1) ≡ s.used + k
  mark_new = ap place last_pushed

  pub strings_pushed : (text : List ℕ) → strings (s.rows + 1) more text ≡ strings s.rows offs text ++ string text s.used k ∷ []
  strings_pushed text =
      let d : s.used + k - s.used ≡ k = omega arith in
      map-range_with_len_more (λ i. bytes (row more text i)) 0 s.rows s.rows (zero-add s.rows)
      ∙ ap (λ t. t ++ bytes (row more text s.rows) ∷ []) (counted_same _ (λ i. bytes (row offs text i)) s.rows (λ i h.
      ap (λ t. string text t (mark more (i + 1) - t)) (mark_old i (omega arith)) ∙ ap (λ t. string text (mark offs i) (t - mark offs i)) (mark_old (i + 1) (omega arith))))
      ∙ ap (λ t. strings s.rows offs text ++ t ∷ []) (ap (λ t. string text t (mark more (s.rows + 1) - t)) (mark_old s.rows (omega arith) ∙ mark_last) ∙ ap (λ t. string text s.used (t - s.used)) mark_new ∙ ap (string text s.used) d)

-- what is seen of the bytes from a up to e
abbrev pub place_of : ℕ × ℕ → Seen
place_of p = a_place p.0 (p.1 - p.0)

-- a sink s: its rows and their bytes
module _ (s : Binary) where
  abbrev all : List Value
  all = strings s.rows s.offsets.now s.bytes.now

  span : (a n e : ℕ) → a + n ≡ e → e ≤ s.rows → mark s.offsets.now e ≤ s.used → mark s.offsets.now a + weights (map (λ i. bytes (row s.offsets.now s.bytes.now i)) (range_with_len a n)) ≡ mark s.offsets.now e
  span a n e q h k = spans s.offsets.now s.bytes.now n a e q (λ i l. s.rising i (omega arith)) (omega arith)

  pub mark_below : (i : ℕ) → i ≤ s.rows → mark s.offsets.now i ≤ s.used
  mark_below i h = let e : mark s.offsets.now s.rows ≡ s.used = ap place s.last in omega (arith, span i (s.rows - i) s.rows (omega arith) (omega arith) (omega arith))

  -- the bytes of the first i rows
  front : (i : ℕ) → i ≤ s.rows → weights (strings i s.offsets.now s.bytes.now) ≡ mark s.offsets.now i
  front i h = let z : mark s.offsets.now 0 ≡ 0 = ap place s.first in omega (arith, span 0 i i (zero-add i) h (mark_below i h))

  pub length_all : length all ≡ s.rows
  length_all = length-map-range_with_len (λ i. bytes (row s.offsets.now s.bytes.now i)) 0 s.rows

  pub weights_all : weights all ≡ s.used
  weights_all = front s.rows (omega arith) ∙ ap place s.last

  -- row i is seen at its offset, with its length
  pub seen_row : (i : ℕ) → i < s.rows → Some (a_place (mark s.offsets.now i) (mark s.offsets.now (i + 1) - mark s.offsets.now i)) ≡ seen_at 0 all i
  seen_row i h =
      let f : ℕ → Value = λ k. bytes (row s.offsets.now s.bytes.now k) in
      let l : i < length all = rw length_all h in
      let below = mark_below (i + 1) (omega arith) in
      let at : 0 + weights (take i all) ≡ mark s.offsets.now i = zero-add (weights (take i all)) ∙ ap weights (take-map-range_with_len f 0 s.rows i (omega arith)) ∙ front i (omega arith) in
      let long = length_row s.offsets.now s.bytes.now i (s.rising i h) (omega arith) in
      sym (seen_within 0 all i (bytes []) l
      ∙ ap (λ v. Some (seen_as (0 + weights (take i all)) v)) (get_or-map-range_with_len f 0 s.rows i i (bytes []) h (zero-add i))
      ∙ ap (λ p. Some (a_place p (length (row s.offsets.now s.bytes.now i)))) at
      ∙ ap (λ n. Some (a_place (mark s.offsets.now i) n)) long)

  -- what is seen at the bounds of row i, if there is one
  pub seen_bounds : (i : ℕ) → option_map place_of (cond (ltb i s.rows) (Some (mark s.offsets.now i, mark s.offsets.now (i + 1))) None) ≡ seen_at 0 all i
  seen_bounds i = ⊎_elim
      (λ h. ap (λ t. option_map place_of (cond t (Some (mark s.offsets.now i, mark s.offsets.now (i + 1))) None)) (lt-ltb i s.rows h) ∙ seen_row i h)
      (λ h. ap (λ t. option_map place_of (cond t (Some (mark s.offsets.now i, mark s.offsets.now (i + 1))) None)) (le-ltb i s.rows h) ∙ sym (seen_past 0 all i (rw length_all h)))
      (cases_lt i s.rows)

  -- whether k rows of w bytes fit after those that are there
  pub strings_fits : (k w : ℕ) (vs : List Value) (ok : Bool) → length vs ≡ k → weights vs ≡ w → ok ≡ (leb (s.rows + k) (row_room (length s.offsets.now)) && leb (s.used + w) (byte_room (length s.bytes.now))) → ok ≡ fits (of_offsets (length s.offsets.now) (length s.bytes.now)) (all ++ vs)
  strings_fits k w vs ok lk lw a =
      let r = of_offsets (length s.offsets.now) (length s.bytes.now) in
      let rows : s.rows + k ≡ length (all ++ vs) = sym (length-append all vs ∙ ap (λ t. t + length vs) length_all ∙ ap (λ t. s.rows + t) lk) in
      let used : s.used + w ≡ weights (all ++ vs) = sym (weights_append all vs ∙ ap (λ t. t + weights vs) weights_all ∙ ap (λ t. s.used + t) lw) in
      a ∙ and_is (leb (s.rows + k) r.rows) (leb (s.used + w) r.bytes) ∙ ap (λ t. cond (leb t r.rows) (leb (s.used + w) r.bytes) false) rows ∙ ap (λ t. cond (leb (length (all ++ vs)) r.rows) (leb t r.bytes) false) used
    where
      and_is : (a b : Bool) → (a && b) ≡ cond a b false
      and_is true b = refl
      and_is false b = refl

  -- and what is there then
  pub strings_joined : (k w : ℕ) (vs zs : List Value) (ok : Bool) → length vs ≡ k → weights vs ≡ w → ok ≡ (leb (s.rows + k) (row_room (length s.offsets.now)) && leb (s.used + w) (byte_room (length s.bytes.now))) → zs ≡ cond ok (all ++ vs) all → zs ≡ joined (of_offsets (length s.offsets.now) (length s.bytes.now)) all vs
  strings_joined k w vs zs ok lk lw a e = e ∙ ap (λ t. cond t (all ++ vs) all) (strings_fits k w vs ok lk lw a)

  -- bytes v copied after those of the rows make one row more, and leave the others
  pub strings_more : (text v : List ℕ) → take (s.used + length v) text ≡ take s.used s.bytes.now ++ v → strings s.rows s.offsets.now text ++ string text s.used (length v) ∷ [] ≡ all ++ bytes v ∷ []
  strings_more text v copied =
      let old = take s.used s.bytes.now in
      let n : length old ≡ s.used = length-take-le s.used s.bytes.now (omega arith) in
      let h : s.used ≤ s.used + length v = omega arith in
      let same : take s.used text ≡ old = sym (take-take s.used (s.used + length v) text h) ∙ ap (take s.used) copied ∙ take_at old v s.used n in
      let new : cut text s.used (length v) ≡ v = sym (drop-take s.used (length v) text) ∙ ap (drop s.used) copied ∙ drop_at old v s.used n in
      ap (λ t. t ++ string text s.used (length v) ∷ []) (counted_same _ (λ i. bytes (row s.offsets.now s.bytes.now i)) s.rows (λ i l.
      let up = s.rising i l in
      let below = mark_below (i + 1) (omega arith) in
      ap bytes (sym (cut_front text (mark s.offsets.now i) _ s.used (omega arith)) ∙ ap (λ t. cut t (mark s.offsets.now i) (mark s.offsets.now (i + 1) - mark s.offsets.now i)) same ∙ cut_front s.bytes.now (mark s.offsets.now i) _ s.used (omega arith))))
      ∙ ap (λ t. all ++ bytes t ∷ []) new
