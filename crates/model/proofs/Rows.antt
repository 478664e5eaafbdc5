-- The rows of a chunk that rows are appended to.
use Rattle.std.proofs.Common.{◌≡◌, ℕ, zero, suc, ◌+◌, Bool, true, false, List, [], ◌∷◌, ◌++◌, length, take, drop, Option, sym, refl, ap, ◌∙◌, arith}
use Rattle.values.specs.Values.{Value, Row, null, value, stand, stands, validity, present, under, rows_in}
use Rattle.pages.specs.Delivered.{Delivered, page, dict, fault}
use Rattle.model.specs.Model.{Column, Dict, AllPresent, bits_for, bits_due, verdict, rows_of}

pub length_rows : (vs : List Value) (bs : List Bool) → length (rows_in vs bs) ≡ length vs
length_rows [] bs = refl
length_rows (v ∷ vs) [] = ap suc (length_rows vs [])
length_rows (v ∷ vs) (b ∷ bs) = ap suc (length_rows vs bs)

pub length_stands : (b : Value) (rs : List Row) → length (stands b rs) ≡ length rs
length_stands b [] = refl
length_stands b (r ∷ rs) = ap suc (length_stands b rs)

length_validity : (rs : List Row) → length (validity rs) ≡ length rs
length_validity [] = refl
length_validity (r ∷ rs) = ap suc (length_validity rs)

pub length_bits : (o : Bool) (rs : List Row) → length (bits_for o rs) ≡ bits_due o (length rs)
length_bits true rs = length_validity rs
length_bits false rs = refl

-- a row under its own bit, over its stand-in
own : (b : Value) (r : Row) → under (present r) (stand b r) ≡ r
own b null = refl
own b (value v) = refl

own_rows : (b : Value) (rs : List Row) → rows_in (stands b rs) (validity rs) ≡ rs
own_rows b [] = refl
own_rows b (r ∷ rs) = ap (λ x. x ∷ rows_in (stands b rs) (validity rs)) (own b r) ∙ ap (λ xs. r ∷ xs) (own_rows b rs)

plain : (b : Value) (r : Row) → present r ≡ true → value (stand b r) ≡ r
plain b null e = let z : ◌≡◌ {A = ℕ} 0 1 = cc in absurd (omega arith)
plain b (value v) e = refl

plain_rows : (b : Value) (rs : List Row) → AllPresent rs → rows_in (stands b rs) [] ≡ rs
plain_rows b [] h = refl
plain_rows b (r ∷ rs) h = ap (λ x. x ∷ rows_in (stands b rs) []) (plain b r h.0) ∙ ap (λ xs. r ∷ xs) (plain_rows b rs h.1)

-- the rows of two chunks one after the other, where each value of the first has its bit
joined_rows : (vs ws : List Value) (bs cs : List Bool) → length bs ≡ length vs → rows_in (vs ++ ws) (bs ++ cs) ≡ rows_in vs bs ++ rows_in ws cs
joined_rows [] ws [] cs e = refl
joined_rows [] ws (b ∷ bs) cs e = absurd (omega arith)
joined_rows (v ∷ vs) ws [] cs e = absurd (omega arith)
joined_rows (v ∷ vs) ws (b ∷ bs) cs e = ap (λ xs. under b v ∷ xs) (joined_rows vs ws bs cs (omega arith))

bare_rows : (vs ws : List Value) → rows_in (vs ++ ws) [] ≡ rows_in vs [] ++ rows_in ws []
bare_rows [] ws = refl
bare_rows (v ∷ vs) ws = ap (λ xs. value v ∷ xs) (bare_rows vs ws)

no_bits : (bs : List Bool) → length bs ≡ 0 → bs ≡ []
no_bits [] e = refl
no_bits (b ∷ bs) e = absurd (omega arith)

-- rows appended to a chunk are its rows after those that it had
pub rows_appended : (o : Bool) (b : Value) (vs : List Value) (bs : List Bool) (rs : List Row)
    → length bs ≡ bits_due o (length vs) → (o ≡ false → AllPresent rs) → rows_in (vs ++ stands b rs) (bs ++ bits_for o rs) ≡ rows_in vs bs ++ rs
rows_appended true b vs bs rs e h = joined_rows vs (stands b rs) bs (validity rs) e ∙ ap (λ xs. rows_in vs bs ++ xs) (own_rows b rs)
rows_appended false b vs bs rs e h =
    let none : bs ≡ [] = no_bits bs e in
    ap (λ c. rows_in (vs ++ stands b rs) (c ++ [])) none ∙ bare_rows vs (stands b rs)
    ∙ ap (λ xs. rows_in vs [] ++ xs) (plain_rows b rs (h refl)) ∙ ap (λ c. rows_in vs c ++ rs) (sym none)

pub present_take : (n : ℕ) (rs : List Row) → AllPresent rs → AllPresent (take n rs)
present_take zero rs h = tt
present_take (suc n) [] h = tt
present_take (suc n) (r ∷ rs) h = (h.0, present_take n rs h.1)

pub present_drop : (n : ℕ) (rs : List Row) → AllPresent rs → AllPresent (drop n rs)
present_drop zero rs h = h
present_drop (suc n) [] h = tt
present_drop (suc n) (r ∷ rs) h = present_drop n rs h.1

-- no row of a required column is null
pub verdict_full : (k : Column) → k.optional ≡ false → (h : Option Dict) (d : Delivered) → AllPresent (rows_of (verdict k h d))
verdict_full k e h (fault n) = tt
verdict_full k e h (page n c f b) = k.full e h (page n c f b)
verdict_full k e h (dict n b) = k.full e h (dict n b)

-- what is seen of a value among the bytes of all
pub take_over : (xs ys : List ℕ) → take (length xs) (xs ++ ys) ≡ xs
take_over [] ys = refl
take_over (x ∷ xs) ys = ap (λ zs. x ∷ zs) (take_over xs ys)

pub drop_over : (xs ys : List ℕ) (n : ℕ) → drop (length xs + n) (xs ++ ys) ≡ drop n ys
drop_over [] ys n = ap (λ m. drop m ys) (omega arith)
drop_over (x ∷ xs) ys n = ap (λ m. drop m (x ∷ xs ++ ys)) (let e : suc (length xs) + n ≡ suc (length xs + n) = omega arith in e) ∙ drop_over xs ys n
