-- What row answers of a chunk's row.
use Rattle.std.proofs.Common.{◌≡◌, ℕ, zero, suc, ◌+◌, Bool, true, false, List, [], ◌∷◌, ◌++◌, length, take, drop, Some, sym, refl, ap, ◌∙◌, append_assoc, arith, length-append}
use Rattle.values.specs.Values.{Value, value, number, flag, bytes, weight, under, rows_in, Seen, seen_as, seen_at, bit_at, asked, all_bytes, value_seen, row_asked, row_at}
use Rattle.model.specs.Laws.{RowsSeen}
use Rattle.model.proofs.Rows.{take_over, drop_over}

abbrev own_bytes : Value → List ℕ
own_bytes (number n) = []
own_bytes (flag b) = []
own_bytes (bytes bs) = bs

own_length : (v : Value) → length (own_bytes v) ≡ weight v
own_length (number n) = refl
own_length (flag b) = refl
own_length (bytes bs) = refl

own_first : (v : Value) (vs : List Value) → all_bytes (v ∷ vs) ≡ own_bytes v ++ all_bytes vs
own_first (number n) vs = refl
own_first (flag b) vs = refl
own_first (bytes bs) vs = refl

-- a value is what is seen of it
itself : (front : List ℕ) (v : Value) (vs : List Value) → value_seen (front ++ all_bytes (v ∷ vs)) (seen_as (length front) v) ≡ v
itself front (number n) vs = refl
itself front (flag b) vs = refl
itself front (bytes bs) vs =
    let at : drop (length front) (front ++ (bs ++ all_bytes vs)) ≡ bs ++ all_bytes vs = ap (λ n. drop n (front ++ (bs ++ all_bytes vs))) (let e : length front ≡ length front + 0 = omega arith in e) ∙ drop_over front (bs ++ all_bytes vs) 0 in
    ap (λ xs. bytes (take (length bs) xs)) at ∙ ap bytes (take_over bs (all_bytes vs))

present_row : (text : List ℕ) (x : Seen) (b : Bool) (v : Value) → value_seen text x ≡ v → row_asked text (asked (Some x) b) ≡ Some (under b v)
present_row text x true v e = ap (λ w. Some (value w)) e
present_row text x false v e = refl

after : (front : List ℕ) (v : Value) (vs : List Value) (bs : List Bool) (i : ℕ)
    → ((f : List ℕ) → row_asked (f ++ all_bytes vs) (asked (seen_at (length f) vs i) (bit_at bs i)) ≡ row_at (rows_in vs bs) i)
    → row_asked (front ++ all_bytes (v ∷ vs)) (asked (seen_at (length front + weight v) vs i) (bit_at bs i)) ≡ row_at (rows_in vs bs) i
after front v vs bs i rest =
    let text : front ++ all_bytes (v ∷ vs) ≡ (front ++ own_bytes v) ++ all_bytes vs = ap (λ xs. front ++ xs) (own_first v vs) ∙ sym (append_assoc front (own_bytes v) (all_bytes vs)) in
    let place : length front + weight v ≡ length (front ++ own_bytes v) = sym (length-append front (own_bytes v) ∙ ap (λ n. length front + n) (own_length v)) in
    ap (λ t. row_asked t (asked (seen_at (length front + weight v) vs i) (bit_at bs i))) text
    ∙ ap (λ p. row_asked ((front ++ own_bytes v) ++ all_bytes vs) (asked (seen_at p vs i) (bit_at bs i))) place
    ∙ rest (front ++ own_bytes v)

seen_row : (front : List ℕ) (vs : List Value) (bs : List Bool) (i : ℕ) → row_asked (front ++ all_bytes vs) (asked (seen_at (length front) vs i) (bit_at bs i)) ≡ row_at (rows_in vs bs) i
seen_row front [] bs i = refl
seen_row front (v ∷ vs) [] zero = present_row (front ++ all_bytes (v ∷ vs)) (seen_as (length front) v) true v (itself front v vs)
seen_row front (v ∷ vs) (b ∷ bs) zero = present_row (front ++ all_bytes (v ∷ vs)) (seen_as (length front) v) b v (itself front v vs)
seen_row front (v ∷ vs) [] (suc i) = after front v vs [] i (λ f. seen_row f vs [] i)
seen_row front (v ∷ vs) (b ∷ bs) (suc i) = after front v vs bs i (λ f. seen_row f vs bs i)

pub rows_seen : RowsSeen
rows_seen vs bs i = seen_row [] vs bs i
