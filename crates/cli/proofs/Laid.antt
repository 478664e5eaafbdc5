-- Rows laid out one after another.
use Rattle.std.proofs.Common.{◌≡◌, ℕ, zero, suc, ◌+◌, ◌<◌, ◌≤◌, true, false, eqb, List, [], ◌∷◌, ◌++◌, length, get_or, take, sym, refl, ap, ◌∙◌, arith}
use Rattle.std.proofs.lemmas.List.{append_assoc, append-nil, take_more, take_all}
use Rattle.std.proofs.lemmas.Bool.{ne_eqb}
use Rattle.values.specs.Values.{Row, null}
use Rattle.cli.specs.Layout.{text_of_row, row_at_text, gap, listed, byte_text, bytes_text}

row_is : (rs : List Row) (i : ℕ) → i < length rs → text_of_row (get_or rs i null) ≡ row_at_text rs i
row_is [] i h = absurd (omega arith)
row_is (r ∷ rs) zero h = refl
row_is (r ∷ rs) (suc i) h = row_is rs i (omega arith)

later : (xs : List Row) (r : Row) → listed false (xs ++ r ∷ []) ≡ listed false xs ++ (gap false ++ text_of_row r)
later [] r = append-nil (gap false ++ text_of_row r)
later (x ∷ xs) r = ap (λ t. (gap false ++ text_of_row x) ++ t) (later xs r) ∙ sym (append_assoc (gap false ++ text_of_row x) (listed false xs) (gap false ++ text_of_row r))

-- the rows up to the next one: what stands there already, the gap, the row
one_more : (rs : List Row) (i : ℕ) → i < length rs → listed true (take (i + 1) rs) ≡ listed true (take i rs) ++ (gap (eqb i 0) ++ text_of_row (get_or rs i null))
one_more [] i l = absurd (omega (arith, l))
one_more (r ∷ rs) zero l = append-nil (gap true ++ text_of_row r)
one_more (r ∷ rs) (suc i) l =
    ap (listed true) (take_more (r ∷ rs) (suc i) null l)
    ∙ ap (λ t. (gap true ++ text_of_row r) ++ t) (later (take i rs) (get_or rs i null))
    ∙ sym (append_assoc (gap true ++ text_of_row r) (listed false (take i rs)) (gap false ++ text_of_row (get_or rs i null)))
    ∙ ap (λ b. listed true (take (suc i) (r ∷ rs)) ++ (gap b ++ text_of_row (get_or rs i null))) (sym (ne_eqb (suc i) 0 (λ e. omega (arith, e))))

-- the same after the opening bracket
pub laid_on : (text before row after : List ℕ) (rs : List Row) (i : ℕ) → i < length rs → text ≡ before ++ listed true (take i rs) → row ≡ row_at_text rs i → after ≡ text ++ (gap (eqb i 0) ++ row) → after ≡ before ++ listed true (take (i + 1) rs)
laid_on text before row after rs i l t w a =
    a ∙ ap (λ x. text ++ (gap (eqb i 0) ++ x)) (w ∙ sym (row_is rs i l))
    ∙ ap (λ x. x ++ (gap (eqb i 0) ++ text_of_row (get_or rs i null))) t
    ∙ append_assoc before (listed true (take i rs)) (gap (eqb i 0) ++ text_of_row (get_or rs i null))
    ∙ ap (λ x. before ++ x) (sym (one_more rs i l))

-- after the last row the closing bracket
pub laid_out : (text before after closing : List ℕ) (rs : List Row) (i : ℕ) → length rs ≤ i → text ≡ before ++ listed true (take i rs) → after ≡ text ++ closing → after ≡ before ++ (listed true rs ++ closing)
laid_out text before after closing rs i l t a =
    a ∙ ap (λ x. x ++ closing) (t ∙ ap (λ x. before ++ listed true x) (take_all i rs l)) ∙ append_assoc before (listed true rs) closing

bytes_end : (bs : List ℕ) (b : ℕ) → bytes_text (bs ++ b ∷ []) ≡ bytes_text bs ++ byte_text b
bytes_end [] b = append-nil (byte_text b)
bytes_end (x ∷ bs) b = ap (λ t. byte_text x ++ t) (bytes_end bs b) ∙ sym (append_assoc (byte_text x) (bytes_text bs) (byte_text b))

-- one byte more between the quotes
pub byte_on : (text before after : List ℕ) (bs : List ℕ) (i : ℕ) → i < length bs → text ≡ before ++ bytes_text (take i bs) → after ≡ text ++ byte_text (get_or bs i 0) → after ≡ before ++ bytes_text (take (i + 1) bs)
byte_on text before after bs i l t a =
    a ∙ ap (λ x. x ++ byte_text (get_or bs i 0)) t
    ∙ append_assoc before (bytes_text (take i bs)) (byte_text (get_or bs i 0))
    ∙ ap (λ x. before ++ x) (sym (ap bytes_text (take_more bs i 0 l) ∙ bytes_end (take i bs) (get_or bs i 0)))

pub bytes_out : (text before after closing : List ℕ) (bs : List ℕ) (i : ℕ) → length bs ≤ i → text ≡ before ++ bytes_text (take i bs) → after ≡ text ++ closing → after ≡ before ++ (bytes_text bs ++ closing)
bytes_out text before after closing bs i l t a =
    a ∙ ap (λ x. x ++ closing) (t ∙ ap (λ x. before ++ bytes_text x) (take_all i bs l)) ∙ append_assoc before (bytes_text bs) closing
