-- The text of a row, from what a sink and its validity answer.
use Rattle.std.proofs.Common.{◌≡◌, ℕ, zero, suc, ◌+◌, ◌<◌, ◌≤◌, Bool, true, false, cond, List, [], ◌∷◌, length, get_or, ℤ, IfOk, IfSome, Some, None, Ok, Err, codes, Option, Result, refl, ap, ◌∙◌, arith}
use Rattle.std.specs.Fmt.{signed_decimal}
use Rattle.values.specs.Values.{Value, number, flag, bytes, a_number, a_flag, seen_as, seen_at, weight, rows_in, bit_at}
use Rattle.cli.specs.Layout.{text_of_value, text_of_flag, text_at, row_at_text}

number_first : (p : ℕ) (v : Value) (z : ℤ) → Some (seen_as p v) ≡ Some (a_number z) → text_of_value v ≡ signed_decimal z
number_first p (number n) z e = let s : n ≡ z = cc in ap signed_decimal s
number_first p (flag b) z e = let n : ◌≡◌ {A = ℕ} 0 1 = cc in absurd (omega arith)
number_first p (bytes bs) z e = let n : ◌≡◌ {A = ℕ} 0 1 = cc in absurd (omega arith)

flag_first : (p : ℕ) (v : Value) (b : Bool) → Some (seen_as p v) ≡ Some (a_flag b) → text_of_value v ≡ text_of_flag b
flag_first p (number n) b e = let n : ◌≡◌ {A = ℕ} 0 1 = cc in absurd (omega arith)
flag_first p (flag f) b e = let s : f ≡ b = cc in ap text_of_flag s
flag_first p (bytes bs) b e = let n : ◌≡◌ {A = ℕ} 0 1 = cc in absurd (omega arith)

pub shown_none : (p : ℕ) (vs : List Value) (i : ℕ) → None ≡ seen_at p vs i → [] ≡ text_at vs i
shown_none p [] i e = refl
shown_none p (v ∷ vs) zero e = let n : ◌≡◌ {A = ℕ} 0 1 = cc in absurd (omega arith)
shown_none p (v ∷ vs) (suc i) e = shown_none (p + weight v) vs i e

pub shown_number : (p : ℕ) (vs : List Value) (i : ℕ) (z : ℤ) → seen_at p vs i ≡ Some (a_number z) → text_at vs i ≡ signed_decimal z
shown_number p [] i z e = let n : ◌≡◌ {A = ℕ} 0 1 = cc in absurd (omega arith)
shown_number p (v ∷ vs) zero z e = number_first p v z e
shown_number p (v ∷ vs) (suc i) z e = shown_number (p + weight v) vs i z e

pub shown_flag : (p : ℕ) (vs : List Value) (i : ℕ) (b : Bool) → seen_at p vs i ≡ Some (a_flag b) → text_at vs i ≡ text_of_flag b
shown_flag p [] i b e = let n : ◌≡◌ {A = ℕ} 0 1 = cc in absurd (omega arith)
shown_flag p (v ∷ vs) zero b e = flag_first p v b e
shown_flag p (v ∷ vs) (suc i) b e = shown_flag (p + weight v) vs i b e

pub shown_at : (vs : List Value) (i : ℕ) (d : Value) → i < length vs → text_at vs i ≡ text_of_value (get_or vs i d)
shown_at [] i d h = absurd (omega arith)
shown_at (v ∷ vs) zero d h = refl
shown_at (v ∷ vs) (suc i) d h = shown_at vs i d (omega arith)

pub shown_past : (vs : List Value) (i : ℕ) → length vs ≤ i → [] ≡ text_at vs i
shown_past [] i h = refl
shown_past (v ∷ vs) zero h = absurd (omega arith)
shown_past (v ∷ vs) (suc i) h = shown_past vs i (omega arith)

-- a row whose bit is 1 is its value, one whose bit is 0 is null
pub shown_row : (vs : List Value) (bs : List Bool) (i : ℕ) → i < length vs → row_at_text (rows_in vs bs) i ≡ cond (bit_at bs i) (text_at vs i) (codes "null")
shown_row [] bs i h = absurd (omega arith)
shown_row (v ∷ vs) [] zero h = refl
shown_row (v ∷ vs) [] (suc i) h = shown_row vs [] i (omega arith)
shown_row (v ∷ vs) (true ∷ bs) zero h = refl
shown_row (v ∷ vs) (false ∷ bs) zero h = refl
shown_row (v ∷ vs) (b ∷ bs) (suc i) h = shown_row vs bs i (omega arith)

-- a text that was made, by another word for what it is
pub made_as : {S E : Type 0} (f : S → List ℕ) (r : Result S E) (a b : List ℕ) → IfOk r (λ s. f s ≡ a) → a ≡ b → IfOk r (λ s. f s ≡ b)
made_as f (Ok s) a b h e = h ∙ e
made_as f (Err x) a b h e = tt

-- what a value prints, where it is known
pub printed_as : {S E : Type 0} (f : S → List ℕ) (r : Result S E) (o : Option (List ℕ)) (a b : List ℕ) → IfOk r (λ s. IfSome o (λ bs. f s ≡ bs)) → o ≡ Some a → a ≡ b → IfOk r (λ s. f s ≡ b)
printed_as f (Ok s) (Some t) a b h e k = let z : t ≡ a = cc in h ∙ z ∙ k
printed_as f (Ok s) None a b h e k = let n : ◌≡◌ {A = ℕ} 0 1 = cc in absurd (omega arith)
printed_as f (Err x) o a b h e k = tt
