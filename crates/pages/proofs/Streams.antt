use Rattle.std.proofs.Common.{◌≡◌, ℕ, zero, suc, ◌<◌, ◌≤◌, Bool, eqb, ltb, List, [], ◌∷◌, length, get_or, take, drop, Some, None, Option, refl, ap, arith, length-drop}
use Rattle.std.proofs.lemmas.Bool.{cond_both}
use Rattle.pages.specs.Delivered.{Delivered}
use Rattle.pages.specs.Commands.{Taken, broken, le32, flagged, by_flag, command, commands, streamed, dictionary_page_of, data_page_of}

-- no command leaves more bytes than stood behind it
abbrev Within : ℕ → Taken → Type 0
Within n t = length t.left ≤ n

broken_within : (k n : ℕ) → Within n (broken k)
broken_within k n = omega arith

flag_within : (f : Option Bool) (r e : ℕ) (body after : List ℕ) → Within (length after) (by_flag f r e body after)
flag_within None r e body after = omega arith
flag_within (Some f) r e body after = omega arith

dict_within : (e n m : ℕ) (bs : List ℕ) → length bs ≤ m → Within m (dictionary_page_of e n bs)
dict_within e n m bs h =
    cond_both (ltb (length bs) n) _ _ (Within m) (λ _. broken_within 2 m) (λ _. simp length-drop (omega arith))

data_within : (r e f n m : ℕ) (bs : List ℕ) → length bs ≤ m → Within m (data_page_of r e f n bs)
data_within r e f n m bs h =
    cond_both (ltb (length bs) n) _ _ (Within m) (λ _. broken_within 2 m)
    (λ _. let k = flag_within (flagged f) r e (take n bs) (drop n bs) in omega (arith, length-drop n bs))

left_within : (b : ℕ) (bs : List ℕ) → Within (length bs) (command (b ∷ bs))
left_within b bs =
    cond_both (eqb b 0x44) _ _ (Within (length bs))
    (λ _. cond_both (ltb (length (b ∷ bs)) 9) _ _ (Within (length bs)) (λ _. broken_within 2 _)
    (λ _. dict_within (le32 (b ∷ bs) 1) (le32 (b ∷ bs) 5) (length bs) (drop 8 bs) (simp length-drop (omega arith))))
    (λ _. cond_both (eqb b 0x50) _ _ (Within (length bs))
    (λ _. cond_both (ltb (length (b ∷ bs)) 11) _ _ (Within (length bs)) (λ _. broken_within 2 _)
    (λ _. data_within (le32 (b ∷ bs) 1) (get_or (b ∷ bs) 5 0) (get_or (b ∷ bs) 6 0) (le32 (b ∷ bs) 7) (length bs) (drop 10 bs) (simp length-drop (omega arith))))
    (λ _. broken_within 1 _))

-- more turns than bytes change nothing
commands_more : (n m : ℕ) (bs : List ℕ) → length bs ≤ n → length bs ≤ m → commands n bs ≡ commands m bs
commands_more zero zero bs h k = refl
commands_more zero (suc m) [] h k = refl
commands_more zero (suc m) (b ∷ bs) h k = absurd (omega arith)
commands_more (suc n) zero [] h k = refl
commands_more (suc n) zero (b ∷ bs) h k = absurd (omega arith)
commands_more (suc n) (suc m) [] h k = refl
commands_more (suc n) (suc m) (b ∷ bs) h k =
    let w = left_within b bs in
    ap (λ (ds : List Delivered). (command (b ∷ bs)).what ∷ ds)
    (commands_more n m (command (b ∷ bs)).left (omega arith) (omega arith))

-- the first delivery is the first command's, and the others are those of the bytes after it
pub streamed_step : (bs : List ℕ) → 0 < length bs → streamed bs ≡ (command bs).what ∷ streamed (command bs).left
streamed_step [] h = absurd (omega arith)
streamed_step (b ∷ bs) h =
    let w = left_within b bs in
    ap (λ (ds : List Delivered). (command (b ∷ bs)).what ∷ ds)
    (commands_more (length bs) (length (command (b ∷ bs)).left) (command (b ∷ bs)).left (omega arith) (omega arith))
