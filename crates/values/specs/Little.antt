-- Numbers written as bytes, the lowest byte first.
use Rattle.std.specs.Prelude.{ℕ, suc, ◌+◌, ◌-◌, ◌*◌, ◌^◌, cond, List, [], ◌∷◌, length, take, ℤ, pos, negsuc, nat_le, nat_lt}

-- bytes as one number
abbrev pub little : List ℕ → ℕ
little [] = 0
little (b ∷ bs) = b + 256 * little bs

-- two's complement of w bits: from half of 2 ^ w on, a number n stands for n - 2 ^ w
abbrev pub complement : ℕ → ℕ → ℤ
complement w n = cond (nat_lt n (2 ^ (w - 1))) (pos n) (negsuc (2 ^ w - suc n))

-- the signed number in the first k bytes; 0 where there are fewer
abbrev pub signed : ℕ → List ℕ → ℤ
signed k bs = cond (nat_le k (length bs)) (complement (8 * k) (little (take k bs))) (pos 0)

-- the unsigned number in the first k bytes; 0 where there are fewer
abbrev pub unsigned : ℕ → List ℕ → ℤ
unsigned k bs = cond (nat_le k (length bs)) (pos (little (take k bs))) (pos 0)
