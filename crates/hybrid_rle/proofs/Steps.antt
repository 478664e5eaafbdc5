-- The run that is read, in the terms that the code has.
use Rattle.std.proofs.Common.{◌≡◌, ℕ, ◌/◌, ◌%◌, true, false, cond, eqb, List, drop, Ok, sym, refl, ap, ◌∙◌, arith}
use Rattle.std.proofs.lemmas.Bool.Decides.{nat_tests}
use Rattle.hybrid_rle.specs.Header.{header}
use Rattle.hybrid_rle.specs.Runs.{packed_in, repeated_in, run_of, run}

module _ (w h k : ℕ) (bs body : List ℕ) (is : Ok (h, k) ≡ header bs) (rest : body ≡ drop k bs) where
  opened : run w bs ≡ cond (eqb (h % 2) 1) (packed_in (h / 2) w body) (repeated_in (h / 2) w body)
  opened = ap (run_of w bs) (sym is) ∙ rw (sym rest) refl

  pub odd_run : h % 2 ≡ 1 → packed_in (h / 2) w body ≡ run w bs
  odd_run o = let a : eqb (h % 2) 1 ≡ true = grind (arith, nat_tests) in rw (opened, a) refl

  pub even_run : (h % 2 ≡ 1 → ⊥) → repeated_in (h / 2) w body ≡ run w bs
  even_run o = let a : eqb (h % 2) 1 ≡ false = grind (arith, nat_tests) in rw (opened, a) refl
