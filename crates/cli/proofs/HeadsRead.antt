-- Heads read one after the other.
use Rattle.std.proofs.Common.{◌≡◌, ℕ, suc, ◌/◌, ◌%◌, ◌≤◌, true, false, ltb, List, [], ◌∷◌, ◌++◌, length, drop, Some, None, Option, refl, ap, ◌∙◌, ⊎_elim, append_assoc, arith, length-drop}
use Rattle.std.proofs.lemmas.Bool.{le-ltb, lt-ltb, cases_lt}
use Rattle.pages.specs.declared.heads.Head.{Head}
use Rattle.cli.specs.HeadFile.{front_head, head_in, heads_in}

abbrev of_some : {A : Type 0} → Option A → A → A
of_some (Some x) d = x
of_some None d = d

-- one head more
pub more_heads : (all : List Head) (done done' : List Head) (bs after : List ℕ) (h : Head) → 15 ≤ length bs → h ≡ head_in bs → after ≡ drop 15 bs → done' ≡ done ++ h ∷ []
    → all ≡ done ++ heads_in (length bs / 15) bs → all ≡ done' ++ heads_in (length after / 15) after
more_heads all done done' bs after h long is rest pushed so =
    let n : length bs / 15 ≡ suc (length (drop 15 bs) / 15) = simp length-drop (omega arith) in
    so ∙ rw (n, pushed, is, rest, append_assoc) refl

-- what a head at the front says of the bytes
pub front_long : (bs : List ℕ) (h : Head) (after : List ℕ) → Some (h, after) ≡ front_head bs → 15 ≤ length bs
front_long bs h after e =
    ⊎_elim (λ short. let z : ltb (length bs) 15 ≡ true = lt-ltb _ _ short in let n : ◌≡◌ {A = ℕ} 0 1 = cc (rw z at e) in absurd (omega arith)) (λ long. long)
    (cases_lt (length bs) 15)

pub front_is : (bs : List ℕ) (h : Head) (after : List ℕ) → Some (h, after) ≡ front_head bs → (h ≡ head_in bs) × (after ≡ drop 15 bs)
front_is bs h after e =
    let long : ltb (length bs) 15 ≡ false = le-ltb _ _ (front_long bs h after e) in
    let f = rw long at e in
    (ap (λ (o : Option (Head × List ℕ)). (of_some o (h, after)).0) f, ap (λ (o : Option (Head × List ℕ)). (of_some o (h, after)).1) f)

-- the bytes left over are as many
pub same_over : (n : ℕ) (bs after : List ℕ) → 15 ≤ length bs → after ≡ drop 15 bs → length bs % 15 ≡ n → length after % 15 ≡ n
same_over n bs after long rest so = rw rest (simp length-drop (omega arith))
