use Rattle.std.proofs.Common.{◌≡◌, ℕ, zero, suc, ◌-◌, ◌<◌, Bool, true, false, ltb, List, [], ◌∷◌, length, take, ⊎_elim, arith, length-take}
use Rattle.std.proofs.lemmas.Bool.{le-ltb, lt-ltb, cases_lt}
use Rattle.pages.specs.Delivered.{page, dict, fault}
use Rattle.pages.specs.Commands.{broken, command, streamed}
use Rattle.pages.specs.Written.{written, CutShortIs2}
use Rattle.pages.proofs.Streams.{streamed_step}
use Rattle.pages.proofs.Writes.{from_bytes}

module _ (rows encoding : ℕ) (flag : Bool) (body : List ℕ) where
  abbrev w : List ℕ
  w = written (page rows encoding flag body)

  page_early : (k : ℕ) → 0 < k → k < 11 → command (take k w) ≡ broken 2
  page_early zero h l = absurd (omega arith)
  page_early (suc k) h l =
      let short : ltb (length (take (suc k) w)) 11 ≡ true = lt-ltb _ _ (simp length-take (omega arith)) in rw short

  page_late : (j : ℕ) → j < length body
      → command (take (suc (suc (suc (suc (suc (suc (suc (suc (suc (suc (suc j))))))))))) w) ≡ broken 2
  page_late j h =
      let long : ltb (length (take (suc (suc (suc (suc (suc (suc (suc (suc (suc (suc (suc j))))))))))) w)) 11 ≡ false
      = le-ltb _ _ (omega arith) in
      let cut : ltb (length (take j body)) (length body) ≡ true = lt-ltb _ _ (simp length-take (omega arith)) in
      rw (long, from_bytes (length body), cut)

  page_cut : (k : ℕ) → 0 < k → k < length w → command (take k w) ≡ broken 2
  page_cut k h l =
      ⊎_elim (page_early k h)
      (λ far.
      let j = k - 11 in
      let is : k ≡ suc (suc (suc (suc (suc (suc (suc (suc (suc (suc (suc j)))))))))) = omega arith in
      rw is (page_late j (omega arith)))
      (cases_lt k 11)

module _ (entries : ℕ) (body : List ℕ) where
  abbrev v : List ℕ
  v = written (dict entries body)

  dict_early : (k : ℕ) → 0 < k → k < 9 → command (take k v) ≡ broken 2
  dict_early zero h l = absurd (omega arith)
  dict_early (suc k) h l =
      let short : ltb (length (take (suc k) v)) 9 ≡ true = lt-ltb _ _ (simp length-take (omega arith)) in rw short

  dict_late : (j : ℕ) → j < length body → command (take (suc (suc (suc (suc (suc (suc (suc (suc (suc j))))))))) v) ≡ broken 2
  dict_late j h =
      let long : ltb (length (take (suc (suc (suc (suc (suc (suc (suc (suc (suc j))))))))) v)) 9 ≡ false
      = le-ltb _ _ (omega arith) in
      let cut : ltb (length (take j body)) (length body) ≡ true = lt-ltb _ _ (simp length-take (omega arith)) in
      rw (long, from_bytes (length body), cut)

  dict_cut : (k : ℕ) → 0 < k → k < length v → command (take k v) ≡ broken 2
  dict_cut k h l =
      ⊎_elim (dict_early k h)
      (λ far.
      let j = k - 9 in
      let is : k ≡ suc (suc (suc (suc (suc (suc (suc (suc (suc j)))))))) = omega arith in
      rw is (dict_late j (omega arith)))
      (cases_lt k 9)

one_fault : (bs : List ℕ) → 0 < length bs → command bs ≡ broken 2 → streamed bs ≡ fault 2 ∷ []
one_fault bs h e = rw (streamed_step bs h, e)

pub cut_short_is_2 : CutShortIs2
cut_short_is_2 (page rows encoding flag body) k h more less =
    one_fault (take k (written (page rows encoding flag body))) (simp length-take (omega arith)) (page_cut rows encoding flag body k more less)
cut_short_is_2 (dict entries body) k h more less =
    one_fault (take k (written (dict entries body))) (simp length-take (omega arith)) (dict_cut entries body k more less)
cut_short_is_2 (fault n) k h more less = absurd h
