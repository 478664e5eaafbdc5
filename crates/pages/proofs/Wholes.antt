-- A stream taken apart into whole commands and what stands behind them.
use Rattle.std.proofs.Common.{◌≡◌, ℕ, zero, suc, ◌+◌, ◌/◌, ◌%◌, ◌<◌, ◌≤◌, Bool, true, false, eqb, ltb, ◌⊎◌, List, [], ◌∷◌, ◌++◌, length, get_or, take, drop, Option, sym, refl, ap, ◌∙◌, inl, inr, ⊎_elim, append_assoc, arith, length-append, take-append-drop, length-take, drop-cons, ltb-false, eqb-true}
use Rattle.std.proofs.lemmas.Bool.{cond_both}
use Rattle.pages.specs.Delivered.{Delivered, page, dict, fault}
use Rattle.pages.specs.Commands.{Taken, broken, le32, flagged, by_flag, command, streamed, dictionary_page_of, data_page_of}
use Rattle.pages.specs.Written.{written, Writable, all_written, flag_byte}
use Rattle.pages.specs.Whole.{Bytes, TakenApart, WholeThenOneFault}
use Rattle.pages.proofs.Streams.{streamed_step}

byte_at : (bs : List ℕ) → Bytes bs → (i : ℕ) → get_or bs i 0 < 256
byte_at [] h i = omega arith
byte_at (b ∷ bs) h zero = h.0
byte_at (b ∷ bs) h (suc i) = byte_at bs h.1 i

bytes_drop : (n : ℕ) (bs : List ℕ) → Bytes bs → Bytes (drop n bs)
bytes_drop zero bs h = h
bytes_drop (suc n) [] h = tt
bytes_drop (suc n) (b ∷ bs) h = bytes_drop n bs h.1

-- k elements from i on, one by one, and those after them
abbrev fronts : ℕ → ℕ → List ℕ → List ℕ
fronts i zero bs = drop i bs
fronts i (suc k) bs = get_or bs i 0 ∷ fronts (suc i) k bs

drop_fronts : (k i : ℕ) (bs : List ℕ) → i + k ≤ length bs → drop i bs ≡ fronts i k bs
drop_fronts zero i bs h = refl
drop_fronts (suc k) i bs h =
    drop-cons bs i 0 (omega arith) ∙ ap (λ (t : List ℕ). get_or bs i 0 ∷ t) (drop_fronts k (suc i) bs (omega arith))

-- the first command is a whole page, which was written to the front of the bytes
pub record Whole (bs : List ℕ) (t : Taken) : Type 0 where
  pub writable : Writable t.what
  pub bytes : bs ≡ written t.what ++ t.left
  pub later : Bytes t.left

-- or a fault, behind which nothing is left
pub record Faulty (t : Taken) : Type 0 where
  pub number : ℕ
  pub low : 1 ≤ number
  pub high : number ≤ 3
  pub is : t ≡ broken number

abbrev Either : List ℕ → Taken → Type 0
Either bs t = Whole bs t ⊎ Faulty t

faulty : (bs : List ℕ) (k : ℕ) → 1 ≤ k → k ≤ 3 → Either bs (broken k)
faulty bs k l h = inr (record { number = k; low = l; high = h; is = refl })

module _ (bs : List ℕ) (all : Bytes bs) where
  le32_fits : (i : ℕ) → le32 bs i < 4294967296
  le32_fits i =
      let a = byte_at bs all i in
      let b = byte_at bs all (i + 1) in
      let c = byte_at bs all (i + 2) in
      let d = byte_at bs all (i + 3) in
      omega arith

  -- the four bytes of a number are those that it was read from
  pub record Four (i : ℕ) : Type 0 where
    pub a : le32 bs i % 256 ≡ get_or bs i 0
    pub b : le32 bs i / 256 % 256 ≡ get_or bs (i + 1) 0
    pub c : le32 bs i / 256 / 256 % 256 ≡ get_or bs (i + 2) 0
    pub d : le32 bs i / 256 / 256 / 256 ≡ get_or bs (i + 3) 0

  four : (i : ℕ) → Four i
  four i =
      let a = byte_at bs all i in
      let b = byte_at bs all (i + 1) in
      let c = byte_at bs all (i + 2) in
      let d = byte_at bs all (i + 3) in
      record { a = omega arith; b = omega arith; c = omega arith; d = omega arith }

  dict_whole : get_or bs 0 0 ≡ 0x44 → 9 ≤ length bs → le32 bs 5 ≤ length (drop 9 bs)
      → Whole bs (record { what = dict (le32 bs 1) (take (le32 bs 5) (drop 9 bs)); left = drop (le32 bs 5) (drop 9 bs) })
  dict_whole first long fits =
      let n = le32 bs 5 in
      let r = drop 9 bs in
      let size : length (take n r) ≡ n = simp length-take (omega arith) in
      let e = four 1 in
      let l = four 5 in
      let split = drop_fronts 9 0 bs long in
      let rest = take-append-drop n r in
      record {
        writable = (le32_fits 1, rw size (le32_fits 5));
        bytes = rw size (cc (split, first, rest, e.a, e.b, e.c, e.d, l.a, l.b, l.c, l.d));
        later = bytes_drop n r (bytes_drop 9 bs all);
      }

  data_whole : (f : Bool) → get_or bs 0 0 ≡ 0x50 → get_or bs 6 0 ≡ flag_byte f → 11 ≤ length bs → le32 bs 7 ≤ length (drop 11 bs)
      → Whole bs (record { what = page (le32 bs 1) (get_or bs 5 0) f (take (le32 bs 7) (drop 11 bs)); left = drop (le32 bs 7) (drop 11 bs) })
  data_whole f first flag long fits =
      let n = le32 bs 7 in
      let r = drop 11 bs in
      let size : length (take n r) ≡ n = simp length-take (omega arith) in
      let e = four 1 in
      let l = four 7 in
      let split = drop_fronts 11 0 bs long in
      let rest = take-append-drop n r in
      record {
        writable = (le32_fits 1, rw size (le32_fits 7));
        bytes = rw size (cc (split, first, flag, rest, e.a, e.b, e.c, e.d, l.a, l.b, l.c, l.d));
        later = bytes_drop n r (bytes_drop 11 bs all);
      }

  dict_either : get_or bs 0 0 ≡ 0x44 → 9 ≤ length bs → Either bs (dictionary_page_of (le32 bs 1) (le32 bs 5) (drop 9 bs))
  dict_either first long =
      cond_both (ltb (length (drop 9 bs)) (le32 bs 5)) _ _ (Either bs) (λ _. faulty bs 2 (omega arith) (omega arith))
      (λ e. inl (dict_whole first long (ltb-false _ _ e)))

  flag_either : get_or bs 0 0 ≡ 0x50 → 11 ≤ length bs → le32 bs 7 ≤ length (drop 11 bs)
      → Either bs (by_flag (flagged (get_or bs 6 0)) (le32 bs 1) (get_or bs 5 0) (take (le32 bs 7) (drop 11 bs)) (drop (le32 bs 7) (drop 11 bs)))
  flag_either first long fits =
      let P : Option Bool → Type 0
      = λ o. Either bs (by_flag o (le32 bs 1) (get_or bs 5 0) (take (le32 bs 7) (drop 11 bs)) (drop (le32 bs 7) (drop 11 bs))) in
      cond_both (eqb (get_or bs 6 0) 0) _ _ P (λ e. inl (data_whole false first (eqb-true _ _ e) long fits))
      (λ _. cond_both (eqb (get_or bs 6 0) 1) _ _ P (λ e. inl (data_whole true first (eqb-true _ _ e) long fits))
      (λ _. faulty bs 3 (omega arith) (omega arith)))

  data_either : get_or bs 0 0 ≡ 0x50 → 11 ≤ length bs
      → Either bs (data_page_of (le32 bs 1) (get_or bs 5 0) (get_or bs 6 0) (le32 bs 7) (drop 11 bs))
  data_either first long =
      cond_both (ltb (length (drop 11 bs)) (le32 bs 7)) _ _ (Either bs) (λ _. faulty bs 2 (omega arith) (omega arith))
      (λ e. flag_either first long (ltb-false _ _ e))

  command_either : Either bs (command bs)
  command_either =
      cond_both (eqb (get_or bs 0 0) 0x44) _ _ (Either bs)
      (λ first. cond_both (ltb (length bs) 9) _ _ (Either bs) (λ _. faulty bs 2 (omega arith) (omega arith))
      (λ e. dict_either (eqb-true _ _ first) (ltb-false _ _ e)))
      (λ _. cond_both (eqb (get_or bs 0 0) 0x50) _ _ (Either bs)
      (λ first. cond_both (ltb (length bs) 11) _ _ (Either bs) (λ _. faulty bs 2 (omega arith) (omega arith))
      (λ e. data_either (eqb-true _ _ first) (ltb-false _ _ e)))
      (λ _. faulty bs 1 (omega arith) (omega arith)))

-- one page before what was taken apart
one_more : (bs : List ℕ) → 0 < length bs → Whole bs (command bs) → TakenApart (command bs).left → TakenApart bs
one_more bs some w t =
    let d = (command bs).what in
    record {
      pages = d ∷ t.pages;
      rest = t.rest;
      writable = (w.writable, t.writable);
      bytes = w.bytes ∙ ap (λ (xs : List ℕ). written d ++ xs) t.bytes ∙ sym (append_assoc (written d) (all_written t.pages) t.rest);
      gives = streamed_step bs some ∙ ap (λ (xs : List Delivered). d ∷ xs) t.gives;
      last = t.last;
    }

-- a stream that begins with a fault has no page before it
no_more : (bs : List ℕ) → 0 < length bs → Faulty (command bs) → TakenApart bs
no_more bs some f =
    let gives : streamed bs ≡ fault f.number ∷ [] = rw (streamed_step bs some, f.is) in
    record {
      pages = [];
      rest = bs;
      writable = tt;
      bytes = refl;
      gives = refl;
      last = inr (record { number = f.number; low = f.low; high = f.high; gives = gives });
    }

written_some : (d : Delivered) → Writable d → 0 < length (written d)
written_some (page rows encoding flag body) h = omega arith
written_some (dict entries body) h = omega arith
written_some (fault n) h = absurd h

-- a whole command leaves fewer bytes
fewer : (bs : List ℕ) → (w : Whole bs (command bs)) → length (command bs).left < length bs
fewer bs w =
    let some = written_some (command bs).what w.writable in
    omega (arith, simp length-append at (ap length w.bytes))

apart_by : (n : ℕ) (bs : List ℕ) → length bs ≤ n → Bytes bs → TakenApart bs
apart_by n [] h all = record { pages = []; rest = []; writable = tt; bytes = refl; gives = refl; last = inl refl }
apart_by zero (b ∷ bs) h all = absurd (omega arith)
apart_by (suc n) (b ∷ bs) h all =
    ⊎_elim
    (λ w. let f = fewer (b ∷ bs) w in
    one_more (b ∷ bs) (omega arith) w (apart_by n (command (b ∷ bs)).left (omega arith) w.later))
    (no_more (b ∷ bs) (omega arith))
    (command_either (b ∷ bs) all)

pub whole_then_one_fault : WholeThenOneFault
whole_then_one_fault bs all = apart_by (length bs) bs (omega arith) all
