-- What each call keeps of a read reached from a fresh one.
use Rattle.std.proofs.Common.{◌≡◌, ℕ, ◌+◌, ◌-◌, ◌^◌, ◌≤◌, Bool, true, false, ◌⊎◌, List, [], ◌∷◌, ◌++◌, length, take, None, sym, refl, ap, ◌∙◌, subst, inl, inr, ⊎_elim, arith, length-append, length-take}
use Rattle.std.proofs.lemmas.List.{nil_from_length}
use Rattle.values.specs.Values.{stands}
use Rattle.pages.specs.Delivered.{Delivered}
use Rattle.model.specs.Model.{Column, Setup, Phase, Filling, Ready, Ended, Closed, Read, chunk, Answer, Event, Next, Take, RowAt, Close, Steps, wrong_rows, small_room, small_space, at_limit, fills, uses_up, gives, last_chunk, no_more, Step, Run, Matches, fitting, fresh, AllPresent, bits_for, bits_due}
use Rattle.model.proofs.Rows.{length_rows, length_stands, length_bits, rows_appended, present_take, present_drop, verdict_full}

-- no row will come any more
abbrev pub Done : Read → Type 0
Done s = (s.remaining ≡ 0) ⊎ ((s.unused ≡ []) × (s.source ≡ []))

abbrev pub Placed : Setup → Read → Phase → Type 0
Placed u s Filling = s.remaining ≡ 0 → s.pending ≡ 0
Placed u s Ready = (s.pending ≡ u.size) ⊎ Done s
Placed u s Ended = (s.pending ≡ 0) × Done s
Placed u s Closed = (s.pending ≡ 0) × Done s

pub record Kept (column : Column) (u : Setup) (s : Read) : Type 0 where
  pub matches : Matches column s
  pub full : column.optional ≡ false → AllPresent s.unused
  pub within : s.pending ≤ u.size
  pub few : s.counted ≤ 2 ^ 64 - 1
  pub place : Placed u s s.phase

pub placed : (k : Column) (u : Setup) (s : Read) (p : Phase) → Kept k u s → s.phase ≡ p → Placed u s p
placed column u s p k e = subst (Placed u s) e k.place

no_due : (o : Bool) → bits_due o 0 ≡ 0
no_due true = refl
no_due false = refl

due_more : (o : Bool) (m n : ℕ) → bits_due o m + bits_due o n ≡ bits_due o (m + n)
due_more true m n = refl
due_more false m n = refl

pub kept_fresh : (k : Column) (u : Setup) (limit : ℕ) (ds : List Delivered) → Kept k u (fresh limit ds)
kept_fresh k u limit ds = record { matches = record { rows = refl; bits = sym (no_due k.optional) }; full = λ _. tt; within = omega arith; few = omega arith; place = λ _. refl }

-- the rows pending are as many as the read's number
pub counts : (k : Column) (u : Setup) (s : Read) → Kept k u s → length (chunk s) ≡ s.pending
counts column u s k = length_rows s.values s.bits ∙ k.matches.rows

pub empties : (k : Column) (u : Setup) (s : Read) → Kept k u s → s.pending ≡ 0 → chunk s ≡ []
empties column u s k e = nil_from_length _ (counts column u s k ∙ e)

module _ (column : Column) (u : Setup) where
  length_then : (s : Read) → length s.values ≡ s.pending → length (s.values ++ stands u.blank (take (fitting u s) s.unused)) ≡ s.pending + fitting u s
  length_then s e = simp (length-append, length_stands, length-take) (omega arith)

  bits_then : (s : Read) → length s.bits ≡ bits_due column.optional s.pending
      → length (s.bits ++ bits_for column.optional (take (fitting u s) s.unused)) ≡ bits_due column.optional (s.pending + fitting u s)
  bits_then s e =
      let o = column.optional in
      let xs = take (fitting u s) s.unused in
      let n : length xs ≡ fitting u s = simp length-take (omega arith) in
      length-append s.bits (bits_for o xs) ∙ ap (λ m. length s.bits + m) (length_bits o xs ∙ ap (bits_due o) n)
      ∙ ap (λ m. m + bits_due o (fitting u s)) e ∙ due_more o s.pending (fitting u s)

  -- the rows pending after an append
  pub chunk_then : (s : Read) → Kept column u s
      → chunk (record { phase = s.phase; remaining = 0; pending = 0; handed = 0; counted = 0; unused = []; held = None; source = []; values = s.values ++ stands u.blank (take (fitting u s) s.unused); bits = s.bits ++ bits_for column.optional (take (fitting u s) s.unused) })
      ≡ chunk s ++ take (fitting u s) s.unused
  chunk_then s k =
      rows_appended column.optional u.blank s.values s.bits (take (fitting u s) s.unused)
      (k.matches.bits ∙ ap (bits_due column.optional) (sym k.matches.rows)) (λ e. present_take (fitting u s) s.unused (k.full e))

  kept_next : (s : Read) (a : Answer) (t : Read) → Kept column u s → s.phase ≡ Filling → Steps column u s a t → Kept column u t
  kept_next s a t k e (wrong_rows h) = k
  kept_next s a t k e (small_room h g) = k
  kept_next s a t k e (small_space h g l) = k
  kept_next s a t k e (at_limit h z) = record { matches = record { rows = k.matches.rows; bits = k.matches.bits }; full = k.full; within = k.within; few = k.few; place = (placed column u s Filling k e z, inl z) }
  kept_next s a t k e (fills h g l f) = record { matches = record { rows = length_then s k.matches.rows; bits = bits_then s k.matches.bits }; full = λ q. present_drop (fitting u s) s.unused (k.full q); within = omega (arith, k.within); few = k.few; place = ⊎_elim (λ z. inl z) (λ z. inr (inl z)) f }
  kept_next s a t k e (uses_up h g l f) = record { matches = record { rows = length_then s k.matches.rows; bits = bits_then s k.matches.bits }; full = λ q. present_drop (fitting u s) s.unused (k.full q); within = omega (arith, k.within); few = k.few; place = λ z. absurd (f (inr z)) }
  kept_next s a t k e (gives h g d ds q) = record { matches = record { rows = k.matches.rows; bits = k.matches.bits }; full = λ z. verdict_full column z s.held d; within = k.within; few = omega arith; place = λ z. absurd (omega (arith, g.wanted)) }
  kept_next s a t k e (last_chunk h g q n) = record { matches = record { rows = k.matches.rows; bits = k.matches.bits }; full = k.full; within = k.within; few = k.few; place = inr (inr (g.none, q)) }
  kept_next s a t k e (no_more h g q n) = record { matches = record { rows = k.matches.rows; bits = k.matches.bits }; full = k.full; within = k.within; few = k.few; place = (n, inr (g.none, q)) }

  pub kept_step : (s : Read) (e : Event) (t : Read) → Kept column u s → Step column u s e t → Kept column u t
  kept_step s (Next a) t k h = kept_next s a t k h.0 h.1
  kept_step s (Take rs) t k h =
      subst (Kept column u) (sym h.2) (record { matches = record { rows = refl; bits = sym (no_due column.optional) }; full = k.full; within = omega arith; few = k.few; place = λ _. refl })
  kept_step s (RowAt i o) t k h = subst (Kept column u) (sym h.2) k
  kept_step s (Close n g) t k h =
      subst (Kept column u) (sym h.3) (record { matches = record { rows = k.matches.rows; bits = k.matches.bits }; full = k.full; within = k.within; few = k.few; place = placed column u s Ended k h.0 })

  pub kept_run : (es : List Event) (s t : Read) → Kept column u s → Run column u s es t → Kept column u t
  kept_run [] s t k h = subst (Kept column u) h k
  kept_run (e ∷ es) s t k h = kept_run es h.0 t (kept_step s e h.0 k h.1) h.2
