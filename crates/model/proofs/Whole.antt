-- The laws of whole runs.
use Rattle.std.proofs.Common.{◌≡◌, ℕ, zero, suc, ◌+◌, ◌-◌, ◌*◌, ◌≤◌, List, [], ◌∷◌, ◌++◌, length, take, None, Option, sym, refl, ap, ◌∙◌, ⊎_elim, append_assoc, append-nil, arith, length-append, length-take}
use Rattle.std.proofs.lemmas.List.{take_at, take_all}
use Rattle.model.specs.Model.{Column, Setup, Phase, Filling, Ready, Ended, Closed, Read, chunk, verdict, Event, Next, Take, RowAt, Close, Step, Run, fresh, sound_rows, held_after, rows_of, Dict}
use Rattle.model.specs.Laws.{handed_out, unrefused, is_chunk, tally, EachClose, Over, given, Accounts, RowsAccounted, RowsExtend, NextsBounded, WholeRead}
use Rattle.values.specs.Values.{Row}
use Rattle.pages.specs.Delivered.{Delivered}
use Rattle.model.proofs.Keeps.{Kept, Placed, Done, kept_fresh, kept_run, empties}
use Rattle.model.proofs.Seen.{rows_seen}
use Rattle.model.proofs.Moves.{Moved, moved_run, future, over}
use Rattle.model.proofs.Chunks.{full_run}

-- closes

each_close_map : (P Q : ℕ → ℕ → Type 0) → ((h g : ℕ) → P h g → Q h g) → (es : List Event) → EachClose P es → EachClose Q es
each_close_map P Q f [] p = tt
each_close_map P Q f (Next a ∷ es) p = each_close_map P Q f es p
each_close_map P Q f (Take rs ∷ es) p = each_close_map P Q f es p
each_close_map P Q f (RowAt i o ∷ es) p = each_close_map P Q f es p
each_close_map P Q f (Close h g ∷ es) p = (f h g p.0, each_close_map P Q f es p.1)

closed_filling : {p : Phase} → p ≡ Closed → p ≡ Filling → ⊥
closed_filling e f = let z : ◌≡◌ {A = ℕ} 0 1 = cc in omega arith

closed_ready : {p : Phase} → p ≡ Closed → p ≡ Ready → ⊥
closed_ready e f = let z : ◌≡◌ {A = ℕ} 0 1 = cc in omega arith

closed_ended : {p : Phase} → p ≡ Closed → p ≡ Ended → ⊥
closed_ended e f = let z : ◌≡◌ {A = ℕ} 0 1 = cc in omega arith

over_few : (p : Phase) → over p ≤ 1
over_few Filling = omega arith
over_few Ready = omega arith
over_few Ended = omega arith
over_few Closed = omega arith

-- the first of two lists begins the second where it is cut no later
take_begins : {X : Type 0} (m n : ℕ) (xs ys : List X) → m ≤ n → (rest : List X) × (take n (xs ++ ys) ≡ take m xs ++ rest)
take_begins zero n xs ys h = (take n (xs ++ ys), refl)
take_begins (suc m) n [] ys h = (take n ys, refl)
take_begins (suc m) zero (x ∷ xs) ys h = absurd (omega arith)
take_begins (suc m) (suc n) (x ∷ xs) ys h =
    let r = take_begins m n xs ys (omega arith) in
    (r.0, ap (λ zs. x ∷ zs) r.1)

module _ (column : Column) where
  no_call : (u : Setup) (s : Read) (e : Event) (t : Read) → s.phase ≡ Closed → Step column u s e t → ⊥
  no_call u s (Next a) t c h = closed_filling c h.0
  no_call u s (Take rs) t c h = closed_ready c h.0
  no_call u s (RowAt i o) t c h = ⊎_elim (closed_filling c) (closed_ready c) h.0
  no_call u s (Close n g) t c h = closed_ended c h.0

  -- after close there is no call
  last_close : (u : Setup) (es : List Event) (s t : Read) → s.phase ≡ Closed → Run column u s es t → s ≡ t
  last_close u [] s t c r = r
  last_close u (e ∷ es) s t c r = absurd (no_call u s e r.0 c r.1)

  closes : (u : Setup) (es : List Event) (s t : Read) → Run column u s es t → EachClose (λ h g. (h ≡ t.handed) × (g ≡ t.counted)) es
  closes u [] s t r = tt
  closes u (Next a ∷ es) s t r = closes u es r.0 t r.2
  closes u (Take rs ∷ es) s t r = closes u es r.0 t r.2
  closes u (RowAt i o ∷ es) s t r = closes u es r.0 t r.2
  closes u (Close h g ∷ es) s t r =
      let end : r.0 ≡ t = last_close u es r.0 t (ap (λ (x : Read). x.phase) r.1.3) r.2 in
      let same = sym r.1.3 ∙ end in
      ((r.1.1 ∙ ap (λ (x : Read). x.handed) same, r.1.2 ∙ ap (λ (x : Read). x.counted) same), closes u es r.0 t r.2)

  sound_begins : (h : Option Dict) (ds more : List Delivered) → (rest : List Row) × (sound_rows column h (ds ++ more) ≡ sound_rows column h ds ++ rest)
  sound_begins h [] more = (sound_rows column h more, refl)
  sound_begins h (d ∷ ds) more =
      let v = verdict column h d in
      let r = sound_begins (held_after v h) ds more in
      (r.0, ap (λ xs. rows_of v ++ xs) r.1 ∙ sym (append_assoc (rows_of v) (sound_rows column (held_after v h) ds) r.0))

  at_end : (u : Setup) (t : Read) (p : Phase) → Over p → Placed u t p → (t.pending ≡ 0) × Done t
  at_end u t Filling o h = absurd o
  at_end u t Ready o h = absurd o
  at_end u t Ended o h = h
  at_end u t Closed o h = h

  module _ (u : Setup) (limit : ℕ) (ds : List Delivered) (es : List Event) (t : Read) (run : Run column u (fresh limit ds) es t) where
    moved : Moved column (fresh limit ds) es t
    moved = moved_run column u es (fresh limit ds) t (kept_fresh column u limit ds) run

    in_order : handed_out es ++ chunk t ≡ take (limit - t.remaining) (sound_rows column None ds)
    in_order =
        let m = moved in
        sym m.out ∙ sym (take_at m.rows (future column t) (limit - t.remaining) (omega (arith, m.left))) ∙ ap (take (limit - t.remaining)) (sym m.from)

    all_handed : Over t.phase → handed_out es ≡ take (limit) (sound_rows column None ds)
    all_handed o =
        let m = moved in
        let k : Kept column u t = kept_run column u es (fresh limit ds) t (kept_fresh column u limit ds) run in
        let end : (t.pending ≡ 0) × Done t = at_end u t t.phase o k.place in
        let bare : handed_out es ≡ handed_out es ++ chunk t = sym (ap (λ xs. handed_out es ++ xs) (empties column u t k end.0) ∙ append-nil (handed_out es)) in
        ⊎_elim
        (λ z. let n : limit - t.remaining ≡ limit = omega arith in bare ∙ in_order ∙ ap (λ i. take i (sound_rows column None ds)) n)
        (λ z.
        let none : future column t ≡ [] = ap (λ xs. xs ++ sound_rows column t.held t.source) z.0 ∙ ap (sound_rows column t.held) z.1 in
        let all : sound_rows column None ds ≡ m.rows = m.from ∙ ap (λ xs. m.rows ++ xs) none ∙ append-nil m.rows in
        bare ∙ sym m.out ∙ sym all ∙ sym (take_all (limit) (sound_rows column None ds) (omega (arith, ap length all, m.left))))
        end.1

    accounted : Accounts column u limit ds es t
    accounted =
        let m = moved in
        let both : length m.rows ≡ length (handed_out es) + length (chunk t) = ap length m.out ∙ length-append (handed_out es) (chunk t) in
        record {
          total = omega (arith, m.left);
          order = in_order;
          whole = λ o. ap length (all_handed o) ∙ length-take (limit) (sound_rows column None ds);
          close =
              each_close_map _ _ (λ h g p. (omega (arith, m.number, p.0), omega (arith, m.gave, p.1))) es
              (closes u es (fresh limit ds) t run);
          full = full_run column u es (fresh limit ds) t (kept_fresh column u limit ds) run;
        }

    bounded : tally unrefused es ≤ 1 + tally is_chunk es + 2 * given ds t
    bounded = let m = moved in omega (arith, m.work, m.fewer, over_few t.phase)

  pub rows_accounted : RowsAccounted column
  rows_accounted = accounted

  pub rows_extend : RowsExtend column
  rows_extend u v m n ds more es fs s t le r o q p =
      let after = sound_begins None ds more in
      let begins = take_begins m n (sound_rows column None ds) after.0 le in (
        begins.0,
        all_handed v n (ds ++ more) fs t q p ∙ ap (take n) after.1 ∙ begins.1
            ∙ ap (λ xs. xs ++ begins.0) (sym (all_handed u m ds es s r o)),
      )

  pub nexts_bounded : NextsBounded column
  nexts_bounded = bounded

  pub whole_read : WholeRead column
  whole_read = record { accounted = rows_accounted; extend = rows_extend; bounded = nexts_bounded; seen = rows_seen }
