-- Every chunk taken but the last is full.
use Rattle.std.proofs.Common.{◌≡◌, ℕ, List, [], ◌∷◌, length, sym, refl, ap, ◌∙◌, subst, ⊎_elim, arith}
use Rattle.model.specs.Model.{Column, Setup, Phase, Filling, Ready, Ended, Closed, Read, Answer, Event, Next, Take, RowAt, Close, Steps, wrong_rows, small_room, small_space, at_limit, fills, uses_up, gives, last_chunk, no_more, Run, PageLeft}
use Rattle.model.specs.Laws.{chunks, FullButLast}
use Rattle.values.specs.Values.{Row}
use Rattle.model.proofs.Keeps.{Kept, Done, placed, kept_step, counts}

apart : {p : Phase} → p ≡ Filling → p ≡ Ready → ⊥
apart e f = let z : ◌≡◌ {A = ℕ} 0 1 = cc in omega arith

ended_apart : {p : Phase} → p ≡ Ended → p ≡ Ready → ⊥
ended_apart e f = let z : ◌≡◌ {A = ℕ} 0 1 = cc in omega arith

closed_apart : {p : Phase} → p ≡ Closed → p ≡ Ready → ⊥
closed_apart e f = let z : ◌≡◌ {A = ℕ} 0 1 = cc in omega arith

full_cons : (c : ℕ) (k : List Row) (ks : List (List Row)) → length k ≡ c → FullButLast c ks → FullButLast c (k ∷ ks)
full_cons c k [] e h = tt
full_cons c k (l ∷ ks) e h = (e, h)

full_one : (c : ℕ) (k : List Row) (ks : List (List Row)) → ks ≡ [] → FullButLast c (k ∷ ks)
full_one c k ks e = subst (λ l. FullButLast c (k ∷ l)) (sym e) tt

module _ (column : Column) (u : Setup) where
  -- no row is pending, none will come, and no chunk waits
  pub record Spent (s : Read) : Type 0 where
    pub done : Done s
    pub empty : s.pending ≡ 0
    pub waits : s.phase ≡ Ready → ⊥

  none_left : (s : Read) → Spent s → PageLeft column s → ⊥
  none_left s p g = ⊎_elim (λ z. omega (arith, g.wanted)) (λ z. omega (arith, g.some, ap length z.0)) p.done

  spent_next : (s : Read) (a : Answer) (t : Read) → Spent s → Kept column u s → Steps column u s a t → Spent t
  spent_next s a t p k (wrong_rows h) = p
  spent_next s a t p k (small_room h g) = p
  spent_next s a t p k (small_space h g l) = p
  spent_next s a t p k (at_limit h z) = record { done = p.done; empty = p.empty; waits = ended_apart refl }
  spent_next s a t p k (fills h g l f) = absurd (none_left s p g)
  spent_next s a t p k (uses_up h g l f) = absurd (none_left s p g)
  spent_next s a t p k (gives h g d ds q) = absurd (⊎_elim (λ z. omega (arith, g.wanted)) (λ z. omega (arith, sym (ap length z.1) ∙ ap length q)) p.done)
  spent_next s a t p k (last_chunk h g q n) = absurd (omega (arith, p.empty))
  spent_next s a t p k (no_more h g q n) = record { done = p.done; empty = p.empty; waits = ended_apart refl }

  no_chunks : (es : List Event) (s t : Read) → Spent s → Kept column u s → Run column u s es t → chunks es ≡ []
  no_chunks [] s t p k r = refl
  no_chunks (Next a ∷ es) s t p k r =
      no_chunks es r.0 t (spent_next s a r.0 p k r.1.1) (kept_step column u s (Next a) r.0 k r.1) r.2
  no_chunks (Take rs ∷ es) s t p k r = absurd (p.waits r.1.0)
  no_chunks (RowAt i o ∷ es) s t p k r =
      no_chunks es r.0 t (subst Spent (sym r.1.2) p) (kept_step column u s (RowAt i o) r.0 k r.1) r.2
  no_chunks (Close h g ∷ es) s t p k r =
      no_chunks es r.0 t (subst Spent (sym r.1.3) (record { done = p.done; empty = p.empty; waits = closed_apart refl }))
      (kept_step column u s (Close h g) r.0 k r.1) r.2

  pub full_run : (es : List Event) (s t : Read) → Kept column u s → Run column u s es t → FullButLast u.size (chunks es)
  full_run [] s t k r = tt
  full_run (Next a ∷ es) s t k r = full_run es r.0 t (kept_step column u s (Next a) r.0 k r.1) r.2
  full_run (Take rs ∷ es) s t k r =
      let next : Kept column u r.0 = kept_step column u s (Take rs) r.0 k r.1 in
      ⊎_elim
      (λ full. full_cons u.size rs (chunks es) (ap length r.1.1 ∙ counts column u s k ∙ full) (full_run es r.0 t next r.2))
      (λ done. full_one u.size rs (chunks es)
      (no_chunks es r.0 t (subst Spent (sym r.1.2) (record { done = done; empty = refl; waits = apart refl })) next r.2))
      (placed column u s Ready k r.1.0)
  full_run (RowAt i o ∷ es) s t k r = full_run es r.0 t (kept_step column u s (RowAt i o) r.0 k r.1) r.2
  full_run (Close h g ∷ es) s t k r = full_run es r.0 t (kept_step column u s (Close h g) r.0 k r.1) r.2
