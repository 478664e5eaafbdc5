-- The calls as their contracts say them are runs, and every run is one.
use Rattle.std.proofs.Common.{◌≡◌, ℕ, ◌<◌, Bool, true, false, cond, ◌&&◌, eqb, ltb, List, [], ◌∷◌, map, length, Some, Option, sym, refl, ap, ◌∙◌, inl, inr, ⊎_elim, arith}
use Rattle.std.proofs.lemmas.Bool.{cond_both, eqb-true, eqb-false, ltb-true, ltb-false, or_cases, or_parts, or_from, or_left, or_right, cond-true, cond-false, eq-eqb, ne_eqb, lt-ltb, le-ltb, cases_Bool}
use Rattle.model.specs.Model.{Column, Setup, Phase, Filling, Ready, Ended, Closed, Read, Answer, Event, Next, Take, RowAt, Close, Steps, wrong_rows, small_room, small_space, at_limit, fills, uses_up, gives, last_chunk, no_more, Right, PageLeft, PageUsed, Step, Run, fitting, Fills, More, Chunk, End, in_phase, appended, taken, bytes_then, Matches, capacity, fresh}
use Rattle.values.specs.Values.{Row}
use Rattle.pages.specs.Delivered.{Delivered}
use Rattle.faults.specs.declared.types.Cause.TheVariants as cause
use Rattle.model.specs.Calls.{Call, refused, matching, ListsReach, ToNext, ToTake, ToRow, ToClose, next_of, from_page, from_source, filled, perform, noted, made}

true_false : true ≡ false → ⊥
true_false e = let z : ◌≡◌ {A = ℕ} 0 1 = cc in omega arith

and_parts : (a b : Bool) → (a && b) ≡ true → (a ≡ true) × (b ≡ true)
and_parts true b e = (refl, e)
and_parts false b e = absurd (true_false (sym e))

and_from : (a b : Bool) → a ≡ true → b ≡ true → (a && b) ≡ true
and_from a b e f = ap (λ x. x && b) e ∙ f

module _ (column : Column) (u : Setup) where
  abbrev Lands : Read → Answer × Read → Type 0
  Lands s o = Steps column u s o.0 o.1

  fills_from : (s : Read) → filled column u s ≡ true → Fills column u s
  fills_from s e = ⊎_elim (λ z. inl (eqb-true _ _ z)) (λ z. inr (eqb-true _ _ z)) (or_cases _ _ e)

  short_from : (s : Read) → filled column u s ≡ false → Fills column u s → ⊥
  short_from s e f = let p = or_parts _ _ e in ⊎_elim (eqb-false _ _ p.0) (eqb-false _ _ p.1) f

  source_lands : (s : Read) → Right column u s → PageUsed column s → (ds : List Delivered) → s.source ≡ ds → Lands s (from_source column u s ds)
  source_lands s r p [] q =
      cond_both (ltb 0 s.pending) (Chunk, in_phase Ready s) (End, in_phase Ended s) (Lands s)
      (λ e. last_chunk r p q (ltb-true _ _ e)) (λ e. no_more r p q (omega (arith, ltb-false _ _ e)))
  source_lands s r p (d ∷ ds) q = gives r p d ds q

  page_lands : (s : Read) → Right column u s → 0 < s.remaining → (xs : List Row) → s.unused ≡ xs → Lands s (from_page column u s xs)
  page_lands s r w [] q = source_lands s r (record { wanted = w; none = q }) s.source refl
  page_lands s r w (x ∷ xs) q =
      let p : PageLeft column s = record { wanted = w; some = omega (arith, ap length q) } in
      cond_both (ltb u.bytes (bytes_then column u s)) _ _ (Lands s)
      (λ e. small_space r p (ltb-true _ _ e))
      (λ e. cond_both (filled column u s) _ _ (Lands s)
      (λ f. fills r p (ltb-false _ _ e) (fills_from s f)) (λ f. uses_up r p (ltb-false _ _ e) (short_from s f)))

  pub matches_from : (s : Read) → matching column u s ≡ true → Matches column s
  matches_from s e = let p = and_parts _ _ e in record { rows = eqb-true _ _ p.0; bits = eqb-true _ _ p.1 }

  matching_true : (s : Read) → Matches column s → matching column u s ≡ true
  matching_true s m = and_from _ _ (eq-eqb _ _ m.rows) (eq-eqb _ _ m.bits)

  unlike_from : (s : Read) → matching column u s ≡ false → Matches column s → ⊥
  unlike_from s e m = true_false (sym (matching_true s m) ∙ e)

  matching_false : (s : Read) → (Matches column s → ⊥) → matching column u s ≡ false
  matching_false s h = ⊎_elim (λ t. absurd (h (matches_from s t))) (λ f. f) (cases_Bool (matching column u s))

  pub next_lands : (s : Read) → Lands s (next_of column u s)
  next_lands s =
      cond_both (matching column u s) _ _ (Lands s)
      (λ e. cond_both (ltb (capacity column.optional u) u.size) _ _ (Lands s)
      (λ f. small_room (matches_from s e) (ltb-true _ _ f))
      (λ f. let r : Right column u s = record { matches = matches_from s e; room = ltb-false _ _ f } in
      cond_both (eqb s.remaining 0) _ _ (Lands s)
      (λ z. at_limit r (eqb-true _ _ z))
      (λ z. let w : s.remaining ≡ 0 → ⊥ = eqb-false _ _ z in page_lands s r (omega arith) s.unused refl)))
      (λ e. wrong_rows (unlike_from s e))

  abbrev Here : Read → Option (Event × Read) → (Read → List Event × Read) → Type 0
  Here s o f = Run column u s (noted column u o s f).0 (noted column u o s f).1

  performed : (s : Read) (f : Read → List Event × Read) → ((m : Read) → Run column u m (f m).0 (f m).1)
      → (p : Phase) → s.phase ≡ p → (c : Call) → Here s (perform column u s p c) f
  performed s f r Filling e ToNext = ((next_of column u s).1, (e, next_lands s), r (next_of column u s).1)
  performed s f r Filling e ToTake = r s
  performed s f r Filling e (ToRow i) = (s, (inl e, refl, refl), r s)
  performed s f r Filling e ToClose = r s
  performed s f r Ready e ToNext = r s
  performed s f r Ready e ToTake = (taken s, (e, refl, refl), r (taken s))
  performed s f r Ready e (ToRow i) = (s, (inr e, refl, refl), r s)
  performed s f r Ready e ToClose = r s
  performed s f r Ended e ToNext = r s
  performed s f r Ended e ToTake = r s
  performed s f r Ended e (ToRow i) = r s
  performed s f r Ended e ToClose = (in_phase Closed s, (e, refl, refl, refl), r (in_phase Closed s))
  performed s f r Closed e c = r s

  -- a list of calls is a run
  pub made_runs : (cs : List Call) (s : Read) → Run column u s (made column u s cs).0 (made column u s cs).1
  made_runs [] s = refl
  made_runs (c ∷ cs) s = performed s (λ m. made column u m cs) (made_runs cs) s.phase refl c

  past_refusals : (s : Read) → Right column u s → next_of column u s ≡ cond (eqb s.remaining 0) (End, in_phase Ended s) (from_page column u s s.unused)
  past_refusals s r = cond-true _ _ _ (matching_true s r.matches) ∙ cond-false _ _ _ (le-ltb _ _ r.room)

  past_limit : (s : Read) → Right column u s → 0 < s.remaining → next_of column u s ≡ from_page column u s s.unused
  past_limit s r w = let more : s.remaining ≡ 0 → ⊥ = omega arith in past_refusals s r ∙ cond-false _ _ _ (ne_eqb _ _ more)

  pub past_page : (s : Read) → Right column u s → PageUsed column s → next_of column u s ≡ from_source column u s s.source
  past_page s r p = past_limit s r p.wanted ∙ ap (from_page column u s) p.none

  on_page : (s : Read) (xs : List Row) → 0 < length xs → from_page column u s xs ≡ cond (ltb u.bytes (bytes_then column u s)) (refused cause.ChunkBytes s) (cond (filled column u s) (Chunk, appended column u (fitting u s) Ready s) (More, appended column u (fitting u s) Filling s))
  on_page s [] w = absurd (omega arith)
  on_page s (x ∷ xs) w = refl

  filled_true : (s : Read) → Fills column u s → filled column u s ≡ true
  filled_true s f = ⊎_elim (λ z. or_left _ _ (eq-eqb _ _ z)) (λ z. or_right _ _ (eq-eqb _ _ z)) f

  filled_false : (s : Read) → (Fills column u s → ⊥) → filled column u s ≡ false
  filled_false s f = or_from _ _ (ne_eqb _ _ (λ z. f (inl z))) (ne_eqb _ _ (λ z. f (inr z)))

  -- next has one outcome
  pub next_only : (s : Read) (a : Answer) (t : Read) → Steps column u s a t → next_of column u s ≡ (a, t)
  next_only s a t (wrong_rows h) = cond-false _ _ _ (matching_false s h)
  next_only s a t (small_room h g) = cond-true _ _ _ (matching_true s h) ∙ cond-true _ _ _ (lt-ltb _ _ g)
  next_only s a t (small_space h g l) = past_limit s h g.wanted ∙ on_page s s.unused g.some ∙ cond-true _ _ _ (lt-ltb _ _ l)
  next_only s a t (at_limit h z) = past_refusals s h ∙ cond-true _ _ _ (eq-eqb _ _ z)
  next_only s a t (fills h g l f) = past_limit s h g.wanted ∙ on_page s s.unused g.some ∙ cond-false _ _ _ (le-ltb _ _ l) ∙ cond-true _ _ _ (filled_true s f)
  next_only s a t (uses_up h g l f) = past_limit s h g.wanted ∙ on_page s s.unused g.some ∙ cond-false _ _ _ (le-ltb _ _ l) ∙ cond-false _ _ _ (filled_false s f)
  next_only s a t (gives h g d ds q) = past_page s h g ∙ ap (from_source column u s) q
  next_only s a t (last_chunk h g q n) = past_page s h g ∙ ap (from_source column u s) q ∙ cond-true _ _ _ (lt-ltb _ _ n)
  next_only s a t (no_more h g q n) = past_page s h g ∙ ap (from_source column u s) q ∙ cond-false _ _ _ (le-ltb 0 s.pending (omega arith))

  -- the calls of a run
  abbrev pub call_of : Event → Call
  call_of (Next a) = ToNext
  call_of (Take rs) = ToTake
  call_of (RowAt i o) = ToRow i
  call_of (Close h g) = ToClose

  step_only : (s : Read) (e : Event) (t : Read) → Step column u s e t → perform column u s s.phase (call_of e) ≡ Some (e, t)
  step_only s (Next a) t h =
      ap (λ p. perform column u s p ToNext) h.0
      ∙ ap (λ (o : Answer × Read). Some (Next o.0, o.1)) (next_only s a t h.1)
  step_only s (Take rs) t h = ap (λ p. perform column u s p ToTake) h.0 ∙ rw (h.1, h.2) refl
  step_only s (RowAt i o) t h =
      ⊎_elim (λ e. ap (λ p. perform column u s p (ToRow i)) e ∙ rw (h.1, h.2) refl) (λ e. ap (λ p. perform column u s p (ToRow i)) e ∙ rw (h.1, h.2) refl) h.0
  step_only s (Close n g) t h = ap (λ p. perform column u s p ToClose) h.0 ∙ rw (h.1, h.2, h.3) refl

  -- every run is what its calls, made one after the other, come to
  pub runs_made : (es : List Event) (s t : Read) → Run column u s es t → made column u s (map call_of es) ≡ (es, t)
  runs_made [] s t r = ap (λ (x : Read). ([], x)) r
  runs_made (e ∷ es) s t r =
      ap (λ o. noted column u o s (λ m. made column u m (map call_of es))) (step_only s e r.0 r.1)
      ∙ ap (λ (o : List Event × Read). (e ∷ o.0, o.1)) (runs_made es r.0 t r.2)

  pub lists_reach : ListsReach column u
  lists_reach limit ds es t r = (map call_of es, runs_made es (fresh limit ds) t r)
