-- How a list of calls moves rows from the source through the chunk to the caller.
use Rattle.std.proofs.Common.{◌≡◌, ℕ, ◌+◌, ◌-◌, ◌*◌, ◌^◌, ◌<◌, ◌≤◌, min, List, [], ◌∷◌, ◌++◌, length, take, drop, sym, refl, ap, ◌∙◌, subst, inl, inr, append_assoc, append-nil, arith, length-append, take-append-drop, length-take}
use Rattle.std.proofs.lemmas.List.{drop_all}
use Rattle.model.specs.Model.{Verdict, Page, Holds, Broken, Column, Setup, Phase, Filling, Ready, Ended, Closed, Read, chunk, verdict, Answer, More, Chunk, End, Event, Next, Take, RowAt, Close, Steps, wrong_rows, small_room, small_space, at_limit, fills, uses_up, gives, last_chunk, no_more, Step, Run, Fills, fitting, sound_rows, in_phase, appended, delivered, rows_of, told, one_more}
use Rattle.model.specs.Laws.{handed_out, unrefused, is_chunk, tally, by_layer}
use Rattle.values.specs.Values.{Row}
use Rattle.pages.specs.Delivered.{Delivered}
use Rattle.faults.specs.Faults.{layer_of}
use Rattle.faults.specs.declared.types.Layer.{Layer}
use Rattle.faults.specs.declared.types.Layer.TheVariants as layer
use Rattle.model.proofs.Keeps.{Kept, kept_step, counts, chunk_then}

-- 1 where a page waits to be used up
abbrev pub owed : List Row → ℕ
owed [] = 0
owed (x ∷ xs) = 1

owed_few : (xs : List Row) → owed xs ≤ 1
owed_few [] = omega arith
owed_few (x ∷ xs) = omega arith

owed_some : (xs : List Row) → 0 < length xs → owed xs ≡ 1
owed_some [] h = omega arith
owed_some (x ∷ xs) h = refl

-- 1 once the read has come to its end
abbrev pub over : Phase → ℕ
over Filling = 0
over Ready = 0
over Ended = 1
over Closed = 1

layer_few : (l : Layer) → by_layer l ≤ 1
layer_few layer.Name = omega arith
layer_few layer.Open = omega arith
layer_few layer.Source = omega arith
layer_few layer.Page = omega arith
layer_few layer.Validity = omega arith
layer_few layer.Values = omega arith
layer_few layer.Dictionary = omega arith
layer_few layer.Chunk = omega arith

told_counts : (v : Verdict) (n : ℕ) → (unrefused (told v n) ≤ 1) × (is_chunk (told v n) ≡ 0)
told_counts (Page rs) n = (omega arith, refl)
told_counts (Holds o) n = (omega arith, refl)
told_counts (Broken c) n = (layer_few (layer_of c), refl)

module _ (column : Column) where
  -- the rows that are still to come: the held page's, then the source's
  abbrev pub future : Read → List Row
  future s = s.unused ++ sound_rows column s.held s.source

  pub record Moved (s : Read) (es : List Event) (t : Read) : Type 0 where
    pub rows : List Row
    pub out : chunk s ++ rows ≡ handed_out es ++ chunk t
    pub from : future s ≡ rows ++ future t
    pub left : s.remaining ≡ length rows + t.remaining
    pub number : t.handed ≡ s.handed + length (handed_out es)
    pub fewer : length t.source ≤ length s.source
    pub gave : t.counted ≡ min (s.counted + (length s.source - length t.source)) (2 ^ 64 - 1)
    pub work : tally unrefused es + owed t.unused + over s.phase + 2 * length t.source ≤ owed s.unused + tally is_chunk es + 2 * length s.source + over t.phase

module _ (column : Column) (u : Setup) where
  abbrev Goes : Read → Event → Read → Type 0
  Goes s e t = Moved column s (e ∷ []) t

  -- only the phase changes
  turns : (s : Read) (e : Event) (p : Phase) → Kept column u s → handed_out (e ∷ []) ≡ []
      → tally unrefused (e ∷ []) + over s.phase ≤ tally is_chunk (e ∷ []) + over p → Goes s e (in_phase p s)
  turns s e p k none w = record {
    rows = [];
    out = append-nil _ ∙ ap (λ xs. xs ++ chunk s) (sym none);
    from = refl;
    left = omega arith;
    number = omega (arith, ap length none);
    fewer = omega arith;
    gave = omega (arith, k.few);
    work = omega arith;
  }

  -- k rows of the held page go into the chunk
  appends : (s : Read) (a : Answer) (p : Phase) → Kept column u s → s.phase ≡ Filling → over p ≡ 0
      → unrefused a + owed (drop (fitting u s) s.unused) ≤ owed s.unused + is_chunk a → Goes s (Next a) (appended column u (fitting u s) p s)
  appends s a p k e o w = record {
    rows = take (fitting u s) s.unused;
    out = sym (chunk_then column u s k);
    from = rw (← append_assoc) (ap (λ xs. xs ++ sound_rows column s.held s.source) (sym (take-append-drop (fitting u s) s.unused)));
    left = simp length-take (omega arith);
    number = omega arith;
    fewer = omega arith;
    gave = omega (arith, k.few);
    work = omega (arith, ap over e);
  }

  -- a delivery is taken in
  takes_in : (s : Read) (d : Delivered) (ds : List Delivered) → Kept column u s → s.phase ≡ Filling → s.unused ≡ [] → s.source ≡ d ∷ ds
      → Goes s (Next (told (verdict column s.held d) (one_more s.counted))) (delivered (verdict column s.held d) ds s)
  takes_in s d ds k e none q =
      let v = verdict column s.held d in
      let fewer : length s.source ≡ length ds + 1 = ap length q ∙ omega arith in
      record {
        rows = [];
        out = append-nil _;
        from = ap (λ xs. xs ++ sound_rows column s.held s.source) none ∙ ap (sound_rows column s.held) q;
        left = omega arith;
        number = omega arith;
        fewer = omega arith;
        gave = omega (arith, k.few);
        work = omega (arith, ap over e, told_counts v (one_more s.counted), owed_few (rows_of v));
      }

  -- the page is used up where the append leaves the chunk short and rows wanted
  used_up : (s : Read) → Kept column u s → (Fills column u s → ⊥) → drop (fitting u s) s.unused ≡ []
  used_up s k f =
      let short : s.pending + fitting u s ≡ u.size → ⊥ = λ z. f (inl z) in
      let wanted : s.remaining - fitting u s ≡ 0 → ⊥ = λ z. f (inr z) in
      drop_all (fitting u s) s.unused (omega (arith, k.within))

  moved_next : (s : Read) (a : Answer) (t : Read) → Kept column u s → s.phase ≡ Filling → Steps column u s a t → Goes s (Next a) t
  moved_next s a t k e (wrong_rows h) = turns s (Next a) s.phase k refl (omega arith)
  moved_next s a t k e (small_room h g) = turns s (Next a) s.phase k refl (omega arith)
  moved_next s a t k e (small_space h g l) = turns s (Next a) s.phase k refl (omega arith)
  moved_next s a t k e (at_limit h z) = turns s (Next End) Ended k refl (omega (arith, ap over e))
  moved_next s a t k e (fills h g l f) =
      appends s Chunk Ready k e refl (omega (arith, owed_few (drop (fitting u s) s.unused), owed_some s.unused g.some))
  moved_next s a t k e (uses_up h g l f) =
      appends s More Filling k e refl (omega (arith, ap owed (used_up s k f), owed_some s.unused g.some))
  moved_next s a t k e (gives h g d ds q) = takes_in s d ds k e g.none q
  moved_next s a t k e (last_chunk h g q n) = turns s (Next Chunk) Ready k refl (omega (arith, ap over e))
  moved_next s a t k e (no_more h g q n) = turns s (Next End) Ended k refl (omega (arith, ap over e))

  moved_step : (s : Read) (e : Event) (t : Read) → Kept column u s → Step column u s e t → Goes s e t
  moved_step s (Next a) t k h = moved_next s a t k h.0 h.1
  moved_step s (Take rs) t k h =
      subst (Goes s (Take rs)) (sym h.2) record {
        rows = [];
        out = append-nil _ ∙ sym h.1 ∙ sym (append-nil rs) ∙ sym (append-nil _);
        from = refl;
        left = omega arith;
        number = simp (append-nil, h.1) (omega (arith, counts column u s k));
        fewer = omega arith;
        gave = omega (arith, k.few);
        work = omega (arith, ap over h.0);
      }
  moved_step s (RowAt i o) t k h = subst (Goes s (RowAt i o)) (sym h.2) (turns s (RowAt i o) s.phase k refl (omega arith))
  moved_step s (Close n g) t k h = subst (Goes s (Close n g)) (sym h.3) (turns s (Close n g) Closed k refl (omega (arith, ap over h.0)))

handed_cons : (e : Event) (es : List Event) → handed_out (e ∷ es) ≡ handed_out (e ∷ []) ++ handed_out es
handed_cons (Next a) es = refl
handed_cons (Take rs) es = ap (λ xs. xs ++ handed_out es) (sym (append-nil rs))
handed_cons (RowAt i o) es = refl
handed_cons (Close h g) es = refl

tally_cons : (f : Answer → ℕ) (e : Event) (es : List Event) → tally f (e ∷ es) ≡ tally f (e ∷ []) + tally f es
tally_cons f (Next a) es = omega arith
tally_cons f (Take rs) es = omega arith
tally_cons f (RowAt i o) es = omega arith
tally_cons f (Close h g) es = omega arith

module _ (column : Column) where
  joined : (s m t : Read) (e : Event) (es : List Event) → Moved column s (e ∷ []) m → Moved column m es t → Moved column s (e ∷ es) t
  joined s m t e es a b = record {
    rows = a.rows ++ b.rows;
    out =
        sym (append_assoc (chunk s) a.rows b.rows) ∙ ap (λ xs. xs ++ b.rows) a.out
        ∙ append_assoc (handed_out (e ∷ [])) (chunk m) b.rows ∙ ap (λ xs. handed_out (e ∷ []) ++ xs) b.out
        ∙ sym (append_assoc (handed_out (e ∷ [])) (handed_out es) (chunk t)) ∙ ap (λ xs. xs ++ chunk t) (sym (handed_cons e es));
    from = a.from ∙ ap (λ xs. a.rows ++ xs) b.from ∙ sym (append_assoc a.rows b.rows (future column t));
    left = simp length-append (omega (arith, a.left, b.left));
    number = omega (arith, a.number, b.number, ap length (handed_cons e es) ∙ length-append (handed_out (e ∷ [])) (handed_out es));
    fewer = omega (arith, a.fewer, b.fewer);
    gave = omega (arith, a.gave, b.gave, a.fewer, b.fewer);
    work = omega (arith, a.work, b.work, tally_cons unrefused e es, tally_cons is_chunk e es);
  }

  stays : (u : Setup) (s t : Read) → Kept column u s → s ≡ t → Moved column s [] t
  stays u s t k e = subst (Moved column s []) e record {
    rows = [];
    out = append-nil _;
    from = refl;
    left = omega arith;
    number = omega arith;
    fewer = omega arith;
    gave = omega (arith, k.few);
    work = omega arith;
  }

  pub moved_run : (u : Setup) (es : List Event) (s t : Read) → Kept column u s → Run column u s es t → Moved column s es t
  moved_run u [] s t k h = stays u s t k h
  moved_run u (e ∷ es) s t k h =
      joined s h.0 t e es (moved_step column u s e h.0 k h.1) (moved_run u es h.0 t (kept_step column u s e h.0 k h.1) h.2)
