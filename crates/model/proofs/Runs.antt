-- A list of calls, one more at a time.
use Rattle.std.proofs.Common.{◌≡◌, ℕ, ◌+◌, ◌*◌, ◌≤◌, List, [], ◌∷◌, map, Some, None, Option, sym, refl, ap, ◌∙◌, subst}
use Rattle.pages.specs.Delivered.{Delivered}
use Rattle.model.specs.Model.{Column, Setup, Read, Event, Next, Take, RowAt, Close, fresh, Run}
use Rattle.model.specs.Calls.{Call, perform, noted, made}
use Rattle.model.specs.Laws.{Accounts, tally, unrefused, is_chunk, given, Over}
use Rattle.model.specs.Runs.{Said, said, said_of, left_by, kept, answers, events, Driven}
use Rattle.model.proofs.Made.{made_runs, lists_reach}
use Rattle.model.proofs.Seen.{rows_seen}
use Rattle.model.proofs.Whole.{rows_accounted, rows_extend, nexts_bounded}

kept_one : (e : Event) (xs : List Said) → kept (said_of e ∷ xs) ≡ said_of e ∷ kept xs
kept_one (Next a) xs = refl
kept_one (Take rs) xs = refl
kept_one (RowAt i o) xs = refl
kept_one (Close h g) xs = refl

module _ (column : Column) (u : Setup) where
  noted_leaves : (o : Option (Event × Read)) (s : Read) (f : Read → List Event × Read) → (noted column u o s f).1 ≡ (f (left_by o s)).1
  noted_leaves None s f = refl
  noted_leaves (Some o) s f = refl

  -- one call of a list, then the rest
  pub made_one : (s : Read) (c : Call) (cs : List Call) → (made column u s (c ∷ cs)).1 ≡ (made column u (left_by (perform column u s s.phase c) s) cs).1
  made_one s c cs = noted_leaves (perform column u s s.phase c) s (λ m. made column u m cs)

  kept_step : (o : Option (Event × Read)) (s : Read) (X : Read → List Said) (f : Read → List Event × Read)
      → ((m : Read) → kept (X m) ≡ map said_of (f m).0) → kept (said o ∷ X (left_by o s)) ≡ map said_of (noted column u o s f).0
  kept_step None s X f h = h s
  kept_step (Some o) s X f h = kept_one o.0 (X o.1) ∙ ap (λ ds. said_of o.0 ∷ ds) (h o.1)

  answers_events : (cs : List Call) (s : Read) → kept (answers column u s cs) ≡ map said_of (made column u s cs).0
  answers_events [] s = refl
  answers_events (c ∷ cs) s = kept_step (perform column u s s.phase c) s (λ m. answers column u m cs) (λ m. made column u m cs) (answers_events cs)

  pub driven : (limit : ℕ) (ds : List Delivered) (cs : List Call) (xs : List Said) (t : Read)
      → xs ≡ answers column u (fresh limit ds) cs → t ≡ (made column u (fresh limit ds) cs).1 → Driven column u limit ds cs xs t
  driven limit ds cs xs t a e =
      let es = events column u limit ds cs in
      let run = made_runs column u cs (fresh limit ds) in
      record {
        answered = a;
        left = e;
        run = subst (Run column u (fresh limit ds) es) (sym e) run;
        told = ap kept a ∙ answers_events cs (fresh limit ds);
        accounts = subst (Accounts column u limit ds es) (sym e) (rows_accounted column u limit ds es _ run);
        bounded = subst (λ y. tally unrefused es ≤ 1 + tally is_chunk es + 2 * given ds y) (sym e) (nexts_bounded column u limit ds es _ run);
        extends = λ over v n more fs y le other end. rows_extend column u v limit n ds more es fs _ y le run (subst (λ (z : Read). Over z.phase) e over) other end;
        seen = rows_seen;
        reach = lists_reach column u;
      }
