use Rattle.std.proofs.Common.{◌≤◌, ◌∷◌, Some, Ok, sym, refl, ap, ◌∙◌, subst, arith}
use Rattle.hybrid_rle.specs.Rows.{later}
use Rattle.hybrid_rle.specs.Borrowed.{stretch}
use Rattle.hybrid_rle.specs.Held.{rows, run_end, bytes_end}
use Rattle.hybrid_rle.proofs.Pieces.{rows_on, run_within, gives_after}
use Rattle.hybrid_rle.proofs.Streams.{Stepped, stepped_at}
use Rattle.hybrid_rle.proofs.validity.OptionalPageValidity.next_run.Goals as goal
use Rattle.hybrid_rle.proofs.validity.OptionalPageValidity.next_run.Goals.{After-rows}

pub invariant_of-self : goal.invariant_of-self
invariant_of-self c =
    let h = c.args.self.now in
    record { one_bit = c.next-found.ensures.width; gives = gives_after c.next-found.result _ c.next-found.new.self refl c.next-found.ensures.given c.next-found.ensures.kept h.gives; inside = h.inside }

-- the run that was given
on : (c : After-rows) → Stepped 1 1 c.args.self.now.runs.left c.args.self.now.runs.rest.now (Ok (Some (stretch c.in_ok-run-in-Ok.field-0, c.next-found.new.self.left, c.next-found.new.self.rest.now)))
on c =
    let h = c.args.self.now in
    stepped_at 1 1 h.runs.left h.runs.rest.now 1 _ (omega arith) refl (rw c.in_ok-run-in-Ok.was at c.in-Ok.ensures.given)

pub returns-clause-given : goal.returns-clause-given
returns-clause-given c =
    let h = c.args.self.now in
    let n = c.next-found.new.self in
    ap (λ p. rows p ∷ later n.left n.rest.now) c.rows.ensures.piece ∙ rows_on h.runs.left n.left h.runs.rest.now n.rest.now h.gives c.in_ok-run-in-Ok.field-0 (on c)

pub returns-clause-inside : goal.returns-clause-inside
returns-clause-inside c = (subst (λ p. run_end (Some p) ≤ bytes_end (Some p)) (sym c.rows.ensures.piece) (run_within c.in_ok-run-in-Ok.field-0 (on c).3), c.rows.ensures.near)
