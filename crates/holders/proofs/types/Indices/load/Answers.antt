use Rattle.std.proofs.Common.{◌-◌, ◌^◌, Some, Ok, refl, ap, ◌∙◌}
use Rattle.hybrid_rle.specs.Borrowed.{as_numbers, stretch}
use Rattle.hybrid_rle.proofs.Streams.{Stepped, stepped_at}
use Rattle.holders.specs.Left.{current_numbers}
use Rattle.holders.proofs.Onward.{all_to_come, bounds, load_run, load_ok}
use Rattle.holders.proofs.types.Indices.load.Goals as goal
use Rattle.holders.proofs.types.Indices.load.Goals.{In-Ok-Some}

-- the run that was given
on : (c : In-Ok-Some) → Stepped c.args.self.now.runs.w (2 ^ 32 - 1) c.args.self.now.runs.left c.args.self.now.runs.rest.now (Ok (Some (stretch c.in-Ok-Some.run', c.next.new.self.left, c.next.new.self.rest.now)))
on c =
    let h = c.args.self.now in
    stepped_at h.runs.w (2 ^ 32 - 1) h.runs.left h.runs.rest.now h.runs.w _ (bounds h.runs.w _ h.runs.left h.runs.rest.now c.requires.0).0 refl (rw c.in-Ok-Some.field-0-is at c.in-Ok-Some.ensures.given)

pub returns-clause-same : goal.returns-clause-same
returns-clause-same c =
    let s = on (goal.at.returns-clause-same c).In-Ok-Some in
    let h = c.args.self.now in
    let n = c.next.new.self in
    ap (λ p. all_to_come n.w (current_numbers n.w (Some p)) n.left n.rest.now) c.from.ensures
    ∙ ap (λ k. all_to_come k (current_numbers k (Some (as_numbers c.in-Ok-Some.run'))) n.left n.rest.now) c.in-Ok-Some.ensures.width
    ∙ load_run h.runs.w h.runs.left n.left h.runs.rest.now n.rest.now h.current c.requires.1.0 c.requires.0 c.in-Ok-Some.run' s

pub unreachable-requires-in-Err : goal.unreachable-requires-in-Err
unreachable-requires-in-Err c =
    let h = c.args.self.now in
    load_ok h.runs.w h.runs.left c.next.new.self.left h.runs.rest.now c.next.new.self.rest.now h.current c.requires.1.0 c.requires.0 c.in-Err.field-0 (stepped_at h.runs.w (2 ^ 32 - 1) h.runs.left h.runs.rest.now h.runs.w _ (bounds h.runs.w _ h.runs.left h.runs.rest.now c.requires.0).0 refl c.in-Err.ensures.given)
