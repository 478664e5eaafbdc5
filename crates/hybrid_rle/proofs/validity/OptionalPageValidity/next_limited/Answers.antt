use Rattle.std.proofs.Common.{◌≡◌, ◌≤◌, ℕ, List, Bool, ◌∷◌, ◌++◌, Some, sym, ap, ◌∙◌, arith}
use Rattle.hybrid_rle.specs.Rows.{later, piece, beyond}
use Rattle.hybrid_rle.specs.Held.{held, rows, piece_count}
use Rattle.hybrid_rle.specs.Cursor.{to_come}
use Rattle.hybrid_rle.specs.declared.validity.OptionalPageValidity.{OptionalPageValidity}
use Rattle.hybrid_rle.specs.declared.piece.Piece.{Piece}
use Rattle.hybrid_rle.proofs.Pieces.{beyond_more, length_rows, onward_is, rows_whole}
use Rattle.hybrid_rle.proofs.validity.OptionalPageValidity.next_limited.Goals as goal

-- the current run and those after it
opened : (v : OptionalPageValidity) (p : Piece Bool) (all : List (List Bool)) → v.current ≡ Some p → to_come v ≡ all → rows p ∷ later v.runs.left v.runs.rest.now ≡ all
opened v p all is same = ap (λ o. held o ++ later v.runs.left v.runs.rest.now) (sym is) ∙ same

-- a run that the limit takes whole
whole : (p : Piece Bool) (k : ℕ) (others all : List (List Bool)) → piece_count p ≤ k → rows p ∷ others ≡ all → (Some (rows p) ≡ piece k all) × (others ≡ beyond k all)
whole p k others all h is =
    let w = rows_whole (rows p) k (omega (arith, length_rows p)) in
    (ap Some w.0 ∙ ap (piece k) is, ap (λ x. x ++ others) w.1 ∙ beyond_more k (rows p) others ∙ ap (beyond k) is)

pub returns-in-Some-clause-given : goal.returns-in-Some-clause-given
returns-in-Some-clause-given c = (whole c.in-Some.run' c.args.limit _ _ c.in-Some.ensures.whole c.in-Some.ensures.same).0

pub returns-in-Some-clause-after : goal.returns-in-Some-clause-after
returns-in-Some-clause-after c = (whole c.in-Some.run' c.args.limit _ _ c.in-Some.ensures.whole c.in-Some.ensures.same).1

pub returns-in-Some-default-clause-onward : goal.returns-in-Some-default-clause-onward
returns-in-Some-default-clause-onward c =
    let n = c.load.new.self in
    let others = later n.runs.left n.runs.rest.now in
    let run = c.in-Some-default.run' in
    let f = opened n run (to_come c.args.self.now) c.in-Some-default.is-0 c.in_default.ensures.same in
    onward_is c.args.limit (to_come c.args.self.now) (Some (rows c.take_front.result)) (rows c.take_front.new.self ∷ others)
    (ap Some c.take_front.ensures.first ∙ ap (piece c.args.limit) f)
    (ap (λ x. x ++ others) c.take_front.ensures.rest ∙ beyond_more c.args.limit (rows run) others ∙ ap (beyond c.args.limit) f)

pub returns-in-Some-default-2-clause-given : goal.returns-in-Some-default-2-clause-given
returns-in-Some-default-2-clause-given c =
    let run = c.in-Some-default.run' in
    (whole run c.args.limit _ _ (omega arith) (opened c.load.new.self run (to_come c.args.self.now) c.in-Some-default.is-0 c.in_default.ensures.same)).0

pub returns-in-Some-default-2-clause-after : goal.returns-in-Some-default-2-clause-after
returns-in-Some-default-2-clause-after c =
    let run = c.in-Some-default.run' in
    (whole run c.args.limit _ _ (omega arith) (opened c.load.new.self run (to_come c.args.self.now) c.in-Some-default.is-0 c.in_default.ensures.same)).1
