use Rattle.std.proofs.Common.{◌≤◌, true, ◌++◌, length, take, drop, sym, ap, ◌∙◌, subst, arith}
use Rattle.std.proofs.lemmas.List.{drop-replicate}
use Rattle.values.specs.Values.{fits}
use Rattle.holders.specs.Filled.{Able, filled}
use Rattle.holders.specs.Judge.{needed}
use Rattle.holders.proofs.Keeps.{flat_is, all_are, first_all}
use Rattle.holders.proofs.Validities.{filled_values, needed_values}
use Rattle.hybrid_rle.specs.Cursor.{to_come}
use Rattle.hybrid_rle.specs.Rows.{flat}
use Rattle.holders.proofs.holder.extend.extend_rows.Goals as goal
use Rattle.holders.proofs.holder.extend.extend_rows.Goals.{then-optional, else-optional}

pub extend_required-requires : goal.extend_required-requires
extend_required-requires g c =
    let a = c.args in
    let p = first_all a.optional a.rows a.k a.page.now c.if-optional.false c.requires.rows in
    let e = subst (λ t. Able (g.P.Sink.room a.sink.now) (g.P.Sink.items a.sink.now) t (g.C.Cursor.left a.cursor.now)) p c.requires.able in
    let s : a.k ≤ length (g.C.Cursor.left a.cursor.now) = omega (arith, e.0, needed_values a.k) in
    record {
      some = s;
      fits = sym (ap (λ t. fits (g.P.Sink.room a.sink.now) (g.P.Sink.items a.sink.now ++ t)) (filled_values (g.P.Sink.room a.sink.now).blank a.k (g.C.Cursor.left a.cursor.now) s)) ∙ e.1;
    }

pub returns-clause-page : goal.returns-clause-page
returns-clause-page g c =
    let a = c.args in
    elim c.if-optional.branch [
      | then-optional w ↦ flat_is a.optional _ _ w.if-optional.true ∙ ap (λ v. flat (to_come v)) w.page-is ∙ w.extend_from_decoder.ensures.page ∙ ap (drop a.k) (sym (flat_is a.optional a.rows a.page.now w.if-optional.true))
      | else-optional w ↦ all_are a.optional _ _ w.if-optional.false ∙ sym (ap (drop a.k) (all_are a.optional a.rows a.page.now w.if-optional.false) ∙ drop-replicate a.k a.rows true)
    ]

pub returns-clause-left : goal.returns-clause-left
returns-clause-left g c =
    let a = c.args in
    let vs = g.C.Cursor.left a.cursor.now in
    elim c.if-optional.branch [
      | then-optional w ↦ ap g.C.Cursor.left w.cursor-is ∙ w.extend_from_decoder.ensures.fills.left ∙ ap (λ t. drop (needed (take a.k t)) vs) (sym (flat_is a.optional a.rows a.page.now w.if-optional.true))
      | else-optional w ↦ ap g.C.Cursor.left w.cursor-is ∙ w.extend_required.ensures.left ∙ ap (λ n. drop n vs) (sym (ap needed (first_all a.optional a.rows a.k a.page.now w.if-optional.false c.requires.rows) ∙ needed_values a.k))
    ]

pub returns-clause-items : goal.returns-clause-items
returns-clause-items g c =
    let a = c.args in
    let vs = g.C.Cursor.left a.cursor.now in
    let b = (g.P.Sink.room a.sink.now).blank in
    elim c.if-optional.branch [
      | then-optional w ↦ ap g.P.Sink.items w.sink-is ∙ w.extend_from_decoder.ensures.fills.items ∙ ap (λ t. g.P.Sink.items a.sink.now ++ filled b (take a.k t) vs) (sym (flat_is a.optional a.rows a.page.now w.if-optional.true))
      | else-optional w ↦
          let p = first_all a.optional a.rows a.k a.page.now w.if-optional.false c.requires.rows in
          let e = subst (λ t. Able (g.P.Sink.room a.sink.now) (g.P.Sink.items a.sink.now) t vs) p c.requires.able in
          ap g.P.Sink.items w.sink-is ∙ w.extend_required.ensures.items ∙ ap (λ t. g.P.Sink.items a.sink.now ++ t) (sym (ap (λ t. filled b t vs) p ∙ filled_values b a.k vs (omega (arith, e.0, needed_values a.k))))
    ]
