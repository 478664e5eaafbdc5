use Rattle.std.proofs.Common.{◌++◌, take, drop, cond, [], sym, ap, ◌∙◌, subst}
use Rattle.values.specs.Values.{fits}
use Rattle.holders.specs.Filled.{filled, Able}
use Rattle.holders.specs.Judge.{needed}
use Rattle.holders.specs.Left.{present_left}
use Rattle.holders.specs.Cursors.{to_give}
use Rattle.holders.proofs.Keeps.{kept_rows, enough}
use Rattle.holders.proofs.Spreads.{enough_first, first_stands, first_validity}
use Rattle.holders.proofs.holder.Holder.append.Goals as goal

pub extend_rows-rows-requires-clause-able : goal.extend_rows-rows-requires-clause-able
extend_rows-rows-requires-clause-able g c =
    let h = c.args.self.now in
    let f = g.C.OverPage.value in
    let r = g.P.Sink.room c.args.sink.now in
    let its = g.P.Sink.items c.args.sink.now in
    let k = c.args.k in
    let ps = present_left h.column.optional h.rows h.validity in
    subst (λ t. Able r its (take k ps) t) (sym c.load.ensures) (
      enough_first f k ps (to_give h.values) (enough h),
      sym (ap (λ t. fits r (its ++ t)) (first_stands f k ps (to_give h.values) (enough h) r.blank)) ∙ c.requires.fits,
    )

pub invariant_of-self : goal.invariant_of-self
invariant_of-self g c =
    let h = c.args.self.now in
    let k = c.args.k in
    let e = c.extend_rows-rows.ensures in
    let l = kept_rows h g.C.OverPage.value k c.extend_rows-rows.result c.extend_rows-rows.new.page c.rest.result e.rows e.page (c.rest.ensures ∙ e.left ∙ ap (drop (needed (take k (present_left h.column.optional h.rows h.validity)))) c.load.ensures) in
    record { form = c.args.self.now.form; dictionary = c.args.self.now.dictionary; page = l.page; count = l.count }

pub returns-clause-unused : goal.returns-clause-unused
returns-clause-unused g c =
    let h = c.args.self.now in
    let k = c.args.k in
    let e = c.extend_rows-rows.ensures in
    (kept_rows h g.C.OverPage.value k c.extend_rows-rows.result c.extend_rows-rows.new.page c.rest.result e.rows e.page (c.rest.ensures ∙ e.left ∙ ap (drop (needed (take k (present_left h.column.optional h.rows h.validity)))) c.load.ensures)).rows

pub returns-clause-values : goal.returns-clause-values
returns-clause-values g c =
    let h = c.args.self.now in
    let f = g.C.OverPage.value in
    let b = (g.P.Sink.room c.args.sink.now).blank in
    let k = c.args.k in
    let ps = present_left h.column.optional h.rows h.validity in
    c.extend_rows-rows.ensures.items ∙ ap (λ t. g.P.Sink.items c.args.sink.now ++ t) (ap (filled b (take k ps)) c.load.ensures ∙ sym (first_stands f k ps (to_give h.values) (enough h) b))

pub returns-clause-bits : goal.returns-clause-bits
returns-clause-bits g c =
    let h = c.args.self.now in
    let ps = present_left h.column.optional h.rows h.validity in
    c.extend_rows-rows.ensures.bits ∙ ap (λ t. g.V.Validity.bits c.args.validity.now ++ cond h.column.optional t []) (sym (first_validity g.C.OverPage.value c.args.k ps (to_give h.values) (enough h)))
