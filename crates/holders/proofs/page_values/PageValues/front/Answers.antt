use Rattle.std.proofs.Common.{◌≡◌, true, is_some, sym, ap, ◌∙◌, subst}
use Rattle.holders.specs.Left.{values_left, dict_entries, indices_left}
use Rattle.holders.proofs.Codes.{has_dict}
use Rattle.holders.proofs.Fronts.{some_index, index_below, coded_front}
use Rattle.holders.proofs.page_values.PageValues.front.Goals as goal

pub next-i-requires : goal.next-i-requires
next-i-requires c =
    let p = c.args.self in
    let s = subst (λ v. is_some (values_left p.form p.n v) ≡ true) c.in-Coded.is p.there in
    some_index (dict_entries c.in-Coded.dict) (indices_left c.in-Coded.indices) p.n s c.requires

pub get-value-requires : goal.get-value-requires
get-value-requires c =
    let p = c.args.self in
    let s = subst (λ v. is_some (values_left p.form p.n v) ≡ true) c.in-Coded.is p.there in
    index_below (dict_entries c.in-Coded.dict) _ (indices_left c.in-Coded.indices) p.n c.next-i.result c.in-Coded.dict.entries c.next-i.ensures s (has_dict c.in-Coded.dict)

pub returns-in-Coded : goal.returns-in-Coded
returns-in-Coded c =
    let p = c.args.self in
    let s = subst (λ v. is_some (values_left p.form p.n v) ≡ true) c.in-Coded.is p.there in
    coded_front (dict_entries c.in-Coded.dict) _ (indices_left c.in-Coded.indices) p.n c.next-i.result _ c.next-i.ensures s c.requires c.get-value.ensures ∙ sym (ap (values_left p.form p.n) c.in-Coded.is)
