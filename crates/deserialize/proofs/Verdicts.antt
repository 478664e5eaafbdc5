-- What a held delivery comes to, before and after its values are converted.
use Rattle.std.proofs.Common.{◌≡◌, ℕ, Bool, List, map, Option, sym, refl, ap, ◌∙◌}
use Rattle.pages.specs.Delivered.{Delivered, page, dict, fault}
use Rattle.values.specs.Values.{Value}
use Rattle.model.specs.Model as model
use Rattle.model.specs.Model.{Dict}
use Rattle.model.specs.Rooms as rooms
use Rattle.holders.specs.Judge.{Verdict, Page, Holds, Fault, judge}
use Rattle.holders.specs.Columns.{row_of, converted, column_of}
use Rattle.holders.specs.Holding as holding
use Rattle.holders.specs.declared.types.Form.{Form}

verdict_is : (form : Form) (f : List ℕ → Value) (o : Bool) (h : Option Dict) (d : Delivered) → model.verdict (column_of form f o) h d ≡ converted f (judge form o h d)
verdict_is form f o h (page n e flag bs) = refl
verdict_is form f o h (dict n bs) = refl
verdict_is form f o h (fault k) = refl

abbrev Raw : Type 0
Raw = Verdict (List (List ℕ)) (Option (List ℕ))

answered_is : (f : List ℕ → Value) (v : Raw) → holding.answered v ≡ rooms.answered (converted f v)
answered_is f (Page rs) = refl
answered_is f (Holds d) = refl
answered_is f (Fault e) = refl

rows_is : (f : List ℕ → Value) (v : Raw) (us : List (Option (List ℕ))) → map (row_of f) (holding.rows_after v us) ≡ rooms.rows_after (converted f v) (map (row_of f) us)
rows_is f (Page rs) us = refl
rows_is f (Holds d) us = refl
rows_is f (Fault e) us = refl

held_is : (f : List ℕ → Value) (v : Raw) (h : Option Dict) → holding.held_after v h ≡ model.held_after (converted f v) h
held_is f (Page rs) h = refl
held_is f (Holds d) h = refl
held_is f (Fault e) h = refl

module _ (form : Form) (f : List ℕ → Value) (o : Bool) (h : Option Dict) (d : Delivered) where
  pub judged_answer : holding.answered (judge form o h d) ≡ rooms.answered (model.verdict (column_of form f o) h d)
  judged_answer = answered_is f (judge form o h d) ∙ ap rooms.answered (sym (verdict_is form f o h d))

  pub judged_rows : (us : List (Option (List ℕ))) → map (row_of f) (holding.rows_after (judge form o h d) us) ≡ rooms.rows_after (model.verdict (column_of form f o) h d) (map (row_of f) us)
  judged_rows us = rows_is f (judge form o h d) us ∙ ap (λ v. rooms.rows_after v (map (row_of f) us)) (sym (verdict_is form f o h d))

  pub judged_held : holding.held_after (judge form o h d) h ≡ model.held_after (model.verdict (column_of form f o) h d) h
  judged_held = held_is f (judge form o h d) h ∙ ap (λ v. model.held_after v h) (sym (verdict_is form f o h d))
