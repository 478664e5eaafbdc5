-- What a holder means: the rows not used yet, and the entries of the dictionary.
use Rattle.std.specs.Prelude.{ℕ, Bool, List, map, Ok, Err, Option, Result}
use Rattle.faults.specs.declared.types.Cause.{Cause}
use Rattle.holders.specs.Judge.{spread, Verdict, Page, Holds, Fault, as_page, as_dict, page_rows, dict_held}
use Rattle.holders.specs.Left.{present_left, held_entries}
use Rattle.values.specs.Values.{Value, Row}
use Rattle.holders.specs.Cursors.{to_give}
use Rattle.holders.specs.Columns.{row_of}
use Rattle.holders.specs.declared.forms.PageForm.{Ghosts}
use Rattle.holders.specs.declared.holder.Holder.{Holder}

abbrev pub unused : {F : Type 0} {g : Ghosts F} → Holder F g → List (Option (List ℕ))
unused h = spread (present_left h.column.optional h.rows h.validity) (to_give h.values)

abbrev pub held : {F : Type 0} {g : Ghosts F} → Holder F g → Option (List (List ℕ))
held h = held_entries h.dict

abbrev pub answered : {D R : Type 0} → Verdict D R → Result (Unit {0}) Cause
answered (Page rs) = Ok tt
answered (Holds d) = Ok tt
answered (Fault e) = Err e

-- the rows of a sound page take the place of those held
abbrev pub rows_after : {D R : Type 0} → Verdict D R → List R → List R
rows_after (Page rs) old = rs
rows_after (Holds d) old = old
rows_after (Fault e) old = old

abbrev pub held_after : {D R : Type 0} → Verdict D R → Option D → Option D
held_after (Page rs) old = old
held_after (Holds d) old = d
held_after (Fault e) old = old

-- what a page comes to, and a dictionary, with what is held
abbrev pub page_verdict : {F : Type 0} {g : Ghosts F} → Holder F g → ℕ → ℕ → Bool → List ℕ → Verdict (List (List ℕ)) (Option (List ℕ))
page_verdict h n e flag bs = as_page (page_rows h.column.form h.column.optional (held h) n e flag bs)

abbrev pub dict_verdict : {F : Type 0} {g : Ghosts F} → Holder F g → ℕ → List ℕ → Verdict (List (List ℕ)) (Option (List ℕ))
dict_verdict h n bs = as_dict (dict_held h.column.form (held h) n bs)

-- the rows not used yet, each null or its converted value
abbrev pub unused_as : {F : Type 0} {g : Ghosts F} → (List ℕ → Value) → Holder F g → List Row
unused_as f h = map (row_of f) (unused h)
