-- What is left of a page's values.
use Rattle.std.specs.Prelude.{ℕ, ◌+◌, ◌-◌, ◌*◌, ◌^◌, min, Bool, true, false, cond, ◌&&◌, List, [], ◌∷◌, ◌++◌, map, length, replicate, Some, None, Ok, Err, Option, Result, ◌==◌, nat_le}
use Rattle.std.specs.List.{flat_map}
use Rattle.hybrid_rle.specs.Runs.{fields, runs}
use Rattle.hybrid_rle.specs.Rows.{flat}
use Rattle.hybrid_rle.specs.Cursor.{to_come}
use Rattle.hybrid_rle.specs.declared.header.Broken.{Broken}
use Rattle.hybrid_rle.specs.declared.validity.OptionalPageValidity.{OptionalPageValidity}
use Rattle.holders.specs.Judge.{some_then, parts, arrays_in, dictionary, chosen}
use Rattle.holders.specs.declared.types.Form.{Form}
use Rattle.holders.specs.declared.types.Form.TheVariants.{Four, Eight, Bits, Arrays}
use Rattle.holders.specs.declared.types.Dict.{Dict}
use Rattle.hybrid_rle.specs.declared.piece.Piece.{Piece}
use Rattle.hybrid_rle.specs.declared.piece.Piece.TheVariants.{Bitmap, Repeated}
use Rattle.holders.specs.declared.types.Indices.{Indices}
use Rattle.holders.specs.declared.types.Values.{Values}
use Rattle.holders.specs.declared.types.Values.TheVariants.{Plain, Coded}

-- n elements of w bytes, if there are so many
abbrev pub at_least : ℕ → ℕ → List ℕ → Option (List (List ℕ))
at_least w n bs = cond (nat_le (n * w) (length bs)) (Some (parts w n bs)) None

-- n plain values from bit `at` (of bits) or from the front
abbrev pub plain_left : Form → ℕ → List ℕ → ℕ → Option (List (List ℕ))
plain_left Four n bs at = at_least 4 n bs
plain_left Eight n bs at = at_least 8 n bs
plain_left Bits n bs at = cond (nat_le (at + n) (min (8 * length bs) (2 ^ 26))) (Some (map (λ b. b ∷ []) (fields 1 n bs at))) None
plain_left Arrays n bs at = arrays_in n bs

-- those of the current run, if its bytes have them
abbrev pub current_numbers : ℕ → Option (Piece ℕ) → Option (List ℕ)
current_numbers w (Some (Bitmap bs at n)) = cond (nat_le (at + n * w) (min (8 * length bs.now) (2 ^ 26))) (Some (fields w n bs.now at)) None
current_numbers w (Some (Repeated v n)) = Some (replicate n v)
current_numbers w None = Some []

abbrev pub ok_some : {A B : Type 0} → Result A B → Option A
ok_some (Ok x) = Some x
ok_some (Err e) = None

-- the indices to come: those of the current run, and `left` more of the stream
abbrev pub numbers_left : Option (List ℕ) → Result (List (List ℕ)) Broken → Option (List ℕ)
numbers_left c r = some_then c (λ is. some_then (ok_some r) (λ xss. Some (is ++ flat_map (λ xs. xs) xss)))

abbrev pub indices_left : Indices → Option (List ℕ)
indices_left i = cond (nat_le i.runs.w 32 && nat_le i.runs.left 1048576) (numbers_left (current_numbers i.runs.w i.current) (runs i.runs.w (2 ^ 32 - 1) i.runs.left i.runs.rest.now)) None

abbrev pub dict_entries : Dict → Option (List (List ℕ))
dict_entries d = dictionary d.form d.entries d.body.now

-- the n values to come
abbrev pub values_left : Form → ℕ → Values → Option (List (List ℕ))
values_left f n (Plain bs at) = plain_left f n bs.now at
values_left f n (Coded d i) = some_then (dict_entries d) (λ es. some_then (indices_left i) (λ is. cond (length is == n) (chosen es is) None))

-- the rows to come, by presence
abbrev pub present_left : Bool → ℕ → OptionalPageValidity → List Bool
present_left true n v = flat (to_come v)
present_left false n v = replicate n true

abbrev pub held_entries : Option Dict → Option (List (List ℕ))
held_entries None = None
held_entries (Some d) = dict_entries d

abbrev pub or_none : {A : Type 0} → Option (List A) → List A
or_none (Some xs) = xs
or_none None = []

-- the form of the dictionary held, if there is one
abbrev pub dict_form : Form → Option Dict → Form
dict_form f None = f
dict_form f (Some d) = d.form
