-- What a delivery comes to. A value is here the list of its bytes (of a bit: the bit).
use Rattle.std.specs.Prelude.{ℕ, zero, suc, ◌+◌, ◌-◌, ◌*◌, ◌/◌, ◌%◌, ◌^◌, Bool, true, false, cond, ◌&&◌, List, [], ◌∷◌, map, length, take, drop, replicate, Some, None, Ok, Err, Option, Result, ◌==◌, nat_le, slice_index}
use Rattle.hybrid_rle.specs.Runs.{fields, runs}
use Rattle.values.specs.Little.{little}
use Rattle.hybrid_rle.specs.Rows.{present, flat}
use Rattle.hybrid_rle.specs.declared.header.Broken.{Broken}
use Rattle.std.specs.List.{flat_map, slice_get}
use Rattle.pages.specs.Delivered.{Delivered, page, dict, fault}
use Rattle.faults.specs.declared.types.Cause.{Cause}
use Rattle.faults.specs.declared.types.Cause.TheVariants.{Source, Rows, Flag, Encoding, NoDictionary, Validity, Values, Index, Dictionary}
use Rattle.faults.specs.Faults.{then_do}
use Rattle.holders.specs.declared.types.Form.{Form}
use Rattle.holders.specs.declared.types.Form.TheVariants.{Four, Eight, Bits, Arrays}

-- go on with what there is
abbrev pub some_then : {A B : Type 0} → Option A → (A → Option B) → Option B
some_then (Some x) f = f x
some_then None f = None

-- a thing that must be there, or else the cause
abbrev pub or_else : {A : Type 0} → Cause → Option A → Result A Cause
or_else e (Some x) = Ok x
or_else e None = Err e

abbrev pub put : {A : Type 0} → A → Option (List A) → Option (List A)
put x o = some_then o (λ xs. Some (x ∷ xs))

-- n parts of w bytes each
abbrev pub parts : ℕ → ℕ → List ℕ → List (List ℕ)
parts w zero bs = []
parts w (suc n) bs = take w bs ∷ parts w n (drop w bs)

-- a 4-byte length and that many bytes: they, and the bytes after them
abbrev pub counted : List ℕ → Option (List ℕ × List ℕ)
counted bs = cond (nat_le 4 (length bs)) (cond (nat_le (little (take 4 bs)) (length bs - 4)) (Some (take (little (take 4 bs)) (drop 4 bs), drop (little (take 4 bs)) (drop 4 bs))) None) None

-- n such values; later bytes are not looked at
abbrev pub arrays_in : ℕ → List ℕ → Option (List (List ℕ))
arrays_in zero bs = Some []
arrays_in (suc n) bs = some_then (counted bs) (λ p. put p.0 (arrays_in n p.1))

-- n elements of w bytes: a required page has no more, an optional one a whole number of them
abbrev pub fixed : ℕ → Bool → ℕ → List ℕ → Option (List (List ℕ))
fixed w true n bs = cond (length bs % w == 0 && nat_le (n * w) (length bs)) (Some (parts w n bs)) None
fixed w false n bs = cond (length bs == n * w) (Some (parts w n bs)) None

-- the needed values of plain bytes, where the rule for plain values holds
abbrev pub plain : Form → Bool → ℕ → List ℕ → Option (List (List ℕ))
plain Four o n bs = fixed 4 o n bs
plain Eight o n bs = fixed 8 o n bs
plain Bits o n bs = cond (nat_le ((n + 7) / 8) (length bs)) (Some (map (λ b. b ∷ []) (fields 1 n bs 0))) None
plain Arrays o n bs = arrays_in n bs

-- the entries of a dictionary body
abbrev pub entries : Form → ℕ → List ℕ → Option (List (List ℕ))
entries Four n bs = fixed 4 false n bs
entries Eight n bs = fixed 8 false n bs
entries Bits n bs = None
entries Arrays n bs = arrays_in n bs

-- the entries of a dictionary page, if there are not too many
abbrev pub dictionary : Form → ℕ → List ℕ → Option (List (List ℕ))
dictionary f n bs = cond (nat_le n 1048576) (entries f n bs) None

-- whether the dictionary encodings are read
abbrev pub coded : Form → Bool
coded Four = true
coded Eight = true
coded Bits = false
coded Arrays = true

abbrev pub no_fault : {A : Type 0} → Cause → Result A Broken → Result A Cause
no_fault e (Ok x) = Ok x
no_fault e (Err b) = Err e

-- the first byte, a width of at most 32, and the bytes after it
abbrev pub width_of : List ℕ → Result (ℕ × List ℕ) Cause
width_of bs = cond (nat_le 1 (length bs)) (cond (nat_le (slice_index bs 0) 32) (Ok (slice_index bs 0, drop 1 bs)) (Err Values)) (Err Values)

-- dictionary indices: the width, then a hybrid stream
abbrev pub indices : ℕ → List ℕ → Result (List ℕ) Cause
indices n bs =
    then_do (width_of bs) (λ p.
    then_do (no_fault Values (runs p.0 (2 ^ 32 - 1) n p.1)) (λ xss. Ok (flat_map (λ xs. xs) xss)))

-- the entries that the indices name, if each is below the entries
abbrev pub chosen : {A : Type 0} → List A → List ℕ → Option (List A)
chosen es [] = Some []
chosen es (i ∷ is) = some_then (slice_get es i) (λ x. put x (chosen es is))

-- validity: which rows are present; and the bytes of the values
abbrev pub split : Bool → ℕ → List ℕ → Result (List Bool × List ℕ) Cause
split false n bs = Ok (replicate n true, bs)
split true n bs =
    then_do (or_else Validity (counted bs)) (λ p.
    then_do (no_fault Validity (runs 1 1 n p.0)) (λ xss. Ok (flat (map (map present) xss), p.1)))

-- how many rows are present
abbrev pub needed : List Bool → ℕ
needed [] = 0
needed (true ∷ ps) = suc (needed ps)
needed (false ∷ ps) = needed ps

-- rows: null or the next value; a null uses up none
abbrev pub spread : {A : Type 0} → List Bool → List A → List (Option A)
spread [] vs = []
spread (false ∷ ps) vs = None ∷ spread ps vs
spread (true ∷ ps) [] = []
spread (true ∷ ps) (v ∷ vs) = Some v ∷ spread ps vs

-- faults 6 and 7; then the entries to use, or none if the values are plain
abbrev pub encoded : Form → Option (List (List ℕ)) → ℕ → Result (Option (List (List ℕ))) Cause
encoded f d e =
    cond (e == 0) (Ok None)
    (cond (coded f && cond (e == 2) true (e == 8)) (then_do (or_else NoDictionary d) (λ es. Ok (Some es))) (Err Encoding))

-- faults 9 and 10
abbrev pub values : Form → Bool → Option (List (List ℕ)) → ℕ → List ℕ → Result (List (List ℕ)) Cause
values f o None n bs = or_else Values (plain f o n bs)
values f o (Some es) n bs = then_do (indices n bs) (λ is. or_else Index (chosen es is))

-- fault 4
abbrev pub few : ℕ → Result (Unit {0}) Cause
few n = cond (nat_le n 1048576) (Ok tt) (Err Rows)

-- fault 5
abbrev pub flagged : Bool → Bool → Result (Unit {0}) Cause
flagged true true = Ok tt
flagged false false = Ok tt
flagged true false = Err Flag
flagged false true = Err Flag

-- a data page: its rows, or the first fault
abbrev pub page_rows : Form → Bool → Option (List (List ℕ)) → ℕ → ℕ → Bool → List ℕ → Result (List (Option (List ℕ))) Cause
page_rows f o d n e flag bs =
    then_do (few n) (λ _.
    then_do (flagged o flag) (λ _.
    then_do (encoded f d e) (λ es.
    then_do (split o n bs) (λ s.
    then_do (values f o es (needed s.0) s.1) (λ vs.
    Ok (spread s.0 vs))))))

-- a dictionary page: the dictionary held from now on, or the first fault
abbrev pub dict_held : Form → Option (List (List ℕ)) → ℕ → List ℕ → Result (Option (List (List ℕ))) Cause
dict_held f d n bs = cond (coded f) (then_do (few n) (λ _. then_do (or_else Dictionary (entries f n bs)) (λ es. Ok (Some es)))) (Ok d)

-- what a delivery comes to
pub data Verdict (Dict Row : Type 0) : Type 0 where
  Page : List Row → Verdict Dict Row
  Holds : Option Dict → Verdict Dict Row
  Fault : Cause → Verdict Dict Row

abbrev pub as_page : {D R : Type 0} → Result (List R) Cause → Verdict D R
as_page (Ok rs) = Page rs
as_page (Err e) = Fault e

abbrev pub as_dict : {D R : Type 0} → Result (Option D) Cause → Verdict D R
as_dict (Ok d) = Holds d
as_dict (Err e) = Fault e

abbrev pub judge : Form → Bool → Option (List (List ℕ)) → Delivered → Verdict (List (List ℕ)) (Option (List ℕ))
judge f o d (page n e flag bs) = as_page (page_rows f o d n e flag bs)
judge f o d (dict n bs) = as_dict (dict_held f d n bs)
judge f o d (fault k) = Fault (Source k)
