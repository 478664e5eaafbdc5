-- What a list of calls on a fresh read comes to, call by call, and what holds of it.
use Rattle.std.specs.Prelude.{◌≡◌, ℕ, ◌+◌, ◌*◌, ◌≤◌, List, [], ◌∷◌, ◌++◌, map, length, Some, None, Option}
use Rattle.values.specs.Values.{Row, Asked}
use Rattle.pages.specs.Delivered.{Delivered}
use Rattle.model.specs.Model.{Column, Setup, Read, Answer, Event, Next, Take, RowAt, Close, fresh, Run}
use Rattle.model.specs.Calls.{Call, perform, made, ListsReach}
use Rattle.model.specs.Laws.{Accounts, tally, unrefused, is_chunk, given, handed_out, Over, RowsSeen}

-- what a call answered: nothing where the read does not allow it, the answer of next, the number of rows handed out, what row answered, the totals
pub data Said : Type 0 where
  Nothing : Said
  Answered : Answer → Said
  Handed : ℕ → Said
  Looked : Asked → Said
  Totals : ℕ → ℕ → Said

abbrev pub said_of : Event → Said
said_of (Next a) = Answered a
said_of (Take rs) = Handed (length rs)
said_of (RowAt i o) = Looked o
said_of (Close h g) = Totals h g

abbrev pub said : Option (Event × Read) → Said
said None = Nothing
said (Some o) = said_of o.0

abbrev pub left_by : Option (Event × Read) → Read → Read
left_by None s = s
left_by (Some o) s = o.1

-- the answers of the calls that were made
abbrev pub kept : List Said → List Said
kept [] = []
kept (Nothing ∷ xs) = kept xs
kept (Answered a ∷ xs) = Answered a ∷ kept xs
kept (Handed n ∷ xs) = Handed n ∷ kept xs
kept (Looked o ∷ xs) = Looked o ∷ kept xs
kept (Totals h g ∷ xs) = Totals h g ∷ kept xs

module _ (column : Column) (u : Setup) where
  -- what the calls answer, one after the other
  abbrev pub answers : Read → List Call → List Said
  answers s [] = []
  answers s (c ∷ cs) = said (perform column u s s.phase c) ∷ answers (left_by (perform column u s s.phase c) s) cs

  -- the calls made on a fresh read, with their answers
  abbrev pub events : ℕ → List Delivered → List Call → List Event
  events limit ds cs = (made column u (fresh limit ds) cs).0

  -- the calls cs on a fresh read over the deliveries ds answered xs and left t
  pub record Driven (limit : ℕ) (ds : List Delivered) (cs : List Call) (xs : List Said) (t : Read) : Type 0 where
    -- the answers and the read left are those of the calls made one after the other
    pub answered : xs ≡ answers (fresh limit ds) cs
    pub left : t ≡ (made column u (fresh limit ds) cs).1
    -- the answers are those of a run
    pub run : Run column u (fresh limit ds) (events limit ds cs) t
    pub told : kept xs ≡ map said_of (events limit ds cs)
    -- of which the laws hold
    pub accounts : Accounts column u limit ds (events limit ds cs) t
    pub bounded : tally unrefused (events limit ds cs) ≤ 1 + tally is_chunk (events limit ds cs) + 2 * given ds t
    pub extends : Over t.phase → (v : Setup) (n : ℕ) (more : List Delivered) (fs : List Event) (e : Read)
        → limit ≤ n → Run column v (fresh n (ds ++ more)) fs e → Over e.phase → (rest : List Row) × (handed_out fs ≡ handed_out (events limit ds cs) ++ rest)
    -- what row answers is the row of that number
    pub seen : RowsSeen
    -- and every run is one of such a list
    pub reach : ListsReach column u
