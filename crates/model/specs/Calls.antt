-- What each call answers and leaves, as the contracts of the calls say it.
use Rattle.std.specs.Prelude.{◌≡◌, ℕ, ◌+◌, ◌-◌, Bool, cond, ◌&&◌, ◌||◌, List, [], ◌∷◌, length, Some, None, Option, ◌==◌, nat_lt}
use Rattle.values.specs.Values.{Row, asked_at}
use Rattle.pages.specs.Delivered.{Delivered}
use Rattle.faults.specs.declared.types.Cause.{Cause}
use Rattle.faults.specs.declared.types.Cause.TheVariants as cause
use Rattle.model.specs.Model.{Column, Setup, Phase, Filling, Ready, Ended, Closed, Read, Answer, More, Chunk, End, Refused, Event, Next, Take, RowAt, Close, chunk, in_phase, appended, delivered, taken, fitting, told, one_more, faulted, verdict, bytes_then, bits_due, capacity, fresh, Run}

pub data Call : Type 0 where
  ToNext : Call
  ToTake : Call
  ToRow : ℕ → Call
  ToClose : Call

-- an answer of next and what it leaves
abbrev pub Outcome : Type 0
Outcome = Answer × Read

abbrev pub refused : Cause → Read → Outcome
refused c s = (Refused (faulted c s.counted), s)

module _ (column : Column) (u : Setup) where
  -- the held page is used up
  abbrev pub from_source : Read → List Delivered → Outcome
  from_source s [] = cond (nat_lt 0 s.pending) (Chunk, in_phase Ready s) (End, in_phase Ended s)
  from_source s (d ∷ ds) = (told (verdict column s.held d) (one_more s.counted), delivered (verdict column s.held d) ds s)

  abbrev pub filled : Read → Bool
  filled s = s.pending + fitting u s == u.size || s.remaining - fitting u s == 0

  abbrev pub from_page : Read → List Row → Outcome
  from_page s [] = from_source s s.source
  from_page s (x ∷ xs) =
      cond (nat_lt u.bytes (bytes_then column u s)) (refused cause.ChunkBytes s)
      (cond (filled s) (Chunk, appended column u (fitting u s) Ready s) (More, appended column u (fitting u s) Filling s))

  abbrev pub matching : Read → Bool
  matching s = length s.values == s.pending && length s.bits == bits_due column.optional s.pending

  abbrev pub next_of : Read → Outcome
  next_of s =
      cond (matching s)
      (cond (nat_lt (capacity column.optional u) u.size) (refused cause.ChunkMemory s)
      (cond (s.remaining == 0) (End, in_phase Ended s) (from_page s s.unused)))
      (refused cause.ChunkRows s)

  -- a call and what it leaves, or nothing where the phase does not allow it
  abbrev pub perform : Read → Phase → Call → Option (Event × Read)
  perform s Filling ToNext = Some (Next (next_of s).0, (next_of s).1)
  perform s Filling ToTake = None
  perform s Filling (ToRow i) = Some (RowAt i (asked_at s.values s.bits i), s)
  perform s Filling ToClose = None
  perform s Ready ToNext = None
  perform s Ready ToTake = Some (Take (chunk s), taken s)
  perform s Ready (ToRow i) = Some (RowAt i (asked_at s.values s.bits i), s)
  perform s Ready ToClose = None
  perform s Ended ToNext = None
  perform s Ended ToTake = None
  perform s Ended (ToRow i) = None
  perform s Ended ToClose = Some (Close s.handed s.counted, in_phase Closed s)
  perform s Closed c = None

  abbrev pub noted : Option (Event × Read) → Read → (Read → List Event × Read) → List Event × Read
  noted None s f = f s
  noted (Some o) s f = (o.0 ∷ (f o.1).0, (f o.1).1)

  -- a list of calls, those that the phase does not allow left out: the calls made with their answers, and what they leave
  abbrev pub made : Read → List Call → List Event × Read
  made s [] = ([], s)
  made s (c ∷ cs) = noted (perform s s.phase c) s (λ m. made m cs)

  -- every run of a fresh read is what some list of calls makes
  abbrev pub ListsReach : Type 0
  ListsReach = (limit : ℕ) (ds : List Delivered) (es : List Event) (t : Read) → Run column u (fresh limit ds) es t → (cs : List Call) × (made (fresh limit ds) cs ≡ (es, t))
