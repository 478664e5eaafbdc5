-- Rows that go from a held page into a chunk.
use Rattle.std.specs.Prelude.{ℕ, ◌+◌, Bool, ◌&&◌, List, length, take, Ok, Err, Result, nat_le}
use Rattle.faults.specs.declared.types.Cause.{Cause}
use Rattle.values.specs.Values.{Value, Row, Room, weights, stands}
use Rattle.model.specs.Model.{bits_due, Setup, Verdict, Page, Holds, Broken}

-- a chunk size, the sink's room and the validity's
abbrev pub setup : ℕ → Room → ℕ → Setup
setup c r n = record { size = c; rows = r.rows; bytes = r.bytes; bits = n; blank = r.blank }

-- there are k rows, and the sink (vs, room r) and the validity (bs, room n) have room for them
abbrev pub room_for : Bool → Room → ℕ → ℕ → List Row → List Value → List Bool → Bool
room_for optional r n k us vs bs =
    nat_le k (length us) && nat_le (length vs + k) r.rows && nat_le (bits_due optional (length bs + k)) n && nat_le (weights vs + weights (stands r.blank (take k us))) r.bytes

-- a holder's answer to a delivery
abbrev pub answered : Verdict → Result (Unit {0}) Cause
answered (Page rs) = Ok tt
answered (Holds o) = Ok tt
answered (Broken c) = Err c

-- the unused rows after a delivery: a sound page's rows take the place of those held
abbrev pub rows_after : Verdict → List Row → List Row
rows_after (Page rs) old = rs
rows_after (Holds o) old = old
rows_after (Broken c) old = old
