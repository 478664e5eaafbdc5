use Rattle.std.proofs.Common.{◌≡◌, ℕ, ◌+◌, ◌*◌, ◌/◌, ◌%◌, ◌<◌, Bool, true, false, ltb, List, [], ◌∷◌, ◌++◌, length, Some, refl, ap, append_assoc, arith, length-append}
use Rattle.std.proofs.lemmas.Bool.{le-ltb}
use Rattle.std.proofs.lemmas.List.{take_at, drop_at}
use Rattle.pages.specs.Delivered.{Delivered, page, dict, fault}
use Rattle.pages.specs.Commands.{command, dictionary_page_of, data_page_of, flagged}
use Rattle.pages.specs.Written.{written, Writable, all_written, flag_byte, DeliversWhatWasWritten}
use Rattle.pages.proofs.Streams.{streamed_step}

-- four bytes back into their number
pub from_bytes : (n : ℕ) → n % 256 + n / 256 % 256 * 256 + n / 256 / 256 % 256 * 65536 + n / 256 / 256 / 256 * 16777216 ≡ n
from_bytes n = omega arith

-- a body of the length that was written comes out whole, and so does what is after it
dict_back : (e : ℕ) (body rest : List ℕ)
    → dictionary_page_of e (length body) (body ++ rest) ≡ record { what = dict e body; left = rest }
dict_back e body rest =
    let long : ltb (length (body ++ rest)) (length body) ≡ false
    = le-ltb _ _ (simp length-append (omega arith)) in
    rw (long, take_at body rest (length body), drop_at body rest (length body))

flag_back : (f : Bool) → flagged (flag_byte f) ≡ Some f
flag_back true = refl
flag_back false = refl

data_back : (r e : ℕ) (f : Bool) (body rest : List ℕ)
    → data_page_of r e (flag_byte f) (length body) (body ++ rest) ≡ record { what = page r e f body; left = rest }
data_back r e f body rest =
    let long : ltb (length (body ++ rest)) (length body) ≡ false
    = le-ltb _ _ (simp length-append (omega arith)) in
    rw (long, take_at body rest (length body), drop_at body rest (length body), flag_back f)

command_back : (d : Delivered) (rest : List ℕ) → Writable d → command (written d ++ rest) ≡ record { what = d; left = rest }
command_back (page rows encoding flag body) rest h =
    let long : ltb (length (written (page rows encoding flag body) ++ rest)) 11 ≡ false
    = le-ltb (length (written (page rows encoding flag body) ++ rest)) 11 (omega arith) in
    rw (long, from_bytes rows, from_bytes (length body)) (data_back rows encoding flag body rest)
command_back (dict entries body) rest h =
    let long : ltb (length (written (dict entries body) ++ rest)) 9 ≡ false
    = le-ltb (length (written (dict entries body) ++ rest)) 9 (omega arith) in
    rw (long, from_bytes entries, from_bytes (length body)) (dict_back entries body rest)
command_back (fault n) rest h = absurd h

written_some : (d : Delivered) (rest : List ℕ) → Writable d → 0 < length (written d ++ rest)
written_some (page rows encoding flag body) rest h = omega arith
written_some (dict entries body) rest h = omega arith
written_some (fault n) rest h = absurd h

pub delivers_what_was_written : DeliversWhatWasWritten
delivers_what_was_written [] rest h = refl
delivers_what_was_written (d ∷ ds) rest h =
    let more = all_written ds ++ rest in
    let back = command_back d more h.0 in
    rw (append_assoc (written d) (all_written ds) rest, streamed_step (written d ++ more) (written_some d more h.0), back)
    (ap (λ (xs : List Delivered). d ∷ xs) (delivers_what_was_written ds rest h.1))
