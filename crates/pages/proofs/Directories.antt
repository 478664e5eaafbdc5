-- What heads deliver, one after the other.
use Rattle.std.proofs.Common.{◌≡◌, ℕ, ◌+◌, true, false, ltb, List, [], ◌∷◌, ◌++◌, length, Some, sym, refl, ap, ◌∙◌, append_assoc, arith, length-append}
use Rattle.std.proofs.lemmas.Bool.{le-ltb}
use Rattle.std.proofs.lemmas.List.{take_at, drop_at}
use Rattle.pages.specs.Delivered.{Delivered, page, dict, fault}
use Rattle.pages.specs.Heads.{part_of, headed, listed}
use Rattle.pages.specs.Laid.{Page, AllPages, body_of, head_at, bodies, heads_from, DeliversWhatWasLaid}

-- a body comes out of the bytes it lies between
part_back : (before body after : List ℕ) → part_of (before ++ (body ++ after)) (length before) (length body) ≡ Some body
part_back before body after =
    let inside : ltb (length (before ++ (body ++ after))) (length before + length body) ≡ false
    = le-ltb _ _ (simp length-append (omega arith)) in
    rw (inside, drop_at before (body ++ after) (length before) refl, take_at body after (length body) refl)

headed_back : (before after : List ℕ) (d : Delivered) → Page d
    → headed (before ++ (body_of d ++ after)) (head_at (length before) d) ≡ d
headed_back before after (page rows encoding true body) h = rw (part_back before body after)
headed_back before after (page rows encoding false body) h = rw (part_back before body after)
headed_back before after (dict entries body) h = rw (part_back before body after)
headed_back before after (fault n) h = absurd h

laid : (buffer before after : List ℕ) (ds : List Delivered) → AllPages ds → buffer ≡ before ++ (bodies ds ++ after)
    → listed buffer (heads_from (length before) ds) ≡ ds
laid buffer before after [] h e = refl
laid buffer before after (d ∷ ds) h e =
    let more = bodies ds ++ after in
    let whole : buffer ≡ before ++ (body_of d ++ more)
    = e ∙ ap (λ (xs : List ℕ). before ++ xs) (append_assoc (body_of d) (bodies ds) after) in
    let here : headed buffer (head_at (length before) d) ≡ d = rw whole (headed_back before more d h.0) in
    let later = laid buffer (before ++ body_of d) after ds h.1 (whole ∙ sym (append_assoc before (body_of d) more)) in
    let rest = rw (length-append before (body_of d)) at later in
    rw here (ap (λ (xs : List Delivered). d ∷ xs) rest)

pub delivers_what_was_laid : DeliversWhatWasLaid
delivers_what_was_laid before after ds h = laid (before ++ (bodies ds ++ after)) before after ds h refl
