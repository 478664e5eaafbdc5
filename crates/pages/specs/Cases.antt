use Rattle.std.specs.Prelude.{◌≡◌, ℕ, true, List, [], ◌∷◌}
use Rattle.pages.specs.Delivered.{Delivered, page, dict, fault}
use Rattle.pages.specs.Commands.{streamed}

-- one case: the bytes of a stream, and its deliveries
pub record Case : Type 0 where
  pub bytes : List ℕ
  pub gives : List Delivered

abbrev pub table : List Case
table =
    record { bytes = []; gives = [] }
    ∷ record {
      bytes = 0x50 ∷ 2 ∷ 0 ∷ 0 ∷ 0 ∷ 0 ∷ 1 ∷ 10 ∷ 0 ∷ 0 ∷ 0 ∷ 2 ∷ 0 ∷ 0 ∷ 0 ∷ 3 ∷ 1 ∷ 18 ∷ 0 ∷ 0 ∷ 0 ∷ [];
      gives = page 2 0 true (2 ∷ 0 ∷ 0 ∷ 0 ∷ 3 ∷ 1 ∷ 18 ∷ 0 ∷ 0 ∷ 0 ∷ []) ∷ [];
    }
    ∷ record { bytes = 0x44 ∷ 1 ∷ 0 ∷ 0 ∷ 0 ∷ 1 ∷ 0 ∷ 0 ∷ 0 ∷ 7 ∷ 9 ∷ 9 ∷ []; gives = dict 1 (7 ∷ []) ∷ fault 1 ∷ [] }
    ∷ record { bytes = 0x50 ∷ 0 ∷ 0 ∷ 0 ∷ 0 ∷ 0 ∷ 2 ∷ 1 ∷ 0 ∷ 0 ∷ 0 ∷ []; gives = fault 2 ∷ [] }
    ∷ record { bytes = 0x50 ∷ 0 ∷ 0 ∷ 0 ∷ 0 ∷ 0 ∷ 2 ∷ 0 ∷ 0 ∷ 0 ∷ 0 ∷ []; gives = fault 3 ∷ [] }
    ∷ []

abbrev pub EachHolds : List Case → Type 0
EachHolds [] = Unit {0}
EachHolds (k ∷ ks) = (streamed k.bytes ≡ k.gives) × EachHolds ks

abbrev pub CasesHold : Type 0
CasesHold = EachHolds table
