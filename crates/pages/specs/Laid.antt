-- Pages laid one after the other into a buffer, and the heads that say where each lies.
use Rattle.std.specs.Prelude.{◌≡◌, ℕ, ◌+◌, true, false, List, [], ◌∷◌, ◌++◌, length}
use Rattle.pages.specs.Delivered.{Delivered, page, dict, fault}
use Rattle.pages.specs.Written.{flag_byte}
use Rattle.pages.specs.Heads.{listed}
use Rattle.pages.specs.declared.heads.Head.{Head}

-- a page, not a fault
abbrev pub Page : Delivered → Type 0
Page (page rows encoding flag body) = Unit {0}
Page (dict entries body) = Unit {0}
Page (fault n) = ⊥

abbrev pub AllPages : List Delivered → Type 0
AllPages [] = Unit {0}
AllPages (d ∷ ds) = Page d × AllPages ds

abbrev pub body_of : Delivered → List ℕ
body_of (page rows encoding flag body) = body
body_of (dict entries body) = body
body_of (fault n) = []

-- the head of a page whose body begins at a place
abbrev pub head_at : ℕ → Delivered → Head
head_at place (page rows encoding flag body) = record { sort = 1; encoding = encoding; flag = flag_byte flag; count = rows; place = place; length = length body }
head_at place (dict entries body) = record { sort = 0; encoding = 0; flag = 0; count = entries; place = place; length = length body }
head_at place (fault n) = record { sort = 2; encoding = 0; flag = 0; count = 0; place = place; length = 0 }

-- the bodies, one after the other
abbrev pub bodies : List Delivered → List ℕ
bodies [] = []
bodies (d ∷ ds) = body_of d ++ bodies ds

-- their heads, the first body beginning at a place
abbrev pub heads_from : ℕ → List Delivered → List Head
heads_from place [] = []
heads_from place (d ∷ ds) = head_at place d ∷ heads_from (place + length (body_of d)) ds

-- a directory over pages that were laid behind some bytes and before others delivers those pages, in order
abbrev pub DeliversWhatWasLaid : Type 0
DeliversWhatWasLaid =
    (before after : List ℕ) (ds : List Delivered) → AllPages ds
    → listed (before ++ (bodies ds ++ after)) (heads_from (length before) ds) ≡ ds

-- one case: a buffer, heads, and what they deliver
pub record HeadCase : Type 0 where
  pub buffer : List ℕ
  pub heads : List Head
  pub gives : List Delivered

-- each fault with a head that goes on after it; an empty part at the buffer's end lies inside, one beyond it outside
abbrev pub head_table : List HeadCase
head_table =
    record { buffer = 7 ∷ 8 ∷ 9 ∷ []; heads = []; gives = [] }
    ∷ record {
      buffer = 7 ∷ 8 ∷ 9 ∷ [];
      heads =
          record { sort = 0; encoding = 9; flag = 9; count = 1; place = 1; length = 2 }
          ∷ record { sort = 1; encoding = 2; flag = 1; count = 5; place = 0; length = 1 }
          ∷ record { sort = 1; encoding = 0; flag = 0; count = 0; place = 3; length = 0 }
          ∷ [];
      gives = dict 1 (8 ∷ 9 ∷ []) ∷ page 5 2 true (7 ∷ []) ∷ page 0 0 false [] ∷ [];
    }
    ∷ record {
      buffer = 7 ∷ 8 ∷ 9 ∷ [];
      heads =
          record { sort = 2; encoding = 0; flag = 2; count = 0; place = 4; length = 0 }
          ∷ record { sort = 1; encoding = 0; flag = 2; count = 0; place = 4; length = 0 }
          ∷ record { sort = 1; encoding = 0; flag = 2; count = 0; place = 0; length = 3 }
          ∷ record { sort = 0; encoding = 0; flag = 0; count = 1; place = 2; length = 2 }
          ∷ record { sort = 0; encoding = 0; flag = 0; count = 1; place = 2; length = 1 }
          ∷ [];
      gives = fault 4 ∷ fault 5 ∷ fault 3 ∷ fault 5 ∷ dict 1 (9 ∷ []) ∷ [];
    }
    ∷ []

abbrev pub EachHeadCase : List HeadCase → Type 0
EachHeadCase [] = Unit {0}
EachHeadCase (k ∷ ks) = (listed k.buffer k.heads ≡ k.gives) × EachHeadCase ks

abbrev pub HeadCasesHold : Type 0
HeadCasesHold = EachHeadCase head_table
