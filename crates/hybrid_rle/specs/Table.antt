-- Worked examples.
use Rattle.std.specs.Prelude.{◌≡◌, ◌-◌, ◌^◌, true, false, [], ◌∷◌, Ok, Err}
use Rattle.hybrid_rle.specs.Header.{within_limit, header, number}
use Rattle.hybrid_rle.specs.Runs.{runs}
use Rattle.hybrid_rle.specs.Rows.{later}
use Rattle.hybrid_rle.specs.declared.header.Broken.TheVariants.{Ended, Long, Large, Short, Above}

pub record Examples : Type 0 where
  pub one : header (0x03 ∷ []) ≡ Ok (3, 1)
  pub largest : header (0xFF ∷ 0xFF ∷ 0xFF ∷ 0xFF ∷ 0x0F ∷ []) ≡ Ok (4294967295, 5)
  pub large : header (0xFF ∷ 0xFF ∷ 0xFF ∷ 0xFF ∷ 0x1F ∷ []) ≡ Err Large
  pub long : header (0x80 ∷ 0x80 ∷ 0x80 ∷ 0x80 ∷ 0x80 ∷ 0 ∷ []) ≡ Err Long
  pub ended : header (0x80 ∷ []) ≡ Err Ended
  pub sixty_four : within_limit (2 ^ 64 - 1) (number 10 (0xFF ∷ 0xFF ∷ 0xFF ∷ 0xFF ∷ 0xFF ∷ 0xFF ∷ 0xFF ∷ 0xFF ∷ 0xFF ∷ 0x01 ∷ [])) ≡ Ok (2 ^ 64 - 1, 10)
  pub beyond : within_limit (2 ^ 64 - 1) (number 10 (0x80 ∷ 0x80 ∷ 0x80 ∷ 0x80 ∷ 0x80 ∷ 0x80 ∷ 0x80 ∷ 0x80 ∷ 0x80 ∷ 0x02 ∷ [])) ≡ Err Large
  pub g : later 2 (0x03 ∷ 0x01 ∷ []) ≡ (true ∷ false ∷ []) ∷ []
  pub five : later 5 (0x03 ∷ 0x0D ∷ []) ≡ (true ∷ false ∷ true ∷ true ∷ false ∷ []) ∷ []
  pub indices : runs 1 (2 ^ 32 - 1) 3 (0x06 ∷ 0x01 ∷ []) ≡ Ok ((1 ∷ 1 ∷ 1 ∷ []) ∷ [])
  pub many : runs 1 1 2 (0xFE ∷ 0xFF ∷ 0xFF ∷ 0xFF ∷ 0x0F ∷ 0x01 ∷ []) ≡ Ok ((1 ∷ 1 ∷ []) ∷ [])
  pub none : runs 1 1 0 [] ≡ Ok []
  pub empty_run : later 1 (0x00 ∷ 0x01 ∷ 0x02 ∷ 0x01 ∷ []) ≡ [] ∷ (true ∷ []) ∷ []
  pub above : runs 1 1 1 (0x02 ∷ 0x02 ∷ []) ≡ Err Above
  pub empty_above : runs 1 1 1 (0x00 ∷ 0x02 ∷ 0x02 ∷ 0x01 ∷ []) ≡ Err Above
  pub no_width : runs 0 7 3 (0x04 ∷ 0x03 ∷ []) ≡ Ok ((0 ∷ 0 ∷ []) ∷ (0 ∷ []) ∷ [])
  pub two_bytes : runs 9 511 2 (0x04 ∷ 0x2C ∷ 0x01 ∷ []) ≡ Ok ((300 ∷ 300 ∷ []) ∷ [])
  pub short : runs 9 511 2 (0x04 ∷ 0x2C ∷ []) ≡ Err Short
  pub not_looked_at : runs 1 1 2 (0x04 ∷ 0x01 ∷ 0xFF ∷ []) ≡ Ok ((1 ∷ 1 ∷ []) ∷ [])
  pub three_bits : runs 3 7 8 (0x03 ∷ 0x88 ∷ 0xC6 ∷ 0xFA ∷ []) ≡ Ok ((0 ∷ 1 ∷ 2 ∷ 3 ∷ 4 ∷ 5 ∷ 6 ∷ 7 ∷ []) ∷ [])
