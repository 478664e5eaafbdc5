-- The worked cases.
use Rattle.std.specs.Prelude.{◌≡◌, ℕ, true, false, List, [], ◌∷◌, pos, neg_ℤ, Some, None, Option}
use Rattle.pages.specs.Delivered.{page, dict, fault}
use Rattle.faults.specs.declared.types.Cause.TheVariants.{Source, Rows, Flag, Encoding, NoDictionary, Validity, Values, Index, Dictionary}
use Rattle.values.specs.Values.{null, value, number, flag, bytes}
use Rattle.model.specs.Model.{verdict, Page, Holds, Broken}
use Rattle.holders.specs.Convert.{int32_keep, int32_as_wide, int32_as_unsigned, boolean, byte_array_column}

abbrev ones : List ℕ
ones = 0xFF ∷ 0xFF ∷ 0xFF ∷ 0xFF ∷ []

abbrev five_eight : Option (List (List ℕ))
five_eight = Some ((5 ∷ 0 ∷ 0 ∷ 0 ∷ []) ∷ (8 ∷ 0 ∷ 0 ∷ 0 ∷ []) ∷ [])

pub record Cases : Type 0 where
  pub g : verdict (int32_keep true) None (page 2 0 true (0x02 ∷ 0 ∷ 0 ∷ 0 ∷ 0x03 ∷ 0x01 ∷ 0x12 ∷ 0 ∷ 0 ∷ 0 ∷ [])) ≡ Page (value (number (pos 18)) ∷ null ∷ [])
  pub bits_0d : verdict (int32_keep true) None (page 5 0 true (0x02 ∷ 0 ∷ 0 ∷ 0 ∷ 0x03 ∷ 0x0D ∷ 7 ∷ 0 ∷ 0 ∷ 0 ∷ 9 ∷ 0 ∷ 0 ∷ 0 ∷ 4 ∷ 0 ∷ 0 ∷ 0 ∷ [])) ≡ Page (value (number (pos 7)) ∷ null ∷ value (number (pos 9)) ∷ value (number (pos 4)) ∷ null ∷ [])
  pub keep : verdict (int32_keep false) None (page 1 0 false ones) ≡ Page (value (number (neg_ℤ (pos 1))) ∷ [])
  pub widen : verdict (int32_as_wide false) None (page 1 0 false ones) ≡ Page (value (number (neg_ℤ (pos 1))) ∷ [])
  pub unsigned : verdict (int32_as_unsigned false) None (page 1 0 false ones) ≡ Page (value (number (pos 4294967295)) ∷ [])
  pub dictionary : verdict (int32_keep false) None (dict 2 (5 ∷ 0 ∷ 0 ∷ 0 ∷ 8 ∷ 0 ∷ 0 ∷ 0 ∷ [])) ≡ Holds five_eight
  pub repeated : verdict (int32_keep false) five_eight (page 3 2 false (0x01 ∷ 0x06 ∷ 0x01 ∷ [])) ≡ Page (value (number (pos 8)) ∷ value (number (pos 8)) ∷ value (number (pos 8)) ∷ [])
  pub above : verdict (int32_keep false) five_eight (page 3 2 false (0x02 ∷ 0x06 ∷ 0x02 ∷ [])) ≡ Broken Index
  pub text : verdict (byte_array_column true) None (page 2 0 true (0x02 ∷ 0 ∷ 0 ∷ 0 ∷ 0x03 ∷ 0x02 ∷ 0x02 ∷ 0 ∷ 0 ∷ 0 ∷ 0x41 ∷ 0x42 ∷ [])) ≡ Page (null ∷ value (bytes (0x41 ∷ 0x42 ∷ [])) ∷ [])
  pub truths : verdict (boolean false) None (page 3 0 false (0x05 ∷ [])) ≡ Page (value (flag true) ∷ value (flag false) ∷ value (flag true) ∷ [])
  pub many : verdict (int32_keep false) None (page 1048577 0 true []) ≡ Broken Rows
  pub flag : verdict (int32_keep false) None (page 1 9 true []) ≡ Broken Flag
  pub encoding : verdict (boolean false) None (page 1 2 false []) ≡ Broken Encoding
  pub none_held : verdict (int32_keep false) None (page 1 8 false []) ≡ Broken NoDictionary
  pub cut : verdict (int32_keep true) None (page 1 0 true (0x03 ∷ 0 ∷ 0 ∷ 0 ∷ 0x03 ∷ 0x01 ∷ [])) ≡ Broken Validity
  pub no_value : verdict (int32_keep true) None (page 1 0 true (0x02 ∷ 0 ∷ 0 ∷ 0 ∷ 0x03 ∷ 0x01 ∷ [])) ≡ Broken Values
  pub wide : verdict (int32_keep false) five_eight (page 1 2 false (33 ∷ 0x06 ∷ 0x01 ∷ [])) ≡ Broken Values
  pub nine_first : verdict (int32_keep false) five_eight (page 4 2 false (0x02 ∷ 0x06 ∷ 0x02 ∷ [])) ≡ Broken Values
  pub broken : verdict (int32_keep false) None (dict 2 (5 ∷ 0 ∷ 0 ∷ 0 ∷ [])) ≡ Broken Dictionary
  pub taken_any : verdict (boolean false) None (dict 1048577 []) ≡ Holds None
  pub sources : verdict (boolean false) None (fault 2) ≡ Broken (Source 2)
