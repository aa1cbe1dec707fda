-- "Bits not named are zero; so is a fixed field whose source is a parameter."; "Kind 13, all other bits zero". Every set of reserved bits
-- is one field.
use Rattle.std.specs.Prelude.{ℕ, Bool, ◌&&◌, ◌||◌, cond, ltb, leb, eqb}
use Rattle.word.specs.Field.{field, kind_of, row_source, operand_source}

-- a word's source field, whose place goes by the kind: kinds 3 and 4 have bits 22–20, kinds 5 to 8 have bits 27–25, the others none
unfoldable pub source_field : ℕ → ℕ
source_field w =
    cond (ltb (kind_of w) 3) 0
    (cond (leb (kind_of w) 4) (row_source w)
    (cond (leb (kind_of w) 8) (operand_source w) 0))

-- the `count` bits from bit `low` on
pub record Bits : Type 0 where
  pub low : ℕ
  pub count : ℕ

abbrev pub bits : ℕ → ℕ → Bits
bits l c = record { low = l; count = c }

-- the reserved bits by kind and source; source 7 is the fixed one
abbrev pub reserved_bits : ℕ → ℕ → Bits
reserved_bits k s =
    cond (eqb k 2) (bits 0 7)
    (cond (eqb k 3 || eqb k 4) (cond (eqb s 7) (bits 5 15) (bits 0 20))
    (cond (leb 5 k && leb k 8) (cond (eqb s 7) (bits 0 0) (bits 0 25))
    (cond (eqb k 9) (bits 16 8)
    (cond (eqb k 10) (bits 0 20)
    (cond (eqb k 11) (bits 10 18)
    (cond (eqb k 12) (bits 1 27)
    (cond (eqb k 13) (bits 0 28)
    (bits 0 0))))))))

-- the reserved bits of a word of kind k and source s are zero
abbrev pub zero_bits : ℕ → ℕ → ℕ → Bool
zero_bits k s w = eqb (field (reserved_bits k s).low (reserved_bits k s).count w) 0

-- the reserved bits of a word are zero
unfoldable pub reserved_zero : ℕ → Bool
reserved_zero w = zero_bits (kind_of w) (source_field w) w
