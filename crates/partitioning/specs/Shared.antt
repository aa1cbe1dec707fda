-- The rows that two desks or more touch, and the cost of a plan by them.
use Rattle.std.specs.Prelude.{ℕ, ◌+◌, ◌-◌, ◌%◌, ◌^◌, Bool, not, ◌&&◌, cond, List, [], ◌∷◌, eqb, get_or}
use Rattle.std.specs.Int.Bits.{bit_and, bit_or}
use Rattle.lists.specs.Lists.{tabulate}
use Rattle.word.specs.Field.{kind_of, weight_field}
use Rattle.conflict.specs.Mask.{mask_of}
use Rattle.partitioning.specs.Touched.{table_column, rows_of, is_transaction}

-- all rows with two desks or more, none with one
abbrev pub rows_if_many : ℕ → ℕ
rows_if_many n = cond (eqb n 1) 0 (2 ^ 32 - 1)

-- the rows that are not desk 0's
abbrev pub rows_off_desk0 : ℕ → ℕ
rows_off_desk0 n = mask_of 32 (λ r. not (eqb (r % n) 0))

-- the rows of a table column that two of n desks or more touch
abbrev pub shared_in : ℕ → List ℕ → ℕ → ℕ
shared_in n t a =
    bit_or (bit_and (get_or t a 0) (rows_if_many n)) (bit_and (bit_and (get_or t (32 + a) 0) (get_or t (64 + a) 0)) (rows_off_desk0 n))

abbrev pub shared_rows : ℕ → List ℕ → List ℕ
shared_rows n t = tabulate 32 (shared_in n t)

-- ---- the cost, word by word

-- the step in a word may write a row that is shared
abbrev pub word_shares : List ℕ → ℕ → Bool
word_shares s w = eqb (kind_of w) 4 && not (eqb (bit_and (get_or s (table_column w) 0) (rows_of w)) 0)

-- c so far, and g for the transaction at hand if one of its steps to come shares
unfoldable pub cost_from : List ℕ → ℕ → ℕ → List ℕ → ℕ
cost_from s g c [] = c
cost_from s g c (w ∷ ws) =
    cond (is_transaction w) (cost_from s (weight_field w) c ws)
    (cond (word_shares s w) (cost_from s 0 (c + g) ws)
    (cost_from s g c ws))
