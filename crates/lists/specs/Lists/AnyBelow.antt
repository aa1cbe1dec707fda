-- A test that some number below n passes. It is opened only where a law of it is proved: at a numeral it would be written out number
-- by number.
use Rattle.std.specs.Prelude.{ℕ, Bool}
use Rattle.std.specs.List.{list_any, range_with_len}

unfoldable pub any_below : ℕ → (ℕ → Bool) → Bool
any_below n f = list_any f (range_with_len 0 n)
