-- The lowest number below n that passes a test; n if none does. It is opened only where a law of it is proved.
use Rattle.std.specs.Prelude.{ℕ, Bool}
use Rattle.std.specs.List.{position_or_len, range_with_len}

unfoldable pub lowest_below : ℕ → (ℕ → Bool) → ℕ
lowest_below n f = position_or_len f (range_with_len 0 n)
