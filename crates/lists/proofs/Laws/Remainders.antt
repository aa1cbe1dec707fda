-- A list whose rest from a place on was lent to be written, with what came back.
-- Assumes nothing.
use mathlib.Core.Path.{◌≡◌, ◌∙◌, ap}
use mathlib.Core.List.{List, ◌++◌, append-nil}
use Prim.Native.Nat.{ℕ, ◌-◌, ◌≤◌}
use native.Mathlib.Omega.{arith}
use lib.ListN.{length, take, drop, length-drop, drop_of_length-le}
use borrow.Rule.Slice.PartMut.{put_mid}

pub put_remainder : (o p : List ℕ) (k : ℕ) → put_mid k (length o - k) o p ≡ take k o ++ p
put_remainder o p k =
    let none : length (drop k o) ≤ length o - k = omega (arith, length-drop k o) in
    ap (λ (t : List ℕ). take k o ++ (p ++ t)) (drop_of_length-le (drop k o) none) ∙ ap (λ (t : List ℕ). take k o ++ t) (append-nil p)
