-- The two sums, one word after another; the first sum is the words' total modulo 2^32.
-- Assumes nothing.
use Rattle.std.proofs.Common.{◌≡◌, ℕ, ◌+◌, ◌-◌, ◌%◌, ◌^◌, ◌≤◌, false, eqb, List, [], ◌∷◌}
use Rattle.std.proofs.Common.{◌∙◌, length, get_or, take, ap, arith, eq-eqb, ne_eqb}
use Rattle.std.specs.List.{fold}
use Rattle.frame.specs.declared.sums.Sums.{Sums}
use Rattle.frame.specs.Frame.{sums_from, sums_of}
use Rattle.frame.specs.Admission.{sums_right}

-- both sums with one word more
abbrev pub with_word : Sums → ℕ → Sums
with_word s w = record { first = (s.first + w) % 2 ^ 32; second = (s.second + (s.first + w) % 2 ^ 32) % 2 ^ 32 }

sums_folded : (ws : List ℕ) (s t : Sums) → t ≡ fold with_word s ws → ◌≡◌ {A = ℕ × ℕ} (t.first, t.second) (sums_from s.first s.second ws)
unfolding sums_from
sums_folded [] s t e = ap (λ (u : Sums). (u.first, u.second)) e
sums_folded (w ∷ ws) s t e = sums_folded ws (with_word s w) t e

pub sums_by_fold : (ws : List ℕ) (s t : Sums) → s ≡ record { first = 0; second = 0 } → t ≡ fold with_word s ws
    → ◌≡◌ {A = ℕ × ℕ} (t.first, t.second) (sums_of ws)
sums_by_fold ws s t z e = sums_folded ws s t e ∙ ap (λ (u : Sums). sums_from u.first u.second ws) z

-- ---- question 11, one sum before the other

module _ (ws : List ℕ) (a b : ℕ) (s : (a, b) ≡ sums_of (take (length ws - 2) ws)) where
  pub first_wrong : (get_or ws (length ws - 2) 0 ≡ a → ⊥) → false ≡ sums_right ws
  unfolding sums_right
  first_wrong d = rw (← s) (simp (ne_eqb (get_or ws (length ws - 2) 0) a d))

  pub first_right : get_or ws (length ws - 2) 0 ≡ a → 4 ≤ length ws → eqb (get_or ws (length ws - 2 + 1) 0) b ≡ sums_right ws
  unfolding sums_right
  first_right e l =
      let last : length ws - 2 + 1 ≡ length ws - 1 = omega arith in
      rw (← s, last) (simp (eq-eqb (get_or ws (length ws - 2) 0) a e))
