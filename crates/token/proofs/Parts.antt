-- Where the parts of a frame stand: word 0, the visit, the updates, the two sums.
-- Assumes nothing.
use mathlib.Core.Path.{◌≡◌, refl, ◌∙◌, sym, ap, ap₂}
use mathlib.Core.List.{List, [], ◌∷◌, ◌++◌}
use Prim.Native.Nat.{ℕ, suc, ◌+◌, ◌-◌, ◌≤◌}
use native.Mathlib.Omega.{arith}
use lib.ListN.{length, get_or, take, drop, length-append, take-append-drop, drop_of_length-le}
use lib.Seq.{drop-cons, take_at, get_or-append-add}
use Rattle.frame.specs.Admission.{updates_part}

abbrev pub laid : ℕ → ℕ → List ℕ → ℕ → ℕ → List ℕ
laid h v body a b = (h ∷ v ∷ body) ++ (a ∷ b ∷ [])

module _ (h v : ℕ) (body : List ℕ) (a b : ℕ) where
  pub laid_length : length (laid h v body a b) ≡ length body + 4
  laid_length = omega (arith, length-append (h ∷ v ∷ body) (a ∷ b ∷ []))

  pub laid_part : updates_part (laid h v body a b) ≡ body
  laid_part = take_at body (a ∷ b ∷ []) (length (laid h v body a b) - 4) (omega (arith, laid_length))

  pub laid_front : take (length (laid h v body a b) - 2) (laid h v body a b) ≡ h ∷ v ∷ body
  laid_front = take_at (h ∷ v ∷ body) (a ∷ b ∷ []) (length (laid h v body a b) - 2) (omega (arith, laid_length))

  laid_sum : (i k : ℕ) → length (h ∷ v ∷ body) + i ≡ k → get_or (laid h v body a b) k 0 ≡ get_or (a ∷ b ∷ []) i 0
  laid_sum i k e =
      ap (λ (j : ℕ). get_or (laid h v body a b) j 0) (sym e) ∙ get_or-append-add (h ∷ v ∷ body) (a ∷ b ∷ []) i 0

  pub laid_first : get_or (laid h v body a b) (length (laid h v body a b) - 2) 0 ≡ a
  laid_first = laid_sum 0 (length (laid h v body a b) - 2) (omega (arith, laid_length))

  pub laid_second : get_or (laid h v body a b) (length (laid h v body a b) - 1) 0 ≡ b
  laid_second = laid_sum 1 (length (laid h v body a b) - 1) (omega (arith, laid_length))

-- ---- any four words or more are laid out so

front_two : (ws : List ℕ) (k : ℕ) → 2 ≤ length ws → take (suc (suc k)) ws ≡ get_or ws 0 0 ∷ get_or ws 1 0 ∷ take k (drop 2 ws)
front_two [] k h = absurd (omega arith)
front_two (a ∷ []) k h = absurd (omega arith)
front_two (a ∷ b ∷ ws) k h = refl

last_two : (ws : List ℕ) → 4 ≤ length ws → drop (length ws - 2) ws ≡ get_or ws (length ws - 2) 0 ∷ get_or ws (length ws - 1) 0 ∷ []
last_two ws h =
    let past : length ws ≤ suc (length ws - 1) = omega arith in
    let second : suc (length ws - 2) ≡ length ws - 1 = omega arith in
    drop-cons ws (length ws - 2) 0 (omega arith)
    ∙ ap (λ (t : List ℕ). get_or ws (length ws - 2) 0 ∷ t)
    (ap (λ (i : ℕ). drop i ws) second ∙ drop-cons ws (length ws - 1) 0 (omega arith)
    ∙ ap (λ (t : List ℕ). get_or ws (length ws - 1) 0 ∷ t) (drop_of_length-le ws past))

pub front : (ws : List ℕ) → 4 ≤ length ws → take (length ws - 2) ws ≡ get_or ws 0 0 ∷ get_or ws 1 0 ∷ updates_part ws
front ws h =
    let k : length ws - 2 ≡ suc (suc (length ws - 4)) = omega arith in
    ap (λ (i : ℕ). take i ws) k ∙ front_two ws (length ws - 4) (omega arith)

pub layout : (ws : List ℕ) → 4 ≤ length ws
    → ws ≡ laid (get_or ws 0 0) (get_or ws 1 0) (updates_part ws) (get_or ws (length ws - 2) 0) (get_or ws (length ws - 1) 0)
layout ws h = sym (take-append-drop (length ws - 2) ws) ∙ ap₂ ◌++◌ (front ws h) (last_two ws h)
