-- A transaction's word with another partitioning: its field is the new one, and every other field is kept. And what the candidates are.
-- Assumes nothing.
use mathlib.Core.Path.{◌≡◌, refl, ◌∙◌, ap}
use mathlib.Core.Bool.{Bool, true, false, cond}
use mathlib.Core.Logic.{inl, inr, ⊎_elim}
use Prim.Native.Nat.{ℕ, ◌+◌, ◌*◌, ◌/◌, ◌%◌, ◌^◌, ◌≤◌, ◌<◌}
use native.Mathlib.Omega.{arith}
use lib.Dec.{eqb}
use borrow.Author.Tests.{ne_eqb, lt-ltb, ltb-true}
use Rattle.word.specs.Field.{kind_of, parameter_count, step_count, partitioning_field, weight_field, urgent_field}
use Rattle.word.specs.Reserved.{reserved_zero}
use Rattle.plan.specs.Plan.{by_param, unpartitioned}
use Rattle.plan.specs.Decode.{is_open, part_by}
use Rattle.plan.specs.Admission.{partitioning_formed, transaction_formed, part_exists, part_decided}
use Rattle.plan.proofs.Words.{transaction_kind, transaction_params}
use Rattle.plan.proofs.Partitionings.{names_parameter, formed_decided}
use Rattle.plan.proofs.OpenWords.{open_field_lem, transaction_decided}
use Rattle.partitioning.specs.Filling.{Candidate, with_field}
use Rattle.partitioning.specs.Choosing.{CandidateMeans}
use Rattle.partitioning.proofs.Numbers.{candidate_small}

-- ---- over plain numbers

-- the field put between the bits above it, a, and those below it, b
module _ (a f b : ℕ) (h : f < 16) (l : b < 65536) where
  joined_high : (a * 1048576 + f * 65536 + b) / 1048576 ≡ a
  joined_high = omega arith

  joined_low : (a * 1048576 + f * 65536 + b) % 65536 ≡ b
  joined_low = omega arith

  joined_field : (a * 1048576 + f * 65536 + b) / 65536 % 16 ≡ f
  joined_field = omega arith

-- two words that agree from bit 20 on agree in the fields there
module _ (x w : ℕ) (e : x / 1048576 ≡ w / 1048576) where
  same_kind : x / 268435456 ≡ w / 268435456
  same_kind = omega arith

  same_parameters : x / 16777216 % 16 ≡ w / 16777216 % 16
  same_parameters = omega arith

  same_steps : x / 1048576 % 16 ≡ w / 1048576 % 16
  same_steps = omega arith

-- two words that agree below bit 16 agree in the fields there
module _ (x w : ℕ) (e : x % 65536 ≡ w % 65536) where
  same_weight : x / 256 % 256 ≡ w / 256 % 256
  same_weight = omega arith

  same_urgent : x / 128 % 2 ≡ w / 128 % 2
  same_urgent = omega arith

  same_lowest : x / 1 % 128 ≡ w / 1 % 128
  same_lowest = omega arith

-- ---- the word with the field f

module _ (f w : ℕ) (h : f < 16) where
  high_kept : with_field f w / 2 ^ 20 ≡ w / 2 ^ 20
  high_kept = joined_high (w / 2 ^ 20) f _ h (omega arith)

  low_kept : with_field f w % 2 ^ 16 ≡ w % 2 ^ 16
  low_kept = joined_low (w / 2 ^ 20) f (w % 2 ^ 16) h (omega arith)

  pub field_set : partitioning_field (with_field f w) ≡ f
  field_set = joined_field (w / 2 ^ 20) f (w % 2 ^ 16) h (omega arith)

  pub kind_kept : kind_of (with_field f w) ≡ kind_of w
  kind_kept = same_kind (with_field f w) w high_kept

  parameters_kept : parameter_count (with_field f w) ≡ parameter_count w
  parameters_kept = same_parameters (with_field f w) w high_kept

  steps_kept : step_count (with_field f w) ≡ step_count w
  steps_kept = same_steps (with_field f w) w high_kept

  pub weight_kept : weight_field (with_field f w) ≡ weight_field w
  weight_kept = same_weight (with_field f w) w low_kept

  urgent_kept : urgent_field (with_field f w) ≡ urgent_field w
  urgent_kept = same_urgent (with_field f w) w low_kept

  reserved_kept : kind_of w ≡ 2 → reserved_zero (with_field f w) ≡ reserved_zero w
  unfolding reserved_zero
  reserved_kept k = rw (kind_kept, k) (ap (λ (x : ℕ). eqb x 0) (same_lowest (with_field f w) w low_kept))

-- ---- a candidate

part_of_parameter : (q : ℕ) → q < 4 → part_by q ≡ by_param q
part_of_parameter q h = names_parameter q (rw (ne_eqb q 14 (λ e. omega arith), ne_eqb q 15 (λ e. omega arith)))

part_of_none : part_by 15 ≡ unpartitioned
unfolding part_by
part_of_none = refl

-- of at most four parameters: the candidate is formed, exists and is decided
module _ (n f : ℕ) (few : n ≤ 4) (c : Candidate n f) where
  candidate_formed : partitioning_formed f ≡ true
  candidate_formed = ⊎_elim (λ (h : f < n). rw (lt-ltb f 4 (omega arith))) (λ (h : f ≡ 15). rw h) c

  candidate_exists : part_exists n (part_by f) ≡ true
  unfolding part_exists
  candidate_exists =
      ⊎_elim (λ (h : f < n). rw (part_of_parameter f (omega arith)) (lt-ltb f n h)) (λ (h : f ≡ 15). rw (h, part_of_none)) c

  candidate_decided : part_decided (part_by f) ≡ true
  candidate_decided = ⊎_elim (λ (h : f < n). rw (part_of_parameter f (omega arith))) (λ (h : f ≡ 15). rw (h, part_of_none)) c

-- and only a candidate is
field_candidate : (n f : ℕ) → partitioning_formed f ≡ true → part_exists n (part_by f) ≡ true → part_decided (part_by f) ≡ true
    → Candidate n f
unfolding part_exists
field_candidate n f form exists closed =
    ⊎_elim (λ (h : f < 4). inl (ltb-true f n (rw (part_of_parameter f h) at exists))) (λ (h : f ≡ 15). inr h)
    (formed_decided f form closed)

pub candidate_means : CandidateMeans
candidate_means n f few = (
  λ c. (candidate_formed n f few c, candidate_exists n f few c, candidate_decided n f few c),
  λ h. field_candidate n f h.0 h.1 h.2,
)

-- an open word is formed with a candidate as it is without
open_formed : (w f : ℕ) → transaction_formed w ≡ true → is_open w ≡ true → Candidate (parameter_count w) f
    → transaction_formed (with_field f w) ≡ true
unfolding transaction_formed
open_formed w f t e c =
    let h = candidate_small w f c in
    let good = candidate_formed (parameter_count w) f (transaction_params w t) c in
    rw (kind_kept f w h, parameters_kept f w h, steps_kept f w h, field_set f w h, reserved_kept f w h (transaction_kind w t), good)
    (rw (open_field_lem w e) at t)

-- ---- a word as the filling leaves it: an open one with the field f, any other as it is

abbrev pub put_field : ℕ → ℕ → ℕ
put_field f w = cond (is_open w) (with_field f w) w

by_open : (f w : ℕ) (P : ℕ → Type 0) → (is_open w ≡ true → P (with_field f w)) → (is_open w ≡ false → P w) → P (put_field f w)
by_open f w P here other = go (is_open w) refl
  where
    go : (b : Bool) → is_open w ≡ b → P (cond b (with_field f w) w)
    go true e = here e
    go false e = other e

module _ (f w : ℕ) (c : is_open w ≡ true → Candidate (parameter_count w) f) where
  small : is_open w ≡ true → f < 16
  small e = candidate_small w f (c e)

  pub put_high : put_field f w / 2 ^ 20 ≡ w / 2 ^ 20
  put_high = by_open f w (λ x. x / 2 ^ 20 ≡ w / 2 ^ 20) (λ e. high_kept f w (small e)) (λ e. refl)

  pub put_low : put_field f w % 2 ^ 16 ≡ w % 2 ^ 16
  put_low = by_open f w (λ x. x % 2 ^ 16 ≡ w % 2 ^ 16) (λ e. low_kept f w (small e)) (λ e. refl)

  pub put_parameters : parameter_count (put_field f w) ≡ parameter_count w
  put_parameters = by_open f w (λ x. parameter_count x ≡ parameter_count w) (λ e. parameters_kept f w (small e)) (λ e. refl)

  pub put_steps : step_count (put_field f w) ≡ step_count w
  put_steps = by_open f w (λ x. step_count x ≡ step_count w) (λ e. steps_kept f w (small e)) (λ e. refl)

  pub put_weight : weight_field (put_field f w) ≡ weight_field w
  put_weight = by_open f w (λ x. weight_field x ≡ weight_field w) (λ e. weight_kept f w (small e)) (λ e. refl)

  pub put_urgent : urgent_field (put_field f w) ≡ urgent_field w
  put_urgent = by_open f w (λ x. urgent_field x ≡ urgent_field w) (λ e. urgent_kept f w (small e)) (λ e. refl)

  -- question 3 says of it what it says of the word
  pub put_formed : transaction_formed w ≡ true → transaction_formed (put_field f w) ≡ true
  put_formed t = by_open f w (λ x. transaction_formed x ≡ true) (λ e. open_formed w f t e (c e)) (λ e. t)

  -- and of its partitioning, question 4 and the refusal 17
  pub put_exists : transaction_formed w ≡ true → part_exists (parameter_count w) (part_by (partitioning_field w)) ≡ true
      → part_exists (parameter_count w) (part_by (partitioning_field (put_field f w))) ≡ true
  put_exists t p =
      by_open f w (λ x. part_exists (parameter_count w) (part_by (partitioning_field x)) ≡ true)
      (λ e. rw (field_set f w (small e)) (candidate_exists (parameter_count w) f (transaction_params w t) (c e))) (λ e. p)

  pub put_decided : transaction_formed w ≡ true → part_decided (part_by (partitioning_field (put_field f w))) ≡ true
  put_decided t =
      by_open f w (λ x. part_decided (part_by (partitioning_field x)) ≡ true)
      (λ e. rw (field_set f w (small e)) (candidate_decided (parameter_count w) f (transaction_params w t) (c e)))
      (λ e. transaction_decided w t ∙ rw e)
