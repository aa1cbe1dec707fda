-- The words of transactions: the first one stands whole at their front, and behind it stand those that are left.
-- Assumes nothing.
use Rattle.std.proofs.Common.{ℕ, zero, suc, ◌+◌, ◌-◌, ◌<◌, ◌≤◌, ◌≡◌, true, List, [], ◌∷◌, length, take, drop, map, get_or, arith}
use Rattle.std.proofs.lemmas.Bool.{false≢true}
use lib.Seq.{length-take-le}
use borrow.Author.Tests.{leb-true}
use Rattle.std.proofs.lemmas.List.{take_rest}
use Rattle.word.specs.Field.{step_count}
use Rattle.plan.specs.Decode.{step_of, transaction_of, transactions_of}
use Rattle.plan.specs.Admission.{well_formed, tell_count, most_tells}
use Rattle.plan.specs.Form.{IsTransaction}
use Rattle.plan.proofs.FormedParts.{FormedParts, formed_parts}

pub record First (n w : ℕ) (ws : List ℕ) : Type 0 where
  pub room : 1 + step_count w ≤ length ws
  pub transaction : IsTransaction w (take (1 + step_count w - 1) (drop 1 ws))
  pub rest : well_formed (n - 1) (take (length ws - (1 + step_count w)) (drop (1 + step_count w) ws)) ≡ true
  pub decoded : transactions_of n ws
      ≡ transaction_of w (drop 1 ws) ∷ transactions_of (n - 1) (take (length ws - (1 + step_count w)) (drop (1 + step_count w) ws))
  pub steps : take (1 + step_count w - 1) (drop 1 ws) ≡ take (step_count w) (drop 1 ws)

pub first_transaction : (n : ℕ) (ws : List ℕ) → well_formed n ws ≡ true → 0 < n → First n (get_or ws 0 0) ws
unfolding well_formed transactions_of
first_transaction zero ws e h = absurd (omega arith)
first_transaction (suc n) [] e h = absurd (false≢true e)
first_transaction (suc n) (w ∷ ws) e h =
    let p : FormedParts n w ws = formed_parts n w ws e in
    let fits : step_count w ≤ length ws = leb-true (step_count w) (length ws) p.fits in
    let m : suc n - 1 ≡ n = omega arith in
    let s : 1 + step_count w - 1 ≡ step_count w = omega arith in
    let k : 1 + step_count w ≡ suc (step_count w) = omega arith in
    record {
      room = omega (arith, fits);
      transaction = rw s record {
        form = p.form;
        count = length-take-le (step_count w) ws fits;
        steps = p.steps;
        tells_few = leb-true (tell_count (map step_of (take (step_count w) ws))) most_tells p.tells_few;
      };
      rest = rw (take_rest (w ∷ ws) (1 + step_count w), m, k) p.rest;
      decoded = rw (take_rest (w ∷ ws) (1 + step_count w), m, k);
      steps = rw s;
    }
