-- Question 3 of the words of transactions: what it says of the first one, and of those behind it.
-- Assumes nothing.
use mathlib.Core.Path.{◌≡◌}
use mathlib.Core.Bool.{true}
use mathlib.Core.List.{List, ◌∷◌, map}
use Prim.Native.Nat.{ℕ, suc}
use lib.Dec.{leb}
use lib.ListN.{length, take, drop}
use Rattle.std.specs.List.{list_all}
use Rattle.lists.proofs.Laws.{and_fst, and_snd}
use Rattle.word.specs.Field.{step_count}
use Rattle.plan.specs.Decode.{step_of}
use Rattle.plan.specs.Admission.{transaction_formed, step_formed, tell_count, most_tells, well_formed}

-- the first transaction's word is w, and n transactions are behind it
pub record FormedParts (n w : ℕ) (ws : List ℕ) : Type 0 where
  pub form : transaction_formed w ≡ true
  pub fits : leb (step_count w) (length ws) ≡ true
  pub steps : list_all step_formed (take (step_count w) ws) ≡ true
  pub tells_few : leb (tell_count (map step_of (take (step_count w) ws))) most_tells ≡ true
  pub rest : well_formed n (drop (step_count w) ws) ≡ true

pub formed_parts : (n w : ℕ) (ws : List ℕ) → well_formed (suc n) (w ∷ ws) ≡ true → FormedParts n w ws
unfolding well_formed
formed_parts n w ws e =
    let a = and_snd (transaction_formed w) _ e in
    let b = and_snd (leb (step_count w) (length ws)) _ a in
    let d = and_snd (list_all step_formed (take (step_count w) ws)) _ b in
    record {
      form = and_fst (transaction_formed w) _ e;
      fits = and_fst (leb (step_count w) (length ws)) _ a;
      steps = and_fst (list_all step_formed (take (step_count w) ws)) _ b;
      tells_few = and_fst (leb (tell_count (map step_of (take (step_count w) ws))) most_tells) _ d;
      rest = and_snd (leb (tell_count (map step_of (take (step_count w) ws))) most_tells) _ d;
    }

pub parts_formed : (n w : ℕ) (ws : List ℕ) → FormedParts n w ws → well_formed (suc n) (w ∷ ws) ≡ true
unfolding well_formed
parts_formed n w ws p = rw (p.form, p.fits, p.steps, p.tells_few, p.rest)
