-- What questions 3 and 4 still say from a place of the walk on, and how that goes over one word.
-- Assumes nothing.
use mathlib.Core.Path.{◌≡◌, refl}
use mathlib.Core.Bool.{Bool, true, false, not, ◌&&◌, ◌||◌, cond, and-false}
use mathlib.Core.Logic.{◌⊎◌, inl, inr, ⊎_elim}
use borrow.Author.Tests.{ltb-true, lt-ltb, leb-false, le-leb, lt-leb}
use mathlib.Core.List.{List, [], ◌∷◌, map}
use Prim.Native.Nat.{ℕ, suc, ◌+◌, ◌-◌, ◌≤◌, ◌<◌}
use native.Mathlib.Nat.{sub-zero, add-zero, zero-add, add_assoc}
use native.Mathlib.Omega.{arith}
use lib.Dec.{ltb, leb, leb-zero, leb-suc-suc, leb-suc-zero}
use lib.ListN.{length, get_or, take, drop, drop_of_length-le}
use lib.Seq.{drop-cons}
use Rattle.verdict.specs.Verdict.{Verdict, accepted, refused, ask, ◌then◌}
use Rattle.std.specs.List.{list_all}
use Rattle.std.proofs.lemmas.List.{drop_more}
use Rattle.lists.proofs.Laws.{and_fst, and_snd, left_suc, drop_cases}
use Rattle.word.specs.Field.{parameter_count, step_count, partitioning_field}
use Rattle.plan.specs.Decode.{transactions_of, step_of, part_by}
use Rattle.plan.specs.Admission.{well_formed, parameters_exist, transaction_formed, step_formed}
use Rattle.plan.specs.Admission.{one_if_tells, tell_count, most_tells, step_fits}
use Rattle.plan.specs.Admission.{step_exists, part_exists}
use Rattle.plan.specs.Admission.{transactions_verdict}

-- the verdict when n transactions are still to come in the words ws; m: a parameter was missing already
rest : ℕ → List ℕ → Bool → Verdict
rest n ws m = ask 3 (well_formed n ws) then ask 4 (not m && list_all parameters_exist (transactions_of n ws))

-- the same inside a transaction with p parameters, of which k steps are still to come behind some that tell, and n transactions behind it
rest_in : ℕ → ℕ → ℕ → ℕ → List ℕ → Bool → Verdict
rest_in k p n tells ws m =
    ask 3 (leb k (length ws) && (list_all step_formed (take k ws)
    && (leb (tells + tell_count (map step_of (take k ws))) most_tells && well_formed n (drop k ws))))
    then ask 4 (not m && (list_all (step_exists p) (map step_of (take k ws)) && list_all parameters_exist (transactions_of n (drop k ws))))

-- ---- one word of a list

noted : (m a b c : Bool) → (not m && ((a && b) && c)) ≡ (not (m || not a) && (b && c))
noted true a b c = refl
noted false true b c = refl
noted false false b c = refl

rest_done : (m : Bool) → rest 0 [] m ≡ cond m (refused 4) accepted
unfolding rest well_formed transactions_of
rest_done true = refl
rest_done false = refl

rest_more : (w : ℕ) (ws : List ℕ) (m : Bool) → rest 0 (w ∷ ws) m ≡ refused 3
unfolding rest well_formed
rest_more w ws m = refl

rest_nil : (n : ℕ) (m : Bool) → rest (suc n) [] m ≡ refused 3
unfolding rest well_formed
rest_nil n m = refl

rest_bad : (n w : ℕ) (ws : List ℕ) (m : Bool) → transaction_formed w ≡ false → rest (suc n) (w ∷ ws) m ≡ refused 3
unfolding rest well_formed
rest_bad n w ws m e = simp e

rest_good : (n w : ℕ) (ws : List ℕ) (m : Bool) → transaction_formed w ≡ true
    → rest (suc n) (w ∷ ws) m ≡ rest_in (step_count w) (parameter_count w) n 0 ws
    (m || not (part_exists (parameter_count w) (part_by (partitioning_field w))))
unfolding rest rest_in well_formed transactions_of parameters_exist
rest_good n w ws m e = simp (e, noted, zero-add)

in_zero : (p n tells : ℕ) (ws : List ℕ) (m : Bool) → tells ≤ most_tells → rest_in 0 p n tells ws m ≡ rest n ws m
unfolding rest rest_in tell_count
in_zero p n tells ws m h = simp (leb-zero, add-zero, le-leb tells most_tells h)

in_nil : (k p n tells : ℕ) (m : Bool) → rest_in (suc k) p n tells [] m ≡ refused 3
unfolding rest_in
in_nil k p n tells m = simp leb-suc-zero

-- a word that is not well formed, or tells and is one too many
in_bad : (k p n tells w : ℕ) (ws : List ℕ) (m : Bool) → step_fits tells w ≡ false → rest_in (suc k) p n tells (w ∷ ws) m ≡ refused 3
unfolding rest_in tell_count
in_bad k p n tells w ws m e = go (step_formed w) refl
  where
    go : (b : Bool) → step_formed w ≡ b → rest_in (suc k) p n tells (w ∷ ws) m ≡ refused 3
    go false f = simp (f, and-false)
    go true f =
        let h : most_tells < tells + one_if_tells (step_of w) = leb-false (tells + one_if_tells (step_of w)) most_tells (simp f at e) in
        simp (f, lt-leb (tells + (one_if_tells (step_of w) + tell_count (map step_of (take k ws)))) most_tells (omega arith), and-false)

in_good : (k p n tells w : ℕ) (ws : List ℕ) (m : Bool) → step_fits tells w ≡ true
    → rest_in (suc k) p n tells (w ∷ ws) m ≡ rest_in k p n (tells + one_if_tells (step_of w)) ws (m || not (step_exists p (step_of w)))
unfolding rest_in tell_count
in_good k p n tells w ws m e =
    let behind = tell_count (map step_of (take k ws)) in
    simp (and_fst (step_formed w) _ e, noted, leb-suc-suc, ← add_assoc tells (one_if_tells (step_of w)) behind)

-- ---- the word at a place of the plan

-- a step's or a transaction's word stands there, well formed
abbrev pub formed_at : (ℕ → Bool) → List ℕ → ℕ → Bool
formed_at form plan at = ltb at (length plan) && form (get_or plan at 0)

left_none : (n k : ℕ) → n ≤ k → n - k ≡ 0
left_none n k h = omega arith

-- if not, either no word stands there, or one that is not well formed
not_formed : (form : ℕ → Bool) (plan : List ℕ) (at : ℕ) → formed_at form plan at ≡ false
    → (drop at plan ≡ []) ⊎ ((drop at plan ≡ get_or plan at 0 ∷ drop (at + 1) plan) × (form (get_or plan at 0) ≡ false))
not_formed form plan at f =
    ⊎_elim (λ e. inl e)
    (λ (g : (at < length plan) × (drop at plan ≡ get_or plan at 0 ∷ drop (at + 1) plan)).
    inr (g.1, rw (lt-ltb at (length plan) g.0) at f))
    (drop_cases plan at 0)

pub stands : (form : ℕ → Bool) (plan : List ℕ) (at : ℕ) → formed_at form plan at ≡ true
    → (at < length plan) × (drop at plan ≡ get_or plan at 0 ∷ drop (at + 1) plan) × (form (get_or plan at 0) ≡ true)
stands form plan at f =
    let l = ltb-true at (length plan) (and_fst (ltb at (length plan)) _ f) in
    (l, drop_more plan at 0 l, and_snd (ltb at (length plan)) _ f)

-- the verdict from a place of the walk on, in the walk's own variables. Both are shut, so that antt reads their arguments off a goal
pub rest_at : (txs t : ℕ) (plan : List ℕ) (at : ℕ) (m : Bool) → Verdict
rest_at txs t plan at m = rest (txs - t) (drop at plan) m

pub rest_in_at : (steps s p txs t tells : ℕ) (plan : List ℕ) (at : ℕ) (m : Bool) → Verdict
rest_in_at steps s p txs t tells plan at m = rest_in (steps - s) p (txs - (t + 1)) tells (drop at plan) m

module _ (txs t : ℕ) (plan : List ℕ) (at : ℕ) (m : Bool) where
  pub tx_fault : t < txs → formed_at transaction_formed plan at ≡ false → rest_at txs t plan at m ≡ refused 3
  unfolding rest_at
  tx_fault h f =
      ⊎_elim (λ (e : drop at plan ≡ []). rw (left_suc txs t h, e) (rest_nil (txs - (t + 1)) m))
      (λ e. rw (left_suc txs t h, e.0) (rest_bad (txs - (t + 1)) (get_or plan at 0) (drop (at + 1) plan) m e.1))
      (not_formed transaction_formed plan at f)

  pub tx_step : t < txs → formed_at transaction_formed plan at ≡ true
      → rest_at txs t plan at m
      ≡ rest_in_at (step_count (get_or plan at 0)) 0 (parameter_count (get_or plan at 0)) txs t 0 plan (at + 1)
      (m || not (part_exists (parameter_count (get_or plan at 0)) (part_by (partitioning_field (get_or plan at 0)))))
  unfolding rest_at rest_in_at
  tx_step h f = rw (sub-zero, left_suc txs t h, (stands transaction_formed plan at f).1)
      (rest_good (txs - (t + 1)) (get_or plan at 0) (drop (at + 1) plan) m (stands transaction_formed plan at f).2)

  pub end_more : txs ≤ t → at < length plan → rest_at txs t plan at m ≡ refused 3
  unfolding rest_at
  end_more h l = rw (left_none txs t h, drop-cons plan at 0 l) (rest_more (get_or plan at 0) (drop (suc at) plan) m)

  pub end_done : txs ≤ t → length plan ≤ at → rest_at txs t plan at m ≡ cond m (refused 4) accepted
  unfolding rest_at
  end_done h l = rw (left_none txs t h, drop_of_length-le plan l) (rest_done m)

pub walk_start : (txs : ℕ) (plan : List ℕ) → rest_at txs 0 plan 1 false ≡ transactions_verdict txs (drop 1 plan)
unfolding rest_at rest transactions_verdict
walk_start txs plan = simp sub-zero

module _ (steps s p txs t tells : ℕ) (plan : List ℕ) (at : ℕ) (m : Bool) where
  pub step_fault : s < steps → formed_at (step_fits tells) plan at ≡ false → rest_in_at steps s p txs t tells plan at m ≡ refused 3
  unfolding rest_in_at
  step_fault h f =
      ⊎_elim (λ (e : drop at plan ≡ []). rw (left_suc steps s h, e) (in_nil (steps - (s + 1)) p (txs - (t + 1)) tells m))
      (λ e. rw (left_suc steps s h, e.0)
      (in_bad (steps - (s + 1)) p (txs - (t + 1)) tells (get_or plan at 0) (drop (at + 1) plan) m e.1))
      (not_formed (step_fits tells) plan at f)

  pub step_step : s < steps → formed_at (step_fits tells) plan at ≡ true
      → rest_in_at steps s p txs t tells plan at m
      ≡ rest_in_at steps (s + 1) p txs t (tells + one_if_tells (step_of (get_or plan at 0))) plan (at + 1)
      (m || not (step_exists p (step_of (get_or plan at 0))))
  unfolding rest_in_at
  step_step h f =
      rw (left_suc steps s h, (stands (step_fits tells) plan at f).1)
      (in_good (steps - (s + 1)) p (txs - (t + 1)) tells (get_or plan at 0) (drop (at + 1) plan) m (stands (step_fits tells) plan at f).2)

  pub steps_done : tells ≤ most_tells → steps ≤ s → rest_in_at steps s p txs t tells plan at m ≡ rest_at txs (t + 1) plan at m
  unfolding rest_in_at rest_at
  steps_done few h = rw (left_none steps s h) (in_zero p (txs - (t + 1)) tells (drop at plan) m few)
