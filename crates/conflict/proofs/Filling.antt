-- The table while the plan is walked: what is in it, joined with what is still to come, is the mask of each cell.
-- Assumes nothing.
use mathlib.Core.Path.{◌≡◌, ◌∙◌, sym, ap}
use mathlib.Core.Bool.{◌||◌, or_assoc}
use mathlib.Core.List.{List, [], ◌∷◌}
use Prim.Native.Nat.{ℕ, ◌<◌}
use lib.Bits.{bit_or, or_zero_r, or_zero_l}
use lib.ListN.{length, get_or, replicate, length-replicate, get_or-replicate}
use Rattle.lists.proofs.Laws.{whole_table}
use Rattle.plan.specs.Plan.{Partitioning, Step, Transaction}
use Rattle.plan.specs.Decode.{plan_of}
use Rattle.conflict.specs.Mask.{mask_of}
use Rattle.conflict.specs.Touch.{step_touches, steps_touch, transactions_touch, desk_mask, mask_table, Joined}
use Rattle.conflict.proofs.Masks.{mask_ext, mask_none, mask_split}

-- the transactions ts are still to come
pub record Filling (plan : List ℕ) (n : ℕ) (ts : List Transaction) (l : List ℕ) : Type 0 where
  pub long : length l ≡ 1024
  pub cells : (c : ℕ) → c < 1024 → bit_or (get_or l c 0) (mask_of n (transactions_touch n ts c)) ≡ desk_mask (plan_of plan) c

-- the steps ss of a transaction are still to come, and then the transactions ts
pub record FillingIn (plan : List ℕ) (n : ℕ) (q : Partitioning) (ss : List Step) (ts : List Transaction) (l : List ℕ) : Type 0 where
  pub long : length l ≡ 1024
  pub cells : (c : ℕ) → c < 1024
      → bit_or (get_or l c 0) (mask_of n (λ d. steps_touch n q ss c d || transactions_touch n ts c d)) ≡ desk_mask (plan_of plan) c

pub start : (plan : List ℕ) (n : ℕ) → n ≡ (plan_of plan).desks → (ts : List Transaction) → ts ≡ (plan_of plan).transactions
    → (l : List ℕ) → l ≡ replicate 1024 0 → Filling plan n ts l
unfolding desk_mask
start plan n i ts j l e = rw (i, j, e) record {
  long = length-replicate {A = ℕ} 1024 0;
  cells = λ c h. rw (get_or-replicate {A = ℕ} 1024 c 0 0 h) (or_zero_l _);
}

module _ (plan : List ℕ) (n : ℕ) (l : List ℕ) where
  pub done : (ts : List Transaction) → ts ≡ [] → Filling plan n ts l → l ≡ mask_table (plan_of plan)
  done ts e f =
      let none : Filling plan n [] l = rw e at f in
      whole_table 1024 (desk_mask (plan_of plan)) l 0 none.long
      (λ c h. sym (ap (bit_or (get_or l c 0)) (mask_none n) ∙ or_zero_r (get_or l c 0)) ∙ none.cells c h)

  -- the first of the transactions is entered, its steps are gone through, and it is left
  pub enter : (t : Transaction) (ts all : List Transaction) → all ≡ t ∷ ts → (q : Partitioning) → q ≡ t.part
      → (ss : List Step) → ss ≡ t.steps → Filling plan n all l → FillingIn plan n q ss ts l
  enter t ts all e q i ss j f =
      let here : Filling plan n (t ∷ ts) l = rw e at f in
      rw (i, j) record { long = here.long; cells = here.cells }

  module _ (q : Partitioning) (ts : List Transaction) where
    pub leave : (ss : List Step) → ss ≡ [] → FillingIn plan n q ss ts l → Filling plan n ts l
    leave ss e f =
        let none : FillingIn plan n q [] ts l = rw e at f in record { long = none.long; cells = none.cells }

    pub step_on : (s : Step) (ss all : List Step) → all ≡ s ∷ ss → FillingIn plan n q all ts l → (l' : List ℕ)
        → Joined l l' (λ c. mask_of n (step_touches n q s c)) → FillingIn plan n q ss ts l'
    step_on s ss all e f l' j =
        let here : FillingIn plan n q (s ∷ ss) ts l = rw e at f in
        record {
          long = j.long;
          cells = λ c h.
              ap (λ (x : ℕ). bit_or x (mask_of n (λ d. steps_touch n q ss c d || transactions_touch n ts c d))) (j.cells c h)
              ∙ sym (mask_split (get_or l c 0) n (step_touches n q s c) (λ d. steps_touch n q ss c d || transactions_touch n ts c d))
              ∙ ap (bit_or (get_or l c 0)) (mask_ext n _ _ (λ d. sym
              (or_assoc (step_touches n q s c d) (steps_touch n q ss c d) (transactions_touch n ts c d))))
              ∙ here.cells c h;
        }
