-- The classifier's answer to an operation: by its class, its desk and its cause; and that the one that is global has a cause.
-- Assumes nothing.
use mathlib.Core.Path.{◌≡◌, refl, ◌∙◌, sym, ap}
use mathlib.Core.Bool.{Bool, true, false, cond, false≢true}
use mathlib.Core.List.{List, Memᴰ}
use Prim.Native.Nat.{ℕ, ◌<◌}
use native.Mathlib.Omega.{arith}
use Rattle.std.proofs.Common.{Option, Some, None, IsSome}
use Rattle.std.proofs.lemmas.Option.{none-some, same_Some}
use lib.Dec.{ltb}
use lib.ListN.{length}
use borrow.Author.Tests.{lt-ltb, le-ltb, ltb-true}
use Rattle.verdict.specs.Verdict.{accepted, refused}
use Rattle.verdict.proofs.Verdicts.{ask_then_accepted}
use Rattle.std.specs.List.{list_any}
use Rattle.lists.proofs.Laws.{and_snd, by_less, get_or_member}
use Rattle.plan.specs.Plan.{reads, writes, Transaction, no_transaction, Plan, transaction_at}
use Rattle.plan.specs.Decode.{plan_of}
use Rattle.plan.specs.Admission.{plan_verdict}
use Rattle.plan.specs.Place.{transaction_from}
use Rattle.plan.specs.Transaction.{the_transaction}
use Rattle.plan.specs.declared.transaction.Transaction as declared
use Rattle.operation.specs.Operation.{operation, desk_by, cells_named}
use Rattle.operation.specs.Admission.{transaction_exists, parameters_pass, unused_zero, operation_verdict}
use Rattle.operation.specs.Store.{store_size}
use Rattle.operation.proofs.Bounds.{AllFit, transaction_fits, cells_low}
use Rattle.conflict.specs.Touch.{desk_mask}
use Rattle.conflict.specs.Written.{written}
use Rattle.conflict.specs.Class.{Class, is_write, one_desk_each, free, local, global, is_free, is_global, class_by}
use Rattle.conflict.specs.declared.cause.Cause.{Cause}
use Rattle.conflict.specs.Cause.{cause_cell, cause_at, cause_by, cause_found}
use Rattle.conflict.specs.Answer.{Classified, classed_free, classed_local, classed_global, class_refused}
use Rattle.conflict.specs.Answer.{with_cause, classified_by, classify_result}
use Rattle.conflict.proofs.InBits.{steps_fit}
use Rattle.conflict.proofs.Tabled.{operation_low}
use Rattle.conflict.proofs.Touching.{touched, some_desk, few_desks}
use Rattle.conflict.proofs.MaskMeaning.{desk_by_low}
use Rattle.conflict.proofs.OtherDesks.{own_touched, cause_cell_high, none_one_desk, some_many_desks}

-- ---- writing nothing

module _ (p : Plan) (t : Transaction) (ps : List ℕ) where
  pub answered_free : is_free (class_by p t ps) ≡ true → classed_free ≡ classified_by p t ps
  answered_free = go (class_by p t ps)
    where
      go : (k : Class) → is_free k ≡ true → classed_free ≡ with_cause k (desk_by p.desks t.part ps) (cause_by p t ps)
      go free e = refl
      go local e = absurd (false≢true e)
      go global e = absurd (false≢true e)

  pub answered_reading : (d : ℕ) → d ≡ desk_by p.desks t.part ps → is_free (class_by p t ps) ≡ false → list_any is_write t.steps ≡ false
      → classed_local d ≡ classified_by p t ps
  unfolding class_by
  answered_reading d q f w = rw (q, w) (go (list_any (written p) (cells_named reads ps t.steps)) (rw w at f))
    where
      go : (b : Bool) → is_free (cond b local free) ≡ false → classed_local (desk_by p.desks t.part ps)
          ≡ with_cause (cond b local free) (desk_by p.desks t.part ps) (cause_by p t ps)
      go true e = refl
      go false e = absurd (false≢true (sym e))

-- ---- an operation that may write a cell which has not one desk has a cause

module _ (ws : List ℕ) (e : plan_verdict ws ≡ accepted) where
  module _ (t : Transaction) (ps : List ℕ) (fit : AllFit t.steps) (pass : parameters_pass t ps ≡ true)
      (m : Memᴰ t (plan_of ws).transactions) where
    low_cell : one_desk_each (desk_mask (plan_of ws)) (cells_named writes ps t.steps) ≡ false
        → (d : ℕ) → d ≡ desk_by (plan_of ws).desks t.part ps → cause_cell (plan_of ws) d (cells_named writes ps t.steps) < 1024
    unfolding parameters_pass
    low_cell h d q =
        let desk = desk_by (plan_of ws).desks t.part ps in
        let cells = cells_named writes ps t.steps in
        rw q (by_less (cause_cell (plan_of ws) desk cells) 1024 (λ l. l)
        (λ g. absurd (false≢true (sym h ∙ none_one_desk (plan_of ws) desk cells
        (desk_by_low (plan_of ws).desks t.part ps (some_desk ws e)) (few_desks ws e) (λ c n. (
          cells_low writes ps t.steps fit (and_snd (unused_zero t.params ps) _ pass) c n,
          own_touched (plan_of ws) t ps (some_desk ws e) m fit pass writes c n,
        )) (omega (arith, g, cause_cell_high (plan_of ws) desk cells))))))

  -- of the transaction that stands at a place among the words of the plan
  module _ (at : ℕ) (ps : List ℕ) (pass : parameters_pass (transaction_from ws at) ps ≡ true)
      (m : Memᴰ (transaction_from ws at) (plan_of ws).transactions) where
    abbrev desk : ℕ
    desk = desk_by (plan_of ws).desks (transaction_from ws at).part ps

    abbrev cells_written : List ℕ
    cells_written = cells_named writes ps (transaction_from ws at).steps

    pub cause_cell_low : one_desk_each (desk_mask (plan_of ws)) cells_written ≡ false
        → (d : ℕ) → d ≡ desk → cause_cell (plan_of ws) d cells_written < 1024
    cause_cell_low = low_cell (transaction_from ws at) ps (transaction_fits ws at) pass m

-- ---- writing

module _ (ws : List ℕ) (e : plan_verdict ws ≡ accepted) (t : declared.Transaction) (ps : List ℕ)
    (pass : parameters_pass (the_transaction t) ps ≡ true) (m : Memᴰ (the_transaction t) (plan_of ws).transactions)
    (w : list_any is_write (the_transaction t).steps ≡ true)
    (d : ℕ) (q : d ≡ desk_by (plan_of ws).desks (the_transaction t).part ps) where
  abbrev cells : List ℕ
  cells = cells_named writes ps (the_transaction t).steps

  own : (c : ℕ) → Memᴰ c cells → (c < store_size) × (touched (plan_of ws) c d ≡ true)
  own c n = (
    operation_low t ps pass writes c n,
    rw q (own_touched (plan_of ws) (the_transaction t) ps (some_desk ws e) m (steps_fit t.step_words.now) pass writes c n),
  )

  low : d < (plan_of ws).desks
  low = rw q (desk_by_low (plan_of ws).desks (the_transaction t).part ps (some_desk ws e))

  pub answered_local : cause_found (plan_of ws) d cells ≡ None → classed_local d ≡ classified_by (plan_of ws) (the_transaction t) ps
  unfolding class_by
  answered_local n = rw (w, none_one_desk (plan_of ws) d cells low (few_desks ws e) own high) (ap classed_local q)
    where
      high : cause_cell (plan_of ws) d cells ≡ store_size
      high = by_less (cause_cell (plan_of ws) d cells) store_size
          (λ l. absurd (none-some (cause_at (plan_of ws) d (cause_cell (plan_of ws) d cells)) (sym (rw (lt-ltb _ store_size l) at n))))
          (λ g. omega (arith, g, cause_cell_high (plan_of ws) d cells))

  -- by the masks: with one desk in that of each cell that it may write, and else with a cause
  abbrev class : Class
  class = class_by (plan_of ws) (the_transaction t) ps

  pub answered_one_desk : is_global class ≡ false → classed_local d ≡ classified_by (plan_of ws) (the_transaction t) ps
  unfolding class_by
  answered_one_desk g = rw (w, q) (go (one_desk_each (desk_mask (plan_of ws)) cells) (rw w at g))
    where
      own_desk : ℕ
      own_desk = desk_by (plan_of ws).desks (the_transaction t).part ps

      go : (b : Bool) → is_global (cond b local global) ≡ false
          → classed_local own_desk ≡ with_cause (cond b local global) own_desk (cause_by (plan_of ws) (the_transaction t) ps)
      go true i = refl
      go false i = absurd (false≢true (sym i))

  pub has_cause : is_global class ≡ true → (r : Option Cause) → r ≡ cause_found (plan_of ws) d cells → IsSome r
  unfolding class_by
  has_cause g r i =
      let l = low_cell ws e (the_transaction t) ps (steps_fit t.step_words.now) pass m
      (go (one_desk_each (desk_mask (plan_of ws)) cells) (rw w at g)) d q in
      rw (i, lt-ltb (cause_cell (plan_of ws) d cells) store_size l) refl
    where
      go : (b : Bool) → is_global (cond b local global) ≡ true → b ≡ false
      go true h = absurd (false≢true h)
      go false h = refl

  pub answered_global : (x : Cause) → cause_found (plan_of ws) d cells ≡ Some x
      → classed_global d x ≡ classified_by (plan_of ws) (the_transaction t) ps
  unfolding class_by
  answered_global x n =
      by_less (cause_cell (plan_of ws) d cells) store_size
      (λ l. rw (w, some_many_desks (plan_of ws) d cells low (few_desks ws e) own l, ← q)
      (ap (classed_global d) (sym (same_Some _ x (rw (lt-ltb (cause_cell (plan_of ws) d cells) store_size l) at n)))))
      (λ g. absurd (none-some x (rw (le-ltb (cause_cell (plan_of ws) d cells) store_size g) at n)))

-- ---- the classifier, by what its questions found

module _ (ws : List ℕ) (k : ℕ) (ps : List ℕ) where
  pub plan_refused : (q : ℕ) → refused q ≡ plan_verdict ws → class_refused q ≡ classify_result ws k ps
  unfolding classify_result
  plan_refused q e = rw (← e)

  -- by the words of the plan that was read
  module _ (e : accepted ≡ plan_verdict ws) (vs : List ℕ) (i : vs ≡ ws) where
    pub operation_refused : (q : ℕ) → refused q ≡ operation_verdict (plan_of vs) (operation k ps)
        → class_refused q ≡ classify_result ws k ps
    unfolding classify_result
    operation_refused q f = rw (← e, ← i, ← f)

    module _ (f : accepted ≡ operation_verdict (plan_of vs) (operation k ps))
        (t : Transaction) (j : t ≡ transaction_at (plan_of vs) k) where
      -- the transaction is one of the plan's
      pub belongs : Memᴰ t (plan_of vs).transactions
      unfolding operation_verdict transaction_exists
      belongs =
          rw j (get_or_member (plan_of vs).transactions k no_transaction
          (ltb-true k (length (plan_of vs).transactions)
          (ask_then_accepted 7 (ltb k (length (plan_of vs).transactions)) _ (sym f)).0))

      pub answered : (qs : List ℕ) → qs ≡ ps → (r : Classified) → r ≡ classified_by (plan_of vs) t qs → r ≡ classify_result ws k ps
      unfolding classify_result
      answered qs h r g = rw (← e, ← i, ← f) (g ∙ rw (j, h))

-- what the classifier's search needs
pub ruleset questions = (plan_refused, operation_refused, belongs, answered)
