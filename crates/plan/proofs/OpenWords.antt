-- Open fields among the words of a plan: no step's word is one, and a transaction's is where its partitioning is not decided.
-- Assumes nothing.
use mathlib.Core.Path.{◌≡◌, refl, ◌∙◌, sym, ap, ap₂}
use mathlib.Core.Bool.{Bool, true, false, not, ◌&&◌, ◌||◌, false≢true}
use mathlib.Core.List.{List, [], ◌∷◌}
use Prim.Native.Nat.{ℕ, zero, suc, ◌+◌, ◌≤◌, ◌<◌}
use native.Mathlib.Omega.{arith}
use lib.ListN.{length, get_or, take, drop, take-append-drop}
use lib.Dec.{eqb}
use borrow.Author.Tests.{eq-eqb, ne_eqb, eqb-true}
use Rattle.std.specs.List.{list_all, list_any}
use Rattle.std.proofs.lemmas.List.Folds.{list_any-append}
use Rattle.std.proofs.lemmas.List.{at_drop_more, at_drop_all}
use Rattle.lists.proofs.Laws.{and_fst, and_snd}
use Rattle.word.specs.Field.{kind_of, head_transactions, step_count, partitioning_field}
use Rattle.plan.specs.Decode.{open_field, is_open, part_by, transactions_of, plan_of}
use Rattle.plan.specs.Admission.{transaction_formed, step_formed, well_formed, part_decided, decided, OpenFound}
use Rattle.plan.proofs.Words.{step_kind_low, transaction_kind}
use Rattle.plan.proofs.Partitionings.{part_decided_lem}
use Rattle.plan.proofs.FormedParts.{formed_parts}
use Rattle.plan.proofs.Accepted.{open_accepted_gives}

-- ---- one word

-- only a word of kind 2 is open
pub not_open : (w : ℕ) → (kind_of w ≡ 2 → ⊥) → is_open w ≡ false
not_open w n = rw (ne_eqb (kind_of w) 2 n)

pub open_kind : (w : ℕ) → is_open w ≡ true → kind_of w ≡ 2
open_kind w e = eqb-true (kind_of w) 2 (and_fst (eqb (kind_of w) 2) _ e)

pub open_field_lem : (w : ℕ) → is_open w ≡ true → partitioning_field w ≡ open_field
open_field_lem w e = eqb-true (partitioning_field w) open_field (and_snd (eqb (kind_of w) 2) _ e)

pub step_not_open : (w : ℕ) → step_formed w ≡ true → is_open w ≡ false
step_not_open w f = not_open w (λ e. omega (arith, step_kind_low w f))

-- its partitioning is decided exactly if the word is not open
pub transaction_decided : (w : ℕ) → transaction_formed w ≡ true → part_decided (part_by (partitioning_field w)) ≡ not (is_open w)
transaction_decided w f = part_decided_lem (partitioning_field w) ∙ rw (eq-eqb (kind_of w) 2 (transaction_kind w f))

-- ---- the words of a plan

steps_not_open : (ws : List ℕ) → list_all step_formed ws ≡ true → list_any is_open ws ≡ false
steps_not_open [] f = refl
steps_not_open (w ∷ ws) f =
    ap₂ (λ (a b : Bool). a || b) (step_not_open w (and_fst (step_formed w) _ f)) (steps_not_open ws (and_snd (step_formed w) _ f))

not_or : (a b : Bool) → (not a && not b) ≡ not (a || b)
not_or true b = refl
not_or false b = refl

transactions_decided : (n : ℕ) (ws : List ℕ) → well_formed n ws ≡ true → list_all decided (transactions_of n ws) ≡ not (list_any is_open ws)
unfolding well_formed transactions_of
transactions_decided zero [] f = refl
transactions_decided zero (w ∷ ws) f = absurd (false≢true f)
transactions_decided (suc n) [] f = absurd (false≢true f)
transactions_decided (suc n) (w ∷ ws) f =
    let p = formed_parts n w ws f in
    let steps = steps_not_open (take (step_count w) ws) p.steps in
    ap₂ (λ (x y : Bool). x && y) (transaction_decided w p.form) (transactions_decided n (drop (step_count w) ws) p.rest)
    ∙ not_or (is_open w) (list_any is_open (drop (step_count w) ws))
    ∙ ap (λ (x : Bool). not (is_open w || x))
    (ap (λ (x : Bool). x || list_any is_open (drop (step_count w) ws)) (sym steps)
    ∙ sym (list_any-append is_open (take (step_count w) ws) (drop (step_count w) ws))
    ∙ ap (list_any is_open) (take-append-drop (step_count w) ws))

-- the head is of kind 1
pub open_found : OpenFound
unfolding plan_of
open_found [] e = absurd (omega (arith, (open_accepted_gives [] e).words_low))
open_found (w ∷ ws) e =
    let a = open_accepted_gives (w ∷ ws) e in
    transactions_decided (head_transactions w) ws a.form
    ∙ ap (λ (x : Bool). not (x || list_any is_open ws)) (sym (not_open w (λ k. omega (arith, k, a.head_kind))))

-- ---- by the place among the words

-- some word from this place on is open
pub some_open_from : List ℕ → ℕ → Bool
some_open_from ws i = list_any is_open (drop i ws)

pub open_all : (ws : List ℕ) → list_any is_open ws ≡ some_open_from ws 0
unfolding some_open_from
open_all ws = refl

module _ (ws : List ℕ) (i : ℕ) where
  pub open_here : i < length ws → some_open_from ws i ≡ (is_open (get_or ws i 0) || some_open_from ws (i + 1))
  unfolding some_open_from
  open_here h = at_drop_more (list_any is_open) ws i 0 h

  pub open_none : length ws ≤ i → some_open_from ws i ≡ false
  unfolding some_open_from
  open_none h = at_drop_all (list_any is_open) ws i h
