-- The table of places while it is filled: the transactions before the walk's have their places, the others 0.
-- Assumes nothing.
use mathlib.Core.Path.{◌≡◌, ◌∙◌, sym, ap}
use mathlib.Core.Bool.{Bool, cond}
use mathlib.Core.List.{List}
use Prim.Native.Nat.{ℕ, ◌+◌, ◌<◌}
use native.Mathlib.Omega.{arith}
use lib.Dec.{ltb}
use lib.ListN.{length, get_or, set, length-set, replicate, length-replicate, get_or-replicate}
use lib.Seq.{get_or-set_same, get_or-set_other}
use borrow.Author.Tests.{lt-ltb, le-ltb}
use Rattle.lists.proofs.Laws.{length_tabulate, get_or_tabulate, whole_table, by_less, by_same}
use Rattle.word.specs.Field.{head_transactions}
use Rattle.plan.specs.Decode.{head_of}
use Rattle.plan.specs.Place.{transaction_place, transaction_places}

later : (j n : ℕ) → (j ≡ n → ⊥) → ltb j n ≡ ltb j (n + 1)
later j n s =
    by_less j n (λ h. lt-ltb j n h ∙ sym (lt-ltb j (n + 1) (omega arith)))
    (λ h. le-ltb j n h ∙ sym (le-ltb j (n + 1) (omega (arith, s))))

abbrev place_before : List ℕ → ℕ → ℕ → ℕ
place_before ws n j = cond (ltb j n) (transaction_place ws j) 0

pub record Placing (ws : List ℕ) (n : ℕ) (l : List ℕ) : Type 0 where
  pub long : length l ≡ 32
  pub entries : (j : ℕ) → j < 32 → get_or l j 0 ≡ place_before ws n j

pub placing_none : (ws : List ℕ) → Placing ws 0 (replicate 32 0)
placing_none ws = record {
  long = length-replicate {A = ℕ} 32 0;
  entries = λ j h. get_or-replicate {A = ℕ} 32 j 0 0 h ∙ sym (ap (λ (b : Bool). cond b (transaction_place ws j) 0) (le-ltb j 0
      (omega arith)));
}

module _ (ws : List ℕ) (n : ℕ) (l : List ℕ) (p : Placing ws n l) where
  pub placing_more : (at : ℕ) → n < 32 → at ≡ transaction_place ws n → Placing ws (n + 1) (set l n at)
  placing_more at h e = record {
    long = length-set l n at ∙ p.long;
    entries = λ j k. by_same j n
        (λ s. ap (λ (i : ℕ). get_or (set l n at) i 0) s ∙ get_or-set_same l n at 0 (omega (arith, p.long)) ∙ e
        ∙ ap (transaction_place ws) (sym s)
        ∙ sym (ap (λ (b : Bool). cond b (transaction_place ws j) 0) (lt-ltb j (n + 1) (omega arith))))
        (λ s. get_or-set_other l n j at 0 s ∙ p.entries j k ∙ ap (λ (b : Bool). cond b (transaction_place ws j) 0) (later j n s));
  }

  pub placing_done : n ≡ head_transactions (head_of ws) → l ≡ transaction_places ws
  placing_done e = whole_table 32 (place_before ws (head_transactions (head_of ws))) l 0 p.long
      (λ j h. p.entries j h ∙ ap (λ (m : ℕ). place_before ws m j) e)

-- ---- the table, looked up

module _ (ws l : List ℕ) (t : l ≡ transaction_places ws) where
  pub places_long : length l ≡ 32
  places_long = ap (λ (m : List ℕ). length m) t ∙ length_tabulate 32 (place_before ws (head_transactions (head_of ws)))

  pub place_found : (k : ℕ) → k < head_transactions (head_of ws) → k < 32 → get_or l k 0 ≡ transaction_place ws k
  place_found k h f =
      ap (λ (m : List ℕ). get_or m k 0) t ∙ get_or_tabulate 32 (place_before ws (head_transactions (head_of ws))) k 0 f
      ∙ ap (λ (b : Bool). cond b (transaction_place ws k) 0) (lt-ltb k (head_transactions (head_of ws)) h)
