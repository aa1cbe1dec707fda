-- A table that holds f at each index is the list of f's values, also where it is filled one by one.
-- Assumes nothing.
use mathlib.Core.Path.{◌≡◌, ◌∙◌, sym, ap}
use mathlib.Core.List.{List}
use Prim.Native.Nat.{ℕ, ◌+◌, ◌≤◌, ◌<◌}
use native.Mathlib.Omega.{arith}
use lib.ListN.{length, get_or, set, length-set}
use lib.Seq.{get_or-set_same, get_or-set_other}
use Rattle.std.proofs.lemmas.List.FromFn.{length-map-range_with_len, get_or-map-range_with_len, fill_by_all}
use Rattle.lists.specs.Lists.Tabulate.{tabulate}
use Rattle.lists.proofs.Laws.Tests.{by_same}

module _ {A : Type 0} where
  pub length_tabulate : (n : ℕ) (f : ℕ → A) → length (tabulate n f) ≡ n
  unfolding tabulate
  length_tabulate n f = length-map-range_with_len f 0 n

  pub get_or_tabulate : (n : ℕ) (f : ℕ → A) (i : ℕ) (d : A) → i < n → get_or (tabulate n f) i d ≡ f i
  unfolding tabulate
  get_or_tabulate n f i d h = get_or-map-range_with_len f 0 n i i d h (omega arith)

  pub whole_table : (n : ℕ) (f : ℕ → A) (l : List A) (d : A) → length l ≡ n → ((i : ℕ) → i < n → get_or l i d ≡ f i) → l ≡ tabulate n f
  unfolding tabulate
  whole_table n f l d e h = fill_by_all f l n d e h

-- ---- a table of numbers while it is filled from the front: the entries before place k are f's values

pub record Tabling (n : ℕ) (f : ℕ → ℕ) (k : ℕ) (l : List ℕ) : Type 0 where
  pub long : length l ≡ n
  pub entries : (j : ℕ) → j < k → get_or l j 0 ≡ f j

pub tabling_none : (n : ℕ) (f : ℕ → ℕ) (l : List ℕ) → length l ≡ n → Tabling n f 0 l
tabling_none n f l e = record { long = e; entries = λ j h. absurd (omega arith) }

module _ (n : ℕ) (f : ℕ → ℕ) (k : ℕ) (l : List ℕ) (p : Tabling n f k l) where
  pub tabling_more : (x : ℕ) → k < n → x ≡ f k → Tabling n f (k + 1) (set l k x)
  tabling_more x h e = record {
    long = length-set l k x ∙ p.long;
    entries = λ j b. by_same j k
        (λ s. ap (λ (i : ℕ). get_or (set l k x) i 0) s ∙ get_or-set_same l k x 0 (omega (arith, p.long)) ∙ e ∙ ap f (sym s))
        (λ s. get_or-set_other l k j x 0 s ∙ p.entries j (omega (arith, s)));
  }

  pub tabling_done : n ≤ k → l ≡ tabulate n f
  tabling_done h = whole_table n f l 0 p.long (λ j b. p.entries j (omega arith))
