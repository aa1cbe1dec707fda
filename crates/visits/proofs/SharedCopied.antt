-- A snapshot while its cells are copied, first to last: those before place k are taken, those from there on are as they were. And by the
-- table of masks it is the snapshot by the masks.
-- Assumes nothing.
use mathlib.Core.Path.{◌≡◌, refl, ◌∙◌, ap}
use mathlib.Core.Bool.{cond}
use mathlib.Core.List.{List}
use Prim.Native.Nat.{ℕ, ◌+◌, ◌≤◌, ◌<◌}
use native.Mathlib.Omega.{arith}
use lib.ListN.{length, get_or, set}
use lib.Seq.{get_or-set_other}
use Rattle.lists.proofs.Laws.{length_tabulate, get_or_tabulate, whole_table, Tabling, tabling_none, tabling_more, tabling_done}
use Rattle.plan.specs.Plan.{Plan}
use Rattle.operation.specs.Store.{Store, store_size}
use Rattle.conflict.specs.Touch.{desk_mask, mask_table}
use Rattle.conflict.specs.Shared.{is_shared}
use Rattle.visits.specs.Snapshot.{copied_by, snapshot_taken}

module _ (mask : ℕ → ℕ) (cells : Store) (old : List ℕ) where
  -- the word of cell c
  abbrev word : ℕ → ℕ
  word c = cond (is_shared (mask c)) (get_or cells c 0) (get_or old c 0)

  pub record Copying (k : ℕ) (l : List ℕ) : Type 0 where
    pub taken : Tabling store_size word k l
    pub rest : (c : ℕ) → k ≤ c → get_or l c 0 ≡ get_or old c 0

  pub copying_none : length old ≡ store_size → Copying 0 old
  copying_none e = record { taken = tabling_none store_size word old e; rest = λ c h. refl }

  pub copying_more : (k : ℕ) (l : List ℕ) → Copying k l → (x : ℕ) → k < store_size
      → x ≡ cond (is_shared (mask k)) (get_or cells k 0) (get_or l k 0) → Copying (k + 1) (set l k x)
  copying_more k l p x h e =
      record {
        taken = tabling_more store_size word k l p.taken x h (rw (← p.rest k (omega arith)) e);
        rest = λ c m. get_or-set_other l k c x 0 (λ s. omega arith) ∙ p.rest c (omega arith);
      }

  pub copying_done : (k : ℕ) (l : List ℕ) → Copying k l → store_size ≤ k → l ≡ copied_by mask cells old
  unfolding copied_by
  copying_done k l p h = tabling_done store_size word k l p.taken h

-- the table of a plan's masks gives the plan's snapshot
pub taken_by : (p : Plan) (masks : List ℕ) (cells : Store) (old : List ℕ) → masks ≡ mask_table p
    → copied_by (λ c. get_or masks c 0) cells old ≡ snapshot_taken p cells old
unfolding copied_by
taken_by p masks cells old e =
    whole_table store_size (word (desk_mask p) cells old) _ 0 (length_tabulate store_size (word (λ c. get_or masks c 0) cells old))
    (λ c h. get_or_tabulate store_size (word (λ c. get_or masks c 0) cells old) c 0 h
    ∙ ap (λ (m : ℕ). cond (is_shared m) (get_or cells c 0) (get_or old c 0))
    (ap (λ (l : List ℕ). get_or l c 0) e ∙ get_or_tabulate store_size (desk_mask p) c 0 h))
