-- An instance with two desks, made of transactions by steps and classes by masks: the laws hold of it.
-- Assumes nothing.
use Prim.Native.Nat.{ℕ, ◌<◌}
use mathlib.Core.Path.{◌≡◌, refl}
use mathlib.Core.Logic.{◌⊎◌, inl, inr}
use mathlib.Core.Bool.{Bool, true, false, ◌||◌}
use mathlib.Core.List.Memᴰ
use mathlib.Core.List.{List, [], ◌∷◌, ◌++◌, Memᴰ}
use native.Mathlib.Omega.{arith}
use lib.ListN.{length}
use lib.Dec.{eqb, ltb, eqb→eq}
use Rattle.lists.proofs.Laws.{cons_in_snoc, snoc_in_cons}
use Rattle.plan.specs.Plan.{param, fixed, reads, writes, sets, cell, operand, Partitioning, by_param, unpartitioned, Transaction, Plan}
use Rattle.operation.specs.Operation.{Operation, operation, desk_of, cells_named, read_set, write_set, MayRead, MayWrite}
use Rattle.execution.specs.Run.{Reply, run}
use Rattle.conflict.proofs.Ones.{count_of}
use Rattle.serial.specs.Desk.{Desk, Call, request, visit}
use Rattle.serial.specs.System.{free, local, global, System, Laws}
use Rattle.history.proofs.Transactions.{run_reply_reads, run_update_reads, run_update_writes}
use Rattle.history.proofs.Classes.{class_by, class_free_writes, class_free_reads, class_local_alone}

-- ---- the operations: file d v, desk d sets its own cell d to v; raise v, desk 0 sets cell 2; look, desk 1 reads cell 2; catalogue,
-- anywhere, reads cell 3, which none writes

pub data Op : Type 0 where
  file₀ file₁ raise : ℕ → Op
  look catalogue : Op

abbrev transaction : ℕ → Transaction
transaction column = record {
  params = 2;
  part = by_param 0;
  weight = 0;
  urgent = false;
  steps = operand sets (param 1) ∷ cell writes 0 column (fixed 0) ∷ [];
}

abbrev reading : Partitioning → ℕ → Transaction
reading part column = record { params = 1; part = part; weight = 0; urgent = false; steps = cell reads 0 column (fixed 0) ∷ [] }

abbrev plan : Plan
plan =
    record {
      desks = 2;
      transactions = transaction 0 ∷ transaction 1 ∷ transaction 2 ∷ reading (by_param 0) 2 ∷ reading unpartitioned 3 ∷ [];
    }

abbrev operation_of : Op → Operation
operation_of (file₀ v) = operation 0 (0 ∷ v ∷ [])
operation_of (file₁ v) = operation 1 (1 ∷ v ∷ [])
operation_of (raise v) = operation 2 (0 ∷ v ∷ [])
operation_of look = operation 3 (1 ∷ [])
operation_of catalogue = operation 4 []

-- ---- the masks: cell 0 is desk 0's, cell 1 desk 1's; both may touch cell 2, desk 0 writes it

abbrev touched : ℕ → ℕ → Bool
touched c d = eqb c d || (eqb c 2 || eqb c 3)

abbrev written : ℕ → ℕ → Bool
written c d = ltb c 3

abbrev reads_of : Op → List ℕ
reads_of o = read_set plan (operation_of o)

abbrev writes_of : Op → List ℕ
writes_of o = write_set plan (operation_of o)

abbrev desk_for : Op → ℕ
desk_for o = desk_of plan (operation_of o)

below : (o : Op) → desk_for o < 2
below (file₀ v) = omega arith
below (file₁ v) = omega arith
below (raise v) = omega arith
below look = omega arith
below catalogue = omega arith

-- what holds of the one cell that it names
only : (P : ℕ → Type 0) (a c : ℕ) → P a → Memᴰ c (a ∷ []) → P c
only P a c h m = rw (Memᴰ.eq_of_singleton m) h

abbrev Touched : ℕ → ℕ → Type 0
Touched d c = touched c d ≡ true

touches : (o : Op) (c : ℕ) → Memᴰ c (reads_of o) ⊎ Memᴰ c (writes_of o) → touched c (desk_for o) ≡ true
unfolding cells_named
touches (file₀ v) c (inl m) = absurd (Memᴰ.not-nil m)
touches (file₀ v) c (inr m) = only (Touched 0) 0 c refl m
touches (file₁ v) c (inl m) = absurd (Memᴰ.not-nil m)
touches (file₁ v) c (inr m) = only (Touched 1) 1 c refl m
touches (raise v) c (inl m) = absurd (Memᴰ.not-nil m)
touches (raise v) c (inr m) = only (Touched 0) 2 c refl m
touches look c (inl m) = only (Touched 1) 2 c refl m
touches look c (inr m) = absurd (Memᴰ.not-nil m)
touches catalogue c (inl m) = only (Touched 0) 3 c refl m
touches catalogue c (inr m) = absurd (Memᴰ.not-nil m)

writings : (o : Op) (c : ℕ) → Memᴰ c (writes_of o) → written c (desk_for o) ≡ true
unfolding cells_named
writings (file₀ v) c m = only (λ c. written c 0 ≡ true) 0 c refl m
writings (file₁ v) c m = only (λ c. written c 1 ≡ true) 1 c refl m
writings (raise v) c m = only (λ c. written c 0 ≡ true) 2 c refl m
writings look c m = absurd (Memᴰ.not-nil m)
writings catalogue c m = absurd (Memᴰ.not-nil m)

-- ---- the admission

abbrev admission : Desk Op → Call Op Unit → Bool
admission d (request p r x) = ltb (length d.queue) 32
admission d (visit p f x) = eqb f.number d.awaited

-- ---- the system

abbrev pub example : System
example =
    record {
      n = 2;
      Op = Op;
      Extra = Unit;
      Reply = Reply;
      desk = desk_for;
      class = λ o. class_by 2 touched written (reads_of o) (writes_of o);
      Reads = λ o. MayRead plan (operation_of o);
      Writes = λ o. MayWrite plan (operation_of o);
      reply = λ o s. (run plan (operation_of o) s).reply;
      update = λ o s. (run plan (operation_of o) s).update;
      join = λ q r. q ++ (r ∷ []);
      admits = admission;
    }

-- the classes that come out
abbrev listed : List Op
listed = file₀ 8 ∷ file₁ 8 ∷ raise 3 ∷ look ∷ catalogue ∷ []

classes : mathlib.Core.List.map example.class listed ≡ (local ∷ local ∷ global ∷ local ∷ free ∷ [])
unfolding cells_named count_of
classes = refl

pub example_laws : Laws example
example_laws =
    record {
      some_desk = omega arith;
      desk_below = below;
      reply_reads = λ o. run_reply_reads plan (operation_of o);
      update_reads = λ o. run_update_reads plan (operation_of o);
      update_writes = λ o. run_update_writes plan (operation_of o);
      free_writes = class_free_writes 2 touched written reads_of writes_of desk_for below touches writings;
      free_reads = class_free_reads 2 touched written reads_of writes_of desk_for below touches writings;
      local_alone = class_local_alone 2 touched written reads_of writes_of desk_for below touches writings;
      join_keeps = cons_in_snoc;
      join_only = snoc_in_cons;
      awaited_only = λ d p f x h. eqb→eq f.number d.awaited h;
    }
