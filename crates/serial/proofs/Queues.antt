-- Laws of a queue that runs: on stores that agree it runs alike, and as the last globals it gives the replies due.
-- Assumes nothing.
use Prim.Native.Nat.{ℕ, suc}
use mathlib.Core.Path.{◌≡◌, refl, ap}
use mathlib.Core.Logic.{◌≢◌}
use mathlib.Core.List.{List, [], ◌∷◌}
use Rattle.std.proofs.lemmas.Bool.{ne_eqb, eq-eqb}
use Rattle.std.specs.List.{AllByRecursion}
use Rattle.serial.specs.Store.{Store, apply_all, Same, Within}
use Rattle.serial.specs.Desk.{Request}
use Rattle.serial.specs.System.{System, Laws}
use Rattle.serial.specs.Step.{run_one, run_all, replies_of, updates_of}
use Rattle.serial.specs.SerialRun.{ranked, store_after, due}
use Rattle.serial.proofs.Stores.{Within_part}
use Rattle.serial.proofs.Conflicts.{ReadsIn, OfDesk, OutCell}
use Rattle.serial.proofs.Runs.{reply_same, update_same, run_one_same}

module _ (S : System) (L : Laws S) where
  open S use {Op, Reply, Writes, reply, update}

  -- ---- A queue of requests

  module _ (P : ℕ → Type 0) where
    pub replies_same : (ts : List (Request Op)) (a b : Store) → AllByRecursion (ReadsIn S P) ts → Same P a b
        → replies_of S ts a ≡ replies_of S ts b
    replies_same [] a b h s = refl
    replies_same (t ∷ ts) a b h s =
        rw (
          reply_same S L {P = P} t.op a b h.0 s,
          replies_same ts (run_one S t.op a) (run_one S t.op b) h.1
              (run_one_same S L {P = P} t.op a b h.0 s),
        ) refl

    pub updates_same : (ts : List (Request Op)) (a b : Store) → AllByRecursion (ReadsIn S P) ts → Same P a b
        → updates_of S ts a ≡ updates_of S ts b
    updates_same [] a b h s = refl
    updates_same (t ∷ ts) a b h s =
        rw (
          updates_same ts (run_one S t.op a) (run_one S t.op b) h.1
              (run_one_same S L {P = P} t.op a b h.0 s),
          update_same S L {P = P} t.op a b h.0 s,
        ) refl

    pub run_all_same : (ts : List (Request Op)) (a b : Store) → AllByRecursion (ReadsIn S P) ts → Same P a b
        → Same P (run_all S ts a) (run_all S ts b)
    run_all_same [] a b h s = s
    run_all_same (t ∷ ts) a b h s = run_all_same ts (run_one S t.op a) (run_one S t.op b) h.1
        (run_one_same S L {P = P} t.op a b h.0 s)

  pub run_all_updates : (ts : List (Request Op)) (b : Store) → run_all S ts b ≡ apply_all (updates_of S ts b) b
  run_all_updates [] b = refl
  run_all_updates (t ∷ ts) b = run_all_updates ts (run_one S t.op b)

  pub updates_out : (p : ℕ) (ts : List (Request Op)) (b : Store) → AllByRecursion (OfDesk S p) ts
      → AllByRecursion (Within (OutCell S p)) (updates_of S ts b)
  updates_out p [] b h = tt
  updates_out p (t ∷ ts) b h = (
    Within_part (Writes t.op) (OutCell S p) (update t.op b) (λ c k. (t.op, h.0, k))
        (L.update_writes t.op b),
    updates_out p ts (run_one S t.op b) h.1,
  )

  -- ---- A queue that becomes the last globals

  pub ranked_store : (i k : ℕ) (ts : List (Request Op)) (b : Store) → store_after S (ranked S i k ts) b ≡ run_all S ts b
  ranked_store i k [] b = refl
  ranked_store i k (t ∷ ts) b = ranked_store i (suc k) ts (run_one S t.op b)

  pub ranked_due : (i k : ℕ) (ts : List (Request Op)) (b : Store) → due S i (ranked S i k ts) b ≡ replies_of S ts b
  ranked_due i k [] b = refl
  ranked_due i k (t ∷ ts) b =
      rw (eq-eqb i i refl) (ap (λ (l : List (ℕ × Reply)). (t.client, reply t.op b) ∷ l) (ranked_due i (suc k) ts (run_one S t.op b)))

  pub ranked_due_other : (i j k : ℕ) (ts : List (Request Op)) (b : Store) → i ≢ j → due S j (ranked S i k ts) b ≡ []
  ranked_due_other i j k [] b h = refl
  ranked_due_other i j k (t ∷ ts) b h = rw (ne_eqb _ _ h) (ranked_due_other i j (suc k) ts (run_one S t.op b) h)
