-- What holds after every call of a history.
-- Assumes nothing.
use Prim.Native.Nat.{ℕ, suc, ◌+◌, ◌%◌, ◌≤◌, ◌<◌}
use mathlib.Core.Path.{◌≡◌, sym, ◌∙◌, ap, subst}
use mathlib.Core.List.{List, []}
use native.Mathlib.Omega.{arith}
use native.Mathlib.Nat.{mul-le-mul_right}
use lib.ListN.{get_or}
use Rattle.std.specs.List.{AllByRecursion}
use Rattle.lists.proofs.Laws.{All_part}
use Rattle.serial.specs.Store.{Store, apply_all, Same}
use Rattle.serial.specs.Frame.{Frame}
use Rattle.serial.specs.Desk.{Request}
use Rattle.serial.specs.System.{System, Laws}
use Rattle.serial.specs.Order.{Finished, span, place_at, place, upto, beyond}
use Rattle.serial.specs.SerialRun.{store_after, due}
use Rattle.serial.specs.Hearing.{Hears, owed}
use Rattle.serial.proofs.Sorting
use Rattle.serial.proofs.Sorting.{Low}
use Rattle.serial.proofs.Conflicts
use Rattle.serial.proofs.Conflicts.{BehindOf, BesideOf, Leaves, OfDesk, Tagged}
use Rattle.serial.proofs.Runs

-- of all frames only tk itself has its number, and none has a higher one
abbrev pub Known : Frame → Frame → Type 0
Known tk f = (f.number ≤ tk.number) × (f.number ≡ tk.number → f ≡ tk)

module _ (S : System) where
  open S use {n, Op, Reply, Writes}

  -- b the starting store; stores, queues and aw each desk's store, queue and awaited number; m the count of globals, and g p that at
  -- p's latest visit; es the serial order; past the replies to each call; fs all frames and tk the latest
  pub record Inv (b : Store) (stores : ℕ → Store) (queues : ℕ → List (Request Op)) (aw g : ℕ → ℕ) (m : ℕ) (es : List (Finished Op))
      (past : List (List (ℕ × Reply))) (fs : List Frame) (tk : Frame) : Type 0 where
    -- tk is for the desk that awaits its number; the others' turns come within the circle
    pub wait_low : (p : ℕ) → p < n → tk.number ≤ aw p
    pub wait_high : (p : ℕ) → p < n → aw p < tk.number + n
    pub wait_mod : (p : ℕ) → p < n → aw p % n ≡ p
    pub frames : AllByRecursion (Known tk) fs
    pub tags : AllByRecursion (Tagged S) tk.updates
    pub g_low : (p : ℕ) → g p ≤ m
    -- whose turn comes first has heard least
    pub turns : (p q : ℕ) → p < n → q < n → aw p ≤ aw q → g p ≤ g q
    -- nothing stands behind the last global's places; behind desk p's place nothing of desk p's; and behind what it would have with all
    -- globals heard only other desks' runs at once
    pub low : AllByRecursion (Low (place n) (place_at n m n)) es
    pub own_not_beyond : (p : ℕ) → p < n → AllByRecursion (BehindOf S p) (beyond (place n) (place_at n (g p) (suc p)) es)
    pub others_beyond : (p : ℕ) → p < n → AllByRecursion (BesideOf S p) (beyond (place n) (place_at n m (suc p)) es)
    -- on what it hears of, a desk's store is the serial one at its place, and with what it is owed the serial one at the end
    pub serial_at_place : (p : ℕ) → p < n → Same (Hears S p) (stores p) (store_after S (upto (place n) (place_at n (g p) (suc p)) es) b)
    pub serial_with_owed : (p : ℕ) → p < n → Same (Hears S p) (apply_all (owed aw p tk.updates) (stores p)) (store_after S es b)
    pub queued : (p : ℕ) → AllByRecursion (OfDesk S p) (queues p)
    pub giving : (i : ℕ) → get_or past i [] ≡ due S i es b

module _ (S : System) (L : Laws S) where
  open S use {n, Op}

  pub place_mono : {j k : ℕ} (i : ℕ) → j ≤ k → place_at n j i ≤ place_at n k i
  place_mono {j} {k} i h = omega (arith, mul-le-mul_right (span n) h)

  -- the serial store at the end is the one up to k, on cells that nothing beyond may write
  pub upto_off : {P : ℕ → Type 0} (k : ℕ) (es : List (Finished Op)) (b : Store) → AllByRecursion (Leaves S P) (beyond (place n) k es) →
      Same P (store_after S es b) (store_after S (upto (place n) k es) b)
  upto_off {P} k es b h =
      subst (λ (x : Store). Same P x (store_after S (upto (place n) k es) b))
      (sym (Runs.store_after_append S L (upto (place n) k es) (beyond (place n) k es) b)
      ∙ ap (λ (l : List (Finished Op)). store_after S l b) (Sorting.upto_beyond (place n) k es))
      (Runs.store_after_off S L {P = P} (beyond (place n) k es) (store_after S (upto (place n) k es) b) h)

  pub upto_hears : (p k : ℕ) (es : List (Finished Op)) (b : Store) → AllByRecursion (BesideOf S p) (beyond (place n) k es) →
      Same (Hears S p) (store_after S es b) (store_after S (upto (place n) k es) b)
  upto_hears p k es b h =
      upto_off k es b (All_part (BesideOf S p) (Leaves S (Hears S p)) (beyond (place n) k es)
      (λ e a. Conflicts.elsewhere_off S L p e.request.op a) h)
