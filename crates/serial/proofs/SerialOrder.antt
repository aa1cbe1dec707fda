-- For the reader's trust: the serial order follows 01's rule as it is written, and is a permutation of the finished operations.
-- Assumes nothing.
use Prim.Native.Nat.{ℕ, suc, ◌+◌, ◌*◌, ◌≤◌, ◌<◌}
use mathlib.Core.Path.{◌≡◌, ap₂, ap}
use mathlib.Core.Logic.{◌⊎◌, inl, inr}
use mathlib.Core.Bool.{Bool, true, false}
use mathlib.Core.List.{List, [], ◌∷◌, ◌++◌, Perm}
use native.Mathlib.Omega.{arith}
use native.Mathlib.Nat.{mul-le-mul_right, suc-mul, le_refl}
use lib.ListN.{length, length-append}
use Rattle.lists.proofs.Laws.{by_same, by_less, All_append, All_part, Pairs_append, Pairs_part}
use Rattle.std.specs.List.{AllByRecursion}
use Rattle.lists.specs.Lists.{Pairs}
use Rattle.serial.specs.Desk.{Request, Call, request, visit, desk_called}
use Rattle.serial.specs.System.{System}
use Rattle.serial.specs.Step.{Route, immediate, enqueue, redirect, route}
use Rattle.serial.specs.Order.{Slot, global_run, immediate_run, Finished, span, place_of, place, Before, Precedes}
use Rattle.serial.specs.SerialRun.{Serial, ranked, note_nothing, note_request, note_visit, note, note_all, new_serial, serial, order}
use Rattle.serial.proofs.Sorting
use Rattle.serial.proofs.StableSort.{ByKey, sorted, sort_perm}

-- ---- places against the rule

-- the desk of a run at once is below n
abbrev pub Ranged : ℕ → Slot → Type 0
Ranged n (global_run k) = Unit {0}
Ranged n (immediate_run g p) = p < n

module _ (n : ℕ) where
  -- a later global's places lie behind all of an earlier one's
  step_up : (j k : ℕ) → j < k → j * span n + span n ≤ k * span n
  step_up j k h = omega (arith, suc-mul j (span n), mul-le-mul_right {m = suc j} {n = k} (span n) h)

  pub place_before_lem : (a b : Slot) → Ranged n a → Ranged n b → place_of n a < place_of n b → Before a b
  place_before_lem (global_run j) (global_run k) r t l =
      by_less j k (λ h. h) (λ h. absurd (omega (arith, mul-le-mul_right {m = k} {n = j} (span n) h)))
  place_before_lem (global_run k) (immediate_run g p) r t l = by_less g k (λ h. absurd (omega (arith, step_up g k h))) (λ h. h)
  place_before_lem (immediate_run g p) (global_run k) r t l =
      by_less g k (λ h. h) (λ h. absurd (omega (arith, mul-le-mul_right {m = k} {n = g} (span n) h)))
  place_before_lem (immediate_run g p) (immediate_run h q) r t l =
      by_less g h (λ k. inl k)
      (λ k. by_same g h (λ e. inr (e, let z : g * span n ≡ h * span n = ap (λ (x : ℕ). x * span n) e in omega arith))
      (λ e. absurd (omega (arith, step_up h g (omega arith)))))

  -- equal places: the same slot
  pub place_same : (a b : Slot) → Ranged n a → Ranged n b → place_of n a ≡ place_of n b → a ≡ b
  place_same (global_run j) (global_run k) r t e =
      ap global_run
      (by_less j k (λ h. absurd (omega (arith, step_up j k h)))
      (λ h. by_less k j (λ l. absurd (omega (arith, step_up k j l))) (λ l. omega arith)))
  place_same (global_run k) (immediate_run g p) r t e =
      by_less g k (λ h. absurd (omega (arith, step_up g k h))) (λ h. absurd (omega (arith, mul-le-mul_right {m = k} {n = g} (span n) h)))
  place_same (immediate_run g p) (global_run k) r t e =
      by_less g k (λ h. absurd (omega (arith, step_up g k h))) (λ h. absurd (omega (arith, mul-le-mul_right {m = k} {n = g} (span n) h)))
  place_same (immediate_run g p) (immediate_run h q) r t e =
      by_less g h (λ l. absurd (omega (arith, step_up g h l)))
      (λ l. by_less h g (λ k. absurd (omega (arith, step_up h g k)))
      (λ k. let i : g ≡ h = omega arith in let z : g * span n ≡ h * span n = ap (λ (x : ℕ). x * span n) i in
      ap₂ immediate_run i (omega arith)))

-- the rule never puts two operations both ways, so it leaves one order only
before_once : (a b : Slot) → Before a b → Before b a → ⊥
before_once (global_run j) (global_run k) h l = omega arith
before_once (global_run k) (immediate_run g p) h l = omega arith
before_once (immediate_run g p) (global_run k) h l = omega arith
before_once (immediate_run g p) (immediate_run h q) (inl k) (inl l) = omega arith
before_once (immediate_run g p) (immediate_run h q) (inl k) (inr l) = omega (arith, l.0)
before_once (immediate_run g p) (immediate_run h q) (inr k) (inl l) = omega (arith, k.0)
before_once (immediate_run g p) (immediate_run h q) (inr k) (inr l) = omega (arith, k.1, l.1)

pub precedes_once : {Op : Type 0} (e f : Finished Op) → Precedes e f → Precedes f e → ⊥
precedes_once e f (inl h) (inl l) = before_once e.slot f.slot h l
precedes_once e f (inl h) (inr l) = before_once e.slot e.slot (rw l.0 at h) (rw l.0 at h)
precedes_once e f (inr h) (inl l) = before_once f.slot f.slot (rw h.0 at l) (rw h.0 at l)
precedes_once e f (inr h) (inr l) = omega (arith, h.1, l.1)

-- ---- the order of running

-- a global ran before another by their numbers, any other pair by the calls
abbrev RanBefore : Slot → Slot → ℕ → ℕ → Type 0
RanBefore (global_run j) (global_run k) a b = j < k
RanBefore (global_run j) (immediate_run g p) a b = a < b
RanBefore (immediate_run g p) (global_run k) a b = a < b
RanBefore (immediate_run g p) (immediate_run h q) a b = a < b

-- finished before call i, where it is no global, and as one of the first m globals, where it is one
abbrev Under : ℕ → ℕ → Slot → ℕ → Type 0
Under i m (global_run k) a = k ≤ m
Under i m (immediate_run g p) a = a < i

under_more : (i j m k : ℕ) → i ≤ j → m ≤ k → (s : Slot) (a : ℕ) → Under i m s a → Under j k s a
under_more i j m k h l (global_run x) a u = omega arith
under_more i j m k h l (immediate_run g p) a u = omega arith

under_global : (i m : ℕ) (s : Slot) (a : ℕ) → Under i m s a → RanBefore s (global_run (suc m)) a i
under_global i m (global_run k) a u = omega arith
under_global i m (immediate_run g p) a u = u

earlier_immediate : (s : Slot) (g p a b : ℕ) → a < b → RanBefore s (immediate_run g p) a b
earlier_immediate (global_run k) g p a b h = h
earlier_immediate (immediate_run h q) g p a b l = l

-- equal slots: the order of running is that of the calls
same_slot : (a b : Slot) (x y : ℕ) → a ≡ b → RanBefore a b x y → Before a b ⊎ ((a ≡ b) × (x < y))
same_slot (global_run j) (global_run k) x y e r = inl r
same_slot (global_run j) (immediate_run g p) x y e r = inr (e, r)
same_slot (immediate_run g p) (global_run k) x y e r = inr (e, r)
same_slot (immediate_run g p) (immediate_run h q) x y e r = inr (e, r)

module _ (S : System) where
  open S use {n, Op, Extra}

  abbrev pub AtDesk : Call Op Extra → Type 0
  AtDesk c = desk_called c < n

  abbrev Ran : Finished Op → Finished Op → Type 0
  Ran e f = RanBefore e.slot f.slot e.by f.by

  abbrev InRange : Finished Op → Type 0
  InRange e = Ranged n e.slot

  -- finished by one of the first i calls, as one of the first m globals or at once
  abbrev Old : ℕ → ℕ → Finished Op → Type 0
  Old i m e = (e.by < i) × Under i m e.slot e.by

  -- what holds of the finished operations of a serial run
  record Noted (s : Serial Op) : Type 0 where
    old : AllByRecursion (Old s.calls (length s.globals)) s.finished
    ranged : AllByRecursion InRange s.finished
    running : Pairs Ran s.finished

  older : (i j m k : ℕ) → i ≤ j → m ≤ k → (es : List (Finished Op)) → AllByRecursion (Old i m) es → AllByRecursion (Old j k) es
  older i j m k h l es a =
      All_part (Old i m) (Old j k) es (λ e o. (omega (arith, o.0), under_more i j m k h l e.slot e.by o.1)) a

  -- ---- a queue that becomes the last globals

  ranked_ran : (i m : ℕ) (q : List (Request Op)) (e : Finished Op) → Under i m e.slot e.by → AllByRecursion (Ran e) (ranked S i m q)
  ranked_ran i m [] e u = tt
  ranked_ran i m (r ∷ q) e u = (
    under_global i m e.slot e.by u,
    ranked_ran i (suc m) q e (under_more i i m (suc m) (le_refl _) (omega arith) e.slot e.by u),
  )

  ranked_running : (i m : ℕ) (q : List (Request Op)) → Pairs Ran (ranked S i m q)
  ranked_running i m [] = tt
  ranked_running i m (r ∷ q) =
      (ranked_ran i (suc m) q (record { slot = global_run (suc m); by = i; request = r }) (le_refl _), ranked_running i (suc m) q)

  ranked_old : (i m k : ℕ) (q : List (Request Op)) → m + length q ≤ k → AllByRecursion (Old (suc i) k) (ranked S i m q)
  ranked_old i m k [] h = tt
  ranked_old i m k (r ∷ q) h = ((le_refl _, omega arith), ranked_old i (suc m) k q (omega arith))

  ranked_ranged : (i m : ℕ) (q : List (Request Op)) → AllByRecursion InRange (ranked S i m q)
  ranked_ranged i m [] = tt
  ranked_ranged i m (r ∷ q) = (tt, ranked_ranged i (suc m) q)

  -- ---- one call, and all calls

  module _ {s : Serial Op} (k : Noted s) where
    still : Noted (note_nothing S s)
    still =
        record {
          old = older s.calls (suc s.calls) (length s.globals) (length s.globals) (omega arith) (le_refl _) s.finished
              k.old;
          ranged = k.ranged;
          running = k.running;
        }

    noted_request : (v : Route) (p : ℕ) (r : Request Op) → p < n → Noted (note_request S v s p r)
    noted_request immediate p r h =
        let e : Finished Op = record { slot = immediate_run (s.heard p) p; by = s.calls; request = r } in
        record {
          old = All_append (Old (suc s.calls) (length s.globals)) s.finished (e ∷ []) still.old ((le_refl _, le_refl _), tt);
          ranged = All_append InRange s.finished (e ∷ []) k.ranged (h, tt);
          running = Pairs_append Ran s.finished (e ∷ []) k.running (tt, tt)
              (All_part (Old s.calls (length s.globals)) (λ (x : Finished Op). AllByRecursion (Ran x) (e ∷ [])) s.finished
              (λ x o. (earlier_immediate x.slot (s.heard p) p x.by s.calls o.0, tt)) k.old);
        }
    noted_request enqueue p r h = record { old = still.old; ranged = k.ranged; running = k.running }
    noted_request redirect p r h = still

    noted_visit : (p : ℕ) → Noted (note_visit S s p)
    noted_visit p =
        let q : List (Request Op) = s.queues p in
        let m : ℕ = length s.globals in
        let l : length (s.globals ++ q) ≡ m + length q = length-append s.globals q in
        record {
          old = All_append (Old (suc s.calls) (length (s.globals ++ q))) s.finished (ranked S s.calls m q)
              (older s.calls (suc s.calls) m (length (s.globals ++ q)) (omega arith) (omega arith) s.finished k.old)
              (ranked_old s.calls m (length (s.globals ++ q)) q (omega arith));
          ranged = All_append InRange s.finished (ranked S s.calls m q) k.ranged (ranked_ranged s.calls m q);
          running = Pairs_append Ran s.finished (ranked S s.calls m q) k.running (ranked_running s.calls m q)
              (All_part (Old s.calls m) (λ (x : Finished Op). AllByRecursion (Ran x) (ranked S s.calls m q)) s.finished
              (λ x o. ranked_ran s.calls m q x o.1) k.old);
        }

    noted : (t : Bool) (c : Call Op Extra) → desk_called c < n → Noted (note S t s c)
    noted true c h = still
    noted false (request p r x) h = noted_request (route S p r.op) p r h
    noted false (visit p f x) h = noted_visit p

  noted_all : (cs : List (Call Op Extra)) (rs : List Bool) (s : Serial Op) → Noted s → AllByRecursion AtDesk cs → Noted (note_all S s cs rs)
  noted_all [] rs s k h = k
  noted_all (c ∷ cs) [] s k h = k
  noted_all (c ∷ cs) (r ∷ rs) s k h = noted_all cs rs (note S r s c) (noted k r c h.0) h.1

  by_rule : (e f : Finished Op) → InRange e → InRange f → ByKey (place n) Ran e f → Precedes e f
  by_rule e f r t (inl l) = inl (place_before_lem n e.slot f.slot r t l)
  by_rule e f r t (inr h) = same_slot e.slot f.slot e.by f.by (place_same n e.slot f.slot r t h.0) h.1

  -- the serial order follows the rule, for any list of calls at desks below n, whichever were refused
  pub order_follows_rule : (cs : List (Call Op Extra)) (rs : List Bool) → AllByRecursion AtDesk cs
      → Pairs Precedes (order S (serial S cs rs))
  order_follows_rule cs rs h =
      let s : Serial Op = serial S cs rs in
      let k : Noted s = noted_all cs rs (new_serial S) (record { old = tt; ranged = tt; running = tt }) h in
      Pairs_part InRange (ByKey (place n) Ran) Precedes (order S s) by_rule
      (Sorting.all_sort (place n) InRange [] s.finished tt k.ranged)
      (sorted (place n) Ran [] s.finished tt k.running tt)

  -- "the finished operations, two equal requests being two, are put in serial order"
  pub order_permutes : (s : Serial Op) → Perm (order S s) s.finished
  order_permutes s = sort_perm (place n) [] s.finished
