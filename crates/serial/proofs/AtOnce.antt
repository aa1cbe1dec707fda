-- What the serial run notes as run at once may write no unowned cell: each change of such a cell is a global's.
-- Assumes nothing.
use Prim.Native.Nat.{ℕ, suc}
use mathlib.Core.Bool.{Bool, true, false}
use mathlib.Core.List.{List, [], ◌∷◌}
use Rattle.lists.proofs.Laws.{All_append}
use Rattle.std.specs.List.{AllByRecursion}
use Rattle.serial.specs.Desk.{Request, Call, request, visit}
use Rattle.serial.specs.System.{System, Laws}
use Rattle.serial.specs.Step.{Route, immediate, enqueue, redirect, route}
use Rattle.serial.specs.Order.{Slot, global_run, immediate_run, Finished}
use Rattle.serial.specs.SerialRun.{Serial, ranked, note_request, note, note_all}
use Rattle.serial.specs.Snapshot.{Unowned}
use Rattle.serial.proofs.Conflicts.{Leaves, at_own}
use Rattle.serial.proofs.Routes.{Routed, routed}

module _ (S : System) where
  open S use {Op}

  abbrev pub LeavesIn : Slot → Finished Op → Type 0
  LeavesIn (global_run k) e = Unit {0}
  LeavesIn (immediate_run g p) e = Leaves S (Unowned S) e

  -- it is a global, or may write no unowned cell
  abbrev pub AtOnce : Finished Op → Type 0
  AtOnce e = LeavesIn e.slot e

module _ (S : System) (L : Laws S) where
  open S use {Op, Extra}

  ranked_at_once : (i k : ℕ) (q : List (Request Op)) → AllByRecursion (AtOnce S) (ranked S i k q)
  ranked_at_once i k [] = tt
  ranked_at_once i k (r ∷ q) = (tt, ranked_at_once i (suc k) q)

  request_at_once : (v : Route) (s : Serial Op) (p : ℕ) (r : Request Op) → Routed S v p r.op → AllByRecursion (AtOnce S) s.finished →
      AllByRecursion (AtOnce S) (note_request S v s p r).finished
  request_at_once immediate s p r h a =
      let e : Finished Op = record { slot = immediate_run (s.heard p) p; by = s.calls; request = r } in
      All_append (AtOnce S) s.finished (e ∷ []) a (λ c u w. u p (at_own S L p r.op c h w), tt)
  request_at_once enqueue s p r h a = a
  request_at_once redirect s p r h a = a

  pub note_at_once : (t : Bool) (s : Serial Op) (c : Call Op Extra) → AllByRecursion (AtOnce S) s.finished →
      AllByRecursion (AtOnce S) (note S t s c).finished
  note_at_once true s c a = a
  note_at_once false s (request p r x) a = request_at_once (route S p r.op) s p r (routed S p r.op) a
  note_at_once false s (visit p f x) a =
      All_append (AtOnce S) s.finished (ranked S s.calls _ (s.queues p)) a (ranked_at_once s.calls _ (s.queues p))

  pub all_at_once : (cs : List (Call Op Extra)) (rs : List Bool) (s : Serial Op) → AllByRecursion (AtOnce S) s.finished →
      AllByRecursion (AtOnce S) (note_all S s cs rs).finished
  all_at_once [] rs s a = a
  all_at_once (c ∷ cs) [] s a = a
  all_at_once (c ∷ cs) (r ∷ rs) s a = all_at_once cs rs (note S r s c) (note_at_once r s c a)
