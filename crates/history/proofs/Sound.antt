-- What a history keeps of a desk's holding: question 6 is answered by yes, and every waiting record is an operation.
-- Assumes nothing.
use Prim.Native.Nat.{ℕ, ◌%◌, ◌≤◌, ◌<◌}
use mathlib.Core.Path.{◌≡◌, refl}
use mathlib.Core.Bool.{true}
use mathlib.Core.List.{List}
use native.Mathlib.Nat.{mod-eq_of_lt}
use native.Mathlib.Omega.{arith}
use lib.Dec.{ltb, leb}
use lib.ListN.{length}
use borrow.Author.Tests.{leb-true, eqb-true, lt-ltb, eq-eqb}
use Rattle.std.specs.List.{list_all, AllByRecursion}
use Rattle.std.proofs.lemmas.Bool.{and_from}
use Rattle.lists.proofs.Laws.{and_fst, and_snd}
use Rattle.plan.specs.Decode.{plan_of}
use Rattle.queue.specs.declared.record.Request.{Request}
use Rattle.desk.specs.Holding.{Holding, waiting_at}
use Rattle.desk.specs.Queueing.{is_urgent}
use Rattle.desk.specs.Priority.{urgent_lead}
use Rattle.desk.specs.Admission.{waits_here, desk_fits}
use Rattle.desk.proofs.QuestionSix.{fits_each, fits_ordered, none_waits}
use Rattle.history.specs.History.{start}
use Rattle.history.proofs.Operations.{Runs}

-- desk p's holding; records p is how many records its queue has
pub record Sound (ws : List ℕ) (records : ℕ → ℕ) (p : ℕ) (h : Holding) : Type 0 where
  pub desk : h.state.desk ≡ p
  pub fits : desk_fits (plan_of ws) h.state h.queue ≡ true
  pub size : length h.queue ≡ records p
  pub room : h.state.waiting ≤ length h.queue
  pub runs : AllByRecursion (Runs (plan_of ws)) (waiting_at h)

-- 6, part by part
pub record Six (ws : List ℕ) (h : Holding) : Type 0 where
  pub below : ltb h.state.desk (plan_of ws).desks ≡ true
  pub few : h.state.waiting ≤ 32
  pub turn : h.state.awaited % (plan_of ws).desks ≡ h.state.desk
  pub each : list_all (waits_here (plan_of ws) h.state.desk) (waiting_at h) ≡ true
  pub ordered : urgent_lead (is_urgent (plan_of ws)) (waiting_at h) ≡ true

pub six : (ws : List ℕ) (h : Holding) → desk_fits (plan_of ws) h.state h.queue ≡ true → Six ws h
unfolding desk_fits
six ws h e =
    let a = and_snd (ltb h.state.desk (plan_of ws).desks) _ e in
    let b = and_snd (leb h.state.waiting 32) _ a in
    record {
      below = and_fst _ _ e;
      few = leb-true h.state.waiting 32 (and_fst _ _ a);
      turn = eqb-true (h.state.awaited % (plan_of ws).desks) h.state.desk (and_fst _ _ b);
      each = fits_each (plan_of ws) h.state h.queue e;
      ordered = fits_ordered (plan_of ws) h.state h.queue e;
    }

-- what a new desk holds is sound
pub start_sound : (ws cells : List ℕ) (rows : ℕ → List Request) (snapshots : ℕ → List ℕ) (p : ℕ) → p < (plan_of ws).desks →
    Sound ws (λ q. length (rows q)) p (start cells rows snapshots p).holding
unfolding desk_fits
start_sound ws cells rows snapshots p h =
    record {
      desk = refl;
      fits = and_from _ _ (lt-ltb p (plan_of ws).desks h)
          (and_from _ _ refl (and_from _ _ (eq-eqb (p % (plan_of ws).desks) p (mod-eq_of_lt h)) (none_waits (plan_of ws) p
          (rows p) 0 refl)));
      size = refl;
      room = omega arith;
      runs = tt;
    }
