-- Every call of a proper history, and so the whole of it, keeps the desks, the serial run, the replies and the frames in agreement.
-- Assumes nothing.
use Prim.Native.Nat.{ℕ, ◌<◌}
use mathlib.Core.Path.{◌≡◌, refl}
use mathlib.Core.Bool.{Bool, true, false, cond}
use mathlib.Core.List.{List, [], ◌∷◌, ◌++◌, map, append_assoc, append-nil}
use native.Mathlib.Omega.{arith}
use native.Mathlib.Nat.{le_refl, mod-eq_of_lt}
use Rattle.std.proofs.lemmas.Float.{T_from_true}
use Rattle.lists.specs.Lists.{assign}
use Rattle.serial.specs.Store.{Store}
use Rattle.serial.specs.Frame.{Frame, start_frame}
use Rattle.serial.specs.Desk.{Request, Desk, Call, request, visit, desk_called, Answer, refused, is_refused, given, sent}
use Rattle.serial.specs.System.{System, Laws}
use Rattle.serial.specs.Step.{Route, immediate, enqueue, redirect, route, request_step, accepted_step, serve}
use Rattle.serial.specs.History.{answer_at, step_at, answers, desks_after, new_desks, Framed, Proper}
use Rattle.serial.specs.SerialRun.{Serial, note, note_all, new_serial}
use Rattle.serial.specs.Visits.{frame_after, latest_frame, frames_after}
use Rattle.serial.specs.AtEnd.{ProperFrom, answers_of, desks_of, serial_of, frames_of, latest_of}
use Rattle.serial.proofs.Routes.{routed}
use Rattle.serial.proofs.Calls.{Replies, Good, still_good, request_good, frame_is_latest, visit_good}

module _ (S : System) where
  open S use {Op, Extra, Reply}

  -- a request is never refused once admitted, and writes no frame
  pub request_open : (v : Route) (d : Desk Op) (r : Request Op) → is_refused (request_step S v d r).1 ≡ false
  request_open immediate d r = refl
  request_open enqueue d r = refl
  request_open redirect d r = refl

  pub request_frame : (v : Route) (d : Desk Op) (r : Request Op) (tk : Frame) → frame_after tk (request_step S v d r).1 ≡ tk
  request_frame immediate d r tk = refl
  request_frame enqueue d r tk = refl
  request_frame redirect d r tk = refl

module _ (S : System) (L : Laws S) (b : Store) where
  open S use {n, Op, Extra, Reply, admits}

  -- what holds once the call c was met by m
  abbrev Next : (ℕ → Desk Op) → Serial Op → Replies Reply → List Frame → Frame → Call Op Extra → Desk Op × Answer Reply → Type 0
  Next w s past fs tk c m =
      Good S b (assign (desk_called c) m.0 w) (note S (is_refused m.1) s c) (past ++ (given m.1 ∷ [])) (fs ++ sent m.1)
      (frame_after tk m.1)

  module _ {w : ℕ → Desk Op} {s : Serial Op} {past : Replies Reply} {fs : List Frame} {tk : Frame} (k : Good S b w s past fs tk) where
    -- an accepted visit brings the latest frame
    pub accepted_latest : (p : ℕ) (f : Frame) (x : Extra) → p < n → admits (w p) (visit p f x) ≡ true → Framed S fs (visit p f x) → f ≡ tk
    accepted_latest p f x below e fr = frame_is_latest S L b k p below f fr (L.awaited_only (w p) p f x (T_from_true _ e))

    met : (c : Call Op Extra) (o : Bool) → admits (w (desk_called c)) c ≡ o → desk_called c < n →
        (is_refused (cond o (accepted_step S (w (desk_called c)) c) (w (desk_called c), refused)).1 ≡ false → Framed S fs c) →
        Next w s past fs tk c (cond o (accepted_step S (w (desk_called c)) c) (w (desk_called c), refused))
    met c false e below fr = still_good S L b k (desk_called c)
    met (request p r x) true e below fr =
        rw (request_open S (route S p r.op) (w p) r, request_frame S (route S p r.op) (w p) r tk)
        (request_good S L b k p below (route S p r.op) r (routed S p r.op))
    met (visit p f x) true e below fr =
        let i : f ≡ tk = accepted_latest p f x below e (fr refl) in
        rw i (visit_good S L b k p below (rw i at (L.awaited_only (w p) p f x (T_from_true _ e))))

    pub call_good : (c : Call Op Extra) → desk_called c < n → (is_refused (answer_at S w c) ≡ false → Framed S fs c) →
        Next w s past fs tk c (serve S (w (desk_called c)) c)
    call_good c below fr = met c (admits (w (desk_called c)) c) refl below fr

  pub calls_good : (cs : List (Call Op Extra)) {w : ℕ → Desk Op} {s : Serial Op} {past : Replies Reply} {fs : List Frame} {tk : Frame} →
      Good S b w s past fs tk → Proper S w fs cs →
      Good S b (desks_after S w cs) (note_all S s cs (map is_refused (answers S w cs))) (past ++ map given (answers S w cs))
      (frames_after fs (answers S w cs)) (latest_frame tk (answers S w cs))
  calls_good [] {past} k pr = rw (append-nil past) k
  calls_good (c ∷ cs) {w} {past} k pr =
      rw (← append_assoc past (given (answer_at S w c) ∷ []) (map given (answers S (step_at S w c) cs)))
      (calls_good cs (call_good k c pr.0 pr.1) pr.2)

  pub new_good : Good S b (new_desks S b) (new_serial S) [] (start_frame ∷ []) start_frame
  new_good =
      record {
        queues_same = refl;
        calls_past = refl;
        latest_below = L.some_desk;
        latest_heard = refl;
        inv = record {
          wait_low = λ p h. omega arith;
          wait_high = λ p h. omega arith;
          wait_mod = λ p h. mod-eq_of_lt h;
          frames = ((le_refl _, λ e. refl), tt);
          tags = tt;
          g_low = λ p. le_refl _;
          turns = λ p q h l k. le_refl _;
          low = tt;
          own_not_beyond = λ p h. tt;
          others_beyond = λ p h. tt;
          serial_at_place = λ p h. (refl, λ c k. refl);
          serial_with_owed = λ p h. (refl, λ c k. refl);
          queued = λ p. tt;
          giving = λ i. refl;
        };
      }

  pub history_good : (cs : List (Call Op Extra)) → ProperFrom S b cs →
      Good S b (desks_of S b cs) (serial_of S b cs) (map given (answers_of S b cs)) (frames_of S b cs) (latest_of S b cs)
  history_good cs pr = calls_good cs new_good pr
