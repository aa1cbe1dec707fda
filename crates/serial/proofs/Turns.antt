-- What a call adds to the accepted visits: nothing, or the visit whose number is the latest frame's, at the desk whose turn it is.
-- Assumes nothing.
use Prim.Native.Nat.{ℕ, suc, ◌%◌, ◌<◌}
use mathlib.Core.Path.{◌≡◌, refl, sym, ◌∙◌, ap}
use mathlib.Core.Logic.{◌⊎◌, inl, inr}
use mathlib.Core.Bool.{Bool, true, false, cond}
use mathlib.Core.List.{List, [], ◌∷◌, ◌++◌}
use Rattle.std.proofs.lemmas.Float.{T_from_true}
use Rattle.std.specs.List.{AllByRecursion}
use Rattle.serial.specs.Store.{Store, Update}
use Rattle.serial.specs.Frame.{Frame, foreign, tag}
use Rattle.serial.specs.Desk.{Desk, Call, request, visit, desk_called, Answer, refused, is_refused}
use Rattle.serial.specs.System.{System, Laws}
use Rattle.serial.specs.Step.{route, updates_of, caught_up, made, accepted_step}
use Rattle.serial.specs.History.{answer_at, Framed}
use Rattle.serial.specs.SerialRun.{Serial}
use Rattle.serial.specs.Visits.{Visit, frame_after, visit_of, visits_at}
use Rattle.serial.proofs.Calls.{Replies, Good}
use Rattle.serial.proofs.Histories.{request_open, request_frame, accepted_latest}

-- the update is marked as desk p's
abbrev pub MarkedBy : ℕ → ℕ × Update → Type 0
MarkedBy p u = u.0 ≡ p

-- with n desks, v is visit k: at desk k mod n, with updates marked as that desk's
pub record Entry (n k : ℕ) (v : Visit) : Type 0 where
  pub number_is : v.number ≡ k
  pub desk_is : v.desk ≡ k % n
  pub marked : AllByRecursion (MarkedBy v.desk) v.updates

-- the frame after the visit v that brought the frame tk
abbrev pub frame_behind : Frame → Visit → Frame
frame_behind tk v = record { number = suc tk.number; updates = foreign v.desk tk.updates ++ v.updates }

-- vs, what a call adds to the visits, and tk', the latest frame then
abbrev pub Turn : ℕ → Frame → List Visit → Frame → Type 0
Turn n tk vs tk' =
    ((vs ≡ []) × (tk' ≡ tk)) ⊎ ((v : Visit) × (vs ≡ v ∷ []) × Entry n tk.number v × (tk' ≡ frame_behind tk v))

all_marked : (p : ℕ) (us : List Update) → AllByRecursion (MarkedBy p) (tag p us)
all_marked p [] = tt
all_marked p (u ∷ us) = (refl, all_marked p us)

module _ (S : System) (L : Laws S) {b : Store} {w : ℕ → Desk S.Op} {s : Serial S.Op} {past : Replies S.Reply} {fs : List Frame}
    {tk : Frame} (k : Good S b w s past fs tk) where
  open S use {n, Op, Extra, Reply, admits}

  abbrev met_by : Call Op Extra → Bool → Answer Reply
  met_by c o = (cond o (accepted_step S (w (desk_called c)) c) (w (desk_called c), refused)).1

  by_admission : (c : Call Op Extra) (o : Bool) → admits (w (desk_called c)) c ≡ o → desk_called c < n →
      (is_refused (met_by c o) ≡ false → Framed S fs c) →
      Turn n tk (cond (is_refused (met_by c o)) [] (visit_of S (w (desk_called c)) c)) (frame_after tk (met_by c o))
  by_admission c false e below fr = inl (refl, refl)
  by_admission (request p r x) true e below fr =
      rw (request_open S (route S p r.op) (w p) r, request_frame S (route S p r.op) (w p) r tk) (inl (refl, refl))
  by_admission (visit p f x) true e below fr =
      let i : f ≡ tk = accepted_latest S L b k p f x below e (fr refl) in
      let a : tk.number ≡ (w p).awaited = rw i at (L.awaited_only (w p) p f x (T_from_true _ e)) in
      rw i
      (inr (
        record { desk = p; number = tk.number; updates = made S p (w p) tk },
        refl,
        record {
          number_is = refl;
          desk_is = sym (k.inv.wait_mod p below) ∙ ap (λ (x : ℕ). x % n) (sym a);
          marked = all_marked p (updates_of S (w p).queue (caught_up S p (w p) tk));
        },
        refl,
      ))

  pub turn : (c : Call Op Extra) → desk_called c < n → (is_refused (answer_at S w c) ≡ false → Framed S fs c) →
      Turn n tk (visits_at S w c) (frame_after tk (answer_at S w c))
  turn c below fr = by_admission c (admits (w (desk_called c)) c) refl below fr
