-- For later (02): a history in two parts. What is true of every history holds at each of its moments, for the calls up to there are a
-- history too.
-- Assumes nothing.
use Prim.Native.Nat.{ℕ}
use mathlib.Core.Path.{◌≡◌, refl, sym, ◌∙◌, ap}
use mathlib.Core.List.{List, [], ◌∷◌, ◌++◌, map, append_assoc}
use Rattle.serial.specs.Frame.{Frame}
use Rattle.serial.specs.Desk.{Desk, Call, Answer, is_refused, sent}
use Rattle.serial.specs.System.{System}
use Rattle.serial.specs.History.{answer_at, step_at, answers, desks_after, Proper}
use Rattle.serial.specs.SerialRun.{Serial, note, note_all}
use Rattle.serial.specs.Visits.{Visit, visits_at, visits, frame_after, latest_frame, frames_after}

pub latest_frame_append : {R : Type 0} (f : Frame) (xs ys : List (Answer R)) → latest_frame f (xs ++ ys) ≡ latest_frame
    (latest_frame f xs) ys
latest_frame_append f [] ys = refl
latest_frame_append f (x ∷ xs) ys = latest_frame_append (frame_after f x) xs ys

pub frames_after_append : {R : Type 0} (fs : List Frame) (xs ys : List (Answer R)) →
    frames_after fs (xs ++ ys) ≡ frames_after (frames_after fs xs) ys
frames_after_append fs [] ys = refl
frames_after_append fs (x ∷ xs) ys = frames_after_append (fs ++ sent x) xs ys

module _ (S : System) where
  open S use {Op, Extra, Reply}

  pub desks_after_append : (cs ds : List (Call Op Extra)) (w : ℕ → Desk Op) →
      desks_after S w (cs ++ ds) ≡ desks_after S (desks_after S w cs) ds
  desks_after_append [] ds w = refl
  desks_after_append (c ∷ cs) ds w = desks_after_append cs ds (step_at S w c)

  pub answers_append : (cs ds : List (Call Op Extra)) (w : ℕ → Desk Op) →
      answers S w (cs ++ ds) ≡ answers S w cs ++ answers S (desks_after S w cs) ds
  answers_append [] ds w = refl
  answers_append (c ∷ cs) ds w = ap (λ (l : List (Answer Reply)). answer_at S w c ∷ l) (answers_append cs ds (step_at S w c))

  pub visits_append : (cs ds : List (Call Op Extra)) (w : ℕ → Desk Op) →
      visits S w (cs ++ ds) ≡ visits S w cs ++ visits S (desks_after S w cs) ds
  visits_append [] ds w = refl
  visits_append (c ∷ cs) ds w =
      ap (λ (l : List Visit). visits_at S w c ++ l) (visits_append cs ds (step_at S w c))
      ∙ sym (append_assoc (visits_at S w c) (visits S (step_at S w c) cs) (visits S (desks_after S (step_at S w c) cs) ds))

  -- the serial run of both parts goes on from that of the first
  pub note_all_append : (cs ds : List (Call Op Extra)) (w : ℕ → Desk Op) (s : Serial Op) →
      note_all S s (cs ++ ds) (map is_refused (answers S w (cs ++ ds)))
      ≡ note_all S (note_all S s cs (map is_refused (answers S w cs))) ds (map is_refused (answers S (desks_after S w cs) ds))
  note_all_append [] ds w s = refl
  note_all_append (c ∷ cs) ds w s = note_all_append cs ds (step_at S w c) (note S (is_refused (answer_at S w c)) s c)

  -- the premise on both parts is that on the first, and on the second from there
  pub proper_front : (cs ds : List (Call Op Extra)) (w : ℕ → Desk Op) (fs : List Frame) → Proper S w fs (cs ++ ds) → Proper S w fs cs
  proper_front [] ds w fs pr = tt
  proper_front (c ∷ cs) ds w fs pr = (pr.0, pr.1, proper_front cs ds (step_at S w c) (fs ++ sent (answer_at S w c)) pr.2)

  pub proper_back : (cs ds : List (Call Op Extra)) (w : ℕ → Desk Op) (fs : List Frame) → Proper S w fs (cs ++ ds) →
      Proper S (desks_after S w cs) (frames_after fs (answers S w cs)) ds
  proper_back [] ds w fs pr = pr
  proper_back (c ∷ cs) ds w fs pr = proper_back cs ds (step_at S w c) (fs ++ sent (answer_at S w c)) pr.2
