-- Questions 10 to 12 ("questions at the door"), the verdict on a frame, and what the words of a frame stand for.
use Rattle.std.specs.Prelude.{◌≡◌, ℕ, zero, suc, ◌+◌, ◌-◌, ◌%◌, Bool, true, false, cond}
use Rattle.std.specs.Prelude.{◌&&◌, leb, List, [], ◌∷◌, length, take, drop, ◌==◌, nat_le, nat_lt, slice_index}
use Rattle.verdict.specs.Verdict.{Verdict, accepted, ask, ◌then◌}
use Rattle.std.specs.List.{list_all}
use Rattle.word.specs.Field.{kind_of, addressed_desk, frame_length, update_desk, cell_count, cell_field}
use Rattle.word.specs.Reserved.{reserved_zero}
use Rattle.plan.specs.Decode.{head_of, plan_of}
use Rattle.plan.specs.Admission.{plan_verdict}
use Rattle.operation.specs.Store.{Update}
use Rattle.frame.specs.Frame.{SentUpdate, sent, sums_of, least_frame, longest_frame}

-- ---- what the words stand for. Every list decodes to something; whether it is well formed is question 12

-- "Word 1: visit number, a full word."
abbrev pub frame_visit : List ℕ → ℕ
frame_visit ws = slice_index ws 1

-- "the part of it that holds the updates": between word 1 and the sums
abbrev pub updates_part : List ℕ → List ℕ
updates_part ws = take (length ws - least_frame) (drop 2 ws)

-- the first `left` cells, each with its value
unfoldable pub writes_from : ℕ → List ℕ → Update
writes_from zero ws = []
writes_from (suc left) [] = []
writes_from (suc left) (w ∷ []) = []
writes_from (suc left) (w ∷ v ∷ ws) = (cell_field w, v) ∷ writes_from left ws

-- the updates behind the first `left` cells
unfoldable pub updates_from : ℕ → List ℕ → List SentUpdate
updates_from zero [] = []
updates_from zero (w ∷ ws) = sent (update_desk w) (writes_from (cell_count w) ws) ∷ updates_from (cell_count w) ws
updates_from (suc left) [] = []
updates_from (suc left) (w ∷ []) = []
updates_from (suc left) (w ∷ v ∷ ws) = updates_from left ws

abbrev pub frame_updates : List ℕ → List SentUpdate
frame_updates ws = updates_from 0 (updates_part ws)

-- "at most 32 updates per desk"
abbrev pub updates_per_desk : ℕ
updates_per_desk = 32

-- how many of the updates are of this desk
unfoldable pub desk_count : ℕ → List SentUpdate → ℕ
desk_count d [] = 0
desk_count d (u ∷ us) = cond (u.desk == d) 1 0 + desk_count d us

-- ---- the questions

-- 10: "Is the frame 4–6,404 words, and word 0 of kind 9 with its zero bits and with the words handed in as its count?"
unfoldable pub frame_headed : List ℕ → Bool
frame_headed ws =
    nat_le least_frame (length ws) && (nat_le (length ws) longest_frame && (kind_of (head_of ws) == 9 && (reserved_zero (head_of ws)
    && frame_length (head_of ws) == length ws)))

-- 11: "Are both sums right?"
unfoldable pub sums_right : List ℕ → Bool
sums_right ws =
    (slice_index ws (length ws - 2) == (sums_of (take (length ws - 2) ws)).0)
    && slice_index ws (length ws - 1) == (sums_of (take (length ws - 2) ws)).1

-- 12, of an update's word: kind 10, zero bits, "desks below n", cells 0–12
unfoldable pub update_formed : ℕ → ℕ → Bool
update_formed n w = kind_of w == 10 && (reserved_zero w && (nat_lt (update_desk w) n && nat_le (cell_count w) 12))

-- 12, of a cell's word: kind 11, zero bits. Bits 9–0 hold no number above 1,023
unfoldable pub cell_formed : ℕ → Bool
cell_formed w = kind_of w == 11 && reserved_zero w

-- 12: "are the updates well formed, .. ending at the sums": the words are the last `left` cells of an update, each with its value,
-- then whole updates, and nothing more
unfoldable pub well_formed : ℕ → ℕ → List ℕ → Bool
well_formed n zero [] = true
well_formed n zero (w ∷ ws) = update_formed n w && well_formed n (cell_count w) ws
well_formed n (suc left) [] = false
well_formed n (suc left) (w ∷ []) = false
well_formed n (suc left) (w ∷ v ∷ ws) = cell_formed w && well_formed n left ws

-- 12: "at most 32 updates per desk"
unfoldable pub few_per_desk : List SentUpdate → Bool
few_per_desk us = list_all (λ u. leb (desk_count u.desk us) updates_per_desk) us

abbrev pub updates_admitted : ℕ → List ℕ → Bool
updates_admitted n body = well_formed n 0 body && few_per_desk (updates_from 0 body)

-- 12: "Is the addressed desk the visit number modulo n, and are the updates well formed, desks below n, at most 32 updates per desk,
-- ending at the sums?"
unfoldable pub updates_right : ℕ → List ℕ → Bool
updates_right n ws = addressed_desk (head_of ws) == frame_visit ws % n && updates_admitted n (updates_part ws)

-- ---- the verdicts

-- "All of one question is put before the next": questions 10 to 12, for n desks
unfoldable pub frame_verdict : ℕ → List ℕ → Verdict
frame_verdict n ws = ask 10 (frame_headed ws) then ask 11 (sums_right ws) then ask 12 (updates_right n ws)

-- "Frame reader: 1–4, 10–12.", with 17 after 4
unfoldable pub read_verdict : List ℕ → List ℕ → Verdict
read_verdict plan frame = plan_verdict plan then frame_verdict (plan_of plan).desks frame

-- a frame for n desks reads as this visit and these updates
pub record ReadsAs (n : ℕ) (ws : List ℕ) (visit : ℕ) (updates : List SentUpdate) : Type 0 where
  pub verdict : frame_verdict n ws ≡ accepted
  pub number : frame_visit ws ≡ visit
  pub sent : frame_updates ws ≡ updates
