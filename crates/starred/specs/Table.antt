-- "The starred lines form one small table of inputs and results, and one proof shows that the definitions give every row of it".
-- Each layer adds its rows here; the proof is proofs/Starred.antt.
use Rattle.std.specs.Prelude.{ℕ, ◌-◌, ◌≡◌, List, [], ◌∷◌, ◌++◌, map, length, take, replicate}
use Rattle.verdict.specs.Verdict.{Verdict, accepted, refused}
use Rattle.plan.specs.Decode.{plan_of}
use Rattle.plan.specs.Admission.{plan_verdict}
use Rattle.operation.specs.Operation.{operation, write_set}
use Rattle.operation.specs.Admission.{operation_verdict}
use Rattle.frame.specs.Frame.{SentUpdate, sent, starting_frame, longest_frame}
use Rattle.frame.specs.Admission.{read_verdict, updates_from}
use Rattle.frame.specs.Answer.{VisitRead, visit_number, refusal, visit_read, part_read}
use Rattle.token.specs.Writing.{start_verdict, start_words}
use Rattle.queue.specs.Queue.{no_request, queue_size}
use Rattle.queue.specs.declared.record.Request.{Request}
use Rattle.desk.specs.declared.state.Desk.{Desk}
use Rattle.desk.specs.Holding.{Holding, holding}
use Rattle.requests.specs.Request.{record_of}
use Rattle.visits.specs.Visit.{visit_result}
use Rattle.conflict.specs.Cause.{cause}
use Rattle.conflict.specs.Answer.{Classified, classed_free, classed_local, classed_global, class_refused, classify_result}
use Rattle.operation.specs.Store.{store_size}
use Rattle.visits.specs.Waiting.{reply_size, replies_size}
use Rattle.visits.specs.Visit as visiting

-- "Plan P: 1204000B 22200000 52000000 40000000 22200000 52000000 42700000 21100000 32700000 201F0000 34700000."
abbrev pub plan_p : List ℕ
plan_p =
    0x1204000B ∷ 0x22200000 ∷ 0x52000000 ∷ 0x40000000 ∷ 0x22200000 ∷ 0x52000000 ∷ 0x42700000 ∷ 0x21100000 ∷ 0x32700000 ∷ 0x201F0000
    ∷ 0x34700000 ∷ []

-- "Desk 0 with T1(0, 3) of client 7 waiting, visit 0, sends 91000007 00000001 A0100000 B0000080 00000003 E110008B 1530012A": this
-- frame, with another word 2
abbrev pub sent_frame : ℕ → List ℕ
sent_frame word2 = 0x91000007 ∷ 0x00000001 ∷ word2 ∷ 0xB0000080 ∷ 0x00000003 ∷ 0xE110008B ∷ 0x1530012A ∷ []

-- what desk 1 sends on by visit 1, with none waiting: visit 2 to desk 0 with the same update; its sums were reckoned apart from
-- these definitions, by a few lines that add as the paper says
abbrev pub sent_on : List ℕ
sent_on = 0x90000007 ∷ 0x00000002 ∷ 0xA0100000 ∷ 0xB0000080 ∷ 0x00000003 ∷ 0xE010008C ∷ 0x1030012E ∷ []

-- a desk's state: its number, how many wait, the awaited visit
abbrev desk : ℕ → ℕ → ℕ → Desk
desk p waiting awaited = record { desk = p; waiting = waiting; awaited = awaited }

-- what a row asks of plan P: a transaction's number and its parameters, the unused ones zero; or a frame
pub data Input : Type 0 where
  read_plan : Input
  classify : ℕ → List ℕ → Input
  admit : ℕ → List ℕ → Input
  cells_written : ℕ → List ℕ → Input
  -- the starting frame, into these outgoing words
  start_frame : List ℕ → Input
  read_frame : List ℕ → Input
  -- visits by these frames, one after another, at the desk in this state, with these requests waiting; "Books all zero", the other
  -- buffers too
  visits : Desk → List Request → List (List ℕ) → Input

-- what is shown of a visit: the answer, the state that it leaves, the first seven outgoing words and the seven words of the first reply
pub record Left : Type 0 where
  pub answer : visiting.Forwarding
  pub state : Desk
  pub out : List ℕ
  pub replies : List ℕ

abbrev left : visiting.Forwarding → Desk → List ℕ → List ℕ → Left
left a d out replies = record { answer = a; state = d; out = out; replies = replies }

pub data Result : Type 0 where
  verdict : Verdict → Result
  classified : Classified → Result
  cells : List ℕ → Result
  -- whether the starting frame was written, and the outgoing words after the call
  started : Verdict → List ℕ → Result
  -- the visit or the refusal, and the updates in the part that is handed back
  frame : VisitRead → List SentUpdate → Result
  visited : List Left → Result

abbrev shown : visiting.Visited → Left
shown v = left v.answer v.state (take 7 v.out) (take reply_size v.replies)

-- "State, book and row pass from call to call at their desk", and so does the snapshot: each visit runs on what the one before left
abbrev visits_from : Holding → List ℕ → List (List ℕ) → List Left
visits_from h snapshot [] = []
visits_from h snapshot (ws ∷ frames) =
    let v = visit_result plan_p h snapshot ws (replicate longest_frame 0) (replicate replies_size 0) in
    shown v ∷ visits_from (holding v.state v.cells h.queue) v.snapshot frames

abbrev pub result_of : Input → Result
result_of read_plan = verdict (plan_verdict plan_p)
result_of (classify k ps) = classified (classify_result plan_p k ps)
result_of (admit k ps) = verdict (operation_verdict (plan_of plan_p) (operation k ps))
result_of (cells_written k ps) = cells (write_set (plan_of plan_p) (operation k ps))
result_of (start_frame out) = started (start_verdict out) (start_words out)
result_of (read_frame ws) = frame (visit_read (read_verdict plan_p ws) ws) (updates_from 0 (part_read (read_verdict plan_p ws) ws))
result_of (visits d waiting frames) =
    visited (visits_from (holding d (replicate store_size 0) (waiting ++ replicate (queue_size - length waiting) no_request))
    (replicate store_size 0) frames)

pub record Row : Type 0 where
  pub input : Input
  pub result : Result

abbrev row : Input → Result → Row
row i r = record { input = i; result = r }

abbrev pub table : List Row
table =
    row read_plan (verdict accepted)
    -- "T0(5, 9): desk 1, local; cell 20."
    ∷ row (classify 0 (5 ∷ 9 ∷ 0 ∷ 0 ∷ [])) (classified (classed_local 1))
    ∷ row (cells_written 0 (5 ∷ 9 ∷ 0 ∷ 0 ∷ [])) (cells (20 ∷ []))
    -- "T0(4, 9): desk 0, local."
    ∷ row (classify 0 (4 ∷ 9 ∷ 0 ∷ 0 ∷ [])) (classified (classed_local 0))
    -- "T0(31, 9) passes", "T0(32, 9): 8."
    ∷ row (admit 0 (31 ∷ 9 ∷ 0 ∷ 0 ∷ [])) (verdict accepted)
    ∷ row (admit 0 (32 ∷ 9 ∷ 0 ∷ 0 ∷ [])) (verdict (refused 8))
    ∷ row (classify 0 (32 ∷ 9 ∷ 0 ∷ 0 ∷ [])) (classified (class_refused 8))
    -- "T1(0, 3): desk 0, global.", by cell 128, desk 1, transaction 1; and at desk 1 by desk 0 (not starred: the causes of 02, A.7)
    ∷ row (classify 1 (0 ∷ 3 ∷ 0 ∷ 0 ∷ [])) (classified (classed_global 0 (cause 128 1 1)))
    ∷ row (classify 1 (1 ∷ 3 ∷ 0 ∷ 0 ∷ [])) (classified (classed_global 1 (cause 128 0 1)))
    -- "T2(1): desk 1, local."
    ∷ row (classify 2 (1 ∷ 0 ∷ 0 ∷ 0 ∷ [])) (classified (classed_local 1))
    -- "T3(): free."
    ∷ row (classify 3 (0 ∷ 0 ∷ 0 ∷ 0 ∷ [])) (classified classed_free)
    -- "Starting frame: 90000004 00000000 90000004 20000008."
    ∷ row (start_frame (replicate 5 1)) (started accepted (0x90000004 ∷ 0x00000000 ∷ 0x90000004 ∷ 0x20000008 ∷ 1 ∷ []))
    ∷ row (read_frame (0x90000004 ∷ 0x00000000 ∷ 0x90000004 ∷ 0x20000008 ∷ [])) (frame (visit_number 0) [])
    -- the frame that desk 0 sends reads as visit 1 with T1's update
    ∷ row (read_frame (sent_frame 0xA0100000)) (frame (visit_number 1) (sent 0 ((128, 3) ∷ []) ∷ []))
    -- "Word 2 as A1100000: 11."
    ∷ row (read_frame (sent_frame 0xA1100000)) (frame (refusal 11) [])
    -- "Desk 0 with T1(0, 3) of client 7 waiting, visit 0, sends ..; reply C0000001 00000007 00000003."; "the starred reply gains four zero
    -- words". The frame sent "at desk 0: 13"
    ∷ row (visits (desk 0 1 0) (record_of 7 1 (0 ∷ 3 ∷ 0 ∷ 0 ∷ []) ∷ []) (starting_frame ∷ sent_frame 0xA0100000 ∷ []))
    (visited (left (visiting.forwarded 7 1) (desk 0 0 2) (sent_frame 0xA0100000) (0xC0000001 ∷ 0x00000007 ∷ 0x00000003 ∷ 0 ∷ 0 ∷ 0 ∷ 0 ∷ [])
    ∷ left (visiting.visit_refused 13) (desk 0 0 2) (replicate 7 0) (replicate 7 0) ∷ []))
    -- "Word 2 as A1100000: 11. The frame twice at desk 1: 14"
    ∷ row (visits (desk 1 0 1) [] (sent_frame 0xA1100000 ∷ sent_frame 0xA0100000 ∷ sent_frame 0xA0100000 ∷ []))
    (visited (left (visiting.visit_refused 11) (desk 1 0 1) (replicate 7 0) (replicate 7 0)
    ∷ left (visiting.forwarded 7 0) (desk 1 0 3) sent_on (replicate 7 0)
    ∷ left (visiting.visit_refused 14) (desk 1 0 3) (replicate 7 0) (replicate 7 0) ∷ []))
    ∷ []

-- "one proof shows that the definitions give every row of it"
abbrev pub Starred : Type 0
Starred = map (λ (r : Row). result_of r.input) table ≡ map (λ (r : Row). r.result) table
