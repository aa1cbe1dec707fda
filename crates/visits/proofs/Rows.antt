-- Question 5 of a queue on plain words.
--     question_five             it asks for the lengths alone
--     row_whole, row_fits       words that it takes for a queue are a row of 32 records
-- Assumes nothing.
use mathlib.Core.Path.{◌≡◌, ◌∙◌, sym, ap}
use mathlib.Core.Bool.{Bool, true, ◌&&◌}
use mathlib.Core.List.{List}
use Prim.Native.Nat.{ℕ}
use lib.Dec.{leb, eqb}
use lib.ListN.{length}
use native.Mathlib.Omega.{arith}
use borrow.Author.Tests.{eq-eqb, ne_eqb, eqb-true}
use Rattle.lists.proofs.Laws.{by_same, and_fst, and_snd}
use Rattle.queue.specs.Words.{records_in, queue_in}
use Rattle.queue.specs.declared.record.Request.{Request}
use Rattle.queue.proofs.Rows.{queue_in_row, queue_in_none, length_queue_in}
use Rattle.desk.specs.Admission.{desk_buffers_fit}
use Rattle.visits.specs.Admission.{visit_buffers_fit}

pub row_whole : (row : List ℕ) → length (queue_in row) ≡ 32 → queue_in row ≡ records_in row
row_whole row long =
    by_same (length row) 192 (queue_in_row row)
    (λ n. let z : ⊥ = omega (arith, long, ap length (queue_in_none row (ne_eqb (length row) 192 n))) in absurd z)

pub row_fits : (cells row : List ℕ) (others : Bool) → (desk_buffers_fit cells (queue_in row) && others) ≡ true
    → queue_in row ≡ records_in row
unfolding desk_buffers_fit
row_fits cells row others e =
    row_whole row (eqb-true (length (queue_in row)) 32
    (and_snd (eqb (length cells) 1024) _ (and_fst (desk_buffers_fit cells (queue_in row)) others e)))

row_long : (row : List ℕ) → eqb (length (queue_in row)) 32 ≡ eqb (length row) 192
row_long row =
    by_same (length row) 192 (λ e. eq-eqb (length (queue_in row)) 32 (length_queue_in row e) ∙ sym (eq-eqb (length row) 192 e))
    (λ n. let none = ne_eqb (length row) 192 n in ap (λ (q : List Request). eqb (length q) 32) (queue_in_none row none) ∙ sym none)

pub question_five : (cells snapshot row out replies : List ℕ)
    → (desk_buffers_fit cells (queue_in row) && visit_buffers_fit snapshot out replies)
    ≡ ((eqb (length cells) 1024 && eqb (length row) 192)
    && (eqb (length snapshot) 1024 && (leb 6404 (length out) && leb 224 (length replies))))
unfolding desk_buffers_fit visit_buffers_fit
question_five cells snapshot row out replies =
    ap (λ (b : Bool). (eqb (length cells) 1024 && b) && (eqb (length snapshot) 1024 && (leb 6404 (length out) && leb 224 (length replies))))
    (row_long row)
