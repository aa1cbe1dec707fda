-- The waiting records of a row of words, from a place on.
--     waiting_length       there are as many as wait
--     waiting_here         the record at the place, and those behind it
--     waiting_past         past the last there is none
-- Assumes nothing.
use mathlib.Core.Path.{◌≡◌, ◌∙◌, ap}
use mathlib.Core.List.{List, [], ◌∷◌}
use Prim.Native.Nat.{ℕ, ◌+◌, ◌≤◌, ◌<◌}
use native.Mathlib.Omega.{arith}
use lib.ListN.{length, take, drop, drop_of_length-le}
use lib.Seq.{get_or-take, length-take-le}
use Rattle.std.proofs.lemmas.List.{drop_more}
use Rattle.lists.proofs.Laws.{length_tabulate, get_or_tabulate}
use Rattle.queue.specs.declared.record.Request.{Request}
use Rattle.queue.specs.Queue.{no_request}
use Rattle.queue.specs.Words.{record_in, records_in}

module _ (row : List ℕ) (waiting : ℕ) (few : waiting ≤ 32) where
  pub waiting_length : length (take waiting (records_in row)) ≡ waiting
  waiting_length = length-take-le waiting (records_in row) (omega (arith, length_tabulate 32 (record_in row)))

  pub waiting_here : (i : ℕ) → i < waiting
      → drop i (take waiting (records_in row)) ≡ record_in row i ∷ drop (i + 1) (take waiting (records_in row))
  waiting_here i h =
      drop_more (take waiting (records_in row)) i no_request (omega (arith, waiting_length))
      ∙ ap (λ (r : Request). r ∷ drop (i + 1) (take waiting (records_in row)))
      (get_or-take waiting (records_in row) i no_request h ∙ get_or_tabulate 32 (record_in row) i no_request (omega arith))

  pub waiting_past : (i : ℕ) → waiting ≤ i → drop i (take waiting (records_in row)) ≡ []
  waiting_past i h =
      let short : length (take waiting (records_in row)) ≤ i = omega (arith, waiting_length) in
      drop_of_length-le (take waiting (records_in row)) short
