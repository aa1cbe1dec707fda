-- What fills the open fields of a plan: "fills each open field with one of the transaction's parameters or 15".
--     Candidate, Filling    what an open field, and all of a plan, may be filled with
--     Smaller               plan order
--     fill                  the words of the plan, filled
use Rattle.std.specs.Prelude.{ℕ, ◌+◌, ◌*◌, ◌/◌, ◌%◌, ◌^◌, ◌<◌, ◌≡◌, cond, List, [], ◌∷◌, ◌⊎◌, length, get_or, drop}
use Rattle.plan.specs.Plan.{Transaction, no_transaction, Plan}
use Rattle.plan.specs.Decode.{none_field, is_open}
use Rattle.plan.specs.Admission.{decided}

-- the transactions whose field is open, in plan order
unfoldable pub open_transactions : List Transaction → List Transaction
open_transactions [] = []
open_transactions (t ∷ ts) = cond (decided t) (open_transactions ts) (t ∷ open_transactions ts)

-- "one of the transaction's parameters or 15", of a transaction with so many parameters
abbrev pub Candidate : ℕ → ℕ → Type 0
Candidate params f = (f < params) ⊎ (f ≡ none_field)

-- a field for each open one, in plan order
pub record Filling (p : Plan) (fs : List ℕ) : Type 0 where
  pub long : length fs ≡ length (open_transactions p.transactions)
  pub candidates : (i : ℕ) → i < length fs → Candidate (get_or (open_transactions p.transactions) i no_transaction).params (get_or fs i 0)

-- "the smallest fields in plan order": at the first place at which they differ, fs has the smaller field
abbrev pub Smaller : List ℕ → List ℕ → Type 0
Smaller fs gs = (i : ℕ) × ((j : ℕ) → j < i → get_or fs j 0 ≡ get_or gs j 0) × (get_or fs i 0 < get_or gs i 0)

-- the word with this in its partitioning field, bits 19–16; its "other bits are untouched"
abbrev pub with_field : ℕ → ℕ → ℕ
with_field f w = w / 2 ^ 20 * 2 ^ 20 + f * 2 ^ 16 + w % 2 ^ 16

-- "They are written into the lent plan": the fields in place of the open ones
unfoldable pub fill : List ℕ → List ℕ → List ℕ
fill fs [] = []
fill fs (w ∷ ws) = cond (is_open w) (with_field (get_or fs 0 0) w ∷ fill (drop 1 fs) ws) (w ∷ fill fs ws)
