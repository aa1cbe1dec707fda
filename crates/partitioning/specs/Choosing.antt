-- What is proved of the choice, over all fillings.
--     CandidateMeans    the candidates are the fields that pass questions 3 and 4 and are not open
--     FilledAccepted    the plan reader accepts the plan with any filling
--     FilledDecodes     what a filling does to the decoded plan
--     OtherBitsKept     "whose other bits are untouched"
--     BestFills         the best is a filling
--     BestIsLeast       no filling costs less; none that costs the same is smaller
--     BestUnique        only one filling is so, and it is the best
--     RefusesMore       a plan with more than six open fields is refused with 16
--     Chooses           one with up to six is filled
--     NothingOpen       one with none is accepted, and stays as it is
--     ChosenBest        what the chooser leaves is the plan with the best filling
--     ChosenCosts       it is accepted, and costs what is answered
--     RefusalKeeps      a refusal leaves the plan as it was lent
use Rattle.std.specs.Prelude.{ℕ, ◌/◌, ◌%◌, ◌^◌, ◌≤◌, ◌<◌, ◌≡◌, true, false, cond, List, [], ◌∷◌, ◌↔◌, length, get_or, drop}
use Rattle.verdict.specs.Verdict.{accepted}
use Rattle.plan.specs.Plan.{Partitioning, Transaction}
use Rattle.plan.specs.Decode.{plan_of, is_open, part_by}
use Rattle.plan.specs.Admission.{partitioning_formed, part_exists, open_plan_verdict, part_decided, decided, plan_verdict}
use Rattle.partitioning.specs.Filling.{open_transactions, Candidate, Filling, Smaller, fill}
use Rattle.partitioning.specs.Cost.{Costs}
use Rattle.partitioning.specs.Best.{best}
use Rattle.partitioning.specs.Answer.{chosen, choice_refused, choose_result, chosen_words}

-- ---- any filling

-- "one of the transaction's parameters or 15", of a transaction that has at most four
abbrev pub CandidateMeans : Type 0
CandidateMeans = (params f : ℕ) → params ≤ 4
    → Candidate params f ↔ ((partitioning_formed f ≡ true) × (part_exists params (part_by f) ≡ true) × (part_decided (part_by f) ≡ true))

abbrev pub FilledAccepted : Type 0
FilledAccepted = (ws fs : List ℕ) → open_plan_verdict ws ≡ accepted → Filling (plan_of ws) fs → plan_verdict (fill fs ws) ≡ accepted

-- the transaction with another partitioning
abbrev pub repartitioned : Partitioning → Transaction → Transaction
repartitioned q t = record { params = t.params; part = q; weight = t.weight; urgent = t.urgent; steps = t.steps }

-- the fields in place of the open ones, in plan order
unfoldable pub fill_transactions : List ℕ → List Transaction → List Transaction
fill_transactions fs [] = []
fill_transactions fs (t ∷ ts) =
    cond (decided t) (t ∷ fill_transactions fs ts) (repartitioned (part_by (get_or fs 0 0)) t ∷ fill_transactions (drop 1 fs) ts)

abbrev pub FilledDecodes : Type 0
FilledDecodes = (ws fs : List ℕ) → open_plan_verdict ws ≡ accepted → Filling (plan_of ws) fs
    → plan_of (fill fs ws) ≡ record { desks = (plan_of ws).desks; transactions = fill_transactions fs (plan_of ws).transactions }

-- every word but those of open transactions, and of these every bit but 19–16
abbrev pub OtherBitsKept : Type 0
OtherBitsKept = (ws fs : List ℕ) → open_plan_verdict ws ≡ accepted → Filling (plan_of ws) fs → (length (fill fs ws) ≡ length ws)
    × ((i : ℕ) → (is_open (get_or ws i 0) ≡ false → get_or (fill fs ws) i 0 ≡ get_or ws i 0)
    × (get_or (fill fs ws) i 0 / 2 ^ 20 ≡ get_or ws i 0 / 2 ^ 20)
    × (get_or (fill fs ws) i 0 % 2 ^ 16 ≡ get_or ws i 0 % 2 ^ 16))

-- ---- the best

abbrev pub BestFills : Type 0
BestFills = (ws : List ℕ) → open_plan_verdict ws ≡ accepted → Filling (plan_of ws) (best ws)

-- the filling costs no more than any, and none that costs the same is smaller in plan order
abbrev pub IsBest : List ℕ → List ℕ → Type 0
IsBest ws fs = (gs : List ℕ) → Filling (plan_of ws) gs → (c d : ℕ) → Costs (plan_of (fill fs ws)) c → Costs (plan_of (fill gs ws)) d
    → (c ≤ d) × (c ≡ d → Smaller gs fs → ⊥)

abbrev pub BestIsLeast : Type 0
BestIsLeast = (ws : List ℕ) → open_plan_verdict ws ≡ accepted → IsBest ws (best ws)

abbrev pub BestUnique : Type 0
BestUnique = (ws fs : List ℕ) → open_plan_verdict ws ≡ accepted → Filling (plan_of ws) fs → IsBest ws fs → fs ≡ best ws

-- ---- the chooser

-- "It refuses with 16 a plan with more than six open fields",
abbrev pub RefusesMore : Type 0
RefusesMore = (ws : List ℕ) → open_plan_verdict ws ≡ accepted → 6 < length (open_transactions (plan_of ws).transactions)
    → choose_result ws ≡ choice_refused 16

-- and no other that passes questions 1 to 4
abbrev pub Chooses : Type 0
Chooses = (ws : List ℕ) → open_plan_verdict ws ≡ accepted → length (open_transactions (plan_of ws).transactions) ≤ 6
    → (c : ℕ) × (choose_result ws ≡ chosen c)

abbrev pub NothingOpen : Type 0
NothingOpen = (ws : List ℕ) → plan_verdict ws ≡ accepted → (c : ℕ) × (choose_result ws ≡ chosen c) × (chosen_words ws ≡ ws)

abbrev pub ChosenBest : Type 0
ChosenBest = (ws : List ℕ) (c : ℕ) → choose_result ws ≡ chosen c
    → (fs : List ℕ) × Filling (plan_of ws) fs × IsBest ws fs × (chosen_words ws ≡ fill fs ws)

abbrev pub ChosenCosts : Type 0
ChosenCosts = (ws : List ℕ) (c : ℕ) → choose_result ws ≡ chosen c
    → (plan_verdict (chosen_words ws) ≡ accepted) × Costs (plan_of (chosen_words ws)) c

abbrev pub RefusalKeeps : Type 0
RefusalKeeps = (ws : List ℕ) (question : ℕ) → choose_result ws ≡ choice_refused question → chosen_words ws ≡ ws
