-- What set, add, need and take do to a run, whatever steps are before them and, but for a set, behind them.
--     SetMakes        a set as the last step makes the accumulator the operand; what was told and written stays
--     AddSets         an add whose sum is a word sets the accumulator to it
--     TakeSets        a take that is not below zero sets it to the difference
--     NeedPasses      a need that is met changes nothing
--     AddDeclines     an add whose sum exceeds the largest word declines the run
--     TakeDeclines    so does a take below zero
--     NeedDeclines    and a need that is not met
use Rattle.std.specs.Prelude.{◌≡◌, true, false, List, [], ◌∷◌, ◌++◌, ℕ, ◌+◌, ◌-◌, ◌≤◌, ◌<◌}
use Rattle.plan.specs.Plan.{Source, fixed, Action, sets, adds, needs, takes, Step, operand}
use Rattle.operation.specs.Operation.{value_of}
use Rattle.operation.specs.Store.{Store}
use Rattle.execution.specs.Run.{Outcome}
use Rattle.execution.specs.Telling.{told_words, run_steps}

-- the accumulator behind some steps, or where they stop
abbrev pub number_behind : List ℕ → List Step → Store → ℕ
number_behind ps before s = (run_steps ps before s).reply.number

-- ---- where the run goes on

-- a run is done behind the steps of another one, with this accumulator; what was told and written is as it was there
pub record DoneBehind (x : ℕ) (o before : Outcome) : Type 0 where
  pub done : o.reply.done ≡ true
  pub number : o.reply.number ≡ x
  pub told : told_words o.reply ≡ told_words before.reply
  pub update : o.update ≡ before.update

-- "Set makes it the operand": where the steps before it are done
abbrev pub SetMakes : Type 0
SetMakes = (ps : List ℕ) (before : List Step) (v : Source) (s : Store) → (run_steps ps before s).reply.done ≡ true
    → DoneBehind (value_of ps v) (run_steps ps (before ++ (operand sets v ∷ [])) s) (run_steps ps before s)

-- a run with this step is the one with a set of this number in its place
abbrev pub SetsAs : Action → List ℕ → List Step → Source → List Step → Store → ℕ → Type 0
SetsAs f ps before v after s x =
    run_steps ps (before ++ (operand f v ∷ after)) s ≡ run_steps ps (before ++ (operand sets (fixed x) ∷ after)) s

-- "add adds the operand"
abbrev pub AddSets : Type 0
AddSets = (ps : List ℕ) (before after : List Step) (v : Source) (s : Store) → number_behind ps before s + value_of ps v ≤ 4294967295
    → SetsAs adds ps before v after s (number_behind ps before s + value_of ps v)

-- "and take subtracts it"
abbrev pub TakeSets : Type 0
TakeSets = (ps : List ℕ) (before after : List Step) (v : Source) (s : Store) → value_of ps v ≤ number_behind ps before s
    → SetsAs takes ps before v after s (number_behind ps before s - value_of ps v)

-- "unless the working number is at least the operand; equal passes": the run is the one without this step
abbrev pub NeedPasses : Type 0
NeedPasses = (ps : List ℕ) (before after : List Step) (v : Source) (s : Store) → value_of ps v ≤ number_behind ps before s
    → run_steps ps (before ++ (operand needs v ∷ after)) s ≡ run_steps ps (before ++ after) s

-- ---- where it is declined

-- a run is declined behind the steps of another one: "the number given is the one before that step"; "a declined run gives those told
-- before the stop"; "A declined run writes nothing." Where these steps are declined already, so is the run, as they are
pub record DeclinedBehind (o before : Outcome) : Type 0 where
  pub done : o.reply.done ≡ false
  pub number : o.reply.number ≡ before.reply.number
  pub told : told_words o.reply ≡ told_words before.reply
  pub update : o.update ≡ []

-- a run with this step is declined there
abbrev pub DeclinesAt : Action → List ℕ → List Step → Source → List Step → Store → Type 0
DeclinesAt f ps before v after s = DeclinedBehind (run_steps ps (before ++ (operand f v ∷ after)) s) (run_steps ps before s)

-- "an add whose sum exceeds 4,294,967,295 .. declines the run"
abbrev pub AddDeclines : Type 0
AddDeclines = (ps : List ℕ) (before after : List Step) (v : Source) (s : Store) → 4294967295 < number_behind ps before s + value_of ps v
    → DeclinesAt adds ps before v after s

-- "and a take below zero, declines the run"
abbrev pub TakeDeclines : Type 0
TakeDeclines = (ps : List ℕ) (before after : List Step) (v : Source) (s : Store) → number_behind ps before s < value_of ps v
    → DeclinesAt takes ps before v after s

-- "Need declines the run unless the working number is at least the operand"
abbrev pub NeedDeclines : Type 0
NeedDeclines = (ps : List ℕ) (before after : List Step) (v : Source) (s : Store) → number_behind ps before s < value_of ps v
    → DeclinesAt needs ps before v after s
