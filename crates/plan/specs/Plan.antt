-- A decoded plan: the number of desks, and transactions made of steps. No word of it is left.
use Rattle.std.specs.Prelude.{ℕ, Bool, false, List, [], get_or}

-- where a row or an operand comes from: that parameter, or a fixed number
pub data Source : Type 0 where
  param : ℕ → Source
  fixed : ℕ → Source

-- kinds 3 and 4
pub data Access : Type 0 where
  reads writes : Access

-- kinds 5 to 8: set, add, need and take
pub data Action : Type 0 where
  sets adds needs takes : Action

-- a step names a cell by table, column and row, or an operand; or it tells the accumulator: kind 13, which names nothing
pub data Step : Type 0 where
  cell : Access → ℕ → ℕ → Source → Step
  operand : Action → Source → Step
  tells : Step

-- the parameter that decides the desk, or none, or open: to be chosen
pub data Partitioning : Type 0 where
  by_param : ℕ → Partitioning
  unpartitioned : Partitioning
  undecided : Partitioning

pub record Transaction : Type 0 where
  pub params : ℕ
  pub part : Partitioning
  pub weight : ℕ
  pub urgent : Bool
  pub steps : List Step

pub record Plan : Type 0 where
  pub desks : ℕ
  pub transactions : List Transaction

-- stands for a transaction that does not exist
abbrev pub no_transaction : Transaction
no_transaction = record { params = 0; part = unpartitioned; weight = 0; urgent = false; steps = [] }

-- transaction k of the plan
abbrev pub transaction_at : Plan → ℕ → Transaction
transaction_at p k = get_or p.transactions k no_transaction
