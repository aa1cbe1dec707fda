-- What a run tells.
--     ToldInOrder     the number told by a step is the accumulator there, and stands behind those told before
--     UntoldZero      zero where untold
--     StopEnds        a declined run has told what its steps up to the stop tell, whatever comes behind
--     TellsOnly       a step that tells changes nothing else
use Rattle.std.specs.Prelude.{◌≡◌, true, false, List, [], ◌∷◌, ◌++◌, ℕ, ◌≤◌, ◌<◌, get_or}
use Rattle.plan.specs.Plan.{Step, tells}
use Rattle.plan.specs.Admission.{tell_count, most_tells}
use Rattle.operation.specs.Store.{Store}
use Rattle.execution.specs.Run.{Reply, Outcome, run_from}

-- the four told numbers of a reply
abbrev pub told_words : Reply → List ℕ
told_words r = r.told0 ∷ r.told1 ∷ r.told2 ∷ r.told3 ∷ []

-- a run of these steps
abbrev pub run_steps : List ℕ → List Step → Store → Outcome
run_steps ps ss s = run_from ps ss s 0 [] []

-- kind 13 "tells the working number"; "the told numbers in order": where the steps before it are done, whatever comes behind
abbrev pub ToldInOrder : Type 0
ToldInOrder = (ps : List ℕ) (before after : List Step) (s : Store) → tell_count before < most_tells
    → (run_steps ps before s).reply.done ≡ true
    → get_or (told_words (run_steps ps (before ++ (tells ∷ after)) s).reply) (tell_count before) 0 ≡ (run_steps ps before s).reply.number

-- "zero where untold"
abbrev pub UntoldZero : Type 0
UntoldZero = (ps : List ℕ) (ss : List Step) (s : Store) (k : ℕ) → tell_count ss ≤ k → get_or (told_words (run_steps ps ss s).reply) k 0 ≡ 0

-- "a declined run gives those told before the stop": a run that is declined by its first steps has the outcome of these
abbrev pub StopEnds : Type 0
StopEnds = (ps : List ℕ) (before after : List Step) (s : Store) → (run_steps ps before s).reply.done ≡ false
    → run_steps ps (before ++ after) s ≡ run_steps ps before s

-- the same but for what was told
pub record SameButTold (a b : Outcome) : Type 0 where
  pub done : a.reply.done ≡ b.reply.done
  pub number : a.reply.number ≡ b.reply.number
  pub update : a.update ≡ b.update

-- "tells the working number", and no more
abbrev pub TellsOnly : Type 0
TellsOnly = (ps : List ℕ) (before after : List Step) (s : Store)
    → SameButTold (run_steps ps (before ++ (tells ∷ after)) s) (run_steps ps (before ++ after) s)
