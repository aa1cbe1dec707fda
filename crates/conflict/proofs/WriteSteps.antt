-- The write steps of a plan, met in one walk over it.
-- Assumes nothing.
use mathlib.Core.Path.{◌≡◌, refl, ◌∙◌, sym}
use mathlib.Core.Bool.{Bool, false}
use mathlib.Core.List.{List}
use Prim.Native.Nat.{ℕ}
use Rattle.std.specs.List.{list_any}
use Rattle.std.proofs.lemmas.List.Folds.{list_any_none}
use Rattle.lists.proofs.Laws.{any_swap, any_same}
use Rattle.plan.specs.Plan.{Plan}
use Rattle.plan.specs.Step.{source_from, step_from}
use Rattle.plan.specs.declared.step.Access.TheVariants.{Read, Write}
use Rattle.plan.specs.declared.step.Source.{Source}
use Rattle.plan.specs.declared.step.Step as declared
use Rattle.plan.specs.declared.step.Step.TheVariants.{Cell, Operand, Tell}
use Rattle.conflict.specs.Written.{cell_given, step_writes, written}

-- a write step
pub writes_given : (s : declared.Step) (t k : ℕ) (r : Source) → s ≡ Cell Write t k r
    → (b : Bool) (cs : List ℕ) → b ≡ list_any (cell_given t k (source_from r)) cs → b ≡ list_any (step_writes (step_from s)) cs
unfolding step_writes
writes_given s t k r e b cs h = rw e h

-- any other
pub writes_none : (s : declared.Step) (cs : List ℕ) → ((t k : ℕ) (r : Source) → s ≡ Cell Write t k r → ⊥)
    → false ≡ list_any (step_writes (step_from s)) cs
unfolding step_writes
writes_none (Cell Read t k r) cs h = sym (list_any_none (λ _. false) cs (λ _ _ _. refl))
writes_none (Cell Write t k r) cs h = absurd (h t k r refl)
writes_none (Operand f v) cs h = sym (list_any_none (λ _. false) cs (λ _ _ _. refl))
writes_none Tell cs h = sym (list_any_none (λ _. false) cs (λ _ _ _. refl))

-- step by step, or cell by cell
pub walk_written : (p : Plan) (cs : List ℕ)
    → list_any (λ t. list_any (λ s. list_any (step_writes s) cs) t.steps) p.transactions ≡ list_any (written p) cs
unfolding written
walk_written p cs =
    sym (any_swap (λ c t. list_any (λ s. step_writes s c) t.steps) cs p.transactions
    ∙ any_same _ _ p.transactions (λ t. any_swap (λ c s. step_writes s c) cs t.steps))
