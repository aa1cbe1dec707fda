-- What set, add, need and take do to a run.
-- Assumes nothing.
use mathlib.Core.Path.{◌≡◌, refl, ◌∙◌, sym, subst}
use mathlib.Core.Bool.{true, false≢true}
use mathlib.Core.List.{List, [], ◌∷◌, ◌++◌}
use Prim.Native.Nat.{ℕ}
use borrow.Author.Tests.{le-leb, lt-leb}
use Rattle.plan.specs.Plan.{Source, fixed, Action, sets, adds, needs, takes, Step, operand}
use Rattle.operation.specs.Operation.{value_of}
use Rattle.operation.specs.Store.{Store, Update}
use Rattle.execution.specs.Run.{Outcome, finished, declined, Next, continues, stops, act, onward, run_from}
use Rattle.execution.specs.Actions.{DoneBehind, SetMakes, AddSets, TakeSets, NeedPasses}
use Rattle.execution.specs.Actions.{DeclinedBehind, AddDeclines, TakeDeclines, NeedDeclines}
use Rattle.execution.proofs.RunAppend.{run_append}

-- ---- where the run goes on

pub set_makes : SetMakes
unfolding run_from act
set_makes ps before v s d =
    run_append ps (operand sets v ∷ []) [] (λ (o : Outcome). o.reply.done ≡ true)
    (λ (o _ p : Outcome). DoneBehind (value_of ps v) o p)
    (λ _ x ts u _. record { done = refl; number = refl; told = refl; update = refl })
    (λ x ts e. absurd (false≢true e))
    before s 0 [] [] d

onward_to : (n : Next) (z : ℕ) (g : ℕ → Outcome) (stop : Outcome) → n ≡ continues z → onward n g stop ≡ g z
onward_to n z g stop e = subst (λ (m : Next). onward m g stop ≡ g z) (sym e) refl

module _ (ps : List ℕ) (f : Action) (v : Source) (after : List Step) where
  -- a step that makes k x of the accumulator x, and steps that do so too
  continues_as : (k : ℕ → ℕ) (b : List Step)
      → ((s : Store) (x : ℕ) (ts : List ℕ) (u : Update) → run_from ps after s (k x) ts u ≡ run_from ps b s x ts u)
      → (before : List Step) (s : Store)
      → act f (run_from ps before s 0 [] []).reply.number (value_of ps v) ≡ continues (k (run_from ps before s 0 [] []).reply.number)
      → run_from ps (before ++ (operand f v ∷ after)) s 0 [] [] ≡ run_from ps (before ++ b) s 0 [] []
  unfolding run_from
  continues_as k b same before s e =
      run_append ps (operand f v ∷ after) b (λ (o : Outcome). act f o.reply.number (value_of ps v) ≡ continues (k o.reply.number))
      (λ (o p _ : Outcome). o ≡ p)
      (λ s x ts u h. onward_to (act f x (value_of ps v)) (k x) (λ y. run_from ps after s y ts u) _ h ∙ same s x ts u) (λ x ts h. refl)
      before s 0 [] [] e

  sets_as : (z : ℕ) (before : List Step) (s : Store) → act f (run_from ps before s 0 [] []).reply.number (value_of ps v) ≡ continues z
      → run_from ps (before ++ (operand f v ∷ after)) s 0 [] [] ≡ run_from ps (before ++ (operand sets (fixed z) ∷ after)) s 0 [] []
  unfolding run_from act
  sets_as z = continues_as (λ _. z) (operand sets (fixed z) ∷ after) (λ s x ts u. refl)

  -- ---- where it is declined

  stopped_here : (n : Next) (g : ℕ → Outcome) (x : ℕ) (ts : List ℕ) (u : Update) → n ≡ stops
      → DeclinedBehind (onward n g (declined x ts)) (finished x ts u)
  stopped_here n g x ts u e =
      subst (λ (m : Next). DeclinedBehind (onward m g (declined x ts)) (finished x ts u)) (sym e)
      (record { done = refl; number = refl; told = refl; update = refl })

  declines_at : (before : List Step) (s : Store) → act f (run_from ps before s 0 [] []).reply.number (value_of ps v) ≡ stops
      → DeclinedBehind (run_from ps (before ++ (operand f v ∷ after)) s 0 [] []) (run_from ps before s 0 [] [])
  unfolding run_from
  declines_at before s e =
      run_append ps (operand f v ∷ after) [] (λ (o : Outcome). act f o.reply.number (value_of ps v) ≡ stops)
      (λ (o _ p : Outcome). DeclinedBehind o p)
      (λ s x ts u h. stopped_here (act f x (value_of ps v)) (λ y. run_from ps after s y ts u) x ts u h)
      (λ x ts h. record { done = refl; number = refl; told = refl; update = refl })
      before s 0 [] [] e

-- ---- which it is

pub add_sets : AddSets
unfolding act
add_sets ps before after v s h = sets_as ps adds v after _ before s (rw (le-leb _ _ h))

pub take_sets : TakeSets
unfolding act
take_sets ps before after v s h = sets_as ps takes v after _ before s (rw (le-leb _ _ h))

pub need_passes : NeedPasses
unfolding act
need_passes ps before after v s h = continues_as ps needs v after (λ x. x) after (λ s x ts u. refl) before s (rw (le-leb _ _ h))

pub add_declines : AddDeclines
unfolding act
add_declines ps before after v s h = declines_at ps adds v after before s (rw (lt-leb _ _ h))

pub take_declines : TakeDeclines
unfolding act
take_declines ps before after v s h = declines_at ps takes v after before s (rw (lt-leb _ _ h))

pub need_declines : NeedDeclines
unfolding act
need_declines ps before after v s h = declines_at ps needs v after before s (rw (lt-leb _ _ h))
