-- What a run tells: each number in its place, zeros behind, and nothing but that.
-- Assumes nothing.
use mathlib.Core.Path.{◌≡◌, refl, ◌∙◌, sym, subst}
use mathlib.Core.Bool.{Bool, true, false, false≢true}
use mathlib.Core.List.{List, [], ◌∷◌, ◌++◌}
use Prim.Native.Nat.{ℕ, zero, suc, ◌+◌, ◌≤◌, ◌<◌}
use native.Mathlib.Omega.{arith}
use lib.ListN.{length, get_or, length-append, get_or-append, get_or-eq_default}
use lib.Seq.{get_or-append_seam}
use Rattle.plan.specs.Plan.{reads, writes, Step, cell, operand, tells}
use Rattle.plan.specs.Admission.{tell_count, most_tells}
use Rattle.operation.specs.Operation.{value_of, cell_number}
use Rattle.operation.specs.Store.{Store, Update}
use Rattle.execution.specs.Run.{Outcome, reply_with, declined, Next, continues, stops, act, onward, run_from}
use Rattle.execution.proofs.RunAppend.{run_append}
use Rattle.execution.specs.Telling.{told_words, ToldInOrder, UntoldZero, StopEnds, SameButTold, TellsOnly}

-- ---- the four words of a reply

told_word : (done : Bool) (x : ℕ) (ts : List ℕ) (k : ℕ) → k < most_tells → get_or (told_words (reply_with done x ts)) k 0 ≡ get_or ts k 0
told_word done x ts zero h = refl
told_word done x ts (suc zero) h = refl
told_word done x ts (suc (suc zero)) h = refl
told_word done x ts (suc (suc (suc zero))) h = refl
told_word done x ts (suc (suc (suc (suc k)))) h = absurd (omega arith)

untold_word : (done : Bool) (x : ℕ) (ts : List ℕ) (k : ℕ) → length ts ≤ k → get_or (told_words (reply_with done x ts)) k 0 ≡ 0
untold_word done x ts zero h = get_or-eq_default ts 0 h
untold_word done x ts (suc zero) h = get_or-eq_default ts 0 h
untold_word done x ts (suc (suc zero)) h = get_or-eq_default ts 0 h
untold_word done x ts (suc (suc (suc zero))) h = get_or-eq_default ts 0 h
untold_word done x ts (suc (suc (suc (suc k)))) h = refl

-- ---- what is told stays told

onward_all : (P : Outcome → Type 0) (n : Next) (f : ℕ → Outcome) (stop : Outcome) → ((y : ℕ) → P (f y)) → P stop → P (onward n f stop)
onward_all P (continues y) f stop h e = h y
onward_all P stops f stop h e = e

module _ (ps : List ℕ) where
  told_kept : (ss : List Step) (s : Store) (x : ℕ) (ts : List ℕ) (u : Update) (k : ℕ) → k < most_tells → k < length ts
      → get_or (told_words (run_from ps ss s x ts u).reply) k 0 ≡ get_or ts k 0
  unfolding run_from
  told_kept [] s x ts u k h l = told_word true x ts k h
  told_kept (cell reads t c r ∷ ss) s x ts u k h l = told_kept ss s (get_or s (cell_number t (value_of ps r) c) 0) ts u k h l
  told_kept (cell writes t c r ∷ ss) s x ts u k h l = told_kept ss _ x ts _ k h l
  told_kept (operand g v ∷ ss) s x ts u k h l =
      onward_all (λ (o : Outcome). get_or (told_words o.reply) k 0 ≡ get_or ts k 0) (act g x (value_of ps v)) _ (declined x ts)
      (λ y. told_kept ss s y ts u k h l) (told_word false x ts k h)
  told_kept (tells ∷ ss) s x ts u k h l =
      told_kept ss s x (ts ++ (x ∷ [])) u k h (omega (arith, length-append ts (x ∷ []))) ∙ get_or-append ts (x ∷ []) 0 k l

  untold : (ss : List Step) (s : Store) (x : ℕ) (ts : List ℕ) (u : Update) (k : ℕ) → length ts + tell_count ss ≤ k
      → get_or (told_words (run_from ps ss s x ts u).reply) k 0 ≡ 0
  unfolding run_from tell_count
  untold [] s x ts u k h = untold_word true x ts k (omega arith)
  untold (cell reads t c r ∷ ss) s x ts u k h = untold ss s (get_or s (cell_number t (value_of ps r) c) 0) ts u k (omega arith)
  untold (cell writes t c r ∷ ss) s x ts u k h = untold ss _ x ts _ k (omega arith)
  untold (operand g v ∷ ss) s x ts u k h =
      onward_all (λ (o : Outcome). get_or (told_words o.reply) k 0 ≡ 0) (act g x (value_of ps v)) _ (declined x ts)
      (λ y. untold ss s y ts u k (omega arith)) (untold_word false x ts k (omega arith))
  untold (tells ∷ ss) s x ts u k h = untold ss s x (ts ++ (x ∷ [])) u k (omega (arith, length-append ts (x ∷ [])))

  -- ---- a step that tells, behind others

  onward_done : (n : Next) (f g : ℕ → Outcome) (a b : Outcome) (k : ℕ) → a.reply.done ≡ false
      → ((y : ℕ) → (f y).reply.done ≡ true → get_or (told_words (g y).reply) k 0 ≡ (f y).reply.number)
      → (onward n f a).reply.done ≡ true → get_or (told_words (onward n g b).reply) k 0 ≡ (onward n f a).reply.number
  onward_done (continues y) f g a b k e h d = h y d
  onward_done stops f g a b k e h d = absurd (false≢true (sym e ∙ d))

  told_at : (before after : List Step) (s : Store) (x : ℕ) (ts : List ℕ) (u : Update) (k : ℕ) → k ≡ length ts + tell_count before
      → k < most_tells → (run_from ps before s x ts u).reply.done ≡ true
      → get_or (told_words (run_from ps (before ++ (tells ∷ after)) s x ts u).reply) k 0 ≡ (run_from ps before s x ts u).reply.number
  unfolding run_from tell_count
  told_at [] after s x ts u k e h d =
      told_kept after s x (ts ++ (x ∷ [])) u k h (omega (arith, length-append ts (x ∷ [])))
      ∙ subst (λ (i : ℕ). get_or (ts ++ (x ∷ [])) i 0 ≡ x) (let z : length ts ≡ k = omega arith in z) (get_or-append_seam ts x [] 0)
  told_at (cell reads t c r ∷ ss) after s x ts u k e h d =
      told_at ss after s (get_or s (cell_number t (value_of ps r) c) 0) ts u k (omega arith) h d
  told_at (cell writes t c r ∷ ss) after s x ts u k e h d = told_at ss after _ x ts _ k (omega arith) h d
  told_at (operand g v ∷ ss) after s x ts u k e h d =
      onward_done (act g x (value_of ps v)) (λ y. run_from ps ss s y ts u) (λ y. run_from ps (ss ++ (tells ∷ after)) s y ts u)
      (declined x ts)
      (declined x ts) k refl (λ y. told_at ss after s y ts u k (omega arith) h) d
  told_at (tells ∷ ss) after s x ts u k e h d =
      told_at ss after s x (ts ++ (x ∷ [])) u k (omega (arith, length-append ts (x ∷ []))) h d

  -- ---- a step that tells changes nothing else

  onward_same : (n : Next) (f g : ℕ → Outcome) (a b : Outcome) → ((y : ℕ) → SameButTold (f y) (g y)) → SameButTold a b
      → SameButTold (onward n f a) (onward n g b)
  onward_same (continues y) f g a b h e = h y
  onward_same stops f g a b h e = e

  -- whatever was told before
  told_apart : (ss : List Step) (s : Store) (x : ℕ) (ts vs : List ℕ) (u : Update)
      → SameButTold (run_from ps ss s x ts u) (run_from ps ss s x vs u)
  unfolding run_from
  told_apart [] s x ts vs u = record { done = refl; number = refl; update = refl }
  told_apart (cell reads t c r ∷ ss) s x ts vs u = told_apart ss s (get_or s (cell_number t (value_of ps r) c) 0) ts vs u
  told_apart (cell writes t c r ∷ ss) s x ts vs u = told_apart ss _ x ts vs _
  told_apart (operand g v ∷ ss) s x ts vs u =
      onward_same (act g x (value_of ps v)) _ _ (declined x ts) (declined x vs) (λ y. told_apart ss s y ts vs u)
      (record { done = refl; number = refl; update = refl })
  told_apart (tells ∷ ss) s x ts vs u = told_apart ss s x (ts ++ (x ∷ [])) (vs ++ (x ∷ [])) u

pub told_in_order : ToldInOrder
told_in_order ps before after s h d = told_at ps before after s 0 [] [] (tell_count before) (omega arith) h d

pub untold_zero : UntoldZero
untold_zero ps ss s k h = untold ps ss s 0 [] [] k (omega arith)

pub stop_ends : StopEnds
stop_ends ps before after s d =
    run_append ps after [] (λ (o : Outcome). o.reply.done ≡ false) (λ (o _ p : Outcome). o ≡ p)
    (λ s x ts u e. absurd (false≢true (sym e))) (λ x ts e. refl) before s 0 [] [] d

pub tells_only : TellsOnly
unfolding run_from
tells_only ps before after s =
    run_append ps (tells ∷ after) after (λ (o : Outcome). Unit) (λ (o p _ : Outcome). SameButTold o p)
    (λ s x ts u e. told_apart ps after s x (ts ++ (x ∷ [])) ts u) (λ x ts e. record { done = refl; number = refl; update = refl })
    before s 0 [] [] tt
