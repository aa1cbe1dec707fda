-- A run as its callers see it: it depends on the cells of its read steps only, a run that is done writes the cells of its write
-- steps in order, and a declined run writes nothing.
-- Assumes nothing.
use mathlib.Core.Path.{◌≡◌, refl, ◌∙◌, sym, ap, subst}
use mathlib.Core.Logic.{◌⊎◌, inl, inr, ⊎_elim}
use mathlib.Core.Bool.{true, false, false≢true}
use mathlib.Core.List.{List, [], ◌∷◌, ◌++◌, map-append, append-nil, append_assoc}
use mathlib.Core.List.Memᴰ
use mathlib.Core.List.{Memᴰ}
use Prim.Native.Nat.{ℕ, zero, suc, ◌+◌, ◌≤◌}
use native.Mathlib.Omega.{arith}
use lib.ListN.{length, get_or, set, take, drop, length-map, length-set, length-drop}
use lib.Seq.{length-take-le}
use Rattle.word.specs.Field.{step_count}
use Rattle.plan.specs.Plan.{reads, writes, Step, cell, operand, tells, Transaction}
use Rattle.plan.specs.Decode.{step_of}
use Rattle.plan.specs.Place.{StandsAt, transaction_from}
use Rattle.plan.proofs.Words.{transaction_steps}
use Rattle.operation.specs.Operation.{value_of, cell_number, cells_named}
use Rattle.operation.specs.Store.{Store, Update}
use Rattle.operation.proofs.NamedCells.{named_few}
use Rattle.execution.specs.Run.{Outcome, declined, Next, continues, stops, act, onward, run_from, run_transaction}
use Rattle.execution.specs.Effect.{cells_of, ReadsDecide, DoneWrites, DeclinedWrites, WritesWithin}

-- ---- the read set decides

-- the same write to both keeps two stores alike at a cell
pub alike_set : (a b : Store) (c d x : ℕ) → length a ≡ length b → get_or a c 0 ≡ get_or b c 0 → get_or (set a d x) c 0 ≡ get_or
    (set b d x) c 0
alike_set [] [] c d x l e = refl
alike_set [] (v ∷ b) c d x l e = absurd (omega (arith, l))
alike_set (v ∷ a) [] c d x l e = absurd (omega (arith, l))
alike_set (v ∷ a) (w ∷ b) zero zero x l e = refl
alike_set (v ∷ a) (w ∷ b) zero (suc d) x l e = e
alike_set (v ∷ a) (w ∷ b) (suc c) zero x l e = e
alike_set (v ∷ a) (w ∷ b) (suc c) (suc d) x l e = alike_set a b c d x (omega (arith, l)) e

onward_alike : (n : Next) (f g : ℕ → Outcome) (stop : Outcome) → ((y : ℕ) → f y ≡ g y) → onward n f stop ≡ onward n g stop
onward_alike (continues y) f g stop h = h y
onward_alike stops f g stop h = refl

module _ (P : ℕ → Type 0) (ps : List ℕ) where
  run_alike : (ss : List Step) (a b : Store) (x : ℕ) (ts : List ℕ) (u : Update) → ((c : ℕ) → Memᴰ c (cells_named reads ps ss) → P c)
      → length a ≡ length b → ((c : ℕ) → P c → get_or a c 0 ≡ get_or b c 0) → run_from ps ss a x ts u ≡ run_from ps ss b x ts u
  unfolding run_from cells_named
  run_alike [] a b x ts u f l s = refl
  run_alike (cell reads t k r ∷ ss) a b x ts u f l s =
      let c = cell_number t (value_of ps r) k in
      rw (s c (f c (Memᴰ.head refl))) (run_alike ss a b (get_or b c 0) ts u (λ d h. f d (Memᴰ.tail h)) l s)
  run_alike (cell writes t k r ∷ ss) a b x ts u f l s =
      let c = cell_number t (value_of ps r) k in
      run_alike ss (set a c x) (set b c x) x ts (u ++ ((c, x) ∷ [])) f (length-set a c x ∙ l ∙ sym (length-set b c x))
      (λ d h. alike_set a b d c x l (s d h))
  run_alike (operand g v ∷ ss) a b x ts u f l s =
      onward_alike (act g x (value_of ps v)) _ _ (declined x ts) (λ y. run_alike ss a b y ts u f l s)
  run_alike (tells ∷ ss) a b x ts u f l s = run_alike ss a b x (ts ++ (x ∷ [])) u f l s

-- "It may read .. the cells of all its read .. steps": no other cell of the store decides its reply or its update
pub reads_decide : ReadsDecide
reads_decide t ps a b l s = run_alike (λ c. Memᴰ c (cells_named reads ps t.steps)) ps t.steps a b 0 [] [] (λ c h. h) l s

-- ---- the update

-- done with all of these cells written behind the earlier ones, or declined with none
abbrev Writes : List ℕ → Outcome → Type 0
Writes cs o = ((o.reply.done ≡ true) × (cells_of o.update ≡ cs)) ⊎ ((o.reply.done ≡ false) × (o.update ≡ []))

onward_writes : (cs : List ℕ) (n : Next) (f : ℕ → Outcome) (x : ℕ) (ts : List ℕ) → ((y : ℕ) → Writes cs (f y))
    → Writes cs (onward n f (declined x ts))
onward_writes cs (continues y) f x ts h = h y
onward_writes cs stops f x ts h = inr (refl, refl)

run_writes : (ps : List ℕ) (ss : List Step) (s : Store) (x : ℕ) (ts : List ℕ) (u : Update)
    → Writes (cells_of u ++ cells_named writes ps ss) (run_from ps ss s x ts u)
unfolding run_from cells_named
run_writes ps [] s x ts u = inl (refl, sym (append-nil (cells_of u)))
run_writes ps (cell reads t k r ∷ ss) s x ts u = run_writes ps ss s (get_or s (cell_number t (value_of ps r) k) 0) ts u
run_writes ps (cell writes t k r ∷ ss) s x ts u =
    let c = cell_number t (value_of ps r) k in
    let v = u ++ ((c, x) ∷ []) in
    let e : cells_of v ++ cells_named writes ps ss ≡ cells_of u ++ (c ∷ cells_named writes ps ss) = rw (map-append, append_assoc) in
    subst (λ (cs : List ℕ). Writes cs (run_from ps ss (set s c x) x ts v)) e (run_writes ps ss (set s c x) x ts v)
run_writes ps (operand g v ∷ ss) s x ts u =
    onward_writes (cells_of u ++ cells_named writes ps ss) (act g x (value_of ps v)) (λ y. run_from ps ss s y ts u) x ts
    (λ y. run_writes ps ss s y ts u)
run_writes ps (tells ∷ ss) s x ts u = run_writes ps ss s x (ts ++ (x ∷ [])) u

run_outcome : (t : Transaction) (ps : List ℕ) (s : Store) → Writes (cells_named writes ps t.steps) (run_transaction t ps s)
run_outcome t ps s = run_writes ps t.steps s 0 [] []

pub done_writes : DoneWrites
done_writes t ps s d = ⊎_elim (λ h. h.1) (λ h. absurd (false≢true (sym h.0 ∙ d))) (run_outcome t ps s)

pub declined_writes : DeclinedWrites
declined_writes t ps s d = ⊎_elim (λ h. absurd (false≢true (sym d ∙ h.0))) (λ h. h.1) (run_outcome t ps s)

pub writes_within : WritesWithin
writes_within t ps s w m =
    ⊎_elim (λ h. subst (λ (cs : List ℕ). Memᴰ w.0 cs) h.1 (Memᴰ.map (λ (v : ℕ × ℕ). v.0) m))
    (λ h. absurd (Memᴰ.not-nil (subst (λ (u : Update). Memᴰ w u) h.1 m))) (run_outcome t ps s)

-- no more pairs than write steps
pub writes_few : (t : Transaction) (ps : List ℕ) (s : Store)
    → length (run_transaction t ps s).update ≤ length (cells_named writes ps t.steps)
writes_few t ps s =
    ⊎_elim (λ h. omega (arith, ap length h.1, length-map (run_transaction t ps s).update (λ w. w.0)))
    (λ h. omega (arith, ap length h.1)) (run_outcome t ps s)

-- "steps (1–12)"
pub steps_few : (ws : List ℕ) (at : ℕ) → StandsAt ws at → length (transaction_from ws at).steps ≤ 12
steps_few ws at p =
    let n = step_count (get_or ws at 0) in
    let r = drop (at + 1) ws in
    let l : length (take n r) ≡ n = length-take-le n r (omega (arith, p.room, length-drop (at + 1) ws)) in
    omega (arith, l, length-map (take n r) step_of, transaction_steps (get_or ws at 0) p.form)

-- "cells 0–12"
pub update_few : (ws : List ℕ) (at : ℕ) (ps : List ℕ) (s : Store) → StandsAt ws at
    → length (run_transaction (transaction_from ws at) ps s).update ≤ 12
update_few ws at ps s p =
    let t = transaction_from ws at in
    omega (arith, writes_few t ps s, named_few writes ps t.steps, steps_few ws at p)
