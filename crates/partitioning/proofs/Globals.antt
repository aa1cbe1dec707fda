-- The computed cost of an accepted plan is the one over all operations.
--     has_global_means    the test by the masks finds just the transactions that have a global operation
--     cost_means          and the computed cost is the sum of their weights
-- Assumes nothing.
use mathlib.Core.Path.{◌≡◌, refl, ◌∙◌, sym, ap, ap₂, subst}
use mathlib.Core.Bool.{Bool, true, false, ◌&&◌, cond, false≢true}
use mathlib.Core.List.{List, [], ◌∷◌, Memᴰ}
use mathlib.Core.Logic.{inr}
use Prim.Native.Nat.{ℕ, suc, ◌+◌, ◌<◌}
use native.Mathlib.Omega.{arith}
use lib.Count.{ones}
use lib.ListN.{length, get_or}
use borrow.Author.Tests.{lt-ltb, ltb-true}
use Rattle.verdict.specs.Verdict.{accepted}
use Rattle.std.proofs.lemmas.Bool.{and_from}
use Rattle.lists.proofs.Laws.{and_fst, and_snd, bool_ext, by_same, by_less, all_member}
use Rattle.lists.proofs.Laws.{member_any, any_member, any_below_number, number_any_below}
use Rattle.plan.specs.Plan.{writes, Step, cell, Transaction, Plan, no_transaction, transaction_at}
use Rattle.plan.specs.Decode.{plan_of}
use Rattle.plan.specs.Admission.{plan_verdict}
use Rattle.operation.specs.Operation.{Operation, transaction_of, desk_of, MayWrite}
use Rattle.operation.specs.Admission.{IsOperation, row_in_range}
use Rattle.operation.specs.Store.{store_size}
use Rattle.operation.proofs.Admitted.{transaction_below, rows_passed}
use Rattle.operation.proofs.Bounds.{cells_low}
use Rattle.operation.proofs.NamedCells.{names_of}
use Rattle.conflict.specs.Touch.{desk_mask}
use Rattle.conflict.specs.Written.{step_writes}
use Rattle.conflict.specs.Class.{Global}
use Rattle.conflict.proofs.Ones.{ones_mask, none_of_count}
use Rattle.conflict.proofs.Touching.{touched, sound_at, made, made_transaction, value_low, some_desk, few_desks, gives_touched}
use Rattle.conflict.proofs.MaskMeaning.{desk_low, one_desk}
use Rattle.conflict.proofs.WrittenMeaning.{step_of, cell_found}
use Rattle.partitioning.specs.Cost.{HasGlobal, picked_weight, Costs, shared, writes_shared, has_global, global_weight}
use Rattle.partitioning.specs.Cost.{HasGlobalMeans, CostMeans}

-- ---- a step that may write a shared cell

shared_cell : (p : Plan) (s : Step) → writes_shared p s ≡ true → (c : ℕ) × (step_writes s c ≡ true) × (1 < ones (desk_mask p c))
unfolding writes_shared
shared_cell p s e =
    let m = any_below_number store_size (λ c. step_writes s c && shared p c) e in
    (m.0, and_fst (step_writes s m.0) _ m.2, ltb-true 1 _ (and_snd (step_writes s m.0) _ m.2))

cell_shared : (p : Plan) (s : Step) (c : ℕ) → c < store_size → step_writes s c ≡ true → 1 < ones (desk_mask p c) → writes_shared p s ≡ true
unfolding writes_shared
cell_shared p s c l w h =
    number_any_below store_size (λ c. step_writes s c && shared p c) c l
    (and_from (step_writes s c) (shared p c) w (lt-ltb 1 (ones (desk_mask p c)) h))

module _ (ws : List ℕ) (e : plan_verdict ws ≡ accepted) where
  -- ---- the test finds a global operation

  -- an operation of transaction k for a cell that a step of it may write
  writer_of : (k : ℕ) → k < length (plan_of ws).transactions → (s : Step) → Memᴰ s (transaction_at (plan_of ws) k).steps
      → (c : ℕ) → step_writes s c ≡ true
      → (o : Operation) × IsOperation (plan_of ws) o × (o.transaction ≡ k) × MayWrite (plan_of ws) o c
  writer_of k below s m c w =
      let p = plan_of ws in
      let j = step_of p.desks (transaction_at p k) c s (some_desk ws e) m w in
      let a = made p k j.0 c (some_desk ws e) (few_desks ws e) below writes (sound_at ws e k below) j.1 in (
        a.op,
        a.is,
        made_transaction p k j.0 c (some_desk ws e) (few_desks ws e) below writes (sound_at ws e k below) j.1,
        a.names,
      )

  module _ (o : Operation) (i : IsOperation (plan_of ws) o) where
    -- were it local, just one desk would be in the mask
    shared_global : (c : ℕ) → MayWrite (plan_of ws) o c → 1 < ones (desk_mask (plan_of ws) c) → Global (plan_of ws) o
    shared_global c m h = (
      λ f. f.0 c m,
      λ l. let one = (one_desk ws e c).1 (
        desk_of (plan_of ws) o,
        ((o, i, refl, inr m), λ o' i' t. by_same _ _ (λ q. q) (λ q. absurd (l.1 c m o' i' q t))),
      ) in omega (arith, one),
    )

    -- ---- the test finds every global operation

    -- the operation's own desk is in the mask
    not_none : (c : ℕ) → MayWrite (plan_of ws) o c → ones (desk_mask (plan_of ws) c) ≡ 0 → ⊥
    unfolding desk_mask
    not_none c m z =
        none_of_count (plan_of ws).desks (touched (plan_of ws) c) (sym (ones_mask (plan_of ws).desks (touched (plan_of ws) c)) ∙ z)
        (desk_of (plan_of ws) o) (desk_low (plan_of ws) o (some_desk ws e))
        (gives_touched ws e (desk_of (plan_of ws) o) c writes (record { op = o; is = i; desk = refl; names = m }))

    -- a shared cell that it may write is found
    shared_found : (c : ℕ) → MayWrite (plan_of ws) o c → 1 < ones (desk_mask (plan_of ws) c)
        → has_global (plan_of ws) (transaction_of (plan_of ws) o) ≡ true
    shared_found c m h =
        let p = plan_of ws in
        let t = transaction_of p o in
        let fits = (sound_at ws e o.transaction (transaction_below p o i)).fits in
        let n = names_of writes o.params t.steps c m in
        let v = value_low o.params writes n.table n.column n.row (fits _ n.step)
        (all_member (row_in_range o.params) t.steps _ (rows_passed p o i) n.step) in
        member_any (writes_shared p) (cell writes n.table n.column n.row) t.steps n.step
        (cell_shared p (cell writes n.table n.column n.row) c
        (cells_low writes o.params t.steps fits (rows_passed p o i) c m)
        (cell_found n.table n.column n.row o.params c v n.is) h)

    -- if none is found, just its own desk may touch what it may write
    global_found : Global (plan_of ws) o → has_global (plan_of ws) (transaction_of (plan_of ws) o) ≡ true
    global_found g = go (has_global (plan_of ws) (transaction_of (plan_of ws) o)) refl
      where
        one : has_global (plan_of ws) (transaction_of (plan_of ws) o) ≡ false → (c : ℕ) → MayWrite (plan_of ws) o c
            → ones (desk_mask (plan_of ws) c) ≡ 1
        one q c m =
            by_same (ones (desk_mask (plan_of ws) c)) 0 (λ z. absurd (not_none c m z))
            (λ z. by_less 1 (ones (desk_mask (plan_of ws) c)) (λ h. absurd (false≢true (sym q ∙ shared_found c m h))) (λ h. omega arith))

        go : (b : Bool) → has_global (plan_of ws) (transaction_of (plan_of ws) o) ≡ b → b ≡ true
        go true q = refl
        go false q =
            absurd (g.1 (
              g.0,
              λ c m o' i' other t. let d = (one_desk ws e c).0 (one q c m) in other (d.1.1 o' i' t ∙ sym (d.1.1 o i (inr m))),
            ))

  has_global_gives : (k : ℕ) → k < length (plan_of ws).transactions
      → has_global (plan_of ws) (transaction_at (plan_of ws) k) ≡ true → HasGlobal (plan_of ws) k
  has_global_gives k below h =
      let s = any_member (writes_shared (plan_of ws)) (transaction_at (plan_of ws) k).steps h in
      let c = shared_cell (plan_of ws) s.0 s.2 in
      let o = writer_of k below s.0 s.1 c.0 c.1 in
      (o.0, o.1, o.2, shared_global o.0 o.1 c.0 o.3 c.2)

  gives_has_global : (k : ℕ) → HasGlobal (plan_of ws) k → has_global (plan_of ws) (transaction_at (plan_of ws) k) ≡ true
  gives_has_global k g =
      subst (λ (j : ℕ). has_global (plan_of ws) (transaction_at (plan_of ws) j) ≡ true) g.2 (global_found g.0 g.1 g.3)

pub has_global_means : HasGlobalMeans
has_global_means ws e k below = (has_global_gives ws e k below, gives_has_global ws e k)

-- ---- the sum of the weights

-- from transaction k on, of a test that agrees with the computed one
picked_global : (p : Plan) (picks : ℕ → Bool) (k : ℕ) (ts : List Transaction)
    → ((i : ℕ) → i < length ts → picks (i + k) ≡ has_global p (get_or ts i no_transaction)) → picked_weight picks k ts ≡ global_weight p ts
unfolding picked_weight global_weight
picked_global p picks k [] h = refl
picked_global p picks k (t ∷ ts) h =
    ap₂ ◌+◌ (ap (λ (b : Bool). cond b t.weight 0) (ap picks (omega arith) ∙ h 0 (omega arith)))
    (picked_global p picks (suc k) ts (λ i l. ap picks (omega arith) ∙ h (suc i) (omega arith)))

pub cost_means : CostMeans
cost_means ws e c = (
  λ z. z.sum ∙ picked_global (plan_of ws) z.picks 0 (plan_of ws).transactions (λ i l. same z i l),
  λ q. record {
    picks = λ k. has_global (plan_of ws) (transaction_at (plan_of ws) k);
    globals = has_global_means ws e;
    sum = q ∙ sym (picked_global (plan_of ws) (λ k. has_global (plan_of ws) (transaction_at (plan_of ws) k)) 0 (plan_of ws).transactions
        (λ i l. ap (λ (k : ℕ). has_global (plan_of ws) (transaction_at (plan_of ws) k)) (omega arith)));
  },
)
  where
    same : (z : Costs (plan_of ws) c) (i : ℕ) → i < length (plan_of ws).transactions
        → z.picks (i + 0) ≡ has_global (plan_of ws) (transaction_at (plan_of ws) i)
    same z i l =
        let h = has_global_means ws e i l in
        ap z.picks (omega arith)
        ∙ bool_ext _ _ (λ q. h.1 ((z.globals i l).0 q)) (λ q. (z.globals i l).1 (h.0 q))
