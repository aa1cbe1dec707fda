-- The snapshot that one visit leaves, cell by cell: of a shared cell what the store held before, of any other what was there; as it was if
-- the visit is refused.
-- Assumes nothing.
use Prim.Native.Nat.{ℕ, ◌≤◌}
use mathlib.Core.Path.{◌≡◌, refl, sym, ◌∙◌, ap}
use mathlib.Core.Bool.{Bool, true, false, cond, true≢false}
use mathlib.Core.List.{List}
use lib.ListN.{length, get_or, get_or-eq_default}
use lib.Seq.{ext_get_or}
use native.Mathlib.Omega.{arith}
use Rattle.verdict.specs.Verdict.{Verdict, accepted, refused}
use Rattle.lists.proofs.Laws.{by_less, length_tabulate, get_or_tabulate}
use Rattle.plan.specs.Decode.{plan_of}
use Rattle.plan.specs.Admission.{plan_verdict}
use Rattle.operation.specs.Store.{store_size}
use Rattle.conflict.specs.Touch.{desk_mask}
use Rattle.conflict.specs.Shared.{Shared, is_shared}
use Rattle.conflict.proofs.SharedCells.{shared_means, one_desk_none_shared}
use Rattle.desk.specs.Holding.{Holding}
use Rattle.visits.specs.Snapshot.{copied_by, snapshot_taken}
use Rattle.visits.specs.Visit.{visited_by, visit_verdict, visit_result}
use Rattle.visits.proofs.Questions.{questions_give, snapshot_long}
use Rattle.history.specs.History.{is_refused_forwarding}

module _ (ws : List ℕ) (h : Holding) (snapshot frame out replies : List ℕ) where
  -- ---- an accepted one

  abbrev taken : List ℕ
  taken = snapshot_taken (plan_of ws) h.cells snapshot

  -- what a snapshot has of cell c, by whether it is shared
  abbrev word_by : ℕ → Bool → ℕ
  word_by c shared = cond shared (get_or h.cells c 0) (get_or snapshot c 0)

  taken_length : length taken ≡ store_size
  unfolding copied_by
  taken_length = length_tabulate store_size (λ c. word_by c (is_shared (desk_mask (plan_of ws) c)))

  module _ (e : visit_verdict ws h snapshot frame out replies ≡ accepted) where
    past : (c : ℕ) (b : Bool) → store_size ≤ c → 0 ≡ word_by c b
    past c true l =
        sym (get_or-eq_default h.cells 0 (omega (arith, (questions_give ws h snapshot frame out replies e).cells_long)))
    past c false l = sym (get_or-eq_default snapshot 0 (omega (arith, snapshot_long ws h snapshot frame out replies e)))

    taken_cell : (c : ℕ) → get_or taken c 0 ≡ word_by c (is_shared (desk_mask (plan_of ws) c))
    unfolding copied_by
    taken_cell c =
        by_less c store_size (λ l. get_or_tabulate store_size (λ c. word_by c (is_shared (desk_mask (plan_of ws) c))) c 0 l)
        (λ l. get_or-eq_default taken 0 (omega (arith, taken_length)) ∙ past c (is_shared (desk_mask (plan_of ws) c)) l)

    plan_accepted : plan_verdict ws ≡ accepted
    plan_accepted = (questions_give ws h snapshot frame out replies e).plan

    shared_taken : (c : ℕ) → Shared (plan_of ws) c → get_or taken c 0 ≡ get_or h.cells c 0
    shared_taken c s = taken_cell c ∙ ap (word_by c) ((shared_means ws plan_accepted c).1 s)

    other_kept : (c : ℕ) → (Shared (plan_of ws) c → ⊥) → get_or taken c 0 ≡ get_or snapshot c 0
    other_kept c f = taken_cell c ∙ go (is_shared (desk_mask (plan_of ws) c)) refl
      where
        go : (b : Bool) → is_shared (desk_mask (plan_of ws) c) ≡ b → word_by c b ≡ get_or snapshot c 0
        go true t = absurd (f ((shared_means ws plan_accepted c).0 t))
        go false t = refl

  -- ---- any

  abbrev by : Verdict → List ℕ
  by v = (visited_by (plan_of ws) h frame snapshot out replies v).snapshot

  abbrev refused_by : Verdict → Bool
  refused_by v = is_refused_forwarding (visited_by (plan_of ws) h frame snapshot out replies v).answer

  abbrev left : List ℕ
  left = (visit_result ws h snapshot frame out replies).snapshot

  abbrev is_refused : Bool
  is_refused = is_refused_forwarding (visit_result ws h snapshot frame out replies).answer

  length_by : (v : Verdict) → visit_verdict ws h snapshot frame out replies ≡ v → length (by v) ≡ length snapshot
  length_by accepted e = taken_length ∙ sym (snapshot_long ws h snapshot frame out replies e)
  length_by (refused q) e = refl

  pub left_length : length left ≡ length snapshot
  unfolding visit_result
  left_length = length_by (visit_verdict ws h snapshot frame out replies) refl

  refused_by_lem : (v : Verdict) → refused_by v ≡ true → by v ≡ snapshot
  refused_by_lem accepted t = absurd (true≢false (sym t))
  refused_by_lem (refused q) t = refl

  pub refused_left : is_refused ≡ true → left ≡ snapshot
  unfolding visit_result
  refused_left = refused_by_lem (visit_verdict ws h snapshot frame out replies)

  shared_by : (v : Verdict) → visit_verdict ws h snapshot frame out replies ≡ v → refused_by v ≡ false → (c : ℕ) → Shared (plan_of ws) c
      → get_or (by v) c 0 ≡ get_or h.cells c 0
  shared_by accepted e t = shared_taken e
  shared_by (refused q) e t = absurd (true≢false t)

  pub shared_left : is_refused ≡ false → (c : ℕ) → Shared (plan_of ws) c → get_or left c 0 ≡ get_or h.cells c 0
  unfolding visit_result
  shared_left = shared_by (visit_verdict ws h snapshot frame out replies) refl

  other_by : (v : Verdict) → visit_verdict ws h snapshot frame out replies ≡ v → (c : ℕ) → (Shared (plan_of ws) c → ⊥)
      → get_or (by v) c 0 ≡ get_or snapshot c 0
  other_by accepted e c f = other_kept e c f
  other_by (refused q) e c f = refl

  pub other_left : (c : ℕ) → (Shared (plan_of ws) c → ⊥) → get_or left c 0 ≡ get_or snapshot c 0
  unfolding visit_result
  other_left = other_by (visit_verdict ws h snapshot frame out replies) refl

  -- ---- with one desk

  one_desk_by : (v : Verdict) → visit_verdict ws h snapshot frame out replies ≡ v → (plan_of ws).desks ≡ 1 → by v ≡ snapshot
  one_desk_by accepted e one =
      ext_get_or 0 taken snapshot (length_by accepted e) (λ c l. other_kept e c (one_desk_none_shared ws (plan_accepted e) one c))
  one_desk_by (refused q) e one = refl

  pub one_desk_left : (plan_of ws).desks ≡ 1 → left ≡ snapshot
  unfolding visit_result
  one_desk_left = one_desk_by (visit_verdict ws h snapshot frame out replies) refl
