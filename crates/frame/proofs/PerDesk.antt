-- "At most 32 updates per desk": the test of the whole list, and counting one update after another.
-- Assumes nothing.
use Rattle.std.proofs.Common.{◌≡◌, ℕ, ◌+◌, ◌<◌, ◌≤◌, Bool, true, false, cond, ◌&&◌, eqb, ltb, leb, ◌⊎◌, List, [], ◌∷◌, length}
use Rattle.std.proofs.Common.{get_or, set, sym, refl, ap, ◌∙◌, subst, ap₂, inl}
use Rattle.std.proofs.Common.{inr, ⊎_elim, arith, get_or-set_other, get_or-set_same, le-ltb, lt-ltb, eqb-true, le-leb, leb-true}
use mathlib.Core.Bool.{and-false}
use borrow.Author.Tests.{lt-leb, eqb-false}
use Rattle.std.specs.List.{list_all}
use Rattle.lists.proofs.Laws.{and_fst, and_snd, all_same, member_all, by_less}
use Rattle.frame.specs.Frame.{SentUpdate}
use Rattle.frame.specs.Admission.{desk_count, few_per_desk}

-- with `s` holding a count for each desk already, no desk of the updates comes above 32
abbrev pub few_on : List ℕ → List SentUpdate → Bool
few_on s us = list_all (λ u. leb (get_or s u.desk 0 + desk_count u.desk us) 32) us

-- a test of every update's desk holds of a desk that has an update
desk_holds : (f : ℕ → Bool) (d : ℕ) (us : List SentUpdate) → list_all (λ u. f u.desk) us ≡ true → (desk_count d us ≡ 0) ⊎ (f d ≡ true)
unfolding desk_count
desk_holds f d [] e = inl refl
desk_holds f d (u ∷ us) e = go (eqb u.desk d) refl (desk_holds f d us (and_snd (f u.desk) _ e))
  where
    go : (b : Bool) → eqb u.desk d ≡ b → (desk_count d us ≡ 0) ⊎ (f d ≡ true) → (cond b 1 0 + desk_count d us ≡ 0) ⊎ (f d ≡ true)
    go true q r = inr (subst (λ (x : ℕ). f x ≡ true) (eqb-true u.desk d q) (and_fst (f u.desk) _ e))
    go false q r = ⊎_elim (λ z. inl (omega arith)) (λ t. inr t) r

pub few_counts : (us : List SentUpdate) → few_per_desk us ≡ true → (d : ℕ) → desk_count d us ≤ 32
unfolding few_per_desk
few_counts us e d =
    ⊎_elim (λ z. omega arith) (λ t. leb-true (desk_count d us) 32 t) (desk_holds (λ x. leb (desk_count x us) 32) d us e)

pub counts_few : (us : List SentUpdate) → ((d : ℕ) → desk_count d us ≤ 32) → few_per_desk us ≡ true
unfolding few_per_desk
counts_few us h = member_all (λ u. leb (desk_count u.desk us) 32) us (λ u m. le-leb (desk_count u.desk us) 32 (h u.desk))

-- ---- one update more

-- counting an update before the rest, or with it
moved : (s : List ℕ) (u : SentUpdate) (us : List SentUpdate) (d : ℕ) → u.desk < length s
    → get_or s d 0 + desk_count d (u ∷ us) ≡ get_or (set s u.desk (get_or s u.desk 0 + 1)) d 0 + desk_count d us
unfolding desk_count
moved s u us d h = go (eqb u.desk d) refl
  where
    go : (b : Bool) → eqb u.desk d ≡ b
        → get_or s d 0 + (cond b 1 0 + desk_count d us) ≡ get_or (set s u.desk (get_or s u.desk 0 + 1)) d 0 + desk_count d us
    go true q =
        let e = eqb-true u.desk d q in
        let same = get_or-set_same s u.desk (get_or s u.desk 0 + 1) 0 h in
        omega (arith, ap (λ (x : ℕ). get_or s x 0) e, ap (λ (x : ℕ). get_or (set s u.desk (get_or s u.desk 0 + 1)) x 0) e)
    go false q =
        let other = get_or-set_other s u.desk d (get_or s u.desk 0 + 1) 0 (λ z. eqb-false u.desk d q (sym z)) in
        omega arith

one_more : (c k : ℕ) → k ≡ 0 → leb (c + 1 + k) 32 ≡ ltb c 32
one_more c k z =
    by_less c 32 (λ h. le-leb (c + 1 + k) 32 (omega arith) ∙ sym (lt-ltb c 32 h))
    (λ h. lt-leb (c + 1 + k) 32 (omega arith) ∙ sym (le-ltb c 32 h))

-- the desk's count is tested before the update is counted; where the rest passes, that is as good as the whole count
first_test : (c k : ℕ) (e : Bool) → (e ≡ true → (k ≡ 0) ⊎ (leb (c + 1 + k) 32 ≡ true)) → (leb (c + 1 + k) 32 && e) ≡ (ltb c 32 && e)
first_test c k false h = and-false (leb (c + 1 + k) 32) ∙ sym (and-false (ltb c 32))
first_test c k true h =
    ap (λ (b : Bool). b && true)
    (⊎_elim (one_more c k) (λ t. t ∙ sym (lt-ltb c 32 (omega (arith, leb-true (c + 1 + k) 32 t)))) (h refl))

pub few_next : (s : List ℕ) (u : SentUpdate) (us : List SentUpdate) → u.desk < length s
    → few_on s (u ∷ us) ≡ (ltb (get_or s u.desk 0) 32 && few_on (set s u.desk (get_or s u.desk 0 + 1)) us)
few_next s u us h =
    let t = set s u.desk (get_or s u.desk 0 + 1) in
    let c = get_or s u.desk 0 in
    let k = desk_count u.desk us in
    let here : get_or t u.desk 0 ≡ c + 1 = get_or-set_same s u.desk (c + 1) 0 h in
    ap₂ ◌&&◌ (ap (λ (x : ℕ). leb x 32) (moved s u us u.desk h ∙ ap (λ (x : ℕ). x + k) here))
    (all_same _ (λ x. leb (get_or t x.desk 0 + desk_count x.desk us) 32) us
    (λ x m. ap (λ (y : ℕ). leb y 32) (moved s u us x.desk h)))
    ∙ first_test c k (few_on t us) (λ e.
    subst (λ (x : ℕ). (k ≡ 0) ⊎ (leb (x + k) 32 ≡ true)) here
    (desk_holds (λ x. leb (get_or t x 0 + desk_count x us) 32) u.desk us e))
