-- Updates: applying one after another, and a cell behind one.
-- Assumes nothing.
use Rattle.std.proofs.Common.{ℕ, ◌+◌, ◌≤◌, ◌<◌, ◌≡◌, refl, ◌∙◌, sym, ap, Bool, true, false, cond, eqb, arith}
use Rattle.std.proofs.Common.{Option, Some, None, [], ◌∷◌, ◌++◌, length, get_or, set, drop}
use mathlib.Core.Bool.{false≢true}
use mathlib.Core.List.{reverse}
use lib.ListN.{length-set, get_or-eq_default, drop_of_length-le}
use lib.Seq.{get_or-set_same, get_or-set_other}
use borrow.Author.Tests.{eq-eqb, eqb-true}
use Rattle.std.specs.List.{find}
use Rattle.std.proofs.lemmas.List.{drop_more}
use Rattle.std.proofs.lemmas.Grind.{reverse_onto}
use Rattle.operation.specs.Store.{Store, Update, apply_update}

pub apply_append : (u v : Update) (s : Store) → apply_update (u ++ v) s ≡ apply_update v (apply_update u s)
unfolding apply_update
apply_append [] v s = refl
apply_append (w ∷ u) v s = apply_append u v (set s w.0 w.1)

pub apply_length : (u : Update) (s : Store) → length (apply_update u s) ≡ length s
unfolding apply_update
apply_length [] s = refl
apply_length (w ∷ u) s = apply_length u (set s w.0 w.1) ∙ length-set s w.0 w.1

-- one write more is one `set` more
pub apply_one_more : (u : Update) (c v : ℕ) (s : Store) → apply_update (u ++ ((c, v) ∷ [])) s ≡ set (apply_update u s) c v
unfolding apply_update
apply_one_more u c v s = apply_append u ((c, v) ∷ []) s

-- ---- the store, pair by pair

-- pair i is written, and those behind it are still to come
pub apply_next : (i : ℕ) (u : Update) (s t r : Store) → i < length u → t ≡ set s (get_or u i (0, 0)).0 (get_or u i (0, 0)).1
    → apply_update (drop i u) s ≡ r → apply_update (drop (i + 1) u) t ≡ r
unfolding apply_update
apply_next i u s t r h e q = rw e (rw (drop_more u i (0, 0) h) at q)

pub apply_done : (i : ℕ) (u : Update) (s r : Store) → length u ≤ i → apply_update (drop i u) s ≡ r → s ≡ r
unfolding apply_update
apply_done i u s r h q = rw (drop_of_length-le u h) at q

-- ---- a cell behind an update: the value of its last pair for this cell, else that of the store

abbrev pub value_or : ℕ → Option (ℕ × ℕ) → ℕ
value_or x None = x
value_or x (Some w) = w.1

abbrev pub latest : ℕ → Update → Option (ℕ × ℕ)
latest c u = find (λ w. eqb w.0 c) (reverse u)

value_behind : (c x : ℕ) (w : ℕ × ℕ) (u : Update)
    → value_or x (find (λ v. eqb v.0 c) (u ++ w ∷ [])) ≡ value_or (cond (eqb w.0 c) w.1 x) (find (λ v. eqb v.0 c) u)
value_behind c x w [] = go (eqb w.0 c)
  where
    go : (b : Bool) → value_or x (cond b (Some w) None) ≡ cond b w.1 x
    go true = refl
    go false = refl
value_behind c x w (v ∷ u) = go (eqb v.0 c) (value_behind c x w u)
  where
    go : (b : Bool)
        → value_or x (find (λ v. eqb v.0 c) (u ++ w ∷ [])) ≡ value_or (cond (eqb w.0 c) w.1 x) (find (λ v. eqb v.0 c) u)
        → value_or x (cond b (Some v) (find (λ v. eqb v.0 c) (u ++ w ∷ [])))
        ≡ value_or (cond (eqb w.0 c) w.1 x) (cond b (Some v) (find (λ v. eqb v.0 c) u))
    go true e = refl
    go false e = e

value_set : (s : Store) (c d v : ℕ) → c < length s → cond (eqb d c) v (get_or s c 0) ≡ get_or (set s d v) c 0
value_set s c d v h = go (eqb d c) refl
  where
    go : (b : Bool) → eqb d c ≡ b → cond b v (get_or s c 0) ≡ get_or (set s d v) c 0
    go true e = rw (eqb-true d c e) (sym (get_or-set_same s c v 0 h))
    go false e = sym (get_or-set_other s d c v 0 (λ q. false≢true (sym e ∙ eq-eqb d c (sym q))))

pub seen_latest : (c : ℕ) (u : Update) (s : Store) → c < length s → value_or (get_or s c 0) (latest c u) ≡ get_or (apply_update u s) c 0
unfolding apply_update
seen_latest c [] s h = refl
seen_latest c (w ∷ u) s h =
    ap (λ t. value_or (get_or s c 0) (find (λ v. eqb v.0 c) t)) (reverse_onto u w [])
    ∙ value_behind c (get_or s c 0) w (reverse u)
    ∙ ap (λ x. value_or x (latest c u)) (value_set s c w.0 w.1 h)
    ∙ seen_latest c u (set s w.0 w.1) (omega (arith, length-set s w.0 w.1))

pub unseen : (c : ℕ) (u : Update) (s : Store) → length s ≤ c → 0 ≡ get_or (apply_update u s) c 0
unseen c u s h = sym (get_or-eq_default (apply_update u s) 0 (omega (arith, h, apply_length u s)))
