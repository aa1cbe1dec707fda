-- Laws of stores and updates that name no system.
-- Assumes nothing.
use Prim.Native.Nat.{ℕ, ◌≤◌, ◌<◌}
use mathlib.Core.Path.{◌≡◌, refl, sym, ◌∙◌, ap}
use mathlib.Core.Logic.{◌≢◌, ◌⊎◌, inl, inr}
use mathlib.Core.List.{List, [], ◌∷◌, ◌++◌}
use native.Mathlib.Omega.{arith}
use lib.ListN.{length, get_or, set, length-set}
use lib.Seq.{get_or-set_same, get_or-set_other, set_out, set_comm}
use Rattle.std.proofs.lemmas.Bool.{cases_eq, cases_lt}
use Rattle.serial.specs.Store.{Store, Update, apply_update, apply_all, Same, Within}

-- ---- Two stores that agree

pub Same_refl : (P : ℕ → Type 0) (a : Store) → Same P a a
Same_refl P a = (refl, λ c h. refl)

pub Same_sym : {P : ℕ → Type 0} (a b : Store) → Same P a b → Same P b a
Same_sym a b s = (sym s.0, λ c h. sym (s.1 c h))

pub Same_trans : {P : ℕ → Type 0} (a b d : Store) → Same P a b → Same P b d → Same P a d
Same_trans a b d s t = (s.0 ∙ t.0, λ c h. s.1 c h ∙ t.1 c h)

pub Same_part : {P Q : ℕ → Type 0} (a b : Store) → ((c : ℕ) → Q c → P c) → Same P a b → Same Q a b
Same_part a b f s = (s.0, λ c h. s.1 c (f c h))

set_cell : (a b : Store) (i v c : ℕ) → length a ≡ length b → get_or a c 0 ≡ get_or b c 0 → get_or (set a i v) c 0 ≡ get_or (set b i v) c 0
set_cell a b i v c l h = go (cases_eq c i) (cases_lt i (length a))
  where
    go : (c ≡ i) ⊎ (c ≢ i) → (i < length a) ⊎ (length a ≤ i) → get_or (set a i v) c 0 ≡ get_or (set b i v) c 0
    go (inl e) (inl k) = rw e (get_or-set_same a i v 0 k ∙ sym (get_or-set_same b i v 0 (omega arith)))
    go (inl e) (inr k) = rw (set_out a i v, set_out b i v (omega arith)) h
    go (inr e) k = get_or-set_other a i c v 0 e ∙ h ∙ sym (get_or-set_other b i c v 0 e)

pub apply_same : {P : ℕ → Type 0} (u : Update) (a b : Store) → Same P a b → Same P (apply_update u a) (apply_update u b)
apply_same [] a b s = s
apply_same (w ∷ u) a b s =
    apply_same u (set a w.0 w.1) (set b w.0 w.1)
    (simp length-set s.0, λ c h. set_cell a b w.0 w.1 c s.0 (s.1 c h))

pub apply_all_same : {P : ℕ → Type 0} (us : List Update) (a b : Store) → Same P a b → Same P (apply_all us a) (apply_all us b)
apply_all_same [] a b s = s
apply_all_same (u ∷ us) a b s = apply_all_same us (apply_update u a) (apply_update u b) (apply_same u a b s)

-- a write outside P is not seen in P
pub apply_off : {P Q : ℕ → Type 0} (u : Update) (a : Store) → Within Q u → ((c : ℕ) → P c → Q c → ⊥) → Same P (apply_update u a) a
apply_off [] a q f = (refl, λ c h. refl)
apply_off {P} {Q} (w ∷ u) a q f =
    Same_trans (apply_update u (set a w.0 w.1)) (set a w.0 w.1) a (apply_off u (set a w.0 w.1) q.1 f)
    (length-set a w.0 w.1, λ c h. get_or-set_other a w.0 c w.1 0 (λ e. f c h (rw e q.0)))

set_apply : (Q : ℕ → Type 0) (u : Update) (i v : ℕ) (a : Store) → Within Q u → (Q i → ⊥) → apply_update u (set a i v)
    ≡ set (apply_update u a) i v
set_apply Q [] i v a q f = refl
set_apply Q (w ∷ u) i v a q f =
    ap (apply_update u) (set_comm a i w.0 v w.1 (λ e. f (rw e q.0))) ∙ set_apply Q u i v (set a w.0 w.1) q.1 f

-- two writes to different cells may change places
pub apply_swap : {P Q : ℕ → Type 0} (u v : Update) (a : Store) → Within P u → Within Q v → ((c : ℕ) → P c → Q c → ⊥) →
    apply_update u (apply_update v a) ≡ apply_update v (apply_update u a)
apply_swap u [] a p q f = refl
apply_swap {P} u (w ∷ v) a p q f =
    apply_swap u v (set a w.0 w.1) p q.1 f ∙ ap (apply_update v) (set_apply P u w.0 w.1 a p (λ h. f w.0 h q.0))

pub apply_all_append : (us vs : List Update) (s : Store) → apply_all (us ++ vs) s ≡ apply_all vs (apply_all us s)
apply_all_append [] vs s = refl
apply_all_append (u ∷ us) vs s = apply_all_append us vs (apply_update u s)

pub Within_part : (P Q : ℕ → Type 0) (u : Update) → ((c : ℕ) → P c → Q c) → Within P u → Within Q u
Within_part P Q [] f h = tt
Within_part P Q (w ∷ u) f h = (f w.0 h.0, Within_part P Q u f h.1)
