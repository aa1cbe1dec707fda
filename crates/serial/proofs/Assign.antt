-- A function changed at one place.
-- Assumes nothing.
use Prim.Native.Nat.{ℕ}
use mathlib.Core.Path.{◌≡◌, refl, fun_ext}
use mathlib.Core.Bool.{Bool, true, false, cond}
use lib.Dec.{eqb}
use Rattle.std.proofs.lemmas.Bool.{eq-eqb, ne_eqb}
use Rattle.lists.proofs.Laws.{by_same}
use Rattle.lists.specs.Lists.{assign}

cond_map : {A B : Type 0} (f : A → B) (b : Bool) (x y : A) → f (cond b x y) ≡ cond b (f x) (f y)
cond_map f true x y = refl
cond_map f false x y = refl

pub assign_map : {A B : Type 0} (f : A → B) (p : ℕ) (x : A) (w : ℕ → A) → (λ (q : ℕ). f (assign p x w q))
    ≡ assign p (f x) (λ (q : ℕ). f (w q))
assign_map f p x w = fun_ext (λ q. cond_map f (eqb q p) x (w q))

pub assign_same : {A : Type 0} (p : ℕ) (x : A) (w : ℕ → A) → assign p x w p ≡ x
assign_same p x w = rw (eq-eqb p p refl) refl

pub assign_self : {A : Type 0} (p : ℕ) (w : ℕ → A) → assign p (w p) w ≡ w
assign_self p w = fun_ext (λ q. by_same q p (λ e. rw (eq-eqb _ _ e) (rw e refl)) (λ e. rw (ne_eqb _ _ e) refl))
