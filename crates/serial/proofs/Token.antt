-- Laws of the token: the updates in it that a desk is still owed, and what a visit takes from it and adds to it.
-- Assumes nothing.
use Prim.Native.Nat.{ℕ, ◌≤◌, ◌<◌}
use mathlib.Core.Path.{◌≡◌, refl, sym, ◌∙◌, ap}
use mathlib.Core.Logic.{◌≢◌, inr}
use mathlib.Core.List.{List, [], ◌∷◌, ◌++◌}
use native.Mathlib.Omega.{arith}
use Rattle.std.proofs.lemmas.Bool.{eq-eqb, ne_eqb, lt-ltb, le-ltb}
use Rattle.lists.proofs.Laws.{by_same, by_less}
use Rattle.std.specs.List.{AllByRecursion}
use Rattle.serial.specs.Store.{Store, Update, apply_update, apply_all, Within}
use Rattle.serial.specs.Frame.{foreign, tag, untag}
use Rattle.serial.specs.System.{System, Laws}
use Rattle.serial.specs.Hearing.{OwnCell, owed}
use Rattle.serial.proofs.Stores.{apply_swap}
use Rattle.serial.proofs.Conflicts.{OutCell}

-- ---- What desk p is owed

pub owed_append : (aw : ℕ → ℕ) (p : ℕ) (us vs : List (ℕ × Update)) → owed aw p (us ++ vs) ≡ owed aw p us ++ owed aw p vs
owed_append aw p [] vs = refl
owed_append aw p (u ∷ us) vs =
    by_less (aw p) (aw u.0) (λ h. rw (lt-ltb _ _ h) (ap (λ (l : List Update). u.1 ∷ l) (owed_append aw p us vs)))
    (λ h. rw (le-ltb _ _ h) (owed_append aw p us vs))

pub owed_all : (aw : ℕ → ℕ) (q p : ℕ) (us : List Update) → aw q < aw p → owed aw q (tag p us) ≡ us
owed_all aw q p [] h = refl
owed_all aw q p (u ∷ us) h = rw (lt-ltb _ _ h) (ap (λ (l : List Update). u ∷ l) (owed_all aw q p us h))

pub owed_none : (aw : ℕ → ℕ) (p : ℕ) (us : List (ℕ × Update)) → AllByRecursion (λ (u : ℕ × Update). aw u.0 ≤ aw p) us → owed aw p us ≡ []
owed_none aw p [] h = refl
owed_none aw p (u ∷ us) h = rw (le-ltb _ _ h.0) (owed_none aw p us h.1)

-- at its own visit a desk is owed all but its own
pub owed_now : (aw : ℕ → ℕ) (p : ℕ) (us : List (ℕ × Update)) → AllByRecursion (λ (u : ℕ × Update). u.0 ≢ p → aw p < aw u.0) us →
    owed aw p us ≡ untag (foreign p us)
owed_now aw p [] h = refl
owed_now aw p (u ∷ us) h =
    by_same u.0 p (λ e. rw (eq-eqb _ _ e) (rw (le-ltb (aw p) (aw u.0) (rw e (omega arith))) (owed_now aw p us h.1)))
    (λ e. rw (ne_eqb _ _ e) (rw (lt-ltb _ _ (h.0 e)) (ap (λ (l : List Update). u.1 ∷ l) (owed_now aw p us h.1))))

-- the visit at p takes from nobody else
pub owed_later : (aw aw' : ℕ → ℕ) (p q : ℕ) (us : List (ℕ × Update)) → ((r : ℕ) → r ≢ p → aw' r ≡ aw r) → q ≢ p → aw p ≤ aw q →
    owed aw' q (foreign p us) ≡ owed aw q us
owed_later aw aw' p q [] k ne h = refl
owed_later aw aw' p q (u ∷ us) k ne h =
    by_same u.0 p (λ e. rw (eq-eqb _ _ e) (rw (le-ltb (aw q) (aw u.0) (rw e h)) (owed_later aw aw' p q us k ne h)))
    (λ e. rw (ne_eqb _ _ e, k u.0 e, k q ne, owed_later aw aw' p q us k ne h) refl)

pub all_foreign : (P : ℕ × Update → Type 0) (p : ℕ) (us : List (ℕ × Update)) → AllByRecursion P us → AllByRecursion P (foreign p us)
all_foreign P p [] h = tt
all_foreign P p (u ∷ us) h =
    by_same u.0 p (λ e. rw (eq-eqb _ _ e) (all_foreign P p us h.1)) (λ e. rw (ne_eqb _ _ e) (h.0, all_foreign P p us h.1))

pub all_tagged : (P : ℕ × Update → Type 0) (p : ℕ) (us : List Update) → AllByRecursion (λ (u : Update). P (p, u)) us
    → AllByRecursion P (tag p us)
all_tagged P p [] h = tt
all_tagged P p (u ∷ us) h = (h.0, all_tagged P p us h.1)

-- what a local of desk p writes goes past what p is owed
pub owed_past : (S : System) (L : Laws S) (aw : ℕ → ℕ) (p : ℕ) (u : Update) (us : List (ℕ × Update)) (b : Store) → Within (OwnCell S p) u →
    AllByRecursion (λ (v : ℕ × Update). Within (OutCell S v.0) v.1) us → apply_all (owed aw p us) (apply_update u b)
    ≡ apply_update u (apply_all (owed aw p us) b)
owed_past S L aw p u [] b w h = refl
owed_past S L aw p u (v ∷ us) b w h =
    by_less (aw p) (aw v.0)
    (λ l. rw (lt-ltb _ _ l)
    (ap (apply_all (owed aw p us))
    (apply_swap {P = OutCell S v.0} {Q = OwnCell S p} v.1 u b h.0 w
    (λ c o k. let e : v.0 ≡ p = sym o.1 ∙ L.local_alone k.0 k.1 c k.3 o.0 (inr o.2) ∙ k.2 in
    let z : aw v.0 ≡ aw p = ap aw e in omega arith))
    ∙ owed_past S L aw p u us (apply_update v.1 b) w h.1))
    (λ l. rw (le-ltb _ _ l) (owed_past S L aw p u us b w h.1))
