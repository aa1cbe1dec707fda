-- Visits in the order of their numbers: the desks of n successive ones differ, so a visit drops just the oldest of the last n.
-- Assumes nothing.
use Prim.Native.Nat.{ℕ, zero, suc, ◌+◌, ◌-◌, ◌*◌, ◌/◌, ◌%◌, ◌<◌}
use mathlib.Core.Path.{◌≡◌, refl, sym, ◌∙◌, ap}
use mathlib.Core.Logic.{◌≢◌}
use mathlib.Core.List.{List, [], ◌∷◌, ◌++◌, append_assoc, append-nil}
use native.Mathlib.Omega.{arith}
use native.Mathlib.Nat.{div-add-mod', mul-le-mul_right, add-mod_right, suc-mul, add-zero}
use lib.ListN.{length, drop, get_or, length-append, length-drop}
use lib.Seq.{drop-append-le, drop-cons}
use Rattle.std.proofs.lemmas.Bool.{eq-eqb, ne_eqb}
use Rattle.lists.proofs.Laws.{by_same, by_less}
use Rattle.std.specs.List.{AllByRecursion}
use Rattle.serial.specs.Store.{Update}
use Rattle.serial.specs.Frame.{foreign}
use Rattle.serial.specs.Visits.{Visit, appended, last_of}
use Rattle.serial.proofs.Turns.{MarkedBy, Entry}

-- ---- dropping a desk's updates

pub foreign_append : (p : ℕ) (us vs : List (ℕ × Update)) → foreign p (us ++ vs) ≡ foreign p us ++ foreign p vs
foreign_append p [] vs = refl
foreign_append p (u ∷ us) vs =
    by_same u.0 p (λ e. rw (eq-eqb _ _ e) (foreign_append p us vs))
    (λ e. rw (ne_eqb _ _ e) (ap (λ (l : List (ℕ × Update)). u ∷ l) (foreign_append p us vs)))

foreign_own : (p : ℕ) (us : List (ℕ × Update)) → AllByRecursion (MarkedBy p) us → foreign p us ≡ []
foreign_own p [] h = refl
foreign_own p (u ∷ us) h = rw (eq-eqb _ _ h.0) (foreign_own p us h.1)

foreign_other : (p q : ℕ) (us : List (ℕ × Update)) → q ≢ p → AllByRecursion (MarkedBy q) us → foreign p us ≡ us
foreign_other p q [] ne h = refl
foreign_other p q (u ∷ us) ne h =
    rw (ne_eqb _ _ (λ (e : u.0 ≡ p). ne (sym h.0 ∙ e))) (ap (λ (l : List (ℕ × Update)). u ∷ l) (foreign_other p q us ne h.1))

pub appended_append : (us vs : List Visit) → appended (us ++ vs) ≡ appended us ++ appended vs
appended_append [] vs = refl
appended_append (u ∷ us) vs = rw (appended_append us vs) (sym (append_assoc u.updates (appended us) (appended vs)))

-- ---- fewer than n apart, numbers differ modulo n

far_apart : (n a b r : ℕ) → a * n + r < b * n + r → b * n + r < a * n + r + n → ⊥
far_apart n a b r h l =
    by_less a b (λ k. omega (arith, suc-mul a n, mul-le-mul_right {m = suc a} {n = b} n k))
    (λ k. omega (arith, mul-le-mul_right {m = b} {n = a} n k))

pub mod_apart : (n i v : ℕ) → i < v → v < i + n → i % n ≢ v % n
mod_apart n i v h l e = far_apart n (i / n) (v / n) (v % n) (omega (arith, div-add-mod' i n, div-add-mod' v n))
    (omega (arith, div-add-mod' i n, div-add-mod' v n))

module _ (n : ℕ) where
  -- numbered k, k + 1, .. in order
  abbrev pub Numbered : ℕ → List Visit → Type 0
  Numbered k [] = Unit {0}
  Numbered k (v ∷ vs) = Entry n k v × Numbered (suc k) vs

  pub numbered_append : (k : ℕ) (vs us : List Visit) → Numbered k vs → Numbered (k + length vs) us → Numbered k (vs ++ us)
  numbered_append k [] us h l = rw add-zero at l
  numbered_append k (v ∷ vs) us h l =
      (h.0, numbered_append (suc k) vs us h.1 (let e : k + suc (length vs) ≡ suc k + length vs = omega arith in rw e at l))

  numbered_drop : (j k : ℕ) (vs : List Visit) → Numbered k vs → Numbered (k + j) (drop j vs)
  numbered_drop zero k vs h = rw add-zero h
  numbered_drop (suc j) k [] h = tt
  numbered_drop (suc j) k (v ∷ vs) h = let e : k + suc j ≡ suc k + j = omega arith in rw e (numbered_drop j (suc k) vs h.1)

  pub numbered_at : (k : ℕ) (vs : List Visit) (i : ℕ) (d : Visit) → Numbered k vs → i < length vs → Entry n (k + i) (get_or vs i d)
  numbered_at k [] i d h l = absurd (omega arith)
  numbered_at k (v ∷ vs) zero d h l = rw add-zero h.0
  numbered_at k (v ∷ vs) (suc i) d h l =
      let e : k + suc i ≡ suc k + i = omega arith in
      rw e (numbered_at (suc k) vs i d h.1 (omega arith))

  -- a visit at the desk of number v drops nothing of the fewer than n visits before it
  foreign_all : (k v : ℕ) (vs : List Visit) → Numbered k vs → k + length vs ≡ v → v < k + n → foreign (v % n) (appended vs) ≡ appended vs
  foreign_all k v [] h e l = refl
  foreign_all k v (x ∷ vs) h e l =
      foreign_append (v % n) x.updates (appended vs)
      ∙ rw (
        foreign_other (v % n) x.desk x.updates (λ i. mod_apart n k v (omega arith) l (sym h.0.desk_is ∙ i)) h.0.marked,
        foreign_all (suc k) v vs h.1 (omega arith) (omega arith),
      )
      refl

  module _ (list_any : 0 < n) (vs : List Visit) (h : Numbered 0 vs) where
    abbrev v : ℕ
    v = length vs

    -- the last n without those of the desk of the next visit
    pub drops_oldest : foreign (v % n) (appended (last_of n vs)) ≡ appended (drop (suc v - n) vs)
    drops_oldest =
        by_less v n
        (λ l. let a : v - n ≡ 0 = omega arith in
        let c : suc v - n ≡ 0 = omega arith in
        rw (a, c) (foreign_all 0 v vs h (omega arith) (omega arith)))
        (λ l. let d : Visit = record { desk = 0; number = 0; updates = [] } in
        let i : ℕ = v - n in
        let c : suc v - n ≡ suc i = omega arith in
        let x : Visit = get_or vs i d in
        let e : Entry n (0 + i) x = numbered_at 0 vs i d h (omega arith) in
        let z : 0 + i + n ≡ v = omega arith in
        let q : x.desk ≡ v % n = e.desk_is ∙ sym (add-mod_right (0 + i) n) ∙ ap (λ (y : ℕ). y % n) z in
        rw (drop-cons vs i d (omega arith), c)
        (foreign_append (v % n) x.updates (appended (drop (suc i) vs))
        ∙ rw (
          foreign_own (v % n) x.updates (rw q at e.marked),
          foreign_all (0 + suc i) v (drop (suc i) vs) (numbered_drop (suc i) 0 vs h) (omega (arith, length-drop (suc i) vs)) (omega arith),
        )
        refl))

    -- and with the next visit behind them they are again the last n
    pub carries_on : (x : Visit) → x.desk ≡ v % n →
        foreign x.desk (appended (last_of n vs)) ++ x.updates ≡ appended (last_of n (vs ++ (x ∷ [])))
    carries_on x e =
        let k : ℕ = suc v - n in
        let c : length (vs ++ (x ∷ [])) - n ≡ k = omega (arith, length-append vs (x ∷ [])) in
        ap (λ (l : List (ℕ × Update)). l ++ x.updates) (ap (λ (q : ℕ). foreign q (appended (last_of n vs))) e ∙ drops_oldest)
        ∙ ap (λ (l : List (ℕ × Update)). appended (drop k vs) ++ l) (sym (append-nil x.updates))
        ∙ sym (appended_append (drop k vs) (x ∷ []))
        ∙ ap appended (sym (drop-append-le k vs (x ∷ []) (omega arith)))
        ∙ ap (λ (i : ℕ). appended (drop i (vs ++ (x ∷ [])))) (sym c)
