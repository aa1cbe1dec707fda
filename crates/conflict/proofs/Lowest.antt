-- The lowest number below a bound that passes a test, as the library's words find it.
--     found_lowest       what `find` over a range gives
--     position_lowest    the first place of a list
--     least_is           the least of the elements of a list that pass
-- Assumes nothing.
use mathlib.Core.Path.{◌≡◌, refl, ◌∙◌, sym, ap, subst}
use mathlib.Core.Bool.{Bool, true, false, ◌&&◌, cond, false≢true}
use mathlib.Core.List.Memᴰ
use mathlib.Core.List.{List, [], ◌∷◌, Memᴰ}
use Prim.Native.Nat.{ℕ, ◌≤◌, ◌<◌, min}
use native.Mathlib.Omega.{arith}
use lib.Dec.{eqb}
use lib.ListN.{length, get_or}
use borrow.Author.Tests.{eqb-true, lt-ltb, le-ltb}
use Rattle.std.proofs.Common.{Option, Some, None, MatchOption}
use Rattle.std.specs.List.{list_any, filter, fold, reduce, position_or_len}
use Rattle.std.proofs.Math.Nat.{min-le_left, min-le_right}
use Rattle.std.proofs.lemmas.List.Sums.{position_or_len_is}
use Rattle.lists.specs.Lists.{lowest_below}
use Rattle.std.proofs.lemmas.Bool.{and_from, eq-eqb}
use Rattle.lists.proofs.Laws.{and_fst, and_snd, by_less, any_member, member_any, filter_member}
use Rattle.lists.proofs.Laws.{lowest_below_is, lowest_below_past, lowest_below_le, lowest_below_fails, lowest_below_passes}
use Rattle.conflict.specs.Cause.{if_below}

pub found_lowest : (n : ℕ) (f : ℕ → Bool) (r : Option ℕ)
    → MatchOption r ((k : ℕ) → 0 ≤ k → k < n → f k ≡ false)
    (λ i. (0 ≤ i) × (i < n) × (f i ≡ true) × ((k : ℕ) → 0 ≤ k → k < i → f k ≡ false))
    → r ≡ if_below n (lowest_below n f)
found_lowest n f None h = rw (lowest_below_past n f (λ i l. h i (omega arith) l), le-ltb n n (omega arith)) refl
found_lowest n f (Some i) h =
    rw (lowest_below_is n f i h.1 h.2 (λ k l. h.3 k (omega arith) l), lt-ltb i n h.1) refl

pub position_lowest : {A : Type 0} (f : A → Bool) (xs : List A) (d : A)
    → position_or_len f xs ≡ lowest_below (length xs) (λ k. f (get_or xs k d))
position_lowest f xs d =
    let test = λ (k : ℕ). f (get_or xs k d) in
    position_or_len_is f xs (lowest_below (length xs) test) d (lowest_below_le (length xs) test) (lowest_below_fails (length xs) test)
    (lowest_below_passes (length xs) test)

-- ---- the least of a list

least_member : (x : ℕ) (xs : List ℕ) → Memᴰ (fold min x xs) (x ∷ xs)
least_member x [] = Memᴰ.head refl
least_member x (y ∷ ys) = go (least_member (min x y) ys)
  where
    go : Memᴰ (fold min (min x y) ys) (min x y ∷ ys) → Memᴰ (fold min (min x y) ys) (x ∷ y ∷ ys)
    go (Memᴰ.head e) = by_less x y (λ h. Memᴰ.head (omega (arith, e))) (λ h. Memᴰ.tail (Memᴰ.head (omega (arith, e))))
    go (Memᴰ.tail m) = Memᴰ.tail (Memᴰ.tail m)

least_least : (x : ℕ) (xs : List ℕ) (c : ℕ) → Memᴰ c (x ∷ xs) → fold min x xs ≤ c
least_least x [] c (Memᴰ.head e) = omega (arith, e)
least_least x [] c (Memᴰ.tail m) = absurd (Memᴰ.not-nil m)
least_least x (y ∷ ys) c (Memᴰ.head e) = omega (arith, e, least_least (min x y) ys (min x y) (Memᴰ.head refl), min-le_left x y)
least_least x (y ∷ ys) c (Memᴰ.tail (Memᴰ.head e)) =
    omega (arith, e, least_least (min x y) ys (min x y) (Memᴰ.head refl), min-le_right x y)
least_least x (y ∷ ys) c (Memᴰ.tail (Memᴰ.tail m)) = least_least (min x y) ys c (Memᴰ.tail m)

-- ---- of those that pass

module _ (f : ℕ → Bool) where
  kept_passes : (c : ℕ) (cs : List ℕ) → Memᴰ c (filter f cs) → f c ≡ true
  kept_passes c [] m = absurd (Memᴰ.not-nil m)
  kept_passes c (b ∷ bs) m = go (f b) refl m (kept_passes c bs)
    where
      go : (y : Bool) → f b ≡ y → Memᴰ c (cond y (b ∷ filter f bs) (filter f bs)) → (Memᴰ c (filter f bs) → f c ≡ true) → f c ≡ true
      go true e (Memᴰ.head p) r = ap f p ∙ e
      go true e (Memᴰ.tail q) r = r q
      go false e q r = r q

  passes_kept : (c : ℕ) (cs : List ℕ) → Memᴰ c cs → f c ≡ true → Memᴰ c (filter f cs)
  passes_kept c [] m e = absurd (Memᴰ.not-nil m)
  passes_kept c (b ∷ bs) (Memᴰ.head p) e = go (f b) (ap f (sym p) ∙ e)
    where
      go : (y : Bool) → y ≡ true → Memᴰ c (cond y (b ∷ filter f bs) (filter f bs))
      go true q = Memᴰ.head p
      go false q = absurd (false≢true q)
  passes_kept c (b ∷ bs) (Memᴰ.tail m) e = go (f b) (passes_kept c bs m e)
    where
      go : (y : Bool) → Memᴰ c (filter f bs) → Memᴰ c (cond y (b ∷ filter f bs) (filter f bs))
      go true q = Memᴰ.tail q
      go false q = q

-- g is the test on cells that are below n
module _ (n : ℕ) (f g : ℕ → Bool) (cs : List ℕ) (low : (c : ℕ) → Memᴰ c cs → c < n) (same : (c : ℕ) → Memᴰ c cs → g c ≡ f c) where
  abbrev passes : ℕ → Bool
  passes c = list_any (eqb c) cs && f c

  kept : (c : ℕ) → passes c ≡ true → Memᴰ c (filter g cs)
  kept c e =
      let m = any_member (eqb c) cs (and_fst (list_any (eqb c) cs) (f c) e) in
      let i : Memᴰ c cs = subst (λ (x : ℕ). Memᴰ x cs) (sym (eqb-true c m.0 m.2)) m.1 in
      passes_kept g c cs i (same c i ∙ and_snd (list_any (eqb c) cs) (f c) e)

  fails_unless : (c : ℕ) → (Memᴰ c (filter g cs) → ⊥) → passes c ≡ false
  fails_unless c none = go (passes c) refl
    where
      go : (b : Bool) → passes c ≡ b → b ≡ false
      go true e = absurd (none (kept c e))
      go false e = refl

  pub least_is : reduce min (filter g cs) ≡ if_below n (lowest_below n passes)
  least_is = go (filter g cs) refl
    where
      go : (ks : List ℕ) → filter g cs ≡ ks → reduce min ks ≡ if_below n (lowest_below n passes)
      go [] e =
          rw (lowest_below_past n passes (λ i l. fails_unless i (λ m. Memᴰ.not-nil (rw e at m))), le-ltb n n (omega arith)) refl
      go (x ∷ xs) e =
          let least = fold min x xs in
          let m : Memᴰ least (filter g cs) = rw e (least_member x xs) in
          let i = filter_member g least cs m in
          let p : passes least ≡ true =
          and_from _ _ (member_any (eqb least) least cs i (eq-eqb least least refl)) (sym (same least i) ∙ kept_passes g least cs m) in
          rw (
            lowest_below_is n passes least (low least i) p
                (λ k l. fails_unless k (λ h. omega (arith, l, least_least x xs k (rw e at h)))),
            lt-ltb least n (low least i),
          ) refl
