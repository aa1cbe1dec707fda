-- Laws of putting in order by a key: the front of a list up to a key, what lies beyond, and one more element.
-- Assumes nothing.
use Prim.Native.Nat.{ℕ, ◌≤◌, ◌<◌}
use mathlib.Core.Path.{◌≡◌, refl, sym, ◌∙◌, ap}
use mathlib.Core.List.{List, [], ◌∷◌, ◌++◌}
use native.Mathlib.Omega.{arith}
use Rattle.std.proofs.lemmas.Bool.{lt-ltb, le-ltb}
use Rattle.lists.proofs.Laws.{by_less, All_append}
use Rattle.std.specs.List.{AllByRecursion}
use Rattle.serial.specs.Order.{upto, beyond, insert, sort_onto}

module _ {A : Type 0} (key : A → ℕ) where
  abbrev pub Low : ℕ → A → Type 0
  Low k e = key e ≤ k

  pub upto_beyond : (k : ℕ) (es : List A) → upto key k es ++ beyond key k es ≡ es
  upto_beyond k [] = refl
  upto_beyond k (e ∷ es) =
      by_less k (key e) (λ h. rw (lt-ltb _ _ h))
      (λ h. rw (le-ltb _ _ h) (ap (λ (l : List A). e ∷ l) (upto_beyond k es)))

  pub upto_low : (j k : ℕ) (es : List A) → j ≤ k → AllByRecursion (Low k) (upto key j es)
  upto_low j k [] h = tt
  upto_low j k (e ∷ es) h =
      by_less j (key e) (λ l. rw (lt-ltb _ _ l) tt)
      (λ l. rw (le-ltb _ _ l) (omega arith, upto_low j k es h))

  pub upto_of_beyond : (k : ℕ) (es : List A) → upto key k (beyond key k es) ≡ []
  upto_of_beyond k [] = refl
  upto_of_beyond k (e ∷ es) = by_less k (key e) (λ h. rw (lt-ltb _ _ h) (rw (lt-ltb _ _ h) refl)) (λ h. rw (le-ltb _ _ h)
      (upto_of_beyond k es))

  -- what lies past k and stands behind changes nothing up to k
  pub upto_append : (k : ℕ) (xs ys : List A) → AllByRecursion (λ (e : A). k < key e) ys → upto key k (xs ++ ys) ≡ upto key k xs
  upto_append k [] [] h = refl
  upto_append k [] (y ∷ ys) h = rw (lt-ltb _ _ h.0) refl
  upto_append k (x ∷ xs) ys h =
      by_less k (key x) (λ l. rw (lt-ltb _ _ l) refl) (λ l. rw (le-ltb _ _ l) (ap (λ (r : List A). x ∷ r) (upto_append k xs ys h)))

  pub upto_front : (k : ℕ) (xs ys : List A) → AllByRecursion (Low k) xs → upto key k (xs ++ ys) ≡ xs ++ upto key k ys
  upto_front k [] ys h = refl
  upto_front k (x ∷ xs) ys h = rw (le-ltb _ _ h.0) (ap (λ (l : List A). x ∷ l) (upto_front k xs ys h.1))

  pub beyond_front : (k : ℕ) (xs ys : List A) → AllByRecursion (Low k) xs → beyond key k (xs ++ ys) ≡ beyond key k ys
  beyond_front k [] ys h = refl
  beyond_front k (x ∷ xs) ys h = rw (le-ltb _ _ h.0) (beyond_front k xs ys h.1)

  pub upto_whole : (k : ℕ) (xs : List A) → AllByRecursion (Low k) xs → upto key k xs ≡ xs
  upto_whole k [] h = refl
  upto_whole k (x ∷ xs) h = rw (le-ltb _ _ h.0) (ap (λ (l : List A). x ∷ l) (upto_whole k xs h.1))

  pub beyond_none : (k : ℕ) (xs : List A) → AllByRecursion (Low k) xs → beyond key k xs ≡ []
  beyond_none k [] h = refl
  beyond_none k (x ∷ xs) h = rw (le-ltb _ _ h.0) (beyond_none k xs h.1)

  pub all_upto : (P : A → Type 0) (k : ℕ) (es : List A) → AllByRecursion P es → AllByRecursion P (upto key k es)
  all_upto P k [] h = tt
  all_upto P k (e ∷ es) h =
      by_less k (key e) (λ l. rw (lt-ltb _ _ l) tt)
      (λ l. rw (le-ltb _ _ l) (h.0, all_upto P k es h.1))

  pub all_beyond : (P : A → Type 0) (k : ℕ) (es : List A) → AllByRecursion P es → AllByRecursion P (beyond key k es)
  all_beyond P k [] h = tt
  all_beyond P k (e ∷ es) h =
      by_less k (key e) (λ l. rw (lt-ltb _ _ l) h)
      (λ l. rw (le-ltb _ _ l) (all_beyond P k es h.1))

  pub beyond_mono : (P : A → Type 0) (j k : ℕ) (es : List A) → j ≤ k → AllByRecursion P (beyond key j es)
      → AllByRecursion P (beyond key k es)
  beyond_mono P j k [] h a = tt
  beyond_mono P j k (e ∷ es) h a =
      by_less j (key e) (λ l. all_beyond P k (e ∷ es) (rw (lt-ltb _ _ l) at a))
      (λ l. rw (le-ltb k (key e) (omega arith)) (beyond_mono P j k es h (rw (le-ltb _ _ l) at a)))

  pub beyond_append : (P : A → Type 0) (k : ℕ) (xs ys : List A) → AllByRecursion P (beyond key k xs) → AllByRecursion P ys
      → AllByRecursion P (beyond key k (xs ++ ys))
  beyond_append P k [] ys h a = all_beyond P k ys a
  beyond_append P k (x ∷ xs) ys h a =
      by_less k (key x) (λ l. rw (lt-ltb _ _ l) (All_append P (x ∷ xs) ys (rw (lt-ltb _ _ l) at h) a))
      (λ l. rw (le-ltb _ _ l) (beyond_append P k xs ys (rw (le-ltb _ _ l) at h) a))

  beyond_upto : (P : A → Type 0) (j k : ℕ) (es : List A) → AllByRecursion P (beyond key k es)
      → AllByRecursion P (beyond key k (upto key j es))
  beyond_upto P j k [] h = tt
  beyond_upto P j k (e ∷ es) h =
      by_less j (key e) (λ l. rw (lt-ltb _ _ l) tt)
      (λ l. by_less k (key e) (λ m. rw (le-ltb _ _ l)
      (all_beyond P k (e ∷ upto key j es) (let a : AllByRecursion P (e ∷ es) = rw (lt-ltb _ _ m) at h in (a.0, all_upto P j es a.1))))
      (λ m. rw (le-ltb _ _ l) (rw (le-ltb _ _ m) (beyond_upto P j k es (rw (le-ltb _ _ m) at h)))))

  -- ---- One more, e

  pub upto_insert_lo : (k : ℕ) (e : A) (es : List A) → k < key e → upto key k (insert key e es) ≡ upto key k es
  upto_insert_lo k e [] h = rw (lt-ltb _ _ h)
  upto_insert_lo k e (x ∷ xs) h =
      by_less (key e) (key x) (λ l. rw (lt-ltb _ _ l) (rw (lt-ltb _ _ h) (rw (lt-ltb k (key x) (omega arith)) refl)))
      (λ l. by_less k (key x) (λ m. rw (le-ltb _ _ l) (rw (lt-ltb _ _ m) refl))
      (λ m. rw (le-ltb _ _ l) (rw (le-ltb _ _ m) (ap (λ (r : List A). x ∷ r) (upto_insert_lo k e xs h)))))

  pub upto_insert_hi : (k : ℕ) (e : A) (es : List A) → key e ≤ k →
      upto key k (insert key e es) ≡ upto key (key e) es ++ (e ∷ upto key k (beyond key (key e) es))
  upto_insert_hi k e es h =
      upto_front k (upto key (key e) es) (e ∷ beyond key (key e) es) (upto_low (key e) k es h) ∙ rw (le-ltb _ _ h) refl

  pub upto_split : (j k : ℕ) (es : List A) → j ≤ k → upto key k es ≡ upto key j es ++ upto key k (beyond key j es)
  upto_split j k es h = ap (upto key k) (sym (upto_beyond j es)) ∙ upto_front k (upto key j es) (beyond key j es) (upto_low j k es h)

  pub beyond_insert_hi : (k : ℕ) (e : A) (es : List A) → key e ≤ k → beyond key k (insert key e es) ≡ beyond key k es
  beyond_insert_hi k e es h =
      beyond_front k (upto key (key e) es) (e ∷ beyond key (key e) es) (upto_low (key e) k es h)
      ∙ rw (le-ltb _ _ h) (sym (beyond_front k (upto key (key e) es) (beyond key (key e) es) (upto_low (key e) k es h))
      ∙ ap (beyond key k) (upto_beyond (key e) es))

  pub beyond_insert : (P : A → Type 0) (k : ℕ) (e : A) (es : List A) → P e → AllByRecursion P (beyond key k es) →
      AllByRecursion P (beyond key k (insert key e es))
  beyond_insert P k e es p a =
      by_less k (key e) (λ h. beyond_append P k (upto key (key e) es) (e ∷ beyond key (key e) es) (beyond_upto P (key e) k es a)
      (p, beyond_mono P k (key e) es (omega arith) a))
      (λ h. rw (beyond_insert_hi k e es h) a)

  pub All_insert : (P : A → Type 0) (e : A) (es : List A) → P e → AllByRecursion P es → AllByRecursion P (insert key e es)
  All_insert P e es p a = All_append P (upto key (key e) es) (e ∷ beyond key (key e) es) (all_upto P (key e) es a)
      (p, all_beyond P (key e) es a)

  pub insert_last : (e : A) (es : List A) → AllByRecursion (Low (key e)) es → insert key e es ≡ es ++ (e ∷ [])
  insert_last e es h = rw (upto_whole (key e) es h, beyond_none (key e) es h) refl

  pub sort_onto_append : (es xs ys : List A) → sort_onto key es (xs ++ ys) ≡ sort_onto key (sort_onto key es xs) ys
  sort_onto_append es [] ys = refl
  sort_onto_append es (x ∷ xs) ys = sort_onto_append (insert key x es) xs ys

  pub all_sort : (P : A → Type 0) (es fs : List A) → AllByRecursion P es → AllByRecursion P fs → AllByRecursion P (sort_onto key es fs)
  all_sort P es [] a b = a
  all_sort P es (f ∷ fs) a b = all_sort P (insert key f es) fs (All_insert P f es b.0 a) b.1
