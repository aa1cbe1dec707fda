-- Words written one after another over the front of a list, and what stood behind them.
-- Assumes nothing.
use mathlib.Core.Path.{◌≡◌, refl, ◌∙◌, sym, ap, ap₂}
use mathlib.Core.List.{List, [], ◌∷◌, ◌++◌, append_assoc}
use Prim.Native.Nat.{ℕ, suc, ◌+◌, ◌-◌, ◌≤◌, ◌<◌}
use native.Mathlib.Numerals.{add-one}
use native.Mathlib.Omega.{arith}
use lib.ListN.{length, get_or, set, drop, length-append, length-drop}
use lib.Seq.{drop-cons, set_at, append_snoc, drop-append-add, drop-drop}
use Rattle.std.proofs.lemmas.List.{get_or_append_left, get_or-append_right, get_or-drop}
use Rattle.std.specs.List.{insert}
use Rattle.std.proofs.lemmas.List.Edits.{length-insert, get_or-insert_below}
use Rattle.lists.specs.Lists.Overwritten.{overwritten}

-- one word more
pub write_next : (p o : List ℕ) (x : ℕ) → length p < length o → set (overwritten p o) (length p) x ≡ overwritten (p ++ (x ∷ [])) o
write_next p o x h =
    ap (λ (t : List ℕ). set (p ++ t) (length p) x) (drop-cons o (length p) 0 h)
    ∙ set_at p (get_or o (length p) 0) (drop (suc (length p)) o) x (length p) refl
    ∙ sym (append_snoc p x (drop (suc (length p)) o))
    ∙ ap (λ (k : ℕ). (p ++ (x ∷ [])) ++ drop k o) (sym (length-append p (x ∷ []) ∙ add-one (length p)))

-- two words more
pub write_two : (p o : List ℕ) (k x y : ℕ) → length p ≡ k → k + 1 < length o
    → set (set (overwritten p o) k x) (k + 1) y ≡ overwritten (p ++ (x ∷ y ∷ [])) o
write_two p o k x y e h =
    let q = p ++ (x ∷ []) in
    let m : k + 1 ≡ length q = omega (arith, length-append p (x ∷ [])) in
    ap₂ (λ (i j : ℕ). set (set (overwritten p o) i x) j y) (sym e) m
    ∙ ap (λ (t : List ℕ). set t (length q) y) (write_next p o x (omega arith))
    ∙ write_next q o y (omega arith)
    ∙ ap (λ (t : List ℕ). overwritten t o) (append_assoc p (x ∷ []) (y ∷ []))

pub overwritten_length : {A : Type 0} (p o : List A) → length p ≤ length o → length (overwritten p o) ≡ length o
overwritten_length p o h = simp (length-append, length-drop) (omega arith)

-- what is written over earlier words leaves none of them
pub overwritten_twice : (ws p o : List ℕ) → length p ≤ length ws → overwritten ws (overwritten p o) ≡ overwritten ws o
overwritten_twice ws p o h =
    let m = length ws - length p in
    let k : length ws ≡ length p + m = omega arith in
    ap (λ (t : List ℕ). ws ++ t)
    (ap (λ (i : ℕ). drop i (overwritten p o)) k ∙ drop-append-add p (drop (length p) o) m ∙ drop-drop m (length p) o
    ∙ ap (λ (i : ℕ). drop i o) (sym k))

-- the words in front are those that were written, and those behind stand as they stood
module _ {A : Type 0} (p o : List A) (i : ℕ) (d : A) where
  pub get_or_overwritten : i < length p → get_or (overwritten p o) i d ≡ get_or p i d
  get_or_overwritten h = get_or_append_left p (drop (length p) o) d i h

  pub get_or_behind : length p ≤ i → get_or (overwritten p o) i d ≡ get_or o i d
  get_or_behind h =
      get_or-append_right p (drop (length p) o) (length p) i d refl h
      ∙ get_or-drop (length p) o (i - length p) d ∙ ap (λ (k : ℕ). get_or o k d) (omega arith)

-- before an element that is put in
pub get_or_insert_before : {A : Type 0} (xs : List A) (i : ℕ) (o : List A) (x : A) (j : ℕ) (d : A) → i ≤ length xs → j < i
    → get_or (overwritten (insert xs i x) o) j d ≡ get_or xs j d
get_or_insert_before xs i o x j d h l =
    get_or_overwritten (insert xs i x) o j d (omega (arith, length-insert xs i x h)) ∙ get_or-insert_below xs i x d j l h
