-- The outgoing frame put together in the outgoing words: the others' updates from word 2 on, the desk's own behind them, the seal around.
-- Assumes nothing.
use mathlib.Core.Path.{◌≡◌, refl, ◌∙◌, sym, ap, ap₂}
use mathlib.Core.List.{List, [], ◌∷◌, ◌++◌, append-nil, append_assoc}
use Prim.Native.Nat.{ℕ, ◌+◌, ◌-◌, ◌≤◌}
use native.Mathlib.Omega.{arith}
use lib.ListN.{length, take, drop, length-append, take-append-drop}
use lib.Seq.{length-take-le, take_at, drop_at}
use borrow.Rule.Slice.PartMut.{put_mid}
use Rattle.lists.specs.Lists.{overwritten}
use Rattle.std.proofs.lemmas.List.{take_rest}
use Rattle.lists.proofs.Laws.{overwritten_twice, Filling, fill_length, fill_part, fill_done, fill_same, put_remainder}
use Rattle.frame.specs.Frame.{frame_head, sums_of, frame_around}

pub frame_length_lem : (d v : ℕ) (body : List ℕ) → length (frame_around d v body) ≡ length body + 4
unfolding frame_around
frame_length_lem d v body =
    let ws = frame_head d (length body + 4) ∷ v ∷ body in
    length-append ws ((sums_of ws).0 ∷ (sums_of ws).1 ∷ []) ∙ omega arith

-- words 0 and 1 stand already
from_two : (o body : List ℕ) → 2 ≤ length o → Filling (take 2 o ++ body) o o 2 body
from_two o body h =
    let n : length (take 2 o) ≡ 2 = length-take-le 2 o h in
    record { front = take 2 o; words = sym (take-append-drop 2 o) ∙ ap (λ (i : ℕ). take 2 o ++ drop i o) (sym n); size = n; joined = refl }

-- the others' words are copied behind words 0 and 1, and the desk's own have room behind them
pub record Copied (o F U o₁ : List ℕ) (copied : ℕ) : Type 0 where
  pub room : 2 + length (F ++ U) + 2 ≤ length o
  pub count : copied ≡ 2 + length F
  pub words : o₁ ≡ put_mid 2 (length o - 2) o (overwritten F (take (length o - 2) (drop 2 o)))

-- and its own are written there
pub record Joined (o F U o₁ : List ℕ) (copied : ℕ) (o₂ : List ℕ) (end : ℕ) : Type 0 where
  pub before : Copied o F U o₁ copied
  pub count : end ≡ copied + length U
  pub words : o₂ ≡ put_mid copied (length o₁ - copied) o₁ (overwritten U (take (length o₁ - copied) (drop copied o₁)))

module _ {o F U o₁ : List ℕ} {copied : ℕ} where
  copied_in : Copied o F U o₁ copied → Filling (take 2 o ++ (F ++ U)) o o₁ copied U
  copied_in c =
      rw (c.words, c.count, put_remainder o (overwritten F (take (length o - 2) (drop 2 o))) 2, take_rest o 2)
      (fill_part F (from_two o (F ++ U) (omega (arith, c.room))))

  two : Copied o F U o₁ copied → length (take 2 o) ≡ 2
  two c = length-take-le 2 o (omega (arith, c.room))

  enough : Copied o F U o₁ copied → length (take 2 o ++ (F ++ U)) ≤ length o
  enough c = omega (arith, two c, c.room, length-append (take 2 o) (F ++ U))

  pub copied_length : Copied o F U o₁ copied → length o₁ ≡ length o
  copied_length c = fill_length (copied_in c) (enough c)

  pub copied_room : Copied o F U o₁ copied → copied + length U + 2 ≤ length o
  copied_room c = omega (arith, c.room, c.count, length-append F U)

  module _ {o₂ : List ℕ} {end : ℕ} (j : Joined o F U o₁ copied o₂ end) where
    all_in : Filling (take 2 o ++ (F ++ U)) o o₂ end []
    all_in =
        let part = take (length o₁ - copied) (drop copied o₁) in
        rw (j.words, j.count, put_remainder o₁ (overwritten U part) copied, take_rest o₁ copied)
        (fill_part U (fill_same (copied_in j.before) (sym (append-nil U))))

    pub end_is : end ≡ 2 + length (F ++ U)
    end_is = omega (arith, j.count, j.before.count, length-append F U)

    pub all_length : length o₂ ≡ length o
    all_length = fill_length all_in (enough j.before)

    pub sealed_over : (d v : ℕ) → overwritten (frame_around d v (take (end - 2) (drop 2 o₂))) o₂ ≡ overwritten (frame_around d v (F ++ U)) o
    sealed_over d v =
        let p = take 2 o ++ (F ++ U) in
        let w : o₂ ≡ overwritten p o = (fill_done all_in).0 in
        let size : end - 2 ≡ length (F ++ U) = omega (arith, end_is) in
        let body : take (end - 2) (drop 2 o₂) ≡ F ++ U =
        ap₂ (λ (i : ℕ) (t : List ℕ). take i (drop 2 t)) size (w ∙ append_assoc (take 2 o) (F ++ U) (drop (length p) o))
        ∙ ap (take (length (F ++ U))) (drop_at (take 2 o) ((F ++ U) ++ drop (length p) o) 2 (two j.before))
        ∙ take_at (F ++ U) (drop (length p) o) (length (F ++ U)) refl in
        ap₂ (λ (b t : List ℕ). overwritten (frame_around d v b) t) body w
        ∙ overwritten_twice (frame_around d v (F ++ U)) p o
        (omega (arith, frame_length_lem d v (F ++ U), length-append (take 2 o) (F ++ U), two j.before))
