-- The words of an update, written pair by pair into the front of a list.
-- Assumes nothing.
use Rattle.std.proofs.Common.{ℕ, ◌+◌, ◌*◌, ◌≤◌, ◌<◌, ◌≡◌, refl, ap, List, [], ◌∷◌, ◌++◌, length, get_or, set, drop, arith}
use Rattle.std.proofs.lemmas.List.{drop_more}
use lib.ListN.{drop_of_length-le}
use Rattle.lists.specs.Lists.{overwritten}
use Rattle.lists.proofs.Laws.{Filling, fill_size, fill_length, fill_same, fill_word, fill_done}
use Rattle.operation.specs.Store.{Update}
use Rattle.frame.specs.Frame.{SentUpdate, cell_word, write_words, update_words}

-- ---- the words of an update, pair by pair

pub writes_length : (u : Update) → length (write_words u) ≡ 2 * length u
unfolding write_words
writes_length [] = refl
writes_length (w ∷ u) = omega (arith, writes_length u)

pub writes_append : (u v : Update) → write_words (u ++ v) ≡ write_words u ++ write_words v
unfolding write_words
writes_append [] v = refl
writes_append (w ∷ u) v = ap (λ (t : List ℕ). cell_word w.0 ∷ w.1 ∷ t) (writes_append u v)

pub update_length : (u : SentUpdate) → length (update_words u) ≡ 1 + 2 * length u.writes
unfolding update_words
update_length u = omega (arith, writes_length u.writes)

-- ---- the next pair

module _ {whole o t : List ℕ} {k i : ℕ} (u : Update) (f : Filling whole o t k (write_words (drop i u))) (h : i < length u) where
  next_pair : Filling whole o t k (cell_word (get_or u i (0, 0)).0 ∷ (get_or u i (0, 0)).1 ∷ write_words (drop (i + 1) u))
  unfolding write_words
  next_pair = fill_same f (ap write_words (drop_more u i (0, 0) h))

  pub pair_room : length whole ≤ length o → (k + 1 < length o) × (length t ≡ length o)
  pair_room room = let size = fill_size next_pair in (omega arith, fill_length f room)

  pub fill_pair : (w : ℕ) → w ≡ cell_word (get_or u i (0, 0)).0 → length whole ≤ length o
      → Filling whole o (set (set t k w) (k + 1) (get_or u i (0, 0)).1) (k + 2) (write_words (drop (i + 1) u))
  fill_pair w e room =
      let two : k + 1 + 1 ≡ k + 2 = omega arith in
      let size = pair_room room in
      rw (e, ← two) (fill_word (fill_word next_pair (omega arith)) (omega arith))

pub pairs_done : {whole o t : List ℕ} {k i : ℕ} (u : Update) → Filling whole o t k (write_words (drop i u)) → length u ≤ i
    → (t ≡ overwritten whole o) × (k ≡ length whole)
unfolding write_words
pairs_done u f h = fill_done (fill_same f (ap write_words (drop_of_length-le u h)))
