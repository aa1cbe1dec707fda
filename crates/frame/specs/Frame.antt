-- Writing a frame: the words of a visit, its desk and its updates. Nothing here reads a frame.
use Rattle.std.specs.Prelude.{ℕ, ◌+◌, ◌*◌, ◌%◌, ◌^◌, List, [], ◌∷◌, ◌++◌, length}
use Rattle.operation.specs.Store.{Update}

-- "words in the frame (4–6,404)": the least are those of a frame with no update
abbrev pub least_frame : ℕ
least_frame = 4

abbrev pub longest_frame : ℕ
longest_frame = 6404

-- an update as a frame carries it: the desk whose operation made it, and the cells and values that it wrote
pub record SentUpdate : Type 0 where
  pub desk : ℕ
  pub writes : Update

abbrev pub sent : ℕ → Update → SentUpdate
sent d u = record { desk = d; writes = u }

-- x in the `count` bits from bit `low` on
abbrev pub placed : ℕ → ℕ → ℕ → ℕ
placed low count x = x % 2 ^ count * 2 ^ low

-- a word of this kind, with these bits below the kind
abbrev pub of_kind : ℕ → ℕ → ℕ
of_kind kind rest = kind * 2 ^ 28 + rest

-- "Word 0: kind 9, 27–24 desk addressed, 23–16 zero, 15–0 words in the frame"
abbrev pub frame_head : ℕ → ℕ → ℕ
frame_head desk words = of_kind 9 (placed 24 4 desk + placed 0 16 words)

-- "kind 10 (27–24 desk, 23–20 cells 0–12, rest zero)"
abbrev pub update_head : ℕ → ℕ → ℕ
update_head desk cells = of_kind 10 (placed 24 4 desk + placed 20 4 cells)

-- "a word of kind 11 (bits 9–0 the cell, rest zero)"
abbrev pub cell_word : ℕ → ℕ
cell_word cell = of_kind 11 (placed 0 10 cell)

-- "per cell a word of kind 11 .. and a full value word"
unfoldable pub write_words : Update → List ℕ
write_words [] = []
write_words (w ∷ u) = cell_word w.0 ∷ w.1 ∷ write_words u

unfoldable pub update_words : SentUpdate → List ℕ
update_words u = update_head u.desk (length u.writes) ∷ write_words u.writes

unfoldable pub updates_words : List SentUpdate → List ℕ
updates_words [] = []
updates_words (u ∷ us) = update_words u ++ updates_words us

-- "two sums over all earlier words, header included, both from 0 and modulo 2^32: the first adds each word, the second adds the
-- first after each word". The two sums so far, and the words still to come
unfoldable pub sums_from : ℕ → ℕ → List ℕ → ℕ × ℕ
sums_from a b [] = (a, b)
sums_from a b (w ∷ ws) = sums_from ((a + w) % 2 ^ 32) ((b + (a + w) % 2 ^ 32) % 2 ^ 32) ws

abbrev pub sums_of : List ℕ → ℕ × ℕ
sums_of ws = sums_from 0 0 ws

-- "Last, two sums over all earlier words"
abbrev pub sealed : List ℕ → List ℕ
sealed ws = ws ++ ((sums_of ws).0 ∷ (sums_of ws).1 ∷ [])

-- a frame to this desk, of this visit, around the words of the updates: the head counts these, itself, the visit and the two sums
unfoldable pub frame_around : ℕ → ℕ → List ℕ → List ℕ
frame_around desk visit body = sealed (frame_head desk (length body + least_frame) ∷ visit ∷ body)

-- "Visit v belongs to desk v modulo n, n being the desks."
abbrev pub frame_words : ℕ → ℕ → List SentUpdate → List ℕ
frame_words n v us = frame_around (v % n) v (updates_words us)

-- "The starting frame is visit 0 with no update."
abbrev pub starting_frame : List ℕ
starting_frame = frame_around 0 0 []
