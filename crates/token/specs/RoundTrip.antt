-- A frame reads as a visit and updates exactly if it is their writing and they are well formed; so the words determine both.
use Rattle.std.specs.Prelude.{◌≡◌, ◌↔◌, List, ℕ, ◌≤◌, length}
use Rattle.frame.specs.Frame.{SentUpdate, longest_frame, frame_words}
use Rattle.frame.specs.Admission.{ReadsAs}
use Rattle.token.specs.WellFormed.{WellFormed}

abbrev pub ReadsExactly : Type 0
ReadsExactly =
    (n : ℕ) → 1 ≤ n → n ≤ 8 → (ws : List ℕ) (v : ℕ) (us : List SentUpdate)
    → ReadsAs n ws v us ↔ ((ws ≡ frame_words n v us) × WellFormed n us)

-- "words in the frame (4–6,404)"
abbrev pub WrittenLength : Type 0
WrittenLength = (n v : ℕ) (us : List SentUpdate) → 1 ≤ n → n ≤ 8 → WellFormed n us → length (frame_words n v us) ≤ longest_frame

-- the words determine the visit and the updates, whatever the number of desks
abbrev pub WritingInjective : Type 0
WritingInjective =
    (n m v w : ℕ) (us ts : List SentUpdate) → 1 ≤ n → n ≤ 8 → 1 ≤ m → m ≤ 8 → WellFormed n us → WellFormed m ts
    → frame_words n v us ≡ frame_words m w ts → (v ≡ w) × (us ≡ ts)
