-- A frame that reads is refused with 10 or 11 once one word of it is changed.
use Rattle.std.specs.Prelude.{◌≡◌, ℕ, ◌^◌, ◌<◌, ◌⊎◌, List, length, ◌≢◌, slice_index, slice_set}
use Rattle.verdict.specs.Verdict.{Verdict, accepted, refused}
use Rattle.word.specs.Words.{AllWords}
use Rattle.frame.specs.Admission.{frame_verdict, read_verdict}

-- by these questions; word i is changed to another word x
abbrev pub RefusesOneWord : (List ℕ → Verdict) → Type 0
RefusesOneWord verdict =
    (ws : List ℕ) → AllWords ws → verdict ws ≡ accepted → (i x : ℕ) → i < length ws → x < 2 ^ 32 → (x ≢ slice_index ws i)
    → (verdict (slice_set ws i x) ≡ refused 10) ⊎ (verdict (slice_set ws i x) ≡ refused 11)

-- by questions 10 to 12, for any number of desks
abbrev pub OneWord : Type 0
OneWord = (n : ℕ) → RefusesOneWord (frame_verdict n)

-- by the reader, which asks the plan's questions before
abbrev pub OneWordRead : Type 0
OneWordRead = (plan : List ℕ) → RefusesOneWord (read_verdict plan)
