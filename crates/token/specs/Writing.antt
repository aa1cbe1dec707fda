-- What the calls that write a frame leave in the outgoing words.
use Rattle.std.specs.Prelude.{ℕ, ◌-◌, List, leb, length, take, drop}
use Rattle.verdict.specs.Verdict.{Verdict, ask, if_accepted}
use Rattle.lists.specs.Lists.{overwritten}
use Rattle.frame.specs.Frame.{least_frame, frame_around, starting_frame}

-- outgoing words with a frame made of the updates that stand in them from word 2 up to `end`
abbrev pub sealed_at : ℕ → ℕ → ℕ → List ℕ → List ℕ
sealed_at desk visit end out = overwritten (frame_around desk visit (take (end - 2) (drop 2 out))) out

-- 5: "Are buffers fit: .. for the starting frame at least 4?" "Starting frame: 5 alone."
abbrev pub start_verdict : List ℕ → Verdict
start_verdict out = ask 5 (leb least_frame (length out))

-- the outgoing words behind the call: a refusal changes nothing
abbrev pub start_words : List ℕ → List ℕ
start_words out = if_accepted (start_verdict out) (overwritten starting_frame out) (λ question. out)
