-- The seal around the updates that stand in the outgoing words: words 0 and 1, then the sums of all words before them.
-- Assumes nothing.
use mathlib.Core.Path.{◌≡◌, ◌∙◌, sym, ap}
use mathlib.Core.List.{List, [], ◌∷◌, ◌++◌}
use Prim.Native.Nat.{ℕ, ◌+◌, ◌-◌, ◌≤◌}
use native.Mathlib.Omega.{arith}
use lib.ListN.{length, set, take, drop, length-take, length-drop, take-append-drop}
use lib.Seq.{take_at}
use Rattle.lists.specs.Lists.{overwritten}
use Rattle.lists.proofs.Laws.{write_two}
use Rattle.frame.specs.Frame.{frame_head, sums_of, sealed, frame_around}

-- two words in front of those that stand there already
pub framed : (out : List ℕ) (h v k : ℕ) → 2 + k ≤ length out
    → set (set out 0 h) 1 v ≡ overwritten (h ∷ v ∷ take k (drop 2 out)) out
framed [] h v k l = absurd (omega arith)
framed (a ∷ []) h v k l = absurd (omega arith)
framed (a ∷ b ∷ r) h v k l =
    let n : length (take k r) ≡ k = length-take k r ∙ omega arith in
    ap (λ (t : List ℕ). h ∷ v ∷ t) (sym (take-append-drop k r) ∙ ap (λ (m : ℕ). take k r ++ drop m r) (sym n))

-- the words before the sums, with their sums behind them, are the frame
pub around : (desk visit h a b : ℕ) (body : List ℕ) → h ≡ frame_head desk (length body + 4) → (a, b) ≡ sums_of (h ∷ visit ∷ body)
    → (h ∷ visit ∷ body) ++ (a ∷ b ∷ []) ≡ frame_around desk visit body
unfolding frame_around
around desk visit h a b body e s =
    ap (λ (p : ℕ × ℕ). (h ∷ visit ∷ body) ++ (p.0 ∷ p.1 ∷ [])) s ∙ ap (λ (x : ℕ). sealed (x ∷ visit ∷ body)) e

pub seal_law : (out : List ℕ) (desk visit end h a b : ℕ) → 2 ≤ end → end + 2 ≤ length out → h ≡ frame_head desk (end + 2)
    → (a, b) ≡ sums_of (take end (set (set out 0 h) 1 visit))
    → set (set (set (set out 0 h) 1 visit) end a) (end + 1) b ≡ overwritten (frame_around desk visit (take (end - 2) (drop 2 out))) out
seal_law out desk visit end h a b low room e s =
    let body = take (end - 2) (drop 2 out) in
    let front = h ∷ visit ∷ body in
    let n : length body ≡ end - 2 = length-take (end - 2) (drop 2 out) ∙ simp length-drop (omega arith) in
    let k : length front ≡ end = omega arith in
    let words : end + 2 ≡ length body + 4 = omega arith in
    let f = framed out h visit (end - 2) (omega arith) in
    ap (λ (t : List ℕ). set (set t end a) (end + 1) b) f
    ∙ write_two front out end a b k (omega arith)
    ∙ ap (λ (t : List ℕ). overwritten t out)
    (around desk visit h a b body (e ∙ ap (frame_head desk) words)
    (s ∙ ap sums_of (ap (take end) f ∙ take_at front (drop (length front) out) end k)))
