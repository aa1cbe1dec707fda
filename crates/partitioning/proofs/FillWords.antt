-- The filling of open fields, word by word: each open word takes the next field, the words of steps are as they were.
-- Assumes nothing.
use mathlib.Core.Path.{◌≡◌, refl, ◌∙◌, sym, ap, subst}
use mathlib.Core.Bool.{Bool, true, false, ◌||◌, cond, false≢true}
use mathlib.Core.List.{List, [], ◌∷◌}
use Prim.Native.Nat.{ℕ, zero, suc}
use native.Mathlib.Omega.{arith}
use lib.ListN.{length, get_or, take, drop}
use lib.Seq.{get_or-drop}
use Rattle.verdict.specs.Verdict.{accepted}
use Rattle.std.specs.List.{list_all, list_any}
use Rattle.lists.proofs.Laws.{and_fst, and_snd}
use Rattle.word.specs.Field.{parameter_count}
use Rattle.plan.specs.Decode.{is_open, head_of}
use Rattle.plan.specs.Admission.{step_formed, open_plan_verdict}
use Rattle.plan.proofs.OpenWords.{not_open, step_not_open}
use Rattle.plan.proofs.Accepted.{open_accepted_gives}
use Rattle.partitioning.specs.Filling.{Candidate, with_field, fill}
use Rattle.partitioning.specs.Best.{open_words}
use Rattle.partitioning.proofs.Numbers.{CandidatesOf}
use Rattle.partitioning.proofs.Fields.{put_field}

-- ---- word by word

-- the fields for the words behind w
abbrev pub fields_behind : List ℕ → ℕ → List ℕ
fields_behind fs w = cond (is_open w) (drop 1 fs) fs

cons_by : (b : Bool) (x w : ℕ) (fs ws : List ℕ)
    → cond b (x ∷ fill (drop 1 fs) ws) (w ∷ fill fs ws) ≡ cond b x w ∷ fill (cond b (drop 1 fs) fs) ws
cons_by true x w fs ws = refl
cons_by false x w fs ws = refl

pub fill_cons : (fs : List ℕ) (w : ℕ) (ws : List ℕ) → fill fs (w ∷ ws) ≡ put_field (get_or fs 0 0) w ∷ fill (fields_behind fs w) ws
unfolding fill
fill_cons fs w ws = cons_by (is_open w) (with_field (get_or fs 0 0) w) w fs ws

fill_closed : (fs : List ℕ) (w : ℕ) (ws : List ℕ) → is_open w ≡ false → fill fs (w ∷ ws) ≡ w ∷ fill fs ws
unfolding fill
fill_closed fs w ws e = rw e

open_words_closed : (w : ℕ) (ws : List ℕ) → is_open w ≡ false → open_words (w ∷ ws) ≡ open_words ws
open_words_closed w ws e = rw e

-- where no word is open, none is filled
pub fill_nothing_open : (fs ws : List ℕ) → list_any is_open ws ≡ false → fill fs ws ≡ ws
unfolding fill
fill_nothing_open fs [] e = refl
fill_nothing_open fs (w ∷ ws) e = go (is_open w) refl e (fill_nothing_open fs ws)
  where
    go : (b : Bool) → is_open w ≡ b → (b || list_any is_open ws) ≡ false → (list_any is_open ws ≡ false → fill fs ws ≡ ws)
        → fill fs (w ∷ ws) ≡ w ∷ ws
    go true q h rest = absurd (false≢true (sym h))
    go false q h rest = fill_closed fs w ws q ∙ ap (λ (l : List ℕ). w ∷ l) (rest h)

pub filled_length : (fs ws : List ℕ) → length (fill fs ws) ≡ length ws
unfolding fill
filled_length fs [] = refl
filled_length fs (w ∷ ws) = ap length (fill_cons fs w ws) ∙ ap suc (filled_length (fields_behind fs w) ws)

-- ---- a candidate for each open word

abbrev pub Candidates : List ℕ → List ℕ → Type 0
Candidates ws fs = CandidatesOf (open_words ws) fs

here_by : (b : Bool) (w : ℕ) (os fs : List ℕ) → CandidatesOf (cond b (w ∷ os) os) fs → b ≡ true
    → Candidate (parameter_count w) (get_or fs 0 0)
here_by true w os fs c e = c 0 (omega arith)
here_by false w os fs c e = absurd (false≢true e)

behind_by : (b : Bool) (w : ℕ) (os fs : List ℕ) → CandidatesOf (cond b (w ∷ os) os) fs → CandidatesOf os (cond b (drop 1 fs) fs)
behind_by true w os fs c i h =
    let e : get_or (drop 1 fs) i 0 ≡ get_or fs (suc i) 0 = get_or-drop 1 fs i 0 ∙ ap (λ (j : ℕ). get_or fs j 0) (omega arith) in
    subst (Candidate (parameter_count (get_or os i 0))) (sym e) (c (suc i) (omega arith))
behind_by false w os fs c i h = c i h

module _ (w : ℕ) (ws fs : List ℕ) (c : Candidates (w ∷ ws) fs) where
  pub candidate_here : is_open w ≡ true → Candidate (parameter_count w) (get_or fs 0 0)
  candidate_here = here_by (is_open w) w (open_words ws) fs c

  pub candidates_behind : Candidates ws (fields_behind fs w)
  candidates_behind = behind_by (is_open w) w (open_words ws) fs c

-- ---- the steps' words are as they were

pub fill_steps : (n : ℕ) (ws fs : List ℕ) → list_all step_formed (take n ws) ≡ true
    → (take n (fill fs ws) ≡ take n ws) × (drop n (fill fs ws) ≡ fill fs (drop n ws)) × (open_words (drop n ws) ≡ open_words ws)
unfolding fill
fill_steps zero ws fs s = (refl, refl, refl)
fill_steps (suc n) [] fs s = (refl, refl, refl)
fill_steps (suc n) (w ∷ ws) fs s =
    let closed = step_not_open w (and_fst (step_formed w) _ s) in
    let rest = fill_steps n ws fs (and_snd (step_formed w) _ s) in
    let here = fill_closed fs w ws closed in (
      ap (take (suc n)) here ∙ ap (λ (l : List ℕ). w ∷ l) rest.0,
      ap (drop (suc n)) here ∙ rest.1,
      rest.2 ∙ sym (open_words_closed w ws closed),
    )

-- ---- the head

-- it is of kind 1, so it is kept, and the filling is of the words behind it
pub fill_behind_head : (w : ℕ) (ws fs : List ℕ) → open_plan_verdict (w ∷ ws) ≡ accepted
    → (fill fs (w ∷ ws) ≡ w ∷ fill fs ws) × (open_words (w ∷ ws) ≡ open_words ws)
fill_behind_head w ws fs e =
    let closed = not_open w (λ k. omega (arith, k, (open_accepted_gives (w ∷ ws) e).head_kind)) in
    (fill_closed fs w ws closed, open_words_closed w ws closed)

pub fill_head : (ws fs : List ℕ) → open_plan_verdict ws ≡ accepted → head_of (fill fs ws) ≡ head_of ws
unfolding fill
fill_head [] fs e = refl
fill_head (w ∷ ws) fs e = ap head_of (fill_behind_head w ws fs e).0
