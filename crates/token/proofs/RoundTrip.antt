-- A frame reads as a visit and updates exactly if it is their writing and they are well formed; so the words determine both.
-- Assumes nothing.
use mathlib.Core.Path.{◌≡◌, refl, ◌∙◌, sym, ap, ap₂, subst}
use mathlib.Core.Bool.{true}
use mathlib.Core.List.{List, ◌∷◌}
use Prim.Native.Nat.{ℕ, ◌+◌, ◌-◌, ◌%◌, ◌^◌, ◌≤◌, ◌<◌}
use native.Mathlib.Nat.{mod-lt}
use native.Mathlib.Omega.{arith}
use lib.Dec.{eqb}
use lib.ListN.{length, get_or, take}
use borrow.Author.Tests.{eqb-true, eq-eqb, le-leb}
use Rattle.verdict.specs.Verdict.{accepted}
use Rattle.std.proofs.lemmas.Bool.{and_from}
use Rattle.lists.proofs.Laws.{and_fst, and_snd}
use Rattle.word.specs.Field.{kind_of, addressed_desk, frame_length}
use Rattle.plan.specs.Decode.{head_of}
use Rattle.frame.specs.Frame.{SentUpdate, frame_head, write_words, updates_words, sums_of, frame_around, frame_words, longest_frame}
use Rattle.frame.specs.Admission.{frame_visit, updates_part, writes_from, updates_from, frame_updates, frame_headed, sums_right}
use Rattle.frame.specs.Admission.{well_formed, few_per_desk, updates_admitted, updates_right, frame_verdict, ReadsAs}
use Rattle.token.specs.WellFormed.{WellFormed}
use Rattle.token.specs.RoundTrip.{ReadsExactly, WrittenLength, WritingInjective}
use Rattle.token.proofs.HeadWords.{head_read, head_kind, head_zero, head_desk, head_length}
use Rattle.frame.proofs.PerDesk.{few_counts, counts_few}
use Rattle.token.proofs.Decoding.{Decoded, decoded, encoded}
use Rattle.token.proofs.Lengths.{updates_length}
use Rattle.token.proofs.Parts.{laid, laid_length, laid_part, laid_front, laid_first, laid_second, front, layout}
use Rattle.token.proofs.Sealed.{around}
use Rattle.frame.proofs.Verdicts.{headed, admitted}

-- ---- what reads is written

-- both sums stand behind the words before them
sums_read : (ws : List ℕ) → 4 ≤ length ws → sums_right ws ≡ true
    → (get_or ws (length ws - 2) 0, get_or ws (length ws - 1) 0) ≡ sums_of (get_or ws 0 0 ∷ get_or ws 1 0 ∷ updates_part ws)
unfolding sums_right
sums_read ws h e =
    let s = sums_of (take (length ws - 2) ws) in
    ap₂ (λ (a b : ℕ). (a, b)) (eqb-true (get_or ws (length ws - 2) 0) s.0 (and_fst _ _ e))
    (eqb-true (get_or ws (length ws - 1) 0) s.1 (and_snd (eqb (get_or ws (length ws - 2) 0) s.0) _ e))
    ∙ ap sums_of (front ws h)

part_words : (n : ℕ) (ws : List ℕ) → Decoded n 0 ws → ws ≡ updates_words (updates_from 0 ws)
unfolding writes_from write_words
part_words n ws d = d.words

-- the words of an admitted frame, from the visit and the updates that they decode to
admitted_words : (n : ℕ) (ws : List ℕ) → frame_verdict n ws ≡ accepted
    → (ws ≡ frame_words n (frame_visit ws) (frame_updates ws)) × WellFormed n (frame_updates ws)
unfolding updates_right
admitted_words n ws e =
    let q = admitted n ws e in
    let h = headed ws q.head in
    let v = frame_visit ws in
    let w = head_of ws in
    let part = updates_part ws in
    let u = and_snd (eqb (addressed_desk w) (v % n)) _ q.updates in
    let d = decoded n 0 part (and_fst (well_formed n 0 part) _ u) in
    let parts = layout ws h.low in
    let total : length ws ≡ length part + 4 =
    ap length parts ∙ laid_length w v part (get_or ws (length ws - 2) 0) (get_or ws (length ws - 1) 0) in
    let desk : addressed_desk w ≡ v % n = eqb-true (addressed_desk w) (v % n) (and_fst (eqb (addressed_desk w) (v % n)) _ q.updates) in
    let head : w ≡ frame_head (v % n) (length part + 4) = head_read w h.kind h.zeros ∙ ap₂ frame_head desk (h.count ∙ total) in
    let written : ws ≡ frame_around (v % n) v part = parts ∙ around (v % n) v w _ _ part head (sums_read ws h.low q.sums) in (
      written ∙ ap (frame_around (v % n) v) (part_words n part d),
      record { each = d.each; per_desk = few_counts (updates_from 0 part) (and_snd (well_formed n 0 part) _ u) },
    )

-- the part that the reader hands back
pub part_written : (n : ℕ) (ws : List ℕ) → frame_verdict n ws ≡ accepted → updates_part ws ≡ updates_words (frame_updates ws)
unfolding updates_right
part_written n ws e =
    let u = and_snd (eqb (addressed_desk (head_of ws)) (frame_visit ws % n)) _ (admitted n ws e).updates in
    part_words n (updates_part ws) (decoded n 0 (updates_part ws) (and_fst (well_formed n 0 (updates_part ws)) _ u))

pub reads_written : (n : ℕ) (ws : List ℕ) (v : ℕ) (us : List SentUpdate) → ReadsAs n ws v us → (ws ≡ frame_words n v us) × WellFormed n us
reads_written n ws v us r =
    let a = admitted_words n ws r.verdict in
    (a.0 ∙ ap₂ (frame_words n) r.number r.sent, subst (WellFormed n) r.sent a.1)

-- ---- what is written reads

module _ (n v : ℕ) (us : List SentUpdate) (low : 1 ≤ n) (high : n ≤ 8) (f : WellFormed n us) where
  body : List ℕ
  body = updates_words us

  head : ℕ
  head = frame_head (v % n) (length body + 4)

  sums : ℕ × ℕ
  sums = sums_of (head ∷ v ∷ body)

  frame : List ℕ
  frame = laid head v body sums.0 sums.1

  desk_fits_lem : v % n < 16
  desk_fits_lem = omega (arith, mod-lt v low)

  body_length : length body + 4 ≤ longest_frame
  unfolding body
  body_length = omega (arith, updates_length n us high f)

  frame_length_lem : length frame ≡ length body + 4
  unfolding frame
  frame_length_lem = laid_length head v body sums.0 sums.1

  ten : frame_headed frame ≡ true
  unfolding frame_headed frame head
  ten =
      let fits : length body + 4 < 2 ^ 16 = omega (arith, body_length) in
      let l = frame_length_lem in
      and_from _ _ (le-leb 4 (length frame) (omega arith))
      (and_from _ _ (le-leb (length frame) longest_frame (omega (arith, body_length)))
      (and_from _ _ (eq-eqb (kind_of head) 9 (head_kind (v % n) (length body + 4) desk_fits_lem fits))
      (and_from _ _ (head_zero (v % n) (length body + 4) desk_fits_lem fits)
      (eq-eqb (frame_length head) (length frame) (head_length (v % n) (length body + 4) desk_fits_lem fits ∙ sym l)))))

  eleven : sums_right frame ≡ true
  unfolding sums_right frame sums
  eleven =
      let s = sums in
      let e : sums_of (take (length frame - 2) frame) ≡ sums = ap sums_of (laid_front head v body s.0 s.1) in
      and_from _ _ (eq-eqb _ _ (laid_first head v body s.0 s.1 ∙ sym (ap (λ (p : ℕ × ℕ). p.0) e)))
      (eq-eqb _ _ (laid_second head v body s.0 s.1 ∙ sym (ap (λ (p : ℕ × ℕ). p.1) e)))

  twelve : updates_right n frame ≡ true
  unfolding updates_right frame head body
  twelve =
      let fits : length body + 4 < 2 ^ 16 = omega (arith, body_length) in
      let part : updates_part frame ≡ body = laid_part head v body sums.0 sums.1 in
      let e = encoded n us high f.each in
      and_from _ _ (eq-eqb (addressed_desk head) (v % n) (head_desk (v % n) (length body + 4) desk_fits_lem fits))
      (ap (updates_admitted n) part
      ∙ and_from _ _ e.form (ap few_per_desk e.updates ∙ counts_few us f.per_desk))

  reads : ReadsAs n frame v us
  unfolding frame_verdict frame body
  reads =
      record {
        verdict = simp (ten, eleven, twelve);
        number = refl;
        sent = ap (updates_from 0) (laid_part head v body sums.0 sums.1) ∙ (encoded n us high f.each).updates;
      }

  same : frame ≡ frame_words n v us
  unfolding frame sums head body frame_around
  same = refl

pub written_reads : (n v : ℕ) (us : List SentUpdate) → 1 ≤ n → n ≤ 8 → WellFormed n us → ReadsAs n (frame_words n v us) v us
written_reads n v us low high f = subst (λ (ws : List ℕ). ReadsAs n ws v us) (same n v us low high f) (reads n v us low high f)

-- both directions
pub reads_exactly : ReadsExactly
reads_exactly n low high ws v us =
    (reads_written n ws v us, λ w. subst (λ (x : List ℕ). ReadsAs n x v us) (sym w.0) (written_reads n v us low high w.1))

pub written_length : WrittenLength
written_length n v us low high f =
    (headed (frame_words n v us) (admitted n (frame_words n v us) (written_reads n v us low high f).verdict).head).high

pub writing_injective : WritingInjective
writing_injective n m v w us ts ln hn lm hm f g e =
    let a = written_reads n v us ln hn f in
    let b = written_reads m w ts lm hm g in
    (sym a.number ∙ ap frame_visit e ∙ b.number, sym a.sent ∙ ap frame_updates e ∙ b.sent)
