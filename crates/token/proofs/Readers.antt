-- The two calls of the frame reader never disagree, and the starting frame reads as visit 0 with no update.
-- Assumes nothing.
use mathlib.Core.Path.{◌≡◌, refl, ◌∙◌, sym, ap, subst}
use mathlib.Core.List.{List, []}
use Prim.Native.Nat.{ℕ}
use native.Mathlib.Nat.{zero-mod}
use native.Mathlib.Omega.{arith}
use Rattle.verdict.specs.Verdict.{Verdict, accepted, refused}
use Rattle.plan.specs.Decode.{plan_of}
use Rattle.frame.specs.Frame.{updates_words, frame_around, frame_words, starting_frame}
use Rattle.frame.specs.Admission.{frame_visit, desk_count, read_verdict, ReadsAs}
use Rattle.token.specs.WellFormed.{WellFormed}
use Rattle.token.specs.Readers.{ReadersAgree, StartingReads}
use Rattle.frame.specs.Answer.{part_read, visit_number, refusal, visit_read}
use Rattle.token.proofs.RoundTrip.{written_reads, part_written}
use Rattle.frame.proofs.Verdicts.{read_accepted}

refused_part : (r : Verdict) (frame : List ℕ) (q : ℕ) → visit_read r frame ≡ refusal q → part_read r frame ≡ []
refused_part accepted frame q e = cc
refused_part (refused k) frame q e = refl

visit_accepted : (r : Verdict) (frame : List ℕ) (v : ℕ) → visit_read r frame ≡ visit_number v → (r ≡ accepted) × (frame_visit frame ≡ v)
visit_accepted accepted frame v e = (refl, (cc))
visit_accepted (refused k) frame v e = ((cc), (cc))

pub readers_agree : ReadersAgree
readers_agree plan frame =
    record {
      refusing = refused_part (read_verdict plan frame) frame;
      reading = λ v e.
          let a = visit_accepted (read_verdict plan frame) frame v e in
          let f = (read_accepted plan frame a.0).1 in
          let p = part_written (plan_of plan).desks frame f in
          (record { verdict = f; number = a.1; sent = refl }, ap (λ r. part_read r frame) a.0 ∙ p);
    }

-- ---- the starting frame

no_updates : (n : ℕ) → WellFormed n []
unfolding desk_count
no_updates n = record { each = refl; per_desk = λ d. omega arith }

pub starting_words : (n : ℕ) → starting_frame ≡ frame_words n 0 []
unfolding updates_words
starting_words n = ap (λ (d : ℕ). frame_around d 0 []) (sym (zero-mod n))

pub starting_reads : StartingReads
starting_reads n low high =
    subst (λ (ws : List ℕ). ReadsAs n ws 0 []) (sym (starting_words n)) (written_reads n 0 [] low high (no_updates n))
