-- Questions 10 to 12: each answer is the branch of the verdict that the questions before it chose.
-- Assumes nothing.
use Rattle.std.proofs.Common.{◌≡◌, true, sym, ◌∙◌}
use Rattle.frame.specs.Admission.{frame_verdict, frame_headed}
use Rattle.frame.proofs.Verdicts.{headed}
use Rattle.frame.proofs.reader.check_frame.Goals as goal

pub returns-then-not-frame_headed : goal.returns-then-not-frame_headed
unfolding frame_verdict
returns-then-not-frame_headed c = simp (sym c.frame_headed.ensures ∙ c.if-not-frame_headed.true)

pub sums_right-requires : goal.sums_right-requires
sums_right-requires c =
    let ten : frame_headed c.args.frame.now ≡ true = sym c.frame_headed.ensures ∙ c.if-not-frame_headed.false in
    (headed _ ten).low

pub returns-then-not-sums_right : goal.returns-then-not-sums_right
unfolding frame_verdict
returns-then-not-sums_right c =
    let ten : frame_headed c.args.frame.now ≡ true = sym c.frame_headed.ensures ∙ c.if-not-frame_headed.false in
    simp (ten, sym c.sums_right.ensures ∙ c.if-not-sums_right.true)

pub updates_right-requires : goal.updates_right-requires
updates_right-requires c =
    let ten : frame_headed c.args.frame.now ≡ true = sym c.frame_headed.ensures ∙ c.if-not-frame_headed.false in
    let p = c.requires in (p.0, p.1, (headed _ ten).low)

pub returns-then-not-updates_right : goal.returns-then-not-updates_right
unfolding frame_verdict
returns-then-not-updates_right c =
    let ten : frame_headed c.args.frame.now ≡ true = sym c.frame_headed.ensures ∙ c.if-not-frame_headed.false in
    simp (
      ten,
      sym c.sums_right.ensures ∙ c.if-not-sums_right.false,
      sym c.updates_right.ensures ∙ c.if-not-updates_right.true,
    )

pub returns : goal.returns
unfolding frame_verdict
returns c =
    let ten : frame_headed c.args.frame.now ≡ true = sym c.frame_headed.ensures ∙ c.if-not-frame_headed.false in
    simp (
      ten,
      sym c.sums_right.ensures ∙ c.if-not-sums_right.false,
      sym c.updates_right.ensures ∙ c.if-not-updates_right.false,
    )
