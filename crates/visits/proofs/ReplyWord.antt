-- The first word of a reply has its kind, its bit and no other.
-- Assumes nothing.
use mathlib.Core.Path.{refl}
use mathlib.Core.Bool.{true, false}
use Rattle.word.specs.Reserved.{reserved_zero, source_field}
use Rattle.visits.specs.Waiting.{ReplyHeadFormed}

pub reply_head_formed : ReplyHeadFormed
unfolding reserved_zero source_field
reply_head_formed true = (refl, refl, refl)
reply_head_formed false = (refl, refl, refl)
