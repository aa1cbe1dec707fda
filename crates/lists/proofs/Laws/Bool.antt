-- Laws of `&&`, `||` and of tests that the proofs of every layer cite.
-- Assumes nothing.
use mathlib.Core.Path.{◌≡◌, refl, sym}
use mathlib.Core.Bool.{Bool, true, false, ◌&&◌, ◌||◌}
use lib.Dec.{T}
use Rattle.std.proofs.lemmas.Bool.{and_parts}

pub and_fst : (a b : Bool) → (a && b) ≡ true → a ≡ true
and_fst a b e = (and_parts a b e).0

pub and_snd : (a b : Bool) → (a && b) ≡ true → b ≡ true
and_snd a b e = (and_parts a b e).1

pub or_interchange : (a b c d : Bool) → ((a || b) || (c || d)) ≡ ((a || c) || (b || d))
or_interchange true b c d = refl
or_interchange false true true d = refl
or_interchange false true false d = refl
or_interchange false false c d = refl

-- two tests that pass together are equal
pub bool_ext : (a b : Bool) → (a ≡ true → b ≡ true) → (b ≡ true → a ≡ true) → a ≡ b
bool_ext true b f g = sym (f refl)
bool_ext false true f g = g refl
bool_ext false false f g = refl

pub T_true : (b : Bool) → T b → b ≡ true
T_true true h = refl
T_true false h = absurd h
