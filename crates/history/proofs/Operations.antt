-- Being an operation of the plan, decided: the protocol's operations are any, and those that no request could be do nothing.
-- Assumes nothing.
use Prim.Native.Nat.{ℕ, zero, suc, ◌^◌, ◌<◌}
use mathlib.Core.Path.{◌≡◌, refl}
use mathlib.Core.Bool.{Bool, true, ◌&&◌}
use mathlib.Core.List.{List, [], ◌∷◌}
use native.Mathlib.Omega.{arith}
use lib.Dec.{ltb, eqb}
use lib.ListN.{length, get_or}
use borrow.Author.Tests.{ltb-true, lt-ltb, eqb-true, eq-eqb}
use Rattle.verdict.specs.Verdict.{is_accepted}
use Rattle.verdict.proofs.Verdicts.{is_accepted_accepted}
use Rattle.std.specs.List.{list_all}
use Rattle.std.proofs.lemmas.Bool.{and_from}
use Rattle.lists.proofs.Laws.{and_fst, and_snd}
use Rattle.plan.specs.Plan.{Plan}
use Rattle.operation.specs.Operation.{Operation}
use Rattle.operation.specs.Admission.{IsOperation, operation_verdict}
use Rattle.queue.specs.declared.record.Request.{Request}
use Rattle.desk.specs.Queueing.{operation_of}

-- the record's operation is one of the plan's
abbrev pub Runs : Plan → Request → Type 0
Runs p r = IsOperation p (operation_of r)

abbrev is_word : ℕ → Bool
is_word w = ltb w (2 ^ 32)

pub is_operation : Plan → Operation → Bool
is_operation p o = eqb (length o.params) 4 && (list_all is_word o.params && is_accepted (operation_verdict p o))

all_words : (ps : List ℕ) → ((i : ℕ) → get_or ps i 0 < 2 ^ 32) → list_all is_word ps ≡ true
all_words [] h = refl
all_words (w ∷ ps) h = and_from (is_word w) (list_all is_word ps) (lt-ltb w (2 ^ 32) (h 0)) (all_words ps (λ i. h (suc i)))

each_word : (ps : List ℕ) → list_all is_word ps ≡ true → (i : ℕ) → get_or ps i 0 < 2 ^ 32
each_word [] e i = omega arith
each_word (w ∷ ps) e zero = ltb-true w (2 ^ 32) (and_fst _ _ e)
each_word (w ∷ ps) e (suc i) = each_word ps (and_snd (is_word w) _ e) i

module _ (p : Plan) (o : Operation) where
  pub is_of_decided : is_operation p o ≡ true → IsOperation p o
  unfolding is_operation
  is_of_decided e =
      let r = and_snd (eqb (length o.params) 4) _ e in
      record {
        four = eqb-true (length o.params) 4 (and_fst _ _ e);
        words = each_word o.params (and_fst (list_all is_word o.params) _ r);
        passes = is_accepted_accepted (operation_verdict p o) (and_snd (list_all is_word o.params) _ r);
      }

  pub decided_of_is : IsOperation p o → is_operation p o ≡ true
  unfolding is_operation
  decided_of_is i =
      and_from _ _ (eq-eqb (length o.params) 4 i.four)
      (and_from _ _ (all_words o.params i.words) (rw i.passes refl))
