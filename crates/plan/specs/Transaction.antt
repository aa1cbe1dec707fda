-- What the code's transactions stand for, one, and those that are left of a plan.
use Rattle.std.specs.Prelude.{List, map, eqb}
use Rattle.word.specs.Field.{parameter_count, partitioning_field, weight_field, urgent_field}
use Rattle.plan.specs.Plan as plan
use Rattle.plan.specs.Decode.{step_of, part_by, transactions_of}
use Rattle.plan.specs.declared.transaction.Transaction.{Transaction}
use Rattle.plan.specs.declared.transactions.Transactions.{Transactions}
use Rattle.plan.specs.declared.transactions.Steps.{Steps}

abbrev pub the_transaction : Transaction → plan.Transaction
the_transaction t =
    record {
      params = parameter_count t.word;
      part = part_by (partitioning_field t.word);
      weight = weight_field t.word;
      urgent = eqb (urgent_field t.word) 1;
      steps = map step_of t.step_words.now;
    }

abbrev pub the_transactions : Transactions → List plan.Transaction
the_transactions s = transactions_of s.left s.rest.now

abbrev pub the_steps : Steps → List plan.Step
the_steps s = map step_of s.rest.now
