-- Both sums are a fold over the words.
-- Assumes nothing.
use borrow.Author.Rules.{rules}
use borrow.Author.Tests.{tests}
use Rattle.std.proofs.lemmas.Iterator.{YieldsList-from_slice}
use Rattle.std.proofs.lemmas.Iterator.Consumers.{fold_from_yields_List}
use Rattle.frame.proofs.Summing.{with_word, sums_by_fold}
use Rattle.frame.proofs.sums.frame_sums.Goals as goal

pub returns : goal.returns
returns c =
    sums_by_fold c.args.words.now _ _ (search rules) (fold_from_yields_List _ with_word _ _ c.fold.ensures.ran
    (YieldsList-from_slice c.args.words.now cc) (λ a x b q k. search (rules, tests)))
