-- How many fillings there are: the iterator gives how many candidates each open word has, whose product fits.
-- Assumes nothing.
use Prim.Native.Nat.{◌*◌}
use mathlib.Core.Path.{◌∙◌, sym}
use borrow.Author.Rules.{rules}
use borrow.Author.Tests.{tests}
use Rattle.std.proofs.lemmas.Iterator.{YieldsList-from_slice, YieldsList-from_map}
use Rattle.std.proofs.lemmas.Iterator.Adapters.{total_from_yields_List}
use Rattle.std.proofs.lemmas.Iterator.Consumers.{YieldsList-from_filter}
use Rattle.plan.specs.Decode.{is_open}
use Rattle.partitioning.specs.Best.{open_words, candidate_count}
use Rattle.partitioning.proofs.Counts.{product_fits, count_product}
use Rattle.partitioning.proofs.filling.filling_count.Goals as goal

pub product-requires-clause-fits : goal.product-requires-clause-fits
product-requires-clause-fits c =
    product_fits (open_words c.args.plan.now) _ c.requires
    (YieldsList-from_map _ candidate_count (YieldsList-from_filter _ is_open (YieldsList-from_slice c.args.plan.now cc)
    c.filter.ensures.closure (λ x b q k. search (rules, tests))) c.map.ensures.closure (λ x r q k. search (rules, tests)))

pub returns : goal.returns
returns c =
    total_from_yields_List ◌*◌ 1 _ c.product.ensures.ran
    (YieldsList-from_map _ candidate_count (YieldsList-from_filter _ is_open (YieldsList-from_slice c.args.plan.now cc)
    c.filter.ensures.closure (λ x b q k. search (rules, tests))) c.map.ensures.closure (λ x r q k. search (rules, tests)))
    ∙ sym (count_product (open_words c.args.plan.now))
