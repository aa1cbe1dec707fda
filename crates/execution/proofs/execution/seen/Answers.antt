-- The last value that the update has for the cell, else the store's.
-- Assumes nothing.
use Rattle.std.proofs.Common.{ℕ, rules, tests, ◌≡◌, ◌∙◌, ap, eqb, get_or, Bor}
use Rattle.std.specs.Option.{option_map}
use Rattle.std.proofs.lemmas.Iterator.Adapters.{YieldsList-from_rev_slice}
use Rattle.std.proofs.lemmas.Iterator.Search.{find_from_yields_List}
use Rattle.execution.specs.Answer.{update_of}
use Rattle.execution.proofs.Updates.{latest, value_or, seen_latest, unseen}
use Rattle.execution.proofs.execution.seen.Goals as goal

pub returns-in_default : goal.returns-in_default
returns-in_default c = unseen c.args.cell (update_of c.args.update.now) c.args.store.now (search (rules, tests))

pub returns-in-Some-find : goal.returns-in-Some-find
returns-in-Some-find c =
    let u = update_of c.args.update.now in
    let found : option_map (λ (y : Bor (ℕ × ℕ)). y.now) c.find.result ≡ latest c.args.cell u =
    find_from_yields_List (λ w. eqb w.0 c.args.cell) _ _ c.find.result c.find.ensures.ran (YieldsList-from_rev_slice u cc)
    (λ x b q k. search (rules, tests)) in
    ap (value_or (get_or c.args.store.now c.args.cell 0)) (rw c.in-Some-find.is at found)
    ∙ seen_latest c.args.cell u c.args.store.now (search (rules, tests))

pub returns-in-None : goal.returns-in-None
returns-in-None c =
    let u = update_of c.args.update.now in
    let found : option_map (λ (y : Bor (ℕ × ℕ)). y.now) c.find.result ≡ latest c.args.cell u =
    find_from_yields_List (λ w. eqb w.0 c.args.cell) _ _ c.find.result c.find.ensures.ran (YieldsList-from_rev_slice u cc)
    (λ x b q k. search (rules, tests)) in
    c.in-Some.ensures.lookup.3.1 0
    ∙ ap (value_or (get_or c.args.store.now c.args.cell 0)) (rw c.in-None.is at found)
    ∙ seen_latest c.args.cell u c.args.store.now (search (rules, tests))
