-- Those that wait at a desk are in order at every moment of a history.
--     beginning_proper              the premise of a history holds of each of its beginnings
--     waiting_in_order_throughout   the statement
-- Assumes nothing.
use Prim.Native.Nat.{ℕ}
use mathlib.Core.List.{List, [], ◌∷◌, ◌++◌}
use Rattle.frame.specs.Frame.{starting_frame}
use Rattle.history.specs.History.{Call, Kept, start, Proper}
use Rattle.history.specs.WaitingThroughout.{WaitingInOrderThroughout}
use Rattle.history.proofs.WaitingOrder.{waiting_in_order}

beginning_proper : (ws : List ℕ) (cs rest : List Call) (w : ℕ → Kept) (fs : List (List ℕ)) → Proper ws w fs (cs ++ rest) → Proper ws w fs cs
beginning_proper ws [] rest w fs pr = tt
beginning_proper ws (c ∷ cs) rest w fs pr = (pr.0, pr.1, pr.2, beginning_proper ws cs rest _ _ pr.3)

pub waiting_in_order_throughout : WaitingInOrderThroughout
waiting_in_order_throughout plan accept class right cells rows snapshots cs rest pr q =
    waiting_in_order plan accept class right cells rows snapshots cs
    (beginning_proper plan cs rest (start cells rows snapshots) (starting_frame ∷ []) pr) q
