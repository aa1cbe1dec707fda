-- The serial order is a permutation of the finished operations, and in a proper history it follows the rule of 01.
-- Assumes nothing.
use Prim.Native.Nat.{ℕ}
use mathlib.Core.Path.{◌≡◌, subst}
use mathlib.Core.Logic.{inl, inr}
use mathlib.Core.Bool.{Bool, true, false, cond}
use mathlib.Core.List.Perm
use mathlib.Core.List.{List, [], ◌∷◌, ◌++◌, map, append-nil, Perm}
use mathlib.Core.List.{perm_middle}
use lib.ListN.{length, get_or, get_or-map, length-map}
use Rattle.std.specs.List.{AllByRecursion}
use Rattle.lists.specs.Lists.{Pairs}
use Rattle.lists.proofs.Laws.{Pairs_get_or}
use Rattle.serial.specs.Frame.{Frame, start_frame}
use Rattle.serial.specs.System.{System}
use Rattle.serial.specs.History.{answer_at, step_at, new_desks, Proper}
use Rattle.history.specs.Order.{Slot, global_run, immediate_run, Finished, before, insert, sort_onto}
use Rattle.history.specs.OrderRule.{OrderPermutes, Precedes, InOrder, OrderFollowsRule}
use Rattle.history.proofs.Protocol.{system}
use Rattle.history.proofs.View.{call_seen}
use Rattle.history.proofs.SerialSeen.{slot_seen, finished_seen}
use Rattle.history.proofs.Places.{of_means}
use Rattle.history.proofs.Claim.{refusals, ordered, proper_seen, order_seen}
use Rattle.serial.specs.Desk as desk
use Rattle.serial.specs.Order as protocol_order
use Rattle.serial.proofs.SerialOrder as protocol_rule

-- ---- a permutation

insert_at : (b : Bool) (e f : Finished) (fs : List Finished) → Perm (insert e fs) (e ∷ fs) →
    Perm (cond b (e ∷ f ∷ fs) (f ∷ insert e fs)) (e ∷ f ∷ fs)
insert_at true e f fs p = Perm.refl _
insert_at false e f fs p = Perm.trans (Perm.cons f p) (Perm.swap e f fs)

insert_perm : (e : Finished) (fs : List Finished) → Perm (insert e fs) (e ∷ fs)
insert_perm e [] = Perm.refl _
insert_perm e (f ∷ fs) = insert_at (before e.slot f.slot) e f fs (insert_perm e fs)

sort_perm : (es fs : List Finished) → Perm (sort_onto es fs) (es ++ fs)
sort_perm es [] = rw (append-nil es) (Perm.refl es)
sort_perm es (f ∷ fs) =
    Perm.trans (sort_perm (insert f es) fs)
    (Perm.trans (Perm.append_right fs (insert_perm f es)) (Perm.symm (perm_middle es fs)))

pub order_permutes : OrderPermutes
order_permutes s = sort_perm [] s.finished

-- ---- the rule

slot_once : (a b : Slot) → slot_seen a ≡ slot_seen b → a ≡ b
slot_once (global_run j) (global_run k) e = cc
slot_once (global_run k) (immediate_run g p) e = cc
slot_once (immediate_run g p) (global_run k) e = cc
slot_once (immediate_run g p) (immediate_run h q) e = cc

precedes_of : (e f : Finished) → protocol_order.Precedes (finished_seen e) (finished_seen f) → Precedes e f
precedes_of e f (inl h) = inl (of_means e.slot f.slot h)
precedes_of e f (inr h) = inr (slot_once e.slot f.slot h.0, h.1)

in_order : (es : List Finished) → Pairs protocol_order.Precedes (map finished_seen es) → InOrder es
in_order es h none i j l k =
    precedes_of (get_or es i none) (get_or es j none)
    (rw (get_or-map finished_seen es i none, get_or-map finished_seen es j none) at
    (Pairs_get_or protocol_order.Precedes (map finished_seen es) (finished_seen none) h i j l (rw (length-map es finished_seen) k)))

at_desks : (S : System) (cs : List (desk.Call S.Op S.Extra)) (w : ℕ → desk.Desk S.Op) (fs : List Frame) → Proper S w fs cs →
    AllByRecursion (protocol_rule.AtDesk S) cs
at_desks S [] w fs pr = tt
at_desks S (c ∷ cs) w fs pr = (pr.0, at_desks S cs (step_at S w c) (fs ++ desk.sent (answer_at S w c)) pr.2)

pub order_follows_rule : OrderFollowsRule
order_follows_rule plan accept class right cells rows snapshots cs pr =
    let S : System = system plan class (record { records = λ q. length (rows q); words = λ q. length (snapshots q) }) in
    in_order (ordered plan accept class right cells rows snapshots cs pr)
    (subst (Pairs protocol_order.Precedes) (order_seen plan accept class right cells rows snapshots cs pr)
    (protocol_rule.order_follows_rule S (map call_seen cs) (refusals plan accept class right cells rows snapshots cs pr)
    (at_desks S (map call_seen cs) (new_desks S cells) (start_frame ∷ [])
    (proper_seen plan accept class right cells rows snapshots cs pr))))
