-- Demand 3, proved: every proper history of the engine is serializable.
-- Assumes nothing.
use Prim.Native.Nat.{ℕ, ◌<◌}
use mathlib.Core.Path.{◌≡◌, refl, sym, ◌∙◌, ap, subst}
use mathlib.Core.Bool.{Bool}
use mathlib.Core.List.{List, [], ◌∷◌, map}
use native.Mathlib.Nat.{zero-add}
use native.Mathlib.Omega.{arith}
use lib.ListN.{length, get_or}
use Rattle.verdict.specs.Verdict.{accepted}
use Rattle.plan.specs.Plan.{Plan}
use Rattle.plan.specs.Decode.{plan_of}
use Rattle.plan.specs.Admission.{plan_verdict}
use Rattle.operation.specs.Operation.{Operation}
use Rattle.operation.specs.Store.{Store}
use Rattle.conflict.specs.Class.{Class, JustOne}
use Rattle.conflict.proofs.MaskMeaning.{desk_low}
use Rattle.conflict.proofs.Touching.{some_desk}
use Rattle.frame.specs.Frame.{starting_frame}
use Rattle.queue.specs.declared.record.Request.{Request}
use Rattle.serial.specs.System.{System}
use Rattle.serial.specs.SerialRun as run
use Rattle.serial.specs.Order as protocol_order
use Rattle.serial.specs.Claim as protocol
use Rattle.serial.specs.AtEnd.{ProperFrom, answers_of}
use Rattle.serial.specs.Desk as desk
use Rattle.serial.specs.Machine.{Machine, Words, machine_after, seen, answers_seen, MachineProper}
use Rattle.serial.proofs.Bridge.{AllOk, machine_proper, machine_answers, machine_serializable}
use Rattle.history.specs.History.{Call, is_refused, Kept, outcomes, holdings_after, start, ProperFromStart}
use Rattle.history.specs.Order.{Finished}
use Rattle.history.specs.SerialRun.{Classifies, Serial, new_serial, serial, order, store_after, due}
use Rattle.history.specs.Claim.{Serializable, Claim}
use Rattle.history.proofs.Protocol.{Sizes, system}
use Rattle.history.proofs.ProtocolLaws.{laws, touch_of, of_touch}
use Rattle.history.proofs.Seen.{answered_seen}
use Rattle.history.proofs.View.{call_seen}
use Rattle.history.proofs.Sound.{start_sound}
use Rattle.history.proofs.Machine.{machine, frames, after_is, refusals_are, proper_is}
use Rattle.history.proofs.SerialSeen.{finished_seen, serial_seen, notes_seen}
use Rattle.history.proofs.OrderSeen.{RanAs, RunsAll, sort_seen, all_sorted, store_seen, due_seen}
use Rattle.history.proofs.Notes.{notes_noted}
use Rattle.history.proofs.Given.{Match, each_gives, none_past}

module _ (ws : List ℕ) (accept : plan_verdict ws ≡ accepted) (class : Operation → Class) (right : Classifies (plan_of ws) class)
    (cells : List ℕ) (rows : ℕ → List Request) (snapshots : ℕ → List ℕ) (cs : List Call)
    (pr : ProperFromStart ws cells rows snapshots cs) where
  abbrev p : Plan
  p = plan_of ws

  abbrev sizes : Sizes
  sizes = record { records = λ q. length (rows q); words = λ q. length (snapshots q) }

  abbrev S : System
  S = system ws class sizes

  abbrev M : Machine S
  M = machine ws accept class right sizes

  abbrev N : Words M
  N = frames ws accept class right sizes

  abbrev w : ℕ → Kept
  w = start cells rows snapshots

  pub all_sound : AllOk M w
  all_sound q l = (start_sound ws cells rows snapshots q l, refl)

  pub proper : MachineProper M N w (starting_frame ∷ []) cs
  proper = proper_is ws accept class right sizes cs w (starting_frame ∷ []) pr

  abbrev pub refusals : List Bool
  refusals = map is_refused (outcomes ws w cs)

  abbrev s : Serial
  s = serial p class cs refusals

  abbrev pub ordered : List Finished
  ordered = order s

  -- ---- the protocol's history is this one

  pub proper_seen : ProperFrom S cells (map call_seen cs)
  proper_seen = machine_proper M N cells w all_sound refl cs proper

  pub refusals_seen : map desk.is_refused (answers_of S cells (map call_seen cs)) ≡ refusals
  refusals_seen =
      ap (map desk.is_refused) (sym (machine_answers M N cells w all_sound refl cs proper))
      ∙ refusals_are ws accept class right sizes cs w

  -- ---- the protocol's serial run is this one

  abbrev Whole : run.Serial Operation → Type 0
  Whole t =
      protocol.Serializable S cells (answers_seen M w cs)
      (seen M (machine_after M w cs)) t

  whole : Whole (serial_seen s)
  whole =
      subst Whole
      (ap (run.serial S (map call_seen cs)) (refusals_are ws accept class right sizes cs w)
      ∙ sym (notes_seen ws class sizes cs refusals new_serial))
      (machine_serializable M N cells w all_sound refl cs proper (laws ws accept class right sizes))

  ended : RunsAll p s.finished
  ended = (notes_noted ws class cs w (starting_frame ∷ []) new_serial pr (record { lines = λ d. tt; ended = tt })).ended

  pub runs : RunsAll p ordered
  runs = all_sorted (RanAs p) [] s.finished tt ended

  order_is : run.order S (serial_seen s) ≡ map finished_seen ordered
  order_is = sym (sort_seen p [] s.finished tt ended)

  -- so is its order
  pub order_seen : run.order S (run.serial S (map call_seen cs) refusals) ≡ map finished_seen ordered
  order_seen = ap (run.order S) (sym (notes_seen ws class sizes cs refusals new_serial)) ∙ order_is

  store_is : run.store_after S (run.order S (serial_seen s)) cells ≡ store_after p ordered cells
  store_is =
      ap (λ (es : List (protocol_order.Finished Operation)). run.store_after S es cells) order_is
      ∙ store_seen ws class sizes ordered cells runs

  due_is : (i : ℕ) → run.due S i (run.order S (serial_seen s)) cells
      ≡ map answered_seen (due p i ordered cells)
  due_is i =
      ap (λ (es : List (protocol_order.Finished Operation)). run.due S i es cells) order_is ∙ due_seen ws class sizes i ordered cells runs

  -- ---- the desks at the end, and just one desk

  value_is : (d c v : ℕ) → get_or (seen M (machine_after M w cs) d).store c 0
      ≡ v → get_or (holdings_after ws w cs d).holding.cells c 0 ≡ v
  value_is d c v e = ap (λ (m : ℕ → Kept). get_or (m d).holding.cells c 0) (sym (after_is ws accept class right sizes cs w)) ∙ e

  one_of : (c d : ℕ) → JustOne p c d → protocol.JustOne S d c
  one_of c d j = (
    (j.0.0, of_touch ws accept class right sizes j.0.0 c j.0.1 j.0.3, j.0.2),
    λ o t. let k = touch_of ws accept class right sizes o c t in j.1 o k.0 k.1,
  )

  of_one : (c d : ℕ) → protocol.JustOne S d c → JustOne p c d
  of_one c d k =
      let t = touch_of ws accept class right sizes k.0.0 c k.0.1 in (
        (k.0.0, t.0, k.0.2, t.1),
        λ o i m. k.1 o (of_touch ws accept class right sizes o c i m),
      )

  desk_of_one : (c d : ℕ) → JustOne p c d → d < p.desks
  desk_of_one c d j = subst (λ (x : ℕ). x < p.desks) j.0.2 (desk_low p j.0.0 (some_desk ws accept))

  -- ---- the claim

  given_is : Match ws accept class right sizes (λ i. due p i ordered cells) 0 cs w
  given_is j = whole.all_replies j ∙ due_is j ∙ ap (λ (k : ℕ). map answered_seen (due p k ordered cells)) (sym (zero-add j))

  claim : Serializable p cells cs (outcomes ws w cs) (holdings_after ws w cs) s
  claim =
      record {
        all_replies = each_gives ws accept class right sizes (λ i. due p i ordered cells) cs w 0 given_is;
        none_further = λ i l. none_past ws accept class right sizes (λ i. due p i ordered cells) cs w 0 given_is i (omega arith);
        one_desk = λ c d j. value_is d c _
            (whole.one_desk d c (desk_of_one c d j) (one_of c d j) ∙ ap (λ (b : Store). get_or b c 0) store_is);
        any_other = λ c f. value_is s.latest c _
            (whole.any_other c (λ d l k. f d (of_one c d k)) ∙ ap (λ (b : Store). get_or b c 0) store_is);
      }

-- every proper history of the engine is serializable
pub serializable : Claim
serializable plan accept class right cells rows snapshots cs pr = claim plan accept class right cells rows snapshots cs pr
