-- Demand 3 over the abstract protocol: every proper history is serializable.
-- Assumes nothing.
use Prim.Native.Nat.{ℕ, suc, ◌<◌}
use mathlib.Core.Path.{◌≡◌, refl, sym, ◌∙◌}
use mathlib.Core.Logic.{inl, inr}
use mathlib.Core.List.{List}
use lib.ListN.{length, get_or}
use Rattle.lists.proofs.Laws.{All_part}
use Rattle.serial.specs.Store.{Store}
use Rattle.serial.specs.Frame.{Frame}
use Rattle.serial.specs.Desk.{Desk}
use Rattle.serial.specs.System.{System, Laws}
use Rattle.serial.specs.Order.{place_at, place, beyond}
use Rattle.serial.specs.SerialRun.{Serial, order, store_after}
use Rattle.serial.specs.Claim.{JustOne, Claim}
use Rattle.serial.specs.Hearing.{Hears}
use Rattle.serial.proofs.Conflicts.{NotOf, BehindOf, Leaves}
use Rattle.serial.proofs.Invariant.{upto_off, upto_hears}
use Rattle.serial.proofs.Calls.{Replies, Good}
use Rattle.serial.proofs.Histories.{history_good}

module _ (S : System) (L : Laws S) where
  open S use {n, Op, Reply, desk, Writes}

  -- a desk hears of the cells that it alone may touch, and every desk of those that no one desk has to itself
  pub just_hears : (p c : ℕ) → JustOne S p c → Hears S p c
  just_hears p c j r ne o = ne (sym o.2 ∙ j.1 o.0 (inr o.3))

  pub other_hears : (p c : ℕ) → ((q : ℕ) → q < n → JustOne S q c → ⊥) → Hears S p c
  other_hears p c h r ne o =
      h (desk o.0) (L.desk_below o.0) ((o.0, inr o.3, refl), λ o' k. L.local_alone o.0 o.1 c o.3 o' k)

  not_just : (p : ℕ) (o : Op) → NotOf S p o → (c : ℕ) → JustOne S p c → Writes o c → ⊥
  not_just p o (inl f) c j h = L.free_writes o f c h
  not_just p o (inr d) c j h = d (j.1 o (inr h))

  module _ {b : Store} {w : ℕ → Desk Op} {s : Serial Op} {past : Replies Reply} {fs : List Frame} {tk : Frame}
      (k : Good S b w s past fs tk) where
    one_cell : (p c : ℕ) → p < n → JustOne S p c → get_or (w p).store c 0 ≡ get_or (store_after S (order S s) b) c 0
    one_cell p c h j =
        let i : ℕ = place_at n (s.heard p) (suc p) in
        (k.inv.serial_at_place p h).1 c (just_hears p c j)
        ∙ sym
        ((upto_off S L {P = JustOne S p} i (order S s) b
        (All_part (BehindOf S p) (Leaves S (JustOne S p)) (beyond (place n) i (order S s)) (λ e f. not_just p e.request.op f)
        (k.inv.own_not_beyond p h))).1 c j)

    other_cell : (c : ℕ) → ((p : ℕ) → p < n → JustOne S p c → ⊥) → get_or (w s.latest).store c 0 ≡ get_or (store_after S (order S s) b) c 0
    other_cell c h =
        let p : ℕ = s.latest in
        let hd : Hears S p c = other_hears p c h in
        (k.inv.serial_at_place p k.latest_below).1 c hd
        ∙ rw k.latest_heard
        (sym ((upto_hears S L p (place_at n (length s.globals) (suc p)) (order S s) b (k.inv.others_beyond p k.latest_below)).1 c hd))

pub serializable : (S : System) → Laws S → Claim S
unfolding Claim
serializable S L b cs pr =
    let r = history_good S L b cs pr in
    record { all_replies = r.inv.giving; one_desk = one_cell S L r; any_other = other_cell S L r }
