-- For later (02): on the cells it hears of, a desk's store is the serial store at its place, and with the updates that it is still owed
-- the serial store at the end; and at its turn every desk has heard what it has.
-- Assumes nothing.
use Prim.Native.Nat.{ℕ, suc, ◌≤◌, ◌<◌}
use mathlib.Core.Path.{◌≡◌, sym, ◌∙◌, ap}
use mathlib.Core.Logic.{◌≢◌}
use mathlib.Core.Bool.{true}
use mathlib.Core.List.{List, [], ◌∷◌, Memᴰ}
use Rattle.std.proofs.lemmas.Float.{T_from_true}
use Rattle.std.specs.List.{AllByRecursion}
use Rattle.serial.specs.Store.{Store, apply_all, Same}
use Rattle.serial.specs.Frame.{Frame}
use Rattle.serial.specs.Desk.{Call, visit}
use Rattle.serial.specs.System.{System, Laws, Touches}
use Rattle.serial.specs.Step.{run_one}
use Rattle.serial.specs.Order.{Finished, place_at, place, upto, beyond}
use Rattle.serial.specs.SerialRun.{store_after}
use Rattle.serial.specs.Hearing.{Hears, owed}
use Rattle.serial.specs.AtEnd.{ProperFrom, desks_of, serial_of, order_of, frames_of, latest_of}
use Rattle.serial.proofs.Conflicts.{BehindOf}
use Rattle.serial.proofs.Calls.{awaited_of}
use Rattle.serial.proofs.Histories.{history_good}
use Rattle.serial.proofs.TokenTheorems.{visit_brings_latest}

-- a cell that operations of two desks may touch is heard of everywhere: no local operation writes it
pub shared_hears : (S : System) → Laws S → (o o' : S.Op) (c : ℕ) → Touches S o c → Touches S o' c → S.desk o ≢ S.desk o' →
    (p : ℕ) → Hears S p c
shared_hears S L o o' c t t' ne p r nr w =
    ne (L.local_alone w.0 w.1 c w.3 o t ∙ sym (L.local_alone w.0 w.1 c w.3 o' t'))

-- what every run keeps holds of the serial store at every place
pub serial_keeps : (S : System) (P : Store → Type 0) → ((o : S.Op) (s : Store) → P s → P (run_one S o s)) →
    (es : List (Finished S.Op)) (s : Store) → P s → P (store_after S es s)
serial_keeps S P f [] s h = h
serial_keeps S P f (e ∷ es) s h = serial_keeps S P f es (run_one S e.request.op s) (f e.request.op s h)

module _ (S : System) (L : Laws S) (b : Store) (cs : List (Call S.Op S.Extra)) (pr : ProperFrom S b cs) where
  open S use {n, Op}

  -- desk p's place: behind all that it ran at once after the globals that it has heard
  abbrev pub place_of_desk : ℕ → ℕ
  place_of_desk p = place_at n ((serial_of S b cs).heard p) (suc p)

  pub latest_below : (serial_of S b cs).latest < n
  latest_below = (history_good S L b cs pr).latest_below

  -- on the cells that desk p hears of, those that no other desk's local may write, its store is the serial one at its place
  pub store_is_serial_at_place : (p : ℕ) → p < n →
      Same (Hears S p) (desks_of S b cs p).store (store_after S (upto (place n) (place_of_desk p) (order_of S b cs)) b)
  store_is_serial_at_place p h = (history_good S L b cs pr).inv.serial_at_place p h

  -- behind its place stands nothing of desk p's but free operations
  pub nothing_own_behind : (p : ℕ) → p < n → AllByRecursion (BehindOf S p) (beyond (place n) (place_of_desk p) (order_of S b cs))
  nothing_own_behind p h = (history_good S L b cs pr).inv.own_not_beyond p h

  -- whose turn comes first has heard least: at its turn, what a desk has heard every desk has
  pub heard_by_turn : (p q : ℕ) → p < n → q < n → (desks_of S b cs p).awaited ≤ (desks_of S b cs q).awaited →
      (serial_of S b cs).heard p ≤ (serial_of S b cs).heard q
  heard_by_turn = (history_good S L b cs pr).inv.turns

  pub turn_is_first : (p q : ℕ) → q < n → (desks_of S b cs p).awaited ≡ (latest_of S b cs).number →
      (desks_of S b cs p).awaited ≤ (desks_of S b cs q).awaited
  turn_is_first p q h e = rw e ((history_good S L b cs pr).inv.wait_low q h)

  -- a visit with a known frame that is accepted after this history: every desk has heard what this desk has
  pub visit_heard_least : (p : ℕ) (f : Frame) (x : S.Extra) → p < n → Memᴰ f (frames_of S b cs) →
      S.admits (desks_of S b cs p) (visit p f x) ≡ true → (q : ℕ) → q < n → (serial_of S b cs).heard p ≤ (serial_of S b cs).heard q
  visit_heard_least p f x below known accepted q h =
      let a : f.number ≡ (desks_of S b cs p).awaited = L.awaited_only (desks_of S b cs p) p f x (T_from_true _ accepted) in
      let i : f ≡ latest_of S b cs = visit_brings_latest S L b cs pr p f x below known accepted in
      heard_by_turn p q below h (turn_is_first p q h (sym a ∙ ap (λ (g : Frame). g.number) i))

  -- with what it is owed, the updates of desks whose turn comes after its own, it is the serial one at the end
  pub store_with_owed_is_serial : (p : ℕ) → p < n →
      Same (Hears S p) (apply_all (owed (awaited_of (desks_of S b cs)) p (latest_of S b cs).updates) (desks_of S b cs p).store)
      (store_after S (order_of S b cs) b)
  store_with_owed_is_serial p h = (history_good S L b cs pr).inv.serial_with_owed p h
