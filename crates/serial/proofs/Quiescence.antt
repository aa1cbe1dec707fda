-- For later (02, "A quiet circle"): if the last n accepted visits ran no waiting request, the latest frame has no update, and the stores
-- of
-- any two desks agree on every cell that both hear of: on each that two or more desks may touch.
-- Assumes nothing.
use Prim.Native.Nat.{ℕ, ◌<◌}
use mathlib.Core.Path.{◌≡◌, refl, sym, ◌∙◌, subst}
use mathlib.Core.Logic.{◌≢◌}
use mathlib.Core.List.{List, [], ◌∷◌}
use lib.ListN.{get_or}
use Rattle.std.specs.List.{AllByRecursion}
use Rattle.serial.specs.Store.{Store, Update, apply_all, Same}
use Rattle.serial.specs.Desk.{Call}
use Rattle.serial.specs.System.{System, Laws, Touches}
use Rattle.serial.specs.SerialRun.{store_after}
use Rattle.serial.specs.Visits.{Visit, appended, last_of}
use Rattle.serial.specs.Hearing.{Hears, owed}
use Rattle.serial.specs.AtEnd.{ProperFrom, desks_of, order_of, visits_of, latest_of}
use Rattle.serial.proofs.Calls.{awaited_of}
use Rattle.serial.proofs.TokenTheorems.{frame_carries_last_n}
use Rattle.serial.proofs.Standing.{shared_hears, store_with_owed_is_serial}

-- a visit that ran no waiting request appended no update
abbrev pub Idle : Visit → Type 0
Idle v = v.updates ≡ []

idle_none : (vs : List Visit) → AllByRecursion Idle vs → appended vs ≡ []
idle_none [] h = refl
idle_none (v ∷ vs) h = rw h.0 (idle_none vs h.1)

module _ (S : System) (L : Laws S) (b : Store) (cs : List (Call S.Op S.Extra)) (pr : ProperFrom S b cs)
    (quiet : AllByRecursion Idle (last_of S.n (visits_of S b cs))) where
  open S use {n, Op, desk}

  pub quiet_frame : (latest_of S b cs).updates ≡ []
  quiet_frame = frame_carries_last_n S L b cs pr ∙ idle_none (last_of n (visits_of S b cs)) quiet

  quiet_store : (p : ℕ) → p < n → Same (Hears S p) (desks_of S b cs p).store (store_after S (order_of S b cs) b)
  quiet_store p h =
      subst
      (λ (us : List (ℕ × Update)). Same (Hears S p) (apply_all (owed (awaited_of (desks_of S b cs)) p us) (desks_of S b cs p).store)
      (store_after S (order_of S b cs) b))
      quiet_frame (store_with_owed_is_serial S L b cs pr p h)

  pub quiet_stores_agree : (p q c : ℕ) → p < n → q < n → Hears S p c → Hears S q c →
      get_or (desks_of S b cs p).store c 0 ≡ get_or (desks_of S b cs q).store c 0
  quiet_stores_agree p q c h l k m = (quiet_store p h).1 c k ∙ sym ((quiet_store q l).1 c m)

  pub quiet_shared_agree : (o o' : Op) (c : ℕ) → Touches S o c → Touches S o' c → desk o ≢ desk o' → (p q : ℕ) → p < n → q < n →
      get_or (desks_of S b cs p).store c 0 ≡ get_or (desks_of S b cs q).store c 0
  quiet_shared_agree o o' c t t' ne p q h l =
      quiet_stores_agree p q c h l (shared_hears S L o o' c t t' ne p) (shared_hears S L o o' c t t' ne q)
