-- Accepted visits are numbered 0, 1, 2, .. in the order of the list, and the latest frame carries the updates of the
-- last n of them, in order.
-- Assumes nothing.
use Prim.Native.Nat.{ℕ, suc, ◌+◌, ◌-◌, ◌%◌, ◌<◌}
use mathlib.Core.Path.{◌≡◌, refl, sym, ◌∙◌, ap, subst}
use mathlib.Core.Logic.{inl, inr}
use mathlib.Core.Bool.{true}
use mathlib.Core.List.{List, [], ◌∷◌, ◌++◌, append_assoc, append-nil, Memᴰ}
use native.Mathlib.Omega.{arith}
use lib.ListN.{length, drop, get_or, length-append}
use lib.Seq.{drop-nil}
use Rattle.std.proofs.lemmas.Float.{T_from_true}
use Rattle.serial.specs.Store.{Store}
use Rattle.serial.specs.Frame.{Frame, foreign}
use Rattle.serial.specs.Desk.{Desk, Call, visit}
use Rattle.serial.specs.System.{System, Laws}
use Rattle.serial.specs.History.{answer_at, step_at, answers, Proper}
use Rattle.serial.specs.SerialRun.{Serial}
use Rattle.serial.specs.Visits.{Visit, appended, last_of, frame_after, latest_frame, visits_at, visits}
use Rattle.serial.specs.AtEnd.{ProperFrom, desks_of, visits_of, frames_of, latest_of}
use Rattle.serial.proofs.Calls.{Replies, Good}
use Rattle.serial.proofs.Histories.{accepted_latest, call_good, new_good, history_good}
use Rattle.serial.proofs.Turns.{Entry, Turn, turn}
use Rattle.serial.proofs.Circle.{Numbered, numbered_append, numbered_at, drops_oldest, carries_on}

-- vs are the accepted visits so far, tk the latest frame
pub record Logged (n : ℕ) (vs : List Visit) (tk : Frame) : Type 0 where
  pub count : length vs ≡ tk.number
  pub numbered : Numbered n 0 vs
  pub carried : tk.updates ≡ appended (last_of n vs)

module _ (S : System) (L : Laws S) (b : Store) where
  open S use {n, Op, Extra, Reply, admits}

  logged_turn : (vs : List Visit) (tk : Frame) (us : List Visit) (tk' : Frame) → Logged n vs tk → Turn n tk us tk' →
      Logged n (vs ++ us) tk'
  logged_turn vs tk us tk' g (inl h) = rw (h.0, h.1, append-nil vs) g
  logged_turn vs tk us tk' g (inr h) =
      let v : Visit = h.0 in
      let e : Entry n tk.number v = h.2 in
      let z : 0 + length vs ≡ tk.number = omega (arith, g.count) in
      rw (h.1, h.3)
      (record {
        count = length-append vs (v ∷ []) ∙ omega (arith, g.count);
        numbered = numbered_append n 0 vs (v ∷ []) g.numbered (rw z e, tt);
        carried = rw g.carried (carries_on n L.some_desk vs g.numbered v (rw (← g.count) at e.desk_is));
      })

  logged : (cs : List (Call Op Extra)) {w : ℕ → Desk Op} {s : Serial Op} {past : Replies Reply} {fs : List Frame} {tk : Frame} →
      Good S b w s past fs tk → Proper S w fs cs → (vs : List Visit) → Logged n vs tk →
      Logged n (vs ++ visits S w cs) (latest_frame tk (answers S w cs))
  logged [] k pr vs g = rw (append-nil vs) g
  logged (c ∷ cs) {w} {tk} k pr vs g =
      rw (← append_assoc vs (visits_at S w c) (visits S (step_at S w c) cs))
      (logged cs (call_good S L b k c pr.0 pr.1) pr.2 (vs ++ visits_at S w c)
      (logged_turn vs tk (visits_at S w c) (frame_after tk (answer_at S w c)) g (turn S L k c pr.0 pr.1)))

  module _ (cs : List (Call Op Extra)) (pr : ProperFrom S b cs) where
    pub history_logged : Logged n (visits_of S b cs) (latest_of S b cs)
    history_logged = logged cs (new_good S L b) pr []
        (record { count = refl; numbered = tt; carried = ap appended (sym (drop-nil (0 - n))) })

    -- the i-th accepted visit has number i, is at desk i mod n, and appended updates of that desk
    pub visits_numbered : (i : ℕ) (d : Visit) → i < length (visits_of S b cs) → Entry n i (get_or (visits_of S b cs) i d)
    visits_numbered i d h =
        let e : 0 + i ≡ i = omega arith in
        subst (λ (k : ℕ). Entry n k (get_or (visits_of S b cs) i d)) e (numbered_at n 0 (visits_of S b cs) i d history_logged.numbered h)

    -- the latest frame has the number of accepted visits
    pub latest_number : (latest_of S b cs).number ≡ length (visits_of S b cs)
    latest_number = sym history_logged.count

    -- the updates that travel in the latest frame are those of the last n visits, in order
    pub frame_carries_last_n : (latest_of S b cs).updates ≡ appended (last_of n (visits_of S b cs))
    frame_carries_last_n = history_logged.carried

    -- a visit with a known frame that is accepted after this history
    module _ (p : ℕ) (f : Frame) (x : Extra) (below : p < n) (known : Memᴰ f (frames_of S b cs))
        (accepted : admits (desks_of S b cs p) (visit p f x) ≡ true) where
      -- brings the latest frame
      pub visit_brings_latest : f ≡ latest_of S b cs
      visit_brings_latest = accepted_latest S L b (history_good S L b cs pr) p f x below accepted known

      -- and takes in the updates of the visits since its desk's latest one: of the last n - 1
      pub visit_takes_in : foreign p f.updates ≡ appended (drop (suc (length (visits_of S b cs)) - n) (visits_of S b cs))
      visit_takes_in =
          let w : Desk Op = desks_of S b cs p in
          let vs : List Visit = visits_of S b cs in
          let a : f.number ≡ w.awaited = L.awaited_only w p f x (T_from_true _ accepted) in
          let v : w.awaited ≡ length vs = sym a ∙ ap (λ (g : Frame). g.number) visit_brings_latest ∙ latest_number in
          let e : p ≡ length vs % n = sym ((history_good S L b cs pr).inv.wait_mod p below) ∙ ap (λ (i : ℕ). i % n) v in
          rw (visit_brings_latest, frame_carries_last_n)
          (ap (λ (q : ℕ). foreign q (appended (last_of n vs))) e ∙ drops_oldest n L.some_desk vs history_logged.numbered)
