-- 02, A.4: each desk's store shows the globals that it has heard, and each desk's snapshot those of the visits up to its
-- desk's visit before, which every desk has heard.
-- Assumes nothing.
use Prim.Native.Nat.{ℕ, suc, ◌+◌, ◌-◌, ◌≤◌, ◌<◌}
use mathlib.Core.Path.{◌≡◌, refl, sym, ◌∙◌}
use mathlib.Core.Bool.{Bool, true, false, cond}
use mathlib.Core.List.{List, [], ◌∷◌, ◌++◌, map}
use native.Mathlib.Omega.{arith}
use native.Mathlib.Nat.{le_refl}
use lib.ListN.{length, length-append, get_or-append}
use lib.Seq.{get_or-append_seam}
use Rattle.std.proofs.lemmas.Float.{T_from_true}
use Rattle.std.proofs.lemmas.Bool.{eq-eqb, ne_eqb}
use Rattle.lists.proofs.Laws.{by_same}
use Rattle.std.specs.List.{AllByRecursion}
use Rattle.lists.specs.Lists.{assign}
use Rattle.serial.specs.Store.{Store}
use Rattle.serial.specs.Frame.{Frame, start_frame}
use Rattle.serial.specs.Desk.{Request, Desk, Call, request, visit, desk_called, Answer, refused, is_refused}
use Rattle.serial.specs.System.{System, Laws}
use Rattle.serial.specs.Step.{Route, immediate, enqueue, redirect, route, request_step, outgoing, visit_step, accepted_step}
use Rattle.serial.specs.History.{answer_at, answers, desks_after, new_desks, Framed, Proper}
use Rattle.serial.specs.SerialRun.{Serial, new_serial, note_nothing, note_request, note_visit, note, note_all, order}
use Rattle.serial.specs.Visits.{frame_after, latest_frame}
use Rattle.serial.specs.AtEnd.{answers_of}
use Rattle.serial.specs.Snapshot.{Snapshots, new_snapshots, globals_of, note_taken, snapshots_at, snapshots_after, through, Shows}
use Rattle.serial.specs.Snapshot.{SnapshotsShow, StoreThrough}
use Rattle.serial.proofs.Stores.{Same_refl}
use Rattle.serial.proofs.Calls.{Replies, Good}
use Rattle.serial.proofs.Histories.{request_open, request_frame, accepted_latest, call_good, new_good, history_good}
use Rattle.serial.proofs.AtOnce.{AtOnce, note_at_once, all_at_once}
use Rattle.serial.proofs.Cuts.{store_at_heard, cut_immediate, cut_visit}

module _ (S : System) where
  open S use {n, Op}

  -- after some calls: w the desks, s the serial run, t what is noted of the snapshots, tk the latest frame
  record Taken (b : Store) (w : ℕ → Desk Op) (s : Serial Op) (t : Snapshots) (tk : Frame) : Type 0 where
    count : length t.counts ≡ tk.number
    -- a desk has heard the globals of the visits up to and with its own latest
    heard_is : (q : ℕ) → q < n → s.heard q ≡ globals_of t.counts (suc (w q).awaited - n)
    shows : (q : ℕ) → q < n → Shows S b s t.counts (t.shown q) (t.taken q)

  -- s' comes after s: no desk has heard less, and the cuts behind globals that every desk had heard are the same
  record After (s s' : Serial Op) : Type 0 where
    grown : (q : ℕ) → q < n → s.heard q ≤ s'.heard q
    cut_same : (m : ℕ) → ((q : ℕ) → q < n → m ≤ s.heard q) → through S m (order S s') ≡ through S m (order S s)

  -- so a snapshot shows later what it shows now, also with more visits counted
  shows_after : {b : Store} {s s' : Serial Op} {counts : List ℕ} {k : ℕ} {x : Store} → After s s' → (counts' : List ℕ) →
      length counts ≤ length counts' → (k ≤ length counts → globals_of counts' k ≡ globals_of counts k) →
      Shows S b s counts k x → Shows S b s' counts' k x
  shows_after {counts} {k} a counts' l f h =
      let e : globals_of counts' k ≡ globals_of counts k = f h.within in
      record {
        within = omega (arith, h.within);
        cells = rw (e, a.cut_same (globals_of counts k) h.heard) h.cells;
        heard = λ q i. rw e (omega (arith, h.heard q i, a.grown q i));
      }

-- the globals of the first visits, with one visit more
counted : (counts : List ℕ) (m k : ℕ) → k ≤ length counts → globals_of (counts ++ (m ∷ [])) k ≡ globals_of counts k
counted counts m k h = get_or-append (0 ∷ counts) (m ∷ []) 0 k (omega arith)

module _ (S : System) (L : Laws S) (b : Store) where
  open S use {n, Op, Extra, Reply, admits}

  module _ {w : ℕ → Desk Op} {s : Serial Op} {past : Replies Reply} {fs : List Frame} {tk : Frame} (k : Good S b w s past fs tk)
      (a : AllByRecursion (AtOnce S) s.finished) {t : Snapshots} (g : Taken S b w s t tk) where
    -- ---- a call that counts no visit

    still_taken : (p : ℕ) (d : Desk Op) (s' : Serial Op) → d.awaited ≡ (w p).awaited → s'.heard ≡ s.heard →
        ((m : ℕ) → ((q : ℕ) → q < n → m ≤ s.heard q) → through S m (order S s') ≡ through S m (order S s)) →
        Taken S b (assign p d w) s' t tk
    still_taken p d s' e i c =
        let f : After S s s' = record { grown = λ q h. rw i (le_refl _); cut_same = c } in
        record {
          count = g.count;
          heard_is = λ q h. by_same q p (λ j. rw (eq-eqb _ _ j, e, i, ← j) (g.heard_is q h)) (λ j. rw (ne_eqb _ _ j, i) (g.heard_is q h));
          shows = λ q h. shows_after S f t.counts (le_refl _) (λ l. refl) (g.shows q h);
        }

    request_taken : (p : ℕ) → p < n → (v : Route) (r : Request Op) →
        Taken S b (assign p (request_step S v (w p) r).0 w) (note_request S v s p r) t tk
    request_taken p below immediate r =
        still_taken p (request_step S immediate (w p) r).0 (note_request S immediate s p r) refl refl
        (λ m h. cut_immediate S L k p below r m (h p below))
    request_taken p below enqueue r =
        still_taken p (request_step S enqueue (w p) r).0 (note_request S enqueue s p r) refl refl (λ m h. refl)
    request_taken p below redirect r = still_taken p (w p) (note_nothing S s) refl refl (λ m h. refl)

    -- ---- an accepted visit

    module _ (p : ℕ) (below : p < n) (turn : tk.number ≡ (w p).awaited) where
      -- what its desk has before it
      before_shows : Shows S b s t.counts (suc tk.number - n) (w p).store
      before_shows =
          let e : globals_of t.counts (suc tk.number - n) ≡ s.heard p = rw turn (sym (g.heard_is p below)) in
          record {
            within = omega (arith, g.count, L.some_desk);
            cells = rw e (store_at_heard S L k p below a);
            heard = λ q h. rw e (k.inv.turns p q below h (omega (arith, k.inv.wait_low q h)));
          }

      visit_after : After S s (note_visit S s p)
      visit_after =
          record {
            grown = λ q h. by_same q p
                (λ e. rw (eq-eqb _ _ e) (omega (arith, k.inv.g_low q, length-append s.globals (s.queues p))))
                (λ e. rw (ne_eqb _ _ e) (le_refl _));
            cut_same = λ m h. cut_visit S L k p below m (h p below);
          }

      visit_shows : (m k : ℕ) (y : Store) → Shows S b s t.counts k y → Shows S b (note_visit S s p) (t.counts ++ (m ∷ [])) k y
      visit_shows m k y =
          shows_after S visit_after (t.counts ++ (m ∷ [])) (simp length-append (omega arith)) (counted t.counts m k)

      visit_taken : (x : Extra) → Taken S b (assign p (visit_step S p (w p) tk).0 w) (note_visit S s p)
          (note_taken S w (length (note_visit S s p).globals) t (visit p tk x)) (outgoing S p (w p) tk)
      visit_taken x =
          let m : ℕ = length (s.globals ++ s.queues p) in
          record {
            count = length-append t.counts (m ∷ []) ∙ omega (arith, g.count);
            heard_is = λ q h. by_same q p
                (λ e. let z : suc (tk.number + n) - n ≡ suc (length t.counts) = omega (arith, g.count) in
                rw (eq-eqb _ _ e, z) (sym (get_or-append_seam t.counts m [] 0)))
                (λ e. rw (ne_eqb _ _ e)
                (g.heard_is q h
                ∙ sym (counted t.counts m (suc (w q).awaited - n) (omega (arith, g.count, k.inv.wait_high q h)))));
            shows = λ q h. by_same q p (λ e. rw (eq-eqb _ _ e) (visit_shows m _ _ before_shows))
                (λ e. rw (ne_eqb _ _ e) (visit_shows m _ _ (g.shows q h)));
          }

    -- ---- any call

    -- what holds once the call c was met by m
    abbrev Next : Call Op Extra → Desk Op × Answer Reply → Type 0
    Next c m =
        let s' : Serial Op = note S (is_refused m.1) s c in
        Taken S b (assign (desk_called c) m.0 w) s' (cond (is_refused m.1) t (note_taken S w (length s'.globals) t c))
        (frame_after tk m.1)

    met : (c : Call Op Extra) (o : Bool) → admits (w (desk_called c)) c ≡ o → desk_called c < n →
        (is_refused (cond o (accepted_step S (w (desk_called c)) c) (w (desk_called c), refused)).1 ≡ false → Framed S fs c) →
        Next c (cond o (accepted_step S (w (desk_called c)) c) (w (desk_called c), refused))
    met c false e below fr = still_taken (desk_called c) (w (desk_called c)) (note_nothing S s) refl refl (λ m h. refl)
    met (request p r x) true e below fr =
        rw (request_open S (route S p r.op) (w p) r, request_frame S (route S p r.op) (w p) r tk)
        (request_taken p below (route S p r.op) r)
    met (visit p f x) true e below fr =
        let i : f ≡ tk = accepted_latest S L b k p f x below e (fr refl) in
        rw i (visit_taken p below (rw i at (L.awaited_only (w p) p f x (T_from_true _ e))) x)

  taken : (cs : List (Call Op Extra)) {w : ℕ → Desk Op} {s : Serial Op} {past : Replies Reply} {fs : List Frame} {tk : Frame} →
      Good S b w s past fs tk → AllByRecursion (AtOnce S) s.finished → Proper S w fs cs → (t : Snapshots) → Taken S b w s t tk →
      Taken S b (desks_after S w cs) (note_all S s cs (map is_refused (answers S w cs))) (snapshots_after S w s t cs)
      (latest_frame tk (answers S w cs))
  taken [] k a pr t g = g
  taken (c ∷ cs) {w} {s} k a pr t g =
      taken cs (call_good S L b k c pr.0 pr.1) (note_at_once S L (is_refused (answer_at S w c)) s c a) pr.2
      (snapshots_at S w (note S (is_refused (answer_at S w c)) s c) t c)
      (met k a g c (admits (w (desk_called c)) c) refl pr.0 pr.1)

  new_taken : Taken S b (new_desks S b) (new_serial S) (new_snapshots b) start_frame
  new_taken =
      record {
        count = refl;
        heard_is = λ q h. let z : suc q - n ≡ 0 = omega arith in rw z refl;
        shows = λ q h. record { within = le_refl _; cells = Same_refl _ b; heard = λ r i. le_refl _ };
      }

module _ (S : System) (L : Laws S) where
  -- on the cells that no local operation may write, a desk's store is the serial one cut behind the globals that it has heard
  pub store_through_lem : StoreThrough S
  store_through_lem b cs pr p h =
      store_at_heard S L (history_good S L b cs pr) p h (all_at_once S L cs (map is_refused (answers_of S b cs)) (new_serial S) tt)

  -- and its snapshot is the serial one cut behind the globals of the visits up to its visit before the latest, which every desk has heard
  pub snapshots_show : SnapshotsShow S
  snapshots_show b cs pr p h = (taken S L b cs (new_good S L b) tt pr (new_snapshots b) (new_taken S L b)).shows p h
