-- One call of a history, against the serial run: after every call the desks, the serial run, the replies and the frames agree.
-- Assumes nothing.
use Prim.Native.Nat.{ℕ, suc, ◌+◌, ◌<◌}
use mathlib.Core.Path.{◌≡◌, refl, sym, ◌∙◌, ap}
use mathlib.Core.List.{List, [], ◌∷◌, ◌++◌, append-nil, Memᴰ}
use native.Mathlib.Omega.{arith}
use lib.ListN.{length, length-append}
use Rattle.std.proofs.lemmas.Bool.{eq-eqb, ne_eqb}
use Rattle.lists.proofs.Laws.{by_same, All_mem, mem_All, one_more, snoc_nil}
use Rattle.std.specs.List.{AllByRecursion}
use Rattle.lists.specs.Lists.{assign}
use Rattle.serial.proofs.Assign.{assign_map, assign_same, assign_self}
use Rattle.serial.specs.Store.{Store}
use Rattle.serial.specs.Frame.{Frame}
use Rattle.serial.specs.Desk.{Request, Desk, given, sent}
use Rattle.serial.specs.System.{System, Laws}
use Rattle.serial.specs.Step.{Route, immediate, enqueue, redirect, request_step, outgoing, visit_step}
use Rattle.serial.specs.Order.{immediate_run, place, insert}
use Rattle.serial.specs.SerialRun.{Serial, note_nothing, note_request, note_visit, ranked, order}
use Rattle.serial.proofs.Sorting.{sort_onto_append}
use Rattle.serial.proofs.Conflicts.{OfDesk}
use Rattle.serial.proofs.Routes.{Routed}
use Rattle.serial.proofs.Invariant.{Known, Inv}
use Rattle.serial.proofs.Ranked.{ranked_sort}
use Rattle.serial.proofs.Immediate.{immediate_inv}
use Rattle.serial.proofs.Visiting.{visit_inv}

-- a part of each desk's state
abbrev part_of : {Op A : Type 0} → (Desk Op → A) → (ℕ → Desk Op) → ℕ → A
part_of f w q = f (w q)

abbrev a_store : {Op : Type 0} → Desk Op → Store
a_store d = d.store

abbrev a_queue : {Op : Type 0} → Desk Op → List (Request Op)
a_queue d = d.queue

abbrev an_awaited : {Op : Type 0} → Desk Op → ℕ
an_awaited d = d.awaited

abbrev pub stores_of : {Op : Type 0} → (ℕ → Desk Op) → ℕ → Store
stores_of w = part_of a_store w

abbrev pub queues_of : {Op : Type 0} → (ℕ → Desk Op) → ℕ → List (Request Op)
queues_of w = part_of a_queue w

abbrev pub awaited_of : {Op : Type 0} → (ℕ → Desk Op) → ℕ → ℕ
awaited_of w = part_of an_awaited w

module _ (S : System) where
  open S use {n, Op, Reply}

  -- after some calls: w the desks, s the serial run, past the replies to each call, fs the frames, tk the latest of them
  pub record Good (b : Store) (w : ℕ → Desk Op) (s : Serial Op) (past : List (List (ℕ × Reply))) (fs : List Frame)
      (tk : Frame) : Type 0 where
    pub queues_same : s.queues ≡ queues_of w
    pub calls_past : s.calls ≡ length past
    pub latest_below : s.latest < n
    pub latest_heard : s.heard s.latest ≡ length s.globals
    pub inv : Inv S b (stores_of w) (queues_of w) (awaited_of w) s.heard (length s.globals) (order S s) past fs tk

-- the replies to each call
abbrev pub Replies : Type 0 → Type 0
Replies R = List (List (ℕ × R))

module _ (S : System) (L : Laws S) (b : Store) where
  open S use {n, Op, Reply, desk, join}

  all_join : (p : ℕ) (q : List (Request Op)) (r : Request Op) → AllByRecursion (OfDesk S p) q → desk r.op ≡ p
      → AllByRecursion (OfDesk S p) (join q r)
  all_join p q r h e = mem_All (OfDesk S p) (join q r) (λ t m. All_mem (OfDesk S p) t (r ∷ q) (L.join_only q r t m) (e, h))

  module _ {w : ℕ → Desk Op} {s : Serial Op} {past : Replies Reply} {fs : List Frame} {tk : Frame} (k : Good S b w s past fs tk)
      (p : ℕ) where
    -- with nothing answered, any queues that hold only their desk's requests
    quiet_inv : (queues' : ℕ → List (Request Op)) → ((q : ℕ) → AllByRecursion (OfDesk S q) (queues' q)) →
        Inv S b (stores_of w) queues' (awaited_of w) s.heard (length s.globals) (order S s) (past ++ ([] ∷ [])) fs tk
    quiet_inv queues' h =
        let I = k.inv in
        record {
          wait_low = I.wait_low;
          wait_high = I.wait_high;
          wait_mod = I.wait_mod;
          frames = I.frames;
          tags = I.tags;
          g_low = I.g_low;
          turns = I.turns;
          low = I.low;
          own_not_beyond = I.own_not_beyond;
          others_beyond = I.others_beyond;
          serial_at_place = I.serial_at_place;
          serial_with_owed = I.serial_with_owed;
          queued = h;
          giving = λ i. snoc_nil past i ∙ I.giving i;
        }

    -- a call that leaves its desk as it was
    pub still_good : Good S b (assign p (w p) w) (note_nothing S s) (past ++ ([] ∷ [])) (fs ++ []) tk
    still_good =
        rw (assign_self p w, append-nil fs)
        (record {
          queues_same = k.queues_same;
          calls_past = ap suc k.calls_past ∙ one_more past [];
          latest_below = k.latest_below;
          latest_heard = k.latest_heard;
          inv = quiet_inv (queues_of w) k.inv.queued;
        })

    -- the desk changed: a part of its state is changed there, or nowhere
    part_put : {A : Type 0} (f : Desk Op → A) (d : Desk Op) → part_of f (assign p d w) ≡ assign p (f d) (part_of f w)
    part_put f d = assign_map f p d w

    part_kept : {A : Type 0} (f : Desk Op → A) (d : Desk Op) → f d ≡ f (w p) → part_of f (assign p d w) ≡ part_of f w
    part_kept {A} f d e = part_put f d ∙ ap (λ (y : A). assign p y (part_of f w)) e ∙ assign_self p (part_of f w)

    pub request_good : p < n → (v : Route) (r : Request Op) → Routed S v p r.op →
        Good S b (assign p (request_step S v (w p) r).0 w) (note_request S v s p r) (past ++ (given (request_step S v (w p) r).1 ∷ []))
        (fs ++ sent (request_step S v (w p) r).1) tk
    request_good below immediate r h =
        let d : Desk Op = (request_step S immediate (w p) r).0 in
        let o : order S (note_request S immediate s p r)
        ≡ insert (place n) (record { slot = immediate_run (s.heard p) p; by = length past; request = r }) (order S s) =
        sort_onto_append (place n) [] s.finished (record { slot = immediate_run (s.heard p) p; by = s.calls; request = r } ∷ [])
        ∙ ap (λ (i : ℕ). insert (place n) (record { slot = immediate_run (s.heard p) p; by = i; request = r }) (order S s))
        k.calls_past in
        record {
          queues_same = k.queues_same ∙ sym (part_kept a_queue d refl);
          calls_past = ap suc k.calls_past ∙ one_more past (given (request_step S immediate (w p) r).1);
          latest_below = k.latest_below;
          latest_heard = k.latest_heard;
          inv = rw (part_put a_store d, part_kept a_queue d refl, part_kept an_awaited d refl, o, append-nil fs)
              (immediate_inv S L k.inv p below r h);
        }
    request_good below enqueue r h =
        let d : Desk Op = (request_step S enqueue (w p) r).0 in
        record {
          queues_same = ap (λ (f : ℕ → List (Request Op)). assign p (join (f p) r) f) k.queues_same ∙ sym (part_put a_queue d);
          calls_past = ap suc k.calls_past ∙ one_more past [];
          latest_below = k.latest_below;
          latest_heard = k.latest_heard;
          inv = rw (part_kept a_store d refl, part_put a_queue d, part_kept an_awaited d refl, append-nil fs)
              (quiet_inv (assign p d.queue (queues_of w))
              (λ q. by_same q p (λ e. rw (eq-eqb _ _ e) (rw e (all_join p (w p).queue r (k.inv.queued p) h.1)))
              (λ e. rw (ne_eqb _ _ e) (k.inv.queued q))));
        }
    request_good below redirect r h = still_good

    -- an accepted frame can only be tk
    pub frame_is_latest : p < n → (f : Frame) → Memᴰ f fs → f.number ≡ (w p).awaited → f ≡ tk
    frame_is_latest below f m e =
        let h : Known tk f = All_mem (Known tk) f fs m k.inv.frames in
        h.1 (omega (arith, h.0, k.inv.wait_low p below))

    queue_at_lem : s.queues p ≡ (w p).queue
    queue_at_lem = ap (λ (f : ℕ → List (Request Op)). f p) k.queues_same

    visit_order : order S (note_visit S s p) ≡ order S s ++ ranked S (length past) (length s.globals) (w p).queue
    visit_order =
        sort_onto_append (place n) [] s.finished (ranked S s.calls (length s.globals) (s.queues p))
        ∙ rw (k.calls_past, queue_at_lem) (ranked_sort S L (length past) (length s.globals) (order S s) (w p).queue k.inv.low)

    visit_globals : length (s.globals ++ s.queues p) ≡ length s.globals + length (w p).queue
    visit_globals = length-append s.globals (s.queues p) ∙ rw queue_at_lem refl

    pub visit_good : p < n → tk.number ≡ (w p).awaited →
        Good S b (assign p (visit_step S p (w p) tk).0 w) (note_visit S s p) (past ++ (given (visit_step S p (w p) tk).1 ∷ []))
        (fs ++ sent (visit_step S p (w p) tk).1) (outgoing S p (w p) tk)
    visit_good below e =
        let d : Desk Op = (visit_step S p (w p) tk).0 in
        record {
          queues_same = ap (assign p []) k.queues_same ∙ sym (part_put a_queue d);
          calls_past = ap suc k.calls_past ∙ one_more past (given (visit_step S p (w p) tk).1);
          latest_below = below;
          latest_heard = assign_same p (length (s.globals ++ s.queues p)) s.heard;
          inv = rw (part_put a_store d, part_put a_queue d, part_put an_awaited d, visit_order, visit_globals)
              (visit_inv S L k.inv p below e);
        }
