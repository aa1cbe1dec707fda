-- A visit whose questions are all answered with yes: the outgoing words have room, and what the calls leave is what the visit leaves.
-- Assumes nothing.
use mathlib.Core.Path.{◌≡◌, refl, ◌∙◌, sym, ap, ap₂}
use mathlib.Core.List.{List, ◌++◌, map}
use Prim.Native.Nat.{ℕ, ◌+◌, ◌-◌, ◌%◌, ◌≤◌}
use native.Mathlib.Omega.{arith}
use lib.ListN.{length, take, drop, length-take, length-drop, length-append}
use lib.Seq.{length-take-le}
use borrow.Rule.Slice.PartMut.{put_mid}
use Rattle.lists.specs.Lists.{overwritten}
use Rattle.std.proofs.lemmas.List.{take_rest}
use Rattle.plan.specs.Decode.{plan_of}
use Rattle.plan.proofs.Accepted.{accepted_gives, desk_count_lem}
use Rattle.operation.specs.Store.{Store}
use Rattle.frame.specs.Frame.{sent, updates_words, frame_around}
use Rattle.frame.specs.Admission.{frame_visit, updates_part, updates_from, frame_updates}
use Rattle.token.specs.Forward.{foreign, apply_all, foreign_words}
use Rattle.token.specs.WellFormed.{WellFormed}
use Rattle.token.specs.Writing.{sealed_at}
use Rattle.token.proofs.RoundTrip.{part_written, reads_written}
use Rattle.token.proofs.Lengths.{updates_length}
use Rattle.token.proofs.Foreign.{words_append, forwarded_fits}
use Rattle.desk.specs.declared.state.Desk.{Desk}
use Rattle.desk.specs.Holding.{Holding, waiting_at}
use Rattle.visits.specs.Waiting.{run_all, updates_of}
use Rattle.visits.specs.Running.{all_made, all_replies, AllRun, AllRan}
use Rattle.visits.specs.Visit.{Forwarding, forwarded, Visited, accepted_visit}
use Rattle.visits.specs.Core.{Passable}
use Rattle.visits.proofs.OwnUpdates.{updates_count, replies_count, all_fit}
use Rattle.visits.proofs.Assembled.{frame_length_lem, Copied, Joined, copied_length, copied_room, end_is, all_length, sealed_over}

visited_same : (a b : Forwarding) (t u : Desk) (c c' taken o o' q q' : List ℕ) → a ≡ b → t ≡ u → c ≡ c' → o ≡ o' → q ≡ q'
    → ◌≡◌ {A = Visited} (record { answer = a; state = t; cells = c; snapshot = taken; out = o; replies = q })
    (record { answer = b; state = u; cells = c'; snapshot = taken; out = o'; replies = q' })
visited_same a b t u c c' taken o o' q q' ea et ec eo eq = rw (ea, et, ec, eo, eq)

module _ (ws : List ℕ) (h : Holding) (f out replies : List ℕ) (a : Passable ws h f out replies) where
  pub written : updates_part f ≡ updates_words (frame_updates f)
  written = part_written (plan_of ws).desks f a.frame

  module _ (s : Store) (e : s ≡ apply_all (foreign h.state.desk (frame_updates f)) h.cells) where
    -- the outgoing frame carries them
    well_formed_lem : WellFormed (plan_of ws).desks (foreign h.state.desk (frame_updates f) ++ map (sent h.state.desk)
        (updates_of (plan_of ws) (waiting_at h) s))
    well_formed_lem =
        let own = updates_of (plan_of ws) (waiting_at h) s in
        let n = (plan_of ws).desks in
        let r = reads_written n f (frame_visit f) (frame_updates f) (record { verdict = a.frame; number = refl; sent = refl }) in
        forwarded_fits n h.state.desk (frame_updates f) own r.1
        (omega (arith, updates_count (plan_of ws) (waiting_at h) s, length-take h.state.waiting h.queue, a.waiting))
        (all_fit ws a.plan h.state.desk a.desk (waiting_at h) s a.operations)

    words_are : foreign_words h.state.desk (updates_part f) ++ all_made (plan_of ws) h.state.desk (waiting_at h) s
        ≡ updates_words (foreign h.state.desk (frame_updates f) ++ map (sent h.state.desk) (updates_of (plan_of ws) (waiting_at h) s))
    unfolding all_made
    words_are =
        sym (words_append (foreign h.state.desk (frame_updates f)) (map (sent h.state.desk) (updates_of (plan_of ws) (waiting_at h) s)))

    pub words_fit : 2 + length (foreign_words h.state.desk (updates_part f) ++ all_made (plan_of ws) h.state.desk (waiting_at h) s) + 2 ≤
        length out
    words_fit =
        let g = accepted_gives ws a.plan in
        omega (
          arith,
          ap length words_are,
          a.room,
          updates_length (plan_of ws).desks _
              (omega (arith, g.desks_high, desk_count_lem ws)) well_formed_lem,
        )

    pub all_run : (o : List ℕ) → length (all_made (plan_of ws) h.state.desk (waiting_at h) s) ≤ length o
        → AllRun (plan_of ws) (waiting_at h) h.state.desk s o replies
    all_run o room =
        record {
          operations = a.operations;
          room = room;
          reply_room = omega (arith, a.reply_room, a.waiting, length-take h.state.waiting h.queue);
        }

    pub accepted_is : (end : ℕ) (s' o q : List ℕ)
        → end ≡ 2 + length (foreign_words h.state.desk (updates_part f) ++ all_made (plan_of ws) h.state.desk (waiting_at h) s)
        → s' ≡ run_all (plan_of ws) (waiting_at h) s
        → o ≡ overwritten (frame_around ((frame_visit f + 1) % (plan_of ws).desks) (frame_visit f + 1)
        (foreign_words h.state.desk (updates_part f) ++ all_made (plan_of ws) h.state.desk (waiting_at h) s)) out
        → q ≡ overwritten (all_replies (plan_of ws) (waiting_at h) s) replies
        → (taken : List ℕ) → ◌≡◌ {A = Visited} (record {
          answer = forwarded (end + 2) h.state.waiting;
          state = record { desk = h.state.desk; waiting = 0; awaited = frame_visit f + (plan_of ws).desks };
          cells = s';
          snapshot = taken;
          out = o;
          replies = q;
        }) (accepted_visit (plan_of ws) h f taken out replies)
    unfolding all_replies
    accepted_is end s' o q ee es eo eq taken =
        let rs = waiting_at h in
        let v = frame_visit f + 1 in
        let us = foreign h.state.desk (frame_updates f) ++ map (sent h.state.desk) (updates_of (plan_of ws) rs s) in
        let count : h.state.waiting ≡ length rs =
        sym (length-take-le h.state.waiting h.queue (omega (arith, a.waiting, a.queue_long))) in
        rw (← e)
        (visited_same _ _ _ _ _ _ _ _ _ _ _
        (ap₂ forwarded
        (omega (arith, ee, ap length words_are, frame_length_lem (v % (plan_of ws).desks) v (updates_words us)))
        (count ∙ sym (replies_count (plan_of ws) rs s)))
        refl
        es
        (eo ∙ ap (λ (t : List ℕ). overwritten (frame_around (v % (plan_of ws).desks) v t) out) words_are)
        eq)

  -- the others' updates alone have room behind words 0 and 1
  pub body_room : length (foreign_words h.state.desk (updates_part f)) ≤ length (take (length out - 2) (drop 2 out))
  body_room =
      omega (
        arith,
        simp length-append at (words_fit _ refl),
        length-take-le (length out - 2) (drop 2 out)
            (omega (arith, length-drop 2 out)),
      )

  -- ---- the calls of an accepted visit, each on what the one before left

  -- what forwarding asks, of the part of the frame that holds the updates
  pub forwards : (body : List ℕ) → body ≡ updates_part f
      → (body ≡ updates_words (updates_from 0 body))
      × (length (foreign_words h.state.desk body) ≤ length (take (length out - 2) (drop 2 out)))
  forwards body b = rw b (written, body_room)

  -- the others' updates are applied, and their `n` words copied behind words 0 and 1
  module _ (body : List ℕ) (b : body ≡ updates_part f) (s part : List ℕ) (n : ℕ)
      (applied : s ≡ apply_all (foreign h.state.desk (updates_from 0 body)) h.cells)
      (count : n ≡ length (foreign_words h.state.desk body))
      (words : part ≡ overwritten (foreign_words h.state.desk body) (take (length out - 2) (drop 2 out))) where
    abbrev others : List ℕ
    others = foreign_words h.state.desk (updates_part f)

    abbrev own : List ℕ
    own = all_made (plan_of ws) h.state.desk (waiting_at h) s

    abbrev out₁ : List ℕ
    out₁ = put_mid 2 (length out - 2) out part

    caught : s ≡ apply_all (foreign h.state.desk (frame_updates f)) h.cells
    caught = applied ∙ ap (λ (t : List ℕ). apply_all (foreign h.state.desk (updates_from 0 t)) h.cells) b

    copied : Copied out others own out₁ (2 + n)
    copied =
        record {
          room = words_fit s caught;
          count = ap (λ (k : ℕ). 2 + k) (count ∙ ap (λ (t : List ℕ). length (foreign_words h.state.desk t)) b);
          words = ap (put_mid 2 (length out - 2) out) (words
              ∙ ap (λ (t : List ℕ). overwritten (foreign_words h.state.desk t) (take (length out - 2) (drop 2 out))) b);
        }

    pub own_fit : 2 + n + length own + 2 ≤ length out₁
    own_fit = omega (arith, copied_room copied, copied_length copied)

    pub waiting_run : (h.state.waiting ≤ 32)
        × AllRun (plan_of ws) (waiting_at h) h.state.desk s (take (length out₁ - (2 + n)) (drop (2 + n) out₁)) replies
    waiting_run = (
      a.waiting,
      all_run s caught _
          (omega (arith, own_fit, ap length (take_rest out₁ (2 + n)), length-drop (2 + n) out₁)),
    )

    -- the waiting requests run, and their `k` words stand behind these
    module _ (k : ℕ) (s' part' q : List ℕ) (r : AllRan (plan_of ws) (waiting_at h) h.state.desk s
        (take (length out₁ - (2 + n)) (drop (2 + n) out₁)) replies k s' part' q) where
      abbrev out₂ : List ℕ
      out₂ = put_mid (2 + n) (length out₁ - (2 + n)) out₁ part'

      joined : Joined out others own out₁ (2 + n) out₂ (2 + n + k)
      joined =
          record {
            before = copied;
            count = ap (λ (i : ℕ). 2 + n + i) r.count;
            words = ap (put_mid (2 + n) (length out₁ - (2 + n)) out₁) r.updates;
          }

      pub seals : (2 ≤ 2 + n + k) × (2 + n + k + 2 ≤ length out₂)
      seals = (omega arith, omega (arith, own_fit, copied_length copied, r.count, all_length joined))

      pub sealed_is : (visit desks : ℕ) → visit ≡ frame_visit f → desks ≡ (plan_of ws).desks → (o : List ℕ)
          → o ≡ sealed_at ((visit + 1) % desks) (visit + 1) (2 + n + k) out₂ → (taken : List ℕ)
          → ◌≡◌ {A = Visited} (record {
            answer = forwarded (2 + n + k + 2) h.state.waiting;
            state = record { desk = h.state.desk; waiting = 0; awaited = visit + desks };
            cells = s';
            snapshot = taken;
            out = o;
            replies = q;
          }) (accepted_visit (plan_of ws) h f taken out replies)
      sealed_is visit desks ev ed o w =
          let frame = rw (ev, ed) at w ∙ sealed_over joined _ _ in
          rw (ev, ed) (accepted_is s caught (2 + n + k) s' o q (end_is joined) r.store frame r.answers)
