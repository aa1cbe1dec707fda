-- A free or local operation that runs at once: it enters the serial order in the middle, and what holds after every call is kept.
-- Assumes nothing.
use Prim.Native.Nat.{ℕ, suc, ◌≤◌, ◌<◌}
use mathlib.Core.Path.{◌≡◌, sym, ◌∙◌, ap, refl}
use mathlib.Core.Logic.{◌≢◌, inl, inr}
use mathlib.Core.List.{List, [], ◌∷◌, ◌++◌}
use native.Mathlib.Omega.{arith}
use native.Mathlib.Nat.{le_refl}
use lib.ListN.{length, get_or, get_or-eq_default}
use Rattle.std.proofs.lemmas.Bool.{ne_eqb, eq-eqb}
use Rattle.std.proofs.lemmas.List.{get_or_push}
use Rattle.lists.proofs.Laws.{by_same, by_less, All_part, snoc_other}
use Rattle.lists.specs.Lists.{assign}
use Rattle.serial.specs.Store.{Store, Update, apply_update, apply_all, Same, Within}
use Rattle.serial.specs.Frame.{Frame}
use Rattle.serial.specs.Desk.{Request, Desk, given}
use Rattle.serial.specs.System.{System, Laws}
use Rattle.serial.specs.Step.{immediate, request_step}
use Rattle.serial.specs.Order.{Finished, immediate_run, place_at, place, upto, beyond, insert}
use Rattle.serial.specs.SerialRun.{store_after, due}
use Rattle.serial.specs.Hearing.{OwnCell, Hears, owed}
use Rattle.serial.proofs.Stores.{Same_sym, Same_trans, apply_same, apply_off}
use Rattle.serial.proofs.Sorting
use Rattle.serial.proofs.Sorting.{Low}
use Rattle.serial.proofs.Conflicts
use Rattle.serial.proofs.Conflicts.{RunsAt, RunsElsewhere, NotOf, BesideOf, BehindOf, OutCell, Tagged}
use Rattle.serial.proofs.Runs
use Rattle.serial.proofs.Token
use Rattle.serial.proofs.Invariant.{Inv, place_mono}

module _ (S : System) (L : Laws S) where
  open S use {n, Op, Reply, desk, class, Reads, Writes, reply, update}

  at_not : (p q : ℕ) (o : Op) → q ≢ p → RunsAt S p o → NotOf S q o
  at_not p q o ne (inl f) = inl f
  at_not p q o ne (inr l) = inr (λ e. ne (sym e ∙ l.1))

  at_elsewhere : (p q : ℕ) (o : Op) → q ≢ p → RunsAt S p o → RunsElsewhere S q o
  at_elsewhere p q o ne (inl f) = inl f
  at_elsewhere p q o ne (inr l) = inr (l.0, λ e. ne (sym e ∙ l.1))

  module _ {b : Store} {stores : ℕ → Store} {queues : ℕ → List (Request Op)} {aw g : ℕ → ℕ} {m : ℕ} {es : List (Finished Op)}
      {past : List (List (ℕ × Reply))} {fs : List Frame} {tk : Frame} (I : Inv S b stores queues aw g m es past fs tk)
      (p : ℕ) (below : p < n) where
    -- ---- A free or local operation runs at desk p

    module _ (t : Request Op) (hr : RunsAt S p t.op) where
      -- desk p before the run, and as the run leaves it
      abbrev d : Desk Op
      d = record { store = stores p; queue = queues p; awaited = aw p }

      abbrev left : Desk Op
      left = (request_step S immediate d t).0

      abbrev said : List (ℕ × Reply)
      said = given (request_step S immediate d t).1

      abbrev spot : ℕ
      spot = place_at n (g p) (suc p)

      abbrev new : Finished Op
      new = record { slot = immediate_run (g p) p; by = length past; request = t }

      -- the serial store where it runs, and what it writes there
      abbrev at_spot : Store
      at_spot = store_after S (upto (place n) spot es) b

      abbrev made : Update
      made = update t.op at_spot

      reads_heard : (c : ℕ) → Reads t.op c → Hears S p c
      reads_heard c r = Conflicts.at_hears S L p t.op c hr (inl r)

      made_same : update t.op (stores p) ≡ made
      made_same = Runs.update_same S L {P = Hears S p} t.op (stores p) at_spot reads_heard (I.serial_at_place p below)

      -- its store with the same written in
      left_store : left.store ≡ apply_update made (stores p)
      left_store = ap (λ (u : Update). apply_update u (stores p)) made_same

      made_own : Within (OwnCell S p) made
      made_own = Runs.made_own S L p new hr (upto (place n) spot es) [] b tt

      -- no other desk hears of it
      unheard : (q : ℕ) → q ≢ p → (a : Store) → Same (Hears S q) a (apply_update made a)
      unheard q ne a = Same_sym (apply_update made a) a
          (apply_off {P = Hears S q} {Q = OwnCell S p} made a made_own (λ c k o. k p (λ e. ne (sym e)) o))

      -- all that stands behind it runs as before, and its write goes to the end
      new_end : store_after S (insert (place n) new es) b ≡ apply_update made (store_after S es b)
      new_end =
          Runs.mid_store S L p new hr (upto (place n) spot es) (beyond (place n) spot es) b (I.own_not_beyond p below)
          ∙ ap (λ (l : List (Finished Op)). apply_update made (store_after S l b)) (Sorting.upto_beyond (place n) spot es)

      new_upto : (j : ℕ) → spot ≤ j → store_after S (upto (place n) j (insert (place n) new es)) b
          ≡ apply_update made (store_after S (upto (place n) j es) b)
      new_upto j h =
          rw (Sorting.upto_insert_hi (place n) j new es h, Sorting.upto_split (place n) spot j es h)
          (Runs.mid_store S L p new hr (upto (place n) spot es) (upto (place n) j (beyond (place n) spot es)) b
          (Sorting.all_upto (place n) (BehindOf S p) j (beyond (place n) spot es) (I.own_not_beyond p below)))

      immediate_serial_at_place : (q : ℕ) → q < n →
          Same (Hears S q) (assign p left.store stores q)
          (store_after S (upto (place n) (place_at n (g q) (suc q)) (insert (place n) new es)) b)
      immediate_serial_at_place q h =
          let k : ℕ = place_at n (g q) (suc q) in
          by_same q p
          (λ e. rw (e, eq-eqb p p refl, new_upto spot (le_refl _), left_store) (apply_same made (stores p) at_spot
          (I.serial_at_place p below)))
          (λ e. rw (ne_eqb _ _ e)
          (by_less k spot (λ l. rw (Sorting.upto_insert_lo (place n) k new es l) (I.serial_at_place q h))
          (λ l. rw (new_upto k l)
          (Same_trans (stores q) (store_after S (upto (place n) k es) b) (apply_update made (store_after S (upto (place n) k es) b))
          (I.serial_at_place q h) (unheard q e (store_after S (upto (place n) k es) b))))))

      immediate_serial_with_owed : (q : ℕ) → q < n →
          Same (Hears S q) (apply_all (owed aw q tk.updates) (assign p left.store stores q))
          (store_after S (insert (place n) new es) b)
      immediate_serial_with_owed q h =
          by_same q p
          (λ e. rw (
            e,
            eq-eqb p p refl,
            new_end,
            left_store,
            Token.owed_past S L aw p made tk.updates (stores p) made_own
                (All_part (Tagged S) (λ (u : ℕ × Update). Within (OutCell S u.0) u.1) tk.updates (λ u h. h.1) I.tags),
          )
          (apply_same made (apply_all (owed aw p tk.updates) (stores p)) (store_after S es b) (I.serial_with_owed p below)))
          (λ e. rw (ne_eqb _ _ e, new_end)
          (Same_trans (apply_all (owed aw q tk.updates) (stores q)) (store_after S es b) (apply_update made (store_after S es b))
          (I.serial_with_owed q h) (unheard q e (store_after S es b))))

      immediate_giving : (i : ℕ) → get_or (past ++ (said ∷ [])) i []
          ≡ due S i (insert (place n) new es) b
      immediate_giving i =
          by_same i (length past)
          (λ e. rw e
          (get_or_push past said [] (length past) refl
          ∙ rw (Runs.reply_same S L {P = Hears S p} t.op (stores p) at_spot reads_heard (I.serial_at_place p below))
          (sym (Runs.mid_due_own S L p new hr (upto (place n) spot es) (beyond (place n) spot es) b (I.own_not_beyond p below)
          (rw (Sorting.upto_beyond (place n) spot es) (sym (I.giving (length past)) ∙ get_or-eq_default past [] (le_refl _)))))))
          (λ e. snoc_other past said i e ∙ I.giving i
          ∙ sym (Runs.mid_due_other S L p new hr (upto (place n) spot es) (beyond (place n) spot es) b (I.own_not_beyond p below) i
          (λ k. e (sym k))
          ∙ ap (λ (l : List (Finished Op)). due S i l b) (Sorting.upto_beyond (place n) spot es)))

      pub immediate_inv : Inv S b (assign p left.store stores) queues aw g m (insert (place n) new es)
          (past ++ (said ∷ [])) fs tk
      immediate_inv =
          record {
            wait_low = I.wait_low;
            wait_high = I.wait_high;
            wait_mod = I.wait_mod;
            frames = I.frames;
            tags = I.tags;
            g_low = I.g_low;
            turns = I.turns;
            low = Sorting.All_insert (place n) (Low (place n) (place_at n m n)) new es
                (omega (arith, place_mono S L {j = g p} {k = m} 0 (I.g_low p))) I.low;
            own_not_beyond = λ q h. by_same q p
                (λ e. rw e (rw (Sorting.beyond_insert_hi (place n) spot new es (le_refl _)) (I.own_not_beyond p below)))
                (λ e. Sorting.beyond_insert (place n) (BehindOf S q) (place_at n (g q) (suc q)) new es (at_not p q t.op e hr)
                (I.own_not_beyond q h));
            others_beyond = λ q h. by_same q p (λ e. rw e
                (rw (Sorting.beyond_insert_hi (place n) (place_at n m (suc p)) new es (place_mono S L (suc p) (I.g_low p)))
                (I.others_beyond p below)))
                (λ e. Sorting.beyond_insert (place n) (BesideOf S q) (place_at n m (suc q)) new es (at_elsewhere p q t.op e hr)
                (I.others_beyond q h));
            serial_at_place = immediate_serial_at_place;
            serial_with_owed = immediate_serial_with_owed;
            queued = I.queued;
            giving = immediate_giving;
          }
