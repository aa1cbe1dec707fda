-- An accepted visit: its queue becomes the last globals, and what holds after every call is kept.
-- Assumes nothing.
use Prim.Native.Nat.{ℕ, suc, ◌+◌, ◌%◌, ◌≤◌, ◌<◌}
use mathlib.Core.Path.{◌≡◌, refl, sym, ◌∙◌, ap, subst}
use mathlib.Core.Logic.{◌≢◌, inl, inr}
use mathlib.Core.List.{List, [], ◌∷◌, ◌++◌, append-nil}
use native.Mathlib.Omega.{arith}
use native.Mathlib.Nat.{add-mod_right, le_refl}
use lib.ListN.{length, get_or, get_or-eq_default}
use Rattle.std.proofs.lemmas.Bool.{eq-eqb, ne_eqb}
use Rattle.std.proofs.lemmas.List.{get_or_push}
use Rattle.lists.proofs.Laws.{by_same, by_less, All_append, All_part, snoc_other}
use Rattle.std.specs.List.{AllByRecursion}
use Rattle.lists.specs.Lists.{assign}
use Rattle.serial.specs.Store.{Store, Update, apply_all, Same, Within}
use Rattle.serial.specs.Frame.{Frame, foreign, tag}
use Rattle.serial.specs.Desk.{Request, Desk, given, sent}
use Rattle.serial.specs.System.{System, Laws}
use Rattle.serial.specs.Step.{run_all, replies_of, updates_of, caught_up, outgoing, visit_step}
use Rattle.serial.specs.Order.{Finished, place_at, place, upto, beyond}
use Rattle.serial.specs.SerialRun.{ranked, store_after, due}
use Rattle.serial.specs.Hearing.{Hears, owed}
use Rattle.serial.proofs.Stores.{Same_trans, apply_all_same, apply_all_append}
use Rattle.serial.proofs.Sorting
use Rattle.serial.proofs.Sorting.{Low}
use Rattle.serial.proofs.Conflicts
use Rattle.serial.proofs.Conflicts.{NotOf, BesideOf, BehindOf, ReadsIn, OfDesk, OutCell, Tagged}
use Rattle.serial.proofs.Runs
use Rattle.serial.proofs.Queues
use Rattle.serial.proofs.Token
use Rattle.serial.proofs.Invariant.{Known, Inv, place_mono, upto_hears}
use Rattle.serial.proofs.Ranked.{ranked_low, ranked_high, ranked_all, ranked_beyond}

module _ (S : System) (L : Laws S) where
  open S use {n, Op, Reply}

  module _ {b : Store} {stores : ℕ → Store} {queues : ℕ → List (Request Op)} {aw g : ℕ → ℕ} {m : ℕ} {es : List (Finished Op)}
      {past : List (List (ℕ × Reply))} {fs : List Frame} {tk : Frame} (I : Inv S b stores queues aw g m es past fs tk)
      (p : ℕ) (below : p < n) where
    -- ---- Visit tk .number at desk p

    module _ (turn : tk.number ≡ aw p) where
      -- desk p before the visit, and as the visit leaves it
      abbrev d : Desk Op
      d = record { store = stores p; queue = queues p; awaited = aw p }

      abbrev left : Desk Op
      left = (visit_step S p d tk).0

      abbrev mine : Store
      mine = caught_up S p d tk

      abbrev queue : List (Request Op)
      queue = queues p

      abbrev news : List Update
      news = updates_of S queue mine

      abbrev out : Frame
      out = outgoing S p d tk

      abbrev aw' : ℕ → ℕ
      aw' = assign p left.awaited aw

      abbrev g' : ℕ → ℕ
      g' = assign p (m + length queue) g

      abbrev last : List (Finished Op)
      last = ranked S (length past) m queue

      abbrev end : Store
      end = store_after S es b

      -- every other desk's turn is later
      later : (q : ℕ) → q < n → q ≢ p → aw p < aw q
      later q h ne = by_less (aw p) (aw q) (λ l. l)
          (λ l. let e : aw q ≡ aw p = omega (arith, I.wait_low q h) in
          absurd (ne (sym (I.wait_mod q h) ∙ ap (λ (x : ℕ). x % n) e ∙ I.wait_mod p below)))

      -- with the others' updates in, the desk's store is the serial one at the end, and the queue runs on either alike
      mine_end : Same (Hears S p) mine end
      mine_end =
          subst (λ (us : List Update). Same (Hears S p) (apply_all us (stores p)) end)
          (Token.owed_now aw p tk.updates
          (All_part (Tagged S) (λ (u : ℕ × Update). u.0 ≢ p → aw p < aw u.0) tk.updates (λ u h. later u.0 h.0) I.tags))
          (I.serial_with_owed p below)

      reading : AllByRecursion (ReadsIn S (Hears S p)) queue
      reading = All_part (OfDesk S p) (ReadsIn S (Hears S p)) queue (λ t d c r. Conflicts.desk_hears S L p t.op c d (inl r))
          (I.queued p)

      end_queue : store_after S (es ++ last) b ≡ run_all S queue end
      end_queue = Runs.store_after_append S L es last b ∙ Queues.ranked_store S L (length past) m queue end

      mine_after : Same (Hears S p) (run_all S queue mine) (store_after S (es ++ last) b)
      mine_after = rw end_queue (Queues.run_all_same S L (Hears S p) queue mine end reading mine_end)

      news_end : apply_all news end ≡ store_after S (es ++ last) b
      news_end =
          ap (λ (us : List Update). apply_all us end) (Queues.updates_same S L (Hears S p) queue mine end reading mine_end)
          ∙ sym (Queues.run_all_updates S L queue end) ∙ sym end_queue

      -- what each desk is owed by the frame that goes out
      sent_tags : AllByRecursion (Tagged S) out.updates
      sent_tags =
          All_append (Tagged S) (foreign p tk.updates) (tag p news) (Token.all_foreign (Tagged S) p tk.updates I.tags)
          (Token.all_tagged (Tagged S) p news
          (All_part (Within (OutCell S p)) (λ (u : Update). Tagged S (p, u)) news (λ u h. (below, h))
          (Queues.updates_out S L p queue mine (I.queued p))))

      owed_own : owed aw' p out.updates ≡ []
      owed_own =
          Token.owed_none aw' p out.updates
          (All_part (Tagged S) (λ (u : ℕ × Update). aw' u.0 ≤ aw' p) out.updates
          (λ u h. by_same u.0 p (λ e. rw (eq-eqb _ _ e, eq-eqb p p refl) (le_refl _))
          (λ e. rw (ne_eqb _ _ e, eq-eqb p p refl) (omega (arith, I.wait_high u.0 h.0)))) sent_tags)

      owed_other : (q : ℕ) → q < n → q ≢ p → owed aw' q out.updates ≡ owed aw q tk.updates ++ news
      owed_other q h ne =
          Token.owed_append aw' q (foreign p tk.updates) (tag p news)
          ∙ rw (
            Token.owed_later aw aw' p q tk.updates (λ r k. rw (ne_eqb _ _ k) refl) ne (omega (arith, later q h ne)),
            Token.owed_all aw' q p news (rw (ne_eqb _ _ ne, eq-eqb p p refl) (I.wait_high q h)),
          )
          refl

      visit_others_beyond : (q : ℕ) → q < n
          → AllByRecursion (BesideOf S q) (beyond (place n) (place_at n (m + length queue) (suc q)) (es ++ last))
      visit_others_beyond q h = ranked_beyond S L (BesideOf S q) q (length past) m es queue I.low (I.others_beyond q h)

      visit_own_not_beyond : (q : ℕ) → q < n → AllByRecursion (BehindOf S q) (beyond (place n) (place_at n (g' q) (suc q)) (es ++ last))
      visit_own_not_beyond q h =
          by_same q p
          (λ e. rw (e, eq-eqb p p refl)
          (ranked_beyond S L (BehindOf S p) p (length past) m es queue I.low
          (Sorting.beyond_mono (place n) (BehindOf S p) (place_at n (g p) (suc p)) (place_at n m (suc p)) es
          (place_mono S L (suc p) (I.g_low p)) (I.own_not_beyond p below))))
          (λ e. rw (ne_eqb _ _ e)
          (Sorting.beyond_append (place n) (BehindOf S q) (place_at n (g q) (suc q)) es last (I.own_not_beyond q h)
          (ranked_all S L (NotOf S q) (length past) m queue
          (All_part (OfDesk S p) (λ (t : Request Op). NotOf S q t.op) queue (λ t d. inr (λ k. e (sym k ∙ d))) (I.queued p)))))

      visit_serial_at_place : (q : ℕ) → q < n → Same (Hears S q) (assign p left.store stores q)
          (store_after S (upto (place n) (place_at n (g' q) (suc q)) (es ++ last)) b)
      visit_serial_at_place q h =
          let k : ℕ = place_at n (m + length queue) (suc p) in
          by_same q p
          (λ e. rw (e, eq-eqb p p refl)
          (Same_trans (run_all S queue mine) (store_after S (es ++ last) b) (store_after S (upto (place n) k (es ++ last)) b) mine_after
          (upto_hears S L p k (es ++ last) b (visit_others_beyond p below))))
          (λ e. rw (ne_eqb _ _ e)
          (rw
          (Sorting.upto_append (place n) (place_at n (g q) (suc q)) es last
          (ranked_high S L (length past) (place_at n (g q) (suc q)) m queue
          (omega (arith, place_mono S L {j = g q} {k = m} 0 (I.g_low q)))))
          (I.serial_at_place q h)))

      visit_serial_with_owed : (q : ℕ) → q < n →
          Same (Hears S q) (apply_all (owed aw' q out.updates) (assign p left.store stores q))
          (store_after S (es ++ last) b)
      visit_serial_with_owed q h =
          by_same q p
          (λ e. rw (e, owed_own) (rw (eq-eqb p p refl) mine_after))
          (λ e. rw (owed_other q h e) (rw (ne_eqb _ _ e)
          (rw (apply_all_append (owed aw q tk.updates) news (stores q), ← news_end)
          (apply_all_same news (apply_all (owed aw q tk.updates) (stores q)) end (I.serial_with_owed q h)))))

      visit_giving : (i : ℕ) → get_or (past ++ (replies_of S queue mine ∷ [])) i [] ≡ due S i (es ++ last) b
      visit_giving i =
          by_same i (length past)
          (λ e. rw e
          (get_or_push past (replies_of S queue mine) [] (length past) refl
          ∙ Queues.replies_same S L (Hears S p) queue mine end reading mine_end
          ∙ sym
          (Runs.due_append S L (length past) es last b
          ∙ rw (← I.giving (length past), get_or-eq_default past [] (le_refl (length past)))
          (Queues.ranked_due S L (length past) m queue end))))
          (λ e. snoc_other past (replies_of S queue mine) i e ∙ I.giving i
          ∙ sym (Runs.due_append S L i es last b
          ∙ rw (Queues.ranked_due_other S L (length past) i m queue end (λ k. e (sym k))) (append-nil (due S i es b))))

      visit_turns : (q r : ℕ) → q < n → r < n → aw' q ≤ aw' r → g' q ≤ g' r
      visit_turns q r h l k =
          by_same r p
          (λ e. rw (eq-eqb _ _ e) (by_same q p (λ i. rw (eq-eqb _ _ i) (le_refl _)) (λ i. rw (ne_eqb _ _ i) (omega (arith, I.g_low q)))))
          (λ e. let k' : aw' q ≤ aw r = rw (ne_eqb _ _ e) at k in
          rw (ne_eqb _ _ e)
          (by_same q p (λ i. let k'' : tk.number + n ≤ aw r = rw (eq-eqb _ _ i) at k' in absurd (omega (arith, I.wait_high r l)))
          (λ i. rw (ne_eqb _ _ i) (I.turns q r h l (rw (ne_eqb _ _ i) at k')))))

      pub visit_inv : Inv S b (assign p left.store stores) (assign p left.queue queues) aw' g' (m + length queue) (es ++ last)
          (past ++ (given (visit_step S p d tk).1 ∷ [])) (fs ++ sent (visit_step S p d tk).1) out
      visit_inv =
          record {
            wait_low = λ q h. by_same q p (λ e. rw (eq-eqb _ _ e) (omega (arith, L.some_desk)))
                (λ e. rw (ne_eqb _ _ e) (omega (arith, later q h e)));
            wait_high = λ q h. by_same q p (λ e. rw (eq-eqb _ _ e) (omega arith)) (λ e. rw (ne_eqb _ _ e) (omega (arith, I.wait_high q h)));
            wait_mod = λ q h. by_same q p (λ e. rw (eq-eqb _ _ e)
                (rw e (add-mod_right tk.number n ∙ ap (λ (x : ℕ). x % n) turn ∙ I.wait_mod p below)))
                (λ e. rw (ne_eqb _ _ e) (I.wait_mod q h));
            frames = All_append (Known out) fs (out ∷ [])
                (All_part (Known tk) (Known out) fs (λ f h. (omega (arith, h.0), λ e. absurd (omega (arith, h.0)))) I.frames)
                ((le_refl _, λ e. refl), tt);
            tags = sent_tags;
            g_low = λ q. by_same q p (λ e. rw (eq-eqb _ _ e) (le_refl _)) (λ e. rw (ne_eqb _ _ e) (omega (arith, I.g_low q)));
            turns = visit_turns;
            low = All_append (Low (place n) (place_at n (m + length queue) n)) es last
                (All_part (Low (place n) (place_at n m n)) (Low (place n) (place_at n (m + length queue) n)) es
                (λ e h. omega (arith, place_mono S L {j = m} {k = m + length queue} n (omega arith))) I.low)
                (All_part (Low (place n) (place_at n (m + length queue) 0)) (Low (place n) (place_at n (m + length queue) n)) last
                (λ e h. omega arith) (ranked_low S L (length past) m queue));
            own_not_beyond = visit_own_not_beyond;
            others_beyond = visit_others_beyond;
            serial_at_place = visit_serial_at_place;
            serial_with_owed = visit_serial_with_owed;
            queued = λ q. by_same q p (λ e. rw (eq-eqb _ _ e) tt) (λ e. rw (ne_eqb _ _ e) (I.queued q));
            giving = visit_giving;
          }
