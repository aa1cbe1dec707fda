-- Laws of runs: which cells a run looks at and changes, and one run more in the middle of a serial order.
-- Assumes nothing.
use Prim.Native.Nat.{ℕ}
use mathlib.Core.Path.{◌≡◌, refl, sym, ◌∙◌, ap}
use mathlib.Core.Logic.{◌≢◌, inl, inr}
use mathlib.Core.List.{List, [], ◌∷◌, ◌++◌}
use Rattle.std.proofs.lemmas.Bool.{eq-eqb, ne_eqb}
use Rattle.lists.proofs.Laws.{by_same, none_left, none_right}
use Rattle.std.specs.List.{AllByRecursion}
use Rattle.serial.specs.Store.{Store, Update, apply_update, Same, Within}
use Rattle.serial.specs.System.{System, Laws, Touches}
use Rattle.serial.specs.Step.{run_one}
use Rattle.serial.specs.Order.{Finished}
use Rattle.serial.specs.SerialRun.{store_after, due}
use Rattle.serial.specs.Hearing.{OwnCell}
use Rattle.serial.proofs.Stores.{Same_refl, Same_trans, Same_part, apply_same, apply_off, apply_swap, Within_part}
use Rattle.serial.proofs.Conflicts.{RunsAt, BehindOf, Leaves, at_own, not_own}

module _ (S : System) (L : Laws S) where
  open S use {Op, Reply, Reads, Writes, reply, update}

  -- ---- One run

  pub reply_same : {P : ℕ → Type 0} (o : Op) (a b : Store) → ((c : ℕ) → Reads o c → P c) → Same P a b → reply o a ≡ reply o b
  reply_same o a b f s = L.reply_reads o a b (Same_part a b f s)

  pub update_same : {P : ℕ → Type 0} (o : Op) (a b : Store) → ((c : ℕ) → Reads o c → P c) → Same P a b → update o a ≡ update o b
  update_same o a b f s = L.update_reads o a b (Same_part a b f s)

  pub run_one_same : {P : ℕ → Type 0} (o : Op) (a b : Store) → ((c : ℕ) → Reads o c → P c) → Same P a b →
      Same P (run_one S o a) (run_one S o b)
  run_one_same {P} o a b f s = rw (update_same {P = P} o a b f s) (apply_same (update o b) a b s)

  pub run_one_off : {P : ℕ → Type 0} (o : Op) (a : Store) → ((c : ℕ) → P c → Writes o c → ⊥) → Same P (run_one S o a) a
  run_one_off o a f = apply_off {Q = Writes o} (update o a) a (L.update_writes o a) f

  -- a write to cells that o does not touch goes past a run of o
  module _ {Q : ℕ → Type 0} (o : Op) (u : Update) (a : Store) (w : Within Q u) (f : (c : ℕ) → Q c → Touches S o c → ⊥) where
    unread : Same (Reads o) (apply_update u a) a
    unread = apply_off {Q = Q} u a w (λ c r q. f c q (inl r))

    pub reply_past : reply o (apply_update u a) ≡ reply o a
    reply_past = L.reply_reads o (apply_update u a) a unread

    pub run_one_past : run_one S o (apply_update u a) ≡ apply_update u (run_one S o a)
    run_one_past =
        rw (L.update_reads o (apply_update u a) a unread)
        (apply_swap {P = Writes o} {Q = Q} (update o a) u a (L.update_writes o a) w (λ c h q. f c q (inr h)))

  -- ---- Runs in serial order

  pub store_after_append : (xs ys : List (Finished Op)) (b : Store) → store_after S (xs ++ ys) b ≡ store_after S ys (store_after S xs b)
  store_after_append [] ys b = refl
  store_after_append (x ∷ xs) ys b = store_after_append xs ys (run_one S x.request.op b)

  pub due_append : (i : ℕ) (xs ys : List (Finished Op)) (b : Store) → due S i (xs ++ ys) b ≡ due S i xs b ++ due S i ys (store_after S xs b)
  due_append i [] ys b = refl
  due_append i (x ∷ xs) ys b =
      by_same x.by i (λ e. rw (eq-eqb _ _ e)
      (ap (λ (l : List (ℕ × Reply)). (x.request.client, reply x.request.op b) ∷ l)
      (due_append i xs ys (run_one S x.request.op b))))
      (λ e. rw (ne_eqb _ _ e) (due_append i xs ys (run_one S x.request.op b)))

  pub store_after_off : {P : ℕ → Type 0} (es : List (Finished Op)) (b : Store) → AllByRecursion (Leaves S P) es →
      Same P (store_after S es b) b
  store_after_off {P} [] b h = Same_refl P b
  store_after_off {P} (e ∷ es) b h =
      Same_trans (store_after S es (run_one S e.request.op b)) (run_one S e.request.op b) b
      (store_after_off es (run_one S e.request.op b) h.1)
      (run_one_off e.request.op b h.0)

  module _ (p : ℕ) (u : Update) (w : Within (OwnCell S p) u) where
    pub store_after_past : (es : List (Finished Op)) (b : Store) → AllByRecursion (BehindOf S p) es →
        store_after S es (apply_update u b) ≡ apply_update u (store_after S es b)
    store_after_past [] b h = refl
    store_after_past (e ∷ es) b h =
        rw (run_one_past {Q = OwnCell S p} e.request.op u b w (not_own S L p e.request.op h.0))
        (store_after_past es (run_one S e.request.op b) h.1)

    pub due_past : (i : ℕ) (es : List (Finished Op)) (b : Store) → AllByRecursion (BehindOf S p) es →
        due S i es (apply_update u b) ≡ due S i es b
    due_past i [] b h = refl
    due_past i (e ∷ es) b h =
        rw (
          reply_past {Q = OwnCell S p} e.request.op u b w (not_own S L p e.request.op h.0),
          run_one_past {Q = OwnCell S p} e.request.op u b w (not_own S L p e.request.op h.0),
          due_past i es (run_one S e.request.op b) h.1,
        )
        refl

  -- e ran at desk p at once, and behind it stands nothing of desk p's
  module _ (p : ℕ) (e : Finished Op) (here : RunsAt S p e.request.op) (xs ys : List (Finished Op)) (b : Store)
      (rest : AllByRecursion (BehindOf S p) ys) where
    abbrev pub made : Update
    made = update e.request.op (store_after S xs b)

    pub made_own : Within (OwnCell S p) made
    made_own = Within_part (Writes e.request.op) (OwnCell S p) made (λ c. at_own S L p e.request.op c here)
        (L.update_writes e.request.op (store_after S xs b))

    pub mid_store : store_after S (xs ++ (e ∷ ys)) b ≡ apply_update made (store_after S (xs ++ ys) b)
    mid_store =
        rw (store_after_append xs (e ∷ ys) b, store_after_append xs ys b)
        (store_after_past p made made_own ys (store_after S xs b) rest)

    pub mid_due : (i : ℕ) → due S i (xs ++ (e ∷ ys)) b
        ≡ due S i xs b ++ (due S i (e ∷ []) (store_after S xs b) ++ due S i ys (store_after S xs b))
    mid_due i =
        rw (due_append i xs (e ∷ ys) b)
        (ap (λ (l : List (ℕ × Reply)). due S i xs b ++ l)
        (by_same e.by i
        (λ k. rw (eq-eqb _ _ k) (ap (λ (l : List (ℕ × Reply)). (e.request.client, reply e.request.op (store_after S xs b)) ∷ l)
        (due_past p made made_own i ys (store_after S xs b) rest)))
        (λ k. rw (ne_eqb _ _ k) (due_past p made made_own i ys (store_after S xs b) rest))))

    pub mid_due_other : (i : ℕ) → e.by ≢ i → due S i (xs ++ (e ∷ ys)) b ≡ due S i (xs ++ ys) b
    mid_due_other i k = mid_due i ∙ rw (ne_eqb _ _ k) (sym (due_append i xs ys b))

    pub mid_due_own : due S e.by (xs ++ ys) b ≡ [] → due S e.by (xs ++ (e ∷ ys)) b
        ≡ (e.request.client, reply e.request.op (store_after S xs b)) ∷ []
    mid_due_own k =
        let a : due S e.by xs b ++ due S e.by ys (store_after S xs b) ≡ [] = sym (due_append e.by xs ys b) ∙ k in
        mid_due e.by ∙
        rw (
          none_left (due S e.by xs b) (due S e.by ys (store_after S xs b)) a,
          none_right (due S e.by xs b) (due S e.by ys (store_after S xs b)) a,
          eq-eqb e.by e.by refl,
        )
        refl
