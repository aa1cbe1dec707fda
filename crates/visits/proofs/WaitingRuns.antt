-- Waiting requests run one after another: the store, the updates' words and the replies' words, with what is still to run.
-- Assumes nothing.
use mathlib.Core.Path.{◌≡◌, refl, ◌∙◌, sym, ap, ap₂}
use mathlib.Core.Bool.{true}
use mathlib.Core.List.{List, [], ◌∷◌, ◌++◌}
use Prim.Native.Nat.{ℕ, ◌+◌, ◌-◌, ◌*◌, ◌≤◌}
use native.Mathlib.Omega.{arith}
use lib.ListN.{length, take, drop, length-append, length-drop}
use borrow.Rule.Slice.PartMut.{put_mid}
use Rattle.verdict.specs.Verdict.{accepted}
use Rattle.verdict.proofs.Verdicts.{is_accepted_accepted}
use Rattle.lists.specs.Lists.{overwritten}
use Rattle.lists.proofs.Laws.{and_fst, and_snd}
use Rattle.std.proofs.lemmas.List.{take_rest}
use Rattle.lists.proofs.Laws.{Filling, fill_none, fill_size, fill_length, fill_same, fill_part, fill_done, put_remainder}
use Rattle.std.specs.List.{list_all}
use Rattle.plan.specs.Plan.{Plan}
use Rattle.operation.specs.Store.{Store, apply_update}
use Rattle.execution.specs.Run.{Outcome, run}
use Rattle.frame.specs.Frame.{sent, update_words, updates_words}
use Rattle.operation.specs.Admission.{operation_verdict}
use Rattle.queue.specs.declared.record.Request.{Request}
use Rattle.desk.specs.Queueing.{operation_of}
use Rattle.operation.specs.declared.operation.Operation.{Operation}
use Rattle.desk.specs.Asked.{IsAsked}
use Rattle.desk.proofs.Asked.{asked_run}
use Rattle.visits.specs.Waiting.{run_all, updates_of, replies_of, reply_words, replies_words, reply_size, answered}
use Rattle.visits.specs.Running.{is_operation, run_of, reply_to, made_words, all_made, all_replies, Runs, Ran, AllRun, AllRan}

-- ---- the first of them, and those behind it

abbrev after : Plan → Request → Store → Store
after p r s = apply_update (run p (operation_of r) s).update s

-- the words of the update that a request makes
abbrev made : Plan → ℕ → Request → Store → List ℕ
made p desk r s = update_words (sent desk (run p (operation_of r) s).update)

module _ (p : Plan) (desk : ℕ) (r : Request) (rs : List Request) (s : Store) where
  store_first : run_all p (r ∷ rs) s ≡ run_all p rs (after p r s)
  unfolding run_all
  store_first = refl

  made_first : all_made p desk (r ∷ rs) s ≡ made p desk r s ++ all_made p desk rs (after p r s)
  unfolding all_made updates_of updates_words
  made_first = refl

  replies_first : all_replies p (r ∷ rs) s ≡ reply_words (reply_to p r s) ++ all_replies p rs (after p r s)
  unfolding all_replies replies_of replies_words
  replies_first = refl

module _ (p : Plan) (desk : ℕ) (s : Store) where
  made_none : all_made p desk [] s ≡ []
  unfolding all_made updates_of updates_words
  made_none = refl

  replies_none : all_replies p [] s ≡ []
  unfolding all_replies replies_of replies_words
  replies_none = refl

  store_none : run_all p [] s ≡ s
  unfolding run_all
  store_none = refl

pub replies_length : (p : Plan) (rs : List Request) (s : Store) → length (all_replies p rs s) ≡ reply_size * length rs
unfolding all_replies replies_of replies_words
replies_length p [] s = refl
replies_length p (r ∷ rs) s = omega (arith, replies_length p rs (after p r s))

-- ---- the first `at` of the waiting requests have run, and these are left

pub record Running (p : Plan) (desk : ℕ) (rs : List Request) (s₀ o₀ q₀ s o q : List ℕ) (end at : ℕ) (left : List Request) : Type 0 where
  pub operations : list_all (is_operation p) left ≡ true
  pub store : run_all p left s ≡ run_all p rs s₀
  pub words : Filling (all_made p desk rs s₀) o₀ o end (all_made p desk left s)
  pub replies : Filling (all_replies p rs s₀) q₀ q (at * reply_size) (all_replies p left s)

module _ {p : Plan} {desk : ℕ} {rs : List Request} {s₀ o₀ q₀ : List ℕ} (a : AllRun p rs desk s₀ o₀ q₀) where
  pub running_start : {left : List Request} → left ≡ rs → Running p desk rs s₀ o₀ q₀ s₀ o₀ q₀ 0 0 left
  running_start e =
      rw e (record { operations = a.operations; store = refl; words = fill_none _ o₀; replies = fill_none _ q₀ })

  module _ {s o q : List ℕ} {end at : ℕ} {left : List Request} (v : Running p desk rs s₀ o₀ q₀ s o q end at left) where
    words_kept : length o ≡ length o₀
    words_kept = fill_length v.words a.room

    replies_kept : length q ≡ length q₀
    replies_kept = fill_length v.replies (omega (arith, a.reply_room, replies_length p rs s₀))

    module _ {r : Request} {rest : List Request} (e : left ≡ r ∷ rest) where
      here : list_all (is_operation p) (r ∷ rest) ≡ true
      here = sym (ap (list_all (is_operation p)) e) ∙ v.operations

      pub passes : operation_verdict p (operation_of r) ≡ accepted
      passes = is_accepted_accepted (operation_verdict p (operation_of r)) (and_fst (is_operation p r) _ here)

      words_here : Filling (all_made p desk rs s₀) o₀ o end (made p desk r s ++ all_made p desk rest (after p r s))
      words_here = fill_same v.words (ap (λ (l : List Request). all_made p desk l s) e ∙ made_first p desk r rest s)

      replies_here : Filling (all_replies p rs s₀) q₀ q (at * reply_size) (reply_words (reply_to p r s) ++ all_replies p rest (after p r s))
      replies_here = fill_same v.replies (ap (λ (l : List Request). all_replies p l s) e ∙ replies_first p desk r rest s)

      pub reply_room_here : at * reply_size + reply_size ≤ length q
      reply_room_here =
          omega (
            arith,
            fill_size replies_here,
            length-append (reply_words (reply_to p r s)) (all_replies p rest (after p r s)),
            replies_kept,
            replies_length p rs s₀,
            a.reply_room,
          )

      -- it runs, as the operation that it asks for, on what is left of both
      module _ {x : Operation} (asked : IsAsked p r x) where
        ran : run_of x s ≡ run p (operation_of r) s
        ran = asked_run p r x asked s

        made_by : made_words x desk s ≡ made p desk r s
        made_by = ap (λ (u : Outcome). update_words (sent desk u.update)) ran

        pub room_here : end + length (made_words x desk s) ≤ length o
        room_here =
            rw made_by (omega (
              arith,
              fill_size words_here,
              length-append (made p desk r s) (all_made p desk rest (after p r s)),
              words_kept,
              a.room,
            ))

        pub runs : Runs x desk s (take (length o - end) (drop end o)) (take (length q - at * reply_size) (drop (at * reply_size) q))
        runs =
            record {
              room = omega (arith, room_here, ap length (take_rest o end), length-drop end o);
              reply_room = omega (
                arith,
                reply_room_here,
                ap length (take_rest q (at * reply_size)),
                length-drop (at * reply_size) q,
              );
            }

        pub next : {words : ℕ} {s' o' q' : List ℕ}
            → Ran x r.client desk s (take (length o - end) (drop end o))
            (take (length q - at * reply_size) (drop (at * reply_size) q)) words s' o' q'
            → Running p desk rs s₀ o₀ q₀ s' (put_mid end (length o - end) o o')
            (put_mid (at * reply_size) (length q - at * reply_size) q q') (end + words) (at + 1) rest
        next {words = words} {s' = s'} {o' = o'} {q' = q'} y =
            let count : words ≡ length (made p desk r s) = y.count ∙ ap length made_by in
            let store : s' ≡ after p r s = y.store ∙ ap (λ (u : Outcome). apply_update u.update s) ran in
            let wrote : o' ≡ overwritten (made p desk r s) (drop end o) = y.update ∙ ap₂ overwritten made_by (take_rest o end) in
            let replied : q' ≡ overwritten (reply_words (reply_to p r s)) (drop (at * reply_size) q) =
            y.reply
            ∙ ap₂ (λ (u : Outcome). overwritten (reply_words (answered r.client u.reply))) ran (take_rest q (at * reply_size)) in
            let place : (at + 1) * reply_size ≡ at * reply_size + reply_size = omega arith in
            record {
              operations = and_snd (is_operation p r) _ here;
              store = ap (run_all p rest) store ∙ sym (store_first p desk r rest s) ∙ ap (λ (l : List Request). run_all p l s) (sym e)
                  ∙ v.store;
              words = rw (put_remainder o o' end, wrote, count, store) (fill_part (made p desk r s) words_here);
              replies = rw (put_remainder q q' (at * reply_size), replied, store, place) (fill_part (reply_words
                  (reply_to p r s)) replies_here);
            }

    pub all_ran : left ≡ [] → AllRan p rs desk s₀ o₀ q₀ end s o q
    all_ran none =
        let w = fill_done (fill_same v.words (ap (λ (l : List Request). all_made p desk l s) none ∙ made_none p desk s)) in
        let r = fill_done (fill_same v.replies (ap (λ (l : List Request). all_replies p l s) none ∙ replies_none p desk s)) in
        record {
          count = w.1;
          store = sym (store_none p desk s) ∙ ap (λ (l : List Request). run_all p l s) (sym none) ∙ v.store;
          updates = w.0;
          answers = r.0;
        }
