-- Laws of the order of those that wait.
--     lead_parts, lead_first       those in order are the urgent ones and behind them the others; so are those put in order
--     urgent_lead_means            the test, over all places
--     lead_behind_lem, lead_broken, lead_behind_none       the test from a place on, by whether the one before is urgent
--     urgent_joins, other_joins, joins_at_place, join_keeps_order      how a request joins those that wait
--     join_length, join_place_fits, join_member, member_join, join_map  the queue that it joined: its length, its members, and mapped
--     first_joins                  joining those put in order is the same as arriving and then being put in order
-- Assumes nothing.
use mathlib.Core.Path.{◌≡◌, refl, ◌∙◌, sym, ap, ap₂}
use mathlib.Core.Logic.{⊎_elim}
use mathlib.Core.Bool.{Bool, true, false, not, ◌||◌, cond, false≢true}
use mathlib.Core.List.{List, [], ◌∷◌, ◌++◌, map, map-append, append-nil, append_assoc}
use mathlib.Core.List.Memᴰ
use mathlib.Core.List.{Memᴰ}
use Prim.Native.Nat.{ℕ, zero, suc, ◌+◌, ◌≤◌, ◌<◌, suc-le-suc}
use native.Mathlib.Nat.{not-suc-le-zero, le_of_suc-le-suc}
use native.Mathlib.Omega.{arith}
use lib.ListN.{length, get_or, drop, length-append}
use lib.Seq.{append_snoc, take-length, drop-length, take-append_seam, drop-append_seam}
use borrow.Author.Tests.{not-true}
use Rattle.std.specs.List.{list_all, list_any, filter, prefix_len, insert}
use Rattle.std.proofs.lemmas.List.Folds.{list_any_at}
use Rattle.lists.proofs.Laws.{and_fst, and_snd, any_index, cons_in_snoc, snoc_in_cons}
use Rattle.std.proofs.lemmas.List.Elements.{filter-append}
use Rattle.lists.proofs.Laws.{filter_yes, filter_no, filter_short, all_filter, filter_none, filter_all, filter_member}
use Rattle.std.proofs.lemmas.List.Filters.{length-filter_both}
use Rattle.lists.proofs.Laws.{map_filter, any_fails, filter_fails, fails_filter, member_either}
use Rattle.desk.specs.Queueing.{urgent_first, join_queue}
use Rattle.desk.specs.Priority.{urgent_lead, UrgentLeadMeans, join_place, JoinsAtPlace, JoinKeepsOrder, UrgentJoins, OtherJoins}

module _ {A : Type 0} (urgent : A → Bool) where
  abbrev other : A → Bool
  other r = not (urgent r)

  -- ---- in order

  -- behind one that is not urgent none is
  none_behind : (b : Bool) (rs : List A) → b ≡ false → cond b (urgent_lead urgent rs) (not (list_any urgent rs)) ≡ true
      → list_any urgent rs ≡ false
  none_behind true rs p e = absurd (false≢true (sym p))
  none_behind false rs p e = not-true (list_any urgent rs) e

  pub lead_parts : (rs : List A) → urgent_lead urgent rs ≡ true → urgent_first urgent rs ≡ rs
  unfolding urgent_lead
  lead_parts [] e = refl
  lead_parts (r ∷ rs) e = go (urgent r) e (lead_parts rs)
    where
      go : (b : Bool) → cond b (urgent_lead urgent rs) (not (list_any urgent rs)) ≡ true
          → (urgent_lead urgent rs ≡ true → urgent_first urgent rs ≡ rs)
          → cond b (r ∷ filter urgent rs) (filter urgent rs) ++ cond (not b) (r ∷ filter other rs) (filter other rs) ≡ r ∷ rs
      go true p q = ap (◌∷◌ r) (q p)
      go false p q =
          ap₂ (λ (xs ys : List A). xs ++ (r ∷ ys)) (filter_none urgent rs (not-true (list_any urgent rs) p))
          (filter_fails urgent rs (not-true (list_any urgent rs) p))

  lead_none : (rs : List A) → list_any urgent rs ≡ false → urgent_lead urgent rs ≡ true
  unfolding urgent_lead
  lead_none [] e = refl
  lead_none (r ∷ rs) e = go (urgent r) e
    where
      go : (b : Bool) → (b || list_any urgent rs) ≡ false → cond b (urgent_lead urgent rs) (not (list_any urgent rs)) ≡ true
      go true p = absurd (false≢true (sym p))
      go false p = ap not p

  lead_append : (xs ys : List A) → list_all urgent xs ≡ true → urgent_lead urgent ys ≡ true → urgent_lead urgent (xs ++ ys) ≡ true
  unfolding urgent_lead
  lead_append [] ys e l = l
  lead_append (x ∷ xs) ys e l =
      ap (λ (b : Bool). cond b (urgent_lead urgent (xs ++ ys)) (not (list_any urgent (xs ++ ys))))
      (and_fst (urgent x) (list_all urgent xs) e)
      ∙ lead_append xs ys (and_snd (urgent x) (list_all urgent xs) e) l

  pub lead_first : (rs : List A) → urgent_lead urgent (urgent_first urgent rs) ≡ true
  lead_first rs = lead_append (filter urgent rs) (filter other rs) (all_filter urgent rs) (lead_none _ (any_fails urgent rs))

  -- ---- the test from a place on: `before` says whether the one before is urgent, or that there is none

  abbrev pub lead_behind : Bool → List A → Bool
  lead_behind before rs = cond before (urgent_lead urgent rs) (not (list_any urgent rs))

  pub lead_behind_lem : (before : Bool) (r : A) (rs : List A) → (urgent r ≡ true → before ≡ true)
      → lead_behind before (r ∷ rs) ≡ lead_behind (urgent r) rs
  unfolding urgent_lead
  lead_behind_lem true r rs h = refl
  lead_behind_lem false r rs h = go (urgent r) h
    where
      go : (b : Bool) → (b ≡ true → false ≡ true) → not (b || list_any urgent rs) ≡ lead_behind b rs
      go true f = absurd (false≢true (f refl))
      go false f = refl

  pub lead_broken : (r : A) (rs : List A) → urgent r ≡ true → lead_behind false (r ∷ rs) ≡ false
  lead_broken r rs e = ap (λ (b : Bool). not (b || list_any urgent rs)) e

  pub lead_behind_none : (before : Bool) → lead_behind before [] ≡ true
  unfolding urgent_lead
  lead_behind_none true = refl
  lead_behind_none false = refl

  -- ---- over all places

  abbrev InOrder : A → List A → Type 0
  InOrder d rs = (i j : ℕ) → i < j → j < length rs → urgent (get_or rs i d) ≡ false → urgent (get_or rs j d) ≡ true → ⊥

  lead_places : (d : A) (rs : List A) → urgent_lead urgent rs ≡ true → InOrder d rs
  unfolding urgent_lead
  lead_places d [] e i j l h p q = absurd (not-suc-le-zero h)
  lead_places d (r ∷ rs) e zero zero l h p q = omega arith
  lead_places d (r ∷ rs) e zero (suc j) l h p q =
      false≢true (sym (none_behind (urgent r) rs p e) ∙ list_any_at urgent rs j d (le_of_suc-le-suc h) q)
  lead_places d (r ∷ rs) e (suc i) zero l h p q = omega arith
  lead_places d (r ∷ rs) e (suc i) (suc j) l h p q =
      go (urgent r) e (λ f. lead_places d rs f i j (le_of_suc-le-suc l) (le_of_suc-le-suc h) p q)
    where
      go : (b : Bool) → cond b (urgent_lead urgent rs) (not (list_any urgent rs)) ≡ true → (urgent_lead urgent rs ≡ true → ⊥) → ⊥
      go true f k = k f
      go false f k = k (lead_none rs (not-true (list_any urgent rs) f))

  places_lead : (d : A) (rs : List A) → InOrder d rs → urgent_lead urgent rs ≡ true
  unfolding urgent_lead
  places_lead d [] h = refl
  places_lead d (r ∷ rs) h =
      go (urgent r) refl (list_any urgent rs) refl (places_lead d rs (λ i j l k p q. h (suc i) (suc j) (suc-le-suc l) (suc-le-suc k) p q))
    where
      go : (b : Bool) → urgent r ≡ b → (c : Bool) → list_any urgent rs ≡ c → urgent_lead urgent rs ≡ true
          → cond b (urgent_lead urgent rs) (not c) ≡ true
      go true p c q e = e
      go false p false q e = refl
      go false p true q e =
          let k = any_index urgent rs d q in absurd (h zero (suc k.0) (omega arith) (suc-le-suc k.1) p k.2)

-- the statement
pub urgent_lead_means : UrgentLeadMeans
urgent_lead_means A urgent d rs = (lead_places urgent d rs, places_lead urgent d rs)

-- ---- joining

module _ {A : Type 0} (urgent : A → Bool) (waiting : List A) (r : A) where
  abbrev others : List A → List A
  others rs = filter (λ t. not (urgent t)) rs

  apart : join_queue urgent waiting r
      ≡ (filter urgent waiting ++ filter urgent (r ∷ [])) ++ (others waiting ++ others (r ∷ []))
  apart = ap₂ ◌++◌ (filter-append urgent waiting (r ∷ [])) (filter-append (λ t. not (urgent t)) waiting (r ∷ []))

  join_urgent : urgent r ≡ true → join_queue urgent waiting r ≡ filter urgent waiting ++ (r ∷ others waiting)
  join_urgent e =
      apart
      ∙ ap₂ (λ (xs ys : List A). (filter urgent waiting ++ xs) ++ (others waiting ++ ys)) (filter_yes urgent r [] e)
      (filter_no (λ t. not (urgent t)) r [] (ap not e))
      ∙ ap (λ (ys : List A). filter urgent waiting ++ (r ∷ []) ++ ys) (append-nil (others waiting))
      ∙ append_snoc (filter urgent waiting) r (others waiting)

  join_other : urgent_lead urgent waiting ≡ true → urgent r ≡ false → join_queue urgent waiting r ≡ waiting ++ (r ∷ [])
  join_other l e =
      apart
      ∙ ap₂ (λ (xs ys : List A). (filter urgent waiting ++ xs) ++ (others waiting ++ ys)) (filter_no urgent r [] e)
      (filter_yes (λ t. not (urgent t)) r [] (ap not e))
      ∙ ap (λ (xs : List A). xs ++ (others waiting ++ (r ∷ []))) (append-nil (filter urgent waiting))
      ∙ sym (append_assoc (filter urgent waiting) (others waiting) (r ∷ []))
      ∙ ap (λ (xs : List A). xs ++ (r ∷ [])) (lead_parts urgent waiting l)

  join_place_lem : urgent_lead urgent waiting ≡ true → join_queue urgent waiting r ≡ insert waiting (join_place urgent waiting r) r
  join_place_lem l = go (urgent r) refl
    where
      go : (b : Bool) → urgent r ≡ b → join_queue urgent waiting r
          ≡ insert waiting (cond b (length (filter urgent waiting)) (length waiting)) r
      go true e =
          join_urgent e
          ∙ ap₂ (λ (xs ys : List A). xs ++ (r ∷ ys)) (sym (take-append_seam (filter urgent waiting) (others waiting)))
          (sym (drop-append_seam (filter urgent waiting) (others waiting)))
          ∙ ap (λ (l : List _). insert l (length (filter urgent waiting)) r) (lead_parts urgent waiting l)
      go false e =
          join_other l e ∙ ap₂ (λ (xs ys : List A). xs ++ (r ∷ ys)) (sym (take-length waiting)) (sym (drop-length waiting))

  pub join_place_fits : join_place urgent waiting r ≤ length waiting
  join_place_fits = go (urgent r)
    where
      go : (b : Bool) → cond b (length (filter urgent waiting)) (length waiting) ≤ length waiting
      go true = filter_short urgent waiting
      go false = omega arith

  pub join_length : length (join_queue urgent waiting r) ≡ length waiting + 1
  join_length =
      length-append (filter urgent (waiting ++ (r ∷ []))) _
      ∙ length-filter_both urgent (λ t. not (urgent t)) (λ _. refl) (waiting ++ (r ∷ [])) ∙ length-append waiting (r ∷ [])

  -- it holds what waited and the request, and nothing else
  pub join_member : (t : A) → Memᴰ t (join_queue urgent waiting r) → Memᴰ t (r ∷ waiting)
  join_member t m =
      snoc_in_cons waiting r t
      (⊎_elim (filter_member urgent t (waiting ++ (r ∷ []))) (filter_member (λ s. not (urgent s)) t (waiting ++ (r ∷ [])))
      (Memᴰ.append_cases (filter urgent (waiting ++ (r ∷ []))) m))

  pub member_join : (t : A) → Memᴰ t (r ∷ waiting) → Memᴰ t (join_queue urgent waiting r)
  member_join t m =
      ⊎_elim (λ (k : Memᴰ t (filter urgent (waiting ++ (r ∷ [])))). Memᴰ.append_left (others (waiting ++ (r ∷ []))) k)
      (λ (k : Memᴰ t (others (waiting ++ (r ∷ [])))). Memᴰ.append_right (filter urgent (waiting ++ (r ∷ []))) k)
      (member_either urgent t (waiting ++ (r ∷ [])) (cons_in_snoc waiting r t m))

-- the statements
pub urgent_joins : UrgentJoins
urgent_joins A = join_urgent

pub other_joins : OtherJoins
other_joins A = join_other

pub joins_at_place : JoinsAtPlace
joins_at_place A = join_place_lem

pub join_keeps_order : JoinKeepsOrder
join_keeps_order A urgent waiting r = lead_first urgent (waiting ++ (r ∷ []))

-- ---- mapped, and from those that arrived

pub join_map : {A B : Type 0} (g : A → B) (urgent : B → Bool) (waiting : List A) (r : A)
    → map g (join_queue (λ t. urgent (g t)) waiting r) ≡ join_queue urgent (map g waiting) (g r)
join_map g urgent waiting r =
    map-append g (filter (λ t. urgent (g t)) (waiting ++ (r ∷ []))) (filter (λ t. not (urgent (g t))) (waiting ++ (r ∷ [])))
    ∙ ap₂ ◌++◌ (map_filter g urgent (waiting ++ (r ∷ []))) (map_filter g (λ t. not (urgent t)) (waiting ++ (r ∷ [])))
    ∙ ap (urgent_first urgent) (map-append g waiting (r ∷ []))

pub first_joins : {A : Type 0} (urgent : A → Bool) (arrived : List A) (r : A)
    → join_queue urgent (urgent_first urgent arrived) r ≡ urgent_first urgent (arrived ++ (r ∷ []))
first_joins {A} urgent arrived r = ap₂ ◌++◌ urgents rests
  where
    urgents : filter urgent (urgent_first urgent arrived ++ (r ∷ [])) ≡ filter urgent (arrived ++ (r ∷ []))
    urgents =
        filter-append urgent (urgent_first urgent arrived) (r ∷ [])
        ∙ ap (λ (xs : List A). xs ++ filter urgent (r ∷ []))
        (filter-append urgent (filter urgent arrived) (filter (λ t. not (urgent t)) arrived)
        ∙ ap₂ ◌++◌ (filter_all urgent (filter urgent arrived) (all_filter urgent arrived))
        (filter_none urgent (filter (λ t. not (urgent t)) arrived) (any_fails urgent arrived))
        ∙ append-nil (filter urgent arrived))
        ∙ sym (filter-append urgent arrived (r ∷ []))

    rests : filter (λ t. not (urgent t)) (urgent_first urgent arrived ++ (r ∷ [])) ≡ filter (λ t. not (urgent t)) (arrived ++ (r ∷ []))
    rests =
        filter-append (λ t. not (urgent t)) (urgent_first urgent arrived) (r ∷ [])
        ∙ ap (λ (xs : List A). xs ++ filter (λ t. not (urgent t)) (r ∷ []))
        (filter-append (λ t. not (urgent t)) (filter urgent arrived) (filter (λ t. not (urgent t)) arrived)
        ∙ ap₂ ◌++◌ (fails_filter urgent arrived)
        (filter_fails urgent (filter (λ t. not (urgent t)) arrived) (any_fails urgent arrived)))
        ∙ sym (filter-append (λ t. not (urgent t)) arrived (r ∷ []))

-- behind the leading urgent ones none is urgent
pub lead_by_rest : {A : Type 0} (urgent : A → Bool) (rs : List A)
    → urgent_lead urgent rs ≡ not (list_any urgent (drop (prefix_len urgent rs) rs))
unfolding urgent_lead
lead_by_rest urgent [] = refl
lead_by_rest {A} urgent (r ∷ rs) = by_first (urgent r) refl (lead_by_rest urgent rs)
  where
    by_first : (b : Bool) → urgent r ≡ b → urgent_lead urgent rs ≡ not (list_any urgent (drop (prefix_len urgent rs) rs))
        → cond b (urgent_lead urgent rs) (not (list_any urgent rs))
        ≡ not (list_any urgent (drop (cond b (1 + prefix_len urgent rs) 0) (r ∷ rs)))
    by_first true e h =
        let n : 1 + prefix_len urgent rs ≡ suc (prefix_len urgent rs) = omega arith in
        h ∙ ap (λ (k : ℕ). not (list_any urgent (drop k (r ∷ rs)))) (sym n)
    by_first false e h = ap (λ (b : Bool). not (b || list_any urgent rs)) (sym e)
