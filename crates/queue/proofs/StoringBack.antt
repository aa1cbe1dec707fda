-- Records of words stored back at some places of a queue, one by one.
--     length_stored_back                                        no record is added or lost
--     get_or_stored_back                                        the record at a place
--     get_or_stored_back_within, get_or_stored_back_outside     the same, where the place is one of those, and where it is not
--     stored_back_empty                                         of no places
--     stored_back_bounded                                       no record past the 32nd is stored
--     stored_back_next                                          of one place more
--     stored_back_all                                           at the last place all is stored
--     storing_back                                              of no places, of one more and at the last, which the loop rests on
-- Assumes nothing.
use mathlib.Core.Path.{◌≡◌, sym, ◌∙◌, ap}
use mathlib.Core.Logic.{◌≢◌, ◌⊎◌, inl, inr, ⊎_elim}
use Prim.Native.Nat.{ℕ, ◌+◌, ◌<◌, ◌≤◌, min, max}
use native.Mathlib.Nat.{min-eq_left, min-le_right}
use native.Mathlib.Omega.{arith}
use mathlib.Core.Bool.{cond, ◌&&◌}
use mathlib.Core.List.{List}
use lib.Dec.{leb, ltb}
use lib.ListN.{length, set, length-set, get_or-eq_default}
use lib.Seq.{ext_get_or, get_or-set_same, get_or-set_other}
use borrow.Author.Tests.{le-leb, lt-leb, lt-ltb, le-ltb}
use Rattle.lists.specs.Lists.{tabulate}
use Rattle.lists.proofs.Laws.{by_same, by_less, length_tabulate, get_or_tabulate}
use Rattle.queue.specs.declared.record.Request.{Request}
use Rattle.queue.specs.Queue.{no_request, record_at}
use Rattle.queue.specs.Words.{record_in, stored_back}

module _ (queue : List Request) (ws : List ℕ) (from end : ℕ) where
  -- the record at a place
  abbrev back : ℕ → Request
  back i = cond (leb from i && ltb i (min end 32)) (record_in ws i) (record_at queue i)

  pub length_stored_back : length (stored_back queue ws from end) ≡ length queue
  unfolding stored_back
  length_stored_back = length_tabulate (length queue) back

  pub get_or_stored_back : (i : ℕ) → i < length queue
      → record_at (stored_back queue ws from end) i ≡ cond (leb from i && ltb i (min end 32)) (record_in ws i) (record_at queue i)
  unfolding stored_back
  get_or_stored_back i h = get_or_tabulate (length queue) back i no_request h

  pub get_or_stored_back_within : (i : ℕ) → i < length queue → from ≤ i → i < min end 32
      → record_at (stored_back queue ws from end) i ≡ record_in ws i
  get_or_stored_back_within i h l u = get_or_stored_back i h ∙ simp (le-leb from i l, lt-ltb i (min end 32) u)

  before : (i : ℕ) → i < length queue → i < from → record_at (stored_back queue ws from end) i ≡ record_at queue i
  before i h l = get_or_stored_back i h ∙ simp (lt-leb from i l)

  behind : (i : ℕ) → i < length queue → from ≤ i → min end 32 ≤ i → record_at (stored_back queue ws from end) i ≡ record_at queue i
  behind i h l u = get_or_stored_back i h ∙ simp (le-leb from i l, le-ltb i (min end 32) u)

  pub get_or_stored_back_outside : (i : ℕ) → (i < from) ⊎ (min end 32 ≤ i)
      → record_at (stored_back queue ws from end) i ≡ record_at queue i
  get_or_stored_back_outside i o =
      by_less i (length queue)
      (λ h. by_less i from (before i h) (λ l. behind i h l (⊎_elim (λ (u : i < from). absurd (omega arith)) (λ u. u) o)))
      (λ h. get_or-eq_default (stored_back queue ws from end) no_request (omega (arith, length_stored_back))
      ∙ sym (get_or-eq_default queue no_request h))

  pub stored_back_empty : min end 32 ≤ from → stored_back queue ws from end ≡ queue
  stored_back_empty none =
      ext_get_or no_request (stored_back queue ws from end) queue length_stored_back (λ i h.
      get_or_stored_back_outside i (by_less i from inl (λ l. inr (omega arith))))

  pub stored_back_bounded : stored_back queue ws from (min end 32) ≡ stored_back queue ws from end
  unfolding stored_back
  stored_back_bounded =
      ap (λ (m : ℕ). tabulate (length queue) (λ i. cond (leb from i && ltb i m) (record_in ws i) (record_at queue i)))
      (min-eq_left (min-le_right end 32))

-- at the last place all is stored, also where the first is past it
pub stored_back_all : (queue : List Request) (ws : List ℕ) (from end at : ℕ) → from ≤ at → min end 32 ≤ at → at ≤ max from (min end 32)
    → stored_back queue ws from at ≡ stored_back queue ws from end
stored_back_all queue ws from end at begins last ends =
    by_less from (min end 32) (λ l. ap (stored_back queue ws from) (omega arith) ∙ stored_back_bounded queue ws from end)
    (λ none. stored_back_empty queue ws from at (omega arith) ∙ sym (stored_back_empty queue ws from end none))

-- one record more
module _ (queue : List Request) (ws : List ℕ) (from i : ℕ) (starts : from ≤ i) (ends : i < 32) where
  abbrev old : List Request
  old = stored_back queue ws from i

  abbrev new : List Request
  new = stored_back queue ws from (i + 1)

  -- neither end is past the 32nd
  old_end : min i 32 ≡ i
  old_end = min-eq_left (omega arith)

  new_end : min (i + 1) 32 ≡ i + 1
  new_end = min-eq_left (omega arith)

  -- the record at the place
  own_place : i < length queue → record_at (set old i (record_in ws i)) i ≡ record_at new i
  own_place h =
      get_or-set_same old i (record_in ws i) no_request (omega (arith, length_stored_back queue ws from i))
      ∙ sym (get_or_stored_back_within queue ws from (i + 1) i h starts (omega (arith, new_end)))

  -- a record at another place is as before
  past_first : (j : ℕ) → j ≢ i → j < length queue → from ≤ j → record_at old j ≡ record_at new j
  past_first j s h l =
      by_less j i
      (λ u. get_or_stored_back_within queue ws from i j h l (omega (arith, old_end))
      ∙ sym (get_or_stored_back_within queue ws from (i + 1) j h l (omega (arith, new_end))))
      (λ u. get_or_stored_back_outside queue ws from i j (inr (omega (arith, old_end)))
      ∙ sym (get_or_stored_back_outside queue ws from (i + 1) j (inr (omega (arith, new_end, s)))))

  other_place : (j : ℕ) → j ≢ i → j < length queue → record_at old j ≡ record_at new j
  other_place j s h =
      by_less j from
      (λ l. get_or_stored_back_outside queue ws from i j (inl l) ∙ sym (get_or_stored_back_outside queue ws from (i + 1) j (inl l)))
      (past_first j s h)

  each_place : (j : ℕ) → j < length queue → record_at (set old i (record_in ws i)) j ≡ record_at new j
  each_place j h =
      by_same j i
      (λ s. ap (record_at (set old i (record_in ws i))) s ∙ own_place (omega arith) ∙ ap (record_at new) (sym s))
      (λ s. get_or-set_other old i j (record_in ws i) no_request s ∙ other_place j s h)

  pub stored_back_next : set (stored_back queue ws from i) i (record_in ws i) ≡ stored_back queue ws from (i + 1)
  stored_back_next =
      let size : length (set old i (record_in ws i)) ≡ length queue =
      length-set old i (record_in ws i) ∙ length_stored_back queue ws from i in
      ext_get_or no_request (set old i (record_in ws i)) new (size ∙ sym (length_stored_back queue ws from (i + 1)))
      (λ j h. each_place j (omega arith))

-- at no place, at one more, and at all
pub ruleset storing_back = (stored_back_empty, stored_back_next, stored_back_all)
