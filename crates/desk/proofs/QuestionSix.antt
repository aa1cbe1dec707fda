-- Question 6, by the tests that answer it: of the waiting records, and of the state; and by that of the state alone.
-- Assumes nothing.
use mathlib.Core.Path.{◌≡◌, refl, ◌∙◌, sym, ap}
use mathlib.Core.Bool.{Bool, true, false, ◌&&◌, false≢true}
use mathlib.Core.List.{List, []}
use Prim.Native.Nat.{ℕ, zero, suc, ◌%◌, ◌≤◌, ◌<◌}
use lib.Dec.{ltb, leb, eqb}
use borrow.Author.Tests.{lt-ltb, le-ltb, lt-leb, le-leb, eq-eqb, ne_eqb, leb-true}
use Rattle.verdict.specs.Verdict.{accepted, refused, ask}
use Rattle.verdict.proofs.Verdicts.{ask_accepted}
use Rattle.std.specs.List.{list_all}
use Rattle.lists.proofs.Laws.{and_fst, and_snd}
use Rattle.plan.specs.Plan.{Plan}
use Rattle.plan.specs.Decode.{plan_of}
use Rattle.queue.specs.declared.record.Request.{Request}
use Rattle.desk.specs.declared.state.Desk.{Desk}
use Rattle.desk.specs.Queueing.{is_urgent, waiting_in}
use Rattle.desk.specs.Priority.{urgent_lead}
use Rattle.desk.specs.Admission.{waits_here, queue_fits, desk_fits, state_fits}

-- ---- the waiting records

module _ (p : Plan) (desk : ℕ) (waiting : List Request) where
  pub one_unfit : list_all (waits_here p desk) waiting ≡ false → queue_fits p desk waiting ≡ false
  unfolding queue_fits
  one_unfit e = rw e

  pub by_order : list_all (waits_here p desk) waiting ≡ true → queue_fits p desk waiting ≡ urgent_lead (is_urgent p) waiting
  unfolding queue_fits
  by_order e = rw e

  by_parts : (each order : Bool) → list_all (waits_here p desk) waiting ≡ each
      → (each ≡ true → urgent_lead (is_urgent p) waiting ≡ order) → queue_fits p desk waiting ≡ (each && order)
  by_parts true order e f = by_order e ∙ f refl
  by_parts false order e f = one_unfit e

pub none_waits : (p : Plan) (desk : ℕ) (records : List Request) (n : ℕ) → n ≡ 0 → queue_fits p desk (waiting_in n records) ≡ true
unfolding queue_fits urgent_lead
none_waits p desk records n e = rw e

-- ---- the state, with the records

module _ (p : Plan) (d : Desk) (records : List Request) where
  pub desk_out : p.desks ≤ d.desk → desk_fits p d records ≡ false
  unfolding desk_fits
  desk_out h = rw (le-ltb _ _ h)

  pub too_many : 32 < d.waiting → desk_fits p d records ≡ false
  unfolding desk_fits
  too_many w = by_first (ltb d.desk p.desks)
    where
      by_first : (b : Bool) → (b && (leb d.waiting 32 && (eqb (d.awaited % p.desks) d.desk
          && queue_fits p d.desk (waiting_in d.waiting records)))) ≡ false
      by_first true = rw (lt-leb _ _ w)
      by_first false = refl

  module _ (h : d.desk < p.desks) (w : d.waiting ≤ 32) where
    pub other_visit : (d.awaited % p.desks ≡ d.desk → ⊥) → desk_fits p d records ≡ false
    unfolding desk_fits
    other_visit a = rw (lt-ltb _ _ h, le-leb _ _ w, ne_eqb _ _ a)

    pub by_records : d.awaited % p.desks ≡ d.desk → desk_fits p d records ≡ queue_fits p d.desk (waiting_in d.waiting records)
    unfolding desk_fits
    by_records a = rw (lt-ltb _ _ h, le-leb _ _ w, eq-eqb _ _ a)

-- by the code's tests of a state, with the number of desks as it counts them
pub by_state : (p : Plan) (d : Desk) (records : List Request) (n : ℕ) → n ≡ p.desks → d.desk < n → d.waiting ≤ 32
    → d.awaited % n ≡ d.desk → desk_fits p d records ≡ queue_fits p d.desk (waiting_in d.waiting records)
by_state p d records n e h w a = by_records p d records (rw e at h) w (rw e at a)

-- ---- by question 6 of the state alone

no_records : (n : ℕ) → waiting_in n [] ≡ []
no_records zero = refl
no_records (suc n) = refl

pub no_record_waits : (p : Plan) (desk : ℕ) (n : ℕ) → queue_fits p desk (waiting_in n []) ≡ true
unfolding queue_fits urgent_lead
no_record_waits p desk n = let e : waiting_in n [] ≡ [] = no_records n in rw e

module _ (p : Plan) (d : Desk) (records : List Request) where
  on_state : desk_fits p d records ≡ (state_fits p d && queue_fits p d.desk (waiting_in d.waiting records))
  unfolding desk_fits
  on_state =
      go (ltb d.desk p.desks) (leb d.waiting 32) (eqb (d.awaited % p.desks) d.desk) _ _
      (no_record_waits p d.desk d.waiting)
    where
      go : (a b c q n : Bool) → n ≡ true → (a && (b && (c && q))) ≡ ((a && (b && (c && n))) && q)
      go true true true q true e = refl
      go true true true q false e = absurd (false≢true e)
      go true true false q n e = refl
      go true false c q n e = refl
      go false b c q n e = refl

  -- it is answered with no
  pub state_refused : (question : ℕ) → refused question ≡ ask 6 (state_fits p d) → refused question ≡ ask 6 (desk_fits p d records)
  state_refused question e =
      let unfit = is_no (state_fits p d) e in
      e ∙ ap (ask 6) (unfit ∙ sym (on_state ∙ ap (λ (b : Bool). b && queue_fits p d.desk (waiting_in d.waiting records)) unfit))
    where
      is_no : (b : Bool) → refused question ≡ ask 6 b → b ≡ false
      is_no true h = cc
      is_no false h = refl

  -- it is answered with yes
  pub on_records : state_fits p d ≡ true → desk_fits p d records ≡ queue_fits p d.desk (waiting_in d.waiting records)
  on_records e = on_state ∙ ap (λ (b : Bool). b && queue_fits p d.desk (waiting_in d.waiting records)) e

  -- none waits
  pub state_alone : d.waiting ≡ 0 → desk_fits p d records ≡ state_fits p d
  unfolding desk_fits
  state_alone e =
      ap (λ (l : List Request). ltb d.desk p.desks && (leb d.waiting 32 && (eqb (d.awaited % p.desks) d.desk && queue_fits p d.desk l)))
      (same d.waiting e)
    where
      same : (n : ℕ) → n ≡ 0 → waiting_in n records ≡ waiting_in n []
      same n h = rw h

-- by the tests of the records, one after the other, of which the first goes by a table of these words
pub by_tests : (ws table : List ℕ) (d : Desk) (records : List Request) → table ≡ ws → ask 6 (state_fits (plan_of ws) d) ≡ accepted
    → (each order : Bool) → list_all (waits_here (plan_of table) d.desk) (waiting_in d.waiting records) ≡ each
    → (each ≡ true → urgent_lead (is_urgent (plan_of ws)) (waiting_in d.waiting records) ≡ order)
    → ask 6 (each && order) ≡ ask 6 (desk_fits (plan_of ws) d records)
by_tests ws table d records t passes each order e f =
    let waiting = waiting_in d.waiting records in
    let same = ap (λ (words : List ℕ). list_all (waits_here (plan_of words) d.desk) waiting) t in
    sym (ap (ask 6) (on_records (plan_of ws) d records (ask_accepted 6 _ passes)
    ∙ by_parts (plan_of ws) d.desk waiting each order (sym same ∙ e) f))

-- ---- what question 6 shows where it is answered with yes

module _ (p : Plan) (d : Desk) (records : List Request) (e : desk_fits p d records ≡ true) where
  pub few_wait : d.waiting ≤ 32
  unfolding desk_fits
  few_wait = leb-true d.waiting 32 (and_fst (leb d.waiting 32) _ (and_snd (ltb d.desk p.desks) _ e))

  pub fits_queue : queue_fits p d.desk (waiting_in d.waiting records) ≡ true
  unfolding desk_fits
  fits_queue =
      and_snd (eqb (d.awaited % p.desks) d.desk) _ (and_snd (leb d.waiting 32) _ (and_snd (ltb d.desk p.desks) _ e))

  pub fits_each : list_all (waits_here p d.desk) (waiting_in d.waiting records) ≡ true
  unfolding queue_fits
  fits_each = and_fst (list_all (waits_here p d.desk) (waiting_in d.waiting records)) _ fits_queue

  pub fits_ordered : urgent_lead (is_urgent p) (waiting_in d.waiting records) ≡ true
  unfolding queue_fits
  fits_ordered = and_snd (list_all (waits_here p d.desk) (waiting_in d.waiting records)) _ fits_queue
