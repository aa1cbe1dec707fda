-- The desks in a cell's mask, the lowest other one, and the lowest cell that has one.
--     own_touched            a transaction's desk is in the masks of the cells that it names
--     cause_desk_low …       the lowest desk but d: in the mask, another than d, and at most any such
--     cause_cell_found …     the lowest cell with another desk: one of the cells, and at most any such
--     none_one_desk          if there is none, each of the cells has one desk
--     some_many_desks        if there is one, not each of them has
-- Assumes nothing.
use mathlib.Core.Path.{◌≡◌, refl, ◌∙◌, sym, ap, subst}
use mathlib.Core.Bool.{Bool, true, false, not, ◌&&◌, false≢true}
use mathlib.Core.List.{List, Memᴰ}
use Prim.Native.Nat.{ℕ, ◌≤◌, ◌<◌}
use native.Mathlib.Omega.{arith}
use lib.Count.{ones}
use lib.Dec.{eqb}
use borrow.Author.Tests.{eq-eqb, ne_eqb, lt-ltb, eqb-true, eqb-false, ltb-true, not-true}
use Rattle.std.specs.List.{list_any}
use Rattle.std.proofs.lemmas.Bool.{and_from}
use Rattle.lists.proofs.Laws.{and_fst, and_snd, by_same, by_less, member_all, all_member}
use Rattle.lists.proofs.Laws.{member_any, any_member, lowest_below_le, lowest_below_passes, lowest_below_least}
use Rattle.plan.specs.Plan.{Access, Transaction, Plan}
use Rattle.operation.specs.Operation.{desk_by, cells_named}
use Rattle.operation.specs.Admission.{parameters_pass}
use Rattle.operation.specs.Store.{store_size}
use Rattle.operation.proofs.Bounds.{AllFit}
use Rattle.conflict.specs.Mask.{in_mask}
use Rattle.conflict.specs.Touch.{steps_touch, desk_mask}
use Rattle.conflict.specs.Class.{one_desk_each}
use Rattle.conflict.specs.Cause.{is_other, cause_desk, has_other, cause_cell}
use Rattle.conflict.proofs.Masks.{in_mask_of, in_mask_past}
use Rattle.conflict.proofs.Ones.{ones_mask, one_of_count, count_of_one}
use Rattle.conflict.proofs.Touching.{touched, names_found}

-- ---- the desks in a mask

in_mask_touched : (p : Plan) (c d : ℕ) → d < p.desks → in_mask (desk_mask p c) d ≡ touched p c d
unfolding desk_mask
in_mask_touched p c d h = in_mask_of p.desks (touched p c) d h

in_mask_low : (p : Plan) (c d : ℕ) → in_mask (desk_mask p c) d ≡ true → d < p.desks
unfolding desk_mask
in_mask_low p c d e =
    by_less d p.desks (λ h. h) (λ h. absurd (false≢true (sym (in_mask_past p.desks (touched p c) d h) ∙ e)))

pub own_touched : (p : Plan) (t : Transaction) (ps : List ℕ) → 1 ≤ p.desks → Memᴰ t p.transactions → AllFit t.steps
    → parameters_pass t ps ≡ true → (a : Access) (c : ℕ) → Memᴰ c (cells_named a ps t.steps)
    → touched p c (desk_by p.desks t.part ps) ≡ true
own_touched p t ps h m fits pass a c n =
    let d = desk_by p.desks t.part ps in
    member_any (λ u. steps_touch p.desks u.part u.steps c d) t p.transactions m
    (names_found p.desks t ps d h fits pass refl a c n)

-- ---- the lowest other desk

module _ (p : Plan) (c d : ℕ) where
  -- where there is one
  module _ (h : has_other (desk_mask p c) d ≡ true) where
    is_other_lem : is_other (desk_mask p c) d (cause_desk (desk_mask p c) d) ≡ true
    unfolding has_other cause_desk
    is_other_lem = lowest_below_passes 8 (is_other (desk_mask p c) d) (ltb-true _ 8 h)

    other_in_mask : in_mask (desk_mask p c) (cause_desk (desk_mask p c) d) ≡ true
    unfolding is_other
    other_in_mask = and_snd (not (eqb (cause_desk (desk_mask p c) d) d)) _ is_other_lem

    pub cause_desk_low : cause_desk (desk_mask p c) d < p.desks
    cause_desk_low = in_mask_low p c (cause_desk (desk_mask p c) d) other_in_mask

    pub cause_desk_differs : cause_desk (desk_mask p c) d ≡ d → ⊥
    unfolding is_other
    cause_desk_differs = eqb-false (cause_desk (desk_mask p c) d) d (not-true _ (and_fst _ _ is_other_lem))

    pub cause_desk_touched : touched p c (cause_desk (desk_mask p c) d) ≡ true
    cause_desk_touched = sym (in_mask_touched p c (cause_desk (desk_mask p c) d) cause_desk_low) ∙ other_in_mask

  -- by any desk but d that may touch the cell
  module _ (e : ℕ) (below : e < p.desks) (differs : e ≡ d → ⊥) (t : touched p c e ≡ true) where
    touched_is_other : is_other (desk_mask p c) d e ≡ true
    unfolding is_other
    touched_is_other = and_from _ _ (ap not (ne_eqb e d differs)) (in_mask_touched p c e below ∙ t)

    pub cause_desk_least : cause_desk (desk_mask p c) d ≤ e
    unfolding cause_desk
    cause_desk_least = lowest_below_least 8 (is_other (desk_mask p c) d) e touched_is_other

    pub touched_has_other : p.desks ≤ 8 → has_other (desk_mask p c) d ≡ true
    unfolding has_other
    touched_has_other few = lt-ltb (cause_desk (desk_mask p c) d) 8 (omega (arith, cause_desk_least))

-- ---- one desk in the mask: if d is in it, no other is

module _ (p : Plan) (d : ℕ) (below : d < p.desks) (few : p.desks ≤ 8) (c : ℕ) (own : touched p c d ≡ true) where
  no_other_one : (has_other (desk_mask p c) d ≡ true → ⊥) → eqb (ones (desk_mask p c)) 1 ≡ true
  unfolding desk_mask
  no_other_one none =
      eq-eqb _ 1
      (ones_mask p.desks (touched p c)
      ∙ count_of_one p.desks (touched p c) (
        d,
        below,
        own,
        λ e l t. by_same e d (λ q. q) (λ q. absurd (none (touched_has_other p c d e l q t few))),
      ))

-- ---- two desks in the mask: if d is in it, and another is

other_not_one : (p : Plan) (d : ℕ) → d < p.desks → (c : ℕ) → touched p c d ≡ true → has_other (desk_mask p c) d ≡ true
    → ones (desk_mask p c) ≡ 1 → ⊥
unfolding desk_mask
other_not_one p d below c own other one =
    let k = one_of_count p.desks (touched p c) (sym (ones_mask p.desks (touched p c)) ∙ one) in
    let e = cause_desk (desk_mask p c) d in
    cause_desk_differs p c d other
    (k.3 e (cause_desk_low p c d other) (cause_desk_touched p c d other) ∙ sym (k.3 d below own))

-- ---- the lowest cell with another desk

module _ (p : Plan) (d : ℕ) (cs : List ℕ) where
  pub cause_cell_found : cause_cell p d cs < store_size
      → Memᴰ (cause_cell p d cs) cs × (has_other (desk_mask p (cause_cell p d cs)) d ≡ true)
  unfolding cause_cell
  cause_cell_found h =
      let c = cause_cell p d cs in
      let found = lowest_below_passes store_size (λ c. list_any (eqb c) cs && has_other (desk_mask p c) d) h in
      let m = any_member (eqb c) cs (and_fst _ _ found) in
      (subst (λ (x : ℕ). Memᴰ x cs) (sym (eqb-true c m.0 m.2)) m.1, and_snd (list_any (eqb c) cs) _ found)

  pub cause_cell_least : (c : ℕ) → Memᴰ c cs → has_other (desk_mask p c) d ≡ true → cause_cell p d cs ≤ c
  unfolding cause_cell
  cause_cell_least c m h =
      lowest_below_least store_size (λ c. list_any (eqb c) cs && has_other (desk_mask p c) d) c
      (and_from _ _ (member_any (eqb c) c cs m (eq-eqb c c refl)) h)

  pub cause_cell_high : cause_cell p d cs ≤ store_size
  unfolding cause_cell
  cause_cell_high = lowest_below_le store_size (λ c. list_any (eqb c) cs && has_other (desk_mask p c) d)

  -- of cells that desk d may touch
  module _ (below : d < p.desks) (few : p.desks ≤ 8) (own : (c : ℕ) → Memᴰ c cs → (c < store_size) × (touched p c d ≡ true)) where
    pub none_one_desk : cause_cell p d cs ≡ store_size → one_desk_each (desk_mask p) cs ≡ true
    none_one_desk z =
        member_all (λ c. eqb (ones (desk_mask p c)) 1) cs
        (λ c m. no_other_one p d below few c (own c m).1 (λ h. omega (arith, z, (own c m).0, cause_cell_least c m h)))

    pub some_many_desks : cause_cell p d cs < store_size → one_desk_each (desk_mask p) cs ≡ false
    some_many_desks l = go (one_desk_each (desk_mask p) cs) refl
      where
        go : (b : Bool) → one_desk_each (desk_mask p) cs ≡ b → b ≡ false
        go true e =
            let f = cause_cell_found l in
            let c = cause_cell p d cs in
            let i : eqb (ones (desk_mask p c)) 1 ≡ true = all_member (λ c. eqb (ones (desk_mask p c)) 1) cs c e f.0 in
            absurd (other_not_one p d below c (own c f.0).1 f.1 (eqb-true (ones (desk_mask p c)) 1 i))
        go false e = refl
