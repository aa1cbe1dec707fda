-- The others' updates in a body of words, applied and copied one after another: what is done so far joined with what is still to come.
--     forwarding_start, forwarding_end     at the first update, behind the last
--     forwarding_own, forwarding_other     past an update of the desk's own, past another desk's
-- Assumes nothing.
use Rattle.std.proofs.Common.{ℕ, zero, suc, ◌+◌, ◌-◌, ◌*◌, ◌/◌, ◌≤◌, ◌<◌, ◌≡◌, refl, ◌∙◌, sym, ap, Some, None, arith}
use Rattle.std.proofs.Common.{List, [], ◌∷◌, ◌++◌, length, take, drop, get_or, set}
use mathlib.Core.Path.{ap₂}
use lib.ListN.{length-append}
use lib.Seq.{take_at, drop_at, length-take-le}
use borrow.Author.Tests.{eq-eqb, ne_eqb}
use borrow.Rule.Slice.PartMut.{put_mid}
use Rattle.std.specs.List.{slice_get}
use Rattle.lists.specs.Lists.{overwritten}
use Rattle.std.proofs.lemmas.List.{take_rest}
use Rattle.lists.proofs.Laws.{Filling, fill_none, fill_size, fill_length, fill_same, fill_part, fill_done}
use Rattle.word.specs.Field.{update_desk, cell_count, cell_field}
use Rattle.operation.specs.Store.{Store, apply_update}
use Rattle.frame.specs.Frame.{sent, update_head, write_words, update_words, updates_words}
use Rattle.frame.specs.Admission.{writes_from, updates_from}
use Rattle.token.specs.Forward.{foreign, apply_all, foreign_words}
use Rattle.token.proofs.Written.{writes_length}

-- ---- the first update among the words

few_writes : (n : ℕ) (ws : List ℕ) → length (writes_from n ws) ≤ n
unfolding writes_from
few_writes zero ws = omega arith
few_writes (suc n) [] = omega arith
few_writes (suc n) (w ∷ []) = omega arith
few_writes (suc n) (w ∷ v ∷ ws) = let h = few_writes n ws in omega arith

twice : (n : ℕ) → 2 * suc n ≡ suc (suc (2 * n))
twice n = omega arith

cells_front : (n : ℕ) (ws : List ℕ) → writes_from n (take (2 * n) ws) ≡ writes_from n ws
unfolding writes_from
cells_front zero ws = refl
cells_front (suc n) [] = rw (twice n) refl
cells_front (suc n) (w ∷ []) = rw (twice n) refl
cells_front (suc n) (w ∷ v ∷ ws) = rw (twice n) (ap (λ t. (cell_field w, v) ∷ t) (cells_front n ws))

cells_behind : (n : ℕ) (ws : List ℕ) → updates_from n ws ≡ updates_from 0 (drop (2 * n) ws)
unfolding updates_from
cells_behind zero ws = refl
cells_behind (suc n) [] = rw (twice n) refl
cells_behind (suc n) (w ∷ []) = rw (twice n) refl
cells_behind (suc n) (w ∷ v ∷ ws) = rw (twice n) (cells_behind n ws)

-- how many words the update has whose word is w
abbrev update_size : ℕ → ℕ
update_size w = 1 + 2 * cell_count w

-- its words, and those behind it
record Split (w : ℕ) (ws : List ℕ) : Type 0 where
  fits : update_size w ≤ length (w ∷ ws)
  first : take (update_size w) (w ∷ ws) ≡ update_words (sent (update_desk w) (writes_from (cell_count w) ws))
  behind : drop (update_size w) (w ∷ ws) ≡ updates_words (updates_from 0 (drop (update_size w) (w ∷ ws)))
  others : updates_from 0 (w ∷ ws)
      ≡ sent (update_desk w) (writes_from (cell_count w) ws) ∷ updates_from 0 (drop (update_size w) (w ∷ ws))

count_of : (w k n : ℕ) → w ≡ update_head (update_desk w) k → k ≤ n → n ≡ cell_count w → k ≡ n
count_of w k n e l c = omega arith

split : (w : ℕ) (ws : List ℕ) → w ∷ ws ≡ updates_words (updates_from 0 (w ∷ ws)) → Split w ws
unfolding updates_from updates_words update_words
split w ws r =
    let n = cell_count w in
    let us = writes_from n ws in
    let others = updates_words (updates_from n ws) in
    let head : w ≡ update_head (update_desk w) (length us) = cc in
    let tail : ws ≡ write_words us ++ others = cc in
    let count : length us ≡ n = count_of w (length us) n head (few_writes n ws) refl in
    let size : length (write_words us) ≡ 2 * n = omega (arith, writes_length us, count) in
    let one : 1 + 2 * n ≡ suc (2 * n) = omega arith in
    record {
      fits = omega (arith, ap length tail, length-append (write_words us) others, size);
      first = rw one (ap₂ ◌∷◌ head (ap (take (2 * n)) tail ∙ take_at (write_words us) others (2 * n) size));
      behind = rw one (ap (drop (2 * n)) tail ∙ drop_at (write_words us) others (2 * n) size ∙ ap updates_words (cells_behind n ws));
      others = rw one (ap (λ t. sent (update_desk w) us ∷ t) (cells_behind n ws));
    }

-- ---- the cells of an update

-- a cell's word and its value in front
pub cells_next : (s r : Store) (p rest : List ℕ) (all : List ℕ) → all ≡ p ++ rest → length p ≡ 2
    → apply_update (writes_from (length all / 2) all) s ≡ r
    → apply_update (writes_from (length rest / 2) rest) (set s (cell_field (get_or p 0 0)) (get_or p 1 0)) ≡ r
unfolding writes_from apply_update
cells_next s r [] rest all e h q = absurd (omega arith)
cells_next s r (w ∷ []) rest all e h q = absurd (omega arith)
cells_next s r (w ∷ v ∷ []) rest all e h q =
    let one : suc (suc (length rest)) / 2 ≡ suc (length rest / 2) = omega arith in rw one at (rw e at q)
cells_next s r (w ∷ v ∷ x ∷ p) rest all e h q = absurd (omega arith)

pub cells_done : (s r : Store) (rest : List ℕ) → length rest < 2 → apply_update (writes_from (length rest / 2) rest) s ≡ r → s ≡ r
unfolding writes_from apply_update
cells_done s r rest h q = let none : length rest / 2 ≡ 0 = omega arith in rw none at q

-- ---- the walk

-- with `rest` still to come, the store is `s` and the outgoing words, `end` of them written, are `t`
pub record Forwarding (desk : ℕ) (body s₀ o s t : List ℕ) (end : ℕ) (rest : List ℕ) : Type 0 where
  pub reads : rest ≡ updates_words (updates_from 0 rest)
  pub store : apply_all (foreign desk (updates_from 0 rest)) s ≡ apply_all (foreign desk (updates_from 0 body)) s₀
  pub words : Filling (foreign_words desk body) o t end (foreign_words desk rest)

headed : (rest : List ℕ) (w : ℕ) → Some w ≡ slice_get rest 0 → rest ≡ w ∷ drop 1 rest
headed [] w h = let z : ◌≡◌ {A = ℕ} 0 1 = cc in absurd (omega arith)
headed (x ∷ rest) w h = cc

headless : (rest : List ℕ) → None ≡ slice_get rest 0 → rest ≡ []
headless [] h = refl
headless (x ∷ rest) h = let z : ◌≡◌ {A = ℕ} 0 1 = cc in absurd (omega arith)

pub forwarding_start : (desk : ℕ) (body s o : List ℕ) → body ≡ updates_words (updates_from 0 body) → Forwarding desk body s o s o 0 body
forwarding_start desk body s o r = record { reads = r; store = refl; words = fill_none (foreign_words desk body) o }

module _ {desk : ℕ} {body s₀ o s t : List ℕ} {end : ℕ} {rest : List ℕ} (f : Forwarding desk body s₀ o s t end rest) where
  forwarding_length : length (foreign_words desk body) ≤ length o → length t ≡ length o
  forwarding_length = fill_length f.words

  pub forwarding_end : None ≡ slice_get rest 0
      → (s ≡ apply_all (foreign desk (updates_from 0 body)) s₀) × (end ≡ length (foreign_words desk body))
      × (t ≡ overwritten (foreign_words desk body) o)
  unfolding updates_from foreign apply_all updates_words
  forwarding_end h =
      let e = headless rest h in
      let d = fill_done (fill_same f.words (ap (foreign_words desk) e)) in
      (rw e at f.store, d.1, d.0)

  -- an update's word in front
  module _ {w : ℕ} (h : Some w ≡ slice_get rest 0) where
    whole : rest ≡ w ∷ drop 1 rest
    whole = headed rest w h

    parts : Split w (drop 1 rest)
    parts = split w (drop 1 rest) (sym whole ∙ f.reads ∙ ap (λ t. updates_words (updates_from 0 t)) whole)

    first_words : take (update_size w) rest ≡ update_words (sent (update_desk w) (writes_from (cell_count w) (drop 1 rest)))
    first_words = rw (← whole) at parts.first

    behind_words : drop (update_size w) rest ≡ updates_words (updates_from 0 (drop (update_size w) rest))
    behind_words = rw (← whole) at parts.behind

    all_updates : updates_from 0 rest
        ≡ sent (update_desk w) (writes_from (cell_count w) (drop 1 rest)) ∷ updates_from 0 (drop (update_size w) rest)
    all_updates = rw (← whole) at parts.others

    pub forwarding_fits : update_size w ≤ length rest
    forwarding_fits = omega (arith, parts.fits, ap length whole)

    pub forwarding_own : update_desk w ≡ desk → Forwarding desk body s₀ o s t end (drop (update_size w) rest)
    unfolding foreign
    forwarding_own e =
        let own = eq-eqb (update_desk w) desk e in
        record { reads = behind_words; store = rw (all_updates, own) at f.store; words = rw (all_updates, own) at f.words }

    module _ {u : List ℕ} (i : u ≡ take (update_size w) rest) (e : update_desk w ≡ desk → ⊥) where
      other_words : Filling (foreign_words desk body) o t end (u ++ foreign_words desk (drop (update_size w) rest))
      unfolding foreign updates_words
      other_words = let other = ne_eqb (update_desk w) desk e in rw (i, first_words) (rw (all_updates, other) at f.words)

      pub forwarding_room : length (foreign_words desk body) ≤ length o → end + length u ≤ length t
      forwarding_room room =
          let more = foreign_words desk (drop (update_size w) rest) in
          omega (arith, fill_size other_words, forwarding_length room, length-append u more)

      other_cells : writes_from (length (take (length u - 1) (drop 1 u)) / 2) (take (length u - 1) (drop 1 u))
          ≡ writes_from (cell_count w) (drop 1 rest)
      other_cells =
          let n = cell_count w in
          let one : 1 + 2 * n ≡ suc (2 * n) = omega arith in
          let cells : drop 1 u ≡ take (2 * n) (drop 1 rest) =
          ap (drop 1) (i ∙ ap₂ take one whole) in
          let size : length (take (2 * n) (drop 1 rest)) ≡ 2 * n = length-take-le (2 * n) (drop 1 rest) (omega (arith, parts.fits)) in
          let half : length (take (2 * n) (drop 1 rest)) / 2 ≡ n = omega (arith, size) in
          rw (take_rest u 1, cells, half) (cells_front n (drop 1 rest))

      pub forwarding_other : {s' p : List ℕ}
          → s' ≡ apply_update (writes_from (length (take (length u - 1) (drop 1 u)) / 2) (take (length u - 1) (drop 1 u))) s → p ≡ u
          → Forwarding desk body s₀ o s' (put_mid end (end + length u - end) t p) (end + length u) (drop (update_size w) rest)
      unfolding foreign apply_all
      forwarding_other a c =
          let other = ne_eqb (update_desk w) desk e in
          let k : end + length u - end ≡ length u = omega arith in
          rw (a, other_cells, c, k)
          (record {
            reads = behind_words;
            store = rw (all_updates, other) at f.store;
            words = fill_part u other_words;
          })
