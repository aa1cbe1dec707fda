-- Well-formed words are the writing of the updates that they decode to, and the writing of well-formed updates is well formed and
-- decodes to them.
-- Assumes nothing.
use mathlib.Core.Path.{◌≡◌, refl, ◌∙◌, sym, ap, ap₂}
use mathlib.Core.Bool.{Bool, true, ◌&&◌, false≢true}
use mathlib.Core.List.{List, [], ◌∷◌, ◌++◌}
use Prim.Native.Nat.{ℕ, zero, suc, ◌≤◌, ◌<◌}
use native.Mathlib.Omega.{arith}
use lib.Dec.{ltb, leb}
use lib.ListN.{length}
use borrow.Author.Tests.{ltb-true, lt-ltb, leb-true, le-leb}
use Rattle.std.specs.List.{list_all}
use Rattle.std.proofs.lemmas.Bool.{and_from}
use Rattle.lists.proofs.Laws.{and_fst, and_snd}
use Rattle.word.specs.Field.{update_desk, cell_count, cell_field}
use Rattle.operation.specs.Store.{Update}
use Rattle.frame.specs.Frame.{SentUpdate, sent, update_head, write_words, update_words, updates_words}
use Rattle.frame.specs.Admission.{writes_from, updates_from, update_formed, cell_formed, well_formed}
use Rattle.token.specs.WellFormed.{cell_fits, update_fits}
use Rattle.token.proofs.HeadWords.{update_read, update_desk_lem, update_cells}
use Rattle.token.proofs.HeadWords.{update_formed_lem, cell_read, cell_field_lem, cell_formed_lem}

-- ---- from words to updates

pub record Decoded (n left : ℕ) (ws : List ℕ) : Type 0 where
  pub words : ws ≡ write_words (writes_from left ws) ++ updates_words (updates_from left ws)
  pub count : length (writes_from left ws) ≡ left
  pub cells : list_all cell_fits (writes_from left ws) ≡ true
  pub each : list_all (update_fits n) (updates_from left ws) ≡ true

pub decoded : (n left : ℕ) (ws : List ℕ) → well_formed n left ws ≡ true → Decoded n left ws
unfolding well_formed writes_from updates_from write_words update_words updates_words
decoded n zero [] e = record { words = refl; count = refl; cells = refl; each = refl }
decoded n zero (w ∷ ws) e =
    let u = update_read n w (and_fst (update_formed n w) _ e) in
    let r = decoded n (cell_count w) ws (and_snd (update_formed n w) _ e) in
    let few : length (writes_from (cell_count w) ws) ≤ 12 = omega (arith, r.count, u.cells) in
    record {
      words = ap₂ ◌∷◌ (u.word ∙ ap (update_head (update_desk w)) (sym r.count)) r.words;
      count = refl;
      cells = refl;
      each = and_from _ _ (and_from _ _ (lt-ltb (update_desk w) n u.desk) (and_from _ _ (le-leb _ 12 few) r.cells)) r.each;
    }
decoded n (suc left) [] e = absurd (false≢true e)
decoded n (suc left) (w ∷ []) e = absurd (false≢true e)
decoded n (suc left) (w ∷ v ∷ ws) e =
    let k = cell_read w (and_fst (cell_formed w) _ e) in
    let r = decoded n left ws (and_snd (cell_formed w) _ e) in
    record {
      words = ap₂ (λ (x : ℕ) (t : List ℕ). x ∷ v ∷ t) k r.words;
      count = ap suc r.count;
      cells = and_from _ _ (lt-ltb (cell_field w) 1024 (omega arith)) r.cells;
      each = r.each;
    }

-- ---- from updates to words

record Cells (n : ℕ) (u : Update) (rest : List ℕ) : Type 0 where
  form : well_formed n (length u) (write_words u ++ rest) ≡ well_formed n 0 rest
  here : writes_from (length u) (write_words u ++ rest) ≡ u
  later : updates_from (length u) (write_words u ++ rest) ≡ updates_from 0 rest

cells : (n : ℕ) (u : Update) (rest : List ℕ) → list_all cell_fits u ≡ true → Cells n u rest
unfolding well_formed writes_from updates_from write_words
cells n [] rest e = record { form = refl; here = refl; later = refl }
cells n (w ∷ u) rest e =
    let c = ltb-true w.0 1024 (and_fst (cell_fits w) _ e) in
    let r = cells n u rest (and_snd (cell_fits w) _ e) in
    record {
      form = ap (λ (b : Bool). b && well_formed n (length u) (write_words u ++ rest)) (cell_formed_lem w.0 c) ∙ r.form;
      here = ap₂ (λ (x : ℕ) (t : Update). (x, w.1) ∷ t) (cell_field_lem w.0 c) r.here;
      later = r.later;
    }

pub record Encoded (n : ℕ) (us : List SentUpdate) : Type 0 where
  pub form : well_formed n 0 (updates_words us) ≡ true
  pub updates : updates_from 0 (updates_words us) ≡ us

pub encoded : (n : ℕ) (us : List SentUpdate) → n ≤ 8 → list_all (update_fits n) us ≡ true → Encoded n us
unfolding well_formed updates_from update_words updates_words
encoded n [] h e = record { form = refl; updates = refl }
encoded n (u ∷ us) h e =
    let f = and_fst (update_fits n u) _ e in
    let g = and_snd (ltb u.desk n) _ f in
    let d = ltb-true u.desk n (and_fst (ltb u.desk n) _ f) in
    let k = leb-true (length u.writes) 12 (and_fst (leb (length u.writes) 12) _ g) in
    let low : u.desk < 16 = omega arith in
    let c = cells n u.writes (updates_words us) (and_snd (leb (length u.writes) 12) _ g) in
    let r = encoded n us h (and_snd (update_fits n u) _ e) in
    let head = update_head u.desk (length u.writes) in
    let rest = write_words u.writes ++ updates_words us in
    let count : cell_count head ≡ length u.writes = update_cells u.desk (length u.writes) low k in
    record {
      form = and_from _ _ (update_formed_lem u.desk (length u.writes) low k n d)
          (ap (λ (m : ℕ). well_formed n m rest) count ∙ c.form ∙ r.form);
      updates = ap₂ ◌∷◌
          (ap₂ sent (update_desk_lem u.desk (length u.writes) low k) (ap (λ (m : ℕ). writes_from m rest) count ∙ c.here))
          (ap (λ (m : ℕ). updates_from m rest) count ∙ c.later ∙ r.updates);
    }
