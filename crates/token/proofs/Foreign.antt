-- The others' updates with a desk's own ones behind them: what a frame must have of updates, kept.
-- Assumes nothing.
use mathlib.Core.Path.{◌≡◌, refl, ◌∙◌, sym, ap}
use mathlib.Core.Bool.{Bool, true, false, cond}
use mathlib.Core.List.{List, [], ◌∷◌, ◌++◌, map, append_assoc}
use Prim.Native.Nat.{ℕ, ◌+◌, ◌≤◌}
use native.Mathlib.Omega.{arith}
use lib.Dec.{eqb}
use lib.ListN.{length}
use borrow.Author.Tests.{eqb-true}
use Rattle.std.specs.List.{list_all}
use Rattle.std.proofs.lemmas.Bool.{and_from}
use Rattle.lists.proofs.Laws.{and_fst, and_snd, all_append}
use Rattle.operation.specs.Store.{Update}
use Rattle.frame.specs.Frame.{SentUpdate, sent, update_words, updates_words}
use Rattle.frame.specs.Admission.{desk_count}
use Rattle.token.specs.Forward.{foreign}
use Rattle.token.specs.WellFormed.{update_fits, WellFormed}

pub words_append : (us ts : List SentUpdate) → updates_words (us ++ ts) ≡ updates_words us ++ updates_words ts
unfolding updates_words
words_append [] ts = refl
words_append (u ∷ us) ts =
    ap (λ (w : List ℕ). update_words u ++ w) (words_append us ts) ∙ sym (append_assoc (update_words u) (updates_words us)
    (updates_words ts))

-- ---- each of them

every_foreign : (f : SentUpdate → Bool) (desk : ℕ) (us : List SentUpdate) → list_all f us ≡ true → list_all f (foreign desk us) ≡ true
unfolding foreign
every_foreign f desk [] e = refl
every_foreign f desk (u ∷ us) e = go (eqb u.desk desk) (every_foreign f desk us (and_snd (f u) _ e))
  where
    go : (own : Bool) → list_all f (foreign desk us) ≡ true → list_all f (cond own (foreign desk us) (u ∷ foreign desk us)) ≡ true
    go true r = r
    go false r = and_from (f u) _ (and_fst (f u) _ e) r

-- ---- how many of each desk

count_append : (d : ℕ) (us ts : List SentUpdate) → desk_count d (us ++ ts) ≡ desk_count d us + desk_count d ts
unfolding desk_count
count_append d [] ts = omega arith
count_append d (u ∷ us) ts = omega (arith, count_append d us ts)

none_own : (desk : ℕ) (us : List SentUpdate) → desk_count desk (foreign desk us) ≡ 0
unfolding desk_count foreign
none_own desk [] = refl
none_own desk (u ∷ us) = go (eqb u.desk desk) refl (none_own desk us)
  where
    go : (own : Bool) → eqb u.desk desk ≡ own → desk_count desk (foreign desk us) ≡ 0
        → desk_count desk (cond own (foreign desk us) (u ∷ foreign desk us)) ≡ 0
    go true q r = r
    go false q r = rw q (omega (arith, r))

fewer : (d desk : ℕ) (us : List SentUpdate) → desk_count d (foreign desk us) ≤ desk_count d us
unfolding desk_count foreign
fewer d desk [] = omega arith
fewer d desk (u ∷ us) = go (eqb u.desk desk) (fewer d desk us)
  where
    go : (own : Bool) → desk_count d (foreign desk us) ≤ desk_count d us
        → desk_count d (cond own (foreign desk us) (u ∷ foreign desk us)) ≤ cond (eqb u.desk d) 1 0 + desk_count d us
    go true r = omega arith
    go false r = omega arith

own_count : (d desk : ℕ) (ws : List Update) → desk_count d (map (sent desk) ws) ≡ cond (eqb desk d) (length ws) 0
unfolding desk_count
own_count d desk [] = go (eqb desk d)
  where
    go : (b : Bool) → ◌≡◌ {A = ℕ} 0 (cond b 0 0)
    go true = refl
    go false = refl
own_count d desk (w ∷ ws) = go (eqb desk d) (own_count d desk ws)
  where
    go : (b : Bool) → desk_count d (map (sent desk) ws) ≡ cond b (length ws) 0
        → cond b 1 0 + desk_count d (map (sent desk) ws) ≡ cond b (length (w ∷ ws)) 0
    go true r = omega (arith, r)
    go false r = omega (arith, r)

-- at most 32 of its own behind the others' keep a frame well formed
pub forwarded_fits : (n desk : ℕ) (us : List SentUpdate) (ws : List Update) → WellFormed n us → length ws ≤ 32
    → list_all (update_fits n) (map (sent desk) ws) ≡ true → WellFormed n (foreign desk us ++ map (sent desk) ws)
forwarded_fits n desk us ws f few own =
    record {
      each = all_append (update_fits n) (foreign desk us) (map (sent desk) ws) (every_foreign (update_fits n) desk us f.each) own;
      per_desk = λ d. go d (eqb desk d) refl;
    }
  where
    go : (d : ℕ) (b : Bool) → eqb desk d ≡ b → desk_count d (foreign desk us ++ map (sent desk) ws) ≤ 32
    go d true q =
        let c : desk_count d (map (sent desk) ws) ≡ length ws = own_count d desk ws ∙ ap (λ (x : Bool). cond x (length ws) 0) q in
        let z : desk_count d (foreign desk us) ≡ 0 = ap (λ (x : ℕ). desk_count d (foreign x us)) (eqb-true desk d q) ∙ none_own d us in
        omega (arith, count_append d (foreign desk us) (map (sent desk) ws))
    go d false q =
        let c : desk_count d (map (sent desk) ws) ≡ 0 = own_count d desk ws ∙ ap (λ (x : Bool). cond x (length ws) 0) q in
        omega (arith, count_append d (foreign desk us) (map (sent desk) ws), fewer d desk us, f.per_desk d)
