-- The cells that steps name, one step after another; and that all of them are those of a store.
-- Assumes nothing.
use Rattle.std.proofs.Common.{ℕ, ◌<◌, ◌≡◌, ◌∙◌, sym, ap, refl, Bool, true, false, cond, List, [], ◌∷◌, ◌++◌, map, ltb}
use Rattle.std.proofs.Common.{Option, Some, None, IfSome, option_to_list}
use mathlib.Core.List.Memᴰ
use mathlib.Core.List.{Memᴰ}
use Rattle.std.specs.List.{list_all}
use borrow.Author.Tests.{lt-ltb, ltb-true}
use Rattle.lists.proofs.Laws.{and_fst, and_snd}
use Rattle.operation.specs.Store.{store_size}
use Rattle.plan.specs.Plan.{Access, Step, cell, operand, tells}
use Rattle.plan.specs.Decode.{step_of}
use Rattle.operation.specs.Operation.{value_of, cell_number, same_access, cells_named}
use Rattle.operation.specs.Admission.{row_in_range}
use Rattle.operation.specs.Named.{cell_of, AllInStore}
use Rattle.operation.proofs.Bounds.{cells_low, decoded_fits, AllFit, FieldsFit}
use mathlib.Core.Path.{subst}

-- the first step's cell, if it names one, and those behind it
pub cells_cons : (a : Access) (ps : List ℕ) (s : Step) (ss : List Step)
    → cells_named a ps (s ∷ ss) ≡ option_to_list (cell_of a ps s) ++ cells_named a ps ss
unfolding cells_named
cells_cons a ps (cell b t k r) ss = go (same_access a b)
  where
    go : (e : Bool) → cond e (cell_number t (value_of ps r) k ∷ cells_named a ps ss) (cells_named a ps ss)
        ≡ option_to_list (cond e (Some (cell_number t (value_of ps r) k)) None) ++ cells_named a ps ss
    go true = refl
    go false = refl
cells_cons a ps (operand f v) ss = refl
cells_cons a ps tells ss = refl

words_fit : (ws : List ℕ) → AllFit (map step_of ws)
words_fit ws st m = let r = Memᴰ.of_map step_of ws m in subst FieldsFit r.2 (decoded_fits r.0)

all_of : (cs : List ℕ) → ((c : ℕ) → Memᴰ c cs → c < 1024) → AllInStore cs
all_of [] h = refl
all_of (c ∷ cs) h = rw (lt-ltb c 1024 (h c (Memᴰ.head refl))) (all_of cs (λ e m. h e (Memᴰ.tail m)))

-- the cells of steps that words stand for, whose rows are in range
pub cells_in_store : (a : Access) (ps ws : List ℕ) → list_all (row_in_range ps) (map step_of ws) ≡ true
    → AllInStore (cells_named a ps (map step_of ws))
cells_in_store a ps ws e = all_of _ (cells_low a ps (map step_of ws) (words_fit ws) e)

-- of cells of a store the first is one, and so are those behind it
pub first_in_store : (o : Option ℕ) (cs : List ℕ) → AllInStore (option_to_list o ++ cs) → IfSome o (λ c. c < store_size) × AllInStore cs
first_in_store None cs e = (tt, e)
first_in_store (Some c) cs e = (ltb-true c 1024 (and_fst (ltb c 1024) _ e), and_snd (ltb c 1024) _ e)

-- behind steps that name none: the cells of all are the next step's, if it names one, and those behind it
pub next_cells : (a : Access) (ps : List ℕ) (s : Step) (ss left all : List Step) → cells_named a ps left ≡ cells_named a ps all
    → left ≡ s ∷ ss → cells_named a ps all ≡ option_to_list (cell_of a ps s) ++ cells_named a ps ss
next_cells a ps s ss left all e l = sym e ∙ ap (cells_named a ps) l ∙ cells_cons a ps s ss

pub next_in_store : (a : Access) (ps : List ℕ) (s : Step) (ss left all : List Step) → cells_named a ps left ≡ cells_named a ps all
    → left ≡ s ∷ ss → AllInStore (cells_named a ps all)
    → IfSome (cell_of a ps s) (λ c. c < store_size) × AllInStore (cells_named a ps ss)
next_in_store a ps s ss left all e l i =
    first_in_store (cell_of a ps s) (cells_named a ps ss) (rw (next_cells a ps s ss left all e l) at i)
