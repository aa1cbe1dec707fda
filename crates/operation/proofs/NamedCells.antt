-- The cells that steps name: a step's cell is among them, each of them is a step's, and they are no more than the steps.
-- Assumes nothing.
use mathlib.Core.Path.{◌≡◌, refl, ap, subst}
use mathlib.Core.Bool.{Bool, true, false, cond}
use mathlib.Core.List.Memᴰ
use mathlib.Core.List.{List, [], ◌∷◌, Memᴰ}
use mathlib.Core.Logic.{⊎_elim}
use Prim.Native.Nat.{ℕ, ◌≤◌}
use native.Mathlib.Omega.{arith}
use lib.ListN.{length}
use Rattle.plan.specs.Plan.{Source, Access, reads, writes, Step, cell, operand, tells}
use Rattle.operation.specs.Operation.{value_of, cell_number, same_access, cells_named}

-- ---- named by a step

same_self : (a : Access) → same_access a a ≡ true
same_self reads = refl
same_self writes = refl

pub same_access_lem : (a b : Access) → same_access a b ≡ true → a ≡ b
same_access_lem reads reads e = refl
same_access_lem reads writes e = let z : ◌≡◌ {A = ℕ} 0 1 = cc in absurd (omega arith)
same_access_lem writes reads e = let z : ◌≡◌ {A = ℕ} 0 1 = cc in absurd (omega arith)
same_access_lem writes writes e = refl

-- a step of this access that names the cell c
pub record Names (a : Access) (ps : List ℕ) (ss : List Step) (c : ℕ) : Type 0 where
  pub table : ℕ
  pub column : ℕ
  pub row : Source
  pub step : Memᴰ (cell a table column row) ss
  pub is : c ≡ cell_number table (value_of ps row) column

module _ (a : Access) (ps : List ℕ) where
  later : (s : Step) (ss : List Step) (c : ℕ) → Names a ps ss c → Names a ps (s ∷ ss) c
  later s ss c n = record { table = n.table; column = n.column; row = n.row; step = Memᴰ.tail n.step; is = n.is }

  pub names_of : (ss : List Step) (c : ℕ) → Memᴰ c (cells_named a ps ss) → Names a ps ss c
  unfolding cells_named
  names_of [] c m = absurd (Memᴰ.not-nil m)
  names_of (operand f v ∷ ss) c m = later (operand f v) ss c (names_of ss c m)
  names_of (tells ∷ ss) c m = later tells ss c (names_of ss c m)
  names_of (cell b t k r ∷ ss) c m = go (same_access a b) refl m (names_of ss c)
    where
      go : (e : Bool) → same_access a b ≡ e → Memᴰ c (cond e (cell_number t (value_of ps r) k ∷ cells_named a ps ss) (cells_named a ps ss))
          → (Memᴰ c (cells_named a ps ss) → Names a ps ss c) → Names a ps (cell b t k r ∷ ss) c
      go true e h rest =
          ⊎_elim
          (λ (q : c ≡ cell_number t (value_of ps r) k). record {
            table = t;
            column = k;
            row = r;
            step = Memᴰ.head (ap (λ (x : Access). cell x t k r) (same_access_lem a b e));
            is = q;
          })
          (λ (n : Memᴰ c (cells_named a ps ss)). later (cell b t k r) ss c (rest n)) (Memᴰ.cases_cons h)
      go false e h rest = later (cell b t k r) ss c (rest h)

  pub of_names : (ss : List Step) (t k : ℕ) (r : Source) → Memᴰ (cell a t k r) ss
      → Memᴰ (cell_number t (value_of ps r) k) (cells_named a ps ss)
  unfolding cells_named
  of_names [] t k r x' = elim x' [ ]
  of_names (s ∷ ss) t k r (Memᴰ.head p) =
      subst (λ (x : Step). Memᴰ (cell_number t (value_of ps r) k) (cells_named a ps (x ∷ ss))) p (rw (same_self a) (Memᴰ.head refl))
  of_names (operand f v ∷ ss) t k r (Memᴰ.tail m) = of_names ss t k r m
  of_names (tells ∷ ss) t k r (Memᴰ.tail m) = of_names ss t k r m
  of_names (cell b t' k' r' ∷ ss) t k r (Memᴰ.tail m) = go (same_access a b) (of_names ss t k r m)
    where
      go : (e : Bool) → Memᴰ (cell_number t (value_of ps r) k) (cells_named a ps ss)
          → Memᴰ (cell_number t (value_of ps r) k) (cond e (cell_number t' (value_of ps r') k' ∷ cells_named a ps ss) (cells_named a ps ss))
      go true n = Memᴰ.tail n
      go false n = n

-- ---- how many they are

pub named_few : (a : Access) (ps : List ℕ) (ss : List Step) → length (cells_named a ps ss) ≤ length ss
unfolding cells_named
named_few a ps [] = omega arith
named_few a ps (operand f v ∷ ss) = let h = named_few a ps ss in omega arith
named_few a ps (tells ∷ ss) = let h = named_few a ps ss in omega arith
named_few reads ps (cell reads t k r ∷ ss) = let h = named_few reads ps ss in omega arith
named_few reads ps (cell writes t k r ∷ ss) = let h = named_few reads ps ss in omega arith
named_few writes ps (cell reads t k r ∷ ss) = let h = named_few writes ps ss in omega arith
named_few writes ps (cell writes t k r ∷ ss) = let h = named_few writes ps ss in omega arith
