-- Demand 3: "a single claim about a whole history, not one for each call".
use Rattle.std.specs.Prelude.{ℕ, ◌<◌, ◌≡◌, List, [], map, get_or}
use Rattle.serial.specs.Store.{Store}
use Rattle.serial.specs.Desk.{Desk, Call, Answer, given}
use Rattle.serial.specs.System.{System, Touches}
use Rattle.serial.specs.SerialRun.{Serial, order, store_after, due}
use Rattle.serial.specs.AtEnd.{ProperFrom, answers_of, desks_of, serial_of}

module _ (S : System) where
  open S use {n, Op, Extra, Reply, desk}

  -- "a cell that just one desk may touch": an operation of desk p may, and every one that may is of desk p
  abbrev pub JustOne : ℕ → ℕ → Type 0
  JustOne p c = ((o : Op) × Touches S o c × (desk o ≡ p)) × ((o : Op) → Touches S o c → desk o ≡ p)

  -- b the starting store, ans the answers, w the desks at the end, s the serial run at the end
  pub record Serializable (b : Store) (ans : List (Answer Reply)) (w : ℕ → Desk Op) (s : Serial Op) : Type 0 where
    -- "A request finished at once is answered with its reply. A visit puts out the replies of what it finished, in that order and
    -- with their clients' words": call i gives the replies due to it, and where none is due it gives none
    pub all_replies : (i : ℕ) → get_or (map given ans) i [] ≡ due S i (order S s) b
    -- "A cell that just one desk may touch has its serial value in that desk's book"
    pub one_desk : (p c : ℕ) → p < n → JustOne p c → get_or (w p).store c 0 ≡ get_or (store_after S (order S s) b) c 0
    -- "any other, at the desk of the latest accepted visit (desk 0 before any)"
    pub any_other : (c : ℕ) → ((p : ℕ) → p < n → JustOne p c → ⊥) →
        get_or (w s.latest).store c 0 ≡ get_or (store_after S (order S s) b) c 0

  -- every history that satisfies the premise, from any starting store
  unfoldable pub Claim : Type 0
  Claim = (b : Store) (cs : List (Call Op Extra)) → ProperFrom S b cs →
      Serializable b (answers_of S b cs) (desks_of S b cs) (serial_of S b cs)
