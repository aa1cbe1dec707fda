-- What 02, A.4 asks of a history: of each desk its store before its latest accepted visit (02: bulletin), and the globals that it shows.
--     Snapshots, new_snapshots, globals_of          what is noted beside the serial run
--     note_taken, snapshots_at, snapshots_after     by one accepted call, by one call, by all
--     snapshots_of                                  from the start
--     Unowned, through                              the cells of which it is claimed; the serial order cut behind a global
--     Shows, SnapshotsShow, StoreThrough            what is claimed of a snapshot, and of a desk's own store
use Rattle.std.specs.Prelude.{ℕ, suc, ◌-◌, ◌≤◌, ◌<◌, cond, List, [], ◌∷◌, ◌++◌, length, get_or}
use Rattle.lists.specs.Lists.{assign}
use Rattle.serial.specs.Store.{Store, Same}
use Rattle.serial.specs.Desk.{Desk, Call, request, visit, is_refused}
use Rattle.serial.specs.System.{System}
use Rattle.serial.specs.History.{answer_at, step_at, new_desks}
use Rattle.serial.specs.Order.{Finished, place_at, place, upto}
use Rattle.serial.specs.SerialRun.{Serial, new_serial, note, order, store_after}
use Rattle.serial.specs.Hearing.{OwnCell}
use Rattle.serial.specs.AtEnd.{ProperFrom, desks_of, serial_of, order_of}

-- how many globals there were behind each accepted visit, in the order of the list; and of each desk how many of these visits its
-- snapshot shows, and its snapshot
pub record Snapshots : Type 0 where
  pub counts : List ℕ
  pub shown : ℕ → ℕ
  pub taken : ℕ → Store

-- each is "equal to the starting book at first", and shows no visit
abbrev pub new_snapshots : Store → Snapshots
new_snapshots b = record { counts = []; shown = λ (p : ℕ). 0; taken = λ (p : ℕ). b }

-- how many globals the first k accepted visits ran
abbrev pub globals_of : List ℕ → ℕ → ℕ
globals_of counts k = get_or (0 ∷ counts) k 0

module _ (S : System) where
  open S use {n, Op, Extra}

  -- an accepted call: visit v takes the store before it, and shows the visits up to and with its desk's visit before, v - n; m globals
  -- there are behind it
  abbrev pub note_taken : (ℕ → Desk Op) → ℕ → Snapshots → Call Op Extra → Snapshots
  note_taken w m t (request p r x) = t
  note_taken w m t (visit p f x) =
      record {
        counts = t.counts ++ (m ∷ []);
        shown = assign p (suc f.number - n) t.shown;
        taken = assign p (w p).store t.taken;
      }

  -- one call; s is the serial run behind it
  abbrev pub snapshots_at : (ℕ → Desk Op) → Serial Op → Snapshots → Call Op Extra → Snapshots
  snapshots_at w s t c = cond (is_refused (answer_at S w c)) t (note_taken w (length s.globals) t c)

  abbrev pub snapshots_after : (ℕ → Desk Op) → Serial Op → Snapshots → List (Call Op Extra) → Snapshots
  snapshots_after w s t [] = t
  snapshots_after w s t (c ∷ cs) =
      snapshots_after (step_at S w c) (note S (is_refused (answer_at S w c)) s c)
      (snapshots_at w (note S (is_refused (answer_at S w c)) s c) t c) cs

  abbrev pub snapshots_of : Store → List (Call Op Extra) → Snapshots
  snapshots_of b cs = snapshots_after (new_desks S b) (new_serial S) (new_snapshots b) cs

  -- no local operation may write the cell: each change of it is a global's. So it is with every cell that two or more desks may touch.
  abbrev pub Unowned : ℕ → Type 0
  Unowned c = (p : ℕ) → OwnCell S p c → ⊥

  -- the serial order up to and with its m-th global
  abbrev pub through : ℕ → List (Finished Op) → List (Finished Op)
  through m es = upto (place n) (place_at n m 0) es

  -- a snapshot shows the first k visits: its cells have their values in the serial run cut behind these visits' globals, which every
  -- desk has heard
  pub record Shows (b : Store) (s : Serial Op) (counts : List ℕ) (k : ℕ) (snapshot : Store) : Type 0 where
    pub within : k ≤ length counts
    pub cells : Same Unowned snapshot (store_after S (through (globals_of counts k) (order S s)) b)
    pub heard : (q : ℕ) → q < n → globals_of counts k ≤ s.heard q

  -- each desk's snapshot at the end of a history
  abbrev pub SnapshotsShow : Type 0
  SnapshotsShow = (b : Store) (cs : List (Call Op Extra)) → ProperFrom S b cs → (p : ℕ) → p < n →
      Shows b (serial_of S b cs) (snapshots_of b cs).counts ((snapshots_of b cs).shown p) ((snapshots_of b cs).taken p)

  -- each desk's own store is the serial one cut behind the globals that it has heard
  abbrev pub StoreThrough : Type 0
  StoreThrough = (b : Store) (cs : List (Call Op Extra)) → ProperFrom S b cs → (p : ℕ) → p < n →
      Same Unowned (desks_of S b cs p).store (store_after S (through ((serial_of S b cs).heard p) (order_of S b cs)) b)
