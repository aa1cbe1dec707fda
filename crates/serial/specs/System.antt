-- The parameters of the claim, and what is asked of them. At each parameter: the later change (02) that moves it and it alone.
use Rattle.std.specs.Prelude.{ℕ, ◌<◌, ◌≡◌, ◌⊎◌, Bool, T}
use mathlib.Core.List.{List, ◌∷◌, Memᴰ}
use Rattle.serial.specs.Store.{Store, Update, Same, Within}
use Rattle.serial.specs.Frame.{Frame}
use Rattle.serial.specs.Desk.{Request, Desk, Call, visit}

-- free, local and global as in 01. 002's commutative class is wider than free: it also has writes that nobody reads.
pub data Class : Type 0 where
  free local global : Class

pub record System : Type 1 where
  -- the number of desks: A.14, "for 1 to 8 desks as its caller says"
  pub n : ℕ
  -- "the transaction and four parameters", any type: A.1 and A.3 give its steps another meaning, A.14 has a plan of its own
  pub Op : Type 0
  -- what else a call brings: A.4 lends each visit a second store, A.11 shorter outgoing buffers
  pub Extra : Type 0
  -- what a run answers: A.1, "A reply gains four words, the told numbers in order"
  pub Reply : Type 0
  -- "Its desk is the partitioning parameter modulo the number of desks": A.2 chooses the partitioning
  pub desk : Op → ℕ
  -- "Free: ..", "Local: ..", "Global: ..": A.7 and A.8 say more of it, and leave the class as it is
  pub class : Op → Class
  -- "It may read or write the cells of all its read or write steps, run or not": A.8 asks them of many operations at once
  pub Reads : Op → ℕ → Type 0
  pub Writes : Op → ℕ → Type 0
  -- "Running a transaction": A.1 and A.3 change the reply, A.3 also the update, which is empty where a sum would go round
  pub reply : Op → Store → Reply
  pub update : Op → Store → Update
  -- how "a global one at its own desk joins that desk's line, in the order laid down for the row": A.6 lays down "urgent requests before
  -- the others, each sort by arrival"
  pub join : List (Request Op) → Request Op → List (Request Op)
  -- admission ("Questions at the door") of a call at a desk, true where none is answered by no: A.4, A.6 and A.11 change questions
  pub admits : Desk Op → Call Op Extra → Bool

-- "Touching is either."
abbrev pub Touches : (S : System) → S.Op → ℕ → Type 0
Touches S o c = S.Reads o c ⊎ S.Writes o c

pub record Laws (S : System) : Type 0 where
  pub some_desk : 0 < S.n
  pub desk_below : (o : S.Op) → S.desk o < S.n
  -- a run looks at the cells that it may read, and writes cells that it may write
  pub reply_reads : (o : S.Op) (a b : Store) → Same (S.Reads o) a b → S.reply o a ≡ S.reply o b
  pub update_reads : (o : S.Op) (a b : Store) → Same (S.Reads o) a b → S.update o a ≡ S.update o b
  pub update_writes : (o : S.Op) (s : Store) → Within (S.Writes o) (S.update o s)
  -- "Free: it may write no cell, and no operation of the plan may write a cell it may read."
  pub free_writes : (o : S.Op) → S.class o ≡ free → (c : ℕ) → S.Writes o c → ⊥
  pub free_reads : (o : S.Op) → S.class o ≡ free → (c : ℕ) → S.Reads o c → (o' : S.Op) → S.Writes o' c → ⊥
  -- "Local: .. no operation of another desk may touch a cell it may write." Of a global operation nothing is asked.
  pub local_alone : (o : S.Op) → S.class o ≡ local → (c : ℕ) → S.Writes o c → (o' : S.Op) → Touches S o' c → S.desk o' ≡ S.desk o
  -- the joined queue holds what waited and the request, and nothing else; their order is free. The claim rests on join_only, and that
  -- each waiting request is answered on join_keeps.
  pub join_keeps : (q : List (Request S.Op)) (r t : Request S.Op) → Memᴰ t (r ∷ q) → Memᴰ t (S.join q r)
  pub join_only : (q : List (Request S.Op)) (r t : Request S.Op) → Memᴰ t (S.join q r) → Memᴰ t (r ∷ q)
  -- all that is asked of the admission: question 14, "Is the visit the awaited one?"
  pub awaited_only : (d : Desk S.Op) (p : ℕ) (f : Frame) (x : S.Extra) → T (S.admits d (visit p f x)) → f.number ≡ d.awaited
