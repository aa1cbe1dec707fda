-- For later (02): a visit answers its queue in order, and each waiting request is answered at its desk's next accepted visit. None of
-- this asks how the desks came to be as they are.
-- Assumes nothing.
use Prim.Native.Nat.{ℕ}
use mathlib.Core.Path.{◌≡◌, refl, ap}
use mathlib.Core.Logic.{◌≢◌}
use mathlib.Core.Bool.{Bool, true, false, cond, true≢false}
use mathlib.Core.List.{List, [], ◌∷◌, map, Memᴰ}
use native.Mathlib.Omega.{arith}
use Rattle.std.proofs.lemmas.Bool.{eq-eqb, ne_eqb}
use Rattle.lists.proofs.Laws.{by_same, All_left, All_right}
use Rattle.std.specs.List.{AllByRecursion}
use Rattle.serial.specs.Store.{Store}
use Rattle.serial.specs.Frame.{Frame}
use Rattle.serial.specs.Desk.{Request, Desk, Call, request, visit, desk_called, Answer, refused, waits, is_refused, given}
use Rattle.serial.specs.System.{System, Laws}
use Rattle.serial.specs.Step.{Route, immediate, enqueue, redirect, route, run_one, replies_of, request_step, caught_up, accepted_step}
use Rattle.serial.specs.Step.{visit_step}
use Rattle.serial.specs.History.{answer_at, step_at, desks_after}
use Rattle.serial.specs.Visits.{Visit, visit_of, visits_at, visits}

-- the visit is at another desk than p
abbrev pub NotAt : ℕ → Visit → Type 0
NotAt p v = v.desk ≢ p

module _ (S : System) where
  open S use {n, Op, Extra, Reply, reply, join, admits}

  -- ---- a visit

  replies_clients : (q : List (Request Op)) (s : Store) → map (λ (r : ℕ × Reply). r.0) (replies_of S q s)
      ≡ map (λ (r : Request Op). r.client) q
  replies_clients [] s = refl
  replies_clients (r ∷ q) s = ap (λ (l : List ℕ). r.client ∷ l) (replies_clients q (run_one S r.op s))

  replies_hold : (q : List (Request Op)) (s : Store) (r : Request Op) → Memᴰ r q →
      (s' : Store) × Memᴰ (r.client, reply r.op s') (replies_of S q s)
  replies_hold [] s r x' = elim x' [ ]
  replies_hold (t ∷ q) s r (Memᴰ.head e) = (s, Memᴰ.head (ap (λ (t : Request Op). (t.client, reply t.op s)) e))
  replies_hold (t ∷ q) s r (Memᴰ.tail m) = let h = replies_hold q (run_one S t.op s) r m in (h.0, Memᴰ.tail h.1)

  -- what an accepted visit at desk p, in state d, answers and leaves
  pub record AnswersQueue (p : ℕ) (d : Desk Op) (f : Frame) (m : Desk Op × Answer Reply) : Type 0 where
    pub in_order : given m.1 ≡ replies_of S d.queue (caught_up S p d f)
    pub clients : map (λ (r : ℕ × Reply). r.0) (given m.1) ≡ map (λ (r : Request Op). r.client) d.queue
    pub none_waits : m.0.queue ≡ []
    pub each_answered : (r : Request Op) → Memᴰ r d.queue → (s : Store) × Memᴰ (r.client, reply r.op s) (given m.1)

  answers_queue : (p : ℕ) (d : Desk Op) (f : Frame) (o : Bool) →
      is_refused (cond o (visit_step S p d f) (d, refused)).1 ≡ false → AnswersQueue p d f (cond o (visit_step S p d f) (d, refused))
  answers_queue p d f true h =
      record {
        in_order = refl;
        clients = replies_clients d.queue (caught_up S p d f);
        none_waits = refl;
        each_answered = replies_hold d.queue (caught_up S p d f);
      }
  answers_queue p d f false h = absurd (true≢false h)

  module _ (w : ℕ → Desk Op) (p : ℕ) (f : Frame) (x : Extra) (accepted : is_refused (answer_at S w (visit p f x)) ≡ false) where
    pub visit_answers_queue_in_order : AnswersQueue p (w p) f (step_at S w (visit p f x) p, answer_at S w (visit p f x))
    visit_answers_queue_in_order = rw (eq-eqb p p refl) (answers_queue p (w p) f (admits (w p) (visit p f x)) accepted)

module _ (S : System) (L : Laws S) where
  open S use {n, Op, Extra, Reply, reply, admits}

  abbrev Waits : Request Op → Desk Op → Type 0
  Waits r d = Memᴰ r d.queue

  -- ---- a request that waits

  route_keeps : (v : Route) (d : Desk Op) (t r : Request Op) → Waits r d → Waits r (request_step S v d t).0
  route_keeps immediate d t r m = m
  route_keeps enqueue d t r m = L.join_keeps d.queue t r (Memᴰ.tail m)
  route_keeps redirect d t r m = m

  route_joins : (v : Route) (d : Desk Op) (r : Request Op) → (request_step S v d r).1 ≡ waits → Waits r (request_step S v d r).0
  route_joins immediate d r e = let z : ◌≡◌ {A = ℕ} 0 1 = cc in absurd (omega arith)
  route_joins enqueue d r e = L.join_keeps d.queue r r (Memᴰ.head refl)
  route_joins redirect d r e = let z : ◌≡◌ {A = ℕ} 0 1 = cc in absurd (omega arith)

  joins : (v : Route) (d : Desk Op) (r : Request Op) (o : Bool) → (cond o (request_step S v d r) (d, refused)).1 ≡ waits →
      Waits r (cond o (request_step S v d r) (d, refused)).0
  joins v d r true e = route_joins v d r e
  joins v d r false e = let z : ◌≡◌ {A = ℕ} 0 1 = cc in absurd (omega arith)

  -- a request that is told to wait is in its desk's queue
  pub waits_in_queue : (w : ℕ → Desk Op) (p : ℕ) (r : Request Op) (x : Extra) → answer_at S w (request p r x) ≡ waits →
      Waits r (step_at S w (request p r x) p)
  waits_in_queue w p r x e = rw (eq-eqb p p refl) (joins (route S p r.op) (w p) r (admits (w p) (request p r x)) e)

  -- ---- it stays there until an accepted visit at its desk

  abbrev met_by : Desk Op → Call Op Extra → Bool → Desk Op × Answer Reply
  met_by d c o = cond o (accepted_step S d c) (d, refused)

  keeps : (d : Desk Op) (c : Call Op Extra) (o : Bool) (r : Request Op) →
      AllByRecursion (NotAt (desk_called c)) (cond (is_refused (met_by d c o).1) [] (visit_of S d c)) → Waits r d → Waits r (met_by d c o).0
  keeps d c false r h m = m
  keeps d (request p t x) true r h m = route_keeps (route S p t.op) d t r m
  keeps d (visit p f x) true r h m = absurd (h.0 refl)

  stays : (w : ℕ → Desk Op) (c : Call Op Extra) (p : ℕ) (r : Request Op) → AllByRecursion (NotAt p) (visits_at S w c) → Waits r (w p) →
      Waits r (step_at S w c p)
  stays w c p r h m =
      let q : ℕ = desk_called c in
      by_same p q
      (λ e. rw (eq-eqb _ _ e) (keeps (w q) c (admits (w q) c) r (rw e at h) (rw e at m)))
      (λ e. rw (ne_eqb _ _ e) m)

  pub waits_on : (cs : List (Call Op Extra)) (w : ℕ → Desk Op) (p : ℕ) (r : Request Op) → AllByRecursion (NotAt p) (visits S w cs)
      → Waits r (w p) →
      Waits r (desks_after S w cs p)
  waits_on [] w p r h m = m
  waits_on (c ∷ cs) w p r h m =
      waits_on cs (step_at S w c) p r (All_right (NotAt p) (visits_at S w c) (visits S (step_at S w c) cs) h)
      (stays w c p r (All_left (NotAt p) (visits_at S w c) (visits S (step_at S w c) cs) h) m)

  -- r waits at desk p; the calls of cs have no accepted visit there; then one is accepted: it answers r, with its client's word
  pub answered_at_next_visit : (w : ℕ → Desk Op) (cs : List (Call Op Extra)) (p : ℕ) (r : Request Op) (f : Frame) (x : Extra) →
      Memᴰ r (w p).queue → AllByRecursion (NotAt p) (visits S w cs) → is_refused (answer_at S (desks_after S w cs) (visit p f x)) ≡ false →
      (s : Store) × Memᴰ (r.client, reply r.op s) (given (answer_at S (desks_after S w cs) (visit p f x)))
  answered_at_next_visit w cs p r f x m h a =
      (visit_answers_queue_in_order S (desks_after S w cs) p f x a).each_answered r (waits_on cs w p r h m)
