-- From a machine of any make to the claim: where each of its calls is the abstract one, seen through the view, so is its whole history,
-- and it is serializable under the premise in its own words.
-- Assumes nothing.
use Prim.Native.Nat.{ℕ, ◌<◌}
use mathlib.Core.Path.{◌≡◌, refl, sym, ◌∙◌, ap}
use mathlib.Core.List.Memᴰ
use mathlib.Core.List.{List, [], ◌∷◌, ◌++◌, map, map-append, Memᴰ}
use Rattle.std.proofs.lemmas.Bool.{eq-eqb, ne_eqb}
use Rattle.lists.proofs.Laws.{by_same}
use Rattle.std.specs.List.{AllByRecursion}
use Rattle.lists.specs.Lists.{assign}
use Rattle.serial.proofs.Assign.{assign_map}
use Rattle.serial.specs.Store.{Store}
use Rattle.serial.specs.Frame.{Frame, start_frame}
use Rattle.serial.specs.Desk.{Desk, Call, request, visit, Answer, is_refused, sent}
use Rattle.serial.specs.System.{System, Laws}
use Rattle.serial.specs.Step.{serve}
use Rattle.serial.specs.History.{answers, desks_after, new_desks, Framed, Proper}
use Rattle.serial.specs.SerialRun.{serial}
use Rattle.serial.specs.Claim.{Serializable, Claim}
use Rattle.serial.specs.Machine.{Machine, Words, at_desk, machine_step, machine_after, seen, answer_seen, answers_seen, IfVisit}
use Rattle.serial.specs.Machine.{MachineProper}
use Rattle.serial.specs.AtEnd.{ProperFrom, answers_of, desks_of}
use Rattle.serial.proofs.Claim.{serializable}

module _ {S : System} (M : Machine S) where
  open M use {State, C, does, view, call_of, answer_of, Ok, Fine}

  -- what every call of a history has, and every desk
  abbrev pub Called : C → Type 0
  Called c = (at_desk M c < S.n) × Fine c

  abbrev pub AllOk : (ℕ → State) → Type 0
  AllOk w = (q : ℕ) → q < S.n → Ok q (w q)

  module _ (w : ℕ → State) (c : C) (h : Called c) (ok : AllOk w) where
    abbrev p : ℕ
    p = at_desk M c

    ok_step : AllOk (machine_step M w c)
    ok_step q l = by_same q p (λ e. rw (eq-eqb _ _ e) (rw e (M.ok_does (w p) c h.0 h.1 (ok p h.0)))) (λ e. rw (ne_eqb _ _ e) (ok q l))

    seen_step : seen M (machine_step M w c) ≡ assign p (serve S (seen M w p) (call_of c)).0 (seen M w)
    seen_step =
        assign_map view p (does (w p) c).0 w
        ∙ ap (λ (d : Desk S.Op). assign p d (seen M w)) (M.view_does (w p) c h.0 h.1 (ok p h.0))

    seen_answer : answer_seen M w c ≡ (serve S (seen M w p) (call_of c)).1
    seen_answer = M.answer_does (w p) c h.0 h.1 (ok p h.0)

  -- the machine's history, seen through the view, is the abstract one
  pub seen_answers : (cs : List C) (w : ℕ → State) → AllByRecursion Called cs → AllOk w →
      answers_seen M w cs ≡ answers S (seen M w) (map call_of cs)
  seen_answers [] w h ok = refl
  seen_answers (c ∷ cs) w h ok =
      rw (seen_answer w c h.0 ok, ← seen_step w c h.0 ok, seen_answers cs (machine_step M w c) h.1 (ok_step w c h.0 ok)) refl

  pub seen_after : (cs : List C) (w : ℕ → State) → AllByRecursion Called cs → AllOk w →
      seen M (machine_after M w cs) ≡ desks_after S (seen M w) (map call_of cs)
  seen_after [] w h ok = refl
  seen_after (c ∷ cs) w h ok =
      seen_after cs (machine_step M w c) h.1 (ok_step w c h.0 ok)
      ∙ ap (λ (v : ℕ → Desk S.Op). desks_after S v (map call_of cs)) (seen_step w c h.0 ok)

  pub ok_after : (cs : List C) (w : ℕ → State) → AllByRecursion Called cs → AllOk w → AllOk (machine_after M w cs)
  ok_after [] w h ok = ok
  ok_after (c ∷ cs) w h ok = ok_after cs (machine_step M w c) h.1 (ok_step w c h.0 ok)

module _ {S : System} (M : Machine S) (N : Words M) where
  open M use {State, C, does, call_of, answer_of}
  open N use {W, frame_of, shown, out}

  framed : (ws : List W) (c : C) (k : Call S.Op S.Extra) → call_of c ≡ k → IfVisit M N k (Memᴰ (shown c) ws) →
      Framed S (map frame_of ws) k
  framed ws c (request p r x) e h = tt
  framed ws c (visit p f x) e h = rw (N.shown_frame c p f x e) (Memᴰ.map frame_of h)

  pub proper_called : (cs : List C) (w : ℕ → State) (ws : List W) → MachineProper M N w ws cs → AllByRecursion (Called M) cs
  proper_called [] w ws pr = tt
  proper_called (c ∷ cs) w ws pr =
      ((pr.0, pr.1), proper_called cs (machine_step M w c) (ws ++ out (does (w (at_desk M c)) c).1) pr.3)

  -- the premise in the machine's words is the abstract premise
  pub proper_seen : (cs : List C) (w : ℕ → State) (ws : List W) → AllOk M w → MachineProper M N w ws cs →
      Proper S (seen M w) (map frame_of ws) (map call_of cs)
  proper_seen [] w ws ok pr = tt
  proper_seen (c ∷ cs) w ws ok pr =
      let h : Called M c = (pr.0, pr.1) in
      let q : ℕ = at_desk M c in
      let a : answer_seen M w c ≡ (serve S (seen M w q) (call_of c)).1 = seen_answer M w c h ok in (
        pr.0,
        λ e. framed ws c (call_of c) refl (pr.2 (ap is_refused a ∙ e)),
        rw (
          ← a,
          N.out_frame (w q) c pr.0 pr.1 (ok q pr.0),
          ← map-append frame_of ws
              (out (does (w q) c).1),
          ← seen_step M w c h ok,
        )
            (proper_seen cs (machine_step M w c) (ws ++ out (does (w q) c).1) (ok_step M w c h ok) pr.3),
      )

  -- ---- from the start: the machine's history is the abstract one, so that every theorem on histories speaks of it

  module _ (b : Store) (w : ℕ → State) (ok : AllOk M w) (e : seen M w ≡ new_desks S b) (cs : List C)
      (pr : MachineProper M N w (N.start ∷ []) cs) where
    pub machine_called : AllByRecursion (Called M) cs
    machine_called = proper_called cs w (N.start ∷ []) pr

    pub machine_proper : ProperFrom S b (map call_of cs)
    machine_proper = rw (← e, ← N.start_frame_lem) (proper_seen cs w (N.start ∷ []) ok pr)

    pub machine_answers : answers_seen M w cs ≡ answers_of S b (map call_of cs)
    machine_answers = seen_answers M cs w machine_called ok ∙ ap (λ (v : ℕ → Desk S.Op). answers S v (map call_of cs)) e

    pub machine_desks : seen M (machine_after M w cs) ≡ desks_of S b (map call_of cs)
    machine_desks = seen_after M cs w machine_called ok ∙ ap (λ (v : ℕ → Desk S.Op). desks_after S v (map call_of cs)) e

    -- the claim, with the premise in the machine's words
    pub machine_serializable : Laws S →
        Serializable S b (answers_seen M w cs) (seen M (machine_after M w cs))
        (serial S (map call_of cs) (map is_refused (answers_seen M w cs)))
    unfolding Claim
    machine_serializable L = rw (machine_answers, machine_desks) (serializable S L b (map call_of cs) machine_proper)

-- ---- the protocol itself is such a machine: what is asked of one can be met

abbrev brought : {Op Extra : Type 0} → Call Op Extra → Frame
brought (request p r x) = start_frame
brought (visit p f x) = f

abbrev itself : (S : System) → Machine S
itself S =
    record {
      State = Desk S.Op;
      C = Call S.Op S.Extra;
      A = Answer S.Reply;
      does = serve S;
      view = λ d. d;
      call_of = λ c. c;
      answer_of = λ c a. a;
      Ok = λ q d. Unit;
      Fine = λ c. Unit;
      ok_does = λ d c h f k. tt;
      view_does = λ d c h f k. refl;
      answer_does = λ d c h f k. refl;
    }

map_id : {A : Type 0} (xs : List A) → xs ≡ map (λ (x : A). x) xs
map_id [] = refl
map_id {A} (x ∷ xs) = ap (λ (l : List A). x ∷ l) (map_id xs)

its_frames : (S : System) → Words (itself S)
its_frames S =
    record {
      W = Frame;
      frame_of = λ f. f;
      shown = brought;
      out = sent;
      start = start_frame;
      shown_frame = λ c p f x e. sym (ap brought e);
      out_frame = λ d c h f k. map_id (sent (serve S d c).1);
      start_frame_lem = refl;
    }
