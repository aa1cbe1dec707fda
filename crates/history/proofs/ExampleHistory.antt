-- A history of the instance with two desks, computed: a global, a stale read, a redirect, a refused replay and two visits.
-- Assumes nothing.
use Prim.Native.Nat.{ℕ}
use mathlib.Core.Path.{◌≡◌, refl}
use mathlib.Core.Bool.{Bool, true, false, true≢false}
use mathlib.Core.List.Memᴰ
use mathlib.Core.List.{List, [], ◌∷◌, map}
use native.Mathlib.Omega.{arith}
use Rattle.operation.specs.Operation.{cells_named}
use Rattle.execution.specs.Run.{Reply, reply_with, act, run_from}
use Rattle.conflict.proofs.Ones.{count_of}
use Rattle.serial.specs.Store.{Store}
use Rattle.serial.specs.Frame.{Frame, start_frame}
use Rattle.serial.specs.Desk.{Call, request, visit, Answer, refused, replied, waits, redirected, forwarded, is_refused}
use Rattle.serial.specs.History.{answers, desks_after, new_desks, Proper}
use Rattle.serial.specs.Order.{Finished}
use Rattle.serial.specs.SerialRun.{Serial, serial, order, store_after, due}
use Rattle.serial.specs.Claim.{Serializable, Claim}
use Rattle.serial.proofs.Claim.{serializable}
use Rattle.history.proofs.Example.{Op, file₀, raise, look, catalogue, example, example_laws}

abbrev ask : ℕ → ℕ → Op → Call Op Unit
ask p client o = request p (record { client = client; op = o }) tt

abbrev says : ℕ → Reply
says x = reply_with true x []

abbrev store₀ : Store
store₀ = 0 ∷ 0 ∷ 0 ∷ 7 ∷ []

abbrev frame₁ : Frame
frame₁ = record { number = 1; updates = (0, (2, 3) ∷ []) ∷ [] }

abbrev frame₂ : Frame
frame₂ = record { number = 2; updates = (0, (2, 3) ∷ []) ∷ [] }

-- The second look reads 0 although desk 0 has answered the raise: desk 1 has not heard of it. The second visit with frame₁ is a replay.
abbrev history : List (Call Op Unit)
history =
    ask 1 5 look ∷ ask 0 7 (raise 3) ∷ ask 1 9 (raise 4) ∷ visit 0 start_frame tt ∷ ask 1 5 look ∷ ask 0 6 (file₀ 8) ∷ visit 1 frame₁ tt
    ∷ visit 1 frame₁ tt ∷ ask 1 5 look ∷ ask 1 2 catalogue ∷ []

abbrev answered : List (Answer Reply)
answered = answers example (new_desks example store₀) history

expected : answered
    ≡ (replied (5, says 0) ∷ waits ∷ redirected 0 ∷ forwarded frame₁ ((7, says 3) ∷ []) ∷ replied (5, says 0) ∷ replied (6, says 8)
    ∷ forwarded frame₂ [] ∷ refused ∷ replied (5, says 3) ∷ replied (2, says 7) ∷ [])
unfolding cells_named count_of act run_from
expected = refl

abbrev refusals : List Bool
refusals = false ∷ false ∷ false ∷ false ∷ false ∷ false ∷ false ∷ true ∷ false ∷ false ∷ []

abbrev serial_run : Serial Op
serial_run = serial example history refusals

-- the serial order by clients: both early looks stand before the raise
order_is : map (λ (e : Finished Op). e.request.client) (order example serial_run) ≡ (5 ∷ 5 ∷ 7 ∷ 6 ∷ 5 ∷ 2 ∷ [])
unfolding cells_named count_of
order_is = refl

-- the serial values, and the replies due to some calls
store_is : store_after example (order example serial_run) store₀ ≡ (8 ∷ 0 ∷ 3 ∷ 7 ∷ [])
unfolding cells_named count_of act run_from
store_is = refl

due_is : map (λ (i : ℕ). due example i (order example serial_run) store₀) (3 ∷ 4 ∷ 7 ∷ [])
    ≡ (((7, says 3) ∷ []) ∷ ((5, says 0) ∷ []) ∷ [] ∷ [])
unfolding cells_named count_of act run_from
due_is = refl

-- the premise is met, so the claim speaks of this history
proper : Proper example (new_desks example store₀) (start_frame ∷ []) history
unfolding cells_named count_of act run_from
proper = (
  omega arith,
  λ e. tt,
  (
    omega arith,
    λ e. tt,
    (
      omega arith,
      λ e. tt,
      (
        omega arith,
        λ e. Memᴰ.head refl,
        (
          omega arith,
          λ e. tt,
          (
            omega arith,
            λ e. tt,
            (
              omega arith,
              λ e. Memᴰ.tail (Memᴰ.head refl),
              (omega arith, λ e. absurd (true≢false e), (omega arith, λ e. tt, (omega arith, λ e. tt, tt))),
            ),
          ),
        ),
      ),
    ),
  ),
)

history_serializable : Serializable example store₀ answered (desks_after example (new_desks example store₀) history)
    (serial example history (map is_refused answered))
unfolding Claim
history_serializable = serializable example example_laws store₀ history proper
