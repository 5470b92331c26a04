-- What a row tells of owners, tokens and queues is true, and is all that its move did to them.
-- Assumes nothing.
use Rattle.std.specs.Prelude.{ℕ, ◌-◌, Bool, true, false, cond, List, [], ◌∷◌, ◌++◌, ◌≡◌, eqb, leb}
use Rattle.command.specs.Command.{field}
use Rattle.command.specs.Printing.{text}
use Rattle.state.specs.declared.Thread.{Thread}
use Rattle.state.specs.declared.State.{State}
use Rattle.state.specs.Record.{thread_of, mutex_of}
use Rattle.state.specs.Association.{encode, decode, queue_at}
use Rattle.state.specs.Rules.{placed_in}
use Rattle.state.specs.Allowed.{Allowed}
use Rattle.reference.specs.Lists.{choose}
use Rattle.reference.specs.State as reference
use Rattle.reference.specs.Step.{Move, next}
use Rattle.reference.specs.Cause.{cause}
use Rattle.reference.specs.Break.{step_breaks}
use Rattle.chart.specs.Chart.{queued, queue_name, mutex, carried, taken}

-- thread k, if it is there
abbrev pub alone : Bool → ℕ → List ℕ
alone there k = cond there (k ∷ []) []

-- how a row names queue q: the single ready one, that of a mutex, that of a processor
unfoldable pub queue_label : ℕ → List ℕ
queue_label q = choose (eqb q 0) (text "  ready") (choose (leb q 8) (text "  queue" ++ field q) (text "  ready" ++ field (q - 8)))

-- a thread that is placed in a queue is shown, by that queue's name
abbrev pub QueuesNamed : Type 0
QueuesNamed = (t : Thread) (q : ℕ) → placed_in t q ≡ true → (queued t ≡ true) × (queue_name t ≡ queue_label q)

-- the state before the move, r, and after it, s
module _ (r : State) (a : Move) (s : State) where
  pub record Complete : Type 0 where
    -- every other mutex is as it was
    pub mutexes : (m : ℕ) → (m ≡ mutex r a s → ⊥) → mutex_of s m ≡ mutex_of r m
    -- every queue is as it was, but for the thread that the row shows to leave it, which was its first, and the one that the row shows to join it, now its last
    pub queues : (q : ℕ) →
        alone (placed_in (thread_of r (taken r a s)) q) (taken r a s) ++ queue_at (decode s) q ≡
        queue_at (decode r) q ++ alone (placed_in (thread_of s (carried r a s)) q) (carried r a s)
    -- and a thread that the row shows to leave or to join is in such a queue
    pub departed : queued (thread_of r (taken r a s)) ≡ true → (q : ℕ) × (placed_in (thread_of r (taken r a s)) q ≡ true)
    pub joined : queued (thread_of s (carried r a s)) ≡ true → (q : ℕ) × (placed_in (thread_of s (carried r a s)) q ≡ true)

-- of every state that the rules allow, so of each that a session reaches, and every move that is accepted there
abbrev pub RowsComplete : Type 0
RowsComplete =
    (s : reference.State) → Allowed s → (a : Move) → cause s a ≡ 0 → step_breaks s a ≡ false → Complete (encode s) a (encode (next s a))
