-- What the code's writers and readers compute of the parts of a picture.
-- Assumes nothing.
use Rattle.std.specs.Prelude.{ℕ, zero, suc, ◌+◌, not, List, [], ◌∷◌, ◌++◌, leb, eqb, ltb, length, drop}
use Rattle.state.specs.declared.Thread.{Thread}
use Rattle.state.specs.declared.Processor.{Processor}
use Rattle.state.specs.declared.Mutex.{Mutex}
use Rattle.state.specs.declared.State.{State}
use Rattle.state.specs.Record.{thread_of, processor_of, mutex_of, first_of, chain}
use Rattle.state.specs.Rules.{sizes_ok}
use Rattle.reference.specs.Refusal.{bad_length, bad_field, refuse}
use Rattle.reference.specs.Lists.{choose, if_zero}
use Rattle.reference.specs.Picture.{two}
use Rattle.picture.specs.Picture.{picture_length, fields}
use Rattle.picture.specs.Turns.{Ahead, Turns, NotWaiting, before}

-- ---- writing

-- the buffer with x at its front where that fits
unfoldable pub over : List ℕ → List ℕ → List ℕ
over b x = choose (leb (length x) (length b)) (x ++ drop (length x) b) b

-- f k, f (k + 1), and so on, n of them, one after the other
unfoldable pub rows : (ℕ → List ℕ) → ℕ → ℕ → List ℕ
rows f k zero = []
rows f k (suc n) = f k ++ rows f (suc k) n

abbrev pub header_bytes : ℕ → ℕ → ℕ → ℕ → ℕ → ℕ → List ℕ
header_bytes p t m first applied stealing = p ∷ t ∷ m ∷ first ∷ two applied ++ 0 ∷ stealing ∷ []

abbrev pub processor_bytes : ℕ → Processor → List ℕ
processor_bytes first x =
    x.position ∷ x.current ∷ x.transit ∷ x.mutex ∷ x.observed.processor ∷ x.probe ∷ two x.observed.sequence ++ two x.sequence ++ x.answer ∷ first ∷ []

abbrev pub mutex_bytes : ℕ → Mutex → List ℕ
mutex_bytes first x = x.count ∷ first ∷ x.owner ∷ x.token.processor ∷ two x.token.sequence ++ 0 ∷ 0 ∷ []

abbrev pub thread_bytes : Thread → List ℕ
thread_bytes x = x.status ∷ x.holder ∷ x.next ∷ 0 ∷ []

abbrev pub processors_bytes : State → List ℕ
processors_bytes r = rows (λ p. processor_bytes (first_of r (8 + p)) (processor_of r p)) 1 r.p

abbrev pub mutexes_bytes : State → List ℕ
mutexes_bytes r = rows (λ m. mutex_bytes (first_of r m) (mutex_of r m)) 1 r.m

abbrev pub threads_bytes : State → List ℕ
threads_bytes r = rows (λ k. thread_bytes (thread_of r k)) 1 r.t

unfoldable pub record_bytes : State → List ℕ
record_bytes r = header_bytes r.p r.t r.m (first_of r 0) r.applied r.stealing ++ processors_bytes r ++ mutexes_bytes r ++ threads_bytes r

-- ---- reading

-- the refusals that come before the rules
unfoldable pub shape_refusal : List ℕ → ℕ
shape_refusal b =
    refuse (ltb (length b) 8) bad_length
    (refuse (not (sizes_ok (fields b))) bad_field (refuse (not (eqb (length b) (picture_length (fields b)))) bad_length 0))

-- ---- turns ahead by the thread's own record

unfoldable pub chain_turns : State → ℕ → Ahead
chain_turns r k =
    let m = (thread_of r k).holder in
    choose (eqb (thread_of r k).status 2) (Turns (before k (chain (thread_of r) 32 (first_of r m)) + if_zero (mutex_of r m).owner 0 1)) NotWaiting
