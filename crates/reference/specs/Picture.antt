-- The bytes that show a state. A thread's status follows from who holds it, its next from the queue that it is in.
-- Assumes nothing.
use Rattle.std.specs.Prelude.{ℕ, zero, suc, ◌+◌, ◌*◌, ◌/◌, ◌%◌, Bool, List, [], ◌∷◌, ◌++◌, eqb, leb}
use Rattle.reference.specs.Lists.{choose, if_zero, if_empty, find, occurrences, tabulate}
use Rattle.reference.specs.State.{State, Processor, Mutex, Life, new, live, terminated, row, processor_at, mutex_at, queue_at, life_at}
use Rattle.reference.specs.Start.{itself}

-- a number as its high and its low byte
abbrev pub two : ℕ → List ℕ
two n = n / 256 ∷ n % 256 ∷ []

-- the first of a queue, 0 for none
abbrev pub first : List ℕ → ℕ
first q = if_empty q 0 (λ x rest. x)

-- the one behind k in a queue, 0 for none
unfoldable pub behind : ℕ → List ℕ → ℕ
behind k [] = 0
behind k (x ∷ rest) = choose (eqb x k) (first rest) (behind k rest)

abbrev pub stands_in : ℕ → List ℕ → Bool
stands_in k q = leb 1 (occurrences k q)

-- status (document 01: place): 0 new, 1 ready, 2 waiting, 3 current, 4 in transit, 5 terminated; holder: the mutex or processor that has it, for a ready thread
-- the processor of its queue, 0 for none; next: the thread behind it in its queue
pub record Entry : Type 0 where
  pub status : ℕ
  pub holder : ℕ
  pub next : ℕ

abbrev pub entry : ℕ → ℕ → ℕ → Entry
entry s h n = record { status = s; holder = h; next = n }

-- of a thread that nobody holds
abbrev pub unheld : Life → Entry
unheld new = entry 0 0 0
unheld live = entry 0 0 0
unheld terminated = entry 5 0 0

-- the entry made with the holder that was found, else the later one
abbrev pub or_else : ℕ → (ℕ → Entry) → Entry → Entry
or_else zero made later = later
or_else (suc n) made later = made (suc n)

unfoldable pub thread_entry : State → ℕ → Entry
thread_entry s k =
    or_else (find (stands_in k) s.ready) (λ q. entry 1 (if_zero s.stealing 0 q) (behind k (queue_at s q)))
    (or_else (find (λ (x : Mutex). stands_in k x.queue) s.mutexes) (λ m. entry 2 m (behind k (mutex_at s m).queue))
    (or_else (find (λ (r : Processor). eqb r.current k) s.processors) (λ p. entry 3 p 0)
    (or_else (find (λ (r : Processor). eqb r.transit k) s.processors) (λ p. entry 4 p 0)
    (unheld (life_at s k)))))

-- the header; its fourth byte is the first of the single ready queue
abbrev pub header_bytes : State → List ℕ
header_bytes s = s.P ∷ s.T ∷ s.M ∷ if_zero s.stealing (first (queue_at s 1)) 0 ∷ two s.applied ++ 0 ∷ s.stealing ∷ []

-- a processor's record; n is the first of its own ready queue
abbrev pub processor_bytes : Processor → ℕ → List ℕ
processor_bytes r n =
    (row r.position).number ∷ r.current ∷ r.transit ∷ r.mutex ∷ r.observed.processor ∷ r.probe ∷ two r.observed.sequence ++ two r.sequence ++ r.answer ∷ n ∷ []

abbrev pub processor_record : State → ℕ → List ℕ
processor_record s p = processor_bytes (processor_at s p) (if_zero s.stealing 0 (first (queue_at s p)))

-- a mutex's record
abbrev pub mutex_bytes : Mutex → List ℕ
mutex_bytes x = x.count ∷ first x.queue ∷ x.owner ∷ x.token.processor ∷ two x.token.sequence ++ 0 ∷ 0 ∷ []

-- a thread's record
abbrev pub entry_bytes : Entry → List ℕ
entry_bytes e = e.status ∷ e.holder ∷ e.next ∷ 0 ∷ []

-- where the mutex records begin, where the thread records begin, and how long a picture is
abbrev pub mutexes_at : ℕ → ℕ
mutexes_at p = 8 + 12 * p

abbrev pub threads_at : ℕ → ℕ → ℕ
threads_at p m = mutexes_at p + 8 * m

abbrev pub picture_bytes : ℕ → ℕ → ℕ → ℕ
picture_bytes p t m = threads_at p m + 4 * t

unfoldable pub concat : {A : Type 0} → (A → List ℕ) → List A → List ℕ
concat f [] = []
concat f (x ∷ rest) = f x ++ concat f rest

-- the header, then the records of the processors, of the mutexes and of the threads
unfoldable pub picture : State → List ℕ
picture s =
    header_bytes s ++ concat (processor_record s) (tabulate itself 1 s.P) ++ concat mutex_bytes s.mutexes ++
    concat entry_bytes (tabulate (thread_entry s) 1 s.T)
