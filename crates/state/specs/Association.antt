-- Which record shows a reference state (encode), and which state a record shows (decode). Numbers are those of the papers in both; a queue is a list there and a chain here.
-- Assumes nothing.
use Rattle.std.specs.Prelude.{ℕ, ◌+◌, ◌-◌, List, [], ◌∷◌, eqb, leb, get_or}
use Rattle.state.specs.declared.Thread.{Thread}
use Rattle.state.specs.declared.Token.{Token}
use Rattle.state.specs.declared.Processor.{Processor}
use Rattle.state.specs.declared.Mutex.{Mutex}
use Rattle.state.specs.declared.State.{State}
use Rattle.state.specs.declared.Session.{Session}
use Rattle.state.specs.Record.{zero_thread, thread_of, processor_of, mutex_of, first_of, chain}
use Rattle.reference.specs.Lists.{tabulate, choose, if_zero, in_range}
use Rattle.reference.specs.State as reference
use Rattle.reference.specs.State.{Life, new, live, terminated, queues, row, line_of, processor_at, mutex_at}
use Rattle.reference.specs.Picture.{Entry, thread_entry, first}

-- ---- the record of a state

abbrev pub token_record : reference.Token → Token
token_record t = record { processor = t.processor; sequence = t.sequence }

abbrev pub processor_record : reference.Processor → Processor
processor_record r =
    record {
      position = (row r.position).number;
      current = r.current;
      transit = r.transit;
      mutex = r.mutex;
      observed = token_record r.observed;
      sequence = r.sequence;
      answer = r.answer;
      probe = r.probe;
    }

abbrev pub mutex_record : reference.Mutex → Mutex
mutex_record x = record { count = x.count; owner = x.owner; token = token_record x.token }

abbrev pub thread_record : Entry → Thread
thread_record e = record { status = e.status; holder = e.holder; next = e.next }

-- queue 0 is the single ready queue, queue m that of mutex m, 1 to 8, queue 8 + p the ready queue of processor p; one that is not there is empty
abbrev pub queue_at : reference.State → ℕ → List ℕ
queue_at s q =
    choose (eqb q 0) (if_zero s.stealing (reference.queue_at s 1) [])
    (choose (leb q 8) (mutex_at s q).queue (if_zero s.stealing [] (reference.queue_at s (q - 8))))

-- the index of the i-th ready queue
abbrev pub ready_index : ℕ → ℕ → ℕ
ready_index stealing i = if_zero stealing 0 (8 + i)

-- a thread of queue q with its next: status 2 and its mutex, or 1 and its queue's processor, 0 for the single one
abbrev pub queued_as : ℕ → ℕ → Thread
queued_as q n = record { status = choose (in_range 1 8 q) 2 1; holder = choose (leb q 8) q (q - 8); next = n }

-- thread k of the record: zero where there is no such thread
abbrev pub thread_row : reference.State → ℕ → Thread
thread_row s k = choose (in_range 1 s.T k) (thread_record (thread_entry s k)) zero_thread

-- arrays of 17, 33, 9 and 9, zero where there is no such processor, mutex or thread
unfoldable pub encode : reference.State → State
encode s =
    record {
      p = s.P;
      t = s.T;
      m = s.M;
      stealing = s.stealing;
      applied = s.applied;
      chains = record { firsts = tabulate (λ q. first (queue_at s q)) 0 17; threads = tabulate (thread_row s) 0 33 };
      processors = tabulate (λ p. processor_record (processor_at s p)) 0 9;
      mutexes = tabulate (λ m. mutex_record (mutex_at s m)) 0 9;
    }

-- the session record of a state, with B and the number kept
abbrev pub session_record : reference.State → ℕ → ℕ → Session
session_record s b k = record { state = encode s; initial = b; kept = k }

-- ---- the state of a record

abbrev pub token_shown : Token → reference.Token
token_shown t = record { processor = t.processor; sequence = t.sequence }

abbrev pub processor_shown : Processor → reference.Processor
processor_shown r =
    record {
      position = line_of r.position;
      current = r.current;
      transit = r.transit;
      mutex = r.mutex;
      observed = token_shown r.observed;
      sequence = r.sequence;
      answer = r.answer;
      probe = r.probe;
    }

-- queue q as a list
abbrev pub queue_shown : State → ℕ → List ℕ
queue_shown r q = chain (thread_of r) 32 (first_of r q)

abbrev pub mutex_shown : State → ℕ → reference.Mutex
mutex_shown r m =
    record { count = (mutex_of r m).count; queue = queue_shown r m; owner = (mutex_of r m).owner; token = token_shown (mutex_of r m).token }

-- status 0 is new, 5 terminated; any other thread is live
abbrev pub life_shown : ℕ → Life
life_shown n = get_or (new ∷ live ∷ live ∷ live ∷ live ∷ terminated ∷ []) n live

unfoldable pub decode : State → reference.State
decode r =
    record {
      P = r.p;
      T = r.t;
      M = r.m;
      stealing = r.stealing;
      ready = tabulate (λ i. queue_shown r (ready_index r.stealing i)) 1 (queues r.stealing r.p);
      processors = tabulate (λ p. processor_shown (processor_of r p)) 1 r.p;
      mutexes = tabulate (mutex_shown r) 1 r.m;
      lives = tabulate (λ k. life_shown (thread_of r k).status) 1 r.t;
      applied = r.applied;
    }
