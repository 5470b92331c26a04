-- The record's arrays: their lengths, and reads at any index; past the end a read gives the zero record.
-- Assumes nothing.
use Rattle.std.specs.Prelude.{ℕ, zero, suc, List, [], ◌∷◌, ◌≡◌, length, get_or, replicate}
use Rattle.state.specs.declared.Thread.{Thread}
use Rattle.state.specs.declared.Token.{Token}
use Rattle.state.specs.declared.Processor.{Processor}
use Rattle.state.specs.declared.Mutex.{Mutex}
use Rattle.state.specs.declared.State.{State}
use Rattle.state.specs.declared.Session.{Session}

-- the arrays have their declared lengths, as in every record that an entry point is handed or gives
pub record Sized (r : State) : Type 0 where
  pub processors : length r.processors ≡ 9
  pub mutexes : length r.mutexes ≡ 9
  pub firsts : length r.chains.firsts ≡ 17
  pub threads : length r.chains.threads ≡ 33

abbrev pub zero_thread : Thread
zero_thread = record { status = 0; holder = 0; next = 0 }

abbrev pub zero_token : Token
zero_token = record { processor = 0; sequence = 0 }

abbrev pub zero_processor : Processor
zero_processor = record { position = 0; current = 0; transit = 0; mutex = 0; observed = zero_token; sequence = 0; answer = 0; probe = 0 }

abbrev pub zero_mutex : Mutex
zero_mutex = record { count = 0; owner = 0; token = zero_token }

-- the all-zero state, and the all-zero session record
unfoldable pub zero_state : State
zero_state =
    record {
      p = 0;
      t = 0;
      m = 0;
      stealing = 0;
      applied = 0;
      chains = record { firsts = replicate 17 0; threads = replicate 33 zero_thread };
      processors = replicate 9 zero_processor;
      mutexes = replicate 9 zero_mutex;
    }

abbrev pub zero_session : Session
zero_session = record { state = zero_state; initial = 0; kept = 0 }

abbrev pub thread_in : List Thread → ℕ → Thread
thread_in l k = get_or l k zero_thread

abbrev pub processor_in : List Processor → ℕ → Processor
processor_in l p = get_or l p zero_processor

abbrev pub mutex_in : List Mutex → ℕ → Mutex
mutex_in l m = get_or l m zero_mutex

abbrev pub thread_of : State → ℕ → Thread
thread_of r k = thread_in r.chains.threads k

abbrev pub processor_of : State → ℕ → Processor
processor_of r p = processor_in r.processors p

abbrev pub mutex_of : State → ℕ → Mutex
mutex_of r m = mutex_in r.mutexes m

abbrev pub first_of : State → ℕ → ℕ
first_of r q = get_or r.chains.firsts q 0

-- the chain from thread k by next, as a list of at most `fuel` threads; 0 ends it. `thread` gives the thread of a number.
unfoldable pub chain : (ℕ → Thread) → ℕ → ℕ → List ℕ
chain thread zero k = []
chain thread (suc fuel) zero = []
chain thread (suc fuel) (suc k) = suc k ∷ chain thread fuel (thread (suc k)).next
