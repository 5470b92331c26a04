-- What an accepted move makes of the state. It sees one processor, the mutex and the ready queue that it works on (a View); what it makes of these is put back,
-- and nothing else changes.
-- Assumes nothing.
use Rattle.std.specs.Prelude.{ℕ, suc, ◌+◌, ◌-◌, ◌*◌, ◌%◌, Bool, List, [], ◌∷◌, ◌++◌, length, get_or}
use Rattle.reference.specs.Lists.{put, choose, if_zero, if_empty, around}
use Rattle.reference.specs.State.{Token, Processor, Mutex, live, terminated, State, Line, App, CI2, CI3, L1, L3, L4, L6, L7, L8, L9, L10, TL1, GT1, GT3, TL3, U1, H2, H3, H5, H6, H8, Y1, Y2, Y3, C2, row, probes, no_token, same_token, processor_at, mutex_at, queue_at}

-- self: the processor's number; proc: its registers; mutex: the mutex m; ready: the ready queue that it works on; queues: how many of these there are
pub record View : Type 0 where
  pub self : ℕ
  pub proc : Processor
  pub mutex : Mutex
  pub ready : List ℕ
  pub queues : ℕ

-- ---- the parts of a view that a line changes

abbrev pub with_proc : Processor → View → View
with_proc r v = record { self = v.self; proc = r; mutex = v.mutex; ready = v.ready; queues = v.queues }

abbrev pub with_mutex : Mutex → View → View
with_mutex x v = record { self = v.self; proc = v.proc; mutex = x; ready = v.ready; queues = v.queues }

abbrev pub with_ready : List ℕ → View → View
with_ready q v = record { self = v.self; proc = v.proc; mutex = v.mutex; ready = q; queues = v.queues }

-- the current and the transit register
abbrev pub threads : ℕ → ℕ → View → View
threads c t v =
    with_proc
    (record {
      position = v.proc.position;
      current = c;
      transit = t;
      mutex = v.proc.mutex;
      observed = v.proc.observed;
      sequence = v.proc.sequence;
      answer = v.proc.answer;
      probe = v.proc.probe;
    })
    v

abbrev pub observe : Token → View → View
observe t v =
    with_proc
    (record {
      position = v.proc.position;
      current = v.proc.current;
      transit = v.proc.transit;
      mutex = v.proc.mutex;
      observed = t;
      sequence = v.proc.sequence;
      answer = v.proc.answer;
      probe = v.proc.probe;
    })
    v

abbrev pub sequenced : ℕ → View → View
sequenced n v =
    with_proc
    (record {
      position = v.proc.position;
      current = v.proc.current;
      transit = v.proc.transit;
      mutex = v.proc.mutex;
      observed = v.proc.observed;
      sequence = n;
      answer = v.proc.answer;
      probe = v.proc.probe;
    })
    v

abbrev pub answering : ℕ → View → View
answering n v =
    with_proc
    (record {
      position = v.proc.position;
      current = v.proc.current;
      transit = v.proc.transit;
      mutex = v.proc.mutex;
      observed = v.proc.observed;
      sequence = v.proc.sequence;
      answer = n;
      probe = v.proc.probe;
    })
    v

abbrev pub probing : ℕ → View → View
probing n v =
    with_proc
    (record {
      position = v.proc.position;
      current = v.proc.current;
      transit = v.proc.transit;
      mutex = v.proc.mutex;
      observed = v.proc.observed;
      sequence = v.proc.sequence;
      answer = v.proc.answer;
      probe = n;
    })
    v

abbrev pub counted : ℕ → View → View
counted n v = with_mutex (record { count = n; queue = v.mutex.queue; owner = v.mutex.owner; token = v.mutex.token }) v

abbrev pub queued : List ℕ → View → View
queued q v = with_mutex (record { count = v.mutex.count; queue = q; owner = v.mutex.owner; token = v.mutex.token }) v

abbrev pub owned : ℕ → View → View
owned k v = with_mutex (record { count = v.mutex.count; queue = v.mutex.queue; owner = k; token = v.mutex.token }) v

abbrev pub tokened : Token → View → View
tokened t v = with_mutex (record { count = v.mutex.count; queue = v.mutex.queue; owner = v.mutex.owner; token = t }) v

-- ---- the transfers of a thread

-- the thread in transit becomes the current one
abbrev pub load : View → View
load v = threads v.proc.transit 0 v

-- the current thread is in transit
abbrev pub unload : View → View
unload v = threads 0 v.proc.current v

-- thread k is in transit
abbrev pub carry : ℕ → View → View
carry k v = threads v.proc.current k v

-- the thread in transit joins the ready queue, at its end
abbrev pub join_ready : View → View
join_ready v = with_ready (v.ready ++ v.proc.transit ∷ []) (carry 0 v)

-- the thread in transit joins m's queue, at its end
abbrev pub join_queue : View → View
join_queue v = queued (v.mutex.queue ++ v.proc.transit ∷ []) (carry 0 v)

-- x, behind whom the rest of m's queue stays, is in transit and m's owner
abbrev pub serve : ℕ → List ℕ → View → View
serve x rest v = owned x (carry x (queued rest v))

-- the token that this processor made last
abbrev pub own_token : View → Token
own_token v = record { processor = v.self; sequence = v.proc.sequence }

-- the mutex's token is still the one that was observed
abbrev pub unchanged : View → Bool
unchanged v = same_token v.mutex.token v.proc.observed

-- a register keeps its value where the column has 1, else it is cleared
abbrev pub masked : {A : Type 0} → ℕ → A → A → A
masked column value none = if_zero column none value

-- the processor goes on to a line; mutex and observed token are cleared where the line has none
abbrev pub jump : Line → View → View
jump l v =
    with_proc
    (record {
      position = l;
      current = v.proc.current;
      transit = v.proc.transit;
      mutex = masked (row l).mutex v.proc.mutex 0;
      observed = masked (row l).observed v.proc.observed no_token;
      sequence = v.proc.sequence;
      answer = v.proc.answer;
      probe = v.proc.probe;
    })
    v

-- ---- what a go executes, line by line

unfoldable pub line : Line → View → View
-- App: the thread is outside the library, and a go is refused.
line App v = v
-- CI2: an idle processor takes a ready thread and probes from 0 again; from an empty queue the probe moves on to the next queue, round and round.
line CI2 v = if_empty v.ready (jump CI2 (probing (suc v.proc.probe % v.queues) v)) (λ x rest. jump CI3 (probing 0 (carry x (with_ready rest v))))
-- CI3: it runs that thread.
line CI3 v = jump App (load v)
-- L1: the lock call is counted; the first that is counted owns the mutex at once.
line L1 v = let w : View = counted (suc v.mutex.count) v in if_zero v.mutex.count (jump App (owned v.proc.current w)) (jump L3 w)
-- L3: its thread stops running,
line L3 v = jump L4 (unload v)
-- L4: and waits in the mutex's queue.
line L4 v = jump L6 (join_queue v)
-- L6: the processor observes the mutex's token; without one there is nothing left to do.
line L6 v = if_zero v.mutex.token.processor (jump CI2 v) (jump L7 (observe v.mutex.token v))
-- L7: it gives up where nobody waits: somebody else has served its thread.
line L7 v = if_empty v.mutex.queue (jump CI2 v) (λ x rest. jump L8 v)
-- L8: it claims the token, if that is still the one observed,
line L8 v = choose (unchanged v) (jump L9 (tokened no_token v)) (jump CI2 v)
-- L9: makes the first of the queue the owner (in no session is the queue empty here),
line L9 v = if_empty v.mutex.queue (jump L9 v) (λ x rest. jump L10 (serve x rest v))
-- L10: and runs it.
line L10 v = jump App (load v)
-- TL1: trylock takes a mutex on which nobody is counted.
line TL1 v = if_zero v.mutex.count (jump App (answering 1 (owned v.proc.current (counted 1 v)))) (jump GT1 v)
-- GT1: else it observes the token, and fails where there is none.
line GT1 v = if_zero v.mutex.token.processor (jump App (answering 2 v)) (jump GT3 (observe v.mutex.token v))
-- GT3: it owns the mutex by claiming the token, and fails if that is no longer the one observed.
line GT3 v = choose (unchanged v) (jump TL3 (owned v.proc.current (tokened no_token v))) (jump App (answering 2 v))
-- TL3: the new owner is counted.
line TL3 v = jump App (answering 1 (counted (suc v.mutex.count) v))
-- U1: the owner gives the mutex up and is no longer counted; if somebody else is, the mutex has to be handed on.
line U1 v = let w : View = owned 0 (counted (v.mutex.count - 1) v) in if_zero (v.mutex.count - 1) (jump App w) (jump H2 w)
-- H2: the first of the queue becomes the owner,
line H2 v = if_empty v.mutex.queue (jump H5 v) (λ x rest. jump H3 (serve x rest v))
-- H3: and is ready.
line H3 v = jump App (join_ready v)
-- H5: where nobody waits yet, a token with a new sequence number offers the mutex.
line H5 v = let w : View = sequenced (suc v.proc.sequence) v in jump H6 (tokened (own_token w) w)
-- H6: while nobody waits, the token is left to whoever comes;
line H6 v = if_empty v.mutex.queue (jump App v) (λ x rest. jump H8 v)
-- H8: else the processor takes it back to serve the queue, unless somebody has claimed it.
line H8 v = choose (same_token v.mutex.token (own_token v)) (jump H2 (tokened no_token v)) (jump App v)
-- Y1: yield has no effect where no thread is ready.
line Y1 v = if_empty v.ready (jump App v) (λ x rest. jump Y2 v)
-- Y2: its thread stops running,
line Y2 v = jump Y3 (unload v)
-- Y3: and is ready, behind the others.
line Y3 v = jump CI2 (join_ready v)
-- C2: the created thread is ready.
line C2 v = jump App (join_ready v)

-- ---- the calls

pub data Action : Type 0 where
  go lock trylock unlock yield exit create : Action

-- a move: which processor does what, and with which mutex or thread
pub record Move : Type 0 where
  pub processor : ℕ
  pub action : ℕ
  pub operand : ℕ

abbrev pub move_of : ℕ → ℕ → ℕ → Move
move_of p a o = record { processor = p; action = a; operand = o }

abbrev pub actions : List Action
actions = go ∷ lock ∷ trylock ∷ unlock ∷ yield ∷ exit ∷ create ∷ []

unfoldable pub action_of : ℕ → Action
action_of n = get_or actions n go

-- a call clears the last answer and sets the mutex that it is about, 0 for none
abbrev pub calling : ℕ → View → View
calling m v =
    with_proc
    (record {
      position = v.proc.position;
      current = v.proc.current;
      transit = v.proc.transit;
      mutex = m;
      observed = v.proc.observed;
      sequence = v.proc.sequence;
      answer = 0;
      probe = v.proc.probe;
    })
    v

-- a call goes to its first line; the thread of an exit is no longer current, that of a create is in transit
unfoldable pub act : Action → ℕ → View → View
act go o v = line v.proc.position v
act lock o v = jump L1 (calling o v)
act trylock o v = jump TL1 (calling o v)
act unlock o v = jump U1 (calling o v)
act yield o v = jump Y1 (calling 0 v)
act exit o v = jump CI2 (threads 0 v.proc.transit (calling 0 v))
act create o v = jump C2 (carry o (calling 0 v))

-- the mutex that a move works on: that of a call on one, else the processor's
abbrev pub target : Action → ℕ → ℕ → ℕ
target go m o = m
target lock m o = o
target trylock m o = o
target unlock m o = o
target yield m o = m
target exit m o = m
target create m o = m

-- the thread that an action creates, 0 for none
abbrev pub created_by : Action → ℕ → ℕ
created_by go o = 0
created_by lock o = 0
created_by trylock o = 0
created_by unlock o = 0
created_by yield o = 0
created_by exit o = 0
created_by create o = o

-- the thread that an action ends, where k is the processor's current thread; 0 for none
abbrev pub ended_by : Action → ℕ → ℕ
ended_by go k = 0
ended_by lock k = 0
ended_by trylock k = 0
ended_by unlock k = 0
ended_by yield k = 0
ended_by exit k = k
ended_by create k = 0

-- ---- a move on the whole state

-- the ready queue that processor p works on: its own, or while it probes the one so many places further round the ring. A single queue is everybody's.
abbrev pub works_on : State → ℕ → ℕ
works_on s p = around (length s.ready) (p + probes (processor_at s p).position * (processor_at s p).probe)

-- what processor p sees of the state, and of mutex m
abbrev pub view : State → ℕ → ℕ → View
view s p m =
    record { self = p; proc = processor_at s p; mutex = mutex_at s m; ready = queue_at s (works_on s p); queues = length s.ready }

-- the state with a view put back; thread i is live from here on, thread j terminated
abbrev pub put_back : State → ℕ → ℕ → ℕ → ℕ → View → State
put_back s p m i j v =
    record {
      P = s.P;
      T = s.T;
      M = s.M;
      stealing = s.stealing;
      ready = put s.ready (works_on s p) v.ready;
      processors = put s.processors p v.proc;
      mutexes = put s.mutexes m v.mutex;
      lives = put (put s.lives i live) j terminated;
      applied = suc s.applied;
    }

abbrev pub does : State → ℕ → Action → ℕ → State
does s p a o =
    let m : ℕ = target a (processor_at s p).mutex o in
    put_back s p m (created_by a o) (ended_by a (processor_at s p).current) (act a o (view s p m))

unfoldable pub next : State → Move → State
next s a = does s a.processor (action_of a.action) a.operand

-- the moves of a list, one after the other
unfoldable pub run : State → List Move → State
run s [] = s
run s (a ∷ rest) = run (next s a) rest
