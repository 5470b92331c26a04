-- What the code's reads and writes of a record compute.
-- Assumes nothing.
use Rattle.std.specs.Prelude.{ℕ, zero, suc, ◌+◌, ◌-◌, Option, Some, None, List, eqb, leb, get_or, set, replicate}
use Rattle.state.specs.declared.Thread.{Thread}
use Rattle.state.specs.declared.Processor.{Processor}
use Rattle.state.specs.declared.Mutex.{Mutex}
use Rattle.state.specs.declared.Chains.{Chains}
use Rattle.state.specs.declared.State.{State}
use Rattle.state.specs.declared.queues.Front.{Front}
use Rattle.state.specs.Record.{zero_thread, zero_mutex, zero_token, thread_in}
use Rattle.state.specs.Association.{ready_index, queued_as}
use Rattle.reference.specs.Lists.{choose, if_zero, around, in_range, tabulate}
use Rattle.reference.specs.State.{queues}

-- ---- the record with one part replaced

abbrev pub with_processor : ℕ → Processor → State → State
with_processor p r s =
    record {
      p = s.p;
      t = s.t;
      m = s.m;
      stealing = s.stealing;
      applied = s.applied;
      chains = s.chains;
      processors = set s.processors p r;
      mutexes = s.mutexes;
    }

abbrev pub with_mutex : ℕ → Mutex → State → State
with_mutex m x s =
    record {
      p = s.p;
      t = s.t;
      m = s.m;
      stealing = s.stealing;
      applied = s.applied;
      chains = s.chains;
      processors = s.processors;
      mutexes = set s.mutexes m x;
    }

abbrev pub with_chains : Chains → State → State
with_chains c s =
    record {
      p = s.p;
      t = s.t;
      m = s.m;
      stealing = s.stealing;
      applied = s.applied;
      chains = c;
      processors = s.processors;
      mutexes = s.mutexes;
    }

abbrev pub with_applied : ℕ → State → State
with_applied n s =
    record {
      p = s.p;
      t = s.t;
      m = s.m;
      stealing = s.stealing;
      applied = n;
      chains = s.chains;
      processors = s.processors;
      mutexes = s.mutexes;
    }

-- ---- queues as chains

abbrev pub next_of : List Thread → ℕ → ℕ
next_of ts k = (thread_in ts k).next

-- a thread of queue q that ends its chain
abbrev pub queued_in : ℕ → Thread
queued_in q = queued_as q 0

abbrev pub linked_to : ℕ → Thread → Thread
linked_to k t = record { status = t.status; holder = t.holder; next = k }

-- the thread at the end of the chain from k, within `fuel` links
unfoldable pub last_from : List Thread → ℕ → ℕ → ℕ
last_from ts zero k = k
last_from ts (suc fuel) k = choose (eqb (next_of ts k) 0) k (last_from ts fuel (next_of ts k))

-- the first of queue q, with the first of the chain that remains
unfoldable pub taken : Chains → ℕ → Option Front
taken c q =
    let k = get_or c.firsts q 0 in
    choose (eqb k 0) None (Some (record { thread = k; rest = next_of c.threads k }))

-- thread k leaves the front of queue q, whose chain then begins at `rest`, and is t
unfoldable pub removed : Chains → ℕ → ℕ → ℕ → Thread → Chains
removed c q k rest t = record { firsts = set c.firsts q rest; threads = set c.threads k t }

-- thread k joins queue q's end
unfoldable pub joined : Chains → ℕ → ℕ → Chains
joined c q k =
    let first = get_or c.firsts q 0 in
    let ts = set c.threads k (queued_in q) in
    let last = last_from c.threads 32 first in
    choose (eqb first 0)
    (record { firsts = set c.firsts q k; threads = ts })
    (record { firsts = c.firsts; threads = set ts last (linked_to k (thread_in ts last)) })

-- thread k becomes t, in no queue
unfoldable pub placed : Chains → ℕ → Thread → Chains
placed c k t = record { firsts = c.firsts; threads = set c.threads k t }

-- ---- the start state

abbrev pub standing_at : ℕ → ℕ → Processor
standing_at l k = record { position = l; current = k; transit = 0; mutex = 0; observed = zero_token; sequence = 0; answer = 0; probe = 0 }

-- processor i of p, where threads 1 to b are created: at App with thread i, or at CI2 without one
unfoldable pub first_processor : ℕ → ℕ → ℕ → Processor
first_processor p b i = choose (in_range 1 p i) (choose (leb i b) (standing_at 0 i) (standing_at 1 0)) (standing_at 0 0)

-- the index of the ready queue in which thread k starts
unfoldable pub first_index : ℕ → ℕ → ℕ → ℕ
first_index p stealing k = choose (in_range 1 8 p) (ready_index stealing (around p k)) 0

-- thread k of the b that are created: on processor k, or in a ready queue before the thread that is as many places on as there are queues
unfoldable pub first_thread : ℕ → ℕ → ℕ → ℕ → Thread
first_thread p b stealing k =
    choose (in_range 1 b k)
    (choose (leb k p) (record { status = 3; holder = k; next = 0 })
    (queued_as (first_index p stealing k) (choose (leb (k + queues stealing p) b) (k + queues stealing p) 0)))
    zero_thread

-- the first of queue q: thread p + i of the i-th ready queue
unfoldable pub first_first : ℕ → ℕ → ℕ → ℕ → ℕ
first_first p b stealing q =
    if_zero stealing (choose (eqb q 0) (choose (leb (p + 1) b) (p + 1) 0) 0)
    (choose (in_range 9 (8 + p) q) (choose (leb (p + (q - 8)) b) (p + (q - 8)) 0) 0)

unfoldable pub start_record : ℕ → ℕ → ℕ → ℕ → ℕ → State
start_record p t m b stealing =
    record {
      p = p;
      t = t;
      m = m;
      stealing = stealing;
      applied = 0;
      chains = record { firsts = tabulate (first_first p b stealing) 0 17; threads = tabulate (first_thread p b stealing) 0 33 };
      processors = tabulate (first_processor p b) 0 9;
      mutexes = replicate 9 zero_mutex;
    }
