-- "Picture": the rules that a picture keeps, over the record that its fields are, in the order of their numbers 12, 13 and 14; and the rule of a session's record, 15.
-- Assumes nothing.
use Rattle.std.specs.Prelude.{ℕ, ◌+◌, ◌-◌, ◌*◌, Bool, true, ◌&&◌, ◌||◌, not, List, [], ◌∷◌, ◌≡◌, eqb, leb, ltb}
use Rattle.state.specs.declared.Thread.{Thread}
use Rattle.state.specs.declared.Token.{Token}
use Rattle.state.specs.declared.Processor.{Processor}
use Rattle.state.specs.declared.Mutex.{Mutex}
use Rattle.state.specs.declared.State.{State}
use Rattle.state.specs.declared.Session.{Session}
use Rattle.state.specs.Record.{Sized, thread_of, processor_of, mutex_of, first_of, chain}
use Rattle.reference.specs.Refusal.{bad_field, bad_chain, bad_holder, refuse}
use Rattle.reference.specs.Lists.{choose, if_zero, in_range, each}
use Rattle.reference.specs.State.{queues, row, probes, line_of}
use Rattle.reference.specs.Picture.{stands_in}
use Rattle.state.specs.Association.{queued_as}

-- the test holds of each member
unfoldable pub every : (ℕ → Bool) → List ℕ → Bool
every test [] = true
every test (k ∷ rest) = test k && every test rest

-- no member stands there twice
unfoldable pub no_twice : List ℕ → Bool
no_twice [] = true
no_twice (k ∷ rest) = not (stands_in k rest) && no_twice rest

-- ---- 12: fields and registers

abbrev pub sizes_ok : State → Bool
sizes_ok r = in_range 1 8 r.p && in_range 1 32 r.t && in_range 1 8 r.m

-- a token's sequence number is 0 exactly with processor 0
abbrev pub token_ok : ℕ → Token → Bool
token_ok p t =
    leb t.processor p && leb t.sequence 4000 && (eqb t.processor 0 && eqb t.sequence 0 || ltb 0 t.processor && ltb 0 t.sequence)

-- a register is nonzero, and within its range, exactly where the line's column has 1
abbrev pub register_ok : ℕ → ℕ → ℕ → Bool
register_ok column top n = choose (eqb column 1) (in_range 1 top n) (eqb n 0)

-- CI2 alone has a look number, 0 to n − 1 where there are n ready queues
abbrev pub probe_ok : ℕ → ℕ → ℕ → Bool
probe_ok n position probe = leb probe ((n - 1) * probes (line_of position))

-- in what follows p, t and m are how many processors, threads and mutexes there are, n is how many ready queues
unfoldable pub processor_ok : ℕ → ℕ → ℕ → ℕ → Processor → Bool
processor_ok p t m n x =
    leb x.position 24 && register_ok (row (line_of x.position)).current t x.current &&
    register_ok (row (line_of x.position)).transit t x.transit && register_ok (row (line_of x.position)).mutex m x.mutex &&
    register_ok (row (line_of x.position)).observed p x.observed.processor && token_ok p x.observed &&
    leb x.sequence 4000 && leb x.answer 2 && probe_ok n x.position x.probe

unfoldable pub mutex_ok : ℕ → ℕ → Mutex → Bool
mutex_ok p t x = leb x.count (t + 1) && leb x.owner t && token_ok p x.token

-- status 2 names a mutex, 3 and 4 a processor, 1 one where each has its queue, the others nobody
abbrev pub holder_ok : ℕ → ℕ → ℕ → Thread → Bool
holder_ok p m stealing x =
    choose (eqb x.status 2) (in_range 1 m x.holder)
    (choose (eqb x.status 3 || eqb x.status 4 || eqb x.status 1 && eqb stealing 1) (in_range 1 p x.holder) (eqb x.holder 0))

-- next is 0 outside statuses 1 and 2
abbrev pub next_ok : ℕ → Thread → Bool
next_ok t x = choose (eqb x.status 1 || eqb x.status 2) (leb x.next t) (eqb x.next 0)

unfoldable pub thread_ok : ℕ → ℕ → ℕ → ℕ → Thread → Bool
thread_ok p t m stealing x = leb x.status 5 && holder_ok p m stealing x && next_ok t x

-- queue q is there: the single ready queue or those of the processors, and those of the mutexes
abbrev pub is_queue : ℕ → ℕ → ℕ → ℕ → Bool
is_queue p m stealing q = in_range 1 m q || if_zero stealing (eqb q 0) (in_range 9 (8 + p) q)

-- its first is a thread or none, and one that is not there has none
abbrev pub first_ok : ℕ → ℕ → ℕ → ℕ → ℕ → ℕ → Bool
first_ok p t m stealing q first = leb first (choose (is_queue p m stealing q) t 0)

unfoldable pub fields_ok : State → Bool
fields_ok r =
    sizes_ok r && leb r.stealing 1 && leb r.applied 4000 && each (λ q. first_ok r.p r.t r.m r.stealing q (first_of r q)) 0 17 &&
    each (λ p. processor_ok r.p r.t r.m (queues r.stealing r.p) (processor_of r p)) 1 r.p &&
    each (λ m. mutex_ok r.p r.t (mutex_of r m)) 1 r.m &&
    each (λ k. thread_ok r.p r.t r.m r.stealing (thread_of r k)) 1 r.t

-- ---- 13: chains. `thread` gives the thread of a number, `t` is how many there are.

-- the thread is placed in queue q: its status and holder are those of a thread of that queue
abbrev pub placed_in : Thread → ℕ → Bool
placed_in x q = eqb x.status (queued_as q 0).status && eqb x.holder (queued_as q 0).holder

-- the threads that the chain meets: one more than there can be, so that a chain that does not end meets one twice
abbrev pub met : (ℕ → Thread) → ℕ → List ℕ
met thread first = chain thread 33 first

-- it meets none twice, none that is not placed there, and misses none that is
unfoldable pub chain_ok : (ℕ → Thread) → ℕ → ℕ → ℕ → Bool
chain_ok thread t q first =
    no_twice (met thread first) && every (λ k. placed_in (thread k) q) (met thread first) &&
    each (λ k. not (placed_in (thread k) q) || stands_in k (met thread first)) 1 t

-- all 17 queues, those that are not there being empty; `first` gives the first of a queue
abbrev pub chains_in : (ℕ → Thread) → (ℕ → ℕ) → ℕ → Bool
chains_in thread first t = each (λ q. chain_ok thread t q (first q)) 0 17

unfoldable pub chains_ok : State → Bool
chains_ok r = chains_in (thread_of r) (first_of r) r.t

-- ---- 14: current and transit registers against statuses 3 and 4

-- a register that holds a thread is what that thread's status and holder say
abbrev pub register_matches : State → ℕ → ℕ → ℕ → Bool
register_matches r status p k = eqb k 0 || eqb (thread_of r k).status status && eqb (thread_of r k).holder p

abbrev pub thread_matches : State → ℕ → Bool
thread_matches r k =
    (not (eqb (thread_of r k).status 3) || eqb (processor_of r (thread_of r k).holder).current k) &&
    (not (eqb (thread_of r k).status 4) || eqb (processor_of r (thread_of r k).holder).transit k)

unfoldable pub holders_ok : State → Bool
holders_ok r =
    each (λ p. register_matches r 3 p (processor_of r p).current && register_matches r 4 p (processor_of r p).transit) 1 r.p &&
    each (thread_matches r) 1 r.t

-- the first rule that is broken, or 0
unfoldable pub broken_rule : State → ℕ
broken_rule r = refuse (not (fields_ok r)) bad_field (refuse (not (chains_ok r)) bad_chain (refuse (not (holders_ok r)) bad_holder 0))

-- ---- 15: a record keeps the rules of its picture, and is zero where the picture does not reach

abbrev pub zero_token? : Token → Bool
zero_token? t = eqb t.processor 0 && eqb t.sequence 0

abbrev pub zero_processor? : Processor → Bool
zero_processor? x =
    eqb x.position 0 && eqb x.current 0 && eqb x.transit 0 && eqb x.mutex 0 && zero_token? x.observed && eqb x.sequence 0 && eqb x.answer 0 &&
    eqb x.probe 0

abbrev pub zero_mutex? : Mutex → Bool
zero_mutex? x = eqb x.count 0 && eqb x.owner 0 && zero_token? x.token

abbrev pub zero_thread? : Thread → Bool
zero_thread? x = eqb x.status 0 && eqb x.holder 0 && eqb x.next 0

-- a number from 1 to n, or else the test
abbrev pub within_or : ℕ → ℕ → Bool → Bool
within_or n i test = in_range 1 n i || test

unfoldable pub zero_past : State → Bool
zero_past r =
    each (λ p. within_or r.p p (zero_processor? (processor_of r p))) 0 9 && each (λ m. within_or r.m m (zero_mutex? (mutex_of r m))) 0 9 &&
    each (λ k. within_or r.t k (zero_thread? (thread_of r k))) 0 33

unfoldable pub state_ok : State → Bool
state_ok r = eqb (broken_rule r) 0 && zero_past r

-- and B is 1 to T, and the number kept not below the standing moves nor above 4,000
unfoldable pub session_ok : Session → Bool
session_ok r = state_ok r.state && in_range 1 r.state.t r.initial && in_range r.state.applied 4000 r.kept

-- a record that keeps the rules: a state's, and a session's
abbrev pub Valid : State → Type 0
Valid r = Sized r × (state_ok r ≡ true)

abbrev pub ValidSession : Session → Type 0
ValidSession r = Sized r.state × (session_ok r ≡ true)
