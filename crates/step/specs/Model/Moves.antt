-- What the code computes on its own records: lines, calls, causes, a move, a run of moves. Theorems relate it to the reference machine.
-- Assumes nothing.
use Rattle.std.specs.Prelude.{ℕ, zero, suc, ◌+◌, ◌-◌, ◌*◌, ◌/◌, Bool, true, false, ◌&&◌, ◌||◌, not, Option, Some, None, List, [], ◌∷◌, Result, Ok, Err, eqb, leb, ltb, length, get_or, set}
use Rattle.state.specs.declared.Token.{Token}
use Rattle.state.specs.declared.Processor.{Processor}
use Rattle.state.specs.declared.Mutex.{Mutex}
use Rattle.state.specs.declared.Chains.{Chains}
use Rattle.state.specs.declared.State.{State}
use Rattle.state.specs.declared.queues.Front.{Front}
use Rattle.state.specs.declared.refusal.Refusal.{Refusal}
use Rattle.state.specs.Refusal as refusals
use Rattle.state.specs.Record.{zero_token, mutex_in, processor_of, mutex_of, thread_of}
use Rattle.state.specs.Model.Access.{taken, removed, joined, placed, with_processor, with_mutex, with_chains, with_applied}
use Rattle.reference.specs.Refusal.{bad_record, still_owner}
use Rattle.reference.specs.Lists.{choose, if_zero, in_range, around, each}
use Rattle.reference.specs.State.{queues}
use Rattle.reference.specs.Cause.{Facts, first_cause}
use Rattle.step.specs.declared.View.{View}
use Rattle.step.specs.declared.Effect.{Effect}
use Rattle.step.specs.declared.Outcome.{Outcome}
use Rattle.step.specs.declared.Decision as code-decision
use Rattle.step.specs.declared.Sizes.{Sizes}
use Rattle.step.specs.declared.Run as code-run
use Rattle.step.specs.declared.Transfer.{Transfer}
use Rattle.step.specs.declared.Transfer.TheVariants.{Stay, Take, Join, Mark}

-- one more, but at most n
abbrev pub up_to : ℕ → ℕ → ℕ
up_to most n = choose (ltb n most) (n + 1) n

abbrev pub token : ℕ → ℕ → Token
token p n = record { processor = p; sequence = n }

abbrev pub same_tokens : Token → Token → Bool
same_tokens a b = eqb a.processor b.processor && eqb a.sequence b.sequence

-- ---- registers

abbrev pub observing : ℕ → Token → Processor → Processor
observing n t r =
    record { position = n; current = r.current; transit = r.transit; mutex = r.mutex; observed = t; sequence = r.sequence; answer = r.answer; probe = r.probe }

abbrev pub on_mutex : ℕ → Processor → Processor
on_mutex n r = observing n zero_token r

abbrev pub away : ℕ → Processor → Processor
away n r =
    record { position = n; current = r.current; transit = r.transit; mutex = 0; observed = zero_token; sequence = r.sequence; answer = r.answer; probe = r.probe }

-- the current and the transit register
abbrev pub threads : ℕ → ℕ → Processor → Processor
threads c t r =
    record { position = r.position; current = c; transit = t; mutex = r.mutex; observed = r.observed; sequence = r.sequence; answer = r.answer; probe = r.probe }

abbrev pub sequenced : ℕ → Processor → Processor
sequenced n r =
    record { position = r.position; current = r.current; transit = r.transit; mutex = r.mutex; observed = r.observed; sequence = n; answer = r.answer; probe = r.probe }

abbrev pub answering : ℕ → Processor → Processor
answering n r =
    record { position = r.position; current = r.current; transit = r.transit; mutex = r.mutex; observed = r.observed; sequence = r.sequence; answer = n; probe = r.probe }

-- a call: its mutex, and answer 0
abbrev pub calling : ℕ → Processor → Processor
calling m r =
    record { position = r.position; current = r.current; transit = r.transit; mutex = m; observed = r.observed; sequence = r.sequence; answer = 0; probe = r.probe }

abbrev pub probing : ℕ → Processor → Processor
probing n r =
    record { position = r.position; current = r.current; transit = r.transit; mutex = r.mutex; observed = r.observed; sequence = r.sequence; answer = r.answer; probe = n }

abbrev pub counted : ℕ → Mutex → Mutex
counted n x = record { count = n; owner = x.owner; token = x.token }

abbrev pub owned : ℕ → Mutex → Mutex
owned k x = record { count = x.count; owner = k; token = x.token }

abbrev pub tokened : Token → Mutex → Mutex
tokened t x = record { count = x.count; owner = x.owner; token = t }

-- one more on a ring of n, back to 0 after n − 1
abbrev pub next_probe : ℕ → ℕ → ℕ
next_probe n probe = choose (ltb probe (n - 1)) (probe + 1) 0

-- the look number, which CI2 alone reads
abbrev pub probed : Processor → ℕ
probed r = choose (eqb r.position 1) r.probe 0

-- the index of the ready queue that is l places after that of processor p of n, going round
abbrev pub on_ring : ℕ → ℕ → ℕ → ℕ
on_ring n p l = choose ((in_range 1 8 n && in_range 1 n p) && ltb l n) (8 + around n (p + l)) 0

-- the index of the ready queue that processor p of n, which is r, works on: 0 for the single one
abbrev pub index_of : ℕ → ℕ → ℕ → Processor → ℕ
index_of stealing n p r = if_zero stealing 0 (on_ring n p (probed r))

-- a view before a look into the queues, and with what taking from queue m of some chains and from their ready queue finds
abbrev pub unlooked : View → View
unlooked v = record { number = v.number; proc = v.proc; mutex = v.mutex; queue = None; ready = None; index = v.index; queues = v.queues }

abbrev pub looking : Chains → ℕ → View → View
looking c m v =
    record { number = v.number; proc = v.proc; mutex = v.mutex; queue = taken c m; ready = taken c v.index; index = v.index; queues = v.queues }

-- ---- effects

abbrev pub effect : Processor → Mutex → Transfer → Effect
effect r x t = record { proc = r; mutex = x; transfer = t }

abbrev pub load : View → Effect
load v = effect (away 0 (threads v.proc.transit 0 v.proc)) v.mutex (Mark v.proc.transit 3 v.number)

-- the current thread goes to the transit register
abbrev pub unload : View → Processor
unload v = threads 0 v.proc.current v.proc

abbrev pub join_ready : ℕ → View → Effect
join_ready n v = effect (away n (threads v.proc.current 0 v.proc)) v.mutex (Join v.index v.proc.transit)

abbrev pub serve : ℕ → ℕ → ℕ → View → Effect
serve k rest n v = effect (on_mutex n (threads v.proc.current k v.proc)) (owned k v.mutex) (Take v.proc.mutex k rest)

-- a case for what taking from a queue found
abbrev pub on_taken : {A : Type 0} → Option Front → A → (ℕ → ℕ → A) → A
on_taken None a f = a
on_taken (Some front) a f = f front.thread front.rest

-- ---- the lines

unfoldable pub at_CI2 : View → Effect
at_CI2 v =
    on_taken v.ready (effect (away 1 (probing (next_probe v.queues v.proc.probe) v.proc)) v.mutex Stay)
    (λ k rest. effect (away 2 (probing 0 (threads v.proc.current k v.proc))) v.mutex (Take v.index k rest))

unfoldable pub at_CI3 : View → Effect
at_CI3 v = load v

unfoldable pub at_L1 : View → Effect
at_L1 v =
    choose (eqb v.mutex.count 0) (effect (away 0 v.proc) (owned v.proc.current (counted (up_to 255 v.mutex.count) v.mutex)) Stay)
    (effect (on_mutex 4 v.proc) (counted (up_to 255 v.mutex.count) v.mutex) Stay)

unfoldable pub at_L3 : View → Effect
at_L3 v = effect (on_mutex 5 (unload v)) v.mutex (Mark v.proc.current 4 v.number)

unfoldable pub at_L4 : View → Effect
at_L4 v = effect (on_mutex 6 (threads v.proc.current 0 v.proc)) v.mutex (Join v.proc.mutex v.proc.transit)

unfoldable pub at_L6 : View → Effect
at_L6 v =
    choose (eqb v.mutex.token.processor 0) (effect (away 1 v.proc) v.mutex Stay) (effect (observing 7 v.mutex.token v.proc) v.mutex Stay)

unfoldable pub at_L7 : View → Effect
at_L7 v =
    on_taken v.queue (effect (away 1 v.proc) v.mutex Stay) (λ k rest. effect (observing 8 v.proc.observed v.proc) v.mutex Stay)

unfoldable pub at_L8 : View → Effect
at_L8 v =
    choose (same_tokens v.mutex.token v.proc.observed) (effect (on_mutex 9 v.proc) (tokened zero_token v.mutex) Stay)
    (effect (away 1 v.proc) v.mutex Stay)

unfoldable pub at_L9 : View → Effect
at_L9 v = on_taken v.queue (effect (on_mutex 9 v.proc) v.mutex Stay) (λ k rest. serve k rest 10 v)

unfoldable pub at_L10 : View → Effect
at_L10 v = load v

unfoldable pub at_TL1 : View → Effect
at_TL1 v =
    choose (eqb v.mutex.count 0) (effect (away 0 (answering 1 v.proc)) (owned v.proc.current (counted 1 v.mutex)) Stay)
    (effect (on_mutex 12 v.proc) v.mutex Stay)

unfoldable pub at_GT1 : View → Effect
at_GT1 v =
    choose (eqb v.mutex.token.processor 0) (effect (away 0 (answering 2 v.proc)) v.mutex Stay)
    (effect (observing 13 v.mutex.token v.proc) v.mutex Stay)

unfoldable pub at_GT3 : View → Effect
at_GT3 v =
    choose (same_tokens v.mutex.token v.proc.observed)
    (effect (on_mutex 14 v.proc) (owned v.proc.current (tokened zero_token v.mutex)) Stay)
    (effect (away 0 (answering 2 v.proc)) v.mutex Stay)

unfoldable pub at_TL3 : View → Effect
at_TL3 v = effect (away 0 (answering 1 v.proc)) (counted (up_to 255 v.mutex.count) v.mutex) Stay

unfoldable pub at_U1 : View → Effect
at_U1 v =
    choose (eqb (v.mutex.count - 1) 0) (effect (away 0 v.proc) (owned 0 (counted (v.mutex.count - 1) v.mutex)) Stay)
    (effect (on_mutex 16 v.proc) (owned 0 (counted (v.mutex.count - 1) v.mutex)) Stay)

unfoldable pub at_H2 : View → Effect
at_H2 v = on_taken v.queue (effect (on_mutex 18 v.proc) v.mutex Stay) (λ k rest. serve k rest 17 v)

unfoldable pub at_H3 : View → Effect
at_H3 v = join_ready 0 v

unfoldable pub at_H5 : View → Effect
at_H5 v =
    effect (on_mutex 19 (sequenced (up_to 65535 v.proc.sequence) v.proc))
    (tokened (token v.number (up_to 65535 v.proc.sequence)) v.mutex)
    Stay

unfoldable pub at_H6 : View → Effect
at_H6 v = on_taken v.queue (effect (away 0 v.proc) v.mutex Stay) (λ k rest. effect (on_mutex 20 v.proc) v.mutex Stay)

unfoldable pub at_H8 : View → Effect
at_H8 v =
    choose (same_tokens v.mutex.token (token v.number v.proc.sequence)) (effect (on_mutex 16 v.proc) (tokened zero_token v.mutex) Stay)
    (effect (away 0 v.proc) v.mutex Stay)

unfoldable pub at_Y1 : View → Effect
at_Y1 v = on_taken v.ready (effect (away 0 v.proc) v.mutex Stay) (λ k rest. effect (away 22 v.proc) v.mutex Stay)

unfoldable pub at_Y2 : View → Effect
at_Y2 v = effect (away 23 (unload v)) v.mutex (Mark v.proc.current 4 v.number)

unfoldable pub at_Y3 : View → Effect
at_Y3 v = join_ready 1 v

unfoldable pub at_C2 : View → Effect
at_C2 v = join_ready 0 v

-- ---- the dispatcher: the lines by number; at App nothing happens

abbrev pub stay : View → Effect
stay v = effect v.proc v.mutex Stay

abbrev pub effects : List (View → Effect)
effects =
    stay ∷ at_CI2 ∷ at_CI3 ∷ at_L1 ∷ at_L3 ∷ at_L4 ∷ at_L6 ∷ at_L7 ∷ at_L8 ∷ at_L9 ∷ at_L10 ∷ at_TL1 ∷ at_GT1 ∷ at_GT3 ∷ at_TL3 ∷ at_U1 ∷ at_H2 ∷ at_H3 ∷ at_H5 ∷
    at_H6 ∷ at_H8 ∷ at_Y1 ∷ at_Y2 ∷ at_Y3 ∷ at_C2 ∷ []

unfoldable pub line_effect : View → Effect
line_effect v = get_or effects v.proc.position stay v

-- ---- the calls

abbrev pub call_on : ℕ → ℕ → View → Effect
call_on m n v = effect (on_mutex n (calling m v.proc)) v.mutex Stay

unfoldable pub lock_call : ℕ → View → Effect
lock_call m v = call_on m 3 v

unfoldable pub trylock_call : ℕ → View → Effect
trylock_call m v = call_on m 11 v

unfoldable pub unlock_call : ℕ → View → Effect
unlock_call m v = call_on m 15 v

unfoldable pub yield_call : View → Effect
yield_call v = effect (away 21 (answering 0 v.proc)) v.mutex Stay

unfoldable pub exit_call : View → Effect
exit_call v = effect (away 1 (answering 0 (threads 0 v.proc.transit v.proc))) v.mutex (Mark v.proc.current 5 0)

unfoldable pub create_call : ℕ → View → Effect
create_call k v = effect (away 24 (answering 0 (threads v.proc.current k v.proc))) v.mutex (Mark k 4 v.number)

abbrev pub go_call : ℕ → View → Effect
go_call o v = line_effect v

abbrev pub acts : List (ℕ → View → Effect)
acts = go_call ∷ lock_call ∷ trylock_call ∷ unlock_call ∷ (λ o v. yield_call v) ∷ (λ o v. exit_call v) ∷ create_call ∷ []

unfoldable pub act_effect : ℕ → ℕ → View → Effect
act_effect a o v = get_or acts a go_call o v

-- ---- why a move is refused

abbrev pub operand_fits : Sizes → ℕ → ℕ → Bool
operand_fits z a o = choose (in_range 1 3 a) (in_range 1 z.m o) (choose (eqb a 6) (in_range 1 z.t o) (eqb o 0))

abbrev pub sizes_of : State → Sizes
sizes_of s = record { p = s.p; t = s.t; m = s.m; applied = s.applied }

-- thread k owns none of the mutexes 1 to m, of 8
abbrev pub owns_none : List Mutex → ℕ → ℕ → Bool
owns_none mutexes m k = each (λ i. ltb m i || not (eqb (mutex_in mutexes i).owner k)) 1 8

-- what decides the cause of action a with operand o, by what it sees, whether its thread owns a mutex, and the status of the thread that its operand names;
-- whether the processor is there and whether the action is go are handed in
abbrev pub facts_of : Bool → Bool → Sizes → View → Bool → ℕ → ℕ → ℕ → Facts
facts_of there goes z v owning status a o =
    record {
      there = there;
      fits = leb a 6 && operand_fits z a o;
      full = leb 4000 z.applied;
      goes = goes;
      at_app = eqb v.proc.position 0;
      unlocks = eqb a 3;
      owner = eqb v.mutex.owner v.proc.current;
      creates = eqb a 6;
      is_new = eqb status 0;
      exits = eqb a 5;
      owning = owning;
    }

unfoldable pub cause_seen : Sizes → View → Bool → ℕ → ℕ → ℕ → ℕ
cause_seen z v owning status a o = first_cause (facts_of (in_range 1 z.p v.number) (eqb a 0) z v owning status a o)

abbrev pub nothing_there : Option Front → Bool
nothing_there q = on_taken q true (λ k rest. false)

abbrev pub breaks_at : ℕ → View → Bool
breaks_at t v =
    eqb v.proc.position 15 && eqb v.mutex.count 0 || (eqb v.proc.position 3 || eqb v.proc.position 14) && ltb t v.mutex.count ||
    eqb v.proc.position 18 && leb 4000 v.proc.sequence || eqb v.proc.position 9 && nothing_there v.queue

-- ---- what comes of a line or a call

abbrev pub outcome : Bool → Bool → Effect → Outcome
outcome broken writes e = record { broken = broken; writes = writes; effect = e }

-- whether a line may change its mutex, by number: L1, L8, L9, TL1, GT3, TL3, U1, H2, H5 and H8 may
abbrev pub writers : List Bool
writers =
    false ∷ false ∷ false ∷ true ∷ false ∷ false ∷ false ∷ false ∷ true ∷ true ∷ false ∷ true ∷ false ∷ true ∷ true ∷ true ∷ true ∷ false ∷ true ∷ false ∷ true ∷
    false ∷ false ∷ false ∷ false ∷ []

unfoldable pub line_outcome : ℕ → View → Outcome
line_outcome t v = outcome (breaks_at t v) (get_or writers v.proc.position false) (line_effect v)

-- a call breaks no rule and leaves its mutex
unfoldable pub act_outcome : ℕ → ℕ → ℕ → View → Outcome
act_outcome t a o v =
    let goes = not (in_range 1 6 a) in
    outcome (goes && breaks_at t v) (goes && get_or writers v.proc.position false) (act_effect a o v)

-- ---- a move's decision

-- no cause but, for an exit, that the thread may own a mutex
abbrev pub tried : ℕ → Bool
tried n = eqb n 0 || eqb n still_owner

-- the first cause of a thread that owns a mutex; where the move is tried, 15
unfoldable pub refusal_seen : Sizes → View → ℕ → ℕ → ℕ → ℕ
refusal_seen z v status a o =
    let n = cause_seen z v true status a o in
    choose (tried n) (choose (act_outcome z.t a o v).broken bad_record n) n

-- why a move is refused, or 0; whether it may change its mutex; and its effect. 21 is that of an exit that is refused only if its thread owns a mutex.
pub record Decision : Type 0 where
  pub refusal : ℕ
  pub writes : Bool
  pub effect : Effect

-- refused, the view is left
unfoldable pub decision : Sizes → View → ℕ → ℕ → ℕ → Decision
decision z v status a o =
    let made = tried (refusal_seen z v status a o) in
    record {
      refusal = refusal_seen z v status a o;
      writes = made && (act_outcome z.t a o v).writes;
      effect = choose made (act_outcome z.t a o v).effect (stay v);
    }

-- the decision that the code's answer to action a says: an exit is not asked there whether its thread owns a mutex
unfoldable pub decided : View → ℕ → Result code-decision.Decision Refusal → Decision
decided v a (Ok d) = record { refusal = choose (eqb a 5) still_owner 0; writes = d.writes; effect = d.effect }
decided v a (Err e) = record { refusal = refusals.number e; writes = false; effect = stay v }

-- ---- a whole move

abbrev pub target_of : ℕ → ℕ → ℕ → ℕ
target_of a m o = choose (in_range 1 3 a) o m

abbrev pub view_of : State → ℕ → ℕ → View
view_of s p m =
    record {
      number = p;
      proc = processor_of s p;
      mutex = mutex_of s m;
      queue = taken s.chains m;
      ready = taken s.chains (index_of s.stealing s.p p (processor_of s p));
      index = index_of s.stealing s.p p (processor_of s p);
      queues = queues s.stealing s.p;
    }

abbrev pub carried : Chains → ℕ → Transfer → Chains
carried c p Stay = c
carried c p (Take q k rest) = removed c q k rest (record { status = 4; holder = p; next = 0 })
carried c p (Join q k) = joined c q k
carried c p (Mark k status holder) = placed c k (record { status = status; holder = holder; next = 0 })

-- what a move sees
abbrev pub move_view : State → ℕ → ℕ → ℕ → View
move_view s p a o = view_of s p (target_of a (processor_of s p).mutex o)

-- whether processor p's thread owns a mutex
abbrev pub owning_of : State → ℕ → Bool
owning_of s p = not (owns_none s.mutexes s.m (processor_of s p).current)

abbrev pub cause_of : State → ℕ → ℕ → ℕ → ℕ
cause_of s p a o = cause_seen (sizes_of s) (move_view s p a o) (owning_of s p) (thread_of s o).status a o

unfoldable pub step_breaks_of : State → ℕ → ℕ → Bool
step_breaks_of s p a = eqb a 0 && breaks_at s.t (view_of s p (processor_of s p).mutex)

-- the effect is put back
abbrev pub put_effect : State → ℕ → ℕ → Effect → State
put_effect s p m e =
    with_applied (up_to 65535 s.applied) (with_processor p e.proc (with_mutex m e.mutex (with_chains (carried s.chains p e.transfer) s)))

unfoldable pub stepped_of : State → ℕ → ℕ → ℕ → State
stepped_of s p a o = put_effect s p (target_of a (processor_of s p).mutex o) (act_effect a o (move_view s p a o))

unfoldable pub refusal_of : State → ℕ → ℕ → ℕ → ℕ
refusal_of s p a o = choose (eqb (cause_of s p a o) 0) (choose (step_breaks_of s p a) bad_record 0) (cause_of s p a o)

-- a move's answer: 0, or why it is refused, and the state after it
pub record Moved : Type 0 where
  pub refusal : ℕ
  pub state : State

unfoldable pub moved_of : State → ℕ → ℕ → ℕ → Moved
moved_of s p a o = record { refusal = refusal_of s p a o; state = choose (eqb (refusal_of s p a o) 0) (stepped_of s p a o) s }

-- the answer that the code's says: refused, the state stays
unfoldable pub moved_shown : State → Result State Refusal → Moved
moved_shown s (Ok after) = record { refusal = 0; state = after }
moved_shown s (Err e) = record { refusal = refusals.number e; state = s }

-- ---- moves one after another, in place

-- where a list of moves leads: why its first refused move is refused, or 0, how many moves were made, and the state after them
pub record Run : Type 0 where
  pub refusal : ℕ
  pub made : ℕ
  pub state : State

abbrev pub ran : ℕ → ℕ → State → Run
ran refusal made s = record { refusal = refusal; made = made; state = s }

abbrev pub run_shown : code-run.Run → Run
run_shown r = ran (refusals.outcome r.outcome) r.made r.state

-- move i + 1 of a list of bytes
abbrev pub moved_at : State → List ℕ → ℕ → Moved
moved_at s j i = moved_of s (get_or j (3 * i) 0) (get_or j (3 * i + 1) 0) (get_or j (3 * i + 2) 0)

-- the moves of a list of bytes from move i + 1 on, at most n of them: until one is refused
unfoldable pub run_from : List ℕ → ℕ → ℕ → State → Run
run_from j zero i s = ran 0 i s
run_from j (suc n) i s = choose (eqb (moved_at s j i).refusal 0) (run_from j n (i + 1) (moved_at s j i).state) (ran (moved_at s j i).refusal i s)

abbrev pub run_of : State → List ℕ → Run
run_of s j = run_from j (length j / 3) 0 s

-- ---- the calls that each thread makes in such a run

-- one more call of thread k
abbrev pub noted : List ℕ → ℕ → List ℕ
noted calls k = set calls k (up_to 65535 (get_or calls k 0))

-- the calls with move i + 1 of a list of bytes, made in s: an action other than 0 is a call of its processor's current thread
abbrev pub noted_at : State → List ℕ → ℕ → List ℕ → List ℕ
noted_at s j i calls = choose (eqb (get_or j (3 * i + 1) 0) 0) calls (noted calls (processor_of s (get_or j (3 * i) 0)).current)

-- the calls of the moves that a run makes, from move i + 1 on
unfoldable pub counted_from : List ℕ → ℕ → ℕ → State → List ℕ → List ℕ
counted_from j zero i s calls = calls
counted_from j (suc n) i s calls =
    choose (eqb (moved_at s j i).refusal 0) (counted_from j n (i + 1) (moved_at s j i).state (noted_at s j i calls)) calls

abbrev pub counted_of : State → List ℕ → List ℕ → List ℕ
counted_of s j calls = counted_from j (length j / 3) 0 s calls
