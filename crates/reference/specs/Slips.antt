-- Four slips that are easily made (document 01 lists them): the machine with each, and a session that then breaks a law.
-- Assumes nothing.
use Rattle.std.specs.Prelude.{ℕ, zero, suc, ◌-◌, Bool, true, false, ◌&&◌, List, [], ◌∷◌, ◌++◌, ◌≡◌, eqb}
use Rattle.reference.specs.Lists.{choose, if_zero, if_empty}
use Rattle.reference.specs.State.{State, Line, App, CI2, L4, L6, L8, L9, L10, GT3, TL3, U1, H2, H3, H6, H8, no_token, same_line, same_token, processor_at, mutex_at}
use Rattle.reference.specs.Start.{Config, config_cause, start}
use Rattle.reference.specs.Step.{View, line, answering, owned, tokened, counted, queued, observe, own_token, jump, Action, Move, move_of, action_of, act, target, created_by, ended_by, view, put_back, run}
use Rattle.reference.specs.Cause.{is_go, cause, accepted}
use Rattle.reference.specs.Break.{step_breaks}
use Rattle.reference.specs.History.{gains, drops, owns}
use Rattle.reference.specs.Safe.{held}

-- ---- the machine with other lines

-- step: what a go executes at a line; gain and drop: the thread that owns the mutex from this line on, or no longer, 0 for none
pub record Machine : Type 0 where
  pub step : Line → View → View
  pub gain : Line → View → ℕ
  pub drop : Line → View → ℕ

abbrev pub proper : Machine
proper = record { step = line; gain = gains; drop = drops }

-- `next`, `run`, `accepted` and `owns` with these lines
module _ (x : Machine) where
  abbrev pub does_by : State → ℕ → Action → ℕ → State
  does_by s p a o =
      let m : ℕ = target a (processor_at s p).mutex o in
      put_back s p m (created_by a o) (ended_by a (processor_at s p).current)
      (choose (is_go a) (x.step (processor_at s p).position (view s p m)) (act a o (view s p m)))

  unfoldable pub next_by : State → Move → State
  next_by s a = does_by s a.processor (action_of a.action) a.operand

  unfoldable pub run_by : State → List Move → State
  run_by s [] = s
  run_by s (a ∷ rest) = run_by (next_by s a) rest

  unfoldable pub accepted_by : State → List Move → Bool
  accepted_by s [] = true
  accepted_by s (a ∷ rest) = eqb (cause s a) 0 && accepted_by (next_by s a) rest

  abbrev pub owns_after_by : Action → State → ℕ → ℕ → ℕ → Bool → Bool
  owns_after_by a s p m k b =
      let l : Line = (processor_at s p).position in
      let v : View = view s p (processor_at s p).mutex in
      choose (is_go a && eqb m (processor_at s p).mutex) (choose (eqb (x.gain l v) k) true (choose (eqb (x.drop l v) k) false b)) b

  unfoldable pub owns_by : State → List Move → ℕ → ℕ → Bool → Bool
  owns_by s [] m k b = b
  owns_by s (a ∷ rest) m k b = owns_by (next_by s a) rest m k (owns_after_by (action_of a.action) s a.processor m k b)

-- ---- the slips

-- a token is claimed, at L8 and GT3, if it is of the same processor as the one observed
abbrev pub same_origin : View → Bool
same_origin v = eqb v.mutex.token.processor v.proc.observed.processor

abbrev pub token_without_sequence : Machine
token_without_sequence =
    record {
      step = λ l v.
          choose (same_line l L8) (choose (same_origin v) (jump L9 (tokened no_token v)) (jump CI2 v))
          (choose (same_line l GT3) (choose (same_origin v) (jump TL3 (owned v.proc.current (tokened no_token v))) (jump App (answering 2 v)))
          (line l v));
      gain = λ l v. choose (same_line l GT3) (choose (same_origin v) v.proc.current 0) (gains l v);
      drop = drops;
    }

-- L6 goes on to L8
abbrev pub no_l7 : Machine
no_l7 =
    record {
      step = λ l v.
          choose (same_line l L6)
          (if_zero v.mutex.token.processor (jump CI2 v) (jump L8 (observe v.mutex.token v)))
          (line l v);
      gain = gains;
      drop = drops;
    }

-- the owner is dropped where unlock ends: at U1 only if nobody else is counted, else at H3, H6 or H8 on the way to App
abbrev pub owner_dropped_late : Machine
owner_dropped_late =
    record {
      step = λ l v.
          choose (same_line l U1)
          (let w : View = counted (v.mutex.count - 1) v in if_zero (v.mutex.count - 1) (jump App (owned 0 w)) (jump H2 w))
          (choose (same_line l H6) (if_empty v.mutex.queue (jump App (owned 0 v)) (λ y rest. jump H8 v))
          (choose (same_line l H8)
          (choose (same_token v.mutex.token (own_token v)) (jump H2 (tokened no_token v)) (jump App (owned 0 v)))
          (line l v)));
      gain = gains;
      drop = λ l v.
          choose (same_line l U1) (if_zero (v.mutex.count - 1) v.proc.current 0)
          (choose (same_line l H3) v.proc.current
          (choose (same_line l H6) (if_empty v.mutex.queue v.proc.current (λ y rest. 0))
          (choose (same_line l H8) (choose (same_token v.mutex.token (own_token v)) 0 v.proc.current) 0)));
    }

-- the caller of lock stays in transit when it joins the queue, and runs where the queue's first is taken
abbrev pub lock_caller_runs : Machine
lock_caller_runs =
    record {
      step = λ l v.
          choose (same_line l L4) (jump L6 (queued (v.mutex.queue ++ v.proc.transit ∷ []) v))
          (choose (same_line l L9) (if_empty v.mutex.queue (jump L9 v) (λ y rest. jump L10 (owned y (queued rest v))))
          (line l v));
      gain = gains;
      drop = drops;
    }

-- ---- the sessions: three processors, each with a thread, and one mutex

abbrev pub table : Config
table = record { P = 3; T = 3; M = 1; B = 3; stealing = 0 }

abbrev pub locks : ℕ → Move
locks p = move_of p 1 1

abbrev pub unlocks : ℕ → Move
unlocks p = move_of p 3 1

abbrev pub exits : ℕ → Move
exits p = move_of p 5 0

-- n goes of processor p
abbrev pub goes : ℕ → ℕ → List Move
goes p zero = []
goes p (suc n) = move_of p 0 0 ∷ goes p n

-- 1 owns; 2 is counted and at L3; 1 unlocks and leaves token (1, 1), at H6
abbrev pub offered : List Move
offered = locks 1 ∷ goes 1 1 ++ locks 2 ∷ goes 2 1 ++ unlocks 1 ∷ goes 1 3

-- 1 takes the token back and makes thread 2 the owner, ready; 3 is counted and at L3; thread 2 runs on 1, unlocks and leaves token (1, 2)
abbrev pub offered_again : List Move
offered_again = goes 1 4 ++ locks 3 ∷ goes 3 1 ++ exits 1 ∷ goes 1 2 ++ unlocks 1 ∷ goes 1 3

-- 2 observes (1, 1) and stops at L8 until (1, 2) is there
abbrev pub late_at_l8 : List Move
late_at_l8 = offered ++ goes 2 4 ++ offered_again ++ goes 2 1

-- 2 joins the queue, and is taken out of it before its L6 observes (1, 2)
abbrev pub late_at_l6 : List Move
late_at_l6 = offered ++ goes 2 2 ++ offered_again ++ goes 2 2

-- 2 takes the token up to L9, while 1 is at H6
abbrev pub served : List Move
served = offered ++ goes 2 6

-- 2 joins the queue, 3 joins it behind 2, takes the token and goes on to App
abbrev pub second_in_queue : List Move
second_in_queue = offered ++ goes 2 2 ++ locks 3 ∷ goes 3 8

-- ---- what happens

module _ (x : Machine) (ms : List Move) where
  abbrev pub ends : State
  ends = run_by x (start table) ms

  -- the moves are accepted with the machine's lines, so that the laws hold of them, and with the slip
  abbrev pub Accepted : Type 0
  Accepted = (accepted (start table) ms ≡ true) × (accepted_by x (start table) ms ≡ true)

  -- thread k owns mutex 1
  abbrev pub OwnsBy : ℕ → Type 0
  OwnsBy k = owns_by x (start table) ms 1 k false ≡ true

  -- processor p is at L9, the queue is empty, and its go, which has no cause, breaks a rule
  pub record EmptyAtL9 (p : ℕ) : Type 0 where
    pub position : (processor_at ends p).position ≡ L9
    pub queue : (mutex_at ends (processor_at ends p).mutex).queue ≡ []
    pub cause : cause ends (move_of p 0 0) ≡ 0
    pub breaks : step_breaks ends (move_of p 0 0) ≡ true

pub record Slips : Type 0 where
  -- with its own lines it is the machine
  pub run_proper : (s : State) (ms : List Move) → run_by proper s ms ≡ run s ms
  pub accepted_proper : (s : State) (ms : List Move) → accepted_by proper s ms ≡ accepted s ms
  pub owns_proper : (s : State) (ms : List Move) (m k : ℕ) (b : Bool) → owns_by proper s ms m k b ≡ owns s ms m k b
  pub started : config_cause table ≡ 0
  -- an old token passes L8, and the queue is empty at L9
  pub token_made : Accepted token_without_sequence late_at_l8
  pub token_breaks : EmptyAtL9 token_without_sequence late_at_l8 2
  -- somebody else has served the thread that joined the queue, which is empty at L9
  pub l7_made : Accepted no_l7 late_at_l6
  pub l7_breaks : EmptyAtL9 no_l7 late_at_l6 2
  -- the mutex has two owners
  pub drop_made : Accepted owner_dropped_late served
  pub drop_breaks : OwnsBy owner_dropped_late served 1 × OwnsBy owner_dropped_late served 2
  -- thread 3 runs, though thread 2 owns the mutex, and is in two places
  pub caller_made : Accepted lock_caller_runs second_in_queue
  pub caller_breaks : OwnsBy lock_caller_runs second_in_queue 2 × ((processor_at (ends lock_caller_runs second_in_queue) 3).current ≡ 3) × (held (ends lock_caller_runs second_in_queue) 3 ≡ 2)
