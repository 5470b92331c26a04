-- Pairs of neighbours with their states in both orders: two on one mutex that may change places, two that may not, two that write one word; and why each part
-- of the condition is needed.
-- Assumes nothing.
use Rattle.std.specs.Prelude.{ℕ, Bool, true, false, ◌&&◌, not, List, [], ◌∷◌, ◌++◌, ◌≡◌, eqb}
use Rattle.reference.specs.Lists.{choose, tabulate}
use Rattle.reference.specs.State.{Processor, Mutex, live, State, Line, App, L1, L3, L4, L6, U1, H2, H3, H5, H6, no_token, same_line, processor_at}
use Rattle.reference.specs.Start.{Config, start}
use Rattle.reference.specs.Step.{Move, move_of, next}
use Rattle.reference.specs.Cause.{cause, accepted}
use Rattle.reference.specs.Safe.{end}
use Rattle.reference.specs.Touch.{Word, none, Touch, count, queue, looks_at, changes, touch, same_word, touches_word, apart}
use Rattle.independence.specs.Depends.{DependsBy}
use Rattle.independence.specs.Exchange.{independent, ExchangesBy, may_exchange}

-- ---- two processors with a thread each, one mutex

abbrev pub two : Config
two = record { P = 2; T = 2; M = 1; B = 2; stealing = 0 }

-- a processor at a line: its current thread, the one in transit, its mutex
abbrev pub at_line : Line → ℕ → ℕ → ℕ → Processor
at_line l k t m = record { position = l; current = k; transit = t; mutex = m; observed = no_token; sequence = 0; answer = 0; probe = 0 }

-- a mutex without a token: its count, its queue, its owner
abbrev pub held : ℕ → List ℕ → ℕ → Mutex
held n q k = record { count = n; queue = q; owner = k; token = no_token }

-- a state with both threads live, nobody ready, after n moves
abbrev pub both : Processor → Processor → Mutex → ℕ → State
both r q x n =
    record { P = 2; T = 2; M = 1; stealing = 0; ready = [] ∷ []; processors = r ∷ q ∷ []; mutexes = x ∷ []; lives = live ∷ live ∷ []; applied = n }

abbrev pub go_of : ℕ → Move
go_of p = move_of p 0 0

-- made from s, the moves touch t and u; they are accepted in either order, a first through sa to sab, b first through sb to sba
pub record Orders (s : State) (a b : Move) (t u : Touch) (sa sab sb sba : State) : Type 0 where
  pub a_first : (cause s a ≡ 0) × (touch s a ≡ t) × (next s a ≡ sa)
  pub then_b : (cause sa b ≡ 0) × (touch sa b ≡ u) × (next sa b ≡ sab)
  pub b_first : (cause s b ≡ 0) × (next s b ≡ sb)
  pub then_a : (cause sb a ≡ 0) × (next sb a ≡ sba)

-- ---- one touches the count, the other the queue

-- thread 1 owns the mutex and has called unlock; thread 2 is counted and on its way to the queue
abbrev pub unlocking : List Move
unlocking = move_of 1 1 1 ∷ go_of 1 ∷ move_of 2 1 1 ∷ go_of 2 ∷ go_of 2 ∷ move_of 1 3 1 ∷ []

abbrev pub unlocked : State
unlocked = both (at_line U1 1 0 1) (at_line L4 0 2 1) (held 2 [] 1) 6

-- U1 of processor 1 and L4 of processor 2 may change places
pub record May : Type 0 where
  pub all_accepted : accepted (start two) unlocking ≡ true
  pub there : end two unlocking ≡ unlocked
  pub may : independent unlocked (go_of 1) (go_of 2) ≡ true
  pub orders :
      Orders unlocked (go_of 1) (go_of 2) (changes (count 1)) (changes (queue 1))
      (both (at_line H2 1 0 1) (at_line L4 0 2 1) (held 1 [] 0) 7)
      (both (at_line H2 1 0 1) (at_line L6 0 0 1) (held 1 (2 ∷ []) 0) 8)
      (both (at_line U1 1 0 1) (at_line L6 0 0 1) (held 2 (2 ∷ []) 1) 7)
      (both (at_line H2 1 0 1) (at_line L6 0 0 1) (held 1 (2 ∷ []) 0) 8)

-- ---- one writes what the other reads

abbrev pub handing_on : State
handing_on = both (at_line H2 1 0 1) (at_line L4 0 2 1) (held 1 [] 0) 7

-- after U1, H2 of processor 1 and L4 of processor 2 may not: H2 hands the mutex to thread 2, or finds nobody and goes on to offer a token
pub record MayNot : Type 0 where
  pub all_accepted : accepted (start two) (unlocking ++ go_of 1 ∷ []) ≡ true
  pub there : end two (unlocking ++ go_of 1 ∷ []) ≡ handing_on
  pub may_not : independent handing_on (go_of 1) (go_of 2) ≡ false
  pub orders :
      Orders handing_on (go_of 1) (go_of 2) (looks_at (queue 1)) (changes (queue 1))
      (both (at_line H5 1 0 1) (at_line L4 0 2 1) (held 1 [] 0) 8)
      (both (at_line H5 1 0 1) (at_line L6 0 0 1) (held 1 (2 ∷ []) 0) 9)
      (both (at_line H2 1 0 1) (at_line L6 0 0 1) (held 1 (2 ∷ []) 0) 8)
      (both (at_line H3 1 2 1) (at_line L6 0 0 1) (held 1 [] 2) 9)

-- ---- both write one word

abbrev pub locking : List Move
locking = move_of 1 1 1 ∷ move_of 2 1 1 ∷ []

abbrev pub contended : State
contended = both (at_line L1 1 0 1) (at_line L1 2 0 1) (held 0 [] 0) 2

-- two L1s on a free mutex: who goes first owns it
pub record BothWrite : Type 0 where
  pub all_accepted : accepted (start two) locking ≡ true
  pub there : end two locking ≡ contended
  pub may_not : independent contended (go_of 1) (go_of 2) ≡ false
  pub orders :
      Orders contended (go_of 1) (go_of 2) (changes (count 1)) (changes (count 1))
      (both (at_line App 1 0 0) (at_line L1 2 0 1) (held 1 [] 1) 3)
      (both (at_line App 1 0 0) (at_line L3 2 0 1) (held 2 [] 1) 4)
      (both (at_line L1 1 0 1) (at_line App 2 0 0) (held 1 [] 2) 3)
      (both (at_line L3 1 0 1) (at_line App 2 0 0) (held 2 [] 2) 4)

-- ---- which places of a list may be exchanged

-- of the unlock above with its U1, H2 and H5, followed by L4 and H6
abbrev pub offered : List Move
offered = unlocking ++ go_of 1 ∷ go_of 1 ∷ go_of 1 ∷ go_of 2 ∷ go_of 1 ∷ []

-- places 1 to 10: not two moves of one processor; not L4 and H6, at 10
abbrev pub Places : Type 0
Places = tabulate (may_exchange two offered) 1 10 ≡ false ∷ true ∷ false ∷ false ∷ true ∷ false ∷ false ∷ false ∷ true ∷ false ∷ []

-- ---- weaker conditions do not do

-- only what the first writes is looked at; only what the second writes; only words that both write; two moves of one processor pass too
abbrev pub first_writes : State → Move → Move → Bool
first_writes s a b = not (eqb a.processor b.processor) && not (touches_word (touch (next s a) b) (touch s a).writes)

abbrev pub second_writes : State → Move → Move → Bool
second_writes s a b = not (eqb a.processor b.processor) && not (touches_word (touch s a) (touch (next s a) b).writes)

abbrev pub both_write : State → Move → Move → Bool
both_write s a b = not (eqb a.processor b.processor) && not (same_word (touch s a).writes (touch (next s a) b).writes)

abbrev pub any_processor : State → Move → Move → Bool
any_processor s a b = apart (touch s a) (touch (next s a) b)

pub record Needed : Type 0 where
  pub first : ¬ (ExchangesBy first_writes)
  pub second : ¬ (ExchangesBy second_writes)
  pub both : ¬ (ExchangesBy both_write)
  pub processors : ¬ (ExchangesBy any_processor)

-- a move depends on the word that it only looks at: not so if H6 were said to read none
abbrev pub without_h6 : State → Move → Word
without_h6 s a = choose (same_line (processor_at s a.processor).position H6) none (touch s a).reads

abbrev pub LooksCount : Type 0
LooksCount = ¬ (DependsBy without_h6)

-- ---- nor does every state

-- thread 1 is current on both processors, which no session reaches: 2 is about to drop the mutex that 1 calls unlock on
abbrev pub unreached : State
unreached = both (at_line App 1 0 0) (at_line U1 1 0 1) (held 1 [] 1) 0

-- the two are accepted one after the other and pass the test, and exchanged the unlock is refused by 6
pub record NotEverywhere : Type 0 where
  pub a_first : cause unreached (move_of 1 3 1) ≡ 0
  pub then_b : cause (next unreached (move_of 1 3 1)) (go_of 2) ≡ 0
  pub may : independent unreached (move_of 1 3 1) (go_of 2) ≡ true
  pub b_first : cause unreached (go_of 2) ≡ 0
  pub a_refused : cause (next unreached (go_of 2)) (move_of 1 3 1) ≡ 6
