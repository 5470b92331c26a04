-- The state of the machine (document 01: of a bench), with queues as lists. Where a thread is follows from who holds it.
-- Assumes nothing.
use Rattle.std.specs.Prelude.{ℕ, Bool, ◌&&◌, true, false, List, [], ◌∷◌, eqb, get_or}
use Rattle.reference.specs.Lists.{at, choose, if_zero, same_list}

-- a token offers a mutex: the processor that made it and its sequence number (document 01: rank), both 0 where there is none
pub record Token : Type 0 where
  pub processor : ℕ
  pub sequence : ℕ

-- the lines at which a processor can stand, in the order that numbers them from 0
pub data Line : Type 0 where
  App CI2 CI3 L1 L3 L4 L6 L7 L8 L9 L10 TL1 GT1 GT3 TL3 U1 H2 H3 H5 H6 H8 Y1 Y2 Y3 C2 : Line

-- current (document 01: loaded): the thread that runs; transit (hand): one on its way; mutex: what the call is about; observed (seen): a token as it was read;
-- sequence (own rank): that of its last token; answer: 0 none, 1 yes, 2 no; probe (document 02: look number): how many queues CI2 has found empty
pub record Processor : Type 0 where
  pub position : Line
  pub current : ℕ
  pub transit : ℕ
  pub mutex : ℕ
  pub observed : Token
  pub sequence : ℕ
  pub answer : ℕ
  pub probe : ℕ

-- count: the owner and those that wait or are about to
pub record Mutex : Type 0 where
  pub count : ℕ
  pub queue : List ℕ
  pub owner : ℕ
  pub token : Token

-- not created yet (document 01: unborn), created, exited (ended)
pub data Life : Type 0 where
  new live terminated : Life

-- P, T, M: how many processors, threads and mutexes; stealing: 0 for a single ready queue, 1 for one for each processor, who steal from each other;
-- applied: how many moves stand
pub record State : Type 0 where
  pub P : ℕ
  pub T : ℕ
  pub M : ℕ
  pub stealing : ℕ
  pub ready : List (List ℕ)
  pub processors : List Processor
  pub mutexes : List Mutex
  pub lives : List Life
  pub applied : ℕ

-- how many ready queues P processors have by the choice: one for all, or one for each
abbrev pub queues : ℕ → ℕ → ℕ
queues stealing P = if_zero stealing 1 P

abbrev pub no_token : Token
no_token = record { processor = 0; sequence = 0 }

-- what is read where there is no such processor, and no such mutex
abbrev pub nobody : Processor
nobody = record { position = App; current = 0; transit = 0; mutex = 0; observed = no_token; sequence = 0; answer = 0; probe = 0 }

abbrev pub free_mutex : Mutex
free_mutex = record { count = 0; queue = []; owner = 0; token = no_token }

abbrev pub processor_at : State → ℕ → Processor
processor_at s p = at s.processors p nobody

abbrev pub mutex_at : State → ℕ → Mutex
mutex_at s m = at s.mutexes m free_mutex

abbrev pub queue_at : State → ℕ → List ℕ
queue_at s q = at s.ready q []

abbrev pub life_at : State → ℕ → Life
life_at s k = at s.lives k live

-- ---- the register table: each line's number, and which registers are nonzero there (1) and which are zero (0)

pub record Row : Type 0 where
  pub number : ℕ
  pub current : ℕ
  pub transit : ℕ
  pub mutex : ℕ
  pub observed : ℕ

abbrev pub columns : ℕ → ℕ → ℕ → ℕ → ℕ → Row
columns n c t m o = record { number = n; current = c; transit = t; mutex = m; observed = o }

abbrev pub row : Line → Row
row App = columns 0 1 0 0 0
row CI2 = columns 1 0 0 0 0
row CI3 = columns 2 0 1 0 0
row L1 = columns 3 1 0 1 0
row L3 = columns 4 1 0 1 0
row L4 = columns 5 0 1 1 0
row L6 = columns 6 0 0 1 0
row L7 = columns 7 0 0 1 1
row L8 = columns 8 0 0 1 1
row L9 = columns 9 0 0 1 0
row L10 = columns 10 0 1 1 0
row TL1 = columns 11 1 0 1 0
row GT1 = columns 12 1 0 1 0
row GT3 = columns 13 1 0 1 1
row TL3 = columns 14 1 0 1 0
row U1 = columns 15 1 0 1 0
row H2 = columns 16 1 0 1 0
row H3 = columns 17 1 1 1 0
row H5 = columns 18 1 0 1 0
row H6 = columns 19 1 0 1 0
row H8 = columns 20 1 0 1 0
row Y1 = columns 21 1 0 0 0
row Y2 = columns 22 1 0 0 0
row Y3 = columns 23 0 1 0 0
row C2 = columns 24 1 1 0 0

abbrev pub lines : List Line
lines = App ∷ CI2 ∷ CI3 ∷ L1 ∷ L3 ∷ L4 ∷ L6 ∷ L7 ∷ L8 ∷ L9 ∷ L10 ∷ TL1 ∷ GT1 ∷ GT3 ∷ TL3 ∷ U1 ∷ H2 ∷ H3 ∷ H5 ∷ H6 ∷ H8 ∷ Y1 ∷ Y2 ∷ Y3 ∷ C2 ∷ []

-- the line of a number
unfoldable pub line_of : ℕ → Line
line_of n = get_or lines n App

-- ---- tests for being the same

abbrev pub same_line : Line → Line → Bool
same_line l n = eqb (row l).number (row n).number

-- 1 where the probe may be nonzero, which is at CI2 alone
abbrev pub probes : Line → ℕ
probes l = choose (same_line l CI2) 1 0

abbrev pub same_token : Token → Token → Bool
same_token t u = eqb t.processor u.processor && eqb t.sequence u.sequence

abbrev pub same_processor : Processor → Processor → Bool
same_processor r q =
    same_line r.position q.position && eqb r.current q.current && eqb r.transit q.transit && eqb r.mutex q.mutex &&
    same_token r.observed q.observed && eqb r.sequence q.sequence && eqb r.answer q.answer && eqb r.probe q.probe

abbrev pub same_mutex : Mutex → Mutex → Bool
same_mutex x y =
    eqb x.count y.count && same_list eqb x.queue y.queue && eqb x.owner y.owner && same_token x.token y.token

abbrev pub same_life : Life → Life → Bool
same_life new new = true
same_life new live = false
same_life new terminated = false
same_life live new = false
same_life live live = true
same_life live terminated = false
same_life terminated new = false
same_life terminated live = false
same_life terminated terminated = true

unfoldable pub same_state : State → State → Bool
same_state s e =
    eqb s.P e.P && eqb s.T e.T && eqb s.M e.M && same_list (same_list eqb) s.ready e.ready &&
    same_list same_processor s.processors e.processors && same_list same_mutex s.mutexes e.mutexes &&
    same_list same_life s.lives e.lives && eqb s.applied e.applied && eqb s.stealing e.stealing
