-- The reference session (document 01: plain session): what each call of a session must answer, worked out from the opening, the length of the session's journal
-- and the requests alone, with the bytes of a journal only where that is another one. Neither the code's record nor its answers come in.
-- Assumes nothing.
use Rattle.std.specs.Prelude.{ℕ, zero, suc, ◌*◌, Bool, false, ◌&&◌, ◌||◌, not, List, [], ◌∷◌, ◌++◌, ltb, eqb, length, get_or, take, drop}
use Rattle.reference.specs.Refusal.{too_short, no_step, bad_journal, bad_script, refuse}
use Rattle.reference.specs.Lists.{choose, if_zero, with_front}
use Rattle.reference.specs.State.{State, same_state}
use Rattle.reference.specs.Start.{Config, config_cause, start}
use Rattle.reference.specs.Step.{Move, move_of, run}
use Rattle.reference.specs.Cause.{cause, accepted}
use Rattle.reference.specs.Touch.{Touch, nothing, touch}
use Rattle.reference.specs.Picture.{picture_bytes}
use Rattle.reference.specs.Script.{scripts_ok, scripts_cause, progress, turn_move, class_moves, class_answers, class_pictures}

-- ---- the journal: three bytes a move

-- the bytes of a list of moves, in order
unfoldable pub bytes : List Move → List ℕ
bytes [] = []
bytes (a ∷ rest) = a.processor ∷ a.action ∷ a.operand ∷ bytes rest

-- the first n moves of a journal
unfoldable pub moves : ℕ → List ℕ → List Move
moves zero j = []
moves (suc n) j = move_of (get_or j 0 0) (get_or j 1 0) (get_or j 2 0) ∷ moves n (drop 3 j)

-- ---- what begins a session

-- a start, without scripts or with them
pub data Opening : Type 0 where
  table : Config → Opening
  scripted : Config → List ℕ → Opening

-- its refusal, its configuration, and the moves that are kept at first, which all stand
pub record Opened : Type 0 where
  pub refusal : ℕ
  pub config : Config
  pub listed : List Move

-- the configuration is tried before the scripts
abbrev pub opened : Opening → Opened
opened (table c) = record { refusal = config_cause c; config = c; listed = [] }
opened (scripted c x) = record { refusal = if_zero (config_cause c) (scripts_cause c.T x) (config_cause c); config = c; listed = [] }

-- ---- what is asked, and with which journal

-- turn: the scripts and a processor. class: the scripts, the processors whose turns it is, the buffers for answers and for pictures. goto: the step to go to.
pub data Request : Type 0 where
  move : Move → Request
  turn : List ℕ → ℕ → Request
  class : List ℕ → List ℕ → List ℕ → List ℕ → Request
  goto : ℕ → Request

-- the session's own journal, or another with its bytes
pub data Lent : Type 0 where
  own : Lent
  other : List ℕ → Lent

pub record Call : Type 0 where
  pub request : Request
  pub lent : Lent

-- a call's answer: its refusal, the words that it touched, and what is then in the further buffers lent to it
pub record Reply : Type 0 where
  pub refusal : ℕ
  pub touch : Touch
  pub buffers : List (List ℕ)

-- the further buffers, as they were lent
abbrev pub buffers_of : Request → List (List ℕ)
buffers_of (move a) = []
buffers_of (turn x p) = []
buffers_of (class x ps answers pictures) = answers ∷ pictures ∷ []
buffers_of (goto k) = []

-- a journal has to hold 4,000 moves
abbrev pub short : ℕ → Bool
short n = ltb n 12000

-- the length of a picture
abbrev pub picture_size : Config → ℕ
picture_size c = picture_bytes c.P c.T c.M

-- the buffers have no room for the answers and the pictures of n turns
abbrev pub lacks_room : Config → ℕ → List ℕ → List ℕ → Bool
lacks_room c n answers pictures = ltb (length answers) n || ltb (length pictures) (n * picture_size c)

-- made from s, a journal's first k moves are all accepted and its first n lead to e
unfoldable pub replays : State → ℕ → ℕ → List ℕ → State → Bool
replays s k n j e = accepted s (moves k j) && same_state (run s (moves n j)) e

-- ---- what is held (document 02, No. 10): the kept moves, and how many of them stand

pub record Listed : Type 0 where
  pub kept : List Move
  pub n : ℕ

abbrev pub standing : Listed → List Move
standing l = take l.n l.kept

-- all of a list stand
abbrev pub all_standing : List Move → Listed
all_standing ms = record { kept = ms; n = length ms }

-- ---- the calls: `c` the configuration, `size` the length of the session's journal, `l` what is held

-- a state, by replay from the start
abbrev pub state_of : Config → List Move → State
state_of c ms = run (start c) ms

abbrev pub state_in : Config → Listed → State
state_in c l = state_of c (standing l)

abbrev pub lent_length : ℕ → Lent → ℕ
lent_length size own = size
lent_length size (other j) = length j

-- the standing moves in the journal that is lent
abbrev pub standing_in : Listed → Lent → List Move
standing_in l own = standing l
standing_in l (other j) = moves l.n j

-- another journal's kept moves have to be accepted and its standing ones lead to the same state; the session's own are and do
abbrev pub mismatched : Config → Listed → Lent → Bool
mismatched c l own = false
mismatched c l (other j) = not (replays (start c) (length l.kept) l.n j (state_in c l))

-- the move of a turn: the thread's progress is read from the journal that is lent
abbrev pub turn_with : Config → Listed → Lent → List ℕ → ℕ → Move
turn_with c l j x p = turn_move (state_in c l) (progress (start c) (standing_in l j)) x p

-- an accepted move drops what is kept beyond the standing moves, then joins them
abbrev pub joined : Listed → Move → Listed
joined l a = all_standing (standing l ++ a ∷ [])

-- a class that makes the standing moves `ms` of those that stood: one that makes none changes nothing
abbrev pub grown : Listed → List Move → Listed
grown l ms = choose (eqb (length ms) l.n) l (all_standing ms)

-- what is held after an accepted request: a turn counts as its move; going leaves the kept moves
abbrev pub accept : Config → Listed → Request → Lent → Listed
accept c l (move a) j = joined l a
accept c l (turn x p) j = joined l (turn_with c l j x p)
accept c l (class x ps answers pictures) j = grown l (class_moves c x (standing_in l j) ps)
accept c l (goto k) j = record { kept = l.kept; n = k }

-- the further buffers after an accepted request
abbrev pub fills : Config → Listed → Request → Lent → List (List ℕ)
fills c l (move a) j = []
fills c l (turn x p) j = []
fills c l (class x ps answers pictures) j =
    with_front answers (class_answers c x (standing_in l j) ps) ∷ with_front pictures (class_pictures c x (standing_in l j) ps) ∷ []
fills c l (goto k) j = []

-- what an accepted move touches (document 02, No. 4), and a turn by its move; the other requests say none
abbrev pub touches : Config → Listed → Request → Lent → Touch
touches c l (move a) j = touch (state_in c l) a
touches c l (turn x p) j = touch (state_in c l) (turn_with c l j x p)
touches c l (class x ps answers pictures) j = nothing
touches c l (goto k) j = nothing

module _ (c : Config) (size : ℕ) where
  -- the first cause in the request's order, else 0; no session meets 15
  abbrev pub answer_to : Listed → Request → Lent → ℕ
  answer_to l (move a) j =
      refuse (short (lent_length size j)) too_short
      (refuse (mismatched c l j) bad_journal
      (cause (state_in c l) a))
  answer_to l (turn x p) j =
      refuse (short (lent_length size j)) too_short
      (refuse (mismatched c l j) bad_journal
      (refuse (not (scripts_ok c.T x)) bad_script
      (cause (state_in c l) (turn_with c l j x p))))
  answer_to l (class x ps answers pictures) j =
      refuse (short (lent_length size j)) too_short
      (refuse (lacks_room c (length ps) answers pictures) too_short
      (refuse (mismatched c l j) bad_journal (scripts_cause c.T x)))
  answer_to l (goto k) j =
      refuse (short (lent_length size j)) too_short
      (refuse (ltb (length l.kept) k) no_step
      (refuse (mismatched c l j) bad_journal 0))

  -- a refused call touches nothing and leaves the further buffers as they were
  abbrev pub reply_to : Listed → Request → Lent → Reply
  reply_to l q j =
      let accepts : Bool = eqb (answer_to l q j) 0 in
      record { refusal = answer_to l q j; touch = choose accepts (touches c l q j) nothing; buffers = choose accepts (fills c l q j) (buffers_of q) }

  abbrev pub answer : Listed → Call → Reply
  answer l k = reply_to l k.request k.lent

  -- a refused call changes nothing
  abbrev pub after : Listed → Call → Listed
  after l k = choose (eqb (answer l k).refusal 0) (accept c l k.request k.lent) l

  -- after a list of calls: what is held, and each call's answer
  unfoldable pub left : Listed → List Call → Listed
  left l [] = l
  left l (k ∷ rest) = left (after l k) rest

  unfoldable pub replies : Listed → List Call → List Reply
  replies l [] = []
  replies l (k ∷ rest) = answer l k ∷ replies (after l k) rest
