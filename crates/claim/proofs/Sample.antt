-- A session that demand 3 speaks of: accepted and refused moves, turns, classes and goings, other journals, and calls of other kinds.
-- Assumes nothing.
use Prim.Native.Nat.{ℕ, suc}
use mathlib.Core.List.{List, [], ◌∷◌, ◌++◌}
use mathlib.Core.Path.{◌≡◌, refl, sym, ap, ◌∙◌, subst}
use native.Mathlib.Omega.{arith}
use lib.ListN.{length, get_or, replicate, length-replicate}
use Rattle.state.specs.Record.{zero_state}
use Rattle.state.specs.Rules.{broken_rule, fields_ok, state_ok}
use Rattle.reference.specs.Lists.{tabulate, those, same_list, each}
use Rattle.reference.specs.State.{same_state}
use Rattle.reference.specs.Start.{Config, config_cause, start}
use Rattle.reference.specs.Step.{Move, move_of, next, run, act, action_of, line}
use Rattle.reference.specs.Cause.{cause, accepted}
use Rattle.reference.specs.Script.{script_ok, scripts_ok, progress, turn_move, class_moves, class_answers}
use Rattle.reference.specs.Touch.{nothing}
use Rattle.reference.specs.Session.{Opening, scripted, Request, move, turn, class, goto, own, other, Reply, bytes, moves, all_standing, replays, replies}
use Rattle.turns.specs.Contract as turns
use Rattle.claim.specs.Implementation.{contract}
use Rattle.claim.specs.Demand3.{Event, asks, writes, passes, asked, responses, IsSession, opening, Agrees}
use Rattle.claim.proofs.Demand3.{demand3}
use Rattle.claim.proofs.Fits.{Fits, is_session}

-- a request lent the session's own journal, or another
abbrev pub ask : Request → Event
ask q = asks (record { request = q; lent = own })

abbrev pub ask_with : List ℕ → Request → Event
ask_with o q = asks (record { request = q; lent = other o })

-- two processors with a thread each, one mutex
abbrev pub two : Config
two = record { P = 2; T = 2; M = 1; B = 2; stealing = 0 }

-- thread 1 locks and unlocks mutex 1, thread 2 unlocks it
abbrev pub scripts : List ℕ
scripts = 2 ∷ 1 ∷ 1 ∷ 3 ∷ 1 ∷ replicate 8 0 ++ 1 ∷ 3 ∷ 1 ∷ replicate 10 0

-- thread 2 yields before it unlocks
abbrev yield-first : List ℕ
yield-first = 2 ∷ 1 ∷ 1 ∷ 3 ∷ 1 ∷ replicate 8 0 ++ 2 ∷ 4 ∷ 0 ∷ 3 ∷ 1 ∷ replicate 8 0

-- thread 1 has 7 calls; thread 2 an action 7
abbrev too_many : List ℕ
too_many = 7 ∷ replicate 12 1 ++ replicate 13 0

abbrev no_action : List ℕ
no_action = replicate 13 0 ++ 1 ∷ 7 ∷ replicate 11 0

-- a journal that is long enough
unfoldable pub long : List ℕ
long = replicate 12000 0

long-length : length long ≡ 12000
unfolding long
long-length = length-replicate {A = ℕ} 12000 0

-- journals that begin with some moves, then with what is no move
unfoldable pub after-moves : List Move → List ℕ
after-moves ms = bytes ms ++ replicate 12000 9

-- of other moves than the sample's, and of its first two with another one kept behind them
abbrev mismatched : List ℕ
mismatched = after-moves []

abbrev replaying : List ℕ
replaying = after-moves (move_of 1 1 1 ∷ move_of 1 0 0 ∷ move_of 2 4 0 ∷ [])

-- three turns, with buffers of n and m bytes; 3 and 144 are needed
abbrev three : List ℕ → ℕ → ℕ → Request
three x n m = class x (1 ∷ 2 ∷ 1 ∷ []) (replicate n 99) (replicate m 99)

abbrev pub sample : List Event
sample =
    -- 0: a lock
    ask (move (move_of 1 1 1)) ∷
    -- 0: a turn elsewhere than at App is a go; thread 1 owns the mutex
    ask (turn scripts 1) ∷
    -- 6, 6: a refused turn, and tried again; 0: its script has stayed at the first call, so with other scripts it yields
    ask (turn scripts 2) ∷ ask (turn scripts 2) ∷ ask (turn yield-first 2) ∷
    -- 0: back by one; 0: thread 1's second call, since its first was made as a move; 9: the move that was gone back over is kept no more; 0: back by one
    ask (goto 2) ∷ ask (turn scripts 1) ∷ ask (goto 4) ∷ ask (goto 2) ∷
    -- 0, 6: to the start and forward again, and there thread 2 is still at its first call, which is refused and drops nothing; 0: to the last move kept, and back
    ask (goto 0) ∷ ask (goto 2) ∷ ask (turn scripts 2) ∷ ask (goto 3) ∷ ask (goto 2) ∷
    -- 2: a refused move
    ask (move (move_of 9 0 0)) ∷
    -- 16, 9: a journal of other moves, and a step that is not kept; 16, 16, 16: also where scripts and processor are wrong too; 10, 10: one that is short
    ask_with mismatched (goto 1) ∷ ask_with mismatched (goto 4) ∷
    ask_with mismatched (move (move_of 1 3 1)) ∷ ask_with mismatched (turn [] 9) ∷ ask_with mismatched (three scripts 5 200) ∷
    ask_with [] (move (move_of 1 3 1)) ∷ ask_with [] (three [] 0 0) ∷
    -- 6, 19, 10: another journal that replays
    ask_with replaying (turn scripts 2) ∷ ask_with replaying (three [] 3 144) ∷ ask_with replaying (three scripts 3 143) ∷
    -- calls of other kinds: one, and a picture of the all-zero state over the journal, refused
    passes ∷ writes zero_state ∷
    -- 19, 19, 19: scripts that are short or not in order
    ask (turn [] 1) ∷ ask (turn too_many 9) ∷ ask (three no_action 3 144) ∷
    -- 10, 10: a class refused as a whole, since a buffer is short
    ask (three scripts 2 144) ∷ ask (three scripts 3 143) ∷
    -- 0: the class in longer buffers. It unlocks: one of its turns is refused, two moves are made.
    ask (three scripts 5 200) ∷
    -- 0, 0: a class with no accepted turn drops nothing; 0, 9
    ask (goto 1) ∷ ask (class scripts (9 ∷ []) (99 ∷ []) (replicate 48 99)) ∷ ask (goto 4) ∷ ask (goto 5) ∷ []

-- the numbers of the replies
unfoldable pub numbers_of : List Reply → List ℕ
numbers_of [] = []
numbers_of (r ∷ rest) = r.refusal ∷ numbers_of rest

-- the buffer for answers, as call i of the list leaves it
abbrev pub answers_buffer : ℕ → List Reply → List ℕ
answers_buffer i l = get_or (get_or l i (record { refusal = 0; touch = nothing; buffers = [] })).buffers 0 []

abbrev pub numbers : List ℕ
numbers =
    0 ∷ 0 ∷ 6 ∷ 6 ∷ 0 ∷ 0 ∷ 0 ∷ 9 ∷ 0 ∷ 0 ∷ 0 ∷ 6 ∷ 0 ∷ 0 ∷ 2 ∷ 16 ∷ 9 ∷ 16 ∷ 16 ∷ 16 ∷ 10 ∷ 10 ∷ 6 ∷ 19 ∷ 10 ∷ 19 ∷ 19 ∷ 19 ∷ 10 ∷ 10 ∷ 0 ∷ 0 ∷ 0 ∷ 0 ∷ 9 ∷ []

-- what the sample computes with: to unfold this is to unfold all that its line names
computing : Unit {0}
unfolding zero_state state_ok broken_rule fields_ok after-moves bytes asked replies numbers_of Fits config_cause start tabulate those run next act line cause action_of replays accepted moves same_state same_list each script_ok scripts_ok progress turn_move class_moves class_answers
computing = tt

sample_answers : numbers_of (replies two 12000 (all_standing []) (asked sample)) ≡ numbers
unfolding computing
sample_answers = refl

sample_buffers : (answers_buffer 30 (replies two 12000 (all_standing []) (asked sample)) ≡ 0 ∷ 6 ∷ 0 ∷ 99 ∷ 99 ∷ []) ×
    (answers_buffer 28 (replies two 12000 (all_standing []) (asked sample)) ≡ 99 ∷ 99 ∷ [])
unfolding computing
sample_buffers = (refl, refl)

-- a scripted start begins it
abbrev pub begins : Opening
begins = scripted two scripts

begins-accepted : (contract.begin begins long).refusal ≡ 0
unfolding computing turns.scripted
begins-accepted = refl

refused : (n : ℕ) → suc n ≡ 0 → ⊥
refused n e = omega arith

sample_fits : Fits two 12000 (all_standing []) sample
unfolding computing
sample_fits =
    (tt, (tt, (tt, (tt, (tt, (tt, (tt, (tt, (tt, (tt, (tt, (tt, (tt, (tt, (tt, (refused 15, (refused 8, (refused 15, (refused 15, (refused 15, (refused 9, (refused 9, (refused 5, (refused 18, (refused 9, (refused 14, (tt, (tt, (tt, (tt, (tt, (tt, (tt, (tt, (tt, (tt, tt))))))))))))))))))))))))))))))))))))

-- it is a session of the contracts, and its calls are answered so
pub sample_belongs : IsSession contract (opening contract begins long) sample
sample_belongs = is_session begins long begins-accepted sample (subst (λ (n : ℕ). Fits two n (all_standing []) sample) (sym long-length) sample_fits)

pub sample_agrees : Agrees contract begins long sample
sample_agrees = demand3.sessions begins long begins-accepted sample sample_belongs

responses_are : responses contract (opening contract begins long) sample ≡ replies two 12000 (all_standing []) (asked sample)
responses_are = sample_agrees.answered ∙ ap (λ (n : ℕ). replies two n (all_standing []) (asked sample)) long-length

pub sample_responses : numbers_of (responses contract (opening contract begins long) sample) ≡ numbers
sample_responses = ap numbers_of responses_are ∙ sample_answers

-- the accepted class has put its turns' answers in front of the buffer's later bytes; one that is refused as a whole leaves the buffer
pub sample_filled : answers_buffer 30 (responses contract (opening contract begins long) sample) ≡ 0 ∷ 6 ∷ 0 ∷ 99 ∷ 99 ∷ []
sample_filled = ap (answers_buffer 30) responses_are ∙ sample_buffers.0

pub sample_kept : answers_buffer 28 (responses contract (opening contract begins long) sample) ≡ 99 ∷ 99 ∷ []
sample_kept = ap (answers_buffer 28) responses_are ∙ sample_buffers.1
