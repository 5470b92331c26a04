-- The contracts with one case altered, from which the wrong implementations are made, and what these are tried on.
-- Assumes nothing.
use Prim.Native.Nat.{ℕ, suc}
use mathlib.Core.List.{List, [], ◌∷◌}
use mathlib.Core.Path.{◌≡◌, refl, ap}
use lib.Dec.{eqb}
use lib.ListN.{length, get_or, replicate}
use Rattle.state.specs.declared.State.{State as Record}
use Rattle.state.specs.declared.Session.{Session}
use Rattle.state.specs.Record.{chain}
use Rattle.state.specs.Association.{encode, decode, session_record}
use Rattle.state.specs.Rules.{session_ok, state_ok, zero_past, broken_rule, fields_ok, chains_ok, holders_ok, chain_ok, processor_ok, mutex_ok, thread_ok, every, no_twice}
use Rattle.reference.specs.Lists.{choose, with_front, tabulate, those, find, sum, is, same_list, each}
use Rattle.reference.specs.State.{Line, line_of, same_state, processor_at}
use Rattle.reference.specs.Start.{Config, config_cause, start}
use Rattle.reference.specs.Step.{Move, move_of, next, run, act, action_of, line, view, jump, put_back}
use Rattle.reference.specs.Cause.{cause, accepted}
use Rattle.reference.specs.Break.{step_breaks}
use Rattle.reference.specs.Touch.{touch, line_touch, act_touch}
use Rattle.reference.specs.Picture.{thread_entry, behind, picture, concat}
use Rattle.reference.specs.Script.{script_ok, scripts_ok, scripts_cause, progress, turn_move, class_moves, class_answers, class_pictures}
use Rattle.reference.specs.Session.{Opening, table, Request, move, turn, class, goto, own, other, Call, Reply, bytes, moves, replays, left, replies}
use Rattle.picture.specs.Picture.{written}
use Rattle.picture.specs.Turns.{Answer as TurnsAhead, before, turns_ahead, ahead, answer}
use Rattle.session.specs.Contract.{shown, config_of, move_answered, or_later, started, lent_refusal, standing, matches, test_refusal, move_refusal, moved, written_at, journal_after, goto_refusal, went}
use Rattle.turns.specs.Contract.{turn_made, turn_refusal, turned, turn_journal, class_refusal, classed, class_journal, answers_after, pictures_after}
use Rattle.claim.specs.Implementation.{Outcome, Pictured, Implementation, move_outcome, calls, contract}
use Rattle.claim.specs.Demand3.{Event, asked, held_after, responses, IsSession}
use Rattle.claim.proofs.Sample.{ask, long, after-moves}

-- ---- one function altered

abbrev pub with_begin : (Opening → List ℕ → Outcome) → Implementation
with_begin f = record { begin = f; call = contract.call; write = contract.write; read = contract.read; front = contract.front; ahead = contract.ahead }

abbrev pub with_calls : (Session → List ℕ → Request → Outcome) → Implementation
with_calls f = record { begin = contract.begin; call = f; write = contract.write; read = contract.read; front = contract.front; ahead = contract.ahead }

abbrev pub with_write : (Record → List ℕ → Pictured) → Implementation
with_write f = record { begin = contract.begin; call = contract.call; write = f; read = contract.read; front = contract.front; ahead = contract.ahead }

abbrev pub with_ahead : (Record → ℕ → TurnsAhead) → Implementation
with_ahead f =
    record { begin = contract.begin; call = contract.call; write = contract.write; read = contract.read; front = contract.front; ahead = f }

abbrev cases : (Move → Outcome) → (List ℕ → ℕ → Outcome) → (List ℕ → List ℕ → List ℕ → List ℕ → Outcome) → (ℕ → Outcome) → Request → Outcome
cases m t c g (move a) = m a
cases m t c g (turn x p) = t x p
cases m t c g (class x ps a b) = c x ps a b
cases m t c g (goto k) = g k

module _ (r : Session) (j : List ℕ) where
  abbrev right-move : Move → Outcome
  right-move a = calls r j (move a)

  abbrev right-turn : List ℕ → ℕ → Outcome
  right-turn x p = calls r j (turn x p)

  abbrev right-class : List ℕ → List ℕ → List ℕ → List ℕ → Outcome
  right-class x ps a b = calls r j (class x ps a b)

  abbrev right-goto : ℕ → Outcome
  right-goto k = calls r j (goto k)

abbrev pub with_move : (Session → List ℕ → Move → Outcome) → Implementation
with_move f = with_calls (λ r j. cases (f r j) (right-turn r j) (right-class r j) (right-goto r j))

abbrev pub with_turn : (Session → List ℕ → List ℕ → ℕ → Outcome) → Implementation
with_turn f = with_calls (λ r j. cases (right-move r j) (f r j) (right-class r j) (right-goto r j))

abbrev pub with_class : (Session → List ℕ → List ℕ → List ℕ → List ℕ → List ℕ → Outcome) → Implementation
with_class f = with_calls (λ r j. cases (right-move r j) (right-turn r j) (f r j) (right-goto r j))

abbrev pub with_goto : (Session → List ℕ → ℕ → Outcome) → Implementation
with_goto f = with_calls (λ r j. cases (right-move r j) (right-turn r j) (right-class r j) (f r j))

-- ---- parts of a call

-- a move whose number and journal are right; accepted, it gives the record that `f` makes of the one handed in, the move and the right one
abbrev pub with_moved : (Session → Move → Session → Session) → Implementation
with_moved f =
    with_move
    (λ r j a.
    let o : Outcome = calls r j (move a) in
    record { refusal = o.refusal; session = choose (eqb o.refusal 0) (f r a o.session) o.session; touch = o.touch; journal = o.journal; buffers = [] })

-- a move that is refused by k, made where k is 0
unfoldable pub made_unless : ℕ → Session → List ℕ → Move → Outcome
made_unless k r j a =
    move_outcome (move_answered k (session_record (next (shown r) a) r.initial (suc (shown r).applied)) r (touch (shown r) a))
    (choose (eqb k 0) (written_at (shown r).applied a j) j)

-- what a call leaves, but for the record
abbrev pub with_session : Session → Outcome → Outcome
with_session s o = record { refusal = o.refusal; session = s; touch = o.touch; journal = o.journal; buffers = o.buffers }

-- the record after a move that does no more than stand its processor at line l
abbrev pub only_jumps : Line → Session → Move → Session
only_jumps l r a =
    let p : ℕ = a.processor in
    let m : ℕ = (processor_at (shown r) p).mutex in
    session_record (put_back (shown r) p m 0 0 (jump l (view (shown r) p m))) r.initial (suc (shown r).applied)

-- a turn that makes the move `a`, where `n` is what is tried before its causes
abbrev pub turn_by : Session → List ℕ → ℕ → Move → Outcome
turn_by r j n a =
    let k : ℕ = or_later (test_refusal r j) (or_later n (move_refusal r j a)) in
    move_outcome (move_answered k (moved r j a).session r (touch (shown r) a)) (choose (eqb k 0) (journal_after r j a) j)

-- its scripts' cause
abbrev pub scripts-refusal : Session → List ℕ → ℕ
scripts-refusal r x = scripts_cause r.state.t x

-- the contracts' turn is such a one
turn-by-right : (r : Session) (j x : List ℕ) (p : ℕ) → turn_by r j (scripts-refusal r x) (turn_made r j x p) ≡ calls r j (turn x p)
unfolding turned turn_journal turn_refusal
turn-by-right r j x p = refl

-- a class that answers as it should and writes the pictures that `f` gives
abbrev pub class-by : (Config → List ℕ → List Move → List ℕ → List ℕ) → Session → List ℕ → List ℕ → List ℕ → List ℕ → List ℕ → Outcome
class-by f r j x ps a b =
    let o : Outcome = calls r j (class x ps a b) in
    record {
      refusal = o.refusal;
      session = o.session;
      touch = o.touch;
      journal = o.journal;
      buffers = answers_after r j x ps a b ∷ choose (eqb o.refusal 0) (with_front b (f (config_of r) x (standing r j) ps)) b ∷ [];
    }

-- the contracts' class is such a one
class-by-right : (r : Session) (j x ps a b : List ℕ) → class-by class_pictures r j x ps a b ≡ calls r j (class x ps a b)
unfolding classed pictures_after
class-by-right r j x ps a b = refl

-- ---- what they are tried on

-- one processor, thread and mutex
abbrev pub one : Config
one = record { P = 1; T = 1; M = 1; B = 1; stealing = 0 }

abbrev pub alone : Opening
alone = table one

-- the record after moves from a start
abbrev pub after-start : Config → List Move → Session
after-start c ms = session_record (run (start c) ms) c.B (length ms)

abbrev pub lock-move : Move
lock-move = move_of 1 1 1

abbrev pub locks : Event
locks = ask (move lock-move)

-- lent the session's journal, or one whose first move is no move
abbrev pub with_own : Request → Call
with_own q = record { request = q; lent = own }

unfoldable pub unrelated : List ℕ
unrelated = replicate 12000 9

abbrev pub with_unrelated : Request → Call
with_unrelated q = record { request = q; lent = other unrelated }

-- what two answers that are the same have the same: the number, and each byte of each buffer
pub number : {a b : Reply} → a ≡ b → a.refusal ≡ b.refusal
number e = ap (λ (r : Reply). r.refusal) e

abbrev byte_of : ℕ → ℕ → Reply → ℕ
byte_of i k r = get_or (get_or r.buffers i []) k 0

pub byte : (i k : ℕ) {a b : Reply} → a ≡ b → byte_of i k a ≡ byte_of i k b
byte i k e = ap (byte_of i k) e

-- what the refutations compute with: to unfold this is to unfold all that its line names
unfoldable pub computing : Unit {0}
unfolding before turns_ahead ahead answer long unrelated responses asked held_after left replies IsSession config_cause started start tabulate those encode decode chain run next act line line_touch act_touch line_of cause action_of lent_refusal matches test_refusal after-moves replays move_refusal moved journal_after goto_refusal went step_breaks written_at bytes session_ok state_ok broken_rule fields_ok processor_ok mutex_ok thread_ok chains_ok chain_ok holders_ok zero_past each every no_twice find sum is thread_entry behind accepted moves same_state same_list script_ok scripts_ok progress turn_move turn_refusal turned turn_journal class_moves class_answers class_pictures class_refusal classed class_journal answers_after pictures_after written picture concat
computing = tt
