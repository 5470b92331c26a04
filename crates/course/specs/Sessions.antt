-- Whatever lines the program `course` reads, the session that it holds is one of demand 3 (Demand3 of claim/specs), so that its laws hold and its answers are
-- the reference session's. `Sessions` is the statement; proofs/Sessions.antt proves it.
-- Assumes nothing.
use Rattle.std.specs.Prelude.{ℕ, ◌*◌, ◌≤◌, true, List, [], ◌∷◌, ◌++◌, ◌⊎◌, ◌≡◌, eqb, ltb, length, take}
use Rattle.command.specs.Printing.{hundredths, hex, line_feed}
use Rattle.command.specs.Transcript.{Run}
use Rattle.command.specs.Request.{plain, turn, turns, view, mark_own}
use Rattle.command.specs.Model.Request.{ask_of}
use Rattle.command.specs.declared.Command.TheVariants.{Move, Goto, Show}
use Rattle.state.specs.Association.{encode, session_record}
use Rattle.reference.specs.Refusal.{no_step, bad_length, still_owner, refuse}
use Rattle.reference.specs.Lists.{choose}
use Rattle.reference.specs.State.{State}
use Rattle.reference.specs.Start.{Config, config_cause, start}
use Rattle.reference.specs.Step as step
use Rattle.reference.specs.Cause.{cause, accepted}
use Rattle.reference.specs.Safe.{Safe}
use Rattle.reference.specs.Picture.{picture}
use Rattle.reference.specs.Touch.{touch, last_touch}
use Rattle.reference.specs.Script.{turned, turn_cause}
use Rattle.reference.specs.Session as session
use Rattle.reference.specs.Session.{Request, own, bytes, picture_size, Listed, standing, state_in, answer}
use Rattle.mark.specs.Mark.{mark}
use Rattle.view.specs.Table.{table}
use Rattle.claim.specs.Implementation.{contract}
use Rattle.claim.specs.Demand3.{Event, Held, reply, gives, IsSession, opening, held_at_end}
use Rattle.shell.specs.Answers.{number}
use Rattle.course.specs.Answers.{move_text, class_lines}
use Rattle.course.specs.Program.{Context, started_with, response, course}

-- what the program holds after lines, one after the other
unfoldable pub after_lines : Context → List (List ℕ) → Context
after_lines k [] = k
after_lines k (l ∷ ls) = after_lines (course.after l k) ls

-- the session and the journal, as demand 3 has them
abbrev pub held_by : Context → Held
held_by k = record { session = k.base.session; journal = k.base.journal }

-- a start table that is accepted, the journal's bytes at that time, and the events of a session from there that lead to what is held
pub record InSession (h : Held) : Type 0 where
  pub config : Config
  pub first : List ℕ
  pub events : List Event
  pub begins : (contract.begin (session.table config) first).refusal ≡ 0
  pub is_session : IsSession contract (opening contract (session.table config) first) events
  pub leads : held_at_end contract (session.table config) first events ≡ h

-- what lines are answered where the moves of `l` are kept and its first stand
pub record Answers (k : Context) (c : Config) (l : Listed) : Type 0 where
  pub to_move : (p a o : ℕ) → let x = step.move_of p a o in response k (plain (Move p a o)) ≡ move_text (cause (state_in c l) x) (touch (state_in c l) x)
  -- refused only where the step is not kept
  pub to_goto : (i : ℕ) → response k (plain (Goto i)) ≡ number (refuse (ltb (length l.kept) i) no_step 0)
  pub to_show : response k (plain Show) ≡ hex (picture (state_in c l)) ++ line_feed
  pub to_turn : (p : ℕ) → response k (turn p) ≡ move_text (turn_cause c k.scripts (standing l) p) (touch (state_in c l) (turned c k.scripts (standing l) p))
  pub to_turns : (i ps : List ℕ) → ask_of i ≡ turns ps → response k (turns ps) ≡ class_lines c k.scripts (standing l) ps
  -- the words that the last standing move touched are marked
  pub to_view : response k view ≡ table (encode (state_in c l)) (last_touch (start c) (standing l))
  -- a candidate's picture against that of the standing moves' state; no refusal but that of its length
  pub to_mark : (b : List ℕ) → response k (mark_own b) ≡
      choose (eqb (length b) (picture_size c)) (hundredths (mark (picture (state_in c l)) b) ++ line_feed) (number bad_length)

-- what is held is that of a start table and a list of moves, each of them accepted, the first of which stand; `n` and `m` are the lengths of the journal and of
-- the scripts at first
pub record Lawful (n m : ℕ) (k : Context) : Type 0 where
  pub config : Config
  pub listed : Listed
  pub right : config_cause config ≡ 0
  pub within : listed.n ≤ length listed.kept
  pub legal : accepted (start config) listed.kept ≡ true
  -- the record shows the standing moves' state and how many are kept, the journal begins with these, and the lengths stay;
  pub state : k.base.session ≡ session_record (state_in config listed) config.B (length listed.kept)
  pub whole : take (3 * length listed.kept) k.base.journal ≡ bytes listed.kept
  pub size : length k.base.journal ≡ n
  pub room : length k.scripts ≡ m
  -- the laws hold;
  pub safe : Safe config (standing listed)
  -- a move, a turn, a class or a goto is answered as in the reference session,
  pub replies : (q : Request) → reply (gives contract (held_by k) (record { request = q; lent = own })) ≡ answer config n listed (record { request = q; lent = own })
  -- and with room for 4,000 moves and 32 scripts by its cause alone
  pub answers : 12000 ≤ n → m ≡ 416 → Answers k config listed

-- whatever is in the journal and the scripts at first, and whatever lines come, once a start has been accepted:
pub record Sessions : Type 0 where
  pub held : (j x : List ℕ) (ls : List (List ℕ)) → (after_lines (started_with j x) ls).base.begun ≡ true → InSession (held_by (after_lines (started_with j x) ls))
  pub lawful : (j x : List ℕ) (ls : List (List ℕ)) → (after_lines (started_with j x) ls).base.begun ≡ true → Lawful (length j) (length x) (after_lines (started_with j x) ls)
  -- so it is after any run
  pub runs : (j x : List ℕ) (u : Run course (started_with j x)) → u.context.base.begun ≡ true → InSession (held_by u.context) × Lawful (length j) (length x) u.context
  -- a cause is at most 8 or it is 21, so that none of the numbers in `Answers` is 10, 15, 16 or 19
  pub causes : (s : State) (a : step.Move) → (cause s a ≤ 8) ⊎ (cause s a ≡ still_owner)
