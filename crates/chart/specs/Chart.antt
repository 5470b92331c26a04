-- The chart of a session: a column for each processor, a row for each move that stands, with the line that it executed or the call that it made, and what it
-- did to owner, token and queues.
-- Assumes nothing.
use Rattle.std.specs.Prelude.{ℕ, ◌+◌, ◌-◌, ◌*◌, Bool, not, ◌&&◌, ◌||◌, cond, List, [], ◌∷◌, ◌++◌, eqb}
use Rattle.command.specs.Command.{field}
use Rattle.command.specs.Printing.{text, decimal, wide, spaces, padded, line_feed}
use Rattle.view.specs.Words.{line_name, action_word, or_dash, token_text, rows}
use Rattle.state.specs.declared.Thread.{Thread}
use Rattle.state.specs.declared.Token.{Token}
use Rattle.state.specs.declared.Mutex.{Mutex}
use Rattle.state.specs.declared.State.{State}
use Rattle.state.specs.declared.Session.{Session}
use Rattle.state.specs.Record.{thread_of, processor_of, mutex_of}
use Rattle.state.specs.Association.{encode}
use Rattle.reference.specs.Lists.{choose, if_zero, in_range}
use Rattle.reference.specs.State as reference
use Rattle.reference.specs.Start.{start}
use Rattle.reference.specs.Step.{Move, next}
use Rattle.session.specs.Contract.{config_of, standing, test_refusal}

-- ---- a row: the move, the state before it, r, and after it, s

-- a go's line, or the call with its operand
unfoldable pub deed : State → Move → List ℕ
deed r a =
    if_zero a.action (line_name (processor_of r a.processor).position) (action_word a.action ++ if_zero a.operand [] (field a.operand))

-- spaces up to the column of processor p, of so many
abbrev pub columns_before : ℕ → ℕ → List ℕ
columns_before count p = spaces (choose (in_range 1 count p) (11 * (p - 1)) 0)

-- what stands before the changes, in a chart of so many columns
unfoldable pub made : ℕ → State → Move → State → List ℕ
made count r a s = padded 6 (wide s.applied) ++ columns_before count a.processor ++ deed r a

-- a row with a change behind it, if there is one; changes begin behind the last processor's column
unfoldable pub noted : Bool → ℕ → List ℕ → List ℕ → List ℕ
noted there count row change = cond there (padded (4 + 11 * count) row ++ change) row

-- the owner and the token of mutex m, which is y now
unfoldable pub owner_change : ℕ → Mutex → List ℕ
owner_change m y = text "  owner " ++ decimal m ++ text ": " ++ or_dash y.owner

unfoldable pub token_change : ℕ → Mutex → List ℕ
token_change m y = text "  token " ++ decimal m ++ text ": " ++ token_text y.token

abbrev pub same_token : Token → Token → Bool
same_token t u = eqb t.processor u.processor && eqb t.sequence u.sequence

-- a thread that is in a queue, and which: of a mutex, the single ready one, or that of a processor
abbrev pub queued : Thread → Bool
queued t = eqb t.status 1 || eqb t.status 2

unfoldable pub queue_name : Thread → List ℕ
queue_name t = choose (eqb t.status 2) (text "  queue" ++ field t.holder) (text "  ready" ++ if_zero t.holder [] (field t.holder))

-- thread k joined it or left it, by the sign
unfoldable pub queue_change : List ℕ → Thread → ℕ → List ℕ
queue_change sign t k = queue_name t ++ sign ++ decimal k

-- a row shows the mutex in its processor's register, as the owner or token of no other changes; the thread that was in the transit register, as no other joins a
-- queue; and the one that is there after the move, as no other leaves one (Complete.antt)
module _ (r : State) (a : Move) (s : State) where
  abbrev pub mutex : ℕ
  mutex = (processor_of r a.processor).mutex

  abbrev pub carried : ℕ
  carried = (processor_of r a.processor).transit

  abbrev pub taken : ℕ
  taken = (processor_of s a.processor).transit

  module _ (count : ℕ) where
    unfoldable pub with_owner : List ℕ
    with_owner = noted (not (eqb (mutex_of r mutex).owner (mutex_of s mutex).owner)) count (made count r a s) (owner_change mutex (mutex_of s mutex))

    unfoldable pub with_token : List ℕ
    with_token = noted (not (same_token (mutex_of r mutex).token (mutex_of s mutex).token)) count with_owner (token_change mutex (mutex_of s mutex))

    unfoldable pub with_joined : List ℕ
    with_joined = noted (queued (thread_of s carried)) count with_token (queue_change (text ": +") (thread_of s carried) carried)

    unfoldable pub with_departed : List ℕ
    with_departed = noted (queued (thread_of r taken)) count with_joined (queue_change (text ": -") (thread_of r taken) taken)

    unfoldable pub row : List ℕ
    row = with_departed ++ line_feed

-- ---- the chart

-- the moves, made one after the other from a state of the reference machine
unfoldable pub moves_chart : ℕ → reference.State → List Move → List ℕ
moves_chart count s [] = []
moves_chart count s (a ∷ ms) = row (encode s) a (encode (next s a)) count ++ moves_chart count (next s a) ms

-- the number of a processor above its column
abbrev pub column_head : ℕ → List ℕ
column_head p = padded 11 (decimal p)

unfoldable pub heading : ℕ → List ℕ
heading count = padded 6 (text "move") ++ rows column_head 1 count ++ text "changes\n"

-- ended by an empty line; refused by 10, 15, 16 as the journal's test
unfoldable pub chart_text : Session → List ℕ → List ℕ
chart_text r j =
    if_zero (test_refusal r j)
    (heading r.state.p ++ moves_chart r.state.p (start (config_of r)) (standing r j) ++ line_feed)
    (decimal (test_refusal r j) ++ line_feed)
