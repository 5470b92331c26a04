-- The table of a state: a row for each processor, mutex, ready queue and status. A mark stands behind each word that a move touched.
-- Assumes nothing.
use Rattle.std.specs.Prelude.{ℕ, ◌+◌, cond, List, [], ◌++◌, eqb}
use Rattle.command.specs.Command.{field}
use Rattle.command.specs.Printing.{text, decimal, wide, padded, line_feed}
use Rattle.state.specs.declared.Thread.{Thread}
use Rattle.state.specs.declared.Processor.{Processor}
use Rattle.state.specs.declared.Mutex.{Mutex}
use Rattle.state.specs.declared.State.{State}
use Rattle.state.specs.Record.{thread_of, processor_of, mutex_of}
use Rattle.state.specs.Association.{queue_shown}
use Rattle.state.specs.Rules.{state_ok}
use Rattle.reference.specs.Refusal.{bad_record}
use Rattle.reference.specs.Lists.{if_zero}
use Rattle.reference.specs.Touch.{Touch, count, token, queue, ready, birth}
use Rattle.view.specs.Words.{line_name, answer_word, status_word, or_dash, token_text, mark, or_none, listed, rows}

-- ---- processors

abbrev pub processors_heading : List ℕ
processors_heading = text "processor  line  current  transit  mutex  observed  sequence  answer  probe\n"

unfoldable pub processor_row : ℕ → Processor → List ℕ
processor_row p x =
    padded 11 (decimal p) ++ padded 6 (line_name x.position) ++ padded 9 (or_dash x.current) ++ padded 9 (or_dash x.transit) ++
    padded 7 (or_dash x.mutex) ++ padded 10 (token_text x.observed) ++ padded 10 (wide x.sequence) ++ padded 8 (answer_word x.answer) ++
    decimal x.probe ++ line_feed

-- ---- mutexes, each with its queue

abbrev pub mutexes_heading : List ℕ
mutexes_heading = text "mutex  count  owner  token       queue\n"

unfoldable pub mutex_row : Touch → ℕ → Mutex → List ℕ → List ℕ
mutex_row t m x threads =
    padded 7 (decimal m) ++ padded 7 (decimal x.count ++ mark t (count m)) ++ padded 7 (or_dash x.owner) ++
    padded 11 (token_text x.token ++ mark t (token m)) ++ listed threads ++ mark t (queue m) ++ line_feed

-- ---- ready queues: the single one, or one for each processor

abbrev pub ready_heading : List ℕ
ready_heading = text "ready queue  threads\n"

-- the ready queue of number q, under a name
unfoldable pub ready_row : Touch → ℕ → List ℕ → List ℕ → List ℕ
ready_row t q name threads = padded 12 name ++ listed threads ++ mark t (ready q) ++ line_feed

unfoldable pub ready_rows : State → Touch → List ℕ
ready_rows r t =
    if_zero r.stealing (ready_row t 1 (text "single") (queue_shown r 0)) (rows (λ p. ready_row t p (decimal p) (queue_shown r (8 + p))) 1 r.p)

-- ---- threads by status

abbrev pub statuses_heading : List ℕ
statuses_heading = text "status      threads\n"

-- thread k where it has the status, with the mark of its birth
unfoldable pub having : Touch → ℕ → ℕ → Thread → List ℕ
having t status k x = cond (eqb x.status status) (field k ++ mark t (birth k)) []

unfoldable pub status_row : State → Touch → ℕ → List ℕ
status_row r t status = padded 11 (status_word status) ++ or_none (rows (λ k. having t status k (thread_of r k)) 1 r.t) ++ line_feed

-- ---- the table, ended by an empty line

unfoldable pub table : State → Touch → List ℕ
table r t =
    text "moves " ++ wide r.applied ++ line_feed ++
    processors_heading ++ rows (λ p. processor_row p (processor_of r p)) 1 r.p ++
    mutexes_heading ++ rows (λ m. mutex_row t m (mutex_of r m) (queue_shown r m)) 1 r.m ++
    ready_heading ++ ready_rows r t ++
    statuses_heading ++ rows (status_row r t) 0 6 ++ line_feed

-- of a record that breaks a rule, 15
unfoldable pub view_text : State → Touch → List ℕ
view_text r t = cond (state_ok r) (table r t) (decimal bad_record ++ line_feed)
