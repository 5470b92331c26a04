-- Document 02's printed example: 2 processors, 1 mutex, 2 threads, one thread record wrong. The machine's picture is that of session K5.
-- Assumes nothing.
use Rattle.std.specs.Prelude.{ℕ, List, [], ◌∷◌, ◌++◌, ◌≡◌, replicate}
use Rattle.mark.specs.Mark.{marked, answer}

-- 16 moves stand
abbrev pub header : List ℕ
header = 2 ∷ 2 ∷ 1 ∷ 0 ∷ 0 ∷ 16 ∷ 0 ∷ 0 ∷ []

-- both processors are at App with a thread each, the first has made one token
abbrev pub processors : List ℕ
processors = 0 ∷ 1 ∷ replicate 7 0 ++ 1 ∷ 0 ∷ 0 ∷ 0 ∷ 2 ∷ replicate 10 0

-- count 1, owner 2
abbrev pub mutexes : List ℕ
mutexes = 1 ∷ 0 ∷ 2 ∷ replicate 5 0

abbrev pub first_thread : List ℕ
first_thread = 3 ∷ 1 ∷ 0 ∷ 0 ∷ []

-- thread 2 is current on processor 2; the candidate has it waiting for mutex 1
abbrev pub machine : List ℕ
machine = header ++ processors ++ mutexes ++ first_thread ++ 3 ∷ 2 ∷ 0 ∷ 0 ∷ []

abbrev pub candidate : List ℕ
candidate = header ++ processors ++ mutexes ++ first_thread ++ 2 ∷ 1 ∷ 0 ∷ 0 ∷ []

-- another number of moves, or sizes that are no picture's
abbrev pub other_header : List ℕ
other_header = 255 ∷ 0 ∷ 9 ∷ 1 ∷ 255 ∷ 15 ∷ 1 ∷ 1 ∷ []

pub record Example : Type 0 where
  -- 88.23, as one number and with the refusal apart
  pub printed : answer machine candidate ≡ 8823
  pub apart : marked machine candidate ≡ record { refusal = 0; mark = 8823 }
  -- all right, with another header too
  pub right : answer machine machine ≡ 10000
  pub header_free : answer machine (other_header ++ processors ++ mutexes ++ first_thread ++ 3 ∷ 2 ∷ 0 ∷ 0 ∷ []) ≡ 10000
  -- no record right
  pub nothing : answer machine (replicate 48 255) ≡ 0
  -- a byte fewer, a byte more
  pub shorter : answer machine (replicate 47 0) ≡ 20011
  pub longer : answer machine (machine ++ 0 ∷ []) ≡ 20011
  -- the candidate's picture in the machine's place does not read, whatever the other's length: thread 2 is in no queue
  pub machine_first : answer candidate [] ≡ 20013
