-- No. 3 of document 02: the walk through the chains of rule 13, and the one number in which it keeps the threads met.
-- Assumes nothing.
use Rattle.std.specs.Prelude.{ℕ, zero, suc, ◌/◌, ◌%◌, ◌^◌, ◌<◌, Bool, false, ◌||◌, not, List, [], ◌∷◌, ◌++◌, ◌≡◌, eqb, get_or}
use Rattle.reference.specs.Lists.{choose}
use Rattle.reference.specs.Picture.{stands_in}
use Rattle.state.specs.declared.Thread.{Thread}
use Rattle.state.specs.Record.{chain}
use Rattle.state.specs.Rules.{placed_in}
use Rattle.rules.specs.declared.chain.Walked.{Walked}

-- bit k of the number is set
unfoldable pub has_bit : ℕ → ℕ → Bool
has_bit n k = eqb (n / 2 ^ k % 2) 1

-- the number has a bit for each member of the list, and no other
abbrev pub Bits : ℕ → List ℕ → Type 0
Bits n l = (k : ℕ) → has_bit n k ≡ stands_in k l

-- ---- the walk, with the threads met as a list. `thread` gives the thread of a number, `first` the first of a queue.

-- the threads met so far, in order; whether the walk ended at a thread met already, and whether at one not placed in its queue
pub record Walk : Type 0 where
  pub met : List ℕ
  pub twice : Bool
  pub misplaced : Bool

-- a walk by its three fields
abbrev pub so_far : List ℕ → Bool → Bool → Walk
so_far met twice misplaced = record { met = met; twice = twice; misplaced = misplaced }

-- it has ended
abbrev pub ended : Walk → Bool
ended w = w.twice || w.misplaced

-- further, unless it has ended
abbrev pub further : Walk → (List ℕ → Walk) → Walk
further w rest = choose (ended w) w (rest w.met)

-- at thread k of queue q: it is met, or the walk ends there
abbrev pub visit : (ℕ → Thread) → ℕ → ℕ → List ℕ → Walk
visit thread q k met =
    let twice = stands_in k met in
    let misplaced = not (placed_in (thread k) q) in
    choose (twice || misplaced) (so_far met twice misplaced) (so_far (met ++ (k ∷ [])) false false)

-- from thread k of queue q by next, at most n threads
unfoldable pub along : (ℕ → Thread) → ℕ → ℕ → ℕ → List ℕ → Walk
along thread q zero k met = so_far met false false
along thread q (suc n) zero met = so_far met false false
along thread q (suc n) (suc k) met = further (visit thread q (suc k) met) (along thread q n (thread (suc k)).next)

-- all queues before q in order, of each at most 33 threads: one more than there can be
unfoldable pub walk_before : (ℕ → Thread) → (ℕ → ℕ) → ℕ → Walk
walk_before thread first zero = so_far [] false false
walk_before thread first (suc q) = further (walk_before thread first q) (along thread q 33 (first q))

-- and then at most n threads of queue q
abbrev pub walk_to : (ℕ → Thread) → (ℕ → ℕ) → ℕ → ℕ → Walk
walk_to thread first q n = further (walk_before thread first q) (along thread q n (first q))

-- ---- what is claimed of the code's walk

-- the answer represents the walk: a bit for each thread met and no other, and how it ended
pub record Represents (w : Walk) (r : Walked) : Type 0 where
  pub bits : Bits r.met w.met
  pub twice : r.twice ≡ w.twice
  pub misplaced : r.misplaced ≡ w.misplaced

-- a walk has one answer: 64-bit numbers with the same set bits are the same
abbrev pub OneAnswer : Type 0
OneAnswer = (w : Walk) (r s : Walked) → r.met < 2 ^ 64 → s.met < 2 ^ 64 → Represents w r → Represents w s → r ≡ s

-- an answer for one chain, whichever threads were met before it
abbrev pub RepresentsAlong : (ℕ → Thread) → ℕ → ℕ → ℕ → ℕ → Walked → Type 0
RepresentsAlong thread q n k before r = (met : List ℕ) → Bits before met → Represents (along thread q n k met) r

-- the threads of the chains of all queues before q, in the order of the walk
unfoldable pub threads_before : (ℕ → Thread) → (ℕ → ℕ) → ℕ → List ℕ
threads_before thread first zero = []
threads_before thread first (suc q) = threads_before thread first q ++ chain thread 33 (first q)

-- and then n threads of queue q
abbrev pub threads_to : (ℕ → Thread) → (ℕ → ℕ) → ℕ → ℕ → List ℕ
threads_to thread first q n = threads_before thread first q ++ chain thread n (first q)

-- the answer of a walk that has not ended
abbrev pub GoesOn : Walked → Type 0
GoesOn r = (r.twice ≡ false) × (r.misplaced ≡ false)

-- No. 3, of every answer r for n threads of queue q, and s for one thread more
pub record OneNumber (thread : ℕ → Thread) (first : ℕ → ℕ) : Type 0 where
  -- a bit for each thread of the chains up to there, and no other
  pub bits : (q n : ℕ) (r : Walked) → Represents (walk_to thread first q n) r → GoesOn r → Bits r.met (threads_to thread first q n)
  -- the next thread is found to be met twice just where it has a bit by then
  pub twice : (q n k : ℕ) (r s : Walked) → Represents (walk_to thread first q n) r → Represents (walk_to thread first q (suc n)) s → GoesOn r
      → get_or (chain thread (suc n) (first q)) n 0 ≡ suc k → s.twice ≡ has_bit r.met (suc k)
