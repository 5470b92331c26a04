-- Document 02, No. 4: which shared word a move reads and which it writes. The owner is no word.
-- Assumes nothing.
use Rattle.std.specs.Prelude.{ℕ, Bool, ◌&&◌, ◌||◌, not, List, [], ◌∷◌, eqb}
use Rattle.reference.specs.Lists.{choose, if_zero, if_empty}
use Rattle.reference.specs.State.{State, Line, App, CI2, CI3, L1, L3, L4, L6, L7, L8, L9, L10, TL1, GT1, GT3, TL3, U1, H2, H3, H5, H6, H8, Y1, Y2, Y3, C2, same_token, processor_at}
use Rattle.reference.specs.Step.{View, own_token, unchanged, view, works_on, Action, go, lock, trylock, unlock, yield, exit, create, Move, action_of, next}
use Rattle.reference.specs.Cause.{cause}

-- none; the count, the token or the queue of a mutex; a ready queue, the single one being 1; the birth of a thread
pub data Word : Type 0 where
  none : Word
  count token queue ready birth : ℕ → Word

-- the word that a move reads and the one that it writes
pub record Touch : Type 0 where
  pub reads : Word
  pub writes : Word

abbrev pub nothing : Touch
nothing = record { reads = none; writes = none }

-- it only reads the word; it reads and writes it; it only writes it
abbrev pub looks_at : Word → Touch
looks_at w = record { reads = w; writes = none }

abbrev pub changes : Word → Touch
changes w = record { reads = w; writes = w }

abbrev pub overwrites : Word → Touch
overwrites w = record { reads = none; writes = w }

-- what a go touches, line by line: m is the processor's mutex, q the ready queue that it works on
unfoldable pub line_touch : Line → ℕ → ℕ → View → Touch
line_touch App m q v = nothing
line_touch CI2 m q v = if_empty v.ready (looks_at (ready q)) (λ x rest. changes (ready q))
line_touch CI3 m q v = nothing
line_touch L1 m q v = changes (count m)
line_touch L3 m q v = nothing
line_touch L4 m q v = changes (queue m)
line_touch L6 m q v = looks_at (token m)
line_touch L7 m q v = looks_at (queue m)
line_touch L8 m q v = choose (unchanged v) (changes (token m)) (looks_at (token m))
line_touch L9 m q v = if_empty v.mutex.queue (looks_at (queue m)) (λ x rest. changes (queue m))
line_touch L10 m q v = nothing
line_touch TL1 m q v = if_zero v.mutex.count (changes (count m)) (looks_at (count m))
line_touch GT1 m q v = looks_at (token m)
line_touch GT3 m q v = choose (unchanged v) (changes (token m)) (looks_at (token m))
line_touch TL3 m q v = changes (count m)
line_touch U1 m q v = changes (count m)
line_touch H2 m q v = if_empty v.mutex.queue (looks_at (queue m)) (λ x rest. changes (queue m))
line_touch H3 m q v = changes (ready q)
line_touch H5 m q v = overwrites (token m)
line_touch H6 m q v = looks_at (queue m)
line_touch H8 m q v = choose (same_token v.mutex.token (own_token v)) (changes (token m)) (looks_at (token m))
line_touch Y1 m q v = looks_at (ready q)
line_touch Y2 m q v = nothing
line_touch Y3 m q v = changes (ready q)
line_touch C2 m q v = changes (ready q)

-- a create reads and writes its thread's birth at the call; the other calls touch none
unfoldable pub act_touch : Action → ℕ → ℕ → ℕ → View → Touch
act_touch go o m q v = line_touch v.proc.position m q v
act_touch lock o m q v = nothing
act_touch trylock o m q v = nothing
act_touch unlock o m q v = nothing
act_touch yield o m q v = nothing
act_touch exit o m q v = nothing
act_touch create o m q v = changes (birth o)

-- what an accepted move touches: all is read in the state before it, the probe of CI2 too
abbrev pub touch : State → Move → Touch
touch s a =
    let p : ℕ = a.processor in
    let m : ℕ = (processor_at s p).mutex in
    act_touch (action_of a.action) a.operand m (works_on s p) (view s p m)

-- a refused move touches nothing
unfoldable pub touched : State → Move → Touch
touched s a = choose (eqb (cause s a) 0) (touch s a) nothing

-- what the last of a list of moves touches, where they are made from s; nothing where there is none
unfoldable pub last_touch : State → List Move → Touch
last_touch s [] = nothing
last_touch s (a ∷ []) = touch s a
last_touch s (a ∷ b ∷ rest) = last_touch (next s a) (b ∷ rest)

-- ---- the words of two moves

-- a word as two numbers: its kind, and which mutex, ready queue or thread it belongs to
abbrev pub kind : Word → ℕ
kind none = 0
kind (count m) = 1
kind (token m) = 2
kind (queue m) = 3
kind (ready q) = 4
kind (birth k) = 5

abbrev pub number : Word → ℕ
number none = 0
number (count m) = m
number (token m) = m
number (queue m) = m
number (ready q) = q
number (birth k) = k

abbrev pub same_word : Word → Word → Bool
same_word w x = eqb (kind w) (kind x) && eqb (number w) (number x)

-- the word is read or written; none is no word
abbrev pub touches_word : Touch → Word → Bool
touches_word t w = not (same_word w none) && (same_word t.reads w || same_word t.writes w)

-- neither writes a word that the other touches
unfoldable pub apart : Touch → Touch → Bool
apart t u = not (touches_word u t.writes) && not (touches_word t u.writes)
