-- Document 02, No. 4: the words that a move is said to write are the words that it changes.
-- Assumes nothing.
use Rattle.std.specs.Prelude.{◌≢◌, ◌≡◌}
use Rattle.reference.specs.State.{State, new, same_life, mutex_at, queue_at, life_at}
use Rattle.reference.specs.Step.{Move, next}
use Rattle.reference.specs.Cause.{cause}
use Rattle.reference.specs.Safe.{end, Always}
use Rattle.reference.specs.Touch.{Word, none, count, token, queue, ready, birth, touch}

-- the word is the same in two states; a birth is whether the thread is new
abbrev pub Same : Word → State → State → Type 0
Same none s t = Unit {0}
Same (count m) s t = (mutex_at s m).count ≡ (mutex_at t m).count
Same (token m) s t = (mutex_at s m).token ≡ (mutex_at t m).token
Same (queue m) s t = (mutex_at s m).queue ≡ (mutex_at t m).queue
Same (ready q) s t = queue_at s q ≡ queue_at t q
Same (birth k) s t = same_life (life_at s k) new ≡ same_life (life_at t k) new

pub record Framed (s : State) (a : Move) : Type 0 where
  -- the move changes no word but the one that it writes,
  pub others_stay : (w : Word) → (touch s a).writes ≢ w → Same w (next s a) s
  -- and that one it does change
  pub changes_its : (w : Word) → w ≢ none → (touch s a).writes ≡ w → ¬ (Same w (next s a) s)

-- every accepted move in every state that a session reaches
abbrev pub Frames : Type 0
Frames = Always (λ c ms. (a : Move) → cause (end c ms) a ≡ 0 → Framed (end c ms) a)
