-- What a move does follows from its processor's registers and the word that it reads. That it changes no word but the one that it writes is `Frames`.
-- Assumes nothing.
use Rattle.std.specs.Prelude.{ℕ, true, List, ◌≢◌, ◌⊎◌, ◌≡◌}
use Rattle.reference.specs.State.{State, processor_at, mutex_at, life_at}
use Rattle.reference.specs.Start.{Config, config_cause, start}
use Rattle.reference.specs.Step.{Move, next}
use Rattle.reference.specs.Cause.{cause, accepted}
use Rattle.reference.specs.Safe.{In, end}
use Rattle.reference.specs.Touch.{Word, touch}
use Rattle.reference.specs.Frame.{Same}

-- what was x in one state and y in the other is left in both, as x' and y', or made the same in both
abbrev pub LeftOrSame : {A : Type 0} → A → A → A → A → Type 0
LeftOrSame x x' y y' = ((x' ≡ x) × (y' ≡ y)) ⊎ (x' ≡ y')

module _ (s t : State) (a : Move) where
  -- two states show a move the same: its processor's registers, and the word w
  pub record Shows (w : Word) : Type 0 where
    pub registers : processor_at s a.processor ≡ processor_at t a.processor
    pub word : Same w s t

  pub record DoesAlike : Type 0 where
    -- it touches the same words in both,
    pub touches : touch s a ≡ touch t a
    -- and makes the same of its registers and of the word that it writes;
    pub registers : processor_at (next s a) a.processor ≡ processor_at (next t a) a.processor
    pub word : Same (touch s a).writes (next s a) (next t a)
    -- owners and lives are no words: each is left in both states, or made the same in both;
    pub owner : (m : ℕ) → In s.M m → LeftOrSame (mutex_at s m).owner (mutex_at (next s a) m).owner (mutex_at t m).owner (mutex_at (next t a) m).owner
    pub life : (k : ℕ) → LeftOrSame (life_at s k) (life_at (next s a) k) (life_at t k) (life_at (next t a) k)
    -- and the other processors' registers stay
    pub others : (q : ℕ) → q ≢ a.processor → (processor_at (next s a) q ≡ processor_at s q) × (processor_at (next t a) q ≡ processor_at t q)

-- of any two states that sessions from one start reach, and every move that is accepted in both and said to read a word
abbrev pub DependsBy : (State → Move → Word) → Type 0
DependsBy reads =
    (c : Config) (ms ns : List Move) (a : Move) → config_cause c ≡ 0 → accepted (start c) ms ≡ true → accepted (start c) ns ≡ true →
    cause (end c ms) a ≡ 0 → cause (end c ns) a ≡ 0 → Shows (end c ms) (end c ns) a (reads (end c ms) a) →
    DoesAlike (end c ms) (end c ns) a

-- the words that the lines are said to read are enough
abbrev pub Depends : Type 0
Depends = DependsBy (λ s a. (touch s a).reads)
