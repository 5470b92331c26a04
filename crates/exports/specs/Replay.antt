-- What a replay answers: a start table, then a list of moves as bytes, three to a move, then the picture of the state that they lead to.
-- Assumes nothing.
use Rattle.std.specs.Prelude.{ℕ, suc, List, [], ◌∷◌, ◌++◌, ltb, length, drop}
use Rattle.reference.specs.Refusal.{bad_operand, too_short, refuse}
use Rattle.reference.specs.Lists.{if_zero}
use Rattle.reference.specs.State.{State}
use Rattle.reference.specs.Start.{Config, config_cause, start}
use Rattle.reference.specs.Step.{move_of, next}
use Rattle.reference.specs.Cause.{cause}
use Rattle.reference.specs.Picture.{picture}
use Rattle.session.specs.Contract.{or_later}

-- refusal: the number of the first refused move, place: which move it is, counted from 1; both 0 where none is. state: before that move, or after all.
pub record Replay : Type 0 where
  pub refusal : ℕ
  pub place : ℕ
  pub state : State

abbrev pub found : ℕ → ℕ → State → Replay
found n k s = record { refusal = n; place = k; state = s }

-- the bytes are moves to be made from s, where i were made before; one or two bytes left over are a move without its operand
unfoldable pub replay : State → ℕ → List ℕ → Replay
replay s i [] = found 0 0 s
replay s i (p ∷ []) = found bad_operand (suc i) s
replay s i (p ∷ a ∷ []) = found bad_operand (suc i) s
replay s i (p ∷ a ∷ o ∷ rest) =
    if_zero (cause s (move_of p a o)) (replay (next s (move_of p a o)) (suc i) rest) (found (cause s (move_of p a o)) (suc i) s)

abbrev pub whole : Config → List ℕ → Replay
whole c moves = replay (start c) 0 moves

-- 1, then the number of the first refused move, then 10; `n` is the length of the buffer
unfoldable pub replay_refusal : Config → List ℕ → ℕ → ℕ
replay_refusal c moves n =
    or_later (config_cause c) (or_later (whole c moves).refusal (refuse (ltb n (length (picture (whole c moves).state))) too_short 0))

-- which move is refused, counted from 1; 0 where none is
unfoldable pub replay_place : Config → List ℕ → ℕ
replay_place c moves = if_zero (config_cause c) (whole c moves).place 0

-- the picture, followed by the buffer's later bytes; refused, the buffer as it was
unfoldable pub replay_buffer : Config → List ℕ → List ℕ → List ℕ
replay_buffer c moves buffer =
    let shown = picture (whole c moves).state in
    if_zero (replay_refusal c moves (length buffer)) (shown ++ drop (length shown) buffer) buffer
