-- Two neighbouring moves that may change places, and what follows for a list of moves.
-- Assumes nothing.
use Rattle.std.specs.Prelude.{ℕ, suc, ◌-◌, Bool, true, ◌&&◌, not, List, [], ◌∷◌, ◌≢◌, ◌≡◌, eqb, length, take}
use Rattle.reference.specs.Lists.{at, put, in_range}
use Rattle.reference.specs.State.{State}
use Rattle.reference.specs.Start.{Config, start}
use Rattle.reference.specs.Step.{Move, move_of, next, run}
use Rattle.reference.specs.Cause.{cause, accepted}
use Rattle.reference.specs.Safe.{end, Always}
use Rattle.reference.specs.Touch.{touch, apart}
use Rattle.reference.specs.Picture.{picture}

-- document 02, No. 5: a, made in s, and b, made next, are of different processors, and neither writes a word that the other touches, where each stands
unfoldable pub independent : State → Move → Move → Bool
independent s a b = not (eqb a.processor b.processor) && apart (touch s a) (touch (next s a) b)

pub record Exchanged (s : State) (a b : Move) : Type 0 where
  -- b is accepted first and then a,
  pub b_first : cause s b ≡ 0
  pub a_second : cause (next s b) a ≡ 0
  -- the state after them is the same,
  pub same_state : next (next s b) a ≡ next (next s a) b
  -- each touches the same words as before,
  pub a_touches : touch (next s b) a ≡ touch s a
  pub b_touches : touch s b ≡ touch (next s a) b
  -- and they may change places again
  pub back : independent s b a ≡ true

-- in every state that a session reaches, two moves that are accepted one after the other and pass the test may change places
abbrev pub ExchangesBy : (State → Move → Move → Bool) → Type 0
ExchangesBy test =
    Always (λ c ms. (a b : Move) → cause (end c ms) a ≡ 0 → cause (next (end c ms) a) b ≡ 0 → test (end c ms) a b ≡ true → Exchanged (end c ms) a b)

-- so it is with this test
abbrev pub Exchanges : Type 0
Exchanges = ExchangesBy independent

-- that they are accepted needs no test: whatever they touch, so are two moves of different processors in the other order
abbrev pub EitherOrder : Type 0
EitherOrder =
    Always
    (λ c ms.
    (a b : Move) → a.processor ≢ b.processor → cause (end c ms) a ≡ 0 → cause (next (end c ms) a) b ≡ 0 →
    (cause (end c ms) b ≡ 0) × (cause (next (end c ms) b) a ≡ 0))

-- ---- in a list of moves

-- the k-th move, counted from 1
abbrev pub move_at : List Move → ℕ → Move
move_at ms k = at ms k (move_of 0 0 0)

-- there are a k-th move and a next one
abbrev pub neighbours : List Move → ℕ → Bool
neighbours ms k = in_range 1 (length ms - 1) k

-- and, where the moves are made from the start, these two may change places
unfoldable pub may_exchange : Config → List Move → ℕ → Bool
may_exchange c ms k = neighbours ms k && independent (run (start c) (take (k - 1) ms)) (move_at ms k) (move_at ms (suc k))

-- the list with these two exchanged
unfoldable pub exchange : List Move → ℕ → List Move
exchange ms k = put (put ms k (move_at ms (suc k))) (suc k) (move_at ms k)

-- the list after exchanges at these places, one after the other
unfoldable pub rearranged : List Move → List ℕ → List Move
rearranged ms [] = ms
rearranged ms (k ∷ ks) = rearranged (exchange ms k) ks

-- each exchanges two that may change places in the list as it is by then
unfoldable pub may_rearrange : Config → List Move → List ℕ → Bool
may_rearrange c ms [] = true
may_rearrange c ms (k ∷ ks) = may_exchange c ms k && may_rearrange c (exchange ms k) ks

pub record SameEnd (c : Config) (ms ns : List Move) : Type 0 where
  -- every move of the other list is accepted too,
  pub all_accepted : accepted (start c) ns ≡ true
  -- it leads to the same state,
  pub state : end c ns ≡ end c ms
  -- so the picture handed in is the same
  pub shown : picture (end c ns) ≡ picture (end c ms)

-- of every list of accepted moves, with neighbours exchanged any number of times
abbrev pub Rearranges : Type 0
Rearranges = Always (λ c ms. (ks : List ℕ) → may_rearrange c ms ks ≡ true → SameEnd c ms (rearranged ms ks))
