-- Two neighbours in a list of moves: what stands before them, the two as the code makes them, and what the exported function answers, case by case.
-- Assumes nothing.
use Prim.Native.Nat.{ℕ, zero, suc, ◌+◌, ◌-◌, ◌*◌, ◌≤◌, ◌<◌, ◌/◌}
use mathlib.Core.Bool.{Bool, true, false, ◌&&◌, not}
use mir.Val.{bool_byte}
use mathlib.Core.List.{List, [], ◌∷◌, ◌++◌}
use mathlib.Core.Path.{◌≡◌, refl, sym, ap, ◌∙◌, subst}
use native.Mathlib.Omega.{arith}
use lib.Dec.{eqb, leb}
use lib.ListN.{length, get_or, take, drop}
use borrow.Author.Tests.{lt-leb}
use Rattle.std.proofs.Common.{Ok, Err}
use Rattle.state.specs.declared.State.{State as Record}
use Rattle.state.specs.declared.refusal.Refusal.{Refusal}
use Rattle.state.specs.declared.refusal.Refusal.TheVariants.{BadOperand}
use Rattle.state.specs.Refusal.{number}
use Rattle.state.specs.Model.Access.{start_record}
use Rattle.state.proofs.Refused.{not_none}
use Rattle.step.specs.Model.Moves.{Run, run_of}
use Rattle.exports.specs.Model.Answers.{small_number}
use Rattle.exports.proofs.Replayed.{ends-state}
use Rattle.exports.specs.Replay.{replay, whole}
use Rattle.exports.specs.Words.{moves_in}
use Rattle.exports.specs.Independent.{independent_refusal, independent_answer}
use Rattle.exports.specs.Model.Replayed.{Reached, Replays}
use Rattle.exports.specs.Model.Made.{made_by, move_from, made_independent}
use Rattle.exports.proofs.Tried.{later_first}
use Rattle.exports.proofs.Touched.{made_one, replay_cons, replay-accepted}
use Rattle.state.specs.Association.{encode}
use Rattle.touch.specs.Association.{touch_shown}
use Rattle.independence.specs.Exchange.{independent, neighbours, may_exchange}
use Rattle.reference.specs.Lists.{at, if_zero, in_range}
use Rattle.reference.specs.State.{State}
use Rattle.reference.specs.Start.{Config, config_cause, start}
use Rattle.reference.specs.Step.{Move, move_of, next, run}
use Rattle.reference.specs.Cause.{cause, accepted}
use Rattle.reference.specs.Safe.{one_if}
use Rattle.reference.specs.Session.{moves}
use Rattle.reference.specs.Touch.{Touch, touch, apart}
use Rattle.reference.proofs.Tests.{true_range}
use Rattle.reference.proofs.Legal.{accepted_cons}
use Rattle.reference.proofs.Moves.{run_snoc, accepted_snoc, accepted-split}
use Rattle.session.proofs.Replayed.{move_at, move-later, moves_on, moves_more, length-moves}

-- ---- the moves in a list of bytes

take-moves : (n i : ℕ) (j : List ℕ) → i ≤ n → take i (moves n j) ≡ moves i j
unfolding moves
take-moves n zero j h = refl
take-moves zero (suc i) j h = absurd (omega arith)
take-moves (suc n) (suc i) j h = ap (λ (l : List Move). move_at j 0 ∷ l) (take-moves n i (drop 3 j) (omega arith))

getD_moves : (n i : ℕ) (j : List ℕ) (d : Move) → i < n → get_or (moves n j) i d ≡ move_at j i
unfolding moves
getD_moves zero i j d h = absurd (omega arith)
getD_moves (suc n) zero j d h = refl
getD_moves (suc n) (suc i) j d h = getD_moves n i (drop 3 j) d (omega arith) ∙ move-later j i

-- the first i moves of a list that is not refused lead where they do by themselves
front : (i : ℕ) (s : State) (n : ℕ) (j : List ℕ) → (replay s n j).refusal ≡ 0 → 3 * i ≤ length j → (replay s n (take (3 * i) j)).state ≡ run s (moves i j)
unfolding replay moves run
front zero s n j z h = refl
front (suc i) s n [] z h = absurd (omega arith)
front (suc i) s n (p ∷ []) z h = absurd (omega arith)
front (suc i) s n (p ∷ a ∷ []) z h = absurd (omega arith)
front (suc i) s n (p ∷ a ∷ o ∷ rest) z h =
    let e : 3 * suc i ≡ suc (suc (suc (3 * i))) = omega arith in
    let t = replay_cons s n p a o rest z in
    rw (e, t.0) (front i (next s (move_of p a o)) (suc n) rest t.1 (omega arith))

-- ---- the test as the code makes it

made-is : (c : Config) → config_cause c ≡ 0 → (ms : List Move) → accepted (start c) ms ≡ true → (a b : Move) → cause (run (start c) ms) a ≡ 0 →
    cause (next (run (start c) ms) a) b ≡ 0 → made_independent (encode (run (start c) ms)) a b ≡ independent (run (start c) ms) a b
unfolding made_independent independent
made-is c right ms ok a b ca cb =
    let s : State = run (start c) ms in
    let one = made_one c right ms ok a ca in
    let on : run (start c) (ms ++ a ∷ []) ≡ next s a = run_snoc ms (start c) a in
    let two : touch_shown (made_by (encode (next s a)) b).touch ≡ touch (next s a) b =
    subst (λ (e : State). touch_shown (made_by (encode e) b).touch ≡ touch e b) on
    (made_one c right (ms ++ a ∷ []) (accepted_snoc ms (start c) a ok ca) b (ap (λ (e : State). cause e b) on ∙ cb)).0 in
    (λ i. not (eqb a.processor b.processor) && apart (one.0 i) (touch_shown (made_by (one.1 i) b).touch)) ∙
    ap (λ (t : Touch). not (eqb a.processor b.processor) && apart (touch s a) t) two

-- ---- what the exported function answers

outside : (lo hi k : ℕ) → hi < k → in_range lo hi k ≡ false
outside lo hi k h = rw (lt-leb k hi h) (go (leb lo k))
  where
    go : (b : Bool) → b && false ≡ false
    go true = refl
    go false = refl

pub bit_is : (b : Bool) → bool_byte b ≡ one_if b
bit_is true = refl
bit_is false = refl

module _ (c : Config) (bytes : List ℕ) (k : ℕ) where
  answer_of : (e : Refusal) → number e ≡ independent_refusal c bytes k → small_number (Err e) ≡ independent_answer c bytes k
  unfolding independent_answer small_number
  answer_of e n = rw (← n) (by (number e) (not_none e))
    where
      by : (n : ℕ) → (n ≡ 0 → ⊥) → 200 + n ≡ if_zero n (one_if (may_exchange c (moves_in bytes) k)) (200 + n)
      by zero z = absurd (z refl)
      by (suc n) z = refl

  pub moves-refused : (e : Refusal) → Replays c bytes (Err e) → small_number (Err e) ≡ independent_answer c bytes k
  unfolding Replays independent_refusal
  moves-refused e h = answer_of e (sym (later_first (config_cause c) (whole c bytes).refusal _ (number e) h (not_none e)))

  module _ (s : Record) (h : Replays c bytes (Ok s)) where
    reached : Reached c bytes s
    unfolding Replays
    reached = h

    right : config_cause c ≡ 0
    right = reached.right

    accepts : (whole c bytes).refusal ≡ 0
    accepts = reached.refusal

    nowhere : neighbours (moves_in bytes) k ≡ false → small_number (Err BadOperand) ≡ independent_answer c bytes k
    unfolding independent_refusal number
    nowhere z = answer_of BadOperand (rw (right, accepts, z))

    pub no_place : k ≡ 0 → small_number (Err BadOperand) ≡ independent_answer c bytes k
    no_place z = nowhere (ap (in_range 1 (length (moves_in bytes) - 1)) z)

    module _ (some : k ≡ 0 → ⊥) where
      pub past_end : length bytes / 3 ≤ k → small_number (Err BadOperand) ≡ independent_answer c bytes k
      past_end h = nowhere (outside 1 (length (moves_in bytes) - 1) k (omega (arith, length-moves (length bytes / 3) bytes)))

      module _ (fits : k < length bytes / 3) where
        abbrev i : ℕ
        i = k - 1

        abbrev here : State
        here = run (start c) (moves i bytes)

        -- the list goes on with the two
        split : (accepted (start c) (moves i bytes) ≡ true) × (cause here (move_at bytes i) ≡ 0) × (cause (next here (move_at bytes i)) (move_at bytes (i + 1)) ≡ 0)
        split =
            let n : ℕ = length bytes / 3 in
            let all = replay-accepted (start c) 0 bytes accepts in
            let x = moves_on n i bytes (omega arith) in
            let y = moves_on n (i + 1) bytes (omega arith) in
            let a = accepted-split (moves i bytes) (move_at bytes i ∷ x.0) (start c) (subst (λ (l : List Move). accepted (start c) l ≡ true) x.1 all) in
            let b = accepted-split (moves (i + 1) bytes) (move_at bytes (i + 1) ∷ y.0) (start c) (subst (λ (l : List Move). accepted (start c) l ≡ true) y.1 all) in
            let on : run (start c) (moves (i + 1) bytes) ≡ next here (move_at bytes i) = ap (run (start c)) (moves_more i bytes) ∙ run_snoc (moves i bytes) (start c) (move_at bytes i) in (
              a.0,
              (accepted_cons here (move_at bytes i) x.0 a.1).0,
              sym (ap (λ (s : State). cause s (move_at bytes (i + 1))) on) ∙ (accepted_cons (run (start c) (moves (i + 1) bytes)) (move_at bytes (i + 1)) y.0 b.1).0,
            )

        there : neighbours (moves_in bytes) k ≡ true
        there = true_range 1 (length (moves_in bytes) - 1) k (omega arith) (omega (arith, length-moves (length bytes / 3) bytes))

        may-is : may_exchange c (moves_in bytes) k ≡ independent here (move_at bytes i) (move_at bytes (i + 1))
        unfolding may_exchange
        may-is =
            let n : ℕ = length bytes / 3 in
            let d : Move = move_of 0 0 0 in
            let later : k ≡ suc i = omega arith in
            let after : k ≡ i + 1 = omega arith in
            let before : take i (moves n bytes) ≡ moves i bytes = take-moves n i bytes (omega arith) in
            let one : at (moves n bytes) k d ≡ move_at bytes i = ap (λ (m : ℕ). at (moves n bytes) m d) later ∙ getD_moves n i bytes d (omega arith) in
            let two : at (moves n bytes) (suc k) d ≡ move_at bytes (i + 1) = getD_moves n k bytes d fits ∙ ap (move_at bytes) after in
            rw there (λ x. independent (run (start c) (before x)) (one x) (two x))

        none-refused : independent_refusal c bytes k ≡ 0
        unfolding independent_refusal
        none-refused = rw (right, accepts, there)

        pub answered : (r : Run) → r ≡ run_of (start_record c.P c.T c.M c.B c.stealing) (take (3 * i) bytes) → (b : Bool) →
            b ≡ made_independent r.state (move_from bytes (3 * i)) (move_from bytes (3 * i + 3)) → small_number (Ok (one_if b)) ≡ independent_answer c bytes k
        unfolding independent_answer small_number
        answered r ran b z =
            let there : r.state ≡ encode here =
            ends-state c right (take (3 * i) bytes) _ refl r ran ∙ ap encode (front i (start c) 0 bytes accepts (omega arith)) in
            let second : 3 * i + 3 ≡ 3 * (i + 1) = omega arith in
            let test : b ≡ may_exchange c (moves_in bytes) k =
            z ∙ (λ x. made_independent (there x) (move_at bytes i) (move_from bytes (second x))) ∙
            made-is c right (moves i bytes) split.0 (move_at bytes i) (move_at bytes (i + 1)) split.1 split.2 ∙ sym may-is in
            ap one_if test ∙ rw none-refused
