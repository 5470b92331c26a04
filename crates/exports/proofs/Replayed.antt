-- Replaying moves from bytes: one more move, the first that is refused, the bytes left over, and the end.
-- Assumes nothing.
use Prim.Native.Nat.{ℕ, zero, suc, ◌+◌, ◌*◌, ◌≤◌, ◌<◌, ◌%◌, ◌/◌}
use mathlib.Core.List.{List, [], ◌∷◌}
use mathlib.Core.Path.{◌≡◌, refl, sym, ap, ◌∙◌}
use native.Mathlib.Omega.{arith}
use native.Mathlib.Numerals.{add-one}
use lib.Dec.{eqb}
use lib.ListN.{length, get_or, drop, length-drop}
use borrow.Author.Tests.{eqb-true, eqb-false}
use mathlib.Core.Bool.{Bool, true, false}
use Rattle.std.proofs.Common.{Ok, Err}
use lib.Seq.{drop-cons}
use Rattle.exports.specs.Replay.{Replay, found, replay, whole, replay_place}
use Rattle.exports.specs.Model.Replayed.{Replays}
use Rattle.state.specs.declared.State.{State as Record}
use Rattle.state.specs.declared.Session.{Session}
use Rattle.state.specs.declared.refusal.Refusal.{Refusal}
use Rattle.state.specs.declared.refusal.Refusal.TheVariants.{BadOperand}
use Rattle.state.specs.Refusal.{number}
use Rattle.state.specs.Record.{zero_session}
use Rattle.state.specs.Allowed.{Allowed}
use Rattle.state.proofs.Refused.{not_none}
use Rattle.state.proofs.Started.{start-shown}
use Rattle.session.specs.Contract.{Answer, answer_of, started}
use Rattle.session.proofs.Answers.{or_first}
use Rattle.state.specs.Association.{encode}
use Rattle.state.specs.Model.Access.{start_record}
use Rattle.shown.proofs.Reached.{reached-allowed}
use Rattle.step.specs.Model.Moves.{Moved, Run, moved_of, moved_at, run_of, counted_of}
use Rattle.step.proofs.InPlace.{Ends, run_ends}
use Rattle.reference.specs.Lists.{if_zero}
use Rattle.reference.specs.State.{State}
use Rattle.reference.specs.Start.{Config, config_cause, start}
use Rattle.reference.specs.Step.{next, run}
use Rattle.reference.specs.Cause.{cause}
use Rattle.reference.specs.Session.{moves}
use Rattle.reference.proofs.Laws.{applied-is}
use Rattle.reference.proofs.Legal.{legal}
use Rattle.reference.proofs.Moves.{run_snoc}
use Rattle.session.proofs.Replayed as session
use Rattle.session.proofs.Replayed.{move_at, moves_more, length-moves}
use Rattle.session.proofs.Reached.{moved-reached}

-- ---- the definition, at a move and at the end

-- the bytes from a move on
bytes_on : (j : List ℕ) (i : ℕ) → 3 * i + 3 ≤ length j →
    drop (3 * i) j ≡ get_or j (3 * i) 0 ∷ get_or j (3 * i + 1) 0 ∷ get_or j (3 * i + 2) 0 ∷ drop (3 * (i + 1)) j
bytes_on j i h =
    let a : suc (3 * i) ≡ 3 * i + 1 = omega arith in
    let b : suc (3 * i + 1) ≡ 3 * i + 2 = omega arith in
    let c : suc (3 * i + 2) ≡ 3 * (i + 1) = omega arith in
    drop-cons j (3 * i) 0 (omega arith) ∙
    ap (λ (n : ℕ). get_or j (3 * i) 0 ∷ drop n j) a ∙
    ap (λ (l : List ℕ). get_or j (3 * i) 0 ∷ l) (drop-cons j (3 * i + 1) 0 (omega arith) ∙
    ap (λ (n : ℕ). get_or j (3 * i + 1) 0 ∷ drop n j) b ∙
    ap (λ (l : List ℕ). get_or j (3 * i + 1) 0 ∷ l) (drop-cons j (3 * i + 2) 0 (omega arith) ∙
    ap (λ (n : ℕ). get_or j (3 * i + 2) 0 ∷ drop n j) c))

replay-move : (s : State) (i : ℕ) (j : List ℕ) → 3 * i + 3 ≤ length j →
    replay s i (drop (3 * i) j) ≡
    if_zero (cause s (move_at j i)) (replay (next s (move_at j i)) (suc i) (drop (3 * (i + 1)) j)) (found (cause s (move_at j i)) (suc i) s)
unfolding replay
replay-move s i j h = rw (bytes_on j i h)

replay-taken : (s : State) (i : ℕ) (j : List ℕ) → 3 * i + 3 ≤ length j → cause s (move_at j i) ≡ 0 →
    replay s i (drop (3 * i) j) ≡ replay (next s (move_at j i)) (i + 1) (drop (3 * (i + 1)) j)
replay-taken s i j h z = replay-move s i j h ∙ rw (z, ← add-one i)

replay-refused : (s : State) (i : ℕ) (j : List ℕ) → 3 * i + 3 ≤ length j → (cause s (move_at j i) ≡ 0 → ⊥) →
    replay s i (drop (3 * i) j) ≡ found (cause s (move_at j i)) (i + 1) s
replay-refused s i j h z = replay-move s i j h ∙ rw (← add-one i) (by (cause s (move_at j i)) _ _ z)
  where
    by : (n : ℕ) (x y : Replay) → (n ≡ 0 → ⊥) → if_zero n x y ≡ y
    by zero x y h = absurd (h refl)
    by (suc n) x y h = refl

replay-over : (s : State) (i : ℕ) (l : List ℕ) → (length l ≡ 0 → ⊥) → length l < 3 → replay s i l ≡ found 3 (i + 1) s
unfolding replay
replay-over s i [] z h = absurd (z refl)
replay-over s i (p ∷ []) z h = rw (add-one i)
replay-over s i (p ∷ a ∷ []) z h = rw (add-one i)
replay-over s i (p ∷ a ∷ o ∷ rest) z h = absurd (omega arith)

replay-end : (s : State) (i : ℕ) (l : List ℕ) → length l ≡ 0 → replay s i l ≡ found 0 0 s
unfolding replay
replay-end s i [] z = refl
replay-end s i (p ∷ l) z = absurd (omega arith)

-- ---- the code's replay, after i moves

-- the number and the place of the first refusal, and the state before it or after all
pub record Finds (c : Config) (j : List ℕ) (n k : ℕ) (s : Record) : Type 0 where
  pub refusal : n ≡ (whole c j).refusal
  pub place : k ≡ (whole c j).place
  pub state : s ≡ encode (whole c j).state
  pub allowed : Allowed (whole c j).state

pub record Going (c : Config) (j : List ℕ) (i : ℕ) (s : Record) : Type 0 where
  pub on : session.Going c j i s
  pub left : whole c j ≡ replay (run (start c) (moves i j)) i (drop (3 * i) j)
  pub most : i ≤ 4000

module _ (c : Config) (right : config_cause c ≡ 0) (j : List ℕ) where
  pub going_start : (s : Record) → s ≡ start_record c.P c.T c.M c.B c.stealing → Going c j 0 s
  unfolding moves run
  going_start s e = record { on = session.going_start c right j s e; left = refl; most = omega arith }

  module _ (i : ℕ) (s : Record) (g : Going c j i s) where
    abbrev here : State
    here = run (start c) (moves i j)

    -- what is found where the bytes from i on give it
    finds : (n k : ℕ) → replay here i (drop (3 * i) j) ≡ found n k here → Finds c j n k s
    finds n k e =
        let w : whole c j ≡ found n k here = g.left ∙ e in
        record {
          refusal = sym (ap (λ (r : Replay). r.refusal) w);
          place = sym (ap (λ (r : Replay). r.place) w);
          state = g.on.state ∙ ap encode (sym (ap (λ (r : Replay). r.state) w));
          allowed = rw w (reached-allowed c right (moves i j) g.on.all);
        }

    module _ (r : Moved) (e : r ≡ moved_of s (get_or j (3 * i) 0) (get_or j (3 * i + 1) 0) (get_or j (3 * i + 2) 0)) (fits : 3 * i + 3 ≤ length j) where
      caused : r.refusal ≡ cause here (move_at j i)
      caused =
          ap (λ (x : Moved). x.refusal)
          (e ∙ ap (λ (x : Record). moved_of x (get_or j (3 * i) 0) (get_or j (3 * i + 1) 0) (get_or j (3 * i + 2) 0)) g.on.state ∙
          moved-reached c (moves i j) right g.on.all (move_at j i))

      pub going_more : r.refusal ≡ 0 → Going c j (i + 1) r.state
      going_more z =
          let n : cause here (move_at j i) ≡ 0 = sym caused ∙ z in
          record {
            on = session.going_more c right j i s g.on r e z;
            left = g.left ∙ replay-taken here i j fits n ∙
                ap (λ (x : State). replay x (i + 1) (drop (3 * (i + 1)) j)) (sym (run_snoc (moves i j) (start c) (move_at j i)) ∙ ap (run (start c)) (sym (moves_more i j)));
            most = omega (arith, (legal here (move_at j i) n).room, applied-is c (moves i j), length-moves i j);
          }

      pub going_stop : (r.refusal ≡ 0 → ⊥) → Finds c j r.refusal (i + 1) s
      going_stop z = finds r.refusal (i + 1) (replay-refused here i j fits (λ x. z (caused ∙ x)) ∙ ap (λ (n : ℕ). found n (i + 1) here) (sym caused))

    pub going_over : (length j % 3 ≡ 0 → ⊥) → i ≡ length j / 3 → Finds c j 3 (i + 1) s
    going_over z e = finds 3 (i + 1) (replay-over here i (drop (3 * i) j) (λ x. z (omega (arith, length-drop (3 * i) j))) (omega (arith, length-drop (3 * i) j)))

    pub going_end : length j % 3 ≡ 0 → i ≡ length j / 3 → Finds c j 0 0 s
    going_end z e = finds 0 0 (replay-end here i (drop (3 * i) j) (omega (arith, length-drop (3 * i) j)))

-- ---- the code's replay, as a whole

module _ (c : Config) (right : config_cause c ≡ 0) (j : List ℕ) where
  -- the calls are not asked for
  abbrev Keeps : ℕ → Record → List ℕ → Type 0
  Keeps i x calls = Going c j i x

  more : (i : ℕ) (x : Record) (calls : List ℕ) → Going c j i x → i < length j / 3 → (moved_at x j i).refusal ≡ 0 → Going c j (i + 1) (moved_at x j i).state
  more i x calls g l z = going_more c right j i x g _ refl (omega arith) z

  module _ (s : Record) (e : s ≡ start_record c.P c.T c.M c.B c.stealing) (r : Run) (ran : r ≡ run_of s j) where
    ends : Ends j Keeps (length j / 3) more r (counted_of s j [])
    ends = rw ran (run_ends j Keeps (length j / 3) more (length j / 3) 0 s [] (going_start c right j s e) (omega arith))

    ends-most : r.made ≤ 4000
    ends-most = ends.reached.most

    ends-refused : (r.refusal ≡ 0 → ⊥) → Finds c j r.refusal (r.made + 1) r.state
    ends-refused z =
        let l = ends.part z in
        rw (ends.cause z) (going_stop c right j r.made r.state ends.reached _ refl (omega arith) (λ q. z (ends.cause z ∙ q)))

    ends-over : r.refusal ≡ 0 → (length j % 3 ≡ 0 → ⊥) → Finds c j 3 (r.made + 1) r.state
    ends-over z h = going_over c right j r.made r.state ends.reached h (ends.whole z)

    ends-all : r.refusal ≡ 0 → length j % 3 ≡ 0 → Finds c j 0 0 r.state
    ends-all z h = going_end c right j r.made r.state ends.reached h (ends.whole z)

    -- the state alone
    pub ends-state : r.state ≡ encode (whole c j).state
    ends-state = by (eqb r.refusal 0) (eqb (length j % 3) 0) refl refl
      where
        by : (p q : Bool) → eqb r.refusal 0 ≡ p → eqb (length j % 3) 0 ≡ q → r.state ≡ encode (whole c j).state
        by false q e f = (ends-refused (eqb-false r.refusal 0 e)).state
        by true false e f = (ends-over (eqb-true r.refusal 0 e) (eqb-false (length j % 3) 0 f)).state
        by true true e f = (ends-all (eqb-true r.refusal 0 e) (eqb-true (length j % 3) 0 f)).state

-- ---- what the code answers, and the place that it writes

module _ (c : Config) (j : List ℕ) where
  pub table-refused : (e : Refusal) → answer_of zero_session (Err e) ≡ started c → Replays c j (Err e) × (0 ≡ replay_place c j)
  unfolding answer_of started Replays replay_place
  table-refused e h =
      let n : number e ≡ config_cause c = ap (λ (a : Answer). a.refusal) h in (or_first (number e) (config_cause c) _ n (not_none e), rw (← n) (by (number e) (not_none e)))
    where
      by : (n : ℕ) → (n ≡ 0 → ⊥) → 0 ≡ if_zero n (whole c j).place 0
      by zero z = absurd (z refl)
      by (suc n) z = refl

  module _ (b : Session) (h : answer_of zero_session (Ok b) ≡ started c) where
    right : config_cause c ≡ 0
    unfolding answer_of started
    right = sym (ap (λ (a : Answer). a.refusal) h)

    begins : b.state ≡ start_record c.P c.T c.M c.B c.stealing
    unfolding answer_of started
    begins = ap (λ (a : Answer). a.session.state) h ∙ rw right (sym (start-shown c right))

    place_is : (k : ℕ) → k ≡ (whole c j).place → k ≡ replay_place c j
    unfolding replay_place
    place_is k e = rw right e

    module _ (r : Run) (ran : r ≡ run_of b.state j) where
      pub most : r.made ≤ 4000
      most = ends-most c right j b.state begins r ran

      pub move-refused : (e : Refusal) → r.refusal ≡ number e → Replays c j (Err e) × (r.made + 1 ≡ replay_place c j)
      unfolding Replays
      move-refused e z =
          let f = ends-refused c right j b.state begins r ran (λ x. not_none e (sym z ∙ x)) in (rw right (sym z ∙ f.refusal), place_is _ f.place)

      module _ (none : r.refusal ≡ 0) where
        pub over : (length j % 3 ≡ 0 → ⊥) → Replays c j (Err BadOperand) × (r.made + 1 ≡ replay_place c j)
        unfolding Replays number
        over z = let f = ends-over c right j b.state begins r ran none z in (rw right f.refusal, place_is _ f.place)

        pub all-made : length j % 3 ≡ 0 → Replays c j (Ok r.state) × (0 ≡ replay_place c j)
        unfolding Replays
        all-made z =
            let f = ends-all c right j b.state begins r ran none z in
            (record { right = right; refusal = sym f.refusal; state = f.state; allowed = f.allowed }, place_is 0 f.place)
