-- Replaying a journal's moves: one more move, and the first that is refused.
-- Assumes nothing.
use Prim.Native.Nat.{ℕ, zero, suc, ◌+◌, ◌*◌, ◌≤◌, ◌<◌, ◌/◌}
use mathlib.Core.Bool.{Bool, true, false, ◌&&◌, true≢false}
use mathlib.Core.List.{List, [], ◌∷◌, ◌++◌}
use mathlib.Core.Path.{◌≡◌, refl, sym, ap, ◌∙◌, subst}
use native.Mathlib.Omega.{arith}
use lib.Dec.{eqb}
use lib.ListN.{length, get_or, drop, take, length-take}
use lib.Seq.{get_or-drop}
use borrow.Author.Tests.{ne_eqb, eq-eqb, eqb-true, eqb-false}
use Rattle.state.specs.declared.State.{State as Record}
use Rattle.state.specs.Association.{encode}
use Rattle.state.specs.Model.Access.{start_record}
use Rattle.state.proofs.Started.{start-shown}
use Rattle.step.specs.Model.Moves.{Moved, moved_of, run_of, counted_of}
use Rattle.step.proofs.InPlace.{Ends, run_ends}
use Rattle.reference.specs.Start.{Config, config_cause, start}
use Rattle.reference.proofs.Moves.{run_snoc, accepted_snoc}
use Rattle.session.proofs.Reached.{moved_in, moved-reached}
use Rattle.reference.specs.State.{State}
use Rattle.reference.specs.Step.{Move, next, run}
use Rattle.reference.specs.Cause.{cause, accepted}
use Rattle.reference.specs.Session.{moves}

-- move i + 1 of a journal
abbrev pub move_at : List ℕ → ℕ → Move
move_at j i = record { processor = get_or j (3 * i) 0; action = get_or j (3 * i + 1) 0; operand = get_or j (3 * i + 2) 0 }

pub move-later : (j : List ℕ) (i : ℕ) → move_at (drop 3 j) i ≡ move_at j (suc i)
move-later j i =
    let a : get_or (drop 3 j) (3 * i) 0 ≡ get_or j (3 * suc i) 0 = get_or-drop 3 j (3 * i) 0 ∙ ap (λ (n : ℕ). get_or j n 0) (omega arith) in
    let b : get_or (drop 3 j) (3 * i + 1) 0 ≡ get_or j (3 * suc i + 1) 0 = get_or-drop 3 j (3 * i + 1) 0 ∙ ap (λ (n : ℕ). get_or j n 0) (omega arith) in
    let c : get_or (drop 3 j) (3 * i + 2) 0 ≡ get_or j (3 * suc i + 2) 0 = get_or-drop 3 j (3 * i + 2) 0 ∙ ap (λ (n : ℕ). get_or j n 0) (omega arith) in
    (λ k. record { processor = a k; action = b k; operand = c k })

-- one more move of a journal
pub moves_more : (n : ℕ) (j : List ℕ) → moves (n + 1) j ≡ moves n j ++ move_at j n ∷ []
unfolding moves
moves_more zero j = refl
moves_more (suc n) j =
    let e : suc n + 1 ≡ suc (n + 1) = omega arith in
    rw (e, moves_more n (drop 3 j), move-later j n)

pub length-moves : (n : ℕ) (j : List ℕ) → length (moves n j) ≡ n
unfolding moves
length-moves zero j = refl
length-moves (suc n) j = ap suc (length-moves n (drop 3 j))

-- the moves of a journal go on with the next one
pub moves_on : (n i : ℕ) (j : List ℕ) → i < n → (rest : List Move) × (moves n j ≡ moves i j ++ move_at j i ∷ rest)
unfolding moves
moves_on zero i j h = absurd (omega arith)
moves_on (suc n) zero j h = (moves n (drop 3 j), refl)
moves_on (suc n) (suc i) j h =
    let r = moves_on n i (drop 3 j) (omega arith) in
    (r.0, ap (λ (l : List Move). move_at j 0 ∷ l) r.1 ∙ ap (λ (a : Move). move_at j 0 ∷ moves i (drop 3 j) ++ a ∷ r.0) (move-later j i))

-- a list with a refused move in it is not accepted
pub refused_on : (ms : List Move) (s : State) (a : Move) (rest : List Move) → (cause (run s ms) a ≡ 0 → ⊥) → accepted s (ms ++ a ∷ rest) ≡ false
unfolding run accepted
refused_on [] s a rest h = rw (ne_eqb (cause s a) 0 h)
refused_on (b ∷ ms) s a rest h = rw (refused_on ms (next s b) a rest h) (none (eqb (cause s b) 0))
  where
    none : (b : Bool) → b && false ≡ false
    none true = refl
    none false = refl

-- what a run over a list of moves from a start table finds: whether all are accepted, and then the record of the state after them
pub record Made (c : Config) (ms : List Move) (all : Bool) (s : Record) : Type 0 where
  pub accepts : all ≡ accepted (start c) ms
  pub state : all ≡ true → s ≡ encode (run (start c) ms)

-- ---- the code's run, after i moves

pub record Going (c : Config) (j : List ℕ) (i : ℕ) (s : Record) : Type 0 where
  pub all : accepted (start c) (moves i j) ≡ true
  pub state : s ≡ encode (run (start c) (moves i j))

module _ (c : Config) (right : config_cause c ≡ 0) (j : List ℕ) where
  pub going_start : (s : Record) → s ≡ start_record c.P c.T c.M c.B c.stealing → Going c j 0 s
  unfolding moves run accepted
  going_start s e = record { all = refl; state = e ∙ start-shown c right }

  module _ (i : ℕ) (s : Record) (g : Going c j i s) (r : Moved)
      (e : r ≡ moved_of s (get_or j (3 * i) 0) (get_or j (3 * i + 1) 0) (get_or j (3 * i + 2) 0)) where
    made : r ≡ moved_in (run (start c) (moves i j)) (move_at j i)
    made =
        e ∙ ap (λ (x : Record). moved_of x (get_or j (3 * i) 0) (get_or j (3 * i + 1) 0) (get_or j (3 * i + 2) 0)) g.state ∙
        moved-reached c (moves i j) right g.all (move_at j i)

    pub caused : r.refusal ≡ cause (run (start c) (moves i j)) (move_at j i)
    caused = ap (λ (x : Moved). x.refusal) made

    pub going_more : r.refusal ≡ 0 → Going c j (i + 1) r.state
    going_more z =
        let n : cause (run (start c) (moves i j)) (move_at j i) ≡ 0 = sym caused ∙ z in
        record {
          all = rw (moves_more i j) (accepted_snoc (moves i j) (start c) (move_at j i) g.all n);
          state = ap (λ (x : Moved). x.state) made ∙ rw (eq-eqb (cause (run (start c) (moves i j)) (move_at j i)) 0 n, moves_more i j, run_snoc (moves i j) (start c) (move_at j i));
        }

    pub going_stop : (n : ℕ) → i < n → (r.refusal ≡ 0 → ⊥) → Made c (moves n j) false s
    going_stop n h z =
        let m = moves_on n i j h in
        record {
          accepts = sym (rw m.1 (refused_on (moves i j) (start c) (move_at j i) m.0 (λ x. z (caused ∙ x))));
          state = λ x. absurd (true≢false (sym x));
        }

  pub going_end : (n : ℕ) (s : Record) → Going c j n s → Made c (moves n j) true s
  going_end n s g = record { accepts = sym g.all; state = λ x. g.state }

-- the moves of a journal lie in its front
pub moves_front : (n : ℕ) (j : List ℕ) → 3 * n ≤ length j → moves n (take (3 * n) j) ≡ moves n j
unfolding moves
moves_front zero j h = refl
moves_front (suc n) [] h = absurd (omega arith)
moves_front (suc n) (x ∷ []) h = absurd (omega arith)
moves_front (suc n) (x ∷ y ∷ []) h = absurd (omega arith)
moves_front (suc n) (x ∷ y ∷ z ∷ j) h =
    let e : 3 * suc n ≡ suc (suc (suc (3 * n))) = omega arith in
    rw (e, moves_front n j (omega arith))

-- ---- the code's run, as a whole

module _ (c : Config) (right : config_cause c ≡ 0) (n : ℕ) (j : List ℕ) (h : 3 * n ≤ length j) where
  abbrev front : List ℕ
  front = take (3 * n) j

  front-moves : length front / 3 ≡ n
  front-moves = omega (arith, length-take (3 * n) j)

  module _ (s : Record) (e : s ≡ start_record c.P c.T c.M c.B c.stealing) where
    -- the calls are not asked for
    abbrev Keeps : ℕ → Record → List ℕ → Type 0
    Keeps i r calls = Going c front i r

    ends : Ends front Keeps n (λ i r calls g l z. going_more c right front i r g _ refl z) (run_of s front) (counted_of s front [])
    ends = rw front-moves (run_ends front Keeps n (λ i r calls g l z. going_more c right front i r g _ refl z) n 0 s [] (going_start c right front s e) (omega arith))

    pub made_all : Made c (moves n j) (eqb (run_of s front).refusal 0) (run_of s front).state
    made_all = rw (← moves_front n j h) (by (eqb (run_of s front).refusal 0) refl)
      where
        by : (b : Bool) → eqb (run_of s front).refusal 0 ≡ b → Made c (moves n front) b (run_of s front).state
        by true t =
            let z = eqb-true (run_of s front).refusal 0 t in
            going_end c right front n (run_of s front).state (subst (λ (i : ℕ). Going c front i (run_of s front).state) (ends.whole z) ends.reached)
        by false t =
            let z = eqb-false (run_of s front).refusal 0 t in
            going_stop c right front (run_of s front).made (run_of s front).state ends.reached _ refl n (ends.part z) (λ q. z (ends.cause z ∙ q))
