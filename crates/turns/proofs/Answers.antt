-- What a scripted start, a turn and a class answer, case by case: the shape in which their code arrives at it.
-- Assumes nothing.
use Prim.Native.Nat.{ℕ, zero, suc, ◌*◌, ◌/◌, ◌≤◌, ◌<◌}
use mathlib.Core.Bool.{Bool, true, false, ◌||◌, not}
use mathlib.Core.List.{List}
use mathlib.Core.Path.{◌≡◌, refl, sym, ap, ◌∙◌}
use native.Mathlib.Decide.{dec_le}
use native.Mathlib.Nat.{div-lt_iff_lt-mul}
use native.Mathlib.Omega.{arith}
use lib.Dec.{eqb, ltb}
use lib.ListN.{length}
use borrow.Author.Tests.{not-false, lt-ltb, le-ltb, ltb-true, ltb-false}
use Rattle.state.specs.declared.State.{State as Record}
use Rattle.state.specs.declared.Session.{Session}
use Rattle.state.specs.Record.{zero_session, processor_of, Sized}
use Rattle.state.specs.Association.{encode, decode, session_record}
use Rattle.state.specs.declared.refusal.Refusal.{Refusal}
use Rattle.state.specs.Refusal.{number}
use Rattle.state.proofs.Refused.{numbered, not_none}
use Rattle.std.proofs.Common.{Ok, Err}
use Rattle.touch.specs.declared.Made as code
use Rattle.touch.specs.Association.{touch_record}
use Rattle.touch.specs.Model.Made as single
use Rattle.touch.specs.Model.Made.{made_of, made_shown}
use Rattle.reference.specs.Refusal.{refuse}
use Rattle.reference.specs.Lists.{choose}
use Rattle.reference.specs.Start.{Config, config_cause}
use Rattle.reference.specs.Step.{Move}
use Rattle.reference.specs.Touch.{Touch, nothing}
use Rattle.reference.specs.Script.{scripts_ok, scripts_cause}
use Rattle.reference.specs.Session.{state_of, lacks_room}
use Rattle.reference.proofs.Laws.{applied-is}
use Rattle.reference.proofs.Tests.{passed}
use Rattle.session.specs.Contract.{Answer, MoveAnswer, Tested, answer_of, move_answer_of, tested_of, config_of, started, or_later, lent_refusal, matches, test_refusal, tested, progress_in, move_refusal, moved, journal_after}
use Rattle.session.specs.Model.Replay.{stored, continued}
use Rattle.session.proofs.Answers.{or_passed, or_first, continued_same, lent_passed, test_passed, made_answer, made_journal}
use Rattle.session.proofs.Found.{state-right}
use Rattle.session.proofs.Testing.{tested-calls}
use Rattle.turns.specs.Contract.{scripted, turn_made, turn_refusal, turned, turn_journal, class_refusal, class_made, class_kept, classed, class_journal, answers_after, pictures_after}
use Rattle.turns.specs.Model.Turn.{turn_of, Ready, Given}
use Rattle.turns.proofs.Turned.{turn_is}

-- a cause that is one hides the later ones
pub refused_first : (e : Refusal) (m k : ℕ) → number e ≡ m → number e ≡ or_later m k
refused_first e m k h = or_first (number e) m k h (not_none e)

-- scripts that are not refused
in_order : (t : ℕ) (x : List ℕ) → 0 ≡ scripts_cause t x → scripts_ok t x ≡ true
in_order t x h = not-false (scripts_ok t x) (passed (not (scripts_ok t x)) _ _ (sym h)).0

-- ---- scripted start

module _ (c : Config) (x : List ℕ) where
  pub start-refused : (e : Refusal) → answer_of zero_session (Err e) ≡ started c → answer_of zero_session (Err e) ≡ scripted c x
  unfolding answer_of started scripted
  start-refused e h =
      let n = refused_first e (config_cause c) (scripts_cause c.T x) (ap (λ (a : Answer). a.refusal) h) in rw (← n, numbered e)

  module _ (s : Session) (h : answer_of zero_session (Ok s) ≡ started c) where
    right : 0 ≡ config_cause c
    unfolding answer_of started
    right = ap (λ (a : Answer). a.refusal) h

    pub start_unscripted : (e : Refusal) → number e ≡ scripts_cause c.T x → answer_of zero_session (Err e) ≡ scripted c x
    unfolding answer_of scripted
    start_unscripted e m = rw (← right, ← m, numbered e)

    pub start-taken : 0 ≡ scripts_cause c.T x → answer_of zero_session (Ok s) ≡ scripted c x
    unfolding started scripted
    start-taken m = h ∙ rw (← right, ← m)

-- ---- turn

module _ (r : Session) (j x : List ℕ) (p : ℕ) where
  -- a refused turn: the number, the record handed in, and the journal as it was
  pub record Kept (e : Refusal) : Type 0 where
    pub answer : move_answer_of r (Err e) ≡ turned r j x p
    pub journal : j ≡ turn_journal r j x p

  turn_kept : (e : Refusal) → number e ≡ turn_refusal r j x p → Kept e
  unfolding move_answer_of turned turn_journal
  turn_kept e n = record { answer = rw (← n, numbered e); journal = rw (← n, numbered e) }

  -- 10, 15 or 16
  pub turn_untested : (e : Refusal) → tested_of (Err e) ≡ tested r j → Kept e
  unfolding tested_of tested turn_refusal
  turn_untested e h = turn_kept e (refused_first e (test_refusal r j) _ (ap (λ (t : Tested). t.refusal) h))

  module _ (calls : List ℕ) (found : tested_of (Ok calls) ≡ tested r j) where
    passes : test_refusal r j ≡ 0
    unfolding tested_of tested
    passes = sym (ap (λ (t : Tested). t.refusal) found)

    pub turn_unscripted : (e : Refusal) → number e ≡ scripts_cause r.state.t x → Kept e
    unfolding turn_refusal
    turn_unscripted e m = turn_kept e (rw passes (refused_first e (scripts_cause r.state.t x) _ m))

    module _ (fit : 0 ≡ scripts_cause r.state.t x) where
      its_number : turn_refusal r j x p ≡ move_refusal r j (turn_made r j x p)
      unfolding turn_refusal
      its_number = rw (passes, ← fit)

      -- a turn is its move
      turn_moved : moved r j (turn_made r j x p) ≡ turned r j x p
      unfolding moved turned
      turn_moved = rw its_number (by (eqb (move_refusal r j (turn_made r j x p)) 0) _ _ _)
        where
          by : (b : Bool) (n : ℕ) (s : Session) (t : Touch) →
              ◌≡◌ {A = MoveAnswer} (record { refusal = n; session = choose b s r; touch = touch_record (choose b t nothing) })
              (record { refusal = n; session = choose b (choose b s r) r; touch = touch_record (choose b t nothing) })
          by true n s t = refl
          by false n s t = refl

      turn_written : journal_after r j (turn_made r j x p) ≡ turn_journal r j x p
      unfolding journal_after turn_journal
      turn_written = rw its_number (by (eqb (move_refusal r j (turn_made r j x p)) 0) _)
        where
          by : (b : Bool) (k : List ℕ) → choose b k j ≡ choose b (choose b k j) j
          by true k = refl
          by false k = refl

      -- the move that the code makes, with the calls that the test counted
      module _ (size : Sized r.state) (m : Move) (is : m ≡ turn_of (processor_of r.state p) calls x p) where
        are : calls ≡ (tested r j).calls
        unfolding tested_of
        are = ap (λ (t : Tested). t.calls) found

        move-is : m ≡ turn_made r j x p
        move-is =
            let keeps = state-right r (lent_passed r (length j) (test_passed r j passes).0).1 in
            is ∙ ap (λ (l : List ℕ). turn_of (processor_of r.state p) l x p) (are ∙ tested-calls r j passes) ∙ turn_is r.state size keeps p (progress_in r j) x

        module _ (made : single.Made) (e : made ≡ made_of r.state m.processor m.action m.operand) where
          reached : made ≡ made_of r.state (turn_made r j x p).processor (turn_made r j x p).action (turn_made r j x p).operand
          reached = e ∙ ap (λ (a : Move). made_of r.state a.processor a.action a.operand) move-is

          answer : record { refusal = made.refusal; session = continued r made.state; touch = made.touch } ≡ turned r j x p
          answer = made_answer r j (turn_made r j x p) size passes made reached ∙ turn_moved

          journal : choose (eqb made.refusal 0) (stored j r.state.applied m) j ≡ turn_journal r j x p
          journal =
              ap (λ (a : Move). choose (eqb made.refusal 0) (stored j r.state.applied a) j) move-is ∙ made_journal r j (turn_made r j x p) size passes made reached ∙
              turn_written

        pub turn_refused : (e : Refusal) → made_shown r.state (Err e) ≡ made_of r.state m.processor m.action m.operand → Kept e
        unfolding made_shown move_answer_of
        turn_refused e h =
            let made : single.Made = record { refusal = number e; state = r.state; touch = touch_record nothing } in
            record {
              answer = ap (λ (s : Session). record { refusal = number e; session = s; touch = touch_record nothing }) (sym (continued_same r)) ∙ answer made h;
              journal = rw (numbered e) at (journal made h);
            }

        pub turn_accepted : (made : code.Made) → made_shown r.state (Ok made) ≡ made_of r.state m.processor m.action m.operand →
            (move_answer_of r (Ok (record { session = continued r made.state; touch = made.touch })) ≡ turned r j x p) × (stored j r.state.applied m ≡ turn_journal r j x p)
        unfolding made_shown move_answer_of
        turn_accepted made h =
            let all : single.Made = record { refusal = 0; state = made.state; touch = made.touch } in (answer all h, journal all h)

-- ---- class

-- a quotient is below n where the number is below n times the divisor
room_is : (b s n : ℕ) → 0 < s → ltb (b / s) n ≡ ltb b (n * s)
room_is b s n pos = by (ltb b (n * s)) refl
  where
    not_below : (m n : ℕ) → (m < n → ⊥) → n ≤ m
    not_below m n h = elim (dec_le n m) [ yes p ↦ p | no p ↦ absurd (h (omega arith)) ]

    by : (t : Bool) → ltb b (n * s) ≡ t → ltb (b / s) n ≡ t
    by true e = lt-ltb (b / s) n ((div-lt_iff_lt-mul pos).1 (ltb-true b (n * s) e))
    by false e = le-ltb (b / s) n (not_below (b / s) n (λ h. absurd (omega (arith, (div-lt_iff_lt-mul pos).0 h, ltb-false b (n * s) e))))

-- the buffers have no room, or they have
module _ (m : ℕ) (free : m ≡ 0) (a b n s k : ℕ) (is : k ≡ s) (pos : 0 < s) where
  pub unfit_some : ltb a n || ltb (b / k) n ≡ true → 10 ≡ or_later m (refuse (ltb a n || ltb b (n * s)) 10 0)
  unfit_some e = rw (free, ← room_is b s n pos, ← is, e)

  pub unfit_none : ltb a n || ltb (b / k) n ≡ false → 0 ≡ or_later m (refuse (ltb a n || ltb b (n * s)) 10 0)
  unfit_none e = rw (free, ← room_is b s n pos, ← is, e)

module _ (r : Session) (j x ps answers pictures : List ℕ) where
  -- refused as a whole
  pub record ClassKept (e : Refusal) : Type 0 where
    pub answer : answer_of r (Err e) ≡ classed r j x ps answers pictures
    pub journal : j ≡ class_journal r j x ps answers pictures
    pub numbers : answers ≡ answers_after r j x ps answers pictures
    pub pictured : pictures ≡ pictures_after r j x ps answers pictures

  class-refused : (e : Refusal) → number e ≡ class_refusal r j x ps answers pictures → ClassKept e
  unfolding answer_of classed class_journal answers_after pictures_after
  class-refused e n =
      let z = numbered e in
      record { answer = rw (← n, z); journal = rw (← n, z); numbers = rw (← n, z); pictured = rw (← n, z) }

  abbrev full : Bool
  full = lacks_room (config_of r) (length ps) answers pictures

  -- 10, 15 or 10
  pub class_unfit : (e : Refusal) → number e ≡ or_later (lent_refusal r (length j)) (refuse full 10 0) → ClassKept e
  unfolding class_refusal
  class_unfit e h = class-refused e (h ∙ by (lent_refusal r (length j)) full _ (λ z. not_none e (h ∙ z)))
    where
      by : (m : ℕ) (b : Bool) (k : ℕ) → (or_later m (refuse b 10 0) ≡ 0 → ⊥) → or_later m (refuse b 10 0) ≡ or_later m (refuse b 10 k)
      by zero true k z = refl
      by zero false k z = absurd (z refl)
      by (suc m) b k z = refl

  module _ (fits : 0 ≡ or_later (lent_refusal r (length j)) (refuse full 10 0)) where
    free : lent_refusal r (length j) ≡ 0
    free = (or_passed (lent_refusal r (length j)) (refuse full 10 0) (sym fits)).0

    room : full ≡ false
    room = (passed full _ _ (or_passed (lent_refusal r (length j)) (refuse full 10 0) (sym fits)).1).0

    number_is : class_refusal r j x ps answers pictures ≡ refuse (not (matches r j)) 16 (scripts_cause r.state.t x)
    unfolding class_refusal
    number_is = rw (free, room)

    test_is : (tested r j).refusal ≡ refuse (not (matches r j)) 16 0
    unfolding tested test_refusal
    test_is = rw free

    -- 16
    pub class_strange : (e : Refusal) → tested_of (Err e) ≡ tested r j → ClassKept e
    unfolding tested_of
    class_strange e h =
        let n : number e ≡ refuse (not (matches r j)) 16 0 = ap (λ (t : Tested). t.refusal) h ∙ test_is in
        class-refused e (n ∙ by (not (matches r j)) _ (λ z. not_none e (n ∙ z)) ∙ sym number_is)
      where
        by : (b : Bool) (k : ℕ) → (refuse b 16 0 ≡ 0 → ⊥) → refuse b 16 0 ≡ refuse b 16 k
        by true k z = refl
        by false k z = absurd (z refl)

    module _ (calls : List ℕ) (found : tested_of (Ok calls) ≡ tested r j) where
      untested : (tested r j).refusal ≡ 0
      unfolding tested_of
      untested = sym (ap (λ (t : Tested). t.refusal) found)

      replays_true : not (matches r j) ≡ false
      replays_true = (passed (not (matches r j)) _ _ (sym test_is ∙ untested)).0

      -- 19
      pub class_unscripted : (e : Refusal) → number e ≡ scripts_cause r.state.t x → ClassKept e
      class_unscripted e m = class-refused e (m ∙ sym (number_is ∙ rw replays_true))

      -- what the turns start from
      pub class_ready : 0 ≡ scripts_cause r.state.t x → Ready r calls j x ps answers pictures
      unfolding tested_of tested
      class_ready m =
          record {
            none = number_is ∙ rw replays_true (sym m);
            counted = ap (λ (t : Tested). t.calls) found ∙ tested-calls r j untested;
          }

-- what the turns gave: as many moves are kept as stand, or as before where none is made
given_kept : (r : Session) (j x ps answers pictures : List ℕ) (s : Record) → s ≡ encode (state_of (config_of r) (class_made r j x ps answers pictures)) →
    continued r s ≡ session_record (state_of (config_of r) (class_made r j x ps answers pictures)) r.initial (class_kept r j x ps answers pictures)
unfolding encode decode
given_kept r j x ps answers pictures s e =
    let ms : List Move = class_made r j x ps answers pictures in
    ap (continued r) e ∙
    ap (λ (n : ℕ). record { state = encode (state_of (config_of r) ms); initial = r.initial; kept = choose (eqb n r.state.applied) r.kept n }) (applied-is (config_of r) ms)

-- what the turns gave is what the class answers
pub class_given : (r : Session) (j x ps answers pictures : List ℕ) → class_refusal r j x ps answers pictures ≡ 0 → (s : Record) (j' answers' pictures' : List ℕ) →
    Given r j x ps answers pictures s j' answers' pictures' →
    (answer_of r (Ok (continued r s)) ≡ classed r j x ps answers pictures) × (j' ≡ class_journal r j x ps answers pictures) ×
    (answers' ≡ answers_after r j x ps answers pictures) × (pictures' ≡ pictures_after r j x ps answers pictures)
unfolding answer_of classed class_journal answers_after pictures_after
class_given r j x ps answers pictures none s j' answers' pictures' g = (
  rw none (ap (λ (z : Session). record { refusal = 0; session = z }) (given_kept r j x ps answers pictures s g.state)),
  rw (none, g.journal),
  rw (none, g.numbers),
  rw (none, g.pictured),
)
