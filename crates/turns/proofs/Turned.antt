-- One turn: what the code makes of a record's registers and counts is the reference machine's turn.
-- Assumes nothing.
use Prim.Native.Nat.{ℕ, ◌<◌}
use mathlib.Core.Bool.{Bool, true, false}
use mathlib.Core.List.{List, [], ◌∷◌, ◌++◌}
use mathlib.Core.Path.{◌≡◌, refl, sym, ap, ◌∙◌}
use native.Mathlib.Omega.{arith}
use lib.Dec.{eqb, ltb}
use Rattle.std.proofs.Common.{Ok, Err}
use Rattle.state.specs.declared.refusal.Refusal.{Refusal}
use Rattle.state.specs.Refusal.{number}
use Rattle.state.proofs.Refused.{numbered}
use borrow.Author.Tests.{eqb-true}
use Rattle.state.specs.declared.Processor.{Processor}
use Rattle.state.specs.declared.State.{State as Record}
use Rattle.state.specs.Record.{processor_of, Sized}
use Rattle.state.specs.Association.{encode, decode, processor_record}
use Rattle.state.specs.Rules.{state_ok}
use Rattle.association.proofs.Shown.{read-processor}
use Rattle.association.proofs.Tables.{tabulate-read}
use Rattle.shown.proofs.Kept.{state-kept, fields_say, processor-says, facts}
use Rattle.shown.proofs.Regular.{regular_fits, allowed_regular}
use Rattle.shown.proofs.Encode.{encode-decode, decode-allowed}
use Rattle.shown.proofs.Unique.{encode_sized}
use Rattle.step.specs.Model.Moves.{Moved, moved_shown, moved_of, noted}
use Rattle.reference.specs.Lists.{choose, in_range, tabulate}
use Rattle.reference.specs.State.{State, processor_at}
use Rattle.reference.specs.Start.{Config, config_cause, start}
use Rattle.reference.specs.Step.{Move, move_of, next, run}
use Rattle.reference.specs.Cause.{at_app, cause, accepted}
use Rattle.reference.specs.Script.{script_length, script_action, script_operand, next_call, turn_move, progress, turned, turn_cause, turn_after}
use Rattle.reference.proofs.Tests.{range_true}
use Rattle.reference.proofs.Moves.{run_snoc}
use Rattle.session.proofs.Shown.{state-right, state-back}
use Rattle.session.proofs.Reached.{moved_in, moved-reached}
use Rattle.session.proofs.Counted.{calls_of, noted_more}
use Rattle.session.specs.Model.Replay.{stored}
use Rattle.turns.specs.Model.Turn.{Made, turn_of, made_by, turn_result, Takes}

-- ---- the move of a turn, on a record that keeps the rules

module _ (r : Record) (z : Sized r) (k : state_ok r ≡ true) (p : ℕ) where
  registers : processor_of r p ≡ processor_record (processor_at (decode r) p)
  registers =
      ap (λ (x : Record). processor_of x p) (sym (encode-decode r z k)) ∙
      read-processor (decode r) (regular_fits (decode r) (allowed_regular (decode r) (decode-allowed r z k))) p

  small : (processor_of r p).current < 33
  small = by (in_range 1 r.p p) refl
    where
      by : (b : Bool) → in_range 1 r.p p ≡ b → (processor_of r p).current < 33
      by true e =
          let f = fields_say r (state-kept r k).fields in
          omega (arith, f.t_range, (processor-says r (processor_of r p) (f.processor p (range_true 1 r.p p e))).1)
      by false e = omega (arith, ap (λ (x : Processor). x.current) ((facts r z (state-kept r k)).no_processor p e))

  pub turn_is : (made : ℕ → ℕ) (x : List ℕ) → turn_of (processor_of r p) (tabulate made 0 33) x p ≡ turn_move (decode r) made x p
  unfolding turn_move
  turn_is made x =
      ap (λ (n : ℕ). choose (eqb (processor_of r p).position 0) (next_call x p (processor_of r p).current n) (move_of p 0 0))
      (tabulate-read made 33 (processor_of r p).current 0 (λ l. absurd (omega (arith, small)))) ∙
      ap (λ (q : Processor). choose (eqb q.position 0) (next_call x p q.current (made q.current)) (move_of p 0 0)) registers

-- a turn's move is one of its processor
pub its_own : (s : State) (made : ℕ → ℕ) (x : List ℕ) (p : ℕ) → move_of p (turn_move s made x p).action (turn_move s made x p).operand ≡ turn_move s made x p
unfolding turn_move
its_own s made x p = by (at_app s p) (call-own (processor_at s p).current (made (processor_at s p).current))
  where
    own_choice : (b : Bool) (a o : ℕ) →
        move_of p (choose b (move_of p a o) (move_of p 5 0)).action (choose b (move_of p a o) (move_of p 5 0)).operand ≡ choose b (move_of p a o) (move_of p 5 0)
    own_choice true a o = refl
    own_choice false a o = refl

    call-own : (k i : ℕ) → move_of p (next_call x p k i).action (next_call x p k i).operand ≡ next_call x p k i
    call-own k i = own_choice (ltb i (script_length x k)) (script_action x k i) (script_operand x k i)

    by : (b : Bool) {m : Move} → move_of p m.action m.operand ≡ m → move_of p (choose b m (move_of p 0 0)).action (choose b m (move_of p 0 0)).operand ≡ choose b m (move_of p 0 0)
    by true e = e
    by false e = refl

-- ---- what the code makes of it

module _ (s : Record) (calls j x : List ℕ) (p : ℕ) (m : Move) (e : m ≡ turn_of (processor_of s p) calls x p) where
  result_is : (made : Moved) → made ≡ moved_of s p m.action m.operand →
      turn_result s calls x p ≡
      record {
        refusal = made.refusal;
        action = m.action;
        operand = m.operand;
        state = made.state;
        calls = choose (eqb made.refusal 0) (choose (eqb m.action 0) calls (noted calls (processor_of s p).current)) calls;
      }
  unfolding turn_result
  result_is made is =
      ap (made_by s calls p) (sym e) ∙
      ap
      (λ (q : Moved).
      record {
        refusal = q.refusal;
        action = m.action;
        operand = m.operand;
        state = q.state;
        calls = choose (eqb q.refusal 0) (choose (eqb m.action 0) calls (noted calls (processor_of s p).current)) calls;
      }) (sym is)

  pub turn_refused : (refusal : Refusal) → moved_shown s (Err refusal) ≡ moved_of s p m.action m.operand → Takes s calls j x p (number refusal) s calls j
  unfolding moved_shown
  turn_refused refusal is =
      let t = result_is (record { refusal = number refusal; state = s }) is in
      record { number = rw t; state = rw t; counts = rw (t, numbered refusal); journal = rw (t, numbered refusal) }

  pub turn_accepted : (after : Record) → moved_shown s (Ok after) ≡ moved_of s p m.action m.operand →
      Takes s calls j x p 0 after (choose (eqb m.action 0) calls (noted calls (processor_of s p).current)) (stored j s.applied (move_of p m.action m.operand))
  unfolding moved_shown
  turn_accepted after is =
      let t = result_is (record { refusal = 0; state = after }) is in
      record { number = rw t; state = rw t; counts = rw t; journal = rw t }

-- ---- a turn on the record of a state that accepted moves give, with their calls counted

module _ (c : Config) (right : config_cause c ≡ 0) (ms : List Move) (ok : accepted (start c) ms ≡ true) (x : List ℕ) (p : ℕ) where
  abbrev s : State
  s = run (start c) ms

  abbrev a : Move
  a = turned c x ms p

  move-is : turn_of (processor_of (encode s) p) (calls_of c ms) x p ≡ a
  move-is =
      turn_is (encode s) (encode_sized s) (state-right c ms right ok) p (progress (start c) ms) x ∙
      ap (λ (e : State). turn_move e (progress (start c) ms) x p) (state-back c ms right ok)

  made-is : moved_of (encode s) p a.action a.operand ≡ moved_in s a
  made-is = moved-reached c ms right ok (move_of p a.action a.operand) ∙ ap (moved_in s) (its_own s (progress (start c) ms) x p)

  pub record Turn (t : Made) : Type 0 where
    pub refusal : t.refusal ≡ turn_cause c x ms p
    pub move : move_of p t.action t.operand ≡ turned c x ms p
    pub state : t.state ≡ encode (run (start c) (turn_after c x ms p))
    pub calls : t.calls ≡ calls_of c (turn_after c x ms p)

  after-state : (b : Bool) → eqb (cause s a) 0 ≡ b → choose b (encode (next s a)) (encode s) ≡ encode (run (start c) (choose b (ms ++ a ∷ []) ms))
  after-state true e = ap encode (sym (run_snoc ms (start c) a))
  after-state false e = refl

  after-calls : (b : Bool) → eqb (cause s a) 0 ≡ b →
      choose b (choose (eqb a.action 0) (calls_of c ms) (noted (calls_of c ms) (processor_of (encode s) p).current)) (calls_of c ms) ≡
      calls_of c (choose b (ms ++ a ∷ []) ms)
  after-calls true e =
      ap (λ (m : Move). choose (eqb a.action 0) (calls_of c ms) (noted (calls_of c ms) (processor_of (encode s) m.processor).current))
      (its_own s (progress (start c) ms) x p) ∙
      noted_more c right ms ok a (eqb-true (cause s a) 0 e)
  after-calls false e = refl

  taken-turn : Turn (made_by (encode s) (calls_of c ms) p a)
  taken-turn =
      record {
        refusal = ap (λ (m : Moved). m.refusal) made-is;
        move = its_own s (progress (start c) ms) x p;
        state = ap (λ (m : Moved). m.state) made-is ∙ after-state (eqb (cause s a) 0) refl;
        calls =
            ap
            (λ (m : Moved).
            choose (eqb m.refusal 0) (choose (eqb a.action 0) (calls_of c ms) (noted (calls_of c ms) (processor_of (encode s) p).current)) (calls_of c ms))
            made-is ∙
            after-calls (eqb (cause s a) 0) refl;
      }

  pub turn-taken : (t : Made) → t ≡ turn_result (encode s) (calls_of c ms) x p → Turn t
  unfolding turn_result
  turn-taken t e = rw (e ∙ ap (made_by (encode s) (calls_of c ms) p) move-is) taken-turn
