-- The calls that the code's run counts are each thread's progress.
-- Assumes nothing.
use Prim.Native.Nat.{ℕ, ◌+◌, ◌*◌, ◌≤◌, ◌<◌, ◌/◌}
use mathlib.Core.Bool.{Bool, true, false}
use mathlib.Core.List.{List, [], ◌∷◌, ◌++◌}
use mathlib.Core.Logic.{◌≢◌}
use mathlib.Core.Path.{◌≡◌, refl, sym, ap, ◌∙◌, subst}
use native.Mathlib.Omega.{arith}
use lib.Dec.{eqb}
use lib.ListN.{length, get_or, set, take, replicate, length-take}
use borrow.Author.Tests.{eqb-true, eq-eqb, ne_eqb, lt-ltb}
use Rattle.state.specs.declared.State.{State as Record}
use Rattle.state.specs.declared.Processor as declared
use Rattle.state.specs.Record.{processor_of}
use Rattle.state.specs.Association.{encode}
use Rattle.state.specs.Model.Access.{start_record}
use Rattle.state.proofs.Table.{tabulate-same, tabulate-all}
use Rattle.association.proofs.Tables.{tabulate-set, tabulate-read}
use Rattle.association.proofs.Shown.{read-processor}
use Rattle.shown.proofs.Regular.{Regular, regular_fits, allowed_regular}
use Rattle.shown.proofs.Reached.{reached-allowed}
use Rattle.step.specs.Model.Moves.{up_to, moved_at, run_of, noted, noted_at, counted_of}
use Rattle.step.proofs.InPlace.{Ends, run_ends}
use Rattle.agreement.proofs.View.{by-action}
use Rattle.reference.specs.Lists.{choose, tabulate}
use Rattle.reference.specs.State.{State, Line, App, row, processor_at}
use Rattle.reference.specs.Start.{Config, config_cause, start}
use Rattle.reference.specs.Step.{Move, action_of, run}
use Rattle.reference.specs.Cause.{is_go, cause, accepted}
use Rattle.reference.specs.Safe.{one_if}
use Rattle.reference.specs.Script.{call_of, progress}
use Rattle.reference.specs.Session.{moves}
use Rattle.reference.proofs.Legal.{legal}
use Rattle.reference.proofs.Moves.{accepted-length}
use Rattle.reference.proofs.Script.{progress-most, progress_snoc}
use Rattle.session.proofs.Replayed.{Going, going_start, going_more, made_all, move_at, moves_more, moves_front, caused}

-- each thread's progress
abbrev pub calls_of : Config → List Move → List ℕ
calls_of c ms = tabulate (progress (start c) ms) 0 33

-- ---- one accepted move more

module _ (c : Config) (right : config_cause c ≡ 0) (ms : List Move) (ok : accepted (start c) ms ≡ true) (a : Move) (free : cause (run (start c) ms) a ≡ 0) where
  abbrev s : State
  s = run (start c) ms

  abbrev current : ℕ
  current = (processor_at s a.processor).current

  regular : Regular s
  regular = allowed_regular s (reached-allowed c right ms ok)

  goes : eqb a.action 0 ≡ is_go (action_of a.action)
  goes = by-action (λ n x. eqb n 0 ≡ is_go x) refl refl refl refl refl refl refl a.action (legal s a free).action

  more : (k : ℕ) → progress (start c) (ms ++ a ∷ []) k ≡ progress (start c) ms k + one_if (call_of s a k)
  more k = progress_snoc ms (start c) a k

  -- a call is made at App, by a thread
  inside : is_go (action_of a.action) ≡ false → current < 33
  inside e =
      let l = legal s a free in
      let at : (processor_at s a.processor).position ≡ App = l.here.call e in
      let one : (row (processor_at s a.processor).position).current ≡ 1 = ap (λ (x : Line). (row x).current) at in
      let high : current ≤ s.T * 1 = subst (λ (n : ℕ). current ≤ s.T * n) one (regular.registers a.processor l.processor).current-high in
      omega (arith, regular.t_range)

  few_moves : length ms ≤ 4000
  unfolding start
  few_moves = omega (arith, accepted-length ms (start c) (omega arith) ok)

  call-noted : is_go (action_of a.action) ≡ false → noted (calls_of c ms) current ≡ calls_of c (ms ++ a ∷ [])
  call-noted e =
      let f : ℕ → ℕ = progress (start c) ms in
      let g : ℕ → ℕ = progress (start c) (ms ++ a ∷ []) in
      let i : current < 33 = inside e in
      let few : f current < 65535 = omega (arith, progress-most ms (start c) current, few_moves) in
      let read : get_or (calls_of c ms) current 0 ≡ f current = tabulate-read f 33 current 0 (λ l. absurd (omega arith)) in
      let here : g current ≡ up_to 65535 (get_or (calls_of c ms) current 0) =
      more current ∙ rw (e, eq-eqb current current refl, read, lt-ltb (f current) 65535 few) in
      let others : (k : ℕ) → k < 33 → k ≢ current → g k ≡ f k =
      λ k l z. more k ∙ rw (e, ne_eqb current k (λ w. z (sym w))) (omega arith) in
      ap (set (calls_of c ms) current) (sym here) ∙ sym (tabulate-set f g 33 current i others)

  go-noted : is_go (action_of a.action) ≡ true → calls_of c ms ≡ calls_of c (ms ++ a ∷ [])
  go-noted e = tabulate-same _ _ 0 33 (λ k x y. sym (more k ∙ rw e (omega arith)))

  pub noted_more : choose (eqb a.action 0) (calls_of c ms) (noted (calls_of c ms) (processor_of (encode s) a.processor).current) ≡ calls_of c (ms ++ a ∷ [])
  noted_more =
      ap (λ (r : declared.Processor). choose (eqb a.action 0) (calls_of c ms) (noted (calls_of c ms) r.current))
      (read-processor s (regular_fits s regular) a.processor) ∙
      ap (λ (b : Bool). choose b (calls_of c ms) (noted (calls_of c ms) current)) goes ∙ by (is_go (action_of a.action)) refl
    where
      by : (b : Bool) → is_go (action_of a.action) ≡ b → choose b (calls_of c ms) (noted (calls_of c ms) current) ≡ calls_of c (ms ++ a ∷ [])
      by true e = go-noted e
      by false e = call-noted e

-- ---- a whole run

module _ (c : Config) (right : config_cause c ≡ 0) (n : ℕ) (j : List ℕ) (h : 3 * n ≤ length j) where
  abbrev front : List ℕ
  front = take (3 * n) j

  pub record Counting (i : ℕ) (s : Record) (calls : List ℕ) : Type 0 where
    pub going : Going c front i s
    pub calls_are : calls ≡ calls_of c (moves i front)

  counting_more : (i : ℕ) (s : Record) (calls : List ℕ) → Counting i s calls → i < n → (moved_at s front i).refusal ≡ 0 →
      Counting (i + 1) (moved_at s front i).state (noted_at s front i calls)
  counting_more i s calls g l z =
      let ms : List Move = moves i front in
      let a : Move = move_at front i in
      let free : cause (run (start c) ms) a ≡ 0 = sym (caused c right front i s g.going _ refl) ∙ z in
      record {
        going = going_more c right front i s g.going _ refl z;
        calls_are =
            (λ d.
            choose (eqb a.action 0) (g.calls_are d) (noted (g.calls_are d) (processor_of (g.going.state d) a.processor).current)) ∙
            noted_more c right ms g.going.all a free ∙ ap (calls_of c) (sym (moves_more i front));
      }

  module _ (s : Record) (e : s ≡ start_record c.P c.T c.M c.B c.stealing) where
    front-moves : length front / 3 ≡ n
    front-moves = omega (arith, length-take (3 * n) j)

    begins : Counting 0 s (replicate 33 0)
    unfolding moves progress
    begins = record { going = going_start c right front s e; calls_are = tabulate-all 0 (progress (start c) (moves 0 front)) 0 33 (λ i x. refl) }

    ends : Ends front Counting n counting_more (run_of s front) (counted_of s front (replicate 33 0))
    ends = rw front-moves (run_ends front Counting n counting_more n 0 s (replicate 33 0) begins (omega arith))

    pub counted_is : accepted (start c) (moves n j) ≡ true → counted_of s front (replicate 33 0) ≡ calls_of c (moves n j)
    counted_is ok =
        let z : (run_of s front).refusal ≡ 0 = eqb-true (run_of s front).refusal 0 ((made_all c right n j h s e).accepts ∙ ok) in
        ends.reached.calls_are ∙ ap (λ (i : ℕ). calls_of c (moves i front)) (ends.whole z) ∙ ap (calls_of c) (moves_front n j h)
