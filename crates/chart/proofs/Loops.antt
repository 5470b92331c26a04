-- What loops put on a page, and the chart.
-- Assumes nothing.
use Prim.Native.Nat.{ℕ, suc, ◌+◌, ◌-◌, ◌*◌, ◌≤◌, ◌<◌}
use native.Mathlib.Omega.{arith}
use mathlib.Core.Bool.{true}
use mathlib.Core.List.{List, [], ◌∷◌, ◌++◌}
use mathlib.Core.Path.{◌≡◌, refl, sym, ap, ◌∙◌, subst}
use lib.ListN.{get_or, drop}
use lib.Seq.{get_or-drop, drop-drop}
use borrow.Author.Tests.{eq-eqb}
use Rattle.std.specs.Prelude.{Result, Ok, Err}
use Rattle.std.specs.Result.{result_unwrap_or}
use Rattle.command.specs.Printing.{decimal, line_feed}
use Rattle.session.specs.Contract.{config_of, standing, test_refusal, tested, tested_of}
use Rattle.session.proofs.Reached.{moved-reached}
use Rattle.session.proofs.Testing.{tested-number}
use Rattle.session.proofs.Holding.{test_agrees}
use Rattle.step.specs.Model.Moves.{Moved, moved_of, moved_shown}
use Rattle.state.specs.declared.State.{State as Record}
use Rattle.state.specs.declared.Session.{Session}
use Rattle.state.specs.declared.refusal.Refusal.{Refusal}
use Rattle.state.specs.Refusal.{number}
use Rattle.state.specs.Association.{encode, decode}
use Rattle.state.specs.Model.Access.{start_record}
use Rattle.state.proofs.Started.{start-shown}
use Rattle.state.proofs.Refused.{not_none}
use Rattle.state.proofs.Branch.{if_none, if_some}
use Rattle.reference.specs.State.{State}
use Rattle.reference.specs.Start.{Config, config_cause, start}
use Rattle.reference.specs.Step.{Move, move_of, next, run}
use Rattle.reference.specs.Cause.{cause, accepted}
use Rattle.reference.specs.Session.{moves}
use Rattle.reference.proofs.Legal.{accepted_cons}
use Rattle.reference.proofs.Moves.{run_snoc, accepted_snoc}
use Rattle.chart.specs.Chart.{row, heading, moves_chart, chart_text}
use Rattle.chart.specs.Model.Made.{after, made_chart}

-- ---- moves of a journal

module _ (n : ℕ) (j : List ℕ) where
  -- those after the first i
  unfoldable pub moves_left : ℕ → List Move
  moves_left i = moves (n - i) (drop (3 * i) j)

  pub moves_all : moves_left 0 ≡ moves n j
  unfolding moves_left
  moves_all = let e : n - 0 ≡ n = omega arith in rw e

  pub moves_next : (i : ℕ) → i < n → moves_left i ≡ move_of (get_or j (3 * i) 0) (get_or j (3 * i + 1) 0) (get_or j (3 * i + 2) 0) ∷ moves_left (i + 1)
  unfolding moves_left moves
  moves_next i h =
      let e : n - i ≡ suc (n - (i + 1)) = omega arith in
      let z : 3 * i + 0 ≡ 3 * i = omega arith in
      let s : 3 * i + 3 ≡ 3 * (i + 1) = omega arith in
      rw (e, get_or-drop (3 * i) j 0 0, get_or-drop (3 * i) j 1 0, get_or-drop (3 * i) j 2 0, drop-drop 3 (3 * i) j, z, s)

  pub moves_none : (i : ℕ) → n ≤ i → moves_left i ≡ []
  unfolding moves_left moves
  moves_none i h = let e : n - i ≡ 0 = omega arith in rw e

-- ---- rows of moves

pub chart_none : (count : ℕ) (s : Record) → made_chart count s [] ≡ []
unfolding made_chart
chart_none count s = refl

-- one more move made again, and its row
pub chart_more : (count : ℕ) (s : Record) (n i : ℕ) (j : List ℕ) (p a o : ℕ) → i < n → p ≡ get_or j (3 * i) 0 → a ≡ get_or j (3 * i + 1) 0 → o ≡ get_or j (3 * i + 2) 0
    → made_chart count s (moves_left n j i) ≡ row s (move_of p a o) (after s (move_of p a o)) count ++ made_chart count (after s (move_of p a o)) (moves_left n j (i + 1))
unfolding made_chart
chart_more count s n i j p a o h ep ea eo = rw (ep, ea, eo, moves_next n j i h)

-- refused, the state stays
pub after_shown : (s : Record) (x : Result Record Refusal) (p a o : ℕ) → moved_shown s x ≡ moved_of s p a o → result_unwrap_or x s ≡ after s (move_of p a o)
unfolding moved_shown
after_shown s (Ok t) p a o e = ap (λ m. m.state) e
after_shown s (Err r) p a o e = ap (λ m. m.state) e

pub ruleset moves_steps = (moves_all, moves_none, chart_none, chart_more, after_shown)

-- moves that are accepted one after the other are made as by the reference machine
chart-made : (count : ℕ) (c : Config) → config_cause c ≡ 0 → (ms done : List Move) → accepted (start c) done ≡ true → accepted (run (start c) done) ms ≡ true
    → made_chart count (encode (run (start c) done)) ms ≡ moves_chart count (run (start c) done) ms
unfolding made_chart moves_chart
chart-made count c right [] done ok all = refl
chart-made count c right (a ∷ ms) done ok all =
    let s : State = run (start c) done in
    let t = accepted_cons s a ms all in
    let on : run (start c) (done ++ a ∷ []) ≡ next s a = run_snoc done (start c) a in
    let made : after (encode s) a ≡ encode (next s a) = ap (λ (m : Moved). m.state) (moved-reached c done right ok a) ∙ rw (eq-eqb (cause s a) 0 t.0) in
    let rest : made_chart count (encode (next s a)) ms ≡ moves_chart count (next s a) ms =
    subst (λ (e : State). made_chart count (encode e) ms ≡ moves_chart count e ms) on
    (chart-made count c right ms (done ++ a ∷ []) (accepted_snoc done (start c) a ok t.0) (ap (λ (e : State). accepted e ms) on ∙ t.1)) in
    rw (made, rest)

-- ---- the chart of a session

module _ (r : Session) (j : List ℕ) where
  -- refused, the number
  pub chart_refused : (e : Refusal) → tested_of (Err e) ≡ tested r j → chart_text r j ≡ decimal (number e) ++ line_feed
  unfolding chart_text tested_of
  chart_refused e t =
      let n : number e ≡ test_refusal r j = tested-number r j _ t in
      rw n (if_some (test_refusal r j) _ _ (λ z. not_none e (n ∙ z)))

  pub chart_taken : (calls : List ℕ) (s : Record) → tested_of (Ok calls) ≡ tested r j → s ≡ start_record r.state.p r.state.t r.state.m r.initial r.state.stealing
      → chart_text r j ≡ heading r.state.p ++ made_chart r.state.p s (moves r.state.applied j) ++ line_feed
  unfolding chart_text tested_of decode run accepted
  chart_taken calls s t f =
      let free : test_refusal r j ≡ 0 = sym (tested-number r j _ t) in
      let a = test_agrees r j free in
      let rows = ap (λ (q : Record). made_chart r.state.p q (moves r.state.applied j)) (f ∙ start-shown (config_of r) a.config) ∙
      chart-made r.state.p (config_of r) a.config (standing r j) [] refl a.legal in
      if_none (test_refusal r j) _ _ free ∙ ap (λ (l : List ℕ). heading r.state.p ++ l ++ line_feed) (sym rows)

pub ruleset chart_steps = (chart_refused, chart_taken)
