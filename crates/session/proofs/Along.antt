-- Moves made one after the other on a session, each with the record and the journal that the last one left: their numbers and the record are the reference machine's.
-- Assumes nothing.
use Prim.Native.Nat.{ℕ, ◌≤◌}
use mathlib.Core.Bool.{Bool, true, false}
use mathlib.Core.List.{List, [], ◌∷◌, ◌++◌}
use mathlib.Core.Path.{◌≡◌, refl, sym, ap, ◌∙◌, subst, transport}
use native.Mathlib.Omega.{arith}
use lib.Dec.{eqb}
use lib.ListN.{length}
use borrow.Author.Tests.{le-ltb, eqb-true}
use Rattle.state.specs.declared.Session.{Session}
use Rattle.state.specs.Association.{session_record}
use Rattle.reference.specs.Lists.{choose}
use Rattle.reference.specs.State.{State}
use Rattle.reference.specs.Start.{Config, config_cause, start}
use Rattle.reference.specs.Step.{Move, next, run}
use Rattle.reference.specs.Cause.{cause, accepted}
use Rattle.reference.specs.Session.{bytes, all_standing, state_of, state_in}
use Rattle.reference.proofs.Moves.{run_snoc}
use Rattle.reference.proofs.Laws.{applied-is}
use Rattle.session.specs.Contract.{started, standing, moved, journal_after}
use Rattle.session.specs.Worked.{refusals, record_after}
use Rattle.session.proofs.Holding.{Holds, Leaves, take_all, holds_all, config-is, standing-is, move-agrees, move_leaves}
use Rattle.session.proofs.Numbers.{own-replays, move-number}

-- the causes of moves made one after the other from s, and the state after them: a refused one leaves it
unfoldable pub causes : State → List Move → List ℕ
causes s [] = []
causes s (a ∷ rest) = cause s a ∷ causes (choose (eqb (cause s a) 0) (next s a) s) rest

unfoldable pub state_after : State → List Move → State
state_after s [] = s
state_after s (a ∷ rest) = state_after (choose (eqb (cause s a) 0) (next s a) s) rest

module _ (c : Config) (right : config_cause c ≡ 0) where
  abbrev Along : State → Session → List ℕ → List Move → Type 0
  Along s r j bs = (refusals r j bs ≡ causes s bs) × (record_after r j bs ≡ session_record (state_after s bs) c.B (state_after s bs).applied)

  stands : (ms : List Move) → state_in c (all_standing ms) ≡ state_of c ms
  stands ms = ap (state_of c) (take_all ms)

  module _ (ms : List Move) (r : Session) (j : List ℕ) (h : Holds c (all_standing ms) r j) (size : 12000 ≤ length j) (a : Move) where
    number : (moved r j a).refusal ≡ cause (state_of c ms) a
    unfolding moved
    number =
        move-number c right (all_standing ms) r j h j a ∙
        rw (le-ltb (length j) 12000 size, own-replays c right (all_standing ms) r j h) (ap (λ (s : State). cause s a) (stands ms))

    leaves : (moved r j a).refusal ≡ 0 → Leaves c (all_standing (ms ++ a ∷ [])) j (moved r j a).session (journal_after r j a)
    unfolding moved
    leaves e =
        let same : standing r j ≡ ms = standing-is c right (all_standing ms) r j h ∙ take_all ms in
        transport (λ i. Leaves (config-is c right (all_standing ms) r j h i) (all_standing (same i ++ a ∷ [])) j (moved r j a).session (journal_after r j a))
        (move_leaves r j (move-agrees r j a e) a e)

    kept : eqb (cause (state_of c ms) a) 0 ≡ false → ((moved r j a).session ≡ r) × (journal_after r j a ≡ j)
    unfolding moved journal_after
    kept e = rw (number, e) (refl, refl)

    after : (bs : List Move) → ((ns : List Move) (x : Session) (k : List ℕ) → Holds c (all_standing ns) x k → 12000 ≤ length k → Along (state_of c ns) x k bs) →
        Along (choose (eqb (cause (state_of c ms) a) 0) (next (state_of c ms) a) (state_of c ms)) (moved r j a).session (journal_after r j a) bs
    after bs on = by (eqb (cause (state_of c ms) a) 0) refl
      where
        by : (b : Bool) → eqb (cause (state_of c ms) a) 0 ≡ b → Along (choose b (next (state_of c ms) a) (state_of c ms)) (moved r j a).session (journal_after r j a) bs
        by true e =
            let w = leaves (number ∙ eqb-true (cause (state_of c ms) a) 0 e) in
            subst (λ (s : State). Along s (moved r j a).session (journal_after r j a) bs) (run_snoc ms (start c) a)
            (on (ms ++ a ∷ []) (moved r j a).session (journal_after r j a) w.0 (omega (arith, w.1.size)))
        by false e = rw ((kept e).0, (kept e).1) (on ms r j h size)

  along : (bs ms : List Move) (r : Session) (j : List ℕ) → Holds c (all_standing ms) r j → 12000 ≤ length j → Along (state_of c ms) r j bs
  unfolding refusals record_after causes state_after
  along [] ms r j h size = (refl, h.shows ∙ (λ i. session_record (stands ms i) c.B (sym (applied-is c ms) i)))
  along (a ∷ bs) ms r j h size =
      let o = after ms r j h size a bs (along bs) in
      (λ i. number ms r j h size a i ∷ o.0 i, o.1)

  -- from a start
  pub from_start : (j : List ℕ) → 12000 ≤ length j → (bs : List Move) → Along (start c) (started c).session j bs
  unfolding started run accepted bytes
  from_start j size bs = along bs [] (started c).session j (holds_all c [] (started c).session j (rw right) refl refl) size
