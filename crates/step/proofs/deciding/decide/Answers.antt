-- `step::deciding::decide` meets its contract.
-- Assumes nothing.
use Prim.Native.Nat.{ℕ}
use mathlib.Core.Bool.{Bool, true, false}
use mathlib.Core.Path.{◌≡◌, refl, sym, ap, ◌∙◌}
use lib.Dec.{eqb}
use Rattle.std.proofs.Common.{Ok, Err}
use Rattle.std.proofs.lemmas.Result.{err_from_is_err_and}
use Rattle.reference.specs.Lists.{choose}
use Rattle.state.specs.declared.refusal.Refusal.{Refusal}
use Rattle.state.specs.declared.refusal.Refusal.TheVariants.{BadRecord}
use Rattle.state.specs.Refusal.{number, outcome}
use Rattle.state.proofs.Refused.{numbered}
use Rattle.step.specs.declared.View.{View}
use Rattle.step.specs.declared.Sizes.{Sizes}
use Rattle.step.specs.declared.Outcome.{Outcome}
use Rattle.state.specs.declared.Chains.{Chains}
use Rattle.step.specs.Model.Moves.{looking, cause_seen, tried, act_outcome, refusal_seen, decision, decided}
use Rattle.step.proofs.InPlace.{same-cause, owner-cause, unasked}
use Rattle.step.proofs.deciding.decide.Goals as goal

tried_left : (b : Bool) → tried (choose b 21 0) ≡ true
tried_left true = refl
tried_left false = refl

module _ (z : Sizes) (v : View) (status a o : ℕ) where
  abbrev seen : ℕ
  seen = cause_seen z v false status a o

  not_21 : (e : Refusal) → number e ≡ seen → eqb (number e) 21 ≡ false
  not_21 e k = ap (λ (n : ℕ). eqb n 21) k ∙ unasked z v status a o

  refused : (e : Refusal) → number e ≡ seen → decided v a (Err e) ≡ decision z v status a o
  unfolding decided decision refusal_seen
  refused e k =
      rw (same-cause z v status a o (ap (λ (n : ℕ). eqb n 0) (sym k) ∙ numbered e), sym k, numbered e, not_21 e k, numbered e, not_21 e k)

  module _ (d : Outcome) (d-is : d ≡ act_outcome z.t a o v) (none : 0 ≡ seen) where
    breaks : d.broken ≡ true → decided v a (Err BadRecord) ≡ decision z v status a o
    unfolding decided decision refusal_seen number
    breaks e = rw (owner-cause z v status a o (sym none), tried_left (eqb a 5), ← d-is, e)

    makes : d.broken ≡ false → decided v a (Ok (record { writes = d.writes; effect = d.effect })) ≡ decision z v status a o
    unfolding decided decision refusal_seen
    makes e = rw (owner-cause z v status a o (sym none), tried_left (eqb a 5), ← d-is, e, tried_left (eqb a 5))

-- no cause asks what is in the queues
same_seen : (z : Sizes) (v : View) (c : Chains) (m status a o : ℕ) → cause_seen z v false status a o ≡ cause_seen z (looking c m v) false status a o
unfolding cause_seen
same_seen z v c m status a o = refl

pub returns-in_err-cause : goal.returns-in_err-cause
unfolding outcome
returns-in_err-cause c =
    let p = err_from_is_err_and c.from_residual.result c.from_residual.ensures.1 in
    let a = c.args in
    let v = looking a.chains.now a.m a.v in
    let k = c.in_err-cause.ensures ∙ same_seen a.z a.v a.chains.now a.m _ a.action a.operand in
    rw (p.1, p.2)
    (record {
      decision = refused a.z v _ a.action a.operand c.in_err-cause.field-0.0 k;
      unasked = not_21 a.z v _ a.action a.operand c.in_err-cause.field-0.0 k;
    })

pub returns-then-done : goal.returns-then-done
unfolding outcome number
returns-then-done c =
    let a = c.args in
    let none = c.in_ok-cause.ensures ∙ same_seen a.z a.v a.chains.now a.m _ a.action a.operand in
    record {
      decision = breaks a.z (looking a.chains.now a.m a.v) _ a.action a.operand c.act-done.result c.act-done.ensures none c.if-done.true;
      unasked = refl;
    }

pub returns : goal.returns
unfolding outcome
returns c =
    let a = c.args in
    let none = c.in_ok-cause.ensures ∙ same_seen a.z a.v a.chains.now a.m _ a.action a.operand in
    record { decision = makes a.z (looking a.chains.now a.m a.v) _ a.action a.operand c.act-done.result c.act-done.ensures none c.if-done.false; unasked = refl }
