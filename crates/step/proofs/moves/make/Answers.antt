-- `step::moves::make` meets its contract: what the code's decision says of a move is what the model's says.
-- Assumes nothing.
use Rattle.std.proofs.Common.{ℕ, ◌+◌, ◌-◌, ◌^◌, ◌≤◌, min, Bool, true, false, List, ◌≡◌, refl, sym, ap, ◌∙◌, set, Result, Ok, Err, ltb}
use native.Mathlib.Omega.{arith}
use borrow.Author.Tests.{ltb-true, ltb-false}
use Rattle.reference.specs.Lists.{choose}
use Rattle.std.proofs.lemmas.Result.{err_from_is_err_and}
use Rattle.state.specs.declared.State.{State}
use Rattle.state.specs.declared.Mutex.{Mutex}
use Rattle.state.specs.declared.refusal.Refusal.{Refusal}
use Rattle.state.specs.Record.{thread_of}
use Rattle.state.specs.Refusal.{number, outcome}
use Rattle.state.proofs.Refused.{not_none}
use Rattle.step.specs.declared.View.{View}
use Rattle.step.specs.declared.Sizes.{Sizes}
use Rattle.step.specs.declared.Decision as code
use Rattle.step.specs.Model.Moves.{target_of, unlooked, looking, move_view, sizes_of, owns_none, up_to, decided, decision}
use Rattle.step.proofs.InPlace.{stands, owner_stays, goes_free, free, at, parts, stays, unwritten, goes}
use Rattle.step.proofs.moves.make.Goals as goal
use Rattle.step.proofs.moves.make.Goals.{then-done, else-done, else-action-eq5-via-then-action-eq5+else-not-owns_none, else-action-eq5-via-else-action-eq5}

module _ (s : State) (p a o : ℕ) (v : View) (v-is : v ≡ move_view s p a o) where
  -- the mutex that it works on
  target_is : (m : ℕ) → m ≡ target_of a v.proc.mutex o → m ≡ at s p a o
  target_is m m-is = m-is ∙ ap (λ (q : View). target_of a q.proc.mutex o) v-is

  at_home : (z : Sizes) → z ≡ sizes_of s → (x : Result code.Decision Refusal) → decided v a x ≡ decision z v (thread_of s o).status a o →
      decided v a x ≡ decision (sizes_of s) (move_view s p a o) (thread_of s o).status a o
  at_home z z-is x e = e ∙ rw (z-is, v-is)

  asks : (b : Bool) → b ≡ owns_none s.mutexes s.m v.proc.current → b ≡ free s p a o
  asks b e = e ∙ ap (λ (q : View). owns_none s.mutexes s.m q.proc.current) v-is

-- what is seen with a look into the queues
seen : (s : State) (p a o : ℕ) (v : View) → v ≡ unlooked (move_view s p a o) → (m : ℕ) → m ≡ target_of a v.proc.mutex o → looking s.chains m v ≡ move_view s p a o
seen s p a o v v-is m m-is = rw (m-is, v-is)

-- one more, or the same at the largest number
capped : (n : ℕ) → n ≤ 65535 → min (n + 1) (2 ^ 16 - 1) ≡ up_to 65535 n
capped n h = by (ltb n 65535) refl
  where
    by : (b : Bool) → ltb n 65535 ≡ b → min (n + 1) 65535 ≡ choose b (n + 1) n
    by true e = omega (arith, ltb-true n 65535 e)
    by false e = omega (arith, ltb-false n 65535 e)

pub returns-in_err-done : goal.returns-in_err-done
unfolding outcome decided
returns-in_err-done c =
    let t = err_from_is_err_and c.from_residual.result c.from_residual.ensures.1 in
    let a = c.args in
    let s = a.s.now in
    let v = looking s.chains c.target-m.result c.look-v.result in
    let v-is = seen s a.p a.action a.operand c.look-v.result c.look-v.ensures c.target-m.result c.target-m.ensures in
    let e = c.in_err-done.field-0.0 in
    let m = target_is s a.p a.action a.operand v v-is c.target-m.result c.target-m.ensures in
    let d = at_home s a.p a.action a.operand v v-is c.sizes-z.result c.sizes-z.ensures (Err e) c.in_err-done.ensures.decision in
    rw (t.1, t.2) (stays s a.p a.action a.operand _ d (number e) (stands (free s a.p a.action a.operand) (number e) c.in_err-done.ensures.unasked) (not_none e))

pub returns-then-not-owns_none : goal.returns-then-not-owns_none
unfolding outcome number decided
returns-then-not-owns_none c =
    let a = c.args in
    let s = a.s.now in
    let v = looking s.chains c.target-m.result c.look-v.result in
    let v-is = seen s a.p a.action a.operand c.look-v.result c.look-v.ensures c.target-m.result c.target-m.ensures in
    let m = target_is s a.p a.action a.operand v v-is c.target-m.result c.target-m.ensures in
    let d = at_home s a.p a.action a.operand v v-is c.sizes-z.result c.sizes-z.ensures (Ok c.in_ok-done.done) c.in_ok-done.ensures.decision in
    let owns = asks s a.p a.action a.operand v v-is c.owns_none.result c.owns_none.ensures in
    let owner = owner_stays (free s a.p a.action a.operand) a.action c.if-action-eq5.true (sym owns ∙ c.if-not-owns_none.true) in
    stays s a.p a.action a.operand _ d 21 owner (λ e. omega arith)

pub returns : goal.returns
unfolding outcome decided
returns c =
    let a = c.args in
    let s = a.s.now in
    let v = looking s.chains c.target-m.result c.look-v.result in
    let v-is = seen s a.p a.action a.operand c.look-v.result c.look-v.ensures c.target-m.result c.target-m.ensures in
    let m = target_is s a.p a.action a.operand v v-is c.target-m.result c.target-m.ensures in
    let d = at_home s a.p a.action a.operand v v-is c.sizes-z.result c.sizes-z.ensures (Ok c.in_ok-done.done) c.in_ok-done.ensures.decision in
    let e = c.in_ok-done.done.effect in
    let none = goes_free (free s a.p a.action a.operand) a.action
    (elim c.else-action-eq5.branch [
      | else-action-eq5-via-then-action-eq5+else-not-owns_none w ↦
          λ five. sym (asks s a.p a.action a.operand v v-is w.owns_none.result w.owns_none.ensures) ∙ w.if-not-owns_none.false
      | else-action-eq5-via-else-action-eq5 w ↦ λ five. absurd (w.if-action-eq5.false five)
    ])
    in
    let same = unwritten s a.p a.action a.operand _ d 0 none refl in
    let left : (xs : List Mutex) × (xs ≡ set s.mutexes (at s a.p a.action a.operand) e.mutex) ×
    (c.if-done.s ≡ record { p = s.p; t = s.t; m = s.m; stealing = s.stealing; applied = s.applied; chains = c.carry.new.chains; processors = s.processors; mutexes = xs }) =
    elim c.if-done.branch [
      | then-done w ↦ (w.put.new.xs, w.put.ensures ∙ rw (m, w.mutex_by_fields.ensures), w.s-is)
      | else-done w ↦ (s.mutexes, same w.if-done.false, w.s-is)
    ]
    in
    goes s a.p a.action a.operand _ d 0 none refl _
    (parts s a.p a.action a.operand e c.carry.new.chains left.0 c.if-done.s c.put-2.new.xs c.saturating_add-s.result c.carry.ensures left.1 left.2
    (c.put-2.ensures ∙ ap (set c.if-done.s.processors a.p) c.by_fields.ensures) (c.saturating_add-s.ensures ∙ capped c.if-done.s.applied (omega (arith, c))))
