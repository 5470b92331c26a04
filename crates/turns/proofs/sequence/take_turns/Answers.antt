-- `turns::sequence::take_turns` meets its contract. The invariant speaks of any B and number kept, since the loop does not look at the record's.
-- Assumes nothing.
use Prim.Native.Nat.{ℕ, ◌+◌, ◌-◌, ◌*◌}
use mathlib.Core.List.{List}
use borrow.Rule.Slice.PartMut.{put_mid}
use Rattle.picture.specs.Model.Parts.{over, record_bytes}
use mathlib.Core.Path.{◌≡◌, sym, ap, subst, ◌∙◌}
use native.Mathlib.Omega.{arith}
use borrow.Author.Rules.{rules}
use lib.ListN.{length, set, take, drop}
use Rattle.state.proofs.Sized.{session_sized}
use Rattle.state.specs.declared.State.{State}
use Rattle.state.specs.declared.Session.{Session}
use Rattle.state.specs.Record.{Sized}
use Rattle.reference.specs.Session.{picture_size}
use Rattle.session.specs.Contract.{config_of}
use Rattle.turns.specs.Contract.{class_refusal}
use Rattle.turns.proofs.Loop.{Going, going_start, going_more, going_end, Rooms, rooms}
use Rattle.turns.proofs.sequence.take_turns.Goals as goal

-- what the code's indices and sums need at the loop's test, where n is a picture's length
rooms_at : (r : Session) (z : Sized r.state) (j x ps a b : List ℕ) (none : class_refusal r j x ps a b ≡ 0) (i : ℕ) (s : State) (calls j' a' b' : List ℕ) →
    Going r z j x ps a b none i s calls j' a' b' → (n : ℕ) → n ≡ picture_size (config_of r) → Rooms j ps a b n i j' a' b'
rooms_at r z j x ps a b none i s calls j' a' b' g n e = subst (λ (k : ℕ). Rooms j ps a b k i j' a' b') (sym e) (rooms r z j x ps a b none i s calls j' a' b' g)

pub loop-i-init : goal.loop-i-init
loop-i-init c = λ b k z none e. going_start _ z _ _ _ _ _ none _ e

pub bounds-answers-i : goal.bounds-answers-i
bounds-answers-i c =
    let r = c.args.session in
    let z = session_sized c.well_formed.0 in
    let m = rooms_at r z _ _ _ _ _ c.requires.none _ _ _ _ _ _ (c.loop-i.invariant r.initial r.kept z c.requires.none c.requires.counted) _ c.picture_bytes-size.ensures in
    omega (arith, c.loop-i-test.true)

pub overflow_mul-i : goal.overflow_mul-i
overflow_mul-i c =
    let r = c.args.session in
    let z = session_sized c.well_formed.0 in
    let m = rooms_at r z _ _ _ _ _ c.requires.none _ _ _ _ _ _ (c.loop-i.invariant r.initial r.kept z c.requires.none c.requires.counted) _ c.picture_bytes-size.ensures in
    let h = m.next c.loop-i-test.true in search rules

pub slice_bounds-put-count : goal.slice_bounds-put-count
slice_bounds-put-count c =
    let r = c.args.session in
    let z = session_sized c.well_formed.0 in
    let m = rooms_at r z _ _ _ _ _ c.requires.none _ _ _ _ _ _ (c.loop-i.invariant r.initial r.kept z c.requires.none c.requires.counted) _ c.picture_bytes-size.ensures in
    omega (arith, m.next c.loop-i-test.true)

pub slice_bounds-put-start : goal.slice_bounds-put-start
slice_bounds-put-start c =
    let r = c.args.session in
    let z = session_sized c.well_formed.0 in
    let m = rooms_at r z _ _ _ _ _ c.requires.none _ _ _ _ _ _ (c.loop-i.invariant r.initial r.kept z c.requires.none c.requires.counted) _ c.picture_bytes-size.ensures in
    let h = m.next c.loop-i-test.true in search rules

pub loop-i-preserved : goal.loop-i-preserved
loop-i-preserved c =
    let i : ℕ = c.loop-i.i in
    let shows : List ℕ = c.loop-i.pictures in
    let turn = c.make_turn-done in
    let wrote = c.put-fits in
    λ b k z none e.
    subst
    (λ (n : ℕ).
    Going _ z _ _ _ _ _ none (i + 1) turn.new.state turn.new.calls turn.new.journal (set c.loop-i.answers i c.outcome.result)
    (put_mid (i * n) (length shows - i * n) shows wrote.new.b)) (sym c.picture_bytes-size.ensures)
    (going_more _ z _ _ _ _ _ none _ _ _ _ _ _ (c.loop-i.invariant b k z none e) c.loop-i-test.true _ _ _ _ turn.ensures _ wrote.new.b (ap (set c.loop-i.answers i) c.outcome.ensures)
    (wrote.ensures.bytes ∙ ap (λ (n : ℕ). over (take (length shows - i * n) (drop (i * n) shows)) (record_bytes turn.new.state)) c.picture_bytes-size.ensures))

pub returns : goal.returns
returns c =
    let r = c.args.session in
    let z = session_sized c.well_formed.0 in
    let m = rooms_at r z _ _ _ _ _ c.requires.none _ _ _ _ _ _ (c.loop-i.invariant r.initial r.kept z c.requires.none c.requires.counted) _ c.picture_bytes-size.ensures in
    going_end r z _ _ _ _ _ c.requires.none _ _ _ _ _ _ (c.loop-i.invariant r.initial r.kept z c.requires.none c.requires.counted) (omega (arith, m.few))
