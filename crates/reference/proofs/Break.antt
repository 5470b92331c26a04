-- No state with the invariant meets 15 at a step.
-- Assumes nothing.
use Prim.Native.Nat.{ℕ, suc, ◌+◌, ◌≤◌, ◌<◌}
use mathlib.Core.Bool.{false, ◌&&◌}
use mathlib.Core.List.{List, [], ◌∷◌}
use mathlib.Core.Path.{◌≡◌, refl, ap}
use native.Mathlib.Omega.{arith}
use lib.ListN.{length}
use borrow.Author.Tests.{lt-leb, ne_eqb}
use Rattle.reference.specs.State.{State, Mutex, Processor, Line, App, CI2, CI3, L1, L3, L4, L6, L7, L8, L9, L10, TL1, GT1, GT3, TL3, U1, H2, H3, H5, H6, H8, Y1, Y2, Y3, C2, nobody, free_mutex, processor_at}
use Rattle.reference.specs.Step.{View, Action, go, lock, trylock, unlock, yield, exit, create, Move, view, line, act, does, next, action_of}
use Rattle.reference.specs.Cause.{cause, is_go}
use Rattle.reference.specs.Break.{is_empty, line_breaks, step_breaks}
use Rattle.reference.specs.Safe.{In}
use Rattle.reference.proofs.Sums.{at-put-same, if_zero-by}
use Rattle.reference.proofs.Legal.{legal}
use Rattle.reference.proofs.Local.{Table}
use Rattle.reference.proofs.Invariant.{Good, next_good}
use Rattle.reference.proofs.Bound.{count_bound}
use Rattle.reference.proofs.Laws.{queue_at_L9, count_at_U1}

not_empty : (q : List ℕ) → 1 ≤ length q → is_empty q ≡ false
not_empty [] h = absurd (omega arith)
not_empty (x ∷ q) h = refl

-- what each line asks for, so that it breaks nothing
line_keeps : (t : ℕ) (l : Line) (v : View) → (l ≡ U1 → 1 ≤ v.mutex.count) → (l ≡ L9 → 1 ≤ length v.mutex.queue) → (l ≡ L1 → v.mutex.count ≤ t) →
    (l ≡ TL3 → v.mutex.count ≤ t) → (l ≡ H5 → v.proc.sequence < 4000) → line_breaks t l v ≡ false
line_keeps t App v a b c d e = refl
line_keeps t CI2 v a b c d e = refl
line_keeps t CI3 v a b c d e = refl
line_keeps t L1 v a b c d e = rw (lt-leb (t + 1) v.mutex.count (omega (arith, c refl)))
line_keeps t L3 v a b c d e = refl
line_keeps t L4 v a b c d e = refl
line_keeps t L6 v a b c d e = refl
line_keeps t L7 v a b c d e = refl
line_keeps t L8 v a b c d e = refl
line_keeps t L9 v a b c d e = rw (not_empty v.mutex.queue (b refl))
line_keeps t L10 v a b c d e = refl
line_keeps t TL1 v a b c d e = refl
line_keeps t GT1 v a b c d e = refl
line_keeps t GT3 v a b c d e = refl
line_keeps t TL3 v a b c d e = rw (lt-leb (t + 1) v.mutex.count (omega (arith, d refl)))
line_keeps t U1 v a b c d e = rw (ne_eqb v.mutex.count 0 (omega (arith, a refl)))
line_keeps t H2 v a b c d e = refl
line_keeps t H3 v a b c d e = refl
line_keeps t H5 v a b c d e = rw (lt-leb 4000 v.proc.sequence (e refl))
line_keeps t H6 v a b c d e = refl
line_keeps t H8 v a b c d e = refl
line_keeps t Y1 v a b c d e = refl
line_keeps t Y2 v a b c d e = refl
line_keeps t Y3 v a b c d e = refl
line_keeps t C2 v a b c d e = refl

-- L1 and TL3 count one more, H5 sets the next sequence number: the state after them shows the bound
count-L1 : (v : View) → (line L1 v).mutex.count ≡ suc v.mutex.count
unfolding line
count-L1 v = if_zero-by (λ (w : View). w.mutex.count ≡ suc v.mutex.count) v.mutex.count (λ e. refl) (λ k e. refl)

count-TL3 : (v : View) → (line TL3 v).mutex.count ≡ suc v.mutex.count
unfolding line
count-TL3 v = refl

sequence-H5 : (v : View) → (line H5 v).proc.sequence ≡ suc v.proc.sequence
unfolding line
sequence-H5 v = refl

module _ (s : State) (g : Good s) (p : ℕ) (rp : In s.P p) (h : Good (does s p go 0)) where
  abbrev v : View
  v = view s p (processor_at s p).mutex

  abbrev l : Line
  l = (processor_at s p).position

  count-after : 1 ≤ (processor_at s p).mutex → (line l v).mutex.count ≤ s.T + 1
  unfolding act
  count-after r =
      omega (
        arith,
        count_bound (does s p go 0) h (processor_at s p).mutex (omega (arith, g.table p rp)),
        ap (λ (x : Mutex). x.count) (at-put-same s.mutexes (processor_at s p).mutex (line l v).mutex free_mutex (omega (arith, g.table p rp, g.mutexes))),
      )

  sequence-after : (line l v).proc.sequence ≤ 4000
  unfolding act
  sequence-after =
      omega (
        arith,
        (h.table p rp).registers.sequence,
        h.applied,
        ap (λ (x : Processor). x.sequence) (at-put-same s.processors p (line l v).proc nobody (omega (arith, g.processors))),
      )

  counted : (n : Line) → ((w : View) → (line n w).mutex.count ≡ suc w.mutex.count) → 1 ≤ (processor_at s p).mutex → l ≡ n → v.mutex.count ≤ s.T
  counted n c r e = omega (arith, count-after r, ap (λ (k : Line). (line k v).mutex.count) e, c v)

  on_mutex : (n : Line) → ((r : Processor) → Table s.P s.T s.M s.applied n r → 1 ≤ r.mutex) → l ≡ n → 1 ≤ (processor_at s p).mutex
  on_mutex n c e = c (processor_at s p) (rw e at (g.table p rp))

  go_keeps : line_breaks s.T l v ≡ false
  go_keeps =
      line_keeps s.T l v (count_at_U1 s g p rp) (queue_at_L9 s g p rp)
      (λ e. counted L1 count-L1 (on_mutex L1 (λ r t. t.registers.mutex-low) e) e) (λ e. counted TL3 count-TL3 (on_mutex TL3 (λ r t. t.registers.mutex-low) e) e)
      (λ e. omega (arith, sequence-after, ap (λ (k : Line). (line k v).proc.sequence) e, sequence-H5 v))

pub never_breaks : (s : State) (a : Move) → Good s → cause s a ≡ 0 → step_breaks s a ≡ false
unfolding step_breaks next act
never_breaks s a g e = by (action_of a.action) (next_good s a g e)
  where
    by : (x : Action) → Good (does s a.processor x a.operand) → is_go x && line_breaks s.T (processor_at s a.processor).position (view s a.processor (processor_at s a.processor).mutex) ≡ false
    by go h = go_keeps s g a.processor (legal s a e).processor h
    by lock h = refl
    by trylock h = refl
    by unlock h = refl
    by yield h = refl
    by exit h = refl
    by create h = refl
