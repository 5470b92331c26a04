-- What the current thread of a processor owns is the same before and after every move of another processor.
-- Assumes nothing.
use Prim.Native.Nat.{ℕ, zero, suc, ◌≤◌, ◌<◌}
use mathlib.Core.List.{List, ◌∷◌}
use mathlib.Core.Logic.{◌≢◌}
use mathlib.Core.Path.{◌≡◌, refl, ap, sym, ◌∙◌}
use native.Mathlib.Omega.{arith}
use lib.Dec.{eqb}
use lib.ListN.{length}
use borrow.Author.Tests.{ne_eqb}
use Rattle.reference.specs.Lists.{at, put, is, occurrences}
use Rattle.reference.specs.State.{Mutex, State, Line, U1, nobody, free_mutex, same_line, processor_at, mutex_at}
use Rattle.reference.specs.Step.{View, Action, go, lock, trylock, unlock, yield, exit, create, line, act, view, does}
use Rattle.reference.specs.History.{gains, drops}
use Rattle.reference.specs.Safe.{In}
use Rattle.reference.proofs.Sums.{is_same, sum-at, sum-two, at-put-kept, put_same, choose-by}
use Rattle.reference.proofs.Local.{first_taken}
use Rattle.reference.proofs.Invariant.{Good, go-fit, in_registers}
use Rattle.reference.proofs.Owners.{Event, event}
use Rattle.reference.proofs.Living.{gains-by}

-- only the current thread gives a mutex up
drops-current : (l : Line) (v : View) → 1 ≤ drops l v → drops l v ≡ v.proc.current
unfolding drops
drops-current l v = choose-by (λ n. 1 ≤ n → n ≡ v.proc.current) (same_line l U1) (λ e h. refl) (λ e h. absurd (omega arith))

module _ (s : State) (g : Good s) (p : ℕ) (rp : In s.P p) (low : 1 ≤ (processor_at s p).current) where
  abbrev k : ℕ
  k = (processor_at s p).current

  rk : In s.T k
  rk = (low, (g.table p rp).registers.current-most)

  -- no thread is current on two processors,
  current_one : (q : ℕ) → In s.P q → q ≢ p → (processor_at s q).current ≢ k
  current_one q rq n e =
      absurd
      (omega (
        arith,
        g.census k rk,
        is_same k,
        ap (is k) e,
        sum-two (in_registers k) s.processors p q nobody (omega (arith, g.processors)) (omega (arith, g.processors)) (λ z. n (sym z)),
      ))

  -- and none that is current waits
  first-other : (m : ℕ) → m ≤ s.M → (x : ℕ) (xs : List ℕ) → (mutex_at s m).queue ≡ x ∷ xs → x ≢ k
  first-other zero rm x xs e z = omega (arith, ap length e)
  first-other (suc m) rm x xs e z =
      absurd
      (omega (
        arith,
        g.census k rk,
        is_same k,
        ap (is k) z,
        (first_taken s.T (is k) e (g.sound (suc m) (omega arith)).queue).share,
        sum-at (λ (y : Mutex). occurrences k y.queue) s.mutexes (suc m) free_mutex (omega (arith, g.mutexes)),
        sum-at (in_registers k) s.processors p nobody (omega (arith, g.processors)),
      ))

  module _ (q : ℕ) (rq : In s.P q) (n : q ≢ p) (early : s.applied < 4000) (m : ℕ) where
    after_line : eqb (mutex_at (does s q go 0) m).owner k ≡ eqb (mutex_at s m).owner k
    unfolding act
    after_line =
        at-put-kept (λ (x : Mutex). eqb x.owner k) s.mutexes (processor_at s q).mutex m (line l v).mutex free_mutex
        (λ i. by (gains l v) (drops l v) refl refl)
      where
        l : Line
        l = (processor_at s q).position

        v : View
        v = view s q (processor_at s q).mutex

        e : Event l v (line l v)
        e = event s.P s.T s.M s.applied (is 1) l v (go-fit s g q rq early 1 (omega arith))

        another : gains l v ≢ k
        another =
            gains-by (λ x. x ≢ k) l v (omega (arith, low)) (current_one q rq n)
            (first-other (processor_at s q).mutex (g.table q rq).registers.mutex-most)

        by : (a b : ℕ) → gains l v ≡ a → drops l v ≡ b → eqb (line l v).mutex.owner k ≡ eqb v.mutex.owner k
        by zero zero x y = ap (λ (o : ℕ). eqb o k) (e.kept x y)
        by zero (suc b) x y =
            let some : 1 ≤ drops l v = omega arith in
            ne_eqb _ k (omega (arith, low, e.lost some)) ∙
            sym (ne_eqb _ k (λ z. current_one q rq n (sym (drops-current l v some) ∙ sym (e.lost some).1 ∙ z)))
        by (suc a) b x y =
            let t = e.got (omega arith) in
            ne_eqb _ k (λ z. another (sym t.0 ∙ z)) ∙ sym (ne_eqb _ k (omega (arith, low)))

    after_call : (j : ℕ) → eqb (at (put s.mutexes j (mutex_at s j)) m free_mutex).owner k ≡ eqb (mutex_at s m).owner k
    after_call j = ap (λ (xs : List Mutex). eqb (at xs m free_mutex).owner k) (put_same s.mutexes j free_mutex)

    pub owner_alike : (a : Action) (o : ℕ) → eqb (mutex_at (does s q a o) m).owner k ≡ eqb (mutex_at s m).owner k
    unfolding act
    owner_alike go o = after_line
    owner_alike lock o = after_call o
    owner_alike trylock o = after_call o
    owner_alike unlock o = after_call o
    owner_alike yield o = after_call (processor_at s q).mutex
    owner_alike exit o = after_call (processor_at s q).mutex
    owner_alike create o = after_call (processor_at s q).mutex
