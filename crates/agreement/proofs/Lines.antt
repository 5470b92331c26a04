-- What one line, or one call, makes of a view keeps the register table and the ranges, and each thread is counted as often as before.
-- Assumes nothing.
use Prim.Native.Nat.{ℕ, suc, ◌+◌, ◌-◌, ◌≤◌}
use mathlib.Core.Bool.{◌||◌}
use mathlib.Core.Path.{◌≡◌, ap, sym, subst}
use native.Mathlib.Omega.{arith}
use native.Mathlib.Nat.{mod-lt}
use Rattle.reference.specs.Lists.{sum}
use Rattle.reference.specs.State.{Mutex, Line, App, CI2, CI3, L1, L3, L4, L6, L7, L8, L9, L10, TL1, GT1, GT3, TL3, U1, H2, H3, H5, H6, H8, Y1, Y2, Y3, C2, row, same_line, same_token}
use Rattle.reference.specs.Step.{View, line, own_token, Action, go, lock, trylock, unlock, yield, exit, create, act, target, created_by, ended_by}
use Rattle.reference.specs.Safe.{one_if}
use Rattle.reference.proofs.Sums.{some, some_pos, choose-by, if_zero-by, if_empty-by}
use Rattle.reference.proofs.Local.{out, first_taken, joined, from, Allowed, ProbeFits}
use Rattle.shown.proofs.Regular.{Registers, Ranges}

-- the fields of a mutex's record stay
pub record Same (x y : Mutex) : Type 0 where
  pub count : x.count ≡ y.count
  pub owner : x.owner ≡ y.owner
  pub processor : x.token.processor ≡ y.token.processor
  pub sequence : x.token.sequence ≡ y.token.sequence

module _ (P T M : ℕ) (f : ℕ → ℕ) where
  -- before a move, of a view at line l; f weighs threads. What the line adds to the count and to the own sequence number has room.
  pub record Before (l : Line) (v : View) : Type 0 where
    pub here : v.proc.position ≡ l
    pub registers : Registers P T M l v.proc
    pub mutex : Ranges P T v.mutex
    pub ready : sum (out T) v.ready ≡ 0
    pub probe : ProbeFits v.queues l v.proc.probe
    pub self-low : 1 ≤ v.self
    pub self-high : v.self ≤ P
    pub count_room : v.mutex.count + one_if (same_line l L1 || same_line l TL3) ≤ T + 1
    pub sequence-room : v.proc.sequence + one_if (same_line l H5) ≤ 4000
    pub f_zero : f 0 ≡ 0
    pub f_current : f v.proc.current ≤ (row l).current
    pub f_transit : f v.proc.transit ≤ (row l).transit

  -- after a move to line n on mutex m that creates i and ends j
  pub record After' (n : Line) (m i j : ℕ) (v v' : View) : Type 0 where
    pub registers : Registers P T M n v'.proc
    pub mutex : Ranges P T v'.mutex
    pub ready : sum (out T) v'.ready ≡ 0
    pub probe : ProbeFits v.queues n v'.proc.probe
    pub census : sum f v.ready + sum f v.mutex.queue + f v.proc.current + f v.proc.transit + f i ≡
        sum f v'.ready + sum f v'.mutex.queue + f v'.proc.current + f v'.proc.transit + f j
    pub idle : m ≡ 0 → (sum f v'.mutex.queue ≡ sum f v.mutex.queue) × Same v'.mutex v.mutex

  abbrev pub After : ℕ → ℕ → ℕ → View → View → Type 0
  After m i j v v' = After' v'.proc.position m i j v v'

  abbrev Goes : View → View → Type 0
  Goes v = After v.proc.mutex 0 0 v

  line_keeps : (l : Line) (v : View) → Before l v → Goes v (line l v)
  unfolding line
  line_keeps App v h = subst (λ (n : Line). After' n v.proc.mutex 0 0 v v) (sym h.here) (omega arith)
  line_keeps CI2 v h =
      if_empty-by (Goes v) v.ready (λ e. omega (arith, mod-lt (suc v.proc.probe) {m = v.queues} (omega arith))) (λ x xs e. omega (arith, first_taken T f e h.ready))
  line_keeps CI3 v h = omega arith
  line_keeps L1 v h = if_zero-by (Goes v) v.mutex.count (λ e. omega arith) (λ c e. omega arith)
  line_keeps L3 v h = omega arith
  line_keeps L4 v h = omega (arith, joined T f v.mutex.queue v.proc.transit h.mutex.sound.queue (omega arith) (omega arith))
  line_keeps L6 v h = if_zero-by (Goes v) v.mutex.token.processor (λ e. omega arith) (λ c e. omega (arith, ap some e))
  line_keeps L7 v h = if_empty-by (Goes v) v.mutex.queue (λ e. omega arith) (λ x xs e. omega arith)
  line_keeps L8 v h = choose-by (Goes v) (same_token v.mutex.token v.proc.observed) (λ e. omega arith) (λ e. omega arith)
  line_keeps L9 v h = if_empty-by (Goes v) v.mutex.queue (λ e. omega arith) (λ x xs e. omega (arith, first_taken T f e h.mutex.sound.queue))
  line_keeps L10 v h = omega arith
  line_keeps TL1 v h = if_zero-by (Goes v) v.mutex.count (λ e. omega arith) (λ c e. omega arith)
  line_keeps GT1 v h = if_zero-by (Goes v) v.mutex.token.processor (λ e. omega arith) (λ c e. omega (arith, ap some e))
  line_keeps GT3 v h = choose-by (Goes v) (same_token v.mutex.token v.proc.observed) (λ e. omega arith) (λ e. omega arith)
  line_keeps TL3 v h = omega arith
  line_keeps U1 v h = if_zero-by (Goes v) (v.mutex.count - 1) (λ e. omega arith) (λ c e. omega arith)
  line_keeps H2 v h = if_empty-by (Goes v) v.mutex.queue (λ e. omega arith) (λ x xs e. omega (arith, first_taken T f e h.mutex.sound.queue))
  line_keeps H3 v h = omega (arith, joined T f v.ready v.proc.transit h.ready (omega arith) (omega arith))
  line_keeps H5 v h = omega (arith, some_pos v.self (omega arith))
  line_keeps H6 v h = if_empty-by (Goes v) v.mutex.queue (λ e. omega arith) (λ x xs e. omega arith)
  line_keeps H8 v h = choose-by (Goes v) (same_token v.mutex.token (own_token v)) (λ e. omega arith) (λ e. omega arith)
  line_keeps Y1 v h = if_empty-by (Goes v) v.ready (λ e. omega arith) (λ x xs e. omega arith)
  line_keeps Y2 v h = omega arith
  line_keeps Y3 v h = omega (arith, joined T f v.ready v.proc.transit h.ready (omega arith) (omega arith))
  line_keeps C2 v h = omega (arith, joined T f v.ready v.proc.transit h.ready (omega arith) (omega arith))

  pub act_keeps : (a : Action) (o : ℕ) (v : View) → Before (from a v.proc.position) v → Allowed M T a o v →
      After (target a v.proc.mutex o) (created_by a o) (ended_by a v.proc.current) v (act a o v)
  unfolding act
  act_keeps go o v h c = line_keeps v.proc.position v h
  act_keeps lock o v h c = omega arith
  act_keeps trylock o v h c = omega arith
  act_keeps unlock o v h c = omega arith
  act_keeps yield o v h c = omega arith
  act_keeps exit o v h c = omega arith
  act_keeps create o v h c = omega arith
