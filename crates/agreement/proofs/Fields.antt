-- A move without a cause that breaks nothing keeps the rules, and each thread in exactly one place.
-- Assumes nothing.
use Prim.Native.Nat.{ℕ, zero, suc, ◌+◌, ◌*◌, ◌≤◌, ◌<◌}
use mathlib.Core.Bool.{Bool, true, false, ◌&&◌, ◌||◌, true≢false}
use mathlib.Core.List.{[]}
use mathlib.Core.Path.{◌≡◌, refl, ◌∙◌}
use native.Mathlib.Omega.{arith}
use lib.Dec.{eqb, leb}
use lib.ListN.{length}
use borrow.Author.Tests.{leb-false}
use Rattle.reference.specs.Lists.{put, sum, is, occurrences}
use Rattle.reference.specs.State.{State, Processor, Mutex, live, terminated, Line, App, L1, L9, TL3, U1, H5, row, same_line, nobody, free_mutex, processor_at, mutex_at}
use Rattle.reference.specs.Step.{View, view, works_on, Action, go, lock, trylock, unlock, yield, exit, create, act, target, created_by, ended_by, put_back, Move, action_of, next}
use Rattle.reference.specs.Cause.{is_go, operand_fits, cause}
use Rattle.reference.specs.Break.{is_empty, line_breaks, step_breaks}
use Rattle.reference.specs.Safe.{In, one_if}
use Rattle.reference.proofs.Tests.{range_true}
use Rattle.reference.proofs.Sums.{is-other, sum-put, sum-put-zero, sum-at, length-put, at-put, choose-by}
use Rattle.reference.proofs.Legal.{Here, legal}
use Rattle.reference.proofs.Local.{out, ProbeFits}
use Rattle.reference.proofs.Invariant.{in_registers, LivesMove, created_one, ended_one}
use Rattle.state.specs.Allowed.{Allowed}
use Rattle.association.proofs.Transfers.{works_there}
use Rattle.shown.proofs.Regular.{Registers, Ranges, Regular, regular_fits, regular_allowed, allowed_regular}
use Rattle.agreement.proofs.Lines.{Before, After, act_keeps}

-- ---- tests and weights

-- of four tests none of which is passed, the second and the third
middle : (a b c d : Bool) → a || b || c || d ≡ false → (b ≡ false) × (c ≡ false)
middle true b c d e = absurd (true≢false e)
middle false true c d e = absurd (true≢false e)
middle false false true d e = absurd (true≢false e)
middle false false false d e = (refl, refl)

-- what is not at its top where something is added has room
room : (b : Bool) (n top : ℕ) → b && leb top n ≡ false → n ≤ top → n + one_if b ≤ top
room true n top e h = omega (arith, leb-false top n e)
room false n top e h = omega arith

-- a register holds a thread only where its column says so
holds : (T c n k : ℕ) → 1 ≤ k → n ≤ T * c → is k n ≤ c
unfolding is
holds T zero n k r h = omega (arith, is-other k n (omega arith))
holds T (suc c) n k r h = choose-by (λ x. x ≤ suc c) (eqb k n) (λ e. omega arith) (λ e. omega arith)

-- ---- a view is put back

-- a processor works on a ready queue that is there
works : (s : State) → Regular s → (p : ℕ) → In s.P p → In (length s.ready) (works_on s p)
works s g p r = omega (arith, works_there s p (regular_fits s g) r, g.placed.count)

module _ (s : State) (g : Regular s) (p m : ℕ) (rp : In s.P p) (early : s.applied < 4000) (rm : m ≤ s.M) (i j : ℕ) (w : View)
    (d : (k : ℕ) → 1 ≤ k → After s.P s.T s.M (is k) m i j (view s p m) w) (b : LivesMove s i j) where
  put_regular : Regular (put_back s p m i j w)
  put_regular =
      let d1 = d 1 (omega arith) in
      record {
        p_range = g.p_range;
        t_range = g.t_range;
        m_range = g.m_range;
        stealing = g.stealing;
        applied = early;
        placed =
            record {
              processors = length-put s.processors p w.proc ∙ g.placed.processors;
              mutexes = length-put s.mutexes m w.mutex ∙ g.placed.mutexes;
              lives = length-put (put s.lives i live) j terminated ∙ length-put s.lives i live ∙ g.placed.lives;
              count = length-put s.ready (works_on s p) w.ready ∙ g.placed.count;
              one_place = λ k r.
                  omega (
                    arith,
                    g.placed.one_place k r,
                    b k r,
                    (d k r.0).census,
                    sum-put (occurrences k) s.ready (works_on s p) w.ready [] (works s g p rp),
                    sum-put (in_registers k) s.processors p w.proc nobody (omega (arith, g.placed.processors)),
                    sum-put-zero (λ (x : Mutex). sum (is k) x.queue) s.mutexes m w.mutex free_mutex (omega (arith, g.placed.mutexes)) (λ z. ((d k r.0).idle z).0),
                  );
            };
        probe = λ q r.
            rw (length-put s.ready (works_on s p) w.ready)
            (at-put (λ (q : ℕ) (c : Processor). ProbeFits (length s.ready) c.position c.probe) s.processors p q w.proc nobody (omega (arith, g.placed.processors))
            (λ z. d1.probe) (λ n. g.probe q r));
        ready = omega (arith, g.ready, d1.ready, sum-put (sum (out s.T)) s.ready (works_on s p) w.ready [] (works s g p rp));
        registers = λ q r.
            at-put (λ (q : ℕ) (c : Processor). Registers s.P s.T s.M c.position c) s.processors p q w.proc nobody (omega (arith, g.placed.processors))
            (λ z. d1.registers) (λ n. g.registers q r);
        mutex = λ k r.
            at-put (λ (k : ℕ) (x : Mutex). Ranges s.P s.T x) s.mutexes m k w.mutex free_mutex (omega (arith, g.placed.mutexes))
            (λ z. d1.mutex) (λ n. g.mutex k r);
      }

-- ---- what is known of the view

module _ (s : State) (g : Regular s) (p : ℕ) (rp : In s.P p) where
  abbrev r : Processor
  r = processor_at s p

  mutex_ranges : (m : ℕ) → m ≤ s.M → Ranges s.P s.T (mutex_at s m)
  unfolding sum
  mutex_ranges zero h = omega arith
  mutex_ranges (suc m) h = g.mutex (suc m) (omega arith)

  before : (l : Line) → r.position ≡ l → (m : ℕ) → m ≤ s.M → (same_line l L1 || same_line l TL3) && leb (s.T + 1) (mutex_at s m).count ≡ false →
      same_line l H5 && leb 4000 r.sequence ≡ false → (k : ℕ) → 1 ≤ k → Before s.P s.T s.M (is k) l (view s p m)
  before l e m rm a b k low =
      let t : Registers s.P s.T s.M l r = rw e at (g.registers p rp) in
      record {
        here = e;
        registers = t;
        mutex = mutex_ranges m rm;
        ready = omega (arith, g.ready, sum-at (sum (out s.T)) s.ready (works_on s p) [] (works s g p rp));
        probe = rw e at (g.probe p rp);
        self-low = rp.0;
        self-high = rp.1;
        count_room = room (same_line l L1 || same_line l TL3) (mutex_at s m).count (s.T + 1) a (mutex_ranges m rm).count;
        sequence-room = room (same_line l H5) r.sequence 4000 b t.sequence;
        f_zero = is-other k 0 (omega arith);
        f_current = holds s.T (row l).current r.current k low t.current-high;
        f_transit = holds s.T (row l).transit r.transit k low t.transit-high;
      }

  -- ---- a move

  -- what an action on its mutex does
  pub record Moves (a : Action) (o m : ℕ) : Type 0 where
    pub mutex : m ≤ s.M
    pub after : (k : ℕ) → 1 ≤ k → After s.P s.T s.M (is k) m (created_by a o) (ended_by a r.current) (view s p m) (act a o (view s p m))
    pub lives : LivesMove s (created_by a o) (ended_by a r.current)

  abbrev breaks : Bool
  breaks = line_breaks s.T r.position (view s p r.mutex)

  abbrev Goes : Action → ℕ → Type 0
  Goes a o = Moves a o (target a r.mutex o)

  called : r.position ≡ App → (m : ℕ) → m ≤ s.M → (k : ℕ) → 1 ≤ k → Before s.P s.T s.M (is k) App (view s p m)
  called e m rm = before App e m rm refl refl

  pub moves : (a : Action) (o : ℕ) → operand_fits s a o ≡ true → Here s p a o → is_go a && breaks ≡ false → Goes a o
  moves go o c h b =
      let l : Line = r.position in
      let x : Mutex = mutex_at s r.mutex in
      let z =
      middle (same_line l U1 && eqb x.count 0) ((same_line l L1 || same_line l TL3) && leb (s.T + 1) x.count) (same_line l H5 && leb 4000 r.sequence)
      (same_line l L9 && is_empty x.queue) b in
      let most : r.mutex ≤ s.M = (g.registers p rp).mutex-most in
      record {
        mutex = most;
        after = λ k i. act_keeps s.P s.T s.M (is k) go o (view s p r.mutex) (before l refl r.mutex most z.0 z.1 k i) tt;
        lives = λ k i. refl;
      }
  moves lock o c h b =
      let i = range_true 1 s.M o c in
      record { mutex = i.1; after = λ k l. act_keeps s.P s.T s.M (is k) lock o (view s p o) (called (h.call refl) o i.1 k l) i; lives = λ k i. refl }
  moves trylock o c h b =
      let i = range_true 1 s.M o c in
      record { mutex = i.1; after = λ k l. act_keeps s.P s.T s.M (is k) trylock o (view s p o) (called (h.call refl) o i.1 k l) i; lives = λ k i. refl }
  moves unlock o c h b =
      let i = range_true 1 s.M o c in
      record {
        mutex = i.1;
        after = λ k l. act_keeps s.P s.T s.M (is k) unlock o (view s p o) (called (h.call refl) o i.1 k l) (i, h.owner refl);
        lives = λ k i. refl;
      }
  moves yield o c h b =
      let most : r.mutex ≤ s.M = (g.registers p rp).mutex-most in
      record { mutex = most; after = λ k l. act_keeps s.P s.T s.M (is k) yield o (view s p r.mutex) (called (h.call refl) r.mutex most k l) tt; lives = λ k i. refl }
  moves exit o c h b =
      let most : r.mutex ≤ s.M = (g.registers p rp).mutex-most in
      record { mutex = most; after = λ k l. act_keeps s.P s.T s.M (is k) exit o (view s p r.mutex) (called (h.call refl) r.mutex most k l) tt; lives = ended_one s p g.placed.lives g.placed.processors rp (g.placed.one_place _) }
  moves create o c h b =
      let most : r.mutex ≤ s.M = (g.registers p rp).mutex-most in
      let i = range_true 1 s.T o c in
      record {
        mutex = most;
        after = λ k l. act_keeps s.P s.T s.M (is k) create o (view s p r.mutex) (called (h.call refl) r.mutex most k l) i;
        lives = created_one s o g.placed.lives (h.unborn refl);
      }

-- ---- of the whole state

module _ (s : State) (a : Move) (e : cause s a ≡ 0) (b : step_breaks s a ≡ false) where
  pub move-moves : (g : Regular s) →
      Moves s g a.processor (legal s a e).processor (action_of a.action) a.operand (target (action_of a.action) (processor_at s a.processor).mutex a.operand)
  unfolding step_breaks
  move-moves g = let l = legal s a e in moves s g a.processor l.processor (action_of a.action) a.operand l.operand l.here b

  pub next_regular : Regular s → Regular (next s a)
  unfolding next
  next_regular g =
      let l = legal s a e in
      let w = move-moves g in
      put_regular s g a.processor _ l.processor l.room w.mutex _ _ _ w.after w.lives

  -- the rules are kept
  pub next-allowed : Allowed s → Allowed (next s a)
  next-allowed h = regular_allowed (next s a) (next_regular (allowed_regular s h))
