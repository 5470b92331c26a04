-- The owner of a mutex is live: a thread that becomes one is held somewhere, and no owner exits.
-- Assumes nothing.
use Prim.Native.Nat.{ℕ, zero, suc, ◌<◌}
use mathlib.Core.Bool.{true, not}
use mathlib.Core.List.{List, [], ◌∷◌}
use mathlib.Core.Logic.{◌≢◌}
use mathlib.Core.Path.{◌≡◌, refl, ap, ◌∙◌}
use native.Mathlib.Decide.{ℕ_discrete}
use native.Mathlib.Omega.{arith}
use lib.Dec.{eqb}
use borrow.Author.Tests.{eqb-false, not-true}
use Rattle.reference.specs.Lists.{at, put, is, occurrences, if_zero, if_empty}
use Rattle.reference.specs.State.{Mutex, Life, live, terminated, State, Line, free_mutex, processor_at, mutex_at, life_at, same_line, L1, TL1, GT3, L9, H2}
use Rattle.reference.specs.Step.{View, Action, go, lock, trylock, unlock, yield, exit, create, unchanged, line, act, view, does, Move, action_of, next, run}
use Rattle.reference.specs.Cause.{operand_fits, owns_none, accepted}
use Rattle.reference.specs.History.{gains, drops}
use Rattle.reference.specs.Safe.{In}
use Rattle.reference.proofs.Tests.{range_true}
use Rattle.reference.proofs.Each.{each_at}
use Rattle.reference.proofs.Sums.{is_same, sum-at, at-put, at-put-same, at-put-other, put_same, choose-by, if_zero-by, if_empty-by}
use Rattle.reference.proofs.Legal.{Here, legal, accepted_cons}
use Rattle.reference.proofs.Local.{first_taken}
use Rattle.reference.proofs.Invariant.{Good, go-fit, next_good}
use Rattle.reference.proofs.Lives.{held-lives, current-lives}
use Rattle.reference.proofs.Owners.{Event, event}

abbrev pub Living : State → Type 0
Living s = (m : ℕ) → In s.M m → life_at s (mutex_at s m).owner ≡ live

-- a thread becomes an owner while it is current or the first of the queue
pub gains-by : (Q : ℕ → Type 0) (l : Line) (v : View) → Q 0 → Q v.proc.current → ((x : ℕ) (xs : List ℕ) → v.mutex.queue ≡ x ∷ xs → Q x) → Q (gains l v)
unfolding gains
gains-by Q l v none current first =
    choose-by Q (same_line l L1) (λ e. if_free)
    (λ e.
    choose-by Q (same_line l TL1) (λ e. if_free)
    (λ e.
    choose-by Q (same_line l GT3) (λ e. choose-by Q (unchanged v) (λ e. current) (λ e. none))
    (λ e. choose-by Q (same_line l L9) (λ e. if_waits) (λ e. choose-by Q (same_line l H2) (λ e. if_waits) (λ e. none)))))
  where
    if_free : Q (if_zero v.mutex.count v.proc.current 0)
    if_free = if_zero-by Q v.mutex.count (λ e. current) (λ k e. none)

    if_waits : Q (if_empty v.mutex.queue 0 (λ x xs. x))
    if_waits = if_empty-by Q v.mutex.queue (λ e. none) first

module _ (s : State) (g : Good s) (l : Living s) (p : ℕ) (rp : In s.P p) (early : s.applied < 4000) where
  -- the first of a mutex's queue is live
  first-lives : (m : ℕ) → In s.M m → (x : ℕ) (xs : List ℕ) → (mutex_at s m).queue ≡ x ∷ xs → life_at s x ≡ live
  first-lives m rm x xs e =
      let f = first_taken s.T (is x) e (g.sound m rm).queue in
      held-lives s g x (f.low, f.high)
      (omega (arith, f.share, is_same x, sum-at (λ (y : Mutex). occurrences x y.queue) s.mutexes m free_mutex (omega (arith, g.mutexes))))

  after_line : Living (does s p go 0)
  unfolding act
  after_line m rm =
      at-put (λ (k : ℕ) (x : Mutex). life_at s x.owner ≡ live) s.mutexes c m (line h v).mutex free_mutex (omega (arith, g.mutexes))
      (λ i. owner_lives (omega (arith, g.mutexes)) (gains h v) (drops h v) refl refl) (λ n. l m rm)
    where
      c : ℕ
      c = (processor_at s p).mutex

      h : Line
      h = (processor_at s p).position

      v : View
      v = view s p (processor_at s p).mutex

      e : Event h v (line h v)
      e = event s.P s.T s.M s.applied (is 1) h v (go-fit s g p rp early 1 (omega arith))

      owner_lives : In s.M c → (a b : ℕ) → gains h v ≡ a → drops h v ≡ b → life_at s (line h v).mutex.owner ≡ live
      owner_lives rc zero zero x y = ap (life_at s) (e.kept x y) ∙ l c rc
      owner_lives rc zero (suc b) x y = ap (life_at s) (e.lost (omega arith)).0
      owner_lives rc (suc a) b x y =
          ap (life_at s) (e.got (omega arith)).0 ∙ gains-by (λ k. life_at s k ≡ live) h v refl (current-lives s g p rp) (first-lives c rc)

  -- a call leaves each mutex; `lives` are the lives after it
  after_call : (lives : ℕ → Life) (j : ℕ) → ((m : ℕ) → In s.M m → lives (mutex_at s m).owner ≡ live) → (m : ℕ) → In s.M m →
      lives (at (put s.mutexes j (mutex_at s j)) m free_mutex).owner ≡ live
  after_call lives j h m rm = ap (λ (xs : List Mutex). lives (at xs m free_mutex).owner) (put_same s.mutexes j free_mutex) ∙ h m rm

  created-lives : (o k : ℕ) → In s.T o → life_at s k ≡ live → at (put s.lives o live) k live ≡ live
  created-lives o k r h =
      elim (ℕ_discrete k o) [
        | yes e ↦ ap (λ (n : ℕ). at (put s.lives o live) n live) e ∙ at-put-same s.lives o live live (omega (arith, g.lives))
        | no n ↦ at-put-other s.lives o k live live n ∙ h
      ]

  -- who exits owns nothing
  another : owns_none s (processor_at s p).current ≡ true → (m : ℕ) → In s.M m → (mutex_at s m).owner ≢ (processor_at s p).current
  another h m rm = eqb-false _ _ (not-true _ (each_at (λ i. not (eqb (mutex_at s i).owner (processor_at s p).current)) 1 s.M h m rm.0 (omega arith)))

  does_living : (a : Action) (o : ℕ) → operand_fits s a o ≡ true → Here s p a o → Living (does s p a o)
  unfolding act
  does_living go o c h = after_line
  does_living lock o c h = after_call (life_at s) o l
  does_living trylock o c h = after_call (life_at s) o l
  does_living unlock o c h = after_call (life_at s) o l
  does_living yield o c h = after_call (life_at s) (processor_at s p).mutex l
  does_living exit o c h =
      after_call (λ k. at (put s.lives (processor_at s p).current terminated) k live) (processor_at s p).mutex
      (λ m r. at-put-other s.lives (processor_at s p).current (mutex_at s m).owner terminated live (another (h.owns_none refl) m r) ∙ l m r)
  does_living create o c h =
      after_call (λ k. at (put s.lives o live) k live) (processor_at s p).mutex (λ m r. created-lives o (mutex_at s m).owner (range_true 1 s.T o c) (l m r))

pub living : (ms : List Move) (s : State) → Good s → Living s → accepted s ms ≡ true → Living (run s ms)
unfolding run next
living [] s g l ok = l
living (a ∷ rest) s g l ok =
    let e = accepted_cons s a rest ok in
    let h = legal s a e.0 in
    living rest (next s a) (next_good s a g e.0)
    (does_living s g l a.processor h.processor h.room (action_of a.action) a.operand h.operand h.here) e.1
