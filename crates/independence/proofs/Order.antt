-- Two moves of different processors that are accepted one after the other are accepted in the other order too: no cause depends on what the other does.
-- Assumes nothing.
use Prim.Native.Nat.{ℕ, zero, suc, ◌≤◌}
use mathlib.Core.Bool.{true, true≢false}
use mathlib.Core.List.{List, [], ◌∷◌}
use mathlib.Core.Logic.{◌≢◌}
use mathlib.Core.Path.{◌≡◌, refl, ap, sym, subst, ◌∙◌}
use native.Mathlib.Omega.{arith}
use lib.Dec.{eqb}
use lib.ListN.{length}
use Rattle.reference.specs.Lists.{at, put}
use Rattle.reference.specs.State.{Processor, Life, new, live, terminated, State, App, row, nobody, processor_at, mutex_at, life_at}
use Rattle.reference.specs.Step.{Action, go, lock, trylock, unlock, yield, exit, create, created_by, ended_by, Move, action_of, next}
use Rattle.reference.specs.Cause.{is_create, cause}
use Rattle.reference.specs.Safe.{In, end}
use Rattle.reference.proofs.Sums.{at-put-other, at-put, length-put}
use Rattle.reference.proofs.Legal.{Here, Legal, legal}
use Rattle.reference.proofs.Lives.{is_new, current-lives}
use Rattle.reference.proofs.Invariant.{Good}
use Rattle.reference.proofs.Current.{owner_alike}
use Rattle.reference.proofs.Laws.{good}
use Rattle.independence.specs.Exchange.{EitherOrder}
use Rattle.independence.proofs.Depends.{SameSizes}
use Rattle.independence.proofs.Causes.{still_accepted}

-- ---- lives

-- what is created was new
pub created-new : (s : State) (p : ℕ) (c : Action) (o : ℕ) → Here s p c o → 1 ≤ created_by c o → life_at s (created_by c o) ≡ new
created-new s p go o h x = absurd (omega arith)
created-new s p lock o h x = absurd (omega arith)
created-new s p trylock o h x = absurd (omega arith)
created-new s p unlock o h x = absurd (omega arith)
created-new s p yield o h x = absurd (omega arith)
created-new s p exit o h x = absurd (omega arith)
created-new s p create o h x = h.unborn refl

-- what ends was live
pub ended-live : (s : State) (c : Action) (k : ℕ) → life_at s k ≡ live → life_at s (ended_by c k) ≡ live
ended-live s go k h = refl
ended-live s lock k h = refl
ended-live s trylock k h = refl
ended-live s unlock k h = refl
ended-live s yield k h = refl
ended-live s exit k h = h
ended-live s create k h = refl

-- the thread that a move creates, and the one that it ends where its registers are r; 0 for none
abbrev pub born : Move → ℕ
born a = created_by (action_of a.action) a.operand

abbrev pub ends : Move → Processor → ℕ
ends a r = ended_by (action_of a.action) r.current

pub not-both : {l : Life} → l ≡ new → l ≡ live → ⊥
not-both e h = true≢false (sym (ap is_new e) ∙ ap is_new h)

created-is : (c : Action) (o : ℕ) → is_create c ≡ true → created_by c o ≡ o
created-is go o e = absurd (true≢false (sym e))
created-is lock o e = absurd (true≢false (sym e))
created-is trylock o e = absurd (true≢false (sym e))
created-is unlock o e = absurd (true≢false (sym e))
created-is yield o e = absurd (true≢false (sym e))
created-is exit o e = absurd (true≢false (sym e))
created-is create o e = refl

-- a thread that is new is one of the list
new_in : (l : List Life) (k : ℕ) → at l k live ≡ new → In (length l) k
new_in l zero e = absurd (not-both e refl)
new_in [] (suc k) e = absurd (not-both e refl)
new_in (x ∷ l) (suc zero) e = (omega arith, omega arith)
new_in (x ∷ l) (suc (suc k)) e = let r = new_in l (suc k) e in (omega arith, omega (arith, r))

module _ (l : List Life) (i j k : ℕ) where
  -- new after a creation of i and an end of j, k was new before, and is not what was created
  was_new : at (put (put l i live) j terminated) k live ≡ new → (at l k live ≡ new) × (k ≢ i)
  was_new e =
      let r = new_in (put (put l i live) j terminated) k e in
      at-put (λ (k : ℕ) (x : Life). x ≡ new → (at l k live ≡ new) × (k ≢ i)) (put l i live) j k terminated live
      (omega (arith, r, length-put (put l i live) j terminated)) (λ q z. absurd (true≢false (sym (ap is_new z))))
      (λ d. at-put (λ (k : ℕ) (x : Life). x ≡ new → (at l k live ≡ new) × (k ≢ i)) l i k live live
      (omega (arith, r, length-put (put l i live) j terminated, length-put l i live)) (λ q z. absurd (not-both z refl)) (λ n z. (z, n)))
      e

  -- still new, if it is neither
  still_new : at l k live ≡ new → k ≢ i → k ≢ j → at (put (put l i live) j terminated) k live ≡ new
  still_new e m n = at-put-other (put l i live) j k terminated live n ∙ at-put-other l i k live live m ∙ e

-- ---- one move after another processor's

pub sizes_kept : (s : State) (a : Move) → SameSizes s (next s a)
unfolding next
sizes_kept s a = record { P = refl; T = refl; M = refl; stealing = refl }

pub sizes_back : (s : State) (a : Move) → SameSizes (next s a) s
unfolding next
sizes_back s a = record { P = refl; T = refl; M = refl; stealing = refl }

pub registers-kept : (s : State) (a : Move) (q : ℕ) → q ≢ a.processor → processor_at (next s a) q ≡ processor_at s q
unfolding next
registers-kept s a q n = at-put-other s.processors a.processor q _ nobody n

-- the current thread of a processor at App
app_current : (s : State) → Good s → (p : ℕ) → In s.P p → (processor_at s p).position ≡ App → 1 ≤ (processor_at s p).current
app_current s g p rp e = let t : (row (processor_at s p).position).current ≡ 1 = ap (λ l. (row l).current) e in omega (arith, g.table p rp)

-- it owns the same mutexes before and after the move a of another processor
owns_alike : (s : State) → Good s → (a : Move) → Legal s a → (q : ℕ) → In s.P q → a.processor ≢ q → (processor_at s q).position ≡ App → (m : ℕ) →
    eqb (mutex_at (next s a) m).owner (processor_at s q).current ≡ eqb (mutex_at s m).owner (processor_at s q).current
unfolding next
owns_alike s g a l q rq n h m = owner_alike s g q rq (app_current s g q rq h) a.processor l.processor n l.room m (action_of a.action) a.operand

-- ---- two moves of different processors are accepted in either order

module _ (s : State) (g : Good s) (a b : Move) (ca : cause s a ≡ 0) (cb : cause (next s a) b ≡ 0) (differ : a.processor ≢ b.processor) where
  la : Legal s a
  la = legal s a ca

  lb : Legal (next s a) b
  lb = legal (next s a) b cb

  rq : In s.P b.processor
  unfolding next
  rq = lb.processor

  differ_back : b.processor ≢ a.processor
  differ_back e = differ (sym e)

  kept_b : processor_at (next s a) b.processor ≡ processor_at s b.processor
  kept_b = registers-kept s a b.processor differ_back

  pub cause_b : cause s b ≡ 0
  unfolding next
  cause_b =
      still_accepted (next s a) s b lb (sizes_back s a) kept_b (omega (arith, la.room)) (processor_at s b.processor).current refl
      (λ e m. sym (owns_alike s g a la b.processor rq differ (sym (ap (λ (r : Processor). r.position) kept_b) ∙ lb.here.call e) m))
      (λ e. ap is_new (was_new s.lives (born a) (ends a (processor_at s a.processor)) b.operand (lb.here.unborn e)).0 ∙ sym (ap is_new (lb.here.unborn e)))

  lb_first : Legal s b
  lb_first = legal s b cause_b

  kept_a : processor_at s a.processor ≡ processor_at (next s b) a.processor
  kept_a = sym (registers-kept s b a.processor differ)

  -- what a creates, b does not create
  not-created : is_create (action_of a.action) ≡ true → a.operand ≢ born b
  unfolding next
  not-created e z =
      let r = new_in s.lives a.operand (la.here.unborn e) in
      let new_b = created-new (next s a) b.processor (action_of b.action) b.operand lb.here (omega (arith, r, z)) in
      (was_new s.lives (born a) (ends a (processor_at s a.processor)) (born b) new_b).1 (sym z ∙ sym (created-is (action_of a.action) a.operand e))

  -- nor does b end it
  not-over : is_create (action_of a.action) ≡ true → a.operand ≢ ends b (processor_at s b.processor)
  not-over e z =
      not-both (la.here.unborn e)
      (subst (λ (k : ℕ). life_at s k ≡ live) (sym z) (ended-live s (action_of b.action) (processor_at s b.processor).current (current-lives s g b.processor rq)))

  pub cause_a : cause (next s b) a ≡ 0
  unfolding next
  cause_a =
      still_accepted s (next s b) a la (sizes_kept s b) kept_a lb.room (processor_at s a.processor).current (sym (ap (λ (r : Processor). r.current) kept_a))
      (λ e. owns_alike s g b lb_first a.processor la.processor differ_back (la.here.call e))
      (λ e. ap is_new (still_new s.lives (born b) (ends b (processor_at s b.processor)) a.operand (la.here.unborn e) (not-created e) (not-over e)) ∙ sym (ap is_new (la.here.unborn e)))

pub either_order : EitherOrder
either_order c ms e ok a b n ca cb = let g = good c e ms ok in (cause_b (end c ms) g a b ca cb n, cause_a (end c ms) g a b ca cb n)
