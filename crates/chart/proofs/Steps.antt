-- What a move of the reference machine makes of mutexes and queues.
-- Assumes nothing.
use Prim.Native.Nat.{ℕ, zero, suc, ◌-◌}
use mathlib.Core.Bool.{Bool, true, false}
use mathlib.Core.List.{List, [], ◌∷◌, ◌++◌}
use mathlib.Core.Logic.{◌≢◌}
use mathlib.Core.Path.{◌≡◌, refl, sym, subst}
use lib.Dec.{eqb, leb}
use lib.ListN.{length, get_or, set}
use Rattle.state.specs.Association.{queue_at}
use Rattle.reference.specs.Lists.{at, put, choose, if_zero}
use Rattle.reference.specs.State as reference
use Rattle.reference.specs.State.{State, Processor, Line, App, CI2, CI3, L1, L3, L4, L6, L7, L8, L9, L10, TL1, GT1, GT3, TL3, U1, H2, H3, H5, H6, H8, Y1, Y2, Y3, C2, nobody, free_mutex, same_token, processor_at, mutex_at}
use Rattle.reference.specs.Step.{View, Action, go, lock, trylock, unlock, yield, exit, create, Move, action_of, own_token, unchanged, line, act, target, works_on, view, next}
use Rattle.reference.specs.Safe.{In}
use Rattle.reference.proofs.Sums.{at-put-same, at-put-other, choose-by, if_zero-by, if_empty-by}

-- ---- a queue, and what a move makes of it: nothing, or the carried thread is its last, or the taken one was its first

pub data Step (carried taken : ℕ) (q q' : List ℕ) : Type 0 where
  same : q' ≡ q → Step carried taken q q'
  joins : q' ≡ q ++ carried ∷ [] → Step carried taken q q'
  leaves : q ≡ taken ∷ q' → Step carried taken q q'

-- of the two queues that a processor sees
record Steps (v v' : View) : Type 0 where
  pub ready : Step v.proc.transit v'.proc.transit v.ready v'.ready
  pub queue : Step v.proc.transit v'.proc.transit v.mutex.queue v'.mutex.queue

unmoved : (v v' : View) → v'.ready ≡ v.ready → v'.mutex.queue ≡ v.mutex.queue → Steps v v'
unmoved v v' e f = record { ready = same e; queue = same f }

line_steps : (l : Line) (v : View) → Steps v (line l v)
unfolding line
line_steps App v = unmoved v _ refl refl
line_steps CI2 v = if_empty-by (Steps v) v.ready (λ e. unmoved v _ refl refl) (λ x xs e. record { ready = leaves e; queue = same refl })
line_steps CI3 v = unmoved v _ refl refl
line_steps L1 v = if_zero-by (Steps v) v.mutex.count (λ e. unmoved v _ refl refl) (λ k e. unmoved v _ refl refl)
line_steps L3 v = unmoved v _ refl refl
line_steps L4 v = record { ready = same refl; queue = joins refl }
line_steps L6 v = if_zero-by (Steps v) v.mutex.token.processor (λ e. unmoved v _ refl refl) (λ k e. unmoved v _ refl refl)
line_steps L7 v = if_empty-by (Steps v) v.mutex.queue (λ e. unmoved v _ refl refl) (λ x xs e. unmoved v _ refl refl)
line_steps L8 v = choose-by (Steps v) (unchanged v) (λ e. unmoved v _ refl refl) (λ e. unmoved v _ refl refl)
line_steps L9 v = if_empty-by (Steps v) v.mutex.queue (λ e. unmoved v _ refl refl) (λ x xs e. record { ready = same refl; queue = leaves e })
line_steps L10 v = unmoved v _ refl refl
line_steps TL1 v = if_zero-by (Steps v) v.mutex.count (λ e. unmoved v _ refl refl) (λ k e. unmoved v _ refl refl)
line_steps GT1 v = if_zero-by (Steps v) v.mutex.token.processor (λ e. unmoved v _ refl refl) (λ k e. unmoved v _ refl refl)
line_steps GT3 v = choose-by (Steps v) (unchanged v) (λ e. unmoved v _ refl refl) (λ e. unmoved v _ refl refl)
line_steps TL3 v = unmoved v _ refl refl
line_steps U1 v = if_zero-by (Steps v) (v.mutex.count - 1) (λ e. unmoved v _ refl refl) (λ k e. unmoved v _ refl refl)
line_steps H2 v = if_empty-by (Steps v) v.mutex.queue (λ e. unmoved v _ refl refl) (λ x xs e. record { ready = same refl; queue = leaves e })
line_steps H3 v = record { ready = joins refl; queue = same refl }
line_steps H5 v = unmoved v _ refl refl
line_steps H6 v = if_empty-by (Steps v) v.mutex.queue (λ e. unmoved v _ refl refl) (λ x xs e. unmoved v _ refl refl)
line_steps H8 v = choose-by (Steps v) (same_token v.mutex.token (own_token v)) (λ e. unmoved v _ refl refl) (λ e. unmoved v _ refl refl)
line_steps Y1 v = if_empty-by (Steps v) v.ready (λ e. unmoved v _ refl refl) (λ x xs e. unmoved v _ refl refl)
line_steps Y2 v = unmoved v _ refl refl
line_steps Y3 v = record { ready = joins refl; queue = same refl }
line_steps C2 v = record { ready = joins refl; queue = same refl }

act_steps : (a : Action) (o : ℕ) (v : View) → Steps v (act a o v)
unfolding act
act_steps go o v = line_steps v.proc.position v
act_steps lock o v = unmoved v _ refl refl
act_steps trylock o v = unmoved v _ refl refl
act_steps unlock o v = unmoved v _ refl refl
act_steps yield o v = unmoved v _ refl refl
act_steps exit o v = unmoved v _ refl refl
act_steps create o v = unmoved v _ refl refl

-- ---- a list with one member replaced: what holds of that one and of itself holds of each

module _ {A : Type 0} (R : A → A → Type 0) (still : (x : A) → R x x) where
  set_all : (l : List A) (i j : ℕ) (a d : A) → R (get_or l i d) a → R (get_or l j d) (get_or (set l i a) j d)
  set_all [] i j a d h = still d
  set_all (x ∷ l) zero zero a d h = h
  set_all (x ∷ l) zero (suc j) a d h = still (get_or l j d)
  set_all (x ∷ l) (suc i) zero a d h = still x
  set_all (x ∷ l) (suc i) (suc j) a d h = set_all l i j a d h

  put_all : (l : List A) (i j : ℕ) (a d : A) → R (at l i d) a → R (at l j d) (at (put l i a) j d)
  put_all l zero j a d h = still (at l j d)
  put_all l (suc i) zero a d h = still d
  put_all l (suc i) (suc j) a d h = set_all l i j a d h

-- ---- the whole state

module _ (s : State) (a : Move) where
  abbrev p : ℕ
  p = a.processor

  abbrev does : Action
  does = action_of a.action

  abbrev m : ℕ
  m = target does (processor_at s p).mutex a.operand

  abbrev seen_after : View
  seen_after = act does a.operand (view s p m)

  abbrev StepHere : List ℕ → List ℕ → Type 0
  StepHere = Step (processor_at s p).transit seen_after.proc.transit

  steps : Steps (view s p m) seen_after
  steps = act_steps does a.operand (view s p m)

  ready-step : (i : ℕ) → StepHere (reference.queue_at s i) (reference.queue_at (next s a) i)
  unfolding next
  ready-step i = put_all StepHere (λ x. same refl) s.ready (works_on s p) i seen_after.ready [] steps.ready

  mutex-step : (i : ℕ) → StepHere (mutex_at s i).queue (mutex_at (next s a) i).queue
  unfolding next
  mutex-step i = put_all (λ x y. StepHere x.queue y.queue) (λ x. same refl) s.mutexes m i seen_after.mutex free_mutex steps.queue

  queue-step : (q : ℕ) → StepHere (queue_at s q) (queue_at (next s a) q)
  unfolding next
  queue-step q = by (eqb q 0) (leb q 8) s.stealing
    where
      by : (b c : Bool) (n : ℕ) → StepHere
          (choose b (if_zero n (reference.queue_at s 1) []) (choose c (mutex_at s q).queue (if_zero n [] (reference.queue_at s (q - 8)))))
          (choose b (if_zero n (reference.queue_at (next s a) 1) []) (choose c (mutex_at (next s a) q).queue (if_zero n [] (reference.queue_at (next s a) (q - 8)))))
      by true c zero = ready-step 1
      by true c (suc n) = same refl
      by false true n = mutex-step q
      by false false zero = same refl
      by false false (suc n) = ready-step (q - 8)

  seen_processor : In (length s.processors) p → seen_after.proc ≡ processor_at (next s a) p
  unfolding next
  seen_processor r = sym (at-put-same s.processors p seen_after.proc nobody r)

  pub queue-moves : In (length s.processors) p → (q : ℕ) → Step (processor_at s p).transit (processor_at (next s a) p).transit (queue_at s q) (queue_at (next s a) q)
  queue-moves r q = subst (λ (x : Processor). Step (processor_at s p).transit x.transit (queue_at s q) (queue_at (next s a) q)) (seen_processor r) (queue-step q)

-- a call changes no mutex, a go only that of the processor
pub mutex-kept : (s : State) (a : Move) (i : ℕ) → i ≢ (processor_at s a.processor).mutex → mutex_at (next s a) i ≡ mutex_at s i
unfolding next act
mutex-kept s a i h = by (action_of a.action)
  where
    by : (d : Action) → at (put s.mutexes (target d (processor_at s a.processor).mutex a.operand) (act d a.operand (view s a.processor (target d (processor_at s a.processor).mutex a.operand))).mutex) i free_mutex ≡ mutex_at s i
    by go = at-put-other s.mutexes (processor_at s a.processor).mutex i _ free_mutex h
    by lock = put_all (λ x y. y ≡ x) (λ x. refl) s.mutexes a.operand i _ free_mutex refl
    by trylock = put_all (λ x y. y ≡ x) (λ x. refl) s.mutexes a.operand i _ free_mutex refl
    by unlock = put_all (λ x y. y ≡ x) (λ x. refl) s.mutexes a.operand i _ free_mutex refl
    by yield = at-put-other s.mutexes (processor_at s a.processor).mutex i _ free_mutex h
    by exit = at-put-other s.mutexes (processor_at s a.processor).mutex i _ free_mutex h
    by create = at-put-other s.mutexes (processor_at s a.processor).mutex i _ free_mutex h
