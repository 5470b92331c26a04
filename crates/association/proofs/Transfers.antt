-- What a move makes of the record of a state, by the transfer that its view shows: at most one thread goes from a place to another.
-- Assumes nothing.
use Prim.Native.Nat.{ℕ, zero, suc, ◌+◌, ◌-◌, ◌*◌, ◌≤◌}
use mathlib.Core.List.{List, [], ◌∷◌, ◌++◌}
use mathlib.Core.Logic.{◌≢◌}
use mathlib.Core.Path.{◌≡◌, refl, ap, sym, subst, ◌∙◌}
use native.Mathlib.Numerals.{add-one}
use native.Mathlib.Omega.{arith}
use native.Mathlib.Decide.{ℕ_discrete, dec_le}
use lib.ListN.{length, set}
use Rattle.reference.specs.Lists.{put, occurrences, tabulate}
use Rattle.reference.specs.State as reference
use Rattle.reference.specs.State.{nobody, free_mutex, live, probes, processor_at, mutex_at}
use Rattle.reference.specs.Step.{View, works_on, put_back}
use Rattle.reference.specs.Safe.{In}
use Rattle.reference.specs.Picture.{first}
use Rattle.reference.proofs.Sums.{around_in, at-put-same, at-put-other}
use Rattle.reference.proofs.Invariant.{some_queue}
use Rattle.state.specs.declared.Thread.{Thread}
use Rattle.state.specs.declared.Chains.{Chains}
use Rattle.state.specs.Record.{zero_mutex}
use Rattle.state.specs.Model.Access.{removed, joined, placed, with_applied, with_processor, with_mutex, with_chains}
use Rattle.state.specs.Association.{encode, processor_record, mutex_record, thread_record, queue_at, ready_index}
use Rattle.state.proofs.Branch.{if_none, if_some}
use Rattle.state.proofs.Numbers as numbers
use Rattle.association.proofs.Tables.{tabulate-set}
use Rattle.association.proofs.Queues.{occurs_skip, occurs_snoc}
use Rattle.association.proofs.Spots.{Spot, current, transit, terminated, AtSpot, entry_for, Placed}
use Rattle.association.proofs.Shown.{Fits}
use Rattle.association.proofs.Changes.{Others, none_moves, one_moves, one_leaves, one_joins}

-- a view is put back of processor p and mutex m (0 for none), and each thread has one place before and after
pub record Frame (s : reference.State) (p m i j : ℕ) (v : View) : Type 0 where
  pub before : Fits s
  pub after : Placed (put_back s p m i j v)
  pub processor : In s.P p
  pub mutex : m ≤ s.M

-- the record's number of the ready queue that processor p works on
abbrev pub number : reference.State → ℕ → ℕ
number s p = ready_index s.stealing (works_on s p)

pub works_there : (s : reference.State) (p : ℕ) → Fits s → In s.P p → In (reference.queues s.stealing s.P) (works_on s p)
works_there s p h r =
    let n = some_queue s.stealing s.P p r in
    let l = around_in (length s.ready) (p + probes (processor_at s p).position * (processor_at s p).probe) (omega (arith, h.placed.count)) in
    omega (arith, h.placed.count)

most : (stealing P i : ℕ) → In (reference.queues stealing P) i → P ≤ 8 → ready_index stealing i ≤ 16
most zero P i r l = omega arith
most (suc c) P i r l = omega arith

number-most : (s : reference.State) (p : ℕ) → Fits s → In s.P p → number s p ≤ 16
number-most s p h r = most s.stealing s.P (works_on s p) (works_there s p h r) h.p_most

-- what a register held, if not 0 and not k, it still holds
abbrev pub Holds : ℕ → ℕ → ℕ → Type 0
Holds k a b = (j : ℕ) → 1 ≤ j → j ≢ k → a ≡ j → b ≡ j

holds_same : {k a b : ℕ} → b ≡ a → Holds k a b
holds_same e j l n d = e ∙ d

holds_none : {k a b : ℕ} → a ≡ 0 → Holds k a b
holds_none e j l n d = absurd (omega arith)

holds_it : {k a b : ℕ} → a ≡ k → Holds k a b
holds_it e j l n d = absurd (n (sym d ∙ e))

module _ (s : reference.State) (p m i j : ℕ) (v : View) (f : Frame s p m i j v) where
  abbrev e : reference.State
  e = put_back s p m i j v

  proc_here : processor_at e p ≡ v.proc
  proc_here = at-put-same s.processors p v.proc nobody (omega (arith, f.processor, f.before.placed.processors))

  proc-other : (r : ℕ) → r ≢ p → processor_at e r ≡ processor_at s r
  proc-other r n = at-put-other s.processors p r v.proc nobody n

  mutex_here : 1 ≤ m → mutex_at e m ≡ v.mutex
  mutex_here l = at-put-same s.mutexes m v.mutex free_mutex (omega (arith, f.mutex, f.before.placed.mutexes))

  mutex-other : (n : ℕ) → n ≢ m → mutex_at e n ≡ mutex_at s n
  mutex-other n d = at-put-other s.mutexes m n v.mutex free_mutex d

  -- ---- the queues

  in_eight : 1 ≤ m → In 8 m
  in_eight l = omega (arith, f.mutex, f.before.m_most)

  queue-mutex : 1 ≤ m → queue_at e m ≡ v.mutex.queue
  queue-mutex l = numbers.queue-mutex e m (in_eight l) ∙ ap (λ (x : reference.Mutex). x.queue) (mutex_here l)

  queue-ready : queue_at e (number s p) ≡ v.ready
  queue-ready =
      numbers.queue-ready e (works_on s p) (works_there s p f.before f.processor) ∙
      at-put-same s.ready (works_on s p) v.ready [] (omega (arith, works_there s p f.before f.processor, f.before.placed.count))

  -- a queue stays if what it shows does
  queue-same : (n : ℕ) → ((mutex_at e n).queue ≡ (mutex_at s n).queue) → ((i : ℕ) → ready_index s.stealing i ≡ n → reference.queue_at e i ≡ reference.queue_at s i) →
      queue_at e n ≡ queue_at s n
  queue-same n h g =
      elim (ℕ_discrete n 0) [
        | yes z ↦ rw z (elim (ℕ_discrete s.stealing 0) [
          | yes c ↦ numbers.queue-single e c ∙ g 1 (if_none s.stealing 0 (8 + 1) c ∙ sym z) ∙ sym (numbers.queue-single s c)
          | no c ↦ numbers.queue_no_single e c ∙ sym (numbers.queue_no_single s c)
        ])
        | no z ↦
            elim (dec_le n 8) [
              | yes l ↦ numbers.queue-mutex e n (omega arith) ∙ h ∙ sym (numbers.queue-mutex s n (omega arith))
              | no l ↦
                  elim (ℕ_discrete s.stealing 0) [
                    | yes c ↦ numbers.queue_no_each e n (omega arith) c ∙ sym (numbers.queue_no_each s n (omega arith) c)
                    | no c ↦
                        let o : 8 + (n - 8) ≡ n = omega arith in
                        numbers.queue-each e n (omega arith) c ∙ g (n - 8) (if_some s.stealing 0 (8 + (n - 8)) c ∙ o) ∙ sym (numbers.queue-each s n (omega arith) c)
                  ]
            ]
      ]

  mutex-same : v.mutex.queue ≡ (mutex_at s m).queue → (n : ℕ) → (mutex_at e n).queue ≡ (mutex_at s n).queue
  mutex-same h zero = refl
  mutex-same h (suc n) =
      elim (ℕ_discrete (suc n) m) [
        | yes c ↦ subst (λ (n : ℕ). (mutex_at e n).queue ≡ (mutex_at s n).queue) (sym c) (ap (λ (x : reference.Mutex). x.queue) (mutex_here (omega arith)) ∙ h)
        | no c ↦ ap (λ (x : reference.Mutex). x.queue) (mutex-other (suc n) c)
      ]

  ready-other : (i : ℕ) → i ≢ works_on s p → reference.queue_at e i ≡ reference.queue_at s i
  ready-other i d = at-put-other s.ready (works_on s p) i v.ready [] d

  ready-same : v.ready ≡ reference.queue_at s (works_on s p) → (i : ℕ) → reference.queue_at e i ≡ reference.queue_at s i
  ready-same h i =
      elim (ℕ_discrete i (works_on s p)) [
        | yes c ↦
            subst (λ (i : ℕ). reference.queue_at e i ≡ reference.queue_at s i) (sym c)
            (at-put-same s.ready (works_on s p) v.ready [] (omega (arith, works_there s p f.before f.processor, f.before.placed.count)) ∙ h)
        | no c ↦ ready-other i c
      ]

  -- all but the mutex's
  but_mutex : v.ready ≡ reference.queue_at s (works_on s p) → (n : ℕ) → n ≢ m → queue_at e n ≡ queue_at s n
  but_mutex h n d = queue-same n (ap (λ (x : reference.Mutex). x.queue) (mutex-other n d)) (λ i c. ready-same h i)

  -- all but the ready queue
  but_ready : v.mutex.queue ≡ (mutex_at s m).queue → (n : ℕ) → n ≢ number s p → queue_at e n ≡ queue_at s n
  but_ready h n d = queue-same n (mutex-same h n) (λ i c. ready-other i (λ z. d (sym c ∙ ap (ready_index s.stealing) z)))

  all-queues : v.ready ≡ reference.queue_at s (works_on s p) → v.mutex.queue ≡ (mutex_at s m).queue → (n : ℕ) → queue_at e n ≡ queue_at s n
  all-queues h g n = queue-same n (mutex-same g n) (λ i c. ready-same h i)

  -- ---- every thread but k stays where it is

  others : (k : ℕ) → ((q x : ℕ) → x ≢ k → occurrences x (queue_at s q) ≤ occurrences x (queue_at e q)) →
      Holds k (processor_at s p).current v.proc.current → Holds k (processor_at s p).transit v.proc.transit →
      ((x : ℕ) → 1 ≤ x → x ≢ k → (x ≢ i) × (x ≢ j)) → Others s e k
  others k a b c d =
      record {
        P = refl;
        T = refl;
        M = refl;
        stealing = refl;
        queues = a;
        current = registers (λ r. r.current) b;
        transit = registers (λ r. r.transit) c;
        life =
            λ x l n. at-put-other (put s.lives i live) j x reference.terminated live (d x l n).1 ∙ at-put-other s.lives i x live live (d x l n).0;
      }
    where
      registers : (g : reference.Processor → ℕ) → Holds k (g (processor_at s p)) (g v.proc) → (r x : ℕ) → 1 ≤ x → x ≢ k → g (processor_at s r) ≡ x → g (processor_at e r) ≡ x
      registers g h r x l n t =
          elim (ℕ_discrete r p) [
            | yes c ↦ subst (λ (r : ℕ). g (processor_at e r) ≡ x) (sym c) (ap g proc_here ∙ h x l n (subst (λ (r : ℕ). g (processor_at s r) ≡ x) c t))
            | no c ↦ ap g (proc-other r c) ∙ t
          ]

  -- a thread goes to a place outside the queues
  marks : (k : ℕ) → In s.T k → (x : Spot) → AtSpot e k x → v.ready ≡ reference.queue_at s (works_on s p) → v.mutex.queue ≡ (mutex_at s m).queue →
      Holds k (processor_at s p).current v.proc.current → Holds k (processor_at s p).transit v.proc.transit →
      ((x : ℕ) → 1 ≤ x → x ≢ k → (x ≢ i) × (x ≢ j)) →
      (encode e).chains ≡ placed (encode s).chains k (thread_record (entry_for e k x))
  marks k r x a h g b c d =
      one_moves s e f.before f.after k r (others k (λ q y n. rw (all-queues h g q) (omega arith)) b c d) (all-queues h g) x a

  now_current : (k : ℕ) → v.proc.current ≡ k → AtSpot e k (current p)
  now_current k d = (f.processor, ap (λ (r : reference.Processor). r.current) proc_here ∙ d)

  now_transit : (k : ℕ) → v.proc.transit ≡ k → AtSpot e k (transit p)
  now_transit k d = (f.processor, ap (λ (r : reference.Processor). r.transit) proc_here ∙ d)

  -- ---- processors and mutexes

  processors-set : (encode e).processors ≡ set (encode s).processors p (processor_record v.proc)
  unfolding encode
  processors-set =
      tabulate-set (λ r. processor_record (processor_at s r)) (λ r. processor_record (processor_at e r)) 9 p (omega (arith, f.processor, f.before.p_most))
      (λ r l n. ap processor_record (proc-other r n)) ∙ ap (λ (r : reference.Processor). set (tabulate (λ r. processor_record (processor_at s r)) 0 9) p (processor_record r)) proc_here

  -- mutex 0 is none, and its record zero
  mutexes-set : (m ≡ 0 → mutex_record v.mutex ≡ zero_mutex) → (encode e).mutexes ≡ set (encode s).mutexes m (mutex_record v.mutex)
  unfolding encode
  mutexes-set h =
      tabulate-set (λ n. mutex_record (mutex_at s n)) (λ n. mutex_record (mutex_at e n)) 9 m (omega (arith, f.mutex, f.before.m_most))
      (λ n l d. ap mutex_record (mutex-other n d)) ∙ ap (set (tabulate (λ n. mutex_record (mutex_at s n)) 0 9) m) (elim (ℕ_discrete m 0) [ yes d ↦ none d | no d ↦ ap mutex_record (mutex_here (omega arith)) ])
    where
      none : m ≡ 0 → mutex_record (mutex_at e m) ≡ mutex_record v.mutex
      none d = subst (λ (n : ℕ). mutex_record (mutex_at e n) ≡ zero_mutex) (sym d) refl ∙ sym (h d)

  -- the whole record, of what is known of its chains
  pub record_after : {c : Chains} → (m ≡ 0 → mutex_record v.mutex ≡ zero_mutex) → (encode e).chains ≡ c →
      encode e ≡
      with_applied ((encode s).applied + 1) (with_processor p (processor_record v.proc) (with_mutex m (mutex_record v.mutex) (with_chains c (encode s))))
  unfolding encode
  record_after h a =
      λ i. record { p = s.P; t = s.T; m = s.M; stealing = s.stealing; applied = sym (add-one s.applied) i; chains = a i; processors = processors-set i; mutexes = mutexes-set h i }

-- ---- the transfers, by what the view v that is put back has of the queues and of the current and transit registers

abbrev pub thread_as : ℕ → ℕ → ℕ → Thread
thread_as n h x = record { status = n; holder = h; next = x }

-- no thread is created and none ended
lives-stay : (k x : ℕ) → 1 ≤ x → x ≢ k → (x ≢ 0) × (x ≢ 0)
lives-stay k x l n = (omega arith, omega arith)

module _ (s : reference.State) (p m : ℕ) (v : View) where
  module _ (f : Frame s p m 0 0 v) where
    -- no thread moves
    pub stay : v.ready ≡ reference.queue_at s (works_on s p) → v.mutex.queue ≡ (mutex_at s m).queue → v.proc.current ≡ (processor_at s p).current → v.proc.transit ≡ (processor_at s p).transit →
        (encode (put_back s p m 0 0 v)).chains ≡ (encode s).chains
    stay h g c t =
        none_moves s (put_back s p m 0 0 v) f.before f.after
        (others s p m 0 0 v f 0 (λ q x n. rw (all-queues s p m 0 0 v f h g q) (omega arith))
        (holds_same c) (holds_same t) (lives-stay 0))
        (all-queues s p m 0 0 v f h g)

    module _ (k : ℕ) (r : In s.T k) (h : v.ready ≡ reference.queue_at s (works_on s p)) (g : v.mutex.queue ≡ (mutex_at s m).queue) where
      -- the transit register is loaded
      pub load : (processor_at s p).current ≡ 0 → (processor_at s p).transit ≡ k → v.proc.current ≡ k →
          (encode (put_back s p m 0 0 v)).chains ≡ placed (encode s).chains k (thread_as 3 p 0)
      load c t now =
          marks s p m 0 0 v f k r (current p) (now_current s p m 0 0 v f k now) h g
          (holds_none c) (holds_it t) (lives-stay k)

      -- the current thread goes to the transit register
      pub unload : (processor_at s p).current ≡ k → (processor_at s p).transit ≡ 0 → v.proc.transit ≡ k →
          (encode (put_back s p m 0 0 v)).chains ≡ placed (encode s).chains k (thread_as 4 p 0)
      unload c t now =
          marks s p m 0 0 v f k r (transit p) (now_transit s p m 0 0 v f k now) h g
          (holds_it c) (holds_none t) (lives-stay k)

  -- a new thread goes to the transit register
  pub create : (k : ℕ) → Frame s p m k 0 v → In s.T k → v.ready ≡ reference.queue_at s (works_on s p) → v.mutex.queue ≡ (mutex_at s m).queue →
      v.proc.current ≡ (processor_at s p).current → (processor_at s p).transit ≡ 0 → v.proc.transit ≡ k →
      (encode (put_back s p m k 0 v)).chains ≡ placed (encode s).chains k (thread_as 4 p 0)
  create k f r h g c t now =
      marks s p m k 0 v f k r (transit p) (now_transit s p m k 0 v f k now) h g
      (holds_same c) (holds_none t) (λ x l n. (n, omega arith))

  -- the current thread terminates
  pub terminate : (k : ℕ) → Frame s p m 0 k v → In s.T k → v.ready ≡ reference.queue_at s (works_on s p) → v.mutex.queue ≡ (mutex_at s m).queue →
      (processor_at s p).current ≡ k → v.proc.transit ≡ (processor_at s p).transit →
      (encode (put_back s p m 0 k v)).chains ≡ placed (encode s).chains k (thread_as 5 0 0)
  terminate k f r h g c t =
      marks s p m 0 k v f k r terminated (at-put-same s.lives k reference.terminated live (omega (arith, f.before.placed.lives))) h g
      (holds_it c) (holds_same t) (λ x l n. (omega arith, n))

  module _ (f : Frame s p m 0 0 v) (k : ℕ) (c : v.proc.current ≡ (processor_at s p).current) where
    moves : (q : ℕ) → ((n : ℕ) → n ≢ q → queue_at (put_back s p m 0 0 v) n ≡ queue_at s n) →
        ((x : ℕ) → x ≢ k → occurrences x (queue_at s q) ≤ occurrences x (queue_at (put_back s p m 0 0 v) q)) →
        Holds k (processor_at s p).transit v.proc.transit → Others s (put_back s p m 0 0 v) k
    moves q o a t = others s p m 0 0 v f k by (holds_same c) t (lives-stay k)
      where
        by : (n x : ℕ) → x ≢ k → occurrences x (queue_at s n) ≤ occurrences x (queue_at (put_back s p m 0 0 v) n)
        by n x d =
            elim (ℕ_discrete n q) [
              | yes z ↦ subst (λ (n : ℕ). occurrences x (queue_at s n) ≤ occurrences x (queue_at (put_back s p m 0 0 v) n)) (sym z) (a x d)
              | no z ↦ rw (o n z) (omega arith)
            ]

    -- the first of a queue goes to the transit register
    takes : (q : ℕ) (rest : List ℕ) → q ≤ 16 → ((n : ℕ) → n ≢ q → queue_at (put_back s p m 0 0 v) n ≡ queue_at s n) →
        queue_at s q ≡ k ∷ rest → queue_at (put_back s p m 0 0 v) q ≡ rest → (processor_at s p).transit ≡ 0 → v.proc.transit ≡ k →
        (encode (put_back s p m 0 0 v)).chains ≡ removed (encode s).chains q k (first rest) (thread_as 4 p 0)
    takes q rest l o was now t to =
        one_leaves s (put_back s p m 0 0 v) f.before f.after q l o k rest was now
        (moves q o (λ x d. rw (was, now) (omega (arith, occurs_skip x k rest d))) (holds_none t)) (transit p)
        (now_transit s p m 0 0 v f k to)

    pub take-ready : (rest : List ℕ) → reference.queue_at s (works_on s p) ≡ k ∷ rest → v.ready ≡ rest → v.mutex.queue ≡ (mutex_at s m).queue →
        (processor_at s p).transit ≡ 0 → v.proc.transit ≡ k →
        (encode (put_back s p m 0 0 v)).chains ≡ removed (encode s).chains (number s p) k (first rest) (thread_as 4 p 0)
    take-ready rest was now g =
        takes (number s p) rest (number-most s p f.before f.processor) (but_ready s p m 0 0 v f g)
        (numbers.queue-ready s (works_on s p) (works_there s p f.before f.processor) ∙ was) (queue-ready s p m 0 0 v f ∙ now)

    pub take-queue : (rest : List ℕ) → 1 ≤ m → (mutex_at s m).queue ≡ k ∷ rest → v.mutex.queue ≡ rest → v.ready ≡ reference.queue_at s (works_on s p) →
        (processor_at s p).transit ≡ 0 → v.proc.transit ≡ k →
        (encode (put_back s p m 0 0 v)).chains ≡ removed (encode s).chains m k (first rest) (thread_as 4 p 0)
    take-queue rest l was now h =
        takes m rest (omega (arith, in_eight s p m 0 0 v f l)) (but_mutex s p m 0 0 v f h) (numbers.queue-mutex s m (in_eight s p m 0 0 v f l) ∙ was) (queue-mutex s p m 0 0 v f l ∙ now)

    -- the transit register's thread joins a queue
    module _ (r : In s.T k) (t : (processor_at s p).transit ≡ k) where
      join : (q : ℕ) → q ≤ 16 → ((n : ℕ) → n ≢ q → queue_at (put_back s p m 0 0 v) n ≡ queue_at s n) →
          queue_at (put_back s p m 0 0 v) q ≡ queue_at s q ++ k ∷ [] → (encode (put_back s p m 0 0 v)).chains ≡ joined (encode s).chains q k
      join q l o now =
          one_joins s (put_back s p m 0 0 v) f.before f.after q l o k r now
          (moves q o (λ x d. rw now (omega (arith, occurs_snoc x k (queue_at s q) d))) (holds_it t))

      pub join_ready : v.ready ≡ reference.queue_at s (works_on s p) ++ k ∷ [] → v.mutex.queue ≡ (mutex_at s m).queue →
          (encode (put_back s p m 0 0 v)).chains ≡ joined (encode s).chains (number s p) k
      join_ready now g =
          join (number s p) (number-most s p f.before f.processor) (but_ready s p m 0 0 v f g)
          (queue-ready s p m 0 0 v f ∙ now ∙ ap (λ (q : List ℕ). q ++ k ∷ []) (sym (numbers.queue-ready s (works_on s p) (works_there s p f.before f.processor))))

      pub join_queue : 1 ≤ m → v.mutex.queue ≡ (mutex_at s m).queue ++ k ∷ [] → v.ready ≡ reference.queue_at s (works_on s p) →
          (encode (put_back s p m 0 0 v)).chains ≡ joined (encode s).chains m k
      join_queue l now h =
          join m (omega (arith, in_eight s p m 0 0 v f l)) (but_mutex s p m 0 0 v f h)
          (queue-mutex s p m 0 0 v f l ∙ now ∙ ap (λ (q : List ℕ). q ++ k ∷ []) (sym (numbers.queue-mutex s m (in_eight s p m 0 0 v f l))))
