-- The words that a move is said to write are the words that it changes.
-- Assumes nothing.
use Prim.Native.Nat.{ℕ, zero, suc, ◌-◌, ◌≤◌, ◌<◌}
use mathlib.Core.Bool.{Bool, true, false, true≢false}
use mathlib.Core.List.{List, [], ◌∷◌, ◌++◌}
use mathlib.Core.Logic.{◌≢◌}
use mathlib.Core.Path.{◌≡◌, refl, ap, sym, subst, ◌∙◌}
use native.Mathlib.Omega.{arith}
use lib.ListN.{length, length-append}
use Rattle.reference.specs.Lists.{is, choose, if_zero, if_empty}
use Rattle.reference.specs.State.{Token, Processor, Mutex, live, terminated, State, Line, App, CI2, CI3, L1, L3, L4, L6, L7, L8, L9, L10, TL1, GT1, GT3, TL3, U1, H2, H3, H5, H6, H8, Y1, Y2, Y3, C2, no_token, free_mutex, processor_at, mutex_at, queue_at, life_at, same_token}
use Rattle.reference.specs.Step.{View, with_proc, with_ready, counted, queued, owned, tokened, own_token, unchanged, line, Action, go, lock, trylock, unlock, yield, exit, create, act, works_on, view, put_back, does, Move, action_of, next}
use Rattle.reference.specs.Cause.{operand_fits, cause}
use Rattle.reference.specs.Safe.{In, end}
use Rattle.reference.specs.Touch.{Word, none, count, token, queue, ready, birth, Touch, looks_at, changes, line_touch, act_touch}
use Rattle.reference.specs.Frame.{Same, Framed, Frames}
use Rattle.reference.proofs.Tests.{range_true}
use Rattle.reference.proofs.Sums.{some_le, some_one, some_pos, at-put-same, at-put-kept, if_zero-by, if_empty-by}
use Rattle.reference.proofs.Legal.{Here, legal}
use Rattle.reference.proofs.Local.{Fit, token-processor, unchanged-processor}
use Rattle.reference.proofs.Invariant.{Good, works_in, go-fit}
use Rattle.reference.proofs.Lives.{is_new, current-lives}
use Rattle.reference.proofs.Laws.{good}

-- ---- on a view: v before a move on mutex m and ready queue q, u after it

-- what u shows of m and q is as v shows it, but for the word w
record Kept (w : Word) (m q : ℕ) (v u : View) : Type 0 where
  counts : w ≢ count m → u.mutex.count ≡ v.mutex.count
  tokens : w ≢ token m → u.mutex.token ≡ v.mutex.token
  queues : w ≢ queue m → u.mutex.queue ≡ v.mutex.queue
  readies : w ≢ ready q → u.ready ≡ v.ready

-- the word w is one of m or q, and u shows it otherwise than v
abbrev Differs : Word → ℕ → ℕ → View → View → Type 0
Differs none m q v u = Unit {0}
Differs (count i) m q v u = (1 ≤ m) × (i ≡ m) × (u.mutex.count ≢ v.mutex.count)
Differs (token i) m q v u = (1 ≤ m) × (i ≡ m) × (u.mutex.token ≢ v.mutex.token)
Differs (queue i) m q v u = (1 ≤ m) × (i ≡ m) × (u.mutex.queue ≢ v.mutex.queue)
Differs (ready i) m q v u = (i ≡ q) × (u.ready ≢ v.ready)
Differs (birth k) m q v u = ⊥

-- the word that a move is said to write is the one that it changes
record Written (t : Touch) (m q : ℕ) (v u : View) : Type 0 where
  kept : Kept t.writes m q v u
  differs : Differs t.writes m q v u

module _ {m q : ℕ} {v : View} where
  -- only registers change
  registers : {w : Word} {r : Processor} → Kept w m q v (with_proc r v)
  registers = record { counts = λ n. refl; tokens = λ n. refl; queues = λ n. refl; readies = λ n. refl }

  -- no word changes, or one
  no_word : {w : Word} {r : Processor} → Written (looks_at w) m q v (with_proc r v)
  no_word = record { kept = registers; differs = tt }

  count-written : {r : Processor} {k n : ℕ} → 1 ≤ m → n ≢ v.mutex.count → Written (changes (count m)) m q v (with_proc r (owned k (counted n v)))
  count-written h d =
      record { kept = record { counts = λ n. absurd (n refl); tokens = λ n. refl; queues = λ n. refl; readies = λ n. refl }; differs = (h, refl, d) }

  token-written : {w : Word} {r : Processor} {k : ℕ} {t : Token} → 1 ≤ m → t ≢ v.mutex.token → Written (record { reads = w; writes = token m }) m q v (with_proc r (owned k (tokened t v)))
  token-written h d =
      record { kept = record { counts = λ n. refl; tokens = λ n. absurd (n refl); queues = λ n. refl; readies = λ n. refl }; differs = (h, refl, d) }

  queue-written : {r : Processor} {k : ℕ} {l : List ℕ} → 1 ≤ m → l ≢ v.mutex.queue → Written (changes (queue m)) m q v (with_proc r (owned k (queued l v)))
  queue-written h d =
      record { kept = record { counts = λ n. refl; tokens = λ n. refl; queues = λ n. absurd (n refl); readies = λ n. refl }; differs = (h, refl, d) }

  ready-written : {r : Processor} {l : List ℕ} → l ≢ v.ready → Written (changes (ready q)) m q v (with_proc r (with_ready l v))
  ready-written d =
      record { kept = record { counts = λ n. refl; tokens = λ n. refl; queues = λ n. refl; readies = λ n. absurd (n refl) }; differs = (refl, d) }

  -- the branches of a line whose word depends on them
  chosen : (b : Bool) {s t : Touch} {u x : View} → (b ≡ true → Written s m q v u) → Written t m q v x → Written (choose b s t) m q v (choose b u x)
  chosen true h k = h refl
  chosen false h k = k

  zeroed : (n : ℕ) {s t : Touch} {u x : View} → (n ≡ 0 → Written s m q v u) → Written t m q v x → Written (if_zero n s t) m q v (if_zero n u x)
  zeroed zero h k = h refl
  zeroed (suc n) h k = k

  emptied : (l : List ℕ) {s : Touch} {t : ℕ → List ℕ → Touch} {u : View} {x : ℕ → List ℕ → View} → Written s m q v u →
      ((k : ℕ) (rest : List ℕ) → rest ≢ l → Written (t k rest) m q v (x k rest)) → Written (if_empty l s t) m q v (if_empty l u x)
  emptied [] h k = h
  emptied (y ∷ ys) h k = k y ys (λ e. omega (arith, ap length e))

-- a queue that a thread has joined is another
longer : (l : List ℕ) (k : ℕ) → l ++ k ∷ [] ≢ l
longer l k e = omega (arith, ap length e, length-append l (k ∷ []))

-- to take away a token that is there is a change
there : (t : Token) → 1 ≤ t.processor → no_token ≢ t
there t h e = omega (arith, ap (λ (t : Token). t.processor) e)

module _ (P T M N : ℕ) (f : ℕ → ℕ) (q : ℕ) where
  -- every line writes what the table says; that it really changes follows from the invariant
  line-written : (l : Line) (v : View) → Fit P T M N f l v → Written (line_touch l v.proc.mutex q v) v.proc.mutex q v (line l v)
  unfolding line line_touch
  line-written App v h = no_word
  line-written CI2 v h = emptied v.ready no_word (λ k rest d. ready-written d)
  line-written CI3 v h = no_word
  line-written L1 v h =
      if_zero-by (Written (changes (count v.proc.mutex)) v.proc.mutex q v) v.mutex.count
      (λ e. count-written (omega arith) (λ e. omega arith)) (λ n e. count-written (omega arith) (λ e. omega arith))
  line-written L3 v h = no_word
  line-written L4 v h = queue-written (omega arith) (longer v.mutex.queue v.proc.transit)
  line-written L6 v h = if_zero-by (Written (looks_at (token v.proc.mutex)) v.proc.mutex q v) v.mutex.token.processor (λ e. no_word) (λ n e. no_word)
  line-written L7 v h = if_empty-by (Written (looks_at (queue v.proc.mutex)) v.proc.mutex q v) v.mutex.queue (λ e. no_word) (λ k rest e. no_word)
  line-written L8 v h = chosen (unchanged v) (λ e. token-written (omega arith) (there v.mutex.token (omega (arith, unchanged-processor v e)))) no_word
  line-written L9 v h = emptied v.mutex.queue no_word (λ k rest d. queue-written (omega arith) d)
  line-written L10 v h = no_word
  line-written TL1 v h = zeroed v.mutex.count (λ e. count-written (omega arith) (omega arith)) no_word
  line-written GT1 v h = if_zero-by (Written (looks_at (token v.proc.mutex)) v.proc.mutex q v) v.mutex.token.processor (λ e. no_word) (λ n e. no_word)
  line-written GT3 v h = chosen (unchanged v) (λ e. token-written (omega arith) (there v.mutex.token (omega (arith, unchanged-processor v e)))) no_word
  line-written TL3 v h = count-written (omega arith) (λ e. omega arith)
  line-written U1 v h =
      if_zero-by (Written (changes (count v.proc.mutex)) v.proc.mutex q v) (v.mutex.count - 1) (λ e. count-written (omega arith) less) (λ n e. count-written (omega arith) less)
    where
      -- its own thread is counted
      less : v.mutex.count - 1 ≢ v.mutex.count
      less e = omega (arith, h.handed, some_le v.mutex.count, some_pos v.mutex.owner (omega (arith, h.holds (omega arith), h.table)))
  line-written H2 v h = emptied v.mutex.queue no_word (λ k rest d. queue-written (omega arith) d)
  line-written H3 v h = ready-written (longer v.ready v.proc.transit)
  line-written H5 v h =
      token-written (omega arith)
      (λ e. omega (arith, some_one v.mutex.count, some_pos v.mutex.token.processor (omega (arith, ap (λ (t : Token). t.processor) e))))
  line-written H6 v h = if_empty-by (Written (looks_at (queue v.proc.mutex)) v.proc.mutex q v) v.mutex.queue (λ e. no_word) (λ k rest e. no_word)
  line-written H8 v h =
      chosen (same_token v.mutex.token (own_token v))
      (λ e. token-written (omega arith) (there v.mutex.token (omega (arith, token-processor v.mutex.token (own_token v) e)))) no_word
  line-written Y1 v h = if_empty-by (Written (looks_at (ready q)) v.proc.mutex q v) v.ready (λ e. no_word) (λ k rest e. no_word)
  line-written Y2 v h = no_word
  line-written Y3 v h = ready-written (longer v.ready v.proc.transit)
  line-written C2 v h = ready-written (longer v.ready v.proc.transit)

-- ---- on the whole state

-- t is s but for the word w, which differs
record Turned (w : Word) (s t : State) : Type 0 where
  others : (x : Word) → w ≢ x → Same x t s
  itself : w ≢ none → ¬ (Same w t s)

module _ (s : State) (g : Good s) (p : ℕ) (rp : In s.P p) where
  -- a view is put back, thread i live and thread j terminated
  module _ (m i j : ℕ) (u : View) where
    abbrev t : State
    t = put_back s p m i j u

    unwritten : {w : Word} → Kept w m (works_on s p) (view s p m) u → ((k : ℕ) → w ≢ birth k → Same (birth k) t s) → (x : Word) → w ≢ x → Same x t s
    unwritten h b none n = tt
    unwritten h b (count k) n = at-put-kept (λ (x : Mutex). x.count) s.mutexes m k u.mutex free_mutex (λ e. h.counts (λ z. n (z ∙ ap count (sym e))))
    unwritten h b (token k) n = at-put-kept (λ (x : Mutex). x.token) s.mutexes m k u.mutex free_mutex (λ e. h.tokens (λ z. n (z ∙ ap token (sym e))))
    unwritten h b (queue k) n = at-put-kept (λ (x : Mutex). x.queue) s.mutexes m k u.mutex free_mutex (λ e. h.queues (λ z. n (z ∙ ap queue (sym e))))
    unwritten h b (ready k) n = at-put-kept (λ (x : List ℕ). x) s.ready (works_on s p) k u.ready [] (λ e. h.readies (λ z. n (z ∙ ap ready (sym e))))
    unwritten h b (birth k) n = b k n

    module _ (rm : m ≤ s.M) where
      stored : 1 ≤ m → mutex_at t m ≡ u.mutex
      stored h = at-put-same s.mutexes m u.mutex free_mutex (omega (arith, g.mutexes))

      stored-ready : queue_at t (works_on s p) ≡ u.ready
      stored-ready = at-put-same s.ready (works_on s p) u.ready [] (works_in s g p rp)

      written : (w : Word) → Differs w m (works_on s p) (view s p m) u → w ≢ none → ¬ (Same w t s)
      written none d n e = n refl
      written (count k) d n e = d.2 (ap (λ (x : Mutex). x.count) (sym (stored d.0)) ∙ rw d.1 at e)
      written (token k) d n e = d.2 (ap (λ (x : Mutex). x.token) (sym (stored d.0)) ∙ rw d.1 at e)
      written (queue k) d n e = d.2 (ap (λ (x : Mutex). x.queue) (sym (stored d.0)) ∙ rw d.1 at e)
      written (ready k) d n e = d.1 (sym stored-ready ∙ rw d.0 at e)
      written (birth k) d n e = d

  -- a call that is no create: only registers change, and a thread j that was born may end
  call : (m j : ℕ) (r : Processor) → is_new (life_at s j) ≡ false → Turned none s (put_back s p m 0 j (with_proc r (view s p m)))
  call m j r e =
      record {
        others = unwritten m 0 j _ registers (λ k n. at-put-kept is_new s.lives j k terminated live (λ z. sym e));
        itself = λ n. absurd (n refl);
      }

  does-turned : (c : Action) (o : ℕ) → s.applied < 4000 → operand_fits s c o ≡ true → Here s p c o →
      Turned (act_touch c o (processor_at s p).mutex (works_on s p) (view s p (processor_at s p).mutex)).writes s (does s p c o)
  unfolding act act_touch
  does-turned go o early f h =
      let m : ℕ = (processor_at s p).mutex in
      let w = line-written s.P s.T s.M s.applied (is 1) (works_on s p) (processor_at s p).position (view s p m) (go-fit s g p rp early 1 (omega arith)) in
      record { others = unwritten m 0 0 _ w.kept (λ k n. refl); itself = written m 0 0 _ (g.table p rp).registers.mutex-most _ w.differs }
  does-turned lock o early f h = call o 0 _ refl
  does-turned trylock o early f h = call o 0 _ refl
  does-turned unlock o early f h = call o 0 _ refl
  does-turned yield o early f h = call (processor_at s p).mutex 0 _ refl
  does-turned exit o early f h = call (processor_at s p).mutex (processor_at s p).current _ (ap is_new (current-lives s g p rp))
  does-turned create o early f h =
      record {
        others = unwritten (processor_at s p).mutex o 0 _ registers (λ k n. at-put-kept is_new s.lives o k live live (λ e. absurd (n (ap birth (sym e)))));
        itself = λ n e.
            true≢false
            (sym (ap is_new (h.unborn refl)) ∙ sym e ∙ ap is_new (at-put-same s.lives o live live (omega (arith, g.lives, range_true 1 s.T o f))));
      }

pub framed : (s : State) (a : Move) → Good s → cause s a ≡ 0 → Framed s a
unfolding next
framed s a g e =
    let h = legal s a e in
    let d = does-turned s g a.processor h.processor (action_of a.action) a.operand h.room h.operand h.here in
    record {
      others_stay = d.others;
      changes_its = λ w n z x. d.itself (λ y. n (sym z ∙ y)) (subst (λ (w : Word). Same w (next s a) s) (sym z) x);
    }

pub frames : Frames
frames c ms e ok a z = framed (end c ms) a (good c e ms ok) z
