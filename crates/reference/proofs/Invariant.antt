-- The invariant of every state that is reached from a start, and that a move without a cause keeps it.
-- Assumes nothing.
use Prim.Native.Nat.{ℕ, zero, suc, ◌+◌, ◌-◌, ◌*◌, ◌≤◌, ◌<◌}
use mathlib.Core.Bool.{Bool, true, false, not}
use mathlib.Core.List.{List, [], ◌∷◌}
use mathlib.Core.Logic.{◌≢◌}
use mathlib.Core.Path.{◌≡◌, refl, ap, sym, subst, ◌∙◌}
use native.Mathlib.Omega.{arith}
use native.Mathlib.Decide.{ℕ_discrete}
use native.Mathlib.Nat.{mul-one, mul-zero}
use lib.ListN.{length}
use Rattle.reference.specs.Lists.{at, put, sum, is, occurrences}
use Rattle.reference.specs.State.{Token, Processor, Mutex, Life, new, live, terminated, State, Line, App, row, queues, nobody, free_mutex, processor_at, mutex_at, life_at, same_token, same_life}
use Rattle.reference.specs.Step.{View, Action, go, lock, trylock, unlock, yield, exit, create, act, target, works_on, view, put_back, does, created_by, ended_by, Move, action_of, next, run}
use Rattle.reference.specs.Cause.{is_go, operand_fits, cause, accepted}
use Rattle.reference.specs.Safe.{In, one_if, held}
use Rattle.reference.proofs.Tests.{range_true}
use Rattle.reference.proofs.Same.{same_token_exact}
use Rattle.reference.proofs.Sums.{is_same, is-other, some, some_one, some_pos, around_in, at-put-same, at-put-other, sum-put, sum-put-zero, sum-at, sum-two, length-put, at-put, choose-by}
use Rattle.reference.proofs.Legal.{Here, legal, accepted_cons}
use Rattle.reference.proofs.Local.{out, Table, ProbeFits, Sound, Fit, Done, act-done, from, Allowed, Duty, duty, Stays, watch, Handled, Old, act_handled, token-processor, token-self}

-- what a processor weighs in a sum over those on mutex k
abbrev pub weighs : (Duty → ℕ) → ℕ → Processor → ℕ
weighs w k r = w (duty r.position) * is k r.mutex

abbrev pub at_line : State → ℕ → Line
at_line s p = (processor_at s p).position

-- 0 for a live thread, 1 for one that is new or terminated
abbrev pub gone : Life → ℕ
gone l = one_if (not (same_life l live))

-- what thread i's creation and thread j's end make of who is gone
abbrev pub LivesMove : State → ℕ → ℕ → Type 0
LivesMove s i j = (k : ℕ) → In s.T k → gone (at (put (put s.lives i live) j terminated) k live) + is k i ≡ gone (life_at s k) + is k j

-- the sum over the processors on mutex k
abbrev pub on : State → (Duty → ℕ) → ℕ → ℕ
on s w k = sum (weighs w k) s.processors

-- 1 for each register of a processor that holds k
abbrev pub in_registers : ℕ → Processor → ℕ
in_registers k r = is k r.current + is k r.transit

-- some processor on m will find the token t
abbrev pub Watched : State → ℕ → Token → Type 0
Watched s m t = (q : ℕ) × In s.P q × ((processor_at s q).mutex ≡ m) × (1 ≤ watch (at_line s q) t q (processor_at s q))

-- a processor that will serve the queue of its mutex, or does so when the token that it observed is still there, will find someone in it
abbrev pub Claims : State → Processor → Type 0
Claims s r =
    (duty r.position).claims * one_if (same_token (mutex_at s r.mutex).token r.observed) + (duty r.position).takes ≤ length (mutex_at s r.mutex).queue

pub record Good (s : State) : Type 0 where
  pub applied : s.applied ≤ 4000
  pub processors : length s.processors ≡ s.P
  pub mutexes : length s.mutexes ≡ s.M
  pub lives : length s.lives ≡ s.T
  pub table : (p : ℕ) → In s.P p → Table s.P s.T s.M s.applied (at_line s p) (processor_at s p)
  pub sound : (m : ℕ) → In s.M m → Sound s.P s.T s.applied (mutex_at s m)
  pub queues : length s.ready ≡ queues s.stealing s.P
  pub probe : (p : ℕ) → In s.P p → ProbeFits (length s.ready) (at_line s p) (processor_at s p).probe
  pub ready : sum (sum (out s.T)) s.ready ≡ 0
  -- a count is the owner, those that wait and those on their way to the queue, but for an owner that is not counted yet
  pub counts : (m : ℕ) → In s.M m →
      (mutex_at s m).count + on s (λ w. w.uncounted) m ≡ some (mutex_at s m).owner + length (mutex_at s m).queue + on s (λ w. w.carries) m
  -- a mutex that is counted has one of: an owner, a token, a processor that has to hand it on
  pub hands : (m : ℕ) → In s.M m →
      some (mutex_at s m).owner + some (mutex_at s m).token.processor + on s (λ w. w.responsible) m ≡ some (mutex_at s m).count
  pub holds : (p : ℕ) → In s.P p → 1 ≤ (duty (at_line s p)).holds → (processor_at s p).current ≡ (mutex_at s (processor_at s p).mutex).owner
  -- a thread is held once, or it is gone
  pub census : (k : ℕ) → In s.T k → held s k + gone (life_at s k) ≡ 1
  -- a sequence number in a token is not above that of its processor
  pub known-token : (m : ℕ) → In s.M m → (mutex_at s m).token.sequence ≤ (processor_at s (mutex_at s m).token.processor).sequence
  pub known-observed : (p : ℕ) → In s.P p → (processor_at s p).observed.sequence ≤ (processor_at s (processor_at s p).observed.processor).sequence
  -- while somebody waits, a token will be found
  pub watched : (m : ℕ) → In s.M m → 1 ≤ some (mutex_at s m).token.processor → 1 ≤ length (mutex_at s m).queue → Watched s m (mutex_at s m).token
  pub claims : (p : ℕ) → In s.P p → Claims s (processor_at s p)

-- ---- a thread is created, or ended

pub created_one : (s : State) (o : ℕ) → length s.lives ≡ s.T → life_at s o ≡ new → LivesMove s o 0
created_one s o long e k r =
    at-put (λ (k : ℕ) (x : Life). gone x + is k o ≡ gone (life_at s k) + is k 0) s.lives o k live live (omega arith)
    (λ i. omega (arith, is_same o, is-other o 0 (omega arith), ap gone e))
    (λ n. omega (arith, is-other k o n, is-other k 0 (omega arith)))

-- a processor's current thread is held there, so it is live
pub ended_one : (s : State) (p : ℕ) → length s.lives ≡ s.T → length s.processors ≡ s.P → In s.P p →
    (In s.T (processor_at s p).current → held s (processor_at s p).current + gone (life_at s (processor_at s p).current) ≡ 1) → LivesMove s 0 (processor_at s p).current
ended_one s p long many rp census k r =
    let c : ℕ = (processor_at s p).current in
    at-put (λ (k : ℕ) (x : Life). gone x + is k 0 ≡ gone (life_at s k) + is k c) s.lives c k terminated live (omega arith)
    (λ i.
    omega (arith, is_same c, is-other c 0 (omega arith), census (omega arith), sum-at (in_registers c) s.processors p nobody (omega arith)))
    (λ n. omega (arith, is-other k c n, is-other k 0 (omega arith)))

-- ---- arithmetic

serve : (a t n : ℕ) (b : Bool) → t ≤ n → (b ≡ true → 1 ≤ a → a + t ≤ n) → a * one_if b + t ≤ n
serve zero t n b h k = omega arith
serve (suc a) t n true h k = omega (arith, k refl (omega arith))
serve (suc a) t n false h k = omega arith

serve-none : (a t n : ℕ) (b : Bool) → a + t ≡ 0 → a * one_if b + t ≤ n
serve-none a t n b e = serve a t n b (omega arith) (λ x h. absurd (omega arith))

apart : {n : ℕ} → n ≡ 0 → 1 ≤ n → ⊥
apart e h = omega arith

token_eq : (t u : Token) → t.processor ≡ u.processor → t.sequence ≡ u.sequence → t ≡ u
token_eq t u p r = λ i. record { processor = p i; sequence = r i }

times_one : (a : ℕ) {b : ℕ} → b ≡ 1 → a * b ≡ a
times_one a e = rw e (mul-one a)

pub times_zero : (a : ℕ) {b : ℕ} → b ≡ 0 → a * b ≡ 0
times_zero a e = rw e (mul-zero a)

-- a register that the row says is zero holds no thread
off : (T c n k : ℕ) → 1 ≤ k → n ≤ T * c → (1 - c) * is k n ≡ 0
off T zero n k h b = times_zero 1 (is-other k n (omega arith))
off T (suc c) n k h b = let z : 1 - suc c ≡ 0 = omega arith in rw z (omega arith)

older : {P T M N : ℕ} {l : Line} {r : Processor} → Table P T M N l r → Table P T M (suc N) l r
older h = omega arith

older_sound : {P T N : ℕ} {x : Mutex} → Sound P T N x → Sound P T (suc N) x
older_sound h = omega arith

pub some_queue : (c P p : ℕ) → In P p → 1 ≤ queues c P
some_queue zero P p r = omega arith
some_queue (suc c) P p r = omega arith

-- a processor works on a ready queue that is there
pub works_in : (s : State) → Good s → (p : ℕ) → In s.P p → In (length s.ready) (works_on s p)
works_in s g p r = around_in (length s.ready) _ (omega (arith, g.queues, some_queue s.stealing s.P p r))

-- ---- one processor's step keeps the invariant

module _ (s : State) (g : Good s) (p m : ℕ) (rp : In s.P p) (early : s.applied < 4000) (rm : m ≤ s.M) (i j : ℕ) (v' : View)
    (d : (k : ℕ) → 1 ≤ k → Done s.P s.T s.M s.applied (is k) (processor_at s p).position m i j (view s p m) v')
    (t : Handled s.P s.T s.M s.applied (is 1) (processor_at s p).position m (view s p m) v')
    (b : LivesMove s i j) where
  abbrev s' : State
  s' = put_back s p m i j v'

  in_procs : {q : ℕ} → In s.P q → In (length s.processors) q
  in_procs r = omega (arith, g.processors)

  in_mutexes : {k : ℕ} → In s.M k → In (length s.mutexes) k
  in_mutexes r = omega (arith, g.mutexes)

  -- a sum over the processors on a mutex: it moves on m as the processor's own share does, and on no other
  on_m : (w : Duty → ℕ) → Stays (w (duty (at_line s p))) (w (duty v'.proc.position)) m (processor_at s p).mutex v'.proc.mutex →
      on s' w m + w (duty (at_line s p)) ≡ on s w m + w (duty v'.proc.position)
  on_m w st = omega (arith, sum-put (weighs w m) s.processors p v'.proc nobody (in_procs rp), st m, times_one (w (duty (at_line s p))) (is_same m), times_one (w (duty v'.proc.position)) (is_same m))

  off_m : (w : Duty → ℕ) → Stays (w (duty (at_line s p))) (w (duty v'.proc.position)) m (processor_at s p).mutex v'.proc.mutex →
      (k : ℕ) → k ≢ m → on s' w k ≡ on s w k
  off_m w st k n = omega (arith, sum-put (weighs w k) s.processors p v'.proc nobody (in_procs rp), st k, times_zero (w (duty (at_line s p))) (is-other k m n), times_zero (w (duty v'.proc.position)) (is-other k m n))

  -- a holder elsewhere: its mutex keeps its owner, or one thread would be current on both processors
  other_holds : (q : ℕ) → In s.P q → q ≢ p → 1 ≤ (duty (at_line s q)).holds → (processor_at s q).mutex ≡ m → (processor_at s q).current ≡ v'.mutex.owner
  other_holds q r n h e = elim_zero (duty (at_line s p)).holds refl
    where
      its : (processor_at s q).current ≡ (mutex_at s m).owner
      its = rw e at (g.holds q r h)

      low : 1 ≤ (processor_at s q).current
      low = omega (arith, g.table q r)

      twice : 1 ≤ (duty (at_line s p)).holds → ⊥
      twice c =
          let own-thread : (processor_at s p).current ≡ (mutex_at s m).owner = rw ((d 1 (omega arith)).mutex c) at (g.holds p rp c) in
          let one : is (processor_at s q).current (processor_at s p).current ≡ 1 = rw (own-thread ∙ sym its) (is_same (processor_at s q).current) in
          omega (
            arith,
            is_same (processor_at s q).current,
            one,
            g.census (processor_at s q).current (omega (arith, g.table q r)),
            sum-two (in_registers (processor_at s q).current) s.processors p q nobody (in_procs rp) (in_procs r) (λ e. n (sym e)),
          )

      elim_zero : (a : ℕ) → (duty (at_line s p)).holds ≡ a → (processor_at s q).current ≡ v'.mutex.owner
      elim_zero zero z = its ∙ sym ((d 1 (omega arith)).steady (rw (← its) (some_pos (processor_at s q).current low)) z)
      elim_zero (suc a) z = absurd (twice (omega arith))

  own_now : processor_at s' p ≡ v'.proc
  own_now = at-put-same s.processors p v'.proc nobody (in_procs rp)

  others_now : (q : ℕ) → q ≢ p → processor_at s' q ≡ processor_at s q
  others_now q n = at-put-other s.processors p q v'.proc nobody n

  sequence_up : (q : ℕ) → (processor_at s q).sequence ≤ (processor_at s' q).sequence
  sequence_up q = elim (ℕ_discrete q p) [ yes e ↦ rw (e, own_now) t.sequence | no n ↦ rw (others_now q n) (omega arith) ]

  known_at : (k : ℕ) → k ≤ s.M → (mutex_at s k).token.sequence ≤ (processor_at s' (mutex_at s k).token.processor).sequence
  known_at zero r = omega arith
  known_at (suc k) r = omega (arith, g.known-token (suc k) (omega arith), sequence_up (mutex_at s (suc k)).token.processor)

  known_of : (v'.mutex.token.sequence ≤ (processor_at s' v'.mutex.token.processor).sequence) × (v'.proc.observed.sequence ≤ (processor_at s' v'.proc.observed.processor).sequence)
  known_of =
      t.known (λ (q : ℕ). (processor_at s' q).sequence) (ap (λ (r : Processor). r.sequence) own_now) (known_at m rm)
      (omega (arith, g.known-observed p rp, sequence_up (processor_at s p).observed.processor))

  -- the witness stays, if it is another processor
  still : (k : ℕ) (u : Token) (w : Watched s k u) → w.0 ≢ p → Watched s' k u
  still k u w n = (
    w.0,
    w.1,
    ap (λ (r : Processor). r.mutex) (others_now w.0 n) ∙ w.2,
    subst (λ (r : Processor). 1 ≤ watch r.position u w.0 r) (sym (others_now w.0 n)) w.3,
  )

  watched_m : 1 ≤ some v'.mutex.token.processor → 1 ≤ length v'.mutex.queue → In s.M m → Watched s' m v'.mutex.token
  watched_m a c i = by (watch v'.proc.position v'.mutex.token p v'.proc) refl
    where
      by : (n : ℕ) → watch v'.proc.position v'.mutex.token p v'.proc ≡ n → Watched s' m v'.mutex.token
      by (suc n) e = (
        p,
        rp,
        ap (λ (r : Processor). r.mutex) own_now ∙ t.watches (omega arith),
        subst (λ (r : Processor). 1 ≤ watch r.position v'.mutex.token p r) (sym own_now) (omega arith),
      )
      by zero e =
          let h = t.watched a c e in
          let as_it_was : v'.mutex.token ≡ (mutex_at s m).token = token_eq v'.mutex.token (mutex_at s m).token h.0 h.1 in
          let w = g.watched m i (rw h.0 at a) h.2 in
          rw as_it_was (still m (mutex_at s m).token w (λ z. apart h.3 (rw z at w.3)))

  own_claims : Claims s' v'.proc
  own_claims = by ((duty v'.proc.position).claims + (duty v'.proc.position).takes) refl
    where
      by : (n : ℕ) → (duty v'.proc.position).claims + (duty v'.proc.position).takes ≡ n → Claims s' v'.proc
      by zero e = serve-none _ _ _ (same_token (mutex_at s' v'.proc.mutex).token v'.proc.observed) e
      by (suc n) e =
          let z = t.claimed (omega arith) in
          let x : mutex_at s' m ≡ v'.mutex = at-put-same s.mutexes m v'.mutex free_mutex (omega (arith, (d 1 (omega arith)).table, g.mutexes)) in
          rw (z, x) t.claims

  -- a processor elsewhere on m that will serve the queue: this one does not shorten it
  module _ (q : ℕ) (r : In s.P q) (n : q ≢ p) (e : (processor_at s q).mutex ≡ m) where
    queue-kept : 1 ≤ (duty (at_line s q)).takes → length (mutex_at s m).queue ≤ length v'.mutex.queue
    queue-kept h = by (duty (at_line s p)).responsible refl
      where
        by : (a : ℕ) → (duty (at_line s p)).responsible ≡ a → length (mutex_at s m).queue ≤ length v'.mutex.queue
        by zero z = t.leaves z
        by (suc a) z =
            absurd
            (omega (
              arith,
              g.table q r,
              g.hands m (omega (arith, g.table q r)),
              some_one (mutex_at s m).count,
              (d 1 (omega arith)).responsible m,
              times_one (duty (at_line s p)).responsible (is_same m),
              times_one (duty (at_line s q)).responsible {b = is m (processor_at s q).mutex} (rw e (is_same m)),
              sum-two (weighs (λ w. w.responsible) m) s.processors p q nobody (in_procs rp) (in_procs r) (λ x. n (sym x)),
            ))

    old_claims : (duty (at_line s q)).claims * one_if (same_token (mutex_at s m).token (processor_at s q).observed) + (duty (at_line s q)).takes ≤ length (mutex_at s m).queue
    old_claims = rw e at (g.claims q r)

    takes-kept : (duty (at_line s q)).takes ≤ length v'.mutex.queue
    takes-kept = by (duty (at_line s q)).takes refl
      where
        by : (a : ℕ) → (duty (at_line s q)).takes ≡ a → (duty (at_line s q)).takes ≤ length v'.mutex.queue
        by zero z = omega arith
        by (suc a) z = omega (arith, queue-kept (omega arith), old_claims)

    claims_kept : same_token v'.mutex.token (processor_at s q).observed ≡ true → 1 ≤ (duty (at_line s q)).claims → (duty (at_line s q)).claims + (duty (at_line s q)).takes ≤ length v'.mutex.queue
    claims_kept z h =
        let a : v'.mutex.token.processor ≡ (processor_at s q).observed.processor = token-processor v'.mutex.token (processor_at s q).observed z in
        let c : v'.mutex.token.sequence ≡ (processor_at s q).observed.sequence = ap (λ (x : Token). x.sequence) (same_token_exact.only v'.mutex.token (processor_at s q).observed z) in
        let one : 1 ≤ some v'.mutex.token.processor = omega (arith, some_pos v'.mutex.token.processor (omega (arith, g.table q r))) in
        let old : Old (view s p m) v' (processor_at s q).observed =
        elim (ℕ_discrete (processor_at s q).observed.processor p)
        [ yes x ↦ t.old_sequence (processor_at s q).observed one a c (rw x at (g.known-observed q r)) | no x ↦ t.old_other (processor_at s q).observed one a c x ] in
        let was : (mutex_at s m).token ≡ (processor_at s q).observed = token_eq (mutex_at s m).token (processor_at s q).observed old.0 old.1 in
        omega (arith, old.2, old_claims, times_one (duty (at_line s q)).claims {b = one_if (same_token (mutex_at s m).token (processor_at s q).observed)} (rw was (token-self (processor_at s q).observed)))

  other_claims : (q : ℕ) → In s.P q → q ≢ p → Claims s' (processor_at s q)
  other_claims q r n = by ((duty (at_line s q)).claims + (duty (at_line s q)).takes) refl
    where
      by : (a : ℕ) → (duty (at_line s q)).claims + (duty (at_line s q)).takes ≡ a → Claims s' (processor_at s q)
      by zero z = serve-none _ _ _ (same_token (mutex_at s' (processor_at s q).mutex).token (processor_at s q).observed) z
      by (suc a) z =
          at-put (λ (k : ℕ) (x : Mutex). (processor_at s q).mutex ≡ k → (duty (at_line s q)).claims * one_if (same_token x.token (processor_at s q).observed) + (duty (at_line s q)).takes ≤ length x.queue)
          s.mutexes m (processor_at s q).mutex v'.mutex free_mutex (omega (arith, g.table q r, g.mutexes))
          (λ i e. serve _ _ _ _ (takes-kept q r n e) (claims_kept q r n e)) (λ x e. g.claims q r) refl

  pub keeps : Good s'
  keeps =
      let d1 = d 1 (omega arith) in
      record {
        applied = early;
        processors = length-put s.processors p v'.proc ∙ g.processors;
        mutexes = length-put s.mutexes m v'.mutex ∙ g.mutexes;
        lives = length-put (put s.lives i live) j terminated ∙ length-put s.lives i live ∙ g.lives;
        table = λ q r.
            at-put (λ (q : ℕ) (c : Processor). Table s.P s.T s.M (suc s.applied) c.position c) s.processors p q v'.proc nobody (in_procs r)
            (λ i. d1.table) (λ n. older (g.table q r));
        sound = λ k r.
            at-put (λ (k : ℕ) (x : Mutex). Sound s.P s.T (suc s.applied) x) s.mutexes m k v'.mutex free_mutex (in_mutexes r)
            (λ i. d1.sound) (λ n. older_sound (g.sound k r));
        queues = length-put s.ready (works_on s p) v'.ready ∙ g.queues;
        probe = λ q r.
            rw (length-put s.ready (works_on s p) v'.ready)
            (at-put (λ (q : ℕ) (c : Processor). ProbeFits (length s.ready) c.position c.probe) s.processors p q v'.proc nobody (in_procs r)
            (λ i. d1.probe) (λ n. g.probe q r));
        ready = omega (arith, g.ready, d1.ready, sum-put (sum (out s.T)) s.ready (works_on s p) v'.ready [] (works_in s g p rp));
        counts = λ k r.
            at-put (λ (k : ℕ) (x : Mutex). x.count + on s' (λ w. w.uncounted) k ≡ some x.owner + length x.queue + on s' (λ w. w.carries) k) s.mutexes m k v'.mutex free_mutex (in_mutexes r)
            (λ i. omega (arith, g.counts m (omega (arith, g.mutexes)), d1.counts, on_m (λ w. w.uncounted) d1.uncounted, on_m (λ w. w.carries) d1.carries))
            (λ n. omega (arith, g.counts k r, off_m (λ w. w.uncounted) d1.uncounted k n, off_m (λ w. w.carries) d1.carries k n));
        hands = λ k r.
            at-put (λ (k : ℕ) (x : Mutex). some x.owner + some x.token.processor + on s' (λ w. w.responsible) k ≡ some x.count) s.mutexes m k v'.mutex free_mutex (in_mutexes r)
            (λ i. omega (arith, g.hands m (omega (arith, g.mutexes)), d1.hands, on_m (λ w. w.responsible) d1.responsible))
            (λ n. omega (arith, g.hands k r, off_m (λ w. w.responsible) d1.responsible k n));
        holds = λ q r.
            at-put (λ (q : ℕ) (c : Processor). 1 ≤ (duty c.position).holds → c.current ≡ (mutex_at s' c.mutex).owner) s.processors p q v'.proc nobody (in_procs r)
            (λ i h.
            at-put (λ (k : ℕ) (x : Mutex). v'.proc.current ≡ x.owner) s.mutexes m v'.proc.mutex v'.mutex free_mutex (omega (arith, d1.table, d1.holds h, g.mutexes))
            (λ i. (d1.holds h).0) (λ n. absurd (n (d1.holds h).1)))
            (λ n h.
            at-put (λ (k : ℕ) (x : Mutex). (processor_at s q).mutex ≡ k → (processor_at s q).current ≡ x.owner) s.mutexes m (processor_at s q).mutex v'.mutex free_mutex (omega (arith, g.table q r, g.mutexes))
            (λ i e. other_holds q r n h e) (λ n e. g.holds q r h) refl);
        census = λ k r.
            omega (
              arith,
              g.census k r,
              b k r,
              (d k r.0).census,
              sum-put (occurrences k) s.ready (works_on s p) v'.ready [] (works_in s g p rp),
              sum-put (in_registers k) s.processors p v'.proc nobody (in_procs rp),
              sum-put-zero (λ (x : Mutex). sum (is k) x.queue) s.mutexes m v'.mutex free_mutex (omega (arith, g.mutexes)) (d k r.0).idle,
            );
        known-token = λ k r.
            at-put (λ (k : ℕ) (x : Mutex). x.token.sequence ≤ (processor_at s' x.token.processor).sequence) s.mutexes m k v'.mutex free_mutex (in_mutexes r)
            (λ i. known_of.0) (λ n. known_at k r.1);
        known-observed = λ q r.
            at-put (λ (q : ℕ) (c : Processor). c.observed.sequence ≤ (processor_at s' c.observed.processor).sequence) s.processors p q v'.proc nobody (in_procs r)
            (λ i. known_of.1) (λ n. omega (arith, g.known-observed q r, sequence_up (processor_at s q).observed.processor));
        watched = λ k r.
            at-put (λ (k : ℕ) (x : Mutex). 1 ≤ some x.token.processor → 1 ≤ length x.queue → Watched s' k x.token) s.mutexes m k v'.mutex free_mutex (in_mutexes r)
            (λ i a c. watched_m a c (omega (arith, g.mutexes))) (λ n a c.
            let w = g.watched k r a c in
            still k (mutex_at s k).token w (λ z. n (sym (rw z at w.2) ∙ t.stood (mutex_at s k).token (rw z at w.3))));
        claims = λ q r.
            at-put (λ (q : ℕ) (c : Processor). Claims s' c) s.processors p q v'.proc nobody (in_procs r)
            (λ i. own_claims) (λ n. other_claims q r n);
      }

-- ---- what is known of the view

module _ (s : State) (g : Good s) (p : ℕ) (rp : In s.P p) (early : s.applied < 4000) where
  handed : (m n : ℕ) → m ≤ s.M → (1 ≤ m → n ≤ on s (λ w. w.responsible) m) → n ≤ m →
      some (mutex_at s m).owner + some (mutex_at s m).token.processor + n ≤ some (mutex_at s m).count
  handed zero n h k l = omega arith
  handed (suc m) n h k l = omega (arith, g.hands (suc m) (omega arith), k (omega arith))

  sound_at : (m : ℕ) → m ≤ s.M → Sound s.P s.T s.applied (mutex_at s m)
  unfolding sum
  sound_at zero h = omega arith
  sound_at (suc m) h = g.sound (suc m) (omega arith)

  abbrev Fits : ℕ → Type 0
  Fits m = (k : ℕ) → 1 ≤ k → Fit s.P s.T s.M s.applied (is k) (at_line s p) (view s p m)

  fit : (m : ℕ) → m ≤ s.M → (1 ≤ m → (duty (at_line s p)).responsible ≤ on s (λ w. w.responsible) m) → (duty (at_line s p)).responsible ≤ m →
      (1 ≤ (duty (at_line s p)).holds → (processor_at s p).current ≡ (mutex_at s m).owner) →
      (duty (at_line s p)).claims * one_if (same_token (mutex_at s m).token (processor_at s p).observed) + (duty (at_line s p)).takes ≤ length (mutex_at s m).queue →
      Fits m
  fit m rm w n h y k r =
      record {
        here = refl;
        table = g.table p rp;
        sound = sound_at m rm;
        ready = omega (arith, g.ready, sum-at (sum (out s.T)) s.ready (works_on s p) [] (works_in s g p rp));
        probe = g.probe p rp;
        handed = handed m (duty (at_line s p)).responsible rm w n;
        holds = h;
        claims = y;
        self-low = rp.0;
        self-high = rp.1;
        early = early;
        f_zero = is-other k 0 (omega arith);
        f_current = off s.T (row (at_line s p)).current (processor_at s p).current k r (g.table p rp).registers.current-high;
        f_transit = off s.T (row (at_line s p)).transit (processor_at s p).transit k r (g.table p rp).registers.transit-high;
      }

  step_good : (a : Action) (o : ℕ) → from a (at_line s p) ≡ at_line s p → target a (processor_at s p).mutex o ≤ s.M → Fits (target a (processor_at s p).mutex o) →
      Allowed s.M s.T a o (view s p (target a (processor_at s p).mutex o)) → LivesMove s (created_by a o) (ended_by a (processor_at s p).current) → Good (does s p a o)
  step_good a o e rm f c b =
      let m = target a (processor_at s p).mutex o in
      let v = view s p m in
      keeps s g p m rp early rm (created_by a o) (ended_by a (processor_at s p).current) (act a o v)
      (λ k r.
      subst (λ (l : Line). Done s.P s.T s.M s.applied (is k) l m (created_by a o) (ended_by a (processor_at s p).current) v (act a o v)) e
      (act-done s.P s.T s.M s.applied (is k) a o v
      (subst (λ (l : Line). Fit s.P s.T s.M s.applied (is k) l v) (sym e) (f k r)) c))
      (subst (λ (l : Line). Handled s.P s.T s.M s.applied (is 1) l m v (act a o v)) e
      (act_handled s.P s.T s.M s.applied (is 1) a o v
      (subst (λ (l : Line). Fit s.P s.T s.M s.applied (is 1) l v) (sym e) (f 1 (omega arith))) c))
      b

  go_weighs : (duty (at_line s p)).responsible ≤ on s (λ w. w.responsible) (processor_at s p).mutex
  go_weighs =
      omega (
        arith,
        sum-at (weighs (λ w. w.responsible) (processor_at s p).mutex) s.processors p nobody (omega (arith, g.processors)),
        times_one (duty (at_line s p)).responsible (is_same (processor_at s p).mutex),
      )

  pub go-fit : Fits (processor_at s p).mutex
  go-fit = fit (processor_at s p).mutex (g.table p rp).registers.mutex-most (λ c. go_weighs) (g.table p rp).responsible (g.holds p rp) (g.claims p rp)

  -- ---- the calls, at App

  serves_none : (x : Mutex) (r : Processor) (l : Line) → l ≡ App → (duty l).claims * one_if (same_token x.token r.observed) + (duty l).takes ≤ length x.queue
  serves_none x r l e = rw e (omega arith)

  call_good : at_line s p ≡ App → (a : Action) (o : ℕ) → target a (processor_at s p).mutex o ≤ s.M →
      Allowed s.M s.T a o (view s p (target a (processor_at s p).mutex o)) → LivesMove s (created_by a o) (ended_by a (processor_at s p).current) → Good (does s p a o)
  call_good q a o rm c b =
      let m = target a (processor_at s p).mutex o in
      let r : (duty (at_line s p)).responsible ≡ 0 = ap (λ (l : Line). (duty l).responsible) q in
      let t : (duty (at_line s p)).holds ≡ 0 = ap (λ (l : Line). (duty l).holds) q in
      step_good a o (choose-by (λ l. l ≡ at_line s p) (is_go a) (λ x. refl) (λ x. sym q)) rm
      (fit m rm (λ x. omega arith) (omega arith) (λ x. absurd (omega arith)) (serves_none (mutex_at s m) (processor_at s p) (at_line s p) q)) c b

  does_good : (a : Action) (o : ℕ) → operand_fits s a o ≡ true → Here s p a o → Good (does s p a o)
  does_good go o c h = step_good go o refl (g.table p rp).registers.mutex-most go-fit tt (λ k r. refl)
  does_good lock o c h = let r = range_true 1 s.M o c in call_good (h.call refl) lock o r.1 r (λ k r. refl)
  does_good trylock o c h = let r = range_true 1 s.M o c in call_good (h.call refl) trylock o r.1 r (λ k r. refl)
  does_good unlock o c h = let r = range_true 1 s.M o c in call_good (h.call refl) unlock o r.1 (r, h.owner refl) (λ k r. refl)
  does_good yield o c h = call_good (h.call refl) yield o (g.table p rp).registers.mutex-most tt (λ k r. refl)
  does_good exit o c h = call_good (h.call refl) exit o (g.table p rp).registers.mutex-most tt (ended_one s p g.lives g.processors rp (g.census _))
  does_good create o c h = call_good (h.call refl) create o (g.table p rp).registers.mutex-most (range_true 1 s.T o c) (created_one s o g.lives (h.unborn refl))

pub next_good : (s : State) (a : Move) → Good s → cause s a ≡ 0 → Good (next s a)
unfolding next
next_good s a g e =
    let h = legal s a e in
    does_good s g a.processor h.processor h.room (action_of a.action) a.operand h.operand h.here

pub reached : (ms : List Move) (s : State) → Good s → accepted s ms ≡ true → Good (run s ms)
unfolding run
reached [] s g ok = g
reached (a ∷ rest) s g ok = let e = accepted_cons s a rest ok in reached rest (next s a) (next_good s a g e.0) e.1
