-- Where threads wait for m and the mark is not set, a move makes the first of the queue the owner, or nobody, and the mark is not set after it.
-- Assumes nothing.
use Prim.Native.Nat.{ℕ, zero, suc, ◌*◌, ◌≤◌, ◌<◌}
use mathlib.Core.Bool.{Bool, true, false}
use mathlib.Core.List.{List, ◌∷◌, ◌++◌, append_assoc}
use mathlib.Core.Logic.{◌≢◌, ◌⊎◌, inl, inr}
use mathlib.Core.Path.{◌≡◌, refl, ap, sym, subst, ◌∙◌}
use native.Mathlib.Decide.{ℕ_discrete}
use native.Mathlib.Omega.{arith}
use lib.ListN.{length}
use Rattle.reference.specs.Lists.{is}
use Rattle.reference.specs.State.{Processor, Mutex, State, Line, App, CI2, CI3, L1, L3, L4, L6, L7, L8, L9, L10, TL1, GT1, GT3, TL3, U1, H2, H3, H5, H6, H8, Y1, Y2, Y3, C2, nobody, free_mutex, processor_at, mutex_at, same_line}
use Rattle.reference.specs.Step.{View, Action, go, lock, trylock, unlock, yield, exit, create, line, act, target, view, does, Move, action_of, next}
use Rattle.reference.specs.Cause.{cause}
use Rattle.reference.specs.Safe.{In}
use Rattle.reference.proofs.Same.{same_line_exact}
use Rattle.reference.proofs.Sums.{is_same, is-other, some, sum-some, at-put, at-put-same, at-put-other}
use Rattle.reference.proofs.Legal.{legal}
use Rattle.reference.proofs.Local.{Fit, duty, act-done}
use Rattle.reference.proofs.Invariant.{Good, weighs, times_zero, go-fit}
use Rattle.overtaking.proofs.Lines.{Serves, served, stays, some-none, serves_at}
use Rattle.overtaking.proofs.Mark.{Unmarked}

-- those of q lead the queue of m, and the mark is not set
pub record Leads (s : State) (m : ℕ) (q : List ℕ) : Type 0 where
  pub rest : List ℕ
  pub queue : (mutex_at s m).queue ≡ q ++ rest
  pub mark : Unmarked s m

-- the first, x, comes to own m; or nobody does, and all still lead
pub data Next (s t : State) (m x : ℕ) (xs : List ℕ) : Type 0 where
  first-owns : (mutex_at s m).owner ≡ 0 → (mutex_at t m).owner ≡ x → Leads t m xs → Next s t m x xs
  nobody-owns : ((mutex_at t m).owner ≡ (mutex_at s m).owner) ⊎ ((mutex_at t m).owner ≡ 0) → Leads t m (x ∷ xs) → Next s t m x xs

-- ---- a mutex for which threads wait is counted

counted_holds : (l : Line) → (duty l).uncounted ≤ (duty l).holds
counted_holds App = omega arith
counted_holds CI2 = omega arith
counted_holds CI3 = omega arith
counted_holds L1 = omega arith
counted_holds L3 = omega arith
counted_holds L4 = omega arith
counted_holds L6 = omega arith
counted_holds L7 = omega arith
counted_holds L8 = omega arith
counted_holds L9 = omega arith
counted_holds L10 = omega arith
counted_holds TL1 = omega arith
counted_holds GT1 = omega arith
counted_holds GT3 = omega arith
counted_holds TL3 = omega arith
counted_holds U1 = omega arith
counted_holds H2 = omega arith
counted_holds H3 = omega arith
counted_holds H5 = omega arith
counted_holds H6 = omega arith
counted_holds H8 = omega arith
counted_holds Y1 = omega arith
counted_holds Y2 = omega arith
counted_holds Y3 = omega arith
counted_holds C2 = omega arith

first_factor : (a b : ℕ) → 1 ≤ a * b → 1 ≤ a
first_factor zero b h = absurd (omega arith)
first_factor (suc a) b h = omega arith

module _ (s : State) (g : Good s) (m : ℕ) (rm : In s.M m) where
  -- a processor that weighs is on m
  on_it : (r : Processor) → 1 ≤ weighs (λ w. w.uncounted) m r → (1 ≤ (duty r.position).uncounted) × (r.mutex ≡ m)
  on_it r c =
      elim (ℕ_discrete m r.mutex) [
        | yes z ↦ (first_factor (duty r.position).uncounted (is m r.mutex) c, sym z)
        | no n ↦ absurd (omega (arith, times_zero (duty r.position).uncounted (is-other m r.mutex n)))
      ]

  counted : 1 ≤ length (mutex_at s m).queue → (c : ℕ) × ((mutex_at s m).count ≡ suc c)
  counted h = by (mutex_at s m).count refl
    where
      by : (n : ℕ) → (mutex_at s m).count ≡ n → (c : ℕ) × ((mutex_at s m).count ≡ suc c)
      by (suc n) e = (n, e)
      by zero e =
          let x = sum-some (weighs (λ w. w.uncounted) m) s.processors nobody (omega (arith, g.counts m rm)) in
          let rp : In s.P x.0 = omega (arith, x.1, g.processors) in
          let y = on_it (processor_at s x.0) x.2 in
          let o : (mutex_at s m).owner ≡ 0 = some-none (mutex_at s m).owner (omega (arith, g.hands m rm, ap some e)) in
          let k : (processor_at s x.0).current ≡ (mutex_at s m).owner = rw y.1 at (g.holds x.0 rp (omega (arith, y.0, counted_holds (processor_at s x.0).position))) in
          absurd (omega (arith, k, o, y.0, counted_holds (processor_at s x.0).position, g.table x.0 rp))

-- ---- the step

module _ (s : State) (g : Good s) (p : ℕ) (rp : In s.P p) (early : s.applied < 4000) (m x : ℕ) (xs : List ℕ) (rm : In s.M m) (h : Leads s m (x ∷ xs)) where
  abbrev l : Line
  l = (processor_at s p).position

  abbrev n : ℕ
  n = (processor_at s p).mutex

  abbrev v : View
  v = view s p n

  fits : Fit s.P s.T s.M s.applied (is 1) l v
  fits = go-fit s g p rp early 1 (omega arith)

  -- all others stand where they stood
  leads : (c : Action) (o : ℕ) (q ys : List ℕ) → (mutex_at (does s p c o) m).queue ≡ q ++ ys → (mutex_at (does s p c o) m).token.processor ≡ 0 →
      ((act c o (view s p (target c n o))).proc.mutex ≡ m → same_line (act c o (view s p (target c n o))).proc.position H5 ≡ false) → Leads (does s p c o) m q
  leads c o q ys a b d =
      record {
        rest = ys;
        queue = a;
        mark =
            record {
              token = b;
              nowhere = λ k r.
                  at-put (λ (k : ℕ) (r : Processor). r.mutex ≡ m → same_line r.position H5 ≡ false) s.processors p k
                  (act c o (view s p (target c n o))).proc nobody (omega (arith, g.processors)) (λ i. d) (λ i e. h.mark.nowhere k r e);
            };
      }

  -- of a move that leaves m as it is
  as_it_was : (c : Action) (o : ℕ) → mutex_at (does s p c o) m ≡ mutex_at s m →
      ((act c o (view s p (target c n o))).proc.mutex ≡ m → same_line (act c o (view s p (target c n o))).proc.position H5 ≡ false) → Next s (does s p c o) m x xs
  as_it_was c o e d =
      nobody-owns (inl (ap (λ (y : Mutex). y.owner) e))
      (leads c o (x ∷ xs) h.rest (ap (λ (y : Mutex). y.queue) e ∙ h.queue) (ap (λ (y : Mutex). y.token.processor) e ∙ h.mark.token) d)

  -- a line on m
  on_m : m ≡ n → Serves x (xs ++ h.rest) (mutex_at s n).owner (line l v)
  on_m e =
      let q : (mutex_at s n).queue ≡ x ∷ xs ++ h.rest = subst (λ (k : ℕ). (mutex_at s k).queue ≡ x ∷ xs ++ h.rest) e h.queue in
      let t : (mutex_at s n).token.processor ≡ 0 = subst (λ (k : ℕ). (mutex_at s k).token.processor ≡ 0) e h.mark.token in
      let c = counted s g n (omega arith) (omega (arith, ap length q)) in
      serves_at s.P s.T s.M s.applied (is 1) l v fits (h.mark.nowhere p rp (sym e)) c.0 x (xs ++ h.rest) c.1 q t

  went : (o : ℕ) → m ≡ n → Serves x (xs ++ h.rest) (mutex_at s n).owner (line l v) → Next s (does s p go o) m x xs
  unfolding act
  went o e w = by w
    where
      now : mutex_at (does s p go o) m ≡ (line l v).mutex
      now = subst (λ (k : ℕ). mutex_at (does s p go o) k ≡ (line l v).mutex) (sym e) (at-put-same s.mutexes n (line l v).mutex free_mutex (omega (arith, g.mutexes)))

      was : (mutex_at s n).owner ≡ (mutex_at s m).owner
      was = ap (λ (k : ℕ). (mutex_at s k).owner) (sym e)

      owner : (k : ℕ) → (line l v).mutex.owner ≡ k → (mutex_at (does s p go o) m).owner ≡ k
      owner k z = ap (λ (y : Mutex). y.owner) now ∙ z

      lead : (q ys : List ℕ) → (line l v).mutex.queue ≡ q ++ ys → (line l v).mutex.token.processor ≡ 0 → same_line (line l v).proc.position H5 ≡ false → Leads (does s p go o) m q
      lead q ys a b d = leads go o q ys (ap (λ (y : Mutex). y.queue) now ∙ a) (ap (λ (y : Mutex). y.token.processor) now ∙ b) (λ i. d)

      by : Serves x (xs ++ h.rest) (mutex_at s n).owner (line l v) → Next s (does s p go o) m x xs
      by (served y k a b d) = first-owns (sym was ∙ y) (owner x k) (lead xs h.rest a b d)
      by (stays (inl k) ys a b d) = nobody-owns (inl (owner (mutex_at s n).owner k ∙ was)) (lead (x ∷ xs) (h.rest ++ ys) (a ∙ ap (λ q. x ∷ q) (append_assoc xs h.rest ys)) b d)
      by (stays (inr k) ys a b d) = nobody-owns (inr (owner 0 k)) (lead (x ∷ xs) (h.rest ++ ys) (a ∙ ap (λ q. x ∷ q) (append_assoc xs h.rest ys)) b d)

  -- a line on another mutex: who comes to H5 stays on his
  off_m : (o : ℕ) → m ≢ n → Next s (does s p go o) m x xs
  unfolding act
  off_m o d = as_it_was go o (at-put-other s.mutexes n m (line l v).mutex free_mutex d) (λ e. by (same_line (line l v).proc.position H5) refl e)
    where
      by : (b : Bool) → same_line (line l v).proc.position H5 ≡ b → (line l v).proc.mutex ≡ m → same_line (line l v).proc.position H5 ≡ false
      by false z e = z
      by true z e =
          let w : (duty (line l v).proc.position).responsible ≡ 1 = ap (λ (k : Line). (duty k).responsible) (same_line_exact.only (line l v).proc.position H5 z) in
          let y = ((act-done s.P s.T s.M s.applied (is 1) go o v fits tt).responsible m).1 in
          let u : 1 * is m m ≡ 1 * is m n = rw (w, e) at y in
          absurd (omega (arith, u, is_same m, is-other m n d))

  called : (c : Action) (o : ℕ) → (act c o (view s p (target c n o))).mutex ≡ mutex_at s (target c n o) →
      same_line (act c o (view s p (target c n o))).proc.position H5 ≡ false → Next s (does s p c o) m x xs
  called c o e f =
      as_it_was c o
      (at-put (λ (k : ℕ) (y : Mutex). y ≡ mutex_at s k) s.mutexes (target c n o) m (act c o (view s p (target c n o))).mutex free_mutex (omega (arith, g.mutexes)) (λ i. e) (λ i. refl))
      (λ i. f)

  steps : (c : Action) (o : ℕ) → Next s (does s p c o) m x xs
  unfolding act
  steps go o = elim (ℕ_discrete m n) [ yes e ↦ went o e (on_m e) | no d ↦ off_m o d ]
  steps lock o = called lock o refl refl
  steps trylock o = called trylock o refl refl
  steps unlock o = called unlock o refl refl
  steps yield o = called yield o refl refl
  steps exit o = called exit o refl refl
  steps create o = called create o refl refl

-- a move without a cause
pub next-step : (s : State) (a : Move) → Good s → cause s a ≡ 0 → (m x : ℕ) (xs : List ℕ) → In s.M m → Leads s m (x ∷ xs) → Next s (next s a) m x xs
unfolding next
next-step s a g e m x xs rm h = let r = legal s a e in steps s g a.processor r.processor r.room m x xs rm h (action_of a.action) a.operand
