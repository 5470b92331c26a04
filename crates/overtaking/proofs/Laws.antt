-- Of every accepted start and every list of accepted moves from it: where the mark is not set, those that wait are served in the queue's order.
-- Assumes nothing.
use Prim.Native.Nat.{ℕ, zero, suc, ◌+◌, ◌≤◌, ◌<◌}
use mathlib.Core.Bool.{Bool, true, false, ◌&&◌, not}
use mathlib.Core.List.{List, [], ◌∷◌, ◌++◌, append-nil}
use mathlib.Core.Logic.{◌≢◌, ◌⊎◌, inl, inr}
use mathlib.Core.Path.{◌≡◌, refl, ap, sym, subst, ◌∙◌}
use native.Mathlib.Decide.{ℕ_discrete}
use native.Mathlib.Omega.{arith}
use lib.Dec.{eqb}
use lib.ListN.{length, take}
use borrow.Author.Tests.{eq-eqb, ne_eqb}
use Rattle.reference.specs.Lists.{sum, tabulate, those}
use Rattle.reference.specs.State.{State, mutex_at}
use Rattle.reference.specs.Start.{Config, config_cause, start, itself}
use Rattle.reference.specs.Step.{Move, next}
use Rattle.reference.specs.Cause.{cause, accepted}
use Rattle.reference.specs.Safe.{In, end}
use Rattle.reference.specs.Picture.{first}
use Rattle.reference.proofs.Legal.{accepted_cons}
use Rattle.reference.proofs.Moves.{run_snoc, accepted_snoc}
use Rattle.reference.proofs.Local.{out, out_in}
use Rattle.reference.proofs.Invariant.{Good}
use Rattle.reference.proofs.Laws.{good, sized, owner-is}
use Rattle.overtaking.specs.InTurn.{comes_to_own, next_owners, NextIsFirst, ServedInOrder}
use Rattle.overtaking.proofs.Mark.{unmarked}
use Rattle.overtaking.proofs.Step.{Leads, Next, first-owns, nobody-owns, next-step}

-- ---- those of 1 to n that pass a test

module _ (test : ℕ → Bool) where
  those-none : (lo n : ℕ) → ((k : ℕ) → lo ≤ k → test k ≡ false) → those test (tabulate itself lo n) ≡ []
  unfolding those tabulate
  those-none lo zero h = refl
  those-none lo (suc n) h = rw (h lo (omega arith)) (those-none (suc lo) n (λ k l. h k (omega arith)))

  those_one : (x lo n : ℕ) → lo ≤ x → x < lo + n → test x ≡ true → ((k : ℕ) → lo ≤ k → k ≢ x → test k ≡ false) → those test (tabulate itself lo n) ≡ x ∷ []
  unfolding those tabulate
  those_one x lo zero l r t h = absurd (omega arith)
  those_one x lo (suc n) l r t h =
      elim (ℕ_discrete lo x) [
        | yes e ↦
            let u : test lo ≡ true = ap test e ∙ t in
            rw u (subst (λ (y : ℕ). lo ∷ those test (tabulate itself (suc lo) n) ≡ y ∷ []) e (ap (λ (ys : List ℕ). lo ∷ ys) (those-none (suc lo) n (λ k g. h k (omega arith) (omega arith)))))
        | no d ↦ rw (h lo (omega arith) d) (those_one x (suc lo) n (omega arith) (omega arith) t (λ k g. h k (omega arith)))
      ]

-- ---- who comes to own m by a move, told by the owner field, which is the owner by history

not-both : (b : Bool) → not b && b ≡ false
not-both true = refl
not-both false = refl

and_false : (b : Bool) → b && false ≡ false
and_false true = refl
and_false false = refl

module _ (c : Config) (e : config_cause c ≡ 0) (ms : List Move) (ok : accepted (start c) ms ≡ true) (a : Move) (legal : cause (end c ms) a ≡ 0) (m : ℕ) (rm : In c.M m) where
  abbrev more : List Move
  more = ms ++ a ∷ []

  pub more_ok : accepted (start c) more ≡ true
  more_ok = accepted_snoc ms (start c) a ok legal

  abbrev owner : List Move → ℕ
  owner ns = (mutex_at (end c ns) m).owner

  comes_is : (k : ℕ) → 1 ≤ k → comes_to_own c m ms a k ≡ not (eqb (owner ms) k) && eqb (owner more) k
  comes_is k r = rw (owner-is c e ms ok m k rm r, owner-is c e more more_ok m k rm r)

  nobody_comes : (owner more ≡ owner ms) ⊎ (owner more ≡ 0) → those (comes_to_own c m ms a) (tabulate itself 1 c.T) ≡ []
  nobody_comes (inl z) = those-none (comes_to_own c m ms a) 1 c.T (λ k r. comes_is k r ∙ rw z (not-both (eqb (owner ms) k)))
  nobody_comes (inr z) = those-none (comes_to_own c m ms a) 1 c.T (λ k r. comes_is k r ∙ rw (z, ne_eqb 0 k (omega arith)) (and_false (not (eqb (owner ms) k))))

  one_comes : (x : ℕ) → In c.T x → owner ms ≡ 0 → owner more ≡ x → those (comes_to_own c m ms a) (tabulate itself 1 c.T) ≡ x ∷ []
  one_comes x r y z =
      those_one (comes_to_own c m ms a) x 1 c.T r.0 (omega arith)
      (comes_is x r.0 ∙ rw (y, z, ne_eqb 0 x (omega arith), eq-eqb x x refl))
      (λ k l d. comes_is k l ∙ rw (z, ne_eqb x k (λ i. d (sym i))) (and_false (not (eqb (owner ms) k))))

-- ---- any moves

take_none : (n : ℕ) → take {A = ℕ} n [] ≡ []
take_none zero = refl
take_none (suc n) = refl

-- who waits is a thread
waiting : (s : State) → Good s → (m x : ℕ) (xs : List ℕ) → In s.M m → (mutex_at s m).queue ≡ x ∷ xs → In s.T x
unfolding sum
waiting s g m x xs rm q =
    let e : out s.T x + sum (out s.T) xs ≡ 0 = rw q at (g.sound m rm).queue in
    out_in s.T x (omega arith)

module _ (c : Config) (e : config_cause c ≡ 0) (m : ℕ) (rm : In c.M m) where
  -- the threads of q are served in their order by the moves `later`
  abbrev Ordered : List Move → List Move → List ℕ → Type 0
  Ordered ms later q = take (length q) (next_owners c m ms later) ≡ take (length (next_owners c m ms later)) q

  -- a move, where those of q lead; `rest` is the law for the moves behind it
  module _ (a : Move) (later ms : List Move) (ok : accepted (start c) ms ≡ true) (legal : cause (end c ms) a ≡ 0) (rest : (q : List ℕ) → Leads (end c (ms ++ a ∷ [])) m q → Ordered (ms ++ a ∷ []) later q) where
    after : end c (ms ++ a ∷ []) ≡ next (end c ms) a
    after = run_snoc ms (start c) a

    owner-after : (k : ℕ) → (mutex_at (next (end c ms) a) m).owner ≡ k → (mutex_at (end c (ms ++ a ∷ [])) m).owner ≡ k
    owner-after k o = ap (λ (t : State). (mutex_at t m).owner) after ∙ o

    go_on : (q : List ℕ) → Leads (next (end c ms) a) m q → Ordered (ms ++ a ∷ []) later q
    go_on q h = rest q (subst (λ (t : State). Leads t m q) (sym after) h)

    moved : (x : ℕ) (xs : List ℕ) → In c.T x → Next (end c ms) (next (end c ms) a) m x xs → Ordered ms (a ∷ later) (x ∷ xs)
    unfolding next_owners
    moved x xs r (first-owns o p h) = rw (one_comes c e ms ok a legal m rm x r o (owner-after x p)) (ap (λ (ys : List ℕ). x ∷ ys) (go_on xs h))
    moved x xs r (nobody-owns (inl o) h) = rw (nobody_comes c e ms ok a legal m rm (inl (owner-after _ o))) (go_on (x ∷ xs) h)
    moved x xs r (nobody-owns (inr o) h) = rw (nobody_comes c e ms ok a legal m rm (inr (owner-after 0 o))) (go_on (x ∷ xs) h)

    ordered : (q : List ℕ) → Leads (end c ms) m q → Ordered ms (a ∷ later) q
    ordered [] h = sym (take_none (length (next_owners c m ms (a ∷ later))))
    ordered (x ∷ xs) h =
        let g = good c e ms ok in
        let r : In (end c ms).M m = subst (λ (n : ℕ). In n m) (sym (sized c ms).2) rm in
        moved x xs (subst (λ (n : ℕ). In n x) (sized c ms).1 (waiting (end c ms) g m x (xs ++ h.rest) r h.queue)) (next-step (end c ms) a g legal m x xs r h)

  in_order : (later ms : List Move) → accepted (start c) ms ≡ true → accepted (end c ms) later ≡ true → (q : List ℕ) → Leads (end c ms) m q → Ordered ms later q
  unfolding next_owners
  in_order [] ms ok on q h = take_none (length q)
  in_order (a ∷ later) ms ok on q h =
      let l = accepted_cons (end c ms) a later on in
      ordered a later ms ok l.0
      (in_order later (ms ++ a ∷ []) (accepted_snoc ms (start c) a ok l.0) (subst (λ (t : State). accepted t later ≡ true) (sym (run_snoc ms (start c) a)) l.1)) q h

pub served_in_order : ServedInOrder
served_in_order c ms e ok m rm z later on =
    in_order c e m rm later ms ok on (mutex_at (end c ms) m).queue
    (record { rest = []; queue = sym (append-nil (mutex_at (end c ms) m).queue); mark = unmarked (end c ms) (good c e ms ok) m z })

pub next-is-first : NextIsFirst
next-is-first c ms e ok m x xs rm q z later on =
    by (next_owners c m ms later)
    (subst (λ (y : List ℕ). take (length y) (next_owners c m ms later) ≡ take (length (next_owners c m ms later)) y) q (served_in_order c ms e ok m rm z later on))
  where
    by : (os : List ℕ) → take (length (x ∷ xs)) os ≡ take (length os) (x ∷ xs) → (first os ≡ 0) ⊎ (first os ≡ x)
    by [] h = inl refl
    by (y ∷ ys) h = inr (ap first h)
