-- Turns ahead and mark by a thread's own record are those of the formula on the state that the record shows.
-- Assumes nothing.
use Prim.Native.Nat.{ℕ, zero, suc, ◌≤◌}
use mathlib.Core.Bool.{Bool, true, false}
use mathlib.Core.List.{List, [], ◌∷◌}
use mathlib.Core.Logic.{◌⊎◌, inl, inr}
use mathlib.Core.Path.{◌≡◌, refl, ap, sym, subst, ◌∙◌}
use native.Mathlib.Nat.{not-suc-le-zero}
use native.Mathlib.Omega.{arith}
use native.Mathlib.Decide.{dec_le}
use lib.Dec.{eqb, ltb}
use lib.ListN.{length}
use borrow.Author.Tests.{eq-eqb, ne_eqb, lt-ltb}
use Rattle.state.specs.declared.Thread.{Thread}
use Rattle.state.specs.declared.State.{State}
use Rattle.state.specs.Record.{thread_of, Sized}
use Rattle.state.specs.Association.{decode, mutex_shown, thread_record}
use Rattle.state.specs.Rules.{state_ok}
use Rattle.reference.specs.Lists.{if_zero, find, sum, occurrences}
use Rattle.reference.specs.State as reference
use Rattle.reference.specs.State.{Processor, Life, new, live, terminated, mutex_at, free_mutex, life_at}
use Rattle.reference.specs.Safe.{In}
use Rattle.reference.specs.Picture.{thread_entry, or_else, entry, unheld, stands_in}
use Rattle.reference.proofs.Sums.{tabulate-at}
use Rattle.association.proofs.Tables.{find_none}
use Rattle.association.proofs.Spots.{Placed, allowed-placed}
use Rattle.association.proofs.Shown.{allowed-fits, read-entry}
use Rattle.shown.proofs.Encode.{encode-decode, decode-allowed}
use Rattle.overtaking.specs.Ahead.{waits_for, turns_at, overtakable}
use Rattle.ahead.specs.Turns.{NotWaiting, Refused, meaning, waiting_for, turns_ahead, ahead_refusal, ahead, answer}
use Rattle.ahead.specs.Model.Waiting.{chain_turns, marked, chain_answer}
use Rattle.ahead.proofs.Mark.{mark-shown}

-- ---- the answer, by what was read

module _ (r : State) (k : ℕ) (x : Thread) (e : x ≡ thread_of r k) where
  pub answer-none : (x.status ≡ 2 → ⊥) → NotWaiting ≡ chain_answer r k
  unfolding chain_answer
  answer-none h = rw (← e, ne_eqb x.status 2 h)

  pub answer-some : x.status ≡ 2 → (n : ℕ) → n ≡ chain_turns r x.holder k → (b : Bool) → marked r x.holder ≡ b → waiting_for b n ≡ chain_answer r k
  unfolding chain_answer
  answer-some w n d b z = rw (d, ← z, e, eq-eqb (thread_of r k).status 2 (ap (λ (y : Thread). y.status) (sym e) ∙ w))

-- ---- the thread's own record says whether it waits, and for which mutex

find-most : {A : Type 0} (test : A → Bool) (l : List A) → find test l ≤ length l
unfolding find
find-most test [] = omega arith
find-most test (x ∷ l) = go (test x) (find test l) (find-most test l)
  where
    go : (b : Bool) (n : ℕ) → n ≤ length l → elim b [ true ↦ 1 | false ↦ elim n [ zero ↦ 0 | suc m ↦ suc (suc m) ] ] ≤ suc (length l)
    go true n h = omega arith
    go false zero h = omega arith
    go false (suc n) h = omega arith

later-waits : (c t : ℕ) (l : Life) → (or_else c (λ p. entry 3 p 0) (or_else t (λ p. entry 4 p 0) (unheld l))).status ≡ 2 → ⊥
later-waits (suc c) t l e = omega arith
later-waits zero (suc t) l e = omega arith
later-waits zero zero new e = omega arith
later-waits zero zero live e = omega arith
later-waits zero zero terminated e = omega arith

pub record Waiting (s : reference.State) (k m : ℕ) : Type 0 where
  pub mutex : In s.M m
  pub found : waits_for s k ≡ m
  pub status : (thread_entry s k).status ≡ 2
  pub holder : (thread_entry s k).holder ≡ m

pub record Elsewhere (s : reference.State) (k : ℕ) : Type 0 where
  pub found : waits_for s k ≡ 0
  pub status : (thread_entry s k).status ≡ 2 → ⊥

module _ (s : reference.State) (h : Placed s) (k : ℕ) (i : In s.T k) where
  -- where a ready queue has it
  abbrev ready : ℕ
  ready = find (stands_in k) s.ready

  elsewhere : 1 ≤ ready → waits_for s k ≡ 0
  elsewhere e =
      elim (dec_le 1 (sum (occurrences k) s.ready)) [
        | yes l ↦
            find_none (λ (x : reference.Mutex). occurrences k x.queue) (λ (x : reference.Mutex). stands_in k x.queue) (λ x. refl) s.mutexes
            (omega (arith, h.one_place k i))
        | no l ↦ absurd (omega (arith, find_none (occurrences k) (stands_in k) (λ x. refl) s.ready (omega arith)))
      ]

  waiting : Elsewhere s k ⊎ ((m : ℕ) × Waiting s k m)
  unfolding thread_entry
  waiting = go ready refl (waits_for s k) refl
    where
      go : (b : ℕ) → ready ≡ b → (n : ℕ) → waits_for s k ≡ n → Elsewhere s k ⊎ ((m : ℕ) × Waiting s k m)
      go (suc q) e n f = inl (record { found = elsewhere (omega arith); status = λ x. (let y : ◌≡◌ {A = ℕ} 1 2 = rw e at x in omega arith) })
      go zero e zero f = inl (record { found = f; status = λ x. later-waits (find (λ (x : Processor). eqb x.current k) s.processors) (find (λ (x : Processor). eqb x.transit k) s.processors) (life_at s k) (rw (e, f) at x) })
      go zero e (suc n) f =
          inr (suc n, record { mutex = (omega arith, omega (arith, find-most (λ (x : reference.Mutex). stands_in k x.queue) s.mutexes, h.mutexes)); found = f; status = rw (e, f); holder = rw (e, f) })

module _ (r : State) (z : Sized r) (e : state_ok r ≡ true) (k : ℕ) (i : In r.t k) where
  thread-shown : thread_of r k ≡ thread_record (thread_entry (decode r) k)
  thread-shown =
      subst (λ (x : State). thread_of x k ≡ thread_record (thread_entry (decode r) k)) (encode-decode r z e)
      (read-entry (decode r) (allowed-fits (decode r) (decode-allowed r z e)) k (unfold decode in i))

  mutex-shows : (m : ℕ) → In (decode r).M m → mutex_at (decode r) m ≡ mutex_shown r m
  unfolding decode
  mutex-shows m j = tabulate-at (mutex_shown r) r.m m free_mutex j

  -- turns by the chain and mark are those of the formula
  pub chain_formula : chain_answer r k ≡ turns_ahead (decode r) k
  unfolding chain_answer chain_turns turns_ahead
  chain_formula = go (waiting (decode r) (allowed-placed (decode-allowed r z e)) k (unfold decode in i))
    where
      go : Elsewhere (decode r) k ⊎ ((m : ℕ) × Waiting (decode r) k m) → chain_answer r k ≡ turns_ahead (decode r) k
      go (inl w) = rw (thread-shown, ne_eqb _ 2 w.status, w.found)
      go (inr (zero, w)) = absurd (not-suc-le-zero w.mutex.0)
      go (inr (suc m, w)) =
          rw (
            eq-eqb (thread_of r k).status 2 (ap (λ (x : Thread). x.status) thread-shown ∙ w.status),
            ap (λ (x : Thread). x.holder) thread-shown ∙ w.holder,
            w.found,
            mutex-shows (suc m) w.mutex,
            mark-shown r (suc m) w.mutex,
          )

-- ---- the answer in the papers' terms

meaning-waiting : (b : Bool) (n : ℕ) → meaning (waiting_for b n) ≡ record { refusal = 0; waiting = true; turns = n; overtakable = b }
meaning-waiting true n = refl
meaning-waiting false n = refl

pub meaning-ahead : (r : State) (k : ℕ) → meaning (ahead r k) ≡ answer r k
unfolding ahead answer turns_ahead
meaning-ahead r k = go (ahead_refusal r k) (waits_for (decode r) k)
  where
    go : (n m : ℕ) → meaning (if_zero n (if_zero m NotWaiting (waiting_for (overtakable (decode r) m) (turns_at (mutex_at (decode r) m) k))) (Refused n)) ≡
        record {
          refusal = n;
          waiting = if_zero n (ltb 0 m) false;
          turns = if_zero n (if_zero m 0 (turns_at (mutex_at (decode r) m) k)) 0;
          overtakable = if_zero n (if_zero m false (overtakable (decode r) m)) false;
        }
    go zero zero = refl
    go zero (suc m) = rw (lt-ltb 0 (suc m) (omega arith)) (meaning-waiting _ _)
    go (suc n) m = refl
