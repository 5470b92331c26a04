-- The chains of two states that differ in where one thread is.
-- Assumes nothing.
use Prim.Native.Nat.{ℕ, zero, suc, ◌≤◌}
use mathlib.Core.List.{List, [], ◌∷◌, ◌++◌}
use mathlib.Core.Logic.{◌≢◌}
use mathlib.Core.Path.{◌≡◌, refl, ap, sym, subst, ◌∙◌}
use native.Mathlib.Omega.{arith}
use native.Mathlib.Decide.{ℕ_discrete, dec_le}
use lib.ListN.{set}
use lib.Seq.{get_or-set_other}
use Rattle.reference.specs.Lists.{occurrences, tabulate}
use Rattle.reference.specs.State as reference
use Rattle.reference.specs.State.{processor_at, life_at}
use Rattle.reference.specs.Safe.{In}
use Rattle.reference.specs.Picture.{entry, behind, first}
use Rattle.state.specs.declared.Thread.{Thread}
use Rattle.state.specs.declared.Chains.{Chains}
use Rattle.state.specs.Record.{zero_thread, thread_in, first_of}
use Rattle.state.specs.Association.{encode, thread_record, thread_row, queue_at, queued_as}
use Rattle.state.specs.Model.Access.{queued_in, last_from, removed, joined, placed}
use Rattle.state.proofs.Joining.{last-stop, last_on, joined-none, joined-some}
use Rattle.association.proofs.Tables.{tabulate_ext, tabulate-set, tabulate-two}
use Rattle.association.proofs.Spots.{Spot, queued, current, transit, new, terminated, AtSpot, entry_for, Placed, spot_of, spot_entry}
use Rattle.association.proofs.Shown.{Fits, row-some, row-none, placed-once, queue-thread, queue-next, queue_walk, first-none, first_some}
use Rattle.association.proofs.Queues.{occurs_here, occurs_append, behind_skip, behind-at, behind-none, behind_snoc, behind-last, last, all-before, last-split, last_stands}

-- every thread but k is in e where it is in s
pub record Others (s e : reference.State) (k : ℕ) : Type 0 where
  pub P : e.P ≡ s.P
  pub T : e.T ≡ s.T
  pub M : e.M ≡ s.M
  pub stealing : e.stealing ≡ s.stealing
  pub queues : (q j : ℕ) → j ≢ k → occurrences j (queue_at s q) ≤ occurrences j (queue_at e q)
  pub current : (p j : ℕ) → 1 ≤ j → j ≢ k → (processor_at s p).current ≡ j → (processor_at e p).current ≡ j
  pub transit : (p j : ℕ) → 1 ≤ j → j ≢ k → (processor_at s p).transit ≡ j → (processor_at e p).transit ≡ j
  pub life : (j : ℕ) → 1 ≤ j → j ≢ k → life_at e j ≡ life_at s j

module _ (s e : reference.State) (h : Fits s) (g : Placed e) (k : ℕ) (o : Others s e k) where
  stays : (j : ℕ) → 1 ≤ j → j ≢ k → (x : Spot) → AtSpot s j x → AtSpot e j x
  stays j l n (queued q) a = omega (arith, o.queues q j n)
  stays j l n (current p) a = (omega (arith, o.P), o.current p j l n a.1)
  stays j l n (transit p) a = (omega (arith, o.P), o.transit p j l n a.1)
  stays j l n new a = o.life j l n ∙ a
  stays j l n terminated a = o.life j l n ∙ a

  same-entry : (j : ℕ) → ((q : ℕ) → behind j (queue_at e q) ≡ behind j (queue_at s q)) → (x : Spot) → entry_for e j x ≡ entry_for s j x
  same-entry j b (queued q) = ap (entry (queued_as q 0).status (queued_as q 0).holder) (b q)
  same-entry j b (current p) = refl
  same-entry j b (transit p) = refl
  same-entry j b new = refl
  same-entry j b terminated = refl

  -- so its row is the same, if the one behind it is
  row_stays : (j : ℕ) → j ≢ k → ((q : ℕ) → behind j (queue_at e q) ≡ behind j (queue_at s q)) → thread_row e j ≡ thread_row s j
  row_stays j n b =
      elim (dec_le 1 j) [
        | no l ↦ row-none e j (λ r. omega arith) ∙ sym (row-none s j (λ r. omega arith))
        | yes l ↦
            elim (dec_le j s.T) [
              | no t ↦ row-none e j (λ r. omega (arith, o.T)) ∙ sym (row-none s j (λ r. omega arith))
              | yes t ↦
                  let w = spot_of s h.placed j (l, t) h.m_most in
                  row-some e j (omega (arith, o.T)) ∙
                  ap thread_record (spot_entry e g j (omega (arith, o.T)) w.0 (stays j l n w.0 w.1) ∙ same-entry j b w.0 ∙ sym (spot_entry s h.placed j (l, t) w.0 w.1)) ∙
                  sym (row-some s j (l, t))
            ]
      ]

  -- and any row follows from where the thread is now
  row_now : (j : ℕ) → In s.T j → (x : Spot) → AtSpot e j x → thread_row e j ≡ thread_record (entry_for e j x)
  row_now j r x a = row-some e j (omega (arith, o.T)) ∙ ap thread_record (spot_entry e g j (omega (arith, o.T)) x a)

  -- ---- the tables

  threads-set : In s.T k → ((q j : ℕ) → j ≢ k → behind j (queue_at e q) ≡ behind j (queue_at s q)) → (x : Spot) → AtSpot e k x →
      (encode e).chains.threads ≡ set (encode s).chains.threads k (thread_record (entry_for e k x))
  unfolding encode
  threads-set r b x a =
      tabulate-set (thread_row s) (thread_row e) 33 k (omega (arith, h.t_most)) (λ j l n. row_stays j n (λ q. b q j n)) ∙
      ap (set (tabulate (thread_row s) 0 33) k) (row_now k r x a)

firsts-set : (s e : reference.State) → (q : ℕ) → q ≤ 16 → ((n : ℕ) → n ≢ q → queue_at e n ≡ queue_at s n) →
    (encode e).chains.firsts ≡ set (encode s).chains.firsts q (first (queue_at e q))
unfolding encode
firsts-set s e q l f = tabulate-set (λ q. first (queue_at s q)) (λ q. first (queue_at e q)) 17 q (omega arith) (λ j x n. ap first (f j n))

firsts_same : (s e : reference.State) → ((q : ℕ) → first (queue_at e q) ≡ first (queue_at s q)) → (encode e).chains.firsts ≡ (encode s).chains.firsts
unfolding encode
firsts_same s e f = tabulate_ext (λ q. first (queue_at e q)) (λ q. first (queue_at s q)) 0 17 (λ j x y. f j)

threads-same : (s e : reference.State) → Fits s → Placed e → Others s e 0 → ((q : ℕ) → queue_at e q ≡ queue_at s q) → (encode e).chains.threads ≡ (encode s).chains.threads
unfolding encode
threads-same s e h g o f = tabulate_ext (thread_row e) (thread_row s) 0 33 (λ j x y. by j)
  where
    by : (j : ℕ) → thread_row e j ≡ thread_row s j
    by zero = row-none e 0 (λ r. omega arith) ∙ sym (row-none s 0 (λ r. omega arith))
    by (suc j) = row_stays s e h g 0 o (suc j) (omega arith) (λ q. ap (behind (suc j)) (f q))

chains_by : (c : Chains) {f : List ℕ} {t : List Thread} → c.firsts ≡ f → c.threads ≡ t → c ≡ record { firsts = f; threads = t }
chains_by c e d = λ i. record { firsts = e i; threads = d i }

-- ---- no thread moves, or one: between places that are no queues, out of a queue, into a queue

abbrev chains_of : List ℕ → List Thread → Chains
chains_of f t = record { firsts = f; threads = t }

module _ (s e : reference.State) (h : Fits s) (g : Placed e) where
  pub none_moves : Others s e 0 → ((q : ℕ) → queue_at e q ≡ queue_at s q) → (encode e).chains ≡ (encode s).chains
  none_moves o f = chains_by (encode e).chains (firsts_same s e (λ q. ap first (f q))) (threads-same s e h g o f)

  pub one_moves : (k : ℕ) → In s.T k → Others s e k → ((q : ℕ) → queue_at e q ≡ queue_at s q) → (x : Spot) → AtSpot e k x →
      (encode e).chains ≡ placed (encode s).chains k (thread_record (entry_for e k x))
  unfolding placed
  one_moves k r o f x a =
      chains_by (encode e).chains (firsts_same s e (λ q. ap first (f q))) (threads-set s e h g k o r (λ q j n. ap (behind j) (f q)) x a)

  module _ (q : ℕ) (l : q ≤ 16) (others : (n : ℕ) → n ≢ q → queue_at e n ≡ queue_at s n) where
    -- what holds of queue q and its change holds of every queue and its change
    at-queues : (Q : List ℕ → List ℕ → Type 0) → Q (queue_at e q) (queue_at s q) → ((a : List ℕ) → Q a a) → (n : ℕ) → Q (queue_at e n) (queue_at s n)
    at-queues Q c d n = elim (ℕ_discrete n q) [ yes i ↦ subst (λ (n : ℕ). Q (queue_at e n) (queue_at s n)) (sym i) c | no i ↦ rw (others n i) (d (queue_at s n)) ]

    pub one_leaves : (k : ℕ) (rest : List ℕ) → queue_at s q ≡ k ∷ rest → queue_at e q ≡ rest → Others s e k → (x : Spot) → AtSpot e k x →
        (encode e).chains ≡ removed (encode s).chains q k (first rest) (thread_record (entry_for e k x))
    unfolding removed
    one_leaves k rest was now o x a =
        chains_by (encode e).chains (firsts-set s e q l others ∙ ap (λ (a : List ℕ). set (encode s).chains.firsts q (first a)) now)
        (threads-set s e h g k o (queue-thread s h q k (rw was (occurs_here k [] rest)))
        (λ n j d. at-queues (λ (a b : List ℕ). behind j a ≡ behind j b) (ap (behind j) now ∙ sym (behind_skip j k rest d) ∙ sym (ap (behind j) was)) (λ b. refl) n) x a)

    module _ (k : ℕ) (r : In s.T k) (now : queue_at e q ≡ queue_at s q ++ k ∷ []) (o : Others s e k) where
      -- the row of a thread of the queue
      queue_row_now : (j : ℕ) → In s.T j → 1 ≤ occurrences j (queue_at s q ++ k ∷ []) → thread_row e j ≡ queued_as q (behind j (queue_at s q ++ k ∷ []))
      queue_row_now j t c =
          row_now s e h g k o j t (queued q) (rw now c) ∙
          ap (λ (a : List ℕ). queued_as q (behind j a)) now

      -- k is the last
      joined-row : thread_row e k ≡ queued_in q
      joined-row =
          queue_row_now k r (occurs_here k (queue_at s q) []) ∙
          ap (queued_as q) (behind-at k (queue_at s q) [] (rw now at (placed-once e g q k (omega (arith, o.T)))))

      joins_empty : queue_at s q ≡ [] →
          (encode e).chains ≡ chains_of (set (encode s).chains.firsts q k) (set (encode s).chains.threads k (queued_in q))
      unfolding encode
      joins_empty was =
          let w : queue_at e q ≡ k ∷ [] = now ∙ ap (λ (a : List ℕ). a ++ k ∷ []) was in
          chains_by (encode e).chains (firsts-set s e q l others ∙ ap (λ (a : List ℕ). set (encode s).chains.firsts q (first a)) w)
          (tabulate-set (thread_row s) (thread_row e) 33 k (omega (arith, h.t_most))
          (λ j x d. row_stays s e h g k o j d (at-queues (λ (a b : List ℕ). behind j a ≡ behind j b) (ap (behind j) w ∙ behind-none j k ∙ sym (ap (behind j) was)) (λ b. refl))) ∙
          ap (set (tabulate (thread_row s) 0 33) k) joined-row)

      module _ (x : ℕ) (rest : List ℕ) (was : queue_at s q ≡ x ∷ rest) where
        grown : queue_at e q ≡ x ∷ rest ++ k ∷ []
        grown = now ∙ ap (λ (a : List ℕ). a ++ k ∷ []) was

        once : (j : ℕ) → In s.T j → occurrences j (x ∷ rest ++ k ∷ []) ≤ 1
        once j t = rw grown at (placed-once e g q j (omega (arith, o.T)))

        last-thread : In s.T (last x rest)
        last-thread = queue-thread s h q (last x rest) (rw was (last_stands x rest))

        -- the last was there before k
        not_last : k ≢ last x rest
        not_last d =
            let w : occurrences k (x ∷ rest) ≡ occurrences (last x rest) (x ∷ rest) = ap (λ (j : ℕ). occurrences j (x ∷ rest)) d in
            omega (arith, once k r, last_stands x rest, occurs_append k (x ∷ rest) (k ∷ []), occurs_here k [] [])

        last_row : thread_row e (last x rest) ≡ queued_as q k
        last_row =
            queue_row_now (last x rest) last-thread (rw was (omega (arith, last_stands x rest, occurs_append (last x rest) (x ∷ rest) (k ∷ [])))) ∙
            ap (queued_as q) (rw was (behind-last k x rest (once (last x rest) last-thread)))

        last-read : thread_in (set (encode s).chains.threads k (queued_in q)) (last x rest) ≡ queued_in q
        last-read =
            get_or-set_other (encode s).chains.threads k (last x rest) (queued_in q) zero_thread (λ c. not_last (sym c)) ∙
            queue-next s h q (last x rest) (all-before x rest) [] (was ∙ last-split x rest)

        joins_after :
            (encode e).chains ≡ chains_of (encode s).chains.firsts (set (set (encode s).chains.threads k (queued_in q)) (last x rest) (queued_as q k))
        unfolding encode
        joins_after =
            chains_by (encode e).chains
            (firsts_same s e (at-queues (λ (a b : List ℕ). first a ≡ first b) (rw (grown, was)) (λ b. refl)))
            (tabulate-two (thread_row s) (thread_row e) 33 k (last x rest) (omega (arith, h.t_most)) (omega (arith, h.t_most, last-thread))
            (λ j y c d. row_stays s e h g k o j c (at-queues (λ (a b : List ℕ). behind j a ≡ behind j b) (rw (grown, was) (behind_snoc j k x rest d)) (λ b. refl))) ∙
            (λ i. set (set (tabulate (thread_row s) 0 33) k (joined-row i)) (last x rest) (last_row i)))

      pub one_joins : (encode e).chains ≡ joined (encode s).chains q k
      one_joins = by (queue_at s q) refl
        where
          by : (a : List ℕ) → queue_at s q ≡ a → (encode e).chains ≡ joined (encode s).chains q k
          by [] was = joins_empty was ∙ sym (joined-none (encode s).chains q k (first-none s h q was))
          by (x ∷ rest) was =
              let ts = (encode s).chains.threads in
              let z : last_from ts 32 (first_of (encode s) q) ≡ last x rest = queue_walk s h (last_from ts) (last-stop ts) (last_on ts) q x rest was in
              let t : In s.T x = queue-thread s h q x (rw was (occurs_here x [] rest)) in
              joins_after x rest was ∙ sym (joined-some (encode s).chains q k (λ c. omega (arith, first_some s h q x rest was)) ∙ rw (z, last-read x rest was))
