-- The bytes that are written of a record that keeps the rules are the picture of the state that it shows.
-- Assumes nothing.
use Prim.Native.Nat.{ℕ, zero, suc, ◌+◌, ◌-◌, ◌*◌, ◌≤◌}
use mathlib.Core.Bool.{true}
use mathlib.Core.List.{List, [], ◌∷◌, ◌++◌}
use mathlib.Core.Path.{◌≡◌, refl, ap, ap₂, sym, subst, ◌∙◌}
use native.Mathlib.Omega.{arith}
use native.Mathlib.Decide.{ℕ_discrete}
use lib.ListN.{length, length-append, drop, get_or}
use lib.Seq.{get_or-drop}
use Rattle.state.specs.declared.State.{State}
use Rattle.state.specs.Record.{thread_of, processor_of, mutex_of, first_of, chain, Sized}
use Rattle.state.specs.Association.{decode, mutex_shown, queue_at, queue_shown, processor_record, thread_record}
use Rattle.state.specs.Rules.{state_ok}
use Rattle.state.proofs.Branch.{if_none, if_some}
use Rattle.state.proofs.Numbers.{queue-single, queue_no_single, queue-each, queue_no_each}
use Rattle.reference.specs.Lists.{if_zero, tabulate}
use Rattle.reference.specs.State as reference
use Rattle.reference.specs.State.{processor_at}
use Rattle.reference.specs.Start.{itself}
use Rattle.reference.specs.Safe.{In}
use Rattle.reference.specs.Picture as document
use Rattle.reference.specs.Picture.{concat, first, two, picture, thread_entry, entry_bytes}
use Rattle.association.proofs.Shown.{Fits, allowed-fits, read-processor, read_first, read-entry}
use Rattle.shown.proofs.Encode.{encode-decode, decode-allowed}
use Rattle.picture.specs.Picture.{picture_length}
use Rattle.picture.specs.Model.Parts.{rows, processor_bytes, mutex_bytes, thread_bytes, processors_bytes, mutexes_bytes, threads_bytes, record_bytes}
use Rattle.picture.proofs.Rows.{rows-length, rows_same}

-- the rows of a table
concat-rows : {A : Type 0} (g : A → List ℕ) (h : ℕ → A) (k n : ℕ) → concat g (tabulate h k n) ≡ rows (λ i. g (h i)) k n
unfolding concat tabulate rows
concat-rows g h k zero = refl
concat-rows g h k (suc n) = ap (λ (l : List ℕ). g (h k) ++ l) (concat-rows g h (suc k) n)

-- a queue begins with the chain's first
first-shown : (r : State) (q : ℕ) → first (queue_shown r q) ≡ first_of r q
unfolding chain
first-shown r q = go (first_of r q)
  where
    go : (k : ℕ) → first (chain (thread_of r) 32 k) ≡ k
    go zero = refl
    go (suc k) = refl

-- a processor's first stands 8 places on
pub own_rows : (r : State) (own : List ℕ) → own ≡ drop 8 r.chains.firsts → rows (λ p. processor_bytes (get_or own p 0) (processor_of r p)) 1 r.p ≡ processors_bytes r
own_rows r own e =
    rows_same (λ p. processor_bytes (get_or own p 0) (processor_of r p)) (λ p. processor_bytes (first_of r (8 + p)) (processor_of r p)) 1 r.p
    (λ p h l. rw (e, get_or-drop 8 r.chains.firsts p 0))

module _ (r : State) where
  pub processors-length : length (processors_bytes r) ≡ r.p * 12
  processors-length = rows-length (λ p. processor_bytes (first_of r (8 + p)) (processor_of r p)) 12 (λ i. refl) 1 r.p

  pub mutexes-length : length (mutexes_bytes r) ≡ r.m * 8
  mutexes-length = rows-length (λ m. mutex_bytes (first_of r m) (mutex_of r m)) 8 (λ i. refl) 1 r.m

  pub threads-length : length (threads_bytes r) ≡ r.t * 4
  threads-length = rows-length (λ k. thread_bytes (thread_of r k)) 4 (λ i. refl) 1 r.t

  pub record_length : length (record_bytes r) ≡ picture_length r
  unfolding record_bytes
  record_length = simp (length-append, processors-length, mutexes-length, threads-length) (omega arith)

module _ (r : State) (z : Sized r) (e : state_ok r ≡ true) where
  fits : Fits (decode r)
  fits = allowed-fits (decode r) (decode-allowed r z e)

  -- a queue of the record begins with that queue's first
  first-is : (q : ℕ) → first_of r q ≡ first (queue_at (decode r) q)
  first-is q = subst (λ (x : State). first_of x q ≡ first (queue_at (decode r) q)) (encode-decode r z e) (read_first (decode r) fits q)

  single-same : first_of r 0 ≡ if_zero (decode r).stealing (first (reference.queue_at (decode r) 1)) 0
  single-same =
      let s = decode r in
      first-is 0 ∙
      elim (ℕ_discrete s.stealing 0) [
        | yes c ↦ ap first (queue-single s c) ∙ sym (if_none s.stealing _ _ c)
        | no c ↦ ap first (queue_no_single s c) ∙ sym (if_some s.stealing _ _ c)
      ]

  own_same : (p : ℕ) → 1 ≤ p → first_of r (8 + p) ≡ if_zero (decode r).stealing 0 (first (reference.queue_at (decode r) p))
  own_same p l =
      let s = decode r in
      let o : 8 + p - 8 ≡ p = omega arith in
      first-is (8 + p) ∙
      elim (ℕ_discrete s.stealing 0) [
        | yes c ↦ ap first (queue_no_each s (8 + p) (omega arith) c) ∙ sym (if_none s.stealing _ _ c)
        | no c ↦ ap first (queue-each s (8 + p) (omega arith) c) ∙ ap (λ (i : ℕ). first (reference.queue_at s i)) o ∙ sym (if_some s.stealing _ _ c)
      ]

  processor-same : (p : ℕ) → 1 ≤ p → processor_bytes (first_of r (8 + p)) (processor_of r p) ≡ document.processor_record (decode r) p
  processor-same p l =
      let a : processor_of r p ≡ processor_record (processor_at (decode r) p) =
      subst (λ (x : State). processor_of x p ≡ processor_record (processor_at (decode r) p)) (encode-decode r z e) (read-processor (decode r) fits p)
      in
      ap₂ processor_bytes (own_same p l) a

  mutex-same : (m : ℕ) → mutex_bytes (first_of r m) (mutex_of r m) ≡ document.mutex_bytes (mutex_shown r m)
  mutex-same m = ap (λ (k : ℕ). mutex_bytes k (mutex_of r m)) (sym (first-shown r m))

  thread-same : (k : ℕ) → In r.t k → thread_bytes (thread_of r k) ≡ entry_bytes (thread_entry (decode r) k)
  thread-same k i =
      ap thread_bytes
      (subst (λ (x : State). thread_of x k ≡ thread_record (thread_entry (decode r) k)) (encode-decode r z e) (read-entry (decode r) fits k (unfold decode in i)))

  pub record_picture : record_bytes r ≡ picture (decode r)
  unfolding record_bytes picture decode
  record_picture =
      let s = decode r in
      let ps : rows (λ p. processor_bytes (first_of r (8 + p)) (processor_of r p)) 1 r.p ≡ concat (document.processor_record s) (tabulate itself 1 r.p) =
      rows_same _ _ 1 r.p (λ p x y. processor-same p x) ∙ sym (concat-rows (document.processor_record s) itself 1 r.p)
      in
      let ms : rows (λ m. mutex_bytes (first_of r m) (mutex_of r m)) 1 r.m ≡ concat document.mutex_bytes s.mutexes =
      rows_same _ _ 1 r.m (λ m x y. mutex-same m) ∙ sym (concat-rows document.mutex_bytes (mutex_shown r) 1 r.m)
      in
      let ts : rows (λ k. thread_bytes (thread_of r k)) 1 r.t ≡ concat entry_bytes (tabulate (thread_entry s) 1 r.t) =
      rows_same _ _ 1 r.t (λ k x y. thread-same k (omega arith)) ∙ sym (concat-rows entry_bytes (thread_entry s) 1 r.t)
      in
      (λ i. (r.p ∷ r.t ∷ r.m ∷ single-same i ∷ two r.applied ++ 0 ∷ r.stealing ∷ []) ++ ps i ++ ms i ++ ts i)
