-- A buffer with a record's bytes at its front, where they fit, is what the definition of writing says; its front is then the picture.
-- Assumes nothing.
use Prim.Native.Nat.{ℕ, zero, suc, ◌*◌, ◌≤◌}
use mathlib.Core.Bool.{Bool, true, false, not}
use mathlib.Core.List.{List, ◌++◌}
use mathlib.Core.Path.{◌≡◌, refl, ap, sym, ◌∙◌}
use native.Mathlib.Omega.{arith}
use lib.Dec.{ltb}
use lib.ListN.{length, take, drop, length-append}
use lib.Seq.{take_at}
use borrow.Author.Tests.{ltb-true, ltb-false}
use Rattle.state.specs.declared.State.{State}
use Rattle.state.specs.Record.{Sized}
use Rattle.state.specs.Association.{decode, mutex_shown}
use Rattle.state.specs.Rules.{state_ok}
use Rattle.reference.specs.Lists.{tabulate}
use Rattle.reference.specs.Start.{itself}
use Rattle.reference.specs.Picture.{concat, processor_record, mutex_bytes, entry_bytes, thread_entry, picture}
use Rattle.reference.proofs.Tests.{passed}
use Rattle.picture.specs.Picture.{picture_length, write_refusal, written}
use Rattle.picture.specs.Model.Parts.{over, record_bytes}
use Rattle.picture.proofs.Over.{room, no_room}
use Rattle.picture.proofs.Records.{record_length, record_picture}

pub over-written : (r : State) (b : List ℕ) → Sized r → state_ok r ≡ true → over b (record_bytes r) ≡ written r b
unfolding written
over-written r b z e = go (ltb (length b) (picture_length r)) refl
  where
    go : (x : Bool) → ltb (length b) (picture_length r) ≡ x → over b (record_bytes r) ≡ written r b
    go true h = rw (e, h) (sym (no_room b (record_bytes r) (omega (arith, record_length r, ltb-true (length b) (picture_length r) h))))
    go false h =
        rw (e, h, ← record_picture r z e)
        (room b (record_bytes r) (omega (arith, record_length r, ltb-false (length b) (picture_length r) h)) ∙ ap (λ (n : ℕ). record_bytes r ++ drop n b) (record_length r))

-- a picture that is written has room
pub room_for : (r : State) (n : ℕ) → write_refusal r n ≡ 0 → picture_length r ≤ n
room_for r n e = ltb-false n (picture_length r) (passed (ltb n (picture_length r)) _ _ (passed (not (state_ok r)) _ _ e).1).0

-- n records of w bytes each
records_length : {A : Type 0} (f : A → List ℕ) (w : ℕ) → ((a : A) → length (f a) ≡ w) → (h : ℕ → A) (k n : ℕ) → length (concat f (tabulate h k n)) ≡ n * w
unfolding concat tabulate
records_length f w e h k zero = omega arith
records_length f w e h k (suc n) = rw (length-append, e, records_length f w e h (suc k) n) (omega arith)

-- a picture is as long as its header and its P, M and T records
pub picture_size : (r : State) → length (picture (decode r)) ≡ picture_length r
unfolding picture decode
picture_size r =
    simp (
      length-append,
      records_length (processor_record (decode r)) 12 (λ x. refl) itself 1 r.p,
      records_length mutex_bytes 8 (λ x. refl) (mutex_shown r) 1 r.m,
      records_length entry_bytes 4 (λ x. refl) (thread_entry (decode r)) 1 r.t,
    )
    (omega arith)

-- the front of what is written is the picture
pub written-front : (r : State) (b : List ℕ) → write_refusal r (length b) ≡ 0 → take (picture_length r) (written r b) ≡ picture (decode r)
unfolding written
written-front r b e = rw e (take_at (picture (decode r)) (drop (picture_length r) b) (picture_length r) (picture_size r))
