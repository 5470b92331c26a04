-- What is read at the front of bytes, case by case: the shape in which the code arrives at it. `n` is where the picture ends.
-- Assumes nothing.
use Prim.Native.Nat.{ℕ, ◌+◌, ◌*◌, ◌≤◌, ◌<◌}
use mathlib.Core.List.{List}
use mathlib.Core.Path.{◌≡◌, ap, ◌∙◌}
use native.Mathlib.Omega.{arith}
use lib.ListN.{length, take}
use borrow.Author.Tests.{le-leb, lt-leb}
use Rattle.std.proofs.Common.{Ok, Err}
use Rattle.state.specs.declared.State.{State}
use Rattle.state.specs.declared.refusal.Refusal.{Refusal}
use Rattle.state.specs.Refusal.{number}
use Rattle.state.proofs.Refused.{numbered}
use Rattle.state.specs.Record.{zero_session}
use Rattle.picture.specs.Picture.{byte, Read, read_shown, read, read_refusal}
use Rattle.reference.specs.Picture.{picture_bytes}
use Rattle.stored.specs.Stored.{picture_end, picture_in, is_there, session_in}

number-is : (s : State) (b : List ℕ) → read_shown (Ok s) ≡ read b → 0 ≡ read_refusal b
unfolding read_shown read
number-is s b h = ap (λ (x : Read). x.refusal) h

-- where the picture ends, from the three bytes that were read
pub ends : (b : List ℕ) (p t m n : ℕ) → p ≡ byte b 0 → t ≡ byte b 1 → m ≡ byte b 2 → n ≡ picture_bytes p t m → n ≡ picture_end b
ends b p t m n e f g h = h ∙ (λ i. picture_bytes (e i) (f i) (g i))

module _ (b : List ℕ) (n : ℕ) (end : n ≡ picture_end b) where
  -- the bytes end before the number kept does
  pub in_short : length b < n + 3 → zero_session ≡ session_in b
  unfolding session_in is_there
  in_short h = rw (lt-leb (picture_end b + 3) (length b) (omega arith))

  module _ (long : n + 3 ≤ length b) where
    -- what stands there is no picture
    pub in_unread : (e : Refusal) → read_shown (Err e) ≡ read (take n b) → zero_session ≡ session_in b
    unfolding read_shown read session_in is_there
    in_unread e h =
        let m : number e ≡ read_refusal (picture_in b) = ap (λ (x : Read). x.refusal) h ∙ ap (λ (k : ℕ). read_refusal (take k b)) end in
        rw (le-leb (picture_end b + 3) (length b) (omega arith), ← m, numbered e)

    pub in_read : (s : State) → read_shown (Ok s) ≡ read (take n b) →
        record { state = s; initial = byte b n; kept = 256 * byte b (n + 1) + byte b (n + 2) } ≡ session_in b
    unfolding read_shown session_in is_there
    in_read s h =
        let here : read_shown (Ok s) ≡ read (picture_in b) = h ∙ ap (λ (k : ℕ). read (take k b)) end in
        let two : n + 2 ≡ picture_end b + 1 + 1 = omega arith in
        rw (le-leb (picture_end b + 3) (length b) (omega arith), ← number-is s _ here)
        (λ i. record { state = (here i).state; initial = byte b (end i); kept = 256 * byte b (end i + 1) + byte b (two i) })
