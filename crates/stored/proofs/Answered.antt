-- A call on bytes that the entry point answers with the number n and the record s: what the code does is what the definitions say of it.
-- Assumes nothing.
use Prim.Native.Nat.{ℕ}
use mathlib.Core.List.{List}
use mathlib.Core.Path.{◌≡◌, sym}
use Rattle.state.specs.declared.Session.{Session}
use Rattle.state.specs.declared.refusal.Refusal.{Refusal}
use Rattle.state.specs.Refusal.{number}
use Rattle.state.proofs.Refused.{numbered}
use Rattle.reference.specs.Lists.{with_front}
use Rattle.stored.specs.Stored.{session_bytes, bytes_after}
use Rattle.stored.specs.Model.Writable.{Writable}
use Rattle.stored.proofs.Valid.{Left}

module _ (b : List ℕ) (n : ℕ) (s : Session) where
  -- refused, the bytes stay
  pub stays : (e : Refusal) → number e ≡ n → b ≡ bytes_after b n s
  stays e h = rw (← h, numbered e)

  -- accepted, the record is written
  module _ (m : Session) (none : 0 ≡ n) (is : m ≡ s) where
    pub fits : (n ≡ 0 → Left s b) → Writable m b
    fits h = rw is (h (sym none)).writable

    pub wrote : with_front b (session_bytes m) ≡ bytes_after b n s
    wrote = rw (← none, is)
