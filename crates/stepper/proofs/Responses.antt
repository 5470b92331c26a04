-- No response has more than 593 bytes, and a line shows by its first 64.
use Prim.Native.Nat.{ℕ, ◌≤◌}
use native.Mathlib.Omega.{arith}
use mathlib.Core.Bool.{Bool, true, false}
use mathlib.Core.Path.{◌≡◌, refl, sym, ap, ◌∙◌}
use mathlib.Core.List.{List}
use lib.Dec.{leb}
use lib.ListN.{length, take}
use lib.Seq.{take_all, length-take-le}
use borrow.Author.Tests.{leb-true, leb-false}
use Rattle.command.specs.Model.Reading.{command_of}
use Rattle.command.proofs.Lines.{long-unknown}
use Rattle.shell.specs.Answers.{Context}
use Rattle.shell.proofs.Responses.{response-length}
use Rattle.stepper.specs.Program.{stepper}

pub response_fits : (l : List ℕ) (k : Context) → length (stepper.response l k) ≤ 593
response_fits l k = response-length (command_of l) k

same_command : (n : ℕ) (l : List ℕ) → 64 ≤ n → command_of (take n l) ≡ command_of l
same_command n l h = go (leb (length l) n) refl
  where
    go : (t : Bool) → leb (length l) n ≡ t → command_of (take n l) ≡ command_of l
    go true e = ap command_of (take_all n l (leb-true (length l) n e))
    go false e =
        let k = leb-false (length l) n e in
        long-unknown (take n l) (omega (arith, length-take-le n l (omega arith))) ∙ sym (long-unknown l (omega arith))

pub front_read : (n : ℕ) (l : List ℕ) (k : Context) → 64 ≤ n → (stepper.response (take n l) k ≡ stepper.response l k) × (stepper.after (take n l) k ≡ stepper.after l k)
front_read n l k h = let e = same_command n l h in (rw e, rw e)
