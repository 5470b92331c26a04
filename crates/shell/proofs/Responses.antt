-- No response to a line of the stepper has more than 593 bytes.
use Prim.Native.Nat.{ℕ, ◌≤◌}
use native.Mathlib.Omega.{arith}
use mathlib.Core.Bool.{Bool, true, false, cond}
use mathlib.Core.Path.{◌≡◌, refl}
use mathlib.Core.List.{List, ◌++◌}
use lib.Dec.{eqb}
use lib.ListN.{length, length-append}
use borrow.Author.Tests.{eqb-true}
use Rattle.command.specs.Printing.{hex, line_feed}
use Rattle.command.specs.declared.Command.{Command}
use Rattle.command.specs.declared.Command.TheVariants.{Start, StartWith, Move, Goto, Show, Unknown}
use Rattle.command.proofs.Lines.{decimal-length}
use Rattle.command.proofs.Put.{hex-length}
use Rattle.state.specs.declared.State.{State}
use Rattle.state.specs.Association.{decode}
use Rattle.reference.specs.Picture.{picture}
use Rattle.picture.specs.Picture.{write_refusal}
use Rattle.shell.specs.Answers.{Context, number, question_mark, picture_text, response}
use Rattle.picture.proofs.Written.{room_for, picture_size}

number-length : (n : ℕ) → length (number n) ≤ 593
number-length n = simp length-append (omega (arith, decimal-length n))

choice_length : (t : Bool) (x y : List ℕ) → length x ≤ 593 → length y ≤ 593 → length (cond t x y) ≤ 593
choice_length true x y h k = h
choice_length false x y h k = k

picture_text-length : (r : State) → length (picture_text r) ≤ 593
unfolding picture_text
picture_text-length r = go (eqb (write_refusal r 296) 0) refl
  where
    go : (t : Bool) → eqb (write_refusal r 296) 0 ≡ t → length (cond t (hex (picture (decode r)) ++ line_feed) (number (write_refusal r 296))) ≤ 593
    go true e =
        let z = eqb-true (write_refusal r 296) 0 e in
        simp length-append (omega (arith, hex-length (picture (decode r)), picture_size r, room_for r 296 z))
    go false e = number-length (write_refusal r 296)

pub response-length : (c : Command) (k : Context) → length (response c k) ≤ 593
unfolding response
response-length (Start p t m b) k = number-length _
response-length (StartWith p t m b c) k = number-length _
response-length (Move p a o) k = choice_length k.begun _ question_mark (number-length _) (omega arith)
response-length (Goto i) k = choice_length k.begun _ question_mark (number-length _) (omega arith)
response-length Show k = choice_length k.begun _ question_mark (picture_text-length _) (omega arith)
response-length Unknown k = omega arith
