-- A picture that is written into 296 bytes is printed.
use Prim.Native.Nat.{ℕ}
use native.Mathlib.Omega.{arith}
use mathlib.Core.Bool.{false}
use mathlib.Core.Path.{◌≡◌, sym}
use mathlib.Core.List.{List, ◌++◌}
use lib.Dec.{eqb}
use lib.ListN.{length, take}
use lib.Seq.{length-take-le}
use Rattle.command.specs.Printing.{hex, line_feed}
use Rattle.state.specs.declared.State.{State}
use Rattle.picture.specs.Picture.{picture_length, write_refusal, written}
use Rattle.picture.proofs.Written.{room_for, written-front}
use Rattle.shell.specs.Answers.{number, picture_text}

pub counted : (r : State) (v : List ℕ) (n : ℕ) → length v ≡ 296 → 0 ≡ write_refusal r 296 → n ≡ picture_length r → n ≡ length (take n v)
counted r v n l e k = let h = room_for r 296 (sym e) in sym (length-take-le n v (omega arith))

pub picture_printed : (r : State) (b v : List ℕ) (n : ℕ) → length b ≡ 296 → 0 ≡ write_refusal r (length b) → v ≡ written r b → n ≡ picture_length r
    → hex (take n v) ++ line_feed ≡ picture_text r
unfolding picture_text
picture_printed r b v n l e w k =
    let q : write_refusal r 296 ≡ 0 = rw l at (sym e) in
    rw (q, k, w, written-front r b (sym e))

pub refusal_printed : (r : State) (z : ℕ) → z ≡ write_refusal r 296 → eqb z 0 ≡ false → number z ≡ picture_text r
unfolding picture_text
refusal_printed r z q t = rw (← q, t)
