-- A refusal changes nothing, of the contracts.
-- Assumes nothing.
use Prim.Native.Nat.{ℕ, zero, suc}
use mathlib.Core.Bool.{false}
use mathlib.Core.List.{List}
use mathlib.Core.Path.{◌≡◌, refl}
use lib.Dec.{eqb}
use lib.ListN.{length}
use borrow.Author.Tests.{ne_eqb}
use Rattle.state.specs.declared.Session.{Session}
use Rattle.state.specs.Record.{zero_session}
use Rattle.reference.specs.Lists.{if_zero}
use Rattle.reference.specs.Session.{Opening, table, scripted, Request, move, turn, class, goto, buffers_of}
use Rattle.picture.specs.Picture.{write_refusal, written, read_refusal, read}
use Rattle.session.specs.Contract.{started, lent_refusal, moved, journal_after, went, front}
use Rattle.turns.specs.Contract as turns
use Rattle.claim.specs.Implementation.{contract, begins, calls, Refused}
use Rattle.claim.specs.Demand2.{Refusals}

-- what stands for a refusal
refused-is : {A : Type 0} (n : ℕ) (x y : A) → Refused n → if_zero n x y ≡ y
refused-is zero x y h = absurd (h refl)
refused-is (suc n) x y h = refl

begun : (o : Opening) (j : List ℕ) → eqb (begins o j).refusal 0 ≡ false → ((begins o j).session ≡ zero_session) × ((begins o j).journal ≡ j)
unfolding started turns.scripted
begun (table c) j e = (rw e, refl)
begun (scripted c x) j e = (rw e, refl)

called : (r : Session) (j : List ℕ) (q : Request) → eqb (calls r j q).refusal 0 ≡ false →
    ((calls r j q).session ≡ r) × ((calls r j q).journal ≡ j) × ((calls r j q).buffers ≡ buffers_of q)
unfolding moved journal_after went turns.turned turns.turn_journal turns.classed turns.class_journal turns.answers_after turns.pictures_after
called r j (move a) e = (rw e, rw e, refl)
called r j (turn x p) e = (rw e, rw e, refl)
called r j (class x ps a b) e = (rw e, rw e, rw e)
called r j (goto k) e = (rw e, refl, refl)

pub refusals : Refusals contract
unfolding written read front
refusals =
    record {
      begin = λ o j h. begun o j (ne_eqb (begins o j).refusal 0 h);
      call = λ r j q h. called r j q (ne_eqb (calls r j q).refusal 0 h);
      write = λ r b h. refused-is (write_refusal r (length b)) _ b h;
      read = λ b h. refused-is (read_refusal b) _ _ h;
      front = λ r j h. rw (ne_eqb (lent_refusal r (length j)) 0 h);
    }
