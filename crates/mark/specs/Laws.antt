-- What holds of every mark (proofs/Laws.antt). `b` is the machine's picture, `c` and `d` are candidates'.
-- Assumes nothing.
use Rattle.std.specs.Prelude.{ℕ, ◌+◌, ◌*◌, ◌≤◌, ◌<◌, true, List, [], ◌∷◌, ◌≡◌, length, drop}
use Rattle.state.specs.declared.State.{State}
use Rattle.state.specs.Record.{Sized}
use Rattle.state.specs.Association.{decode}
use Rattle.state.specs.Rules.{state_ok}
use Rattle.reference.specs.Refusal.{bad_length}
use Rattle.reference.specs.Picture.{picture}
use Rattle.mark.specs.Mark.{Row, rows_of, agrees, earned, possible, mark_refusal, marked, answer, state_marked}

-- each record of a list has it
unfoldable pub Every : (Row → Type 0) → List Row → Type 0
Every P [] = Unit {0}
Every P (r ∷ l) = P r × Every P l

-- the candidate's picture is marked
abbrev pub Accepted : List ℕ → List ℕ → Type 0
Accepted b c = mark_refusal b c ≡ 0

-- each record of the machine's picture is the candidate's
abbrev pub AllAgree : List ℕ → List ℕ → Type 0
AllAgree b c = Every (λ r. agrees b c r ≡ true) (rows_of b)

-- what agrees in c agrees in d
abbrev pub AgreesMore : List ℕ → List ℕ → List ℕ → Type 0
AgreesMore b c d = Every (λ r. agrees b c r ≡ true → agrees b d r ≡ true) (rows_of b)

pub record Laws : Type 0 where
  -- there are points to earn, and the mark is their share in ten-thousandths, rounded down;
  pub some : (b c : List ℕ) → Accepted b c → 0 < possible (rows_of b)
  pub rounded_down : (b c : List ℕ) → Accepted b c
      → (answer b c * possible (rows_of b) ≤ 10000 * earned b c (rows_of b)) × (10000 * earned b c (rows_of b) < (answer b c + 1) * possible (rows_of b))
  -- it is at most 10,000, and a refusal is 20,011 to 20,014, so no mark is a refusal;
  pub most : (b c : List ℕ) → Accepted b c → answer b c ≤ 10000
  pub refused : (b c : List ℕ) → (Accepted b c → ⊥) → (answer b c ≡ 20000 + mark_refusal b c) × (11 ≤ mark_refusal b c) × (mark_refusal b c ≤ 14)
  -- the full mark means that every record agrees, and comes whenever they do,
  pub full : (b c : List ℕ) → Accepted b c → (answer b c ≡ 10000 → AllAgree b c) × (AllAgree b c → answer b c ≡ 10000)
  -- that is, all bytes behind the header;
  pub full_bytes : (b c : List ℕ) → Accepted b c → (answer b c ≡ 10000 → drop 8 c ≡ drop 8 b) × (drop 8 c ≡ drop 8 b → answer b c ≡ 10000)
  -- a record more that agrees never lowers it;
  pub monotone : (b c d : List ℕ) → Accepted b c → Accepted b d → AgreesMore b c d → answer b c ≤ answer b d
  -- the candidate's header earns nothing and costs nothing;
  pub header : (b c d : List ℕ) → length c ≡ length d → drop 8 c ≡ drop 8 d → answer b c ≡ answer b d
  -- against the picture of a valid record only the candidate's length is refused
  pub own : (r : State) (c : List ℕ) → Sized r → state_ok r ≡ true
      → (state_marked r c ≡ marked (picture (decode r)) c)
      × (length c ≡ length (picture (decode r)) → Accepted (picture (decode r)) c)
      × ((length c ≡ length (picture (decode r)) → ⊥) → mark_refusal (picture (decode r)) c ≡ bad_length)
