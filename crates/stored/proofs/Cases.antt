-- What start, the picture and the journal's front answer, case by case: the shape in which their code arrives at it.
-- Assumes nothing.
use Prim.Native.Nat.{ℕ, zero, suc, ◌+◌, ◌*◌, ◌≤◌, ◌<◌}
use mathlib.Core.Bool.{true, false}
use mathlib.Core.List.{List}
use mathlib.Core.Path.{◌≡◌, refl, sym, ap}
use native.Mathlib.Omega.{arith}
use lib.Dec.{ltb}
use lib.ListN.{length, take, length-take}
use borrow.Author.Tests.{lt-ltb, le-ltb}
use Rattle.std.proofs.Common.{Ok, Err}
use Rattle.state.specs.declared.refusal.Refusal.{Refusal}
use Rattle.state.specs.declared.refusal.Refusal.TheVariants.{TooShort}
use Rattle.state.specs.Refusal.{number}
use Rattle.state.specs.Record.{zero_session}
use Rattle.state.proofs.Refused.{numbered, not_none}
use Rattle.state.specs.declared.Session.{Session}
use Rattle.state.specs.Association.{decode}
use Rattle.state.specs.Rules.{session_ok}
use Rattle.reference.specs.Refusal.{refuse}
use Rattle.reference.specs.Lists.{if_zero, with_front}
use Rattle.reference.specs.Start.{Config, config_cause}
use Rattle.reference.specs.Session.{picture_size}
use Rattle.picture.specs.Picture.{write_refusal, written}
use Rattle.picture.proofs.Written as writing
use Rattle.session.specs.Contract.{Answer, answer_of, started, lent_refusal, front}
use Rattle.session.proofs.Answers.{or_first, lent_passed}
use Rattle.session.proofs.Found.{kept_range}
use Rattle.stored.specs.Stored.{session_bytes, session_in}
use Rattle.stored.specs.Calls.{start_number, start_bytes, picture_number, picture_after, front_shown, front_number}
use Rattle.stored.specs.Model.Writable.{Writable}
use Rattle.stored.proofs.Writing.{state-valid}
use Rattle.stored.proofs.Valid.{start_left as left}

-- ---- start

module _ (c : Config) (b : List ℕ) where
  start_left : (e : Refusal) → number e ≡ start_number c (length b) → (number e ≡ start_number c (length b)) × (b ≡ start_bytes c b)
  unfolding start_bytes
  start_left e h = (h, rw (← h, numbered e))

  pub start-refused : (e : Refusal) → answer_of zero_session (Err e) ≡ started c → (number e ≡ start_number c (length b)) × (b ≡ start_bytes c b)
  unfolding answer_of started
  start-refused e h = start_left e (or_first (number e) (config_cause c) (refuse (ltb (length b) (picture_size c + 3)) 10 0) (ap (λ (x : Answer). x.refusal) h) (not_none e))

  module _ (s : Session) (h : answer_of zero_session (Ok s) ≡ started c) where
    pub right : config_cause c ≡ 0
    unfolding answer_of started
    right = sym (ap (λ (x : Answer). x.refusal) h)

    begun : s ≡ (started c).session
    unfolding answer_of
    begun = ap (λ (x : Answer). x.session) h

    pub start-short : length b < picture_size c + 3 → (10 ≡ start_number c (length b)) × (b ≡ start_bytes c b)
    unfolding number
    start-short l = start_left TooShort (rw (right, lt-ltb (length b) (picture_size c + 3) l))

    module _ (l : picture_size c + 3 ≤ length b) where
      pub start_fits : Writable s b
      start_fits = rw begun (left c b right l).writable

      pub start-taken : (0 ≡ start_number c (length b)) × (with_front b (session_bytes s) ≡ start_bytes c b)
      unfolding start_bytes
      start-taken =
          let n : 0 ≡ start_number c (length b) = rw (right, le-ltb (length b) (picture_size c + 3) l) in
          (n, rw (← n, begun))

-- ---- picture

module _ (b buffer : List ℕ) (r : Session) (e : r ≡ session_in b) where
  pub picture-refused : session_ok r ≡ false → (15 ≡ picture_number b (length buffer)) × (buffer ≡ picture_after b buffer)
  unfolding picture_after
  picture-refused h = (rw (← e, h), rw (← e, h))

  pub picture-shown : session_ok r ≡ true → (write_refusal r.state (length buffer) ≡ picture_number b (length buffer)) × (written r.state buffer ≡ picture_after b buffer)
  unfolding picture_after written
  picture-shown h =
      (rw (← e, h, state-valid r h), rw (← e, h, state-valid r h, writing.picture_size r.state))

-- ---- the journal's front

module _ (b j : List ℕ) (r : Session) (is : r ≡ session_in b) where
  pub front-refused : (e : Refusal) → number e ≡ lent_refusal r (length j) → front_shown (Err e) ≡ front_number b j
  unfolding front_shown front_number
  front-refused e h = rw (← is, ← h) (by (number e) (not_none e))
    where
      by : (k : ℕ) → (k ≡ 0 → ⊥) → 20000 + k ≡ if_zero k (length (front r j)) (20000 + k)
      by zero z = absurd (z refl)
      by (suc k) z = refl

  module _ (free : 0 ≡ lent_refusal r (length j)) (part : List ℕ) (f : part ≡ front r j) where
    pub front-taken : front_shown (Ok (length part)) ≡ front_number b j
    unfolding front_shown front_number
    front-taken = rw (← is, ← free) (ap length f)

    pub front_few : length part ≤ 12000
    unfolding front decode
    front_few =
        let k = kept_range r (lent_passed r (length j) (sym free)).1 in
        let is-first : length part ≡ length (take (3 * r.state.applied) j) = rw (f, ← free) in
        omega (arith, length-take (3 * r.state.applied) j, k.0, k.1)
