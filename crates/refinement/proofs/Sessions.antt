-- A session on bytes: the record in the bytes and the journal are those of the session on records, call by call.
-- Assumes nothing.
use Prim.Native.Nat.{ℕ, ◌*◌, ◌≤◌}
use mathlib.Core.Bool.{true, not}
use mathlib.Core.List.{List, [], ◌∷◌}
use mathlib.Core.Path.{◌≡◌, refl, ap, ◌∙◌, subst}
use native.Mathlib.Omega.{arith}
use lib.Dec.{ltb}
use lib.ListN.{length, take}
use borrow.Author.Tests.{le-ltb}
use Rattle.state.specs.declared.Session.{Session}
use Rattle.state.specs.Association.{encode, decode, session_record}
use Rattle.state.specs.Rules.{session_ok}
use Rattle.reference.specs.Refusal.{refuse}
use Rattle.reference.specs.Lists.{if_zero, with_front}
use Rattle.reference.specs.State.{State}
use Rattle.reference.specs.Start.{Config, config_cause, start}
use Rattle.reference.specs.Cause.{accepted}
use Rattle.reference.specs.Picture.{picture}
use Rattle.reference.specs.Session.{table, Lent, own, Call, Reply, Listed, standing, all_standing, state_in, answer_to, left, replies}
use Rattle.reference.proofs.Moves.{accepted-length}
use Rattle.reference.proofs.Laws.{safe}
use Rattle.picture.specs.Picture.{picture_length}
use Rattle.session.specs.Contract.{started, moved, went}
use Rattle.session.proofs.Answers.{or_passed}
use Rattle.session.proofs.Shown.{record_right, state-back, length_is, picture-long}
use Rattle.session.proofs.Holding.{Holds, standing-legal, standing-long}
use Rattle.turns.specs.Contract.{turned}
use Rattle.stored.specs.Stored.{session_in}
use Rattle.stored.specs.Calls.{start_number, start_bytes, picture_number, picture_after}
use Rattle.stored.proofs.Laws.{laws}
use Rattle.claim.specs.Implementation.{contract}
use Rattle.claim.specs.Demand3 as claim
use Rattle.claim.specs.Demand3.{Event, asks, Held, lent_to, held_after, responses, IsSession, opening}
use Rattle.claim.proofs.Demand3.{Reached, reached, demand3}
use Rattle.refinement.specs.Sessions.{Ask, moves, turns, goes, request, asked, Kept, number, after, numbers, kept_after, refusals, Agrees, StoredSessions}

-- the calls as events of a session on records
unfoldable events : List Ask → List Event
events [] = []
events (q ∷ qs) = asks (record { request = request q; lent = own }) ∷ events qs

events-asked : (qs : List Ask) → claim.asked (events qs) ≡ asked qs
unfolding events asked claim.asked
events-asked [] = refl
events-asked (q ∷ qs) = ap (λ (l : List Call). record { request = request q; lent = own } ∷ l) (events-asked qs)

belongs : (qs : List Ask) (h : Held) → IsSession contract h (events qs)
unfolding events IsSession
belongs [] h = tt
belongs (q ∷ qs) h = (tt, belongs qs (claim.step contract h (asks (record { request = request q; lent = own }))))

-- the bytes hold the record, and the journals are the same
abbrev Same : Kept → Held → Type 0
Same k h = (session_in k.session ≡ h.session) × (k.journal ≡ h.journal)

-- a call's number, whatever journal it is lent
number_is : (k : Kept) (r : Session) (o : List ℕ) → session_in k.session ≡ r → (q : Ask) →
    number (record { session = k.session; journal = o }) q ≡ (contract.call r o (request q)).refusal
number_is k r o e (moves a) = ap (λ (s : Session). (moved s o a).refusal) e
number_is k r o e (turns x p) = ap (λ (s : Session). (turned s o x p).refusal) e
number_is k r o e (goes n) = ap (λ (s : Session). (went s o n).refusal) e

-- what a call leaves is what the entry point by value leaves of the record in the bytes
left_is : (k : Kept) (q : Ask) →
    (session_in (after k q).session ≡ (contract.call (session_in k.session) k.journal (request q)).session) ×
    ((after k q).journal ≡ (contract.call (session_in k.session) k.journal (request q)).journal)
left_is k (moves a) = (laws.move k.session k.journal a, refl)
left_is k (turns x p) = (laws.turn k.session k.journal x p, refl)
left_is k (goes n) = (laws.goto k.session k.journal n, refl)

same_after : (k : Kept) (h : Held) → Same k h → (q : Ask) → Same (after k q) (claim.step contract h (asks (record { request = request q; lent = own })))
same_after k h s q =
    let l = left_is k q in
    (l.0 ∙ (λ i. (contract.call (s.0 i) (s.1 i) (request q)).session), l.1 ∙ (λ i. (contract.call (s.0 i) (s.1 i) (request q)).journal))

same-all : (qs : List Ask) (k : Kept) (h : Held) → Same k h → Same (kept_after k qs) (held_after contract h (events qs))
unfolding events kept_after held_after
same-all [] k h s = s
same-all (q ∷ qs) k h s = same-all qs (after k q) _ (same_after k h s q)

numbers_are : (qs : List Ask) (k : Kept) (h : Held) → Same k h → numbers k qs ≡ refusals (responses contract h (events qs))
unfolding events numbers refusals responses
numbers_are [] k h s = refl
numbers_are (q ∷ qs) k h s =
    let first : number k q ≡ (contract.call h.session h.journal (request q)).refusal =
    number_is k h.session k.journal s.0 q ∙ ap (λ (o : List ℕ). (contract.call h.session o (request q)).refusal) s.1 in
    λ i. first i ∷ numbers_are qs (after k q) _ (same_after k h s q) i

module _ (c : Config) (b j : List ℕ) (e : start_number c (length b) ≡ 0) (qs : List Ask) where
  right : config_cause c ≡ 0
  right = (or_passed (config_cause c) _ e).0

  begun : (contract.begin (table c) j).refusal ≡ 0
  unfolding started
  begun = right

  abbrev first : Kept
  first = record { session = start_bytes c b; journal = j }

  abbrev held : Held
  held = held_after contract (opening contract (table c) j) (events qs)

  abbrev listed : Listed
  listed = left c (length j) (all_standing []) (asked qs)

  starts : Same first (opening contract (table c) j)
  starts = (laws.start c b e, refl)

  same : Same (kept_after first qs) held
  same = same-all qs first (opening contract (table c) j) starts

  agrees : claim.Agrees contract (table c) j (events qs)
  agrees = demand3.sessions (table c) j begun (events qs) (belongs qs (opening contract (table c) j))

  listed-is : claim.listed contract (table c) j (events qs) ≡ listed
  listed-is = ap (left c (length j) (all_standing [])) (events-asked qs)

  holds : Holds c listed held.session held.journal
  unfolding Reached
  holds =
      subst (λ (l : Listed). Holds c l held.session held.journal) listed-is
      (reached (table c) j begun (events qs) (belongs qs (opening contract (table c) j))).1.holds

  legal : accepted (start c) (standing listed) ≡ true
  legal = standing-legal c right listed held.session held.journal holds

  few : length listed.kept ≤ 4000
  unfolding start
  few = omega (arith, accepted-length listed.kept (start c) (omega arith) holds.legal)

  -- the record in the bytes
  record_is : session_in (kept_after first qs).session ≡ session_record (state_in c listed) c.B (length listed.kept)
  record_is = same.0 ∙ holds.shows

  record_ok : session_ok (session_record (state_in c listed) c.B (length listed.kept)) ≡ true
  record_ok =
      record_right c (standing listed) right legal (length listed.kept)
      (omega (arith, standing-long c right listed held.session held.journal holds, holds.within)) few

  module _ (buffer : List ℕ) (room : length (picture (state_in c listed)) ≤ length buffer) where
    picture-fits : picture_number (kept_after first qs).session (length buffer) ≡ 0
    picture-fits =
        ap (λ (r : Session). refuse (not (session_ok r)) 15 (refuse (ltb (length buffer) (picture_length r.state)) 10 0)) record_is ∙
        rw (
          record_ok,
          le-ltb (length buffer) (picture_length (encode (state_in c listed)))
              (omega (arith, length_is c (standing listed) right legal, picture-long c (standing listed) right legal)),
        )

    picture-written : picture_after (kept_after first qs).session buffer ≡ with_front buffer (picture (state_in c listed))
    unfolding picture_after
    picture-written =
        ap (λ (n : ℕ). if_zero n (with_front buffer (picture (decode (session_in (kept_after first qs).session).state))) buffer) picture-fits ∙
        ap (λ (r : Session). with_front buffer (picture (decode r.state))) record_is ∙
        ap (λ (s : State). with_front buffer (picture s)) (state-back c (standing listed) right legal)

  -- the next call's number
  next : (q : Ask) (t : Lent) →
      number (record { session = (kept_after first qs).session; journal = lent_to (kept_after first qs).journal t }) q ≡ answer_to c (length j) listed (request q) t
  next q t =
      number_is (kept_after first qs) held.session (lent_to (kept_after first qs).journal t) same.0 q ∙
      ap (λ (o : List ℕ). (contract.call held.session (lent_to o t) (request q)).refusal) same.1 ∙
      ap (λ (r : Reply). r.refusal) (agrees.answers_next (record { request = request q; lent = t })) ∙
      ap (λ (l : Listed). answer_to c (length j) l (request q) t) listed-is

  stored : Agrees c b j qs
  stored =
      record {
        answered =
            numbers_are qs first (opening contract (table c) j) starts ∙ ap refusals agrees.answered ∙
            ap (λ (l : List Call). refusals (replies c (length j) (all_standing []) l)) (events-asked qs);
        answers_next = next;
        session = record_is;
        pictured = λ buffer room. (picture-fits buffer room, picture-written buffer room);
        within = holds.within;
        begins = ap (take (3 * length listed.kept)) same.1 ∙ holds.whole;
        size = ap length same.1 ∙ agrees.size;
        safe = safe c (standing listed) right legal;
      }

pub stored-sessions : StoredSessions
stored-sessions c b j e qs = stored c b j e qs
