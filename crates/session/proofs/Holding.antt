-- A record and a journal that have come from the reference session; what an accepted move or going leaves.
-- Assumes nothing.
use Prim.Native.Nat.{ℕ, suc, ◌+◌, ◌*◌, ◌≤◌}
use mathlib.Core.Bool.{true, not}
use mathlib.Core.List.{List, [], ◌∷◌, ◌++◌}
use mathlib.Core.Path.{◌≡◌, refl, sym, ap, ◌∙◌}
use native.Mathlib.Omega.{arith}
use lib.ListN.{length, take, drop, length-append, length-take}
use lib.Dec.{ltb}
use borrow.Author.Tests.{eq-eqb, ltb-false, not-false}
use Rattle.state.specs.declared.Session.{Session}
use Rattle.state.specs.Association.{encode, decode, session_record}
use Rattle.reference.specs.State.{State}
use Rattle.reference.specs.Start.{Config, config_cause, start}
use Rattle.reference.specs.Step.{Move, next, run}
use Rattle.reference.specs.Cause.{cause, accepted}
use Rattle.reference.specs.Session.{bytes, moves, replays, Listed, standing as standing-of, all_standing, state_of, state_in}
use Rattle.reference.proofs.Tests.{both_left, both_right, passed}
use Rattle.reference.proofs.Same.{same_state_exact}
use Rattle.reference.proofs.Legal.{legal}
use Rattle.reference.proofs.Laws.{sized, applied-is}
use Rattle.reference.proofs.Moves.{run_snoc, accepted_snoc, accepted-take}
use Rattle.session.specs.Contract.{shown, config_of, lent_refusal, standing, matches, test_refusal, written_at, move_refusal, moved, journal_after, goto_refusal, went}
use Rattle.session.specs.Held.{listed_in}
use Rattle.session.proofs.Answers.{or_passed, lent_passed, test_passed}
use Rattle.session.proofs.Found.{config-right, kept_range}
use Rattle.session.proofs.Replayed.{length-moves}
use Rattle.session.proofs.Standing.{bytes-moves, moves_front, moves-take, accepted-within, bytes_snoc, written-length, written-front, written_rest}
use Rattle.session.proofs.Shown.{state-back}

-- the record and the journal of a start table and what the reference session holds
pub record Holds (c : Config) (l : Listed) (r : Session) (j : List ℕ) : Type 0 where
  pub shows : r ≡ session_record (state_in c l) c.B (length l.kept)
  pub within : l.n ≤ length l.kept
  pub legal : accepted (start c) l.kept ≡ true
  pub whole : take (3 * length l.kept) j ≡ bytes l.kept

-- what changes in a journal: nothing from 3k on, where k moves are kept
pub record Changed (k : ℕ) (j j' : List ℕ) : Type 0 where
  pub size : length j' ≡ length j
  pub rest : (m : ℕ) → k ≤ m → drop (3 * m) j' ≡ drop (3 * m) j

-- what a record and a journal are to the reference session, where the journal was `j` before
abbrev pub Leaves : Config → Listed → List ℕ → Session → List ℕ → Type 0
Leaves c l j r j' = Holds c l r j' × Changed (length l.kept) j j'

-- all of a list are its first
pub take_all : (ms : List Move) → take (length ms) ms ≡ ms
take_all [] = refl
take_all (a ∷ ms) = ap (λ (l : List Move). a ∷ l) (take_all ms)

-- where all that is kept stands
pub holds_all : (c : Config) (ms : List Move) (r : Session) (j : List ℕ) → r ≡ session_record (state_of c ms) c.B (length ms) → accepted (start c) ms ≡ true →
    take (3 * length ms) j ≡ bytes ms → Holds c (all_standing ms) r j
holds_all c ms r j shows legal whole =
    record {
      shows = shows ∙ ap (λ (l : List Move). session_record (state_of c l) c.B (length ms)) (sym (take_all ms));
      within = omega arith;
      legal = legal;
      whole = whole;
    }

-- the record is the one that the journal's standing moves give, and its kept ones are accepted
pub record Agree (r : Session) (j : List ℕ) : Type 0 where
  pub size : 12000 ≤ length j
  pub config : config_cause (config_of r) ≡ 0
  pub within : (shown r).applied ≤ r.kept
  pub top : r.kept ≤ 4000
  pub kept : accepted (start (config_of r)) (moves r.kept j) ≡ true
  pub legal : accepted (start (config_of r)) (standing r j) ≡ true
  pub state : shown r ≡ run (start (config_of r)) (standing r j)

-- whoever wrote them: what the test finds
module _ (r : Session) (j : List ℕ) where
  pub agrees : lent_refusal r (length j) ≡ 0 → matches r j ≡ true → Agree r j
  unfolding matches replays decode
  agrees free e =
      let h = lent_passed r (length j) free in
      let range = kept_range r h.1 in
      let all = both_left (accepted (start (config_of r)) (moves r.kept j)) _ e in
      record {
        size = h.0;
        config = config-right r h.1;
        within = range.0;
        top = range.1;
        kept = all;
        legal = accepted-within r.state.applied r.kept j (start (config_of r)) range.0 all;
        state = sym (same_state_exact.only _ _ (both_right (accepted (start (config_of r)) (moves r.kept j)) _ e));
      }

  pub test_agrees : test_refusal r j ≡ 0 → Agree r j
  test_agrees e = let t = test_passed r j e in agrees t.0 t.1

  pub move-agrees : (a : Move) → move_refusal r j a ≡ 0 → Agree r j
  unfolding move_refusal
  move-agrees a e = test_agrees (or_passed (test_refusal r j) _ e).0

  -- going passes the test too, and the step is kept
  pub goto_passed : (k : ℕ) → goto_refusal r j k ≡ 0 → (lent_refusal r (length j) ≡ 0) × (k ≤ r.kept) × (matches r j ≡ true)
  unfolding goto_refusal
  goto_passed k e =
      let first = or_passed (lent_refusal r (length j)) _ e in
      let there = passed (ltb r.kept k) _ _ first.1 in
      (first.0, ltb-false r.kept k there.0, not-false _ (passed (not (matches r j)) _ _ there.1).0)

  pub goto-agrees : (k : ℕ) → goto_refusal r j k ≡ 0 → Agree r j
  goto-agrees k e = let p = goto_passed k e in agrees p.0 p.2

module _ (r : Session) (j : List ℕ) (t : Agree r j) where
  abbrev c : Config
  c = config_of r

  abbrev ms : List Move
  ms = standing r j

  counts : length ms ≡ (shown r).applied
  counts = length-moves (shown r).applied j

  pub whole_is : take (3 * length ms) j ≡ bytes ms
  whole_is = ap (λ (k : ℕ). take (3 * k) j) counts ∙ bytes-moves (shown r).applied j (omega (arith, t.within, t.top, t.size))

  -- what the journal lists: its standing moves are the record's
  pub listed-standing : standing-of (listed_in r j) ≡ ms
  listed-standing = moves-take (shown r).applied r.kept j t.within

  pub move_leaves : (a : Move) → move_refusal r j a ≡ 0 → Leaves c (all_standing (ms ++ a ∷ [])) j (moved r j a).session (journal_after r j a)
  unfolding move_refusal moved journal_after
  move_leaves a e =
      let n : ℕ = (shown r).applied in
      let free : cause (shown r) a ≡ 0 = (or_passed (cause (shown r) a) _ (or_passed (test_refusal r j) _ e).1).0 in
      let inside : 3 * n + 3 ≤ length j = omega (arith, (legal (shown r) a free).room, t.size) in
      let long : length (ms ++ a ∷ []) ≡ suc n = omega (arith, length-append ms (a ∷ []), counts) in
      let wrote : journal_after r j a ≡ written_at n a j = rw (eq-eqb (move_refusal r j a) 0 e) in
      let gave : (moved r j a).session ≡ session_record (next (shown r) a) c.B (suc n) = rw (eq-eqb (move_refusal r j a) 0 e) in
      let on : next (shown r) a ≡ state_of c (ms ++ a ∷ []) = ap (λ (s : State). next s a) t.state ∙ sym (run_snoc ms (start c) a) in (
        holds_all c (ms ++ a ∷ []) (moved r j a).session (journal_after r j a)
            (gave ∙ (λ i. session_record (on i) c.B (sym long i)))
            (accepted_snoc ms (start c) a t.legal (ap (λ (s : State). cause s a) (sym t.state) ∙ free))
            (ap (take (3 * length (ms ++ a ∷ []))) wrote ∙
            written-front j n a inside (3 * length (ms ++ a ∷ [])) (omega arith) ∙
            ap (λ (b : List ℕ). b ++ bytes (a ∷ [])) (ap (λ (k : ℕ). take (3 * k) j) (sym counts) ∙ whole_is) ∙ sym (bytes_snoc ms a)),
        record {
          size = ap length wrote ∙ written-length j n a inside;
          rest = λ m h. ap (drop (3 * m)) wrote ∙ written_rest j n a inside (3 * m) (omega arith);
        },
      )

  -- any of the first kept moves may stand
  pub listed_holds : (k : ℕ) → k ≤ r.kept → (x : Session) → x ≡ session_record (run (start c) (moves k j)) r.initial r.kept →
      Leaves c (record { kept = moves r.kept j; n = k }) j x j
  listed_holds k h x is =
      let long : length (moves r.kept j) ≡ r.kept = length-moves r.kept j in (
        record {
          shows = is ∙ (λ i. session_record (state_of c (sym (moves-take k r.kept j h) i)) c.B (sym long i));
          within = omega arith;
          legal = t.kept;
          whole = ap (λ (n : ℕ). take (3 * n) j) long ∙ bytes-moves r.kept j (omega (arith, t.top, t.size));
        },
        record { size = refl; rest = λ m h. refl },
      )

  pub goto_leaves : (k : ℕ) → goto_refusal r j k ≡ 0 → Leaves c (record { kept = moves r.kept j; n = k }) j (went r j k).session j
  unfolding went
  goto_leaves k e = listed_holds k (goto_passed r j k e).1 (went r j k).session (rw (eq-eqb (goto_refusal r j k) 0 e))

-- ---- what holds of a record and a journal that have come from the reference session

module _ (c : Config) (right : config_cause c ≡ 0) (l : Listed) (r : Session) (j : List ℕ) (h : Holds c l r j) where
  pub standing-legal : accepted (start c) (standing-of l) ≡ true
  standing-legal = accepted-take l.n l.kept (start c) h.legal

  pub standing-long : length (standing-of l) ≡ l.n
  standing-long = omega (arith, length-take l.n l.kept, h.within)

  pub shown-is : shown r ≡ state_in c l
  shown-is = ap shown h.shows ∙ state-back c (standing-of l) right standing-legal

  pub config-is : config_of r ≡ c
  unfolding encode
  config-is = ap config_of h.shows ∙ (let z = sized c (standing-of l) in λ i. record { P = z.0 i; T = z.1 i; M = z.2 i; B = c.B; stealing = z.3 i })

  pub applied-held : (shown r).applied ≡ l.n
  applied-held = ap (λ (s : State). s.applied) shown-is ∙ applied-is c (standing-of l) ∙ standing-long

  pub kept-held : r.kept ≡ length l.kept
  kept-held = ap (λ (x : Session). x.kept) h.shows

  kept-front : moves (length l.kept) j ≡ l.kept
  kept-front = moves_front l.kept j h.whole

  pub standing-is : standing r j ≡ standing-of l
  standing-is = ap (λ (k : ℕ). moves k j) applied-held ∙ sym (moves-take l.n (length l.kept) j h.within) ∙ ap (take l.n) kept-front

  pub listed-is : listed_in r j ≡ l
  listed-is = let front : moves r.kept j ≡ l.kept = ap (λ (k : ℕ). moves k j) kept-held ∙ kept-front in λ i. record { kept = front i; n = applied-held i }
