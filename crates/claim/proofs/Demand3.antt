-- Demand 3 holds of the contracts.
-- Assumes nothing.
use Prim.Native.Nat.{ℕ, ◌*◌, ◌≤◌}
use mathlib.Core.Bool.{Bool, true, false}
use mathlib.Core.List.{List, [], ◌∷◌}
use mathlib.Core.Path.{◌≡◌, refl, sym, ap, ◌∙◌, subst, transport}
use native.Mathlib.Nat.{le_refl}
use native.Mathlib.Omega.{arith}
use lib.Dec.{eqb}
use lib.ListN.{length, drop}
use borrow.Author.Tests.{eqb-true, eqb-false, eq-eqb, ne_eqb}
use Rattle.state.specs.declared.Session.{Session}
use Rattle.reference.specs.Lists.{choose}
use Rattle.reference.specs.Start.{Config, config_cause}
use Rattle.reference.specs.Step.{run}
use Rattle.reference.specs.Cause.{accepted}
use Rattle.reference.specs.Script.{scripts_cause}
use Rattle.reference.specs.Session.{Opening, table, scripted, opened, Request, Lent, own, other, Call, bytes, Listed, standing, all_standing, answer_to, accept, after, left, replies, picture_size}
use Rattle.reference.proofs.Laws.{safe}
use Rattle.session.specs.Contract.{or_later, started}
use Rattle.session.proofs.Shown.{picture-long, fits, pictured}
use Rattle.session.proofs.Answers.{or_passed}
use Rattle.session.proofs.Holding.{Holds, Leaves, config-is, listed-is, standing-legal, holds_all}
use Rattle.turns.specs.Contract as turns
use Rattle.claim.specs.Implementation.{contract, calls}
use Rattle.claim.specs.Demand3.{Event, asks, writes, passes, asked, Held, lent_to, left_as, step, held_after, responses, BelongsLent, IsSession, opening, most, Demand3}
use Rattle.claim.proofs.Numbers.{number, reply-is}
use Rattle.claim.proofs.Leaves.{leaves}
use Rattle.claim.proofs.Refusals.{refusals}

-- ---- what holds after each event: `c` the start table, `first` the journal at first, `k` at least the most moves that are ever kept

module _ (c : Config) (ok : config_cause c ≡ 0) (first : List ℕ) (k : ℕ) where
  pub record Stands (l : Listed) (r : Session) (j : List ℕ) : Type 0 where
    pub holds : Holds c l r j
    pub rest : drop (3 * k) j ≡ drop (3 * k) first
    pub long : length j ≡ length first

  same_stands : {l : Listed} {r r' : Session} {j j' : List ℕ} → r' ≡ r → j' ≡ j → Stands l r j → Stands l r' j'
  same_stands {l} {r} {r'} {j} {j'} p q h = rw (p, q) h

  pub numbers : (l : Listed) (r : Session) (j : List ℕ) → Stands l r j → (q : Request) (t : Lent) → (calls r (lent_to j t) q).refusal ≡ answer_to c (length first) l q t
  numbers l r j h q t = number c ok l r j h.holds (length first) h.long t q

  -- an accepted call, lent the session's own journal
  accepted-own : (l : Listed) (r : Session) (j : List ℕ) → Stands l r j → (q : Request) → (calls r j q).refusal ≡ 0 →
      length (accept c l q own).kept ≤ k → Stands (accept c l q own) (calls r j q).session (calls r j q).journal
  accepted-own l r j h q e top =
      let w : Leaves c (accept c l q own) j (calls r j q).session (calls r j q).journal =
      transport
      (λ i.
      Leaves (config-is c ok l r j h.holds i) (accept (config-is c ok l r j h.holds i) (listed-is c ok l r j h.holds i) q own) j
      (calls r j q).session (calls r j q).journal)
      (leaves r j q e) in
      record { holds = w.0; rest = w.1.rest k top ∙ h.rest; long = w.1.size ∙ h.long }

  -- any call that is lent it
  pub step-own : (l : Listed) (r : Session) (j : List ℕ) → Stands l r j → (q : Request) (b : Bool) → eqb (answer_to c (length first) l q own) 0 ≡ b →
      (b ≡ true → length (accept c l q own).kept ≤ k) → Stands (choose b (accept c l q own) l) (calls r j q).session (calls r j q).journal
  step-own l r j h q true e top = accepted-own l r j h q (numbers l r j h q own ∙ eqb-true (answer_to c (length first) l q own) 0 e) (top refl)
  step-own l r j h q false e top =
      let kept = refusals.call r j q (eqb-false (calls r j q).refusal 0 (ap (λ (n : ℕ). eqb n 0) (numbers l r j h q own) ∙ e)) in
      same_stands kept.0 kept.1 h

  -- any call of a session
  step_call : (l : Listed) (r : Session) (j : List ℕ) → Stands l r j → (q : Request) (t : Lent) → BelongsLent contract (record { session = r; journal = j }) q t →
      length (choose (eqb (answer_to c (length first) l q t) 0) (accept c l q t) l).kept ≤ k →
      Stands (choose (eqb (answer_to c (length first) l q t) 0) (accept c l q t) l) (calls r (lent_to j t) q).session
      (left_as j t (calls r (lent_to j t) q).journal)
  step_call l r j h q own b top =
      step-own l r j h q (eqb (answer_to c (length first) l q own) 0) refl (λ z. subst (λ (t : Bool). length (choose t (accept c l q own) l).kept ≤ k) z top)
  step_call l r j h q (other o) b top =
      let no : eqb (calls r o q).refusal 0 ≡ false = ne_eqb (calls r o q).refusal 0 b in
      let no' : eqb (answer_to c (length first) l q (other o)) 0 ≡ false = ap (λ (n : ℕ). eqb n 0) (sym (numbers l r j h q (other o))) ∙ no in
      rw no' (same_stands (refusals.call r o q b).0 refl h)

  pub most-first : (l : Listed) (qs : List Call) → length l.kept ≤ most c (length first) l qs
  unfolding most
  most-first l [] = le_refl (length l.kept)
  most-first l (q ∷ qs) = omega arith

  -- a whole list of events
  unfoldable pub Reached : Listed → Held → List Event → Type 0
  Reached l h es =
      (responses contract h es ≡ replies c (length first) l (asked es)) ×
      Stands (left c (length first) l (asked es)) (held_after contract h es).session (held_after contract h es).journal

  reach : (es : List Event) (l : Listed) (h : Held) → Stands l h.session h.journal → IsSession contract h es →
      most c (length first) l (asked es) ≤ k → Reached l h es
  unfolding Reached responses replies asked left held_after IsSession most
  reach [] l h i b top = (refl, i)
  reach (asks q ∷ es) l h i b top =
      let small : length (after c (length first) l q).kept ≤ k = omega (arith, most-first (after c (length first) l q) (asked es)) in
      let i' = step_call l h.session h.journal i q.request q.lent b.0 small in
      let on = reach es (after c (length first) l q) (step contract h (asks q)) i' b.1 (omega arith) in
      (λ d. reply-is c ok l h.session h.journal i.holds (length first) i.long q.lent q.request d ∷ on.0 d, on.1)
  reach (writes s ∷ es) l h i b top =
      let i' = same_stands refl (refusals.write s h.journal b.0) i in reach es l (step contract h (writes s)) i' b.1 top
  reach (passes ∷ es) l h i b top = reach es l h i b.1 top

-- ---- what an accepted opening begins

module _ (o : Opening) (j : List ℕ) where
  number_is : (o : Opening) → (contract.begin o j).refusal ≡ (opened o).refusal
  unfolding started turns.scripted
  number_is (table c) = refl
  number_is (scripted c x) = refl

  pub first-right : (contract.begin o j).refusal ≡ 0 → config_cause (opened o).config ≡ 0
  first-right = by o
    where
      by : (o : Opening) → (contract.begin o j).refusal ≡ 0 → config_cause (opened o).config ≡ 0
      by (table c) e = sym (number_is (table c)) ∙ e
      by (scripted c x) e = (or_passed (config_cause c) (scripts_cause c.T x) (sym (number_is (scripted c x)) ∙ e)).0

  begun : (o : Opening) → (contract.begin o j).refusal ≡ 0 → Leaves (opened o).config (all_standing (opened o).listed) j (contract.begin o j).session (contract.begin o j).journal
  unfolding started turns.scripted run accepted bytes
  begun (table c) e = (holds_all c [] _ j (rw (eq-eqb (config_cause c) 0 e)) refl refl, record { size = refl; rest = λ m h. refl })
  begun (scripted c x) e =
      (holds_all c [] _ j (rw (eq-eqb (or_later (config_cause c) (scripts_cause c.T x)) 0 e)) refl refl, record { size = refl; rest = λ m h. refl })

  pub first_stands : (e : (contract.begin o j).refusal ≡ 0) (k : ℕ) → length (opened o).listed ≤ k →
      Stands (opened o).config (first-right e) j k (all_standing (opened o).listed) (opening contract o j).session (opening contract o j).journal
  first_stands e k top = let w = begun o e in record { holds = w.0; rest = w.1.rest k top; long = w.1.size }

  -- a session of any events from it
  module _ (e : (contract.begin o j).refusal ≡ 0) (es : List Event) (b : IsSession contract (opening contract o j) es) where
    abbrev pub table_of : Config
    table_of = (opened o).config

    abbrev pub at_first : Listed
    at_first = all_standing (opened o).listed

    abbrev pub top : ℕ
    top = most table_of (length j) at_first (asked es)

    pub reached : Reached table_of (first-right e) j top at_first (opening contract o j) es
    reached =
        reach table_of (first-right e) j top es at_first (opening contract o j)
        (first_stands e top (most-first table_of (first-right e) j top at_first (asked es))) b (le_refl top)

-- the claim, of the contracts
pub demand3 : Demand3 contract
unfolding Reached
demand3 =
    record {
      opens = λ o j. number_is o j o;
      sessions = λ o j e es b.
          let c : Config = (opened o).config in
          let ok = first-right o j e in
          let (responses, s) = reached o j e es b in
          let h : Held = held_after contract (opening contract o j) es in
          let l : Listed = left c (length j) (all_standing (opened o).listed) (asked es) in
          let legal = standing-legal c ok l h.session h.journal s.holds in
          record {
            answered = responses;
            answers_next = λ q. reply-is c ok l h.session h.journal s.holds (length j) s.long q.lent q.request;
            state = s.holds.shows;
            pictured = λ b m.
                let room : picture_size c ≤ length b = omega (arith, picture-long c (standing l) ok legal) in
                rw s.holds.shows (λ i. record { refusal = fits c (standing l) ok legal b room i; buffer = pictured c (standing l) ok legal b room i });
            within = s.holds.within;
            kept = s.holds.whole;
            size = s.long;
            untouched = s.rest;
            safe = safe c (standing l) ok legal;
          };
    }
