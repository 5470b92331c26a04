-- A turn is its move, and a class is the moves that it makes, of the contracts.
-- Assumes nothing.
use Prim.Native.Nat.{ℕ, ◌*◌, ◌≤◌}
use mathlib.Core.Bool.{Bool, true, false, not}
use mathlib.Core.List.{List, [], ◌∷◌, ◌++◌}
use mathlib.Core.Path.{◌≡◌, refl, sym, ap, ◌∙◌, subst}
use native.Mathlib.Nat.{le_refl}
use native.Mathlib.Omega.{arith}
use lib.Dec.{eqb}
use lib.ListN.{length, drop, length-append, take-append-drop}
use borrow.Author.Tests.{eq-eqb, ne_eqb, eqb-true, not-false}
use Rattle.state.specs.declared.Session.{Session}
use Rattle.state.specs.Association.{session_record}
use Rattle.reference.specs.Refusal.{refuse}
use Rattle.reference.specs.Lists.{choose}
use Rattle.reference.specs.Start.{Config, config_cause, start}
use Rattle.reference.specs.Step.{Move, run}
use Rattle.reference.specs.Safe.{Safe}
use Rattle.reference.specs.Script.{scripts_ok, scripts_cause, turned, turn_cause, class_moves}
use Rattle.reference.specs.Touch.{nothing, touch}
use Rattle.reference.specs.Session.{Opening, opened, Request, class, turn, own, Reply, bytes, Listed, standing, all_standing, joined, grown, short, lacks_room, answer_to, fills, left}
use Rattle.reference.proofs.Tests.{passed}
use Rattle.reference.proofs.Sums.{choose-by}
use Rattle.reference.proofs.Laws.{safe}
use Rattle.session.proofs.Holding.{Holds, take_all, standing-legal, standing-long}
use Rattle.turns.specs.Contract as contracts
use Rattle.claim.specs.Implementation.{contract, calls}
use Rattle.claim.specs.Demand3.{Event, asks, asked, Held, held_after, step, reply, IsSession, opening, held_at_end}
use Rattle.claim.specs.Class.{TurnMoves, turns, done, ClassIs, Classes}
use Rattle.claim.proofs.Grown.{class_grows, class_same}
use Rattle.claim.proofs.Numbers.{reply-is}
use Rattle.claim.proofs.Leaves.{turn_passed, turn-session, turn-writes}
use Rattle.claim.proofs.Demand3.{Stands, Reached, step-own, first-right, reached}
use Rattle.session.specs.Contract.{shown, moved}
use Rattle.touch.specs.Association.{touch_shown, touch_record}

-- ---- an accepted turn is its move

pub turn-moves : TurnMoves contract
unfolding contracts.turned moved
turn-moves r j x p e =
    let n = e ∙ sym (turn_passed r j x p e) in
    λ i.
    record {
      refusal = n i;
      session = turn-session r j x p e i;
      touch = touch_shown (touch_record (choose (eqb (n i) 0) (touch (shown r) (contracts.turn_made r j x p)) nothing));
      journal = turn-writes r j x p e i;
      buffers = [];
    }

-- ---- turn after turn

module _ (c : Config) (x : List ℕ) where
  -- what is held after a turn, and after turn after turn
  abbrev turn-held : Bool → Listed → ℕ → Listed
  turn-held b l p = choose b (joined l (turned c x (standing l) p)) l

  abbrev turn-takes : Listed → ℕ → Bool
  turn-takes l p = eqb (turn_cause c x (standing l) p) 0

  unfoldable turns-held : Listed → List ℕ → Listed
  turns-held l [] = l
  turns-held l (p ∷ ps) = turns-held (turn-held (turn-takes l p) l p) ps

  -- where all stand, they are those that the class gives
  all_held : (ps : List ℕ) (ms : List Move) → turns-held (all_standing ms) ps ≡ all_standing (class_moves c x ms ps)
  unfolding turns-held class_moves
  all_held [] ms = refl
  all_held (p ∷ ps) ms =
      ap (λ (ns : List Move). turns-held (choose (eqb (turn_cause c x ns p) 0) (all_standing (ns ++ turned c x ns p ∷ [])) (all_standing ms)) ps) (take_all ms) ∙
      by (eqb (turn_cause c x ms p) 0) (all_held ps)
    where
      by : (b : Bool) → ((ns : List Move) → turns-held (all_standing ns) ps ≡ all_standing (class_moves c x ns ps)) →
          turns-held (choose b (all_standing (ms ++ turned c x ms p ∷ [])) (all_standing ms)) ps ≡ all_standing (class_moves c x (choose b (ms ++ turned c x ms p ∷ []) ms) ps)
      by true on = on (ms ++ turned c x ms p ∷ [])
      by false on = on ms

  -- what a class gives of any list: as long as no turn is accepted nothing changes
  grown-held : (ps : List ℕ) (l : Listed) → length (standing l) ≡ l.n → turns-held l ps ≡ grown l (class_moves c x (standing l) ps)
  unfolding turns-held class_moves
  grown-held [] l e = sym (rw (eq-eqb (length (standing l)) l.n e))
  grown-held (p ∷ ps) l e = by (turn-takes l p) (grown-held ps l e)
    where
      ns : List Move
      ns = standing l ++ turned c x (standing l) p ∷ []

      by : (b : Bool) → turns-held l ps ≡ grown l (class_moves c x (standing l) ps) →
          turns-held (turn-held b l p) ps ≡ grown l (class_moves c x (choose b ns (standing l)) ps)
      by true on =
          all_held ps ns ∙
          sym (rw (ne_eqb (length (class_moves c x ns ps)) l.n (λ z. absurd (omega (arith, class_grows c x ps ns, length-append (standing l) (turned c x (standing l) p ∷ []))))))
      by false on = on

module _ (c : Config) (ok : config_cause c ≡ 0) (first : List ℕ) (k : ℕ) (x : List ℕ) (long : short (length first) ≡ false) (right : scripts_ok c.T x ≡ true) where
  turns_stand : (ps : List ℕ) (l : Listed) (h : Held) → Stands c ok first k l h.session h.journal → length (turns-held c x l ps).kept ≤ k →
      Stands c ok first k (turns-held c x l ps) (held_after contract h (turns x ps)).session (held_after contract h (turns x ps)).journal
  unfolding turns-held held_after turns
  turns_stand [] l h s top = s
  turns_stand (p ∷ ps) l h s top =
      let number : answer_to c (length first) l (turn x p) own ≡ turn_cause c x (standing l) p = rw (long, right) in
      let ns : List Move = standing l ++ turned c x (standing l) p ∷ [] in
      let small : turn-takes c x l p ≡ true → length ns ≤ k =
      λ z.
      let made : length (turns-held c x (all_standing ns) ps).kept ≤ k = subst (λ (b : Bool). length (turns-held c x (turn-held c x b l p) ps).kept ≤ k) z top in
      omega (arith, ap (λ (m : Listed). length m.kept) (all_held c x ps ns), class_grows c x ps ns) in
      turns_stand ps (turn-held c x (turn-takes c x l p) l p) (step contract h (asks (record { request = turn x p; lent = own })))
      (step-own c ok first k l h.session h.journal s (turn x p) (turn-takes c x l p) (ap (λ (n : ℕ). eqb n 0) number) small) top

-- where no more moves were ever kept than are kept now, the journal is these and what came after them at first
module _ (c : Config) (ok : config_cause c ≡ 0) (first : List ℕ) (l : Listed) (r : Session) (j : List ℕ) (s : Stands c ok first (length l.kept) l r j) where
  journal-is : j ≡ bytes l.kept ++ drop (3 * length l.kept) first
  journal-is = sym (take-append-drop (3 * length l.kept) j) ∙ (λ i. s.holds.whole i ++ s.rest i)

-- ---- classes

module _ (o : Opening) (j : List ℕ) (e : (contract.begin o j).refusal ≡ 0) (es : List Event) (b : IsSession contract (opening contract o j) es)
    (x ps answers pictures : List ℕ) (taken : (done contract o j es x ps answers pictures).refusal ≡ 0) where
  abbrev c : Config
  c = (opened o).config

  abbrev ok : config_cause c ≡ 0
  ok = first-right o j e

  abbrev h : Held
  h = held_at_end contract o j es

  abbrev l : Listed
  l = left c (length j) (all_standing (opened o).listed) (asked es)

  abbrev q : Request
  q = class x ps answers pictures

  abbrev made : List Move
  made = class_moves c x (standing l) ps

  -- what is held then, and how much of it
  abbrev end : Listed
  end = grown l made

  abbrev k : ℕ
  k = length end.kept

  holds : Holds c l h.session h.journal
  unfolding Reached
  holds = (reached o j e es b).1.holds

  said : reply (calls h.session h.journal q) ≡ record { refusal = answer_to c (length h.journal) l q own; touch = choose (eqb (answer_to c (length h.journal) l q own) 0) nothing nothing; buffers = choose (eqb (answer_to c (length h.journal) l q own) 0) (fills c l q own) (answers ∷ pictures ∷ []) }
  said = reply-is c ok l h.session h.journal holds (length h.journal) refl own q

  free : answer_to c (length h.journal) l q own ≡ 0
  free = sym (ap (λ (y : Reply). y.refusal) said) ∙ taken

  long : short (length h.journal) ≡ false
  long = (passed (short (length h.journal)) _ _ free).0

  scripted : scripts_ok c.T x ≡ true
  scripted =
      let none : scripts_cause c.T x ≡ 0 =
      (passed (lacks_room c (length ps) answers pictures) 9 (scripts_cause c.T x)
      (passed (short (length h.journal)) 9 (refuse (lacks_room c (length ps) answers pictures) 10 (scripts_cause c.T x)) free).1).1 in
      not-false (scripts_ok c.T x) (passed (not (scripts_ok c.T x)) 18 0 none).0

  -- both ways start here
  stands : Stands c ok h.journal k l h.session h.journal
  stands = record { holds = holds; rest = refl; long = refl }

  after : Stands c ok h.journal k end (calls h.session h.journal q).session (calls h.session h.journal q).journal
  after = step-own c ok h.journal k l h.session h.journal stands q true (eq-eqb _ 0 free) (λ z. le_refl k)

  same : turns-held c x l ps ≡ end
  same = grown-held c x ps l (standing-long c ok l h.session h.journal holds)

  one_by_one : Stands c ok h.journal k end (held_after contract h (turns x ps)).session (held_after contract h (turns x ps)).journal
  one_by_one =
      subst (λ (m : Listed). Stands c ok h.journal k m (held_after contract h (turns x ps)).session (held_after contract h (turns x ps)).journal) same
      (turns_stand c ok h.journal k x long scripted ps l h stands (omega (arith, ap (λ (m : Listed). length m.kept) same)))

  -- the moves that stand then are those made
  end_stands : standing end ≡ made
  end_stands =
      choose-by (λ (m : Listed). standing m ≡ made) (eqb (length made) l.n)
      (λ z. sym (class_same c x ps (standing l) (eqb-true (length made) l.n z ∙ sym (standing-long c ok l h.session h.journal holds))))
      (λ z. take_all made)

  class-is : ClassIs contract o j es x ps answers pictures
  class-is =
      record {
        state = after.holds.shows ∙ ap (λ (ms : List Move). session_record (run (start c) ms) c.B k) end_stands;
        buffers = ap (λ (y : Reply). y.buffers) said ∙ rw free;
        turn_by_turn =
            λ i.
            record {
              session = (after.holds.shows ∙ sym one_by_one.holds.shows) i;
              journal = (journal-is c ok h.journal end _ _ after ∙ sym (journal-is c ok h.journal end _ _ one_by_one)) i;
            };
        safe = subst (Safe c) end_stands (safe c (standing end) ok (standing-legal c ok end _ _ after.holds));
      }

pub classes : Classes contract
classes o j e es b x ps answers pictures taken = class-is o j e es b x ps answers pictures taken
