-- A record and a journal that have come from the reference session: each call is answered as there, whatever is asked and lent.
-- Assumes nothing.
use Prim.Native.Nat.{ℕ}
use mathlib.Core.Bool.{Bool, true, false, not}
use mathlib.Core.List.{List, [], ◌∷◌}
use mathlib.Core.Path.{◌≡◌, refl, ap, ◌∙◌}
use lib.Dec.{eqb, ltb}
use lib.ListN.{length}
use Rattle.state.specs.declared.Session.{Session}
use Rattle.reference.specs.Refusal.{refuse}
use Rattle.reference.specs.Lists.{choose, with_front}
use Rattle.reference.specs.Start.{Config, config_cause, start}
use Rattle.reference.specs.Step.{Move}
use Rattle.reference.specs.Cause.{cause}
use Rattle.reference.specs.Script.{scripts_ok, scripts_cause, progress, turn_move, class_answers, class_pictures}
use Rattle.reference.specs.Touch.{nothing, touch}
use Rattle.touch.proofs.Agrees.{touch-back}
use Rattle.reference.specs.Session.{Lent, own, other, Request, move, turn, class, goto, moves, short, Listed, state_in, lent_length, buffers_of, lacks_room, mismatched, standing_in, turn_with, fills, touches, answer_to, reply_to}
use Rattle.session.specs.Contract.{lent_refusal, or_later, move_refusal, moved, standing, matches, went}
use Rattle.session.proofs.Holding as holding
use Rattle.session.proofs.Holding.{Holds, shown-is, config-is, applied-held}
use Rattle.session.proofs.Numbers.{or_refuse, lent-number, replayed_is, own-replays, test_number, move-number, goto-number}
use Rattle.turns.specs.Contract.{turn_made, turn_refusal, turned, class_refusal, classed, answers_after, pictures_after}
use Rattle.claim.specs.Implementation.{calls}
use Rattle.claim.specs.Demand3.{lent_to, reply}

-- both branches alike, and a branch for each of two members
same_choice : {A : Type 0} (b : Bool) (a : A) → a ≡ choose b a a
same_choice true a = refl
same_choice false a = refl

two_choices : (b : Bool) (u v s t : List ℕ) → choose b u s ∷ choose b v t ∷ [] ≡ choose b (u ∷ v ∷ []) (s ∷ t ∷ [])
two_choices true u v s t = refl
two_choices false u v s t = refl

-- 10 and 16 that were tried before are not tried again
again : (b d u : Bool) (n : ℕ) → refuse b 10 (refuse d 16 (refuse u 19 (refuse b 10 (refuse d 16 n)))) ≡ refuse b 10 (refuse d 16 (refuse u 19 n))
again true d u n = refl
again false true u n = refl
again false false u n = refl

module _ (c : Config) (right : config_cause c ≡ 0) (l : Listed) (r : Session) (j : List ℕ) (h : Holds c l r j) (size : ℕ) (long : length j ≡ size) (t : Lent) where
  abbrev lent : List ℕ
  lent = lent_to j t

  short-is : (t : Lent) → short (length (lent_to j t)) ≡ short (lent_length size t)
  short-is own = ap short long
  short-is (other o) = refl

  standing-lent : (t : Lent) → standing r (lent_to j t) ≡ standing_in l t
  standing-lent own = holding.standing-is c right l r j h
  standing-lent (other o) = ap (λ (k : ℕ). moves k o) (applied-held c right l r j h)

  pub standing-is : standing r lent ≡ standing_in l t
  standing-is = standing-lent t

  mismatched-is : (t : Lent) → not (matches r (lent_to j t)) ≡ mismatched c l t
  mismatched-is own = ap not (own-replays c right l r j h)
  mismatched-is (other o) = ap not (replayed_is c right l r j h o)

  -- the first of the scripts' causes
  scripts-is : (x : List ℕ) → scripts_cause r.state.t x ≡ scripts_cause c.T x
  scripts-is x = ap (λ (d : Config). scripts_cause d.T x) (config-is c right l r j h)

  -- the move of a turn
  pub made-is : (x : List ℕ) (p : ℕ) → turn_made r lent x p ≡ turn_with c l t x p
  made-is x p = λ i. turn_move (shown-is c right l r j h i) (progress (start (config-is c right l r j h i)) (standing-is i)) x p

  -- behind 10, which is the only first cause
  behind : (n m : ℕ) → n ≡ m → or_later (lent_refusal r (length lent)) n ≡ refuse (short (lent_length size t)) 10 m
  behind n m e = lent-number c right l r j h (length lent) n ∙ (λ i. refuse (short-is t i) 10 (e i))

  turn-number : (x : List ℕ) (p : ℕ) → turn_refusal r lent x p ≡ answer_to c size l (turn x p) t
  unfolding turn_refusal
  turn-number x p =
      let a : Move = turn_made r lent x p in
      let u : Bool = not (scripts_ok c.T x) in
      let behind_test : or_later (scripts_cause r.state.t x) (move_refusal r lent a) ≡
      refuse u 19 (refuse (short (lent_length size t)) 10 (refuse (mismatched c l t) 16 (cause (state_in c l) (turn_with c l t x p)))) =
      ap (λ (n : ℕ). or_later n (move_refusal r lent a)) (scripts-is x) ∙ or_refuse u 18 (move_refusal r lent a) ∙
      ap (refuse u 19) (move-number c right l r j h lent a ∙ (λ i. refuse (short-is t i) 10 (refuse (mismatched-is t i) 16 (cause (state_in c l) (made-is x p i))))) in
      test_number c right l r j h lent _ ∙ (λ i. refuse (short-is t i) 10 (refuse (mismatched-is t i) 16 (behind_test i))) ∙
      again (short (lent_length size t)) (mismatched c l t) u (cause (state_in c l) (turn_with c l t x p))

  class_number : (x ps a b : List ℕ) → class_refusal r lent x ps a b ≡ answer_to c size l (class x ps a b) t
  unfolding class_refusal
  class_number x ps a b =
      behind _ _ (λ i. refuse (lacks_room (config-is c right l r j h i) (length ps) a b) 10 (refuse (mismatched-is t i) 16 (scripts-is x i)))

  -- the number, whatever is asked and lent
  pub number : (q : Request) → (calls r lent q).refusal ≡ answer_to c size l q t
  unfolding moved turned classed went
  number (move a) = move-number c right l r j h lent a ∙ (λ i. refuse (short-is t i) 10 (refuse (mismatched-is t i) 16 (cause (state_in c l) a)))
  number (turn x p) = turn-number x p
  number (class x ps a b) = class_number x ps a b
  number (goto k) =
      goto-number c right l r j h lent k ∙ (λ i. refuse (short-is t i) 10 (refuse (ltb (length l.kept) k) 9 (refuse (mismatched-is t i) 16 0)))

  -- the words that it touched
  touch_is : (q : Request) → (calls r lent q).touch ≡ choose (eqb (answer_to c size l q t) 0) (touches c l q t) nothing
  unfolding moved turned
  touch_is (move a) = touch-back _ ∙ (λ i. choose (eqb (number (move a) i) 0) (touch (shown-is c right l r j h i) a) nothing)
  touch_is (turn x p) = touch-back _ ∙ (λ i. choose (eqb (number (turn x p) i) 0) (touch (shown-is c right l r j h i) (made-is x p i)) nothing)
  touch_is (class x ps a b) = same_choice (eqb (answer_to c size l (class x ps a b) t) 0) nothing
  touch_is (goto k) = same_choice (eqb (answer_to c size l (goto k) t) 0) nothing

  -- and the further buffers
  buffers_are : (q : Request) → (calls r lent q).buffers ≡ choose (eqb (answer_to c size l q t) 0) (fills c l q t) (buffers_of q)
  unfolding answers_after pictures_after classed
  buffers_are (move a) = same_choice {A = List (List ℕ)} (eqb (answer_to c size l (move a) t) 0) []
  buffers_are (turn x p) = same_choice {A = List (List ℕ)} (eqb (answer_to c size l (turn x p) t) 0) []
  buffers_are (goto k) = same_choice {A = List (List ℕ)} (eqb (answer_to c size l (goto k) t) 0) []
  buffers_are (class x ps a b) =
      let q : Request = class x ps a b in
      let n = number q in
      (λ i.
      choose (eqb (n i) 0) (with_front a (class_answers (config-is c right l r j h i) x (standing-is i) ps)) a ∷
      choose (eqb (n i) 0) (with_front b (class_pictures (config-is c right l r j h i) x (standing-is i) ps)) b ∷ []) ∙
      two_choices (eqb (answer_to c size l q t) 0) (with_front a (class_answers c x (standing_in l t) ps)) (with_front b (class_pictures c x (standing_in l t) ps)) a b

  pub reply-is : (q : Request) → reply (calls r lent q) ≡ reply_to c size l q t
  reply-is q = λ i. record { refusal = number q i; touch = touch_is q i; buffers = buffers_are q i }
