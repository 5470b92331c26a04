-- Neighbours exchanged in a list of moves, once and any number of times.
-- Assumes nothing.
use Prim.Native.Nat.{ℕ, zero, suc, ◌-◌, ◌≤◌, ◌<◌}
use mathlib.Core.Bool.{true}
use mathlib.Core.List.{List, [], ◌∷◌, ◌++◌}
use mathlib.Core.Path.{◌≡◌, refl, ap, sym, subst, ◌∙◌}
use native.Mathlib.Omega.{arith}
use lib.ListN.{length, get_or, set, take, drop}
use Rattle.reference.specs.State.{State}
use Rattle.reference.specs.Start.{Config, config_cause, start}
use Rattle.reference.specs.Step.{Move, move_of, next, run}
use Rattle.reference.specs.Cause.{accepted}
use Rattle.reference.specs.Safe.{end}
use Rattle.reference.specs.Picture.{picture}
use Rattle.reference.proofs.Tests.{both_left, both_right, range_true}
use Rattle.reference.proofs.Legal.{accepted_cons}
use Rattle.reference.proofs.Moves.{run_append, accepted_more, accepted_append, accepted-split}
use Rattle.independence.specs.Exchange.{independent, move_at, neighbours, may_exchange, exchange, rearranged, may_rearrange, SameEnd, Rearranges}
use Rattle.independence.proofs.Exchange.{exchanges}

-- a list by what stands before two neighbours, the two, and what stands after them
pub cut : (d : Move) (n : ℕ) (ms : List Move) → suc n < length ms → ms ≡ take n ms ++ get_or ms n d ∷ get_or ms (suc n) d ∷ drop (suc (suc n)) ms
cut d n [] h = absurd (omega arith)
cut d n (x ∷ []) h = absurd (omega arith)
cut d zero (x ∷ y ∷ ms) h = refl
cut d (suc n) (x ∷ y ∷ ms) h = ap (λ (l : List Move). x ∷ l) (cut d n (y ∷ ms) (omega arith))

stored : (a b : Move) (n : ℕ) (ms : List Move) → suc n < length ms → set (set ms n b) (suc n) a ≡ take n ms ++ b ∷ a ∷ drop (suc (suc n)) ms
stored a b n [] h = absurd (omega arith)
stored a b n (x ∷ []) h = absurd (omega arith)
stored a b zero (x ∷ y ∷ ms) h = refl
stored a b (suc n) (x ∷ y ∷ ms) h = ap (λ (l : List Move). x ∷ l) (stored a b n (y ∷ ms) (omega arith))

module _ (c : Config) (right : config_cause c ≡ 0) where
  -- two that stand next to each other, ms before them and rest behind
  between : (ms : List Move) (a b : Move) (rest : List Move) → accepted (start c) (ms ++ a ∷ b ∷ rest) ≡ true → independent (end c ms) a b ≡ true →
      SameEnd c (ms ++ a ∷ b ∷ rest) (ms ++ b ∷ a ∷ rest)
  unfolding run
  between ms a b rest ok h =
      let s : State = end c ms in
      let x = accepted-split ms (a ∷ b ∷ rest) (start c) ok in
      let y = accepted_cons s a (b ∷ rest) x.1 in
      let z = accepted_cons (next s a) b rest y.1 in
      let e = exchanges c ms right x.0 a b y.0 z.0 h in
      let after : accepted (next (next s b) a) rest ≡ true = ap (λ (t : State). accepted t rest) e.same_state ∙ z.1 in
      let same : end c (ms ++ b ∷ a ∷ rest) ≡ end c (ms ++ a ∷ b ∷ rest) =
      run_append ms (b ∷ a ∷ rest) (start c) ∙ ap (λ (t : State). run t rest) e.same_state ∙ sym (run_append ms (a ∷ b ∷ rest) (start c)) in
      record {
        all_accepted = accepted_append ms (b ∷ a ∷ rest) (start c) x.0 (accepted_more s b (a ∷ rest) e.b_first (accepted_more (next s b) a rest e.a_second after));
        state = same;
        shown = ap picture same;
      }

  -- the k-th and the next
  at_place : (ms : List Move) (k : ℕ) → accepted (start c) ms ≡ true → may_exchange c ms k ≡ true → SameEnd c ms (exchange ms k)
  unfolding may_exchange exchange
  at_place ms k ok h = by k (range_true 1 (length ms - 1) k (both_left (neighbours ms k) _ h)) (both_right (neighbours ms k) _ h)
    where
      by : (k : ℕ) → (1 ≤ k) × (k ≤ length ms - 1) → independent (end c (take (k - 1) ms)) (move_at ms k) (move_at ms (suc k)) ≡ true → SameEnd c ms (exchange ms k)
      by zero r i = absurd (omega arith)
      by (suc n) r i =
          let a : Move = move_at ms (suc n) in
          let b : Move = move_at ms (suc (suc n)) in
          let e : ms ≡ take n ms ++ a ∷ b ∷ drop (suc (suc n)) ms = cut (move_of 0 0 0) n ms (omega arith) in
          let before : suc n - 1 ≡ n = omega arith in
          subst (λ (l : List Move). SameEnd c l (exchange ms (suc n))) (sym e)
          (subst (SameEnd c (take n ms ++ a ∷ b ∷ drop (suc (suc n)) ms)) (sym (stored a b n ms (omega arith)))
          (between (take n ms) a b (drop (suc (suc n)) ms) (subst (λ (l : List Move). accepted (start c) l ≡ true) e ok)
          (subst (λ (m : ℕ). independent (end c (take m ms)) a b ≡ true) before i)))

  at_places : (ks : List ℕ) (ms : List Move) → accepted (start c) ms ≡ true → may_rearrange c ms ks ≡ true → SameEnd c ms (rearranged ms ks)
  unfolding rearranged may_rearrange
  at_places [] ms ok h = record { all_accepted = ok; state = refl; shown = refl }
  at_places (k ∷ ks) ms ok h =
      let x = at_place ms k ok (both_left (may_exchange c ms k) _ h) in
      let y = at_places ks (exchange ms k) x.all_accepted (both_right (may_exchange c ms k) _ h) in
      record { all_accepted = y.all_accepted; state = y.state ∙ x.state; shown = y.shown ∙ x.shown }

pub rearranges : Rearranges
rearranges c ms right ok ks h = at_places c right ks ms ok h
