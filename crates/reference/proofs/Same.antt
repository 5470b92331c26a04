-- The tests for being the same say yes of a thing and itself, and of nothing else.
-- Assumes nothing.
use Prim.Native.Nat.{ℕ}
use mathlib.Core.Bool.{Bool, true, true≢false}
use mathlib.Core.List.{List, [], ◌∷◌}
use mathlib.Core.Path.{◌≡◌, refl, ap, ap₂, sym, ◌∙◌}
use lib.Dec.{eqb}
use lib.ListN.{get_or}
use borrow.Author.Tests.{eqb-true, eq-eqb}
use Rattle.reference.specs.Lists.{same_list}
use Rattle.reference.specs.State.{Life, new, live, terminated, Line, App, CI2, CI3, L1, L3, L4, L6, L7, L8, L9, L10, TL1, GT1, GT3, TL3, U1, H2, H3, H5, H6, H8, Y1, Y2, Y3, C2, row, line_of, same_line, same_token, same_processor, same_mutex, same_life, same_state}
use Rattle.reference.specs.Touch.{Word, none, count, token, queue, ready, birth, kind, number, same_word}
use Rattle.reference.proofs.Tests.{both, ◌and◌}

-- the line of a line's number
pub line-number : (l : Line) → line_of (row l).number ≡ l
unfolding line_of
line-number App = refl
line-number CI2 = refl
line-number CI3 = refl
line-number L1 = refl
line-number L3 = refl
line-number L4 = refl
line-number L6 = refl
line-number L7 = refl
line-number L8 = refl
line-number L9 = refl
line-number L10 = refl
line-number TL1 = refl
line-number GT1 = refl
line-number GT3 = refl
line-number TL3 = refl
line-number U1 = refl
line-number H2 = refl
line-number H3 = refl
line-number H5 = refl
line-number H6 = refl
line-number H8 = refl
line-number Y1 = refl
line-number Y2 = refl
line-number Y3 = refl
line-number C2 = refl

-- a test that says yes of a thing and itself, and of nothing else
pub record Exact {A : Type 0} (same : A → A → Bool) : Type 0 where
  pub itself : (a : A) → same a a ≡ true
  pub only : (a b : A) → same a b ≡ true → a ≡ b

eqb-self : (n : ℕ) → eqb n n ≡ true
eqb-self n = eq-eqb n n refl

same_number : Exact eqb
same_number = record { itself = eqb-self; only = eqb-true }

pub same_line_exact : Exact same_line
same_line_exact =
    record {
      itself = λ l. eqb-self (row l).number;
      only = λ l n e. sym (line-number l) ∙ ap line_of (eqb-true (row l).number (row n).number e) ∙ line-number n;
    }

pub same_token_exact : Exact same_token
same_token_exact =
    record {
      itself = λ t. simp eqb-self;
      only = λ t u e.
          let h = (eqb-true t.processor u.processor and eqb-true t.sequence u.sequence) e in
          (λ i. record { processor = h.0 i; sequence = h.1 i });
    }

same_list_exact : {A : Type 0} {same : A → A → Bool} → Exact same → Exact (same_list same)
unfolding same_list
same_list_exact {A} {same} x = record { itself = itself; only = only }
  where
    itself : (l : List A) → same_list same l l ≡ true
    itself [] = refl
    itself (a ∷ l) = both (x.itself a) (itself l)

    only : (l m : List A) → same_list same l m ≡ true → l ≡ m
    only [] [] e = refl
    only [] (b ∷ m) e = absurd (true≢false (sym e))
    only (a ∷ l) [] e = absurd (true≢false (sym e))
    only (a ∷ l) (b ∷ m) e = let h = (x.only a b and only l m) e in (λ i. h.0 i ∷ h.1 i)

same_processor_exact : Exact same_processor
same_processor_exact =
    record {
      itself = λ r. simp eqb-self;
      only = λ r q e.
          let h = (
          same_line_exact.only r.position q.position and eqb-true r.current q.current and eqb-true r.transit q.transit and eqb-true r.mutex q.mutex and
          same_token_exact.only r.observed q.observed and eqb-true r.sequence q.sequence and eqb-true r.answer q.answer and
          eqb-true r.probe q.probe
          ) e in
          (λ i. record { position = h.0.0.0.0.0.0.0 i; current = h.0.0.0.0.0.0.1 i; transit = h.0.0.0.0.0.1 i; mutex = h.0.0.0.0.1 i; observed = h.0.0.0.1 i; sequence = h.0.0.1 i; answer = h.0.1 i; probe = h.1 i });
    }

same_mutex_exact : Exact same_mutex
same_mutex_exact =
    record {
      itself = λ x. simp (eqb-self, (same_list_exact same_number).itself x.queue);
      only = λ x y e.
          let h = (
          eqb-true x.count y.count and (same_list_exact same_number).only x.queue y.queue and eqb-true x.owner y.owner and
          same_token_exact.only x.token y.token
          ) e in
          (λ i. record { count = h.0.0.0 i; queue = h.0.0.1 i; owner = h.0.1 i; token = h.1 i });
    }

pub same_life_exact : Exact same_life
same_life_exact = record { itself = itself; only = only }
  where
    itself : (l : Life) → same_life l l ≡ true
    itself new = refl
    itself live = refl
    itself terminated = refl

    only : (l m : Life) → same_life l m ≡ true → l ≡ m
    only new new e = refl
    only new live e = absurd (true≢false (sym e))
    only new terminated e = absurd (true≢false (sym e))
    only live new e = absurd (true≢false (sym e))
    only live live e = refl
    only live terminated e = absurd (true≢false (sym e))
    only terminated new e = absurd (true≢false (sym e))
    only terminated live e = absurd (true≢false (sym e))
    only terminated terminated e = refl

pub same_state_exact : Exact same_state
unfolding same_state
same_state_exact =
    record {
      itself = λ s.
          simp (
            eqb-self,
            (same_list_exact (same_list_exact same_number)).itself s.ready,
            (same_list_exact same_processor_exact).itself s.processors,
            (same_list_exact same_mutex_exact).itself s.mutexes,
            (same_list_exact same_life_exact).itself s.lives,
          );
      only = λ s e y.
          let h = (
          eqb-true s.P e.P and eqb-true s.T e.T and eqb-true s.M e.M and (same_list_exact (same_list_exact same_number)).only s.ready e.ready and
          (same_list_exact same_processor_exact).only s.processors e.processors and (same_list_exact same_mutex_exact).only s.mutexes e.mutexes and
          (same_list_exact same_life_exact).only s.lives e.lives and eqb-true s.applied e.applied and
          eqb-true s.stealing e.stealing
          ) y in
          (λ i. record { P = h.0.0.0.0.0.0.0.0 i; T = h.0.0.0.0.0.0.0.1 i; M = h.0.0.0.0.0.0.1 i; ready = h.0.0.0.0.0.1 i; processors = h.0.0.0.0.1 i; mutexes = h.0.0.0.1 i; lives = h.0.0.1 i; applied = h.0.1 i; stealing = h.1 i });
    }

-- the word of a kind and a number
abbrev word_of : ℕ → ℕ → Word
word_of k n = get_or (none ∷ count n ∷ token n ∷ queue n ∷ ready n ∷ birth n ∷ []) k none

word_number : (w : Word) → word_of (kind w) (number w) ≡ w
word_number none = refl
word_number (count m) = refl
word_number (token m) = refl
word_number (queue m) = refl
word_number (ready q) = refl
word_number (birth k) = refl

pub same_word_exact : Exact same_word
same_word_exact =
    record {
      itself = λ w. both (eqb-self (kind w)) (eqb-self (number w));
      only = λ w x e. let h = (eqb-true (kind w) (kind x) and eqb-true (number w) (number x)) e in sym (word_number w) ∙ ap₂ word_of h.0 h.1 ∙ word_number x;
    }
