-- The test of two moves' words, and what stays the same of a word.
-- Assumes nothing.
use mathlib.Core.Bool.{Bool, true, false, ◌&&◌, ◌||◌, not, true≢false}
use mathlib.Core.Logic.{◌≢◌}
use mathlib.Core.Path.{◌≡◌, refl, ap, sym, ◌∙◌}
use native.Mathlib.Omega.{arith}
use borrow.Author.Tests.{not-true}
use Rattle.reference.specs.State.{State}
use Rattle.reference.specs.Step.{Move, next}
use Rattle.reference.specs.Touch.{Word, none, count, token, queue, ready, birth, Touch, touch, kind, same_word, touches_word, apart}
use Rattle.reference.specs.Frame.{Same, Framed}
use Rattle.reference.proofs.Tests.{both_left}
use Rattle.reference.proofs.Same.{same_word_exact}

-- ---- words

equal_words : (w x : Word) → w ≡ x → same_word w x ≡ true
equal_words w x e = ap (same_word w) (sym e) ∙ same_word_exact.itself w

pub decide_word : (w x : Word) → Dec (w ≡ x)
decide_word w x = go (same_word w x) refl
  where
    go : (b : Bool) → same_word w x ≡ b → Dec (w ≡ x)
    go true e = yes (same_word_exact.only w x e)
    go false e = no (λ z. true≢false (sym (equal_words w x z) ∙ e))

-- ---- two touches

-- a word that is not touched is neither read nor written
untouched : (t : Touch) (w : Word) → touches_word t w ≡ false → w ≢ none → (t.reads ≢ w) × (t.writes ≢ w)
untouched t w e n = go (same_word w none) (same_word t.reads w) (same_word t.writes w) refl refl refl e
  where
    go : (a b c : Bool) → same_word w none ≡ a → same_word t.reads w ≡ b → same_word t.writes w ≡ c → not a && (b || c) ≡ false → (t.reads ≢ w) × (t.writes ≢ w)
    go true b c x y z h = absurd (n (same_word_exact.only w none x))
    go false true c x y z h = absurd (true≢false h)
    go false false true x y z h = absurd (true≢false h)
    go false false false x y z h = (λ i. true≢false (sym (equal_words t.reads w i) ∙ y), λ i. true≢false (sym (equal_words t.writes w i) ∙ z))

pub apart-first : (t u : Touch) → apart t u ≡ true → (w : Word) → w ≢ none → t.writes ≡ w → (u.reads ≢ w) × (u.writes ≢ w)
unfolding apart
apart-first t u h w n e =
    let z = untouched u t.writes (not-true _ (both_left (not (touches_word u t.writes)) _ h)) (λ i. n (sym e ∙ i)) in
    (λ i. z.0 (i ∙ sym e), λ i. z.1 (i ∙ sym e))

pub apart_swap : (t u : Touch) → apart t u ≡ true → apart u t ≡ true
unfolding apart
apart_swap t u h = go (not (touches_word u t.writes)) (not (touches_word t u.writes)) h
  where
    go : (a b : Bool) → a && b ≡ true → b && a ≡ true
    go true true e = refl
    go true false e = absurd (true≢false (sym e))
    go false b e = absurd (true≢false (sym e))

-- ---- a word in several states

pub same-sym : (w : Word) (s t : State) → Same w s t → Same w t s
same-sym none s t h = tt
same-sym (count m) s t h = sym h
same-sym (token m) s t h = sym h
same-sym (queue m) s t h = sym h
same-sym (ready q) s t h = sym h
same-sym (birth k) s t h = sym h

pub same_trans : (w : Word) (s t u : State) → Same w s t → Same w t u → Same w s u
same_trans none s t u h k = tt
same_trans (count m) s t u h k = h ∙ k
same_trans (token m) s t u h k = h ∙ k
same_trans (queue m) s t u h k = h ∙ k
same_trans (ready q) s t u h k = h ∙ k
same_trans (birth n) s t u h k = h ∙ k

-- a word that a move does not write, if it is one
pub stays : (s : State) (a : Move) → Framed s a → (w : Word) → (w ≢ none → (touch s a).writes ≢ w) → Same w (next s a) s
stays s a f none h = tt
stays s a f (count m) h = f.others_stay (count m) (h (λ e. omega (arith, ap kind e)))
stays s a f (token m) h = f.others_stay (token m) (h (λ e. omega (arith, ap kind e)))
stays s a f (queue m) h = f.others_stay (queue m) (h (λ e. omega (arith, ap kind e)))
stays s a f (ready q) h = f.others_stay (ready q) (h (λ e. omega (arith, ap kind e)))
stays s a f (birth k) h = f.others_stay (birth k) (h (λ e. omega (arith, ap kind e)))
