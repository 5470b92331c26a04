-- The walk thread by thread and queue by queue, and No. 3 of every answer that tells it.
-- Assumes nothing.
use Prim.Native.Nat.{ℕ, zero, suc, ◌+◌, ◌≤◌, ◌<◌}
use mathlib.Core.Path.{◌≡◌, refl, sym, ap, ◌∙◌}
use mathlib.Core.Bool.{Bool, true, false, ◌||◌, not}
use mathlib.Core.List.{List, [], ◌∷◌, ◌++◌, append_assoc, append-nil}
use native.Mathlib.Decide.{dec_le}
use native.Mathlib.Omega.{arith}
use native.Mathlib.Numerals.{add-one}
use lib.ListN.{get_or}
use Rattle.reference.specs.Lists.{choose}
use Rattle.reference.specs.Picture.{stands_in}
use Rattle.state.specs.declared.Thread.{Thread}
use Rattle.state.specs.Record.{chain}
use Rattle.state.specs.Rules.{placed_in}
use Rattle.rules.specs.declared.chain.Walked.{Walked}
use Rattle.rules.specs.Walk.{Bits, Walk, so_far, ended, further, along, walk_before, walk_to, Represents, OneAnswer, threads_before, threads_to, GoesOn, OneNumber}
use Rattle.rules.proofs.Logic.{never, neither}
use Rattle.rules.proofs.Bits.{one_number_of}

-- ---- further, unless it has ended

pub on : (w : Walk) (rest : List ℕ → Walk) → ended w ≡ false → further w rest ≡ rest w.met
on w rest e = rw e

pub over : (w : Walk) (rest : List ℕ → Walk) → ended w ≡ true → further w rest ≡ w
over w rest e = rw e

pub not-before : (w : Walk) (rest : List ℕ → Walk) → ended (further w rest) ≡ false → ended w ≡ false
not-before w rest h = go (ended w) refl h
  where
    go : (b : Bool) → ended w ≡ b → ended (choose b w (rest w.met)) ≡ false → ended w ≡ false
    go true e h = h
    go false e h = e

-- ---- one thread, by whether it was met already (t) and is not placed there (m)

abbrev seen : List ℕ → ℕ → Bool → Bool → Walk
seen l k t m = choose (t || m) (so_far l t m) (so_far (l ++ (k ∷ [])) false false)

module _ (l : List ℕ) (k : ℕ) (rest : List ℕ → Walk) where
  seen_stop : (t m : Bool) → t || m ≡ true → further (seen l k t m) rest ≡ so_far l t m
  seen_stop true m e = refl
  seen_stop false true e = refl
  seen_stop false false e = never false refl e

  seen_on : (t m : Bool) → ended (further (seen l k t m) rest) ≡ false → (t ≡ false) × (m ≡ false)
  seen_on true m h = never true h refl
  seen_on false true h = never true h refl
  seen_on false false h = (refl, refl)

seen_twice : (l : List ℕ) (k : ℕ) (t m : Bool) → (further (seen l k t m) (λ (met : List ℕ). so_far met false false)).twice ≡ t
seen_twice l k true m = refl
seen_twice l k false true = refl
seen_twice l k false false = refl

-- ---- along one chain

module _ (thread : ℕ → Thread) (q : ℕ) where
  abbrev misplaced : ℕ → Bool
  misplaced k = not (placed_in (thread k) q)

  -- a walk that has not ended at thread k: it was not met before, and is placed there
  pub passed : (n k : ℕ) (l : List ℕ) → ended (along thread q (suc n) (suc k) l) ≡ false → (stands_in (suc k) l ≡ false) × (misplaced (suc k) ≡ false)
  unfolding along
  passed n k l h = seen_on l (suc k) (along thread q n (thread (suc k)).next) (stands_in (suc k) l) (misplaced (suc k)) h

  pub along-none : (k : ℕ) (l : List ℕ) → along thread q 0 k l ≡ so_far l false false
  unfolding along
  along-none k l = refl

  pub along-end : (n : ℕ) (l : List ℕ) → along thread q n 0 l ≡ so_far l false false
  unfolding along
  along-end zero l = refl
  along-end (suc n) l = refl

  pub along_on : (n k : ℕ) (l : List ℕ) → stands_in (suc k) l ≡ false → misplaced (suc k) ≡ false → along thread q (suc n) (suc k) l ≡ along thread q n (thread (suc k)).next (l ++ (suc k ∷ []))
  unfolding along
  along_on n k l e f = rw (e, f)

  -- the same by the code's tests

  pub along-stop : (n k : ℕ) (l : List ℕ) → (k ≡ 0 → ⊥) → stands_in k l || misplaced k ≡ true → along thread q (suc n) k l ≡ so_far l (stands_in k l) (misplaced k)
  unfolding along
  along-stop n zero l h e = absurd (h refl)
  along-stop n (suc k) l h e = seen_stop l (suc k) (along thread q n (thread (suc k)).next) (stands_in (suc k) l) (misplaced (suc k)) e

  pub along_more : (n k : ℕ) (l : List ℕ) → (k ≡ 0 → ⊥) → stands_in k l || misplaced k ≡ false → along thread q (suc n) k l ≡ along thread q n (thread k).next (l ++ (k ∷ []))
  along_more n zero l h e = absurd (h refl)
  along_more n (suc k) l h e = along_on n k l (neither (stands_in (suc k) l) (misplaced (suc k)) e).0 (neither (stands_in (suc k) l) (misplaced (suc k)) e).1

  -- the thread come to after n threads is found met twice exactly if it was met
  pub next-twice : (n k j : ℕ) (l : List ℕ) → ended (along thread q n k l) ≡ false → get_or (chain thread (suc n) k) n 0 ≡ suc j → (along thread q (suc n) k l).twice ≡ stands_in (suc j) (along thread q n k l).met
  unfolding along chain
  next-twice zero zero j l h e = absurd (omega arith)
  next-twice zero (suc k) j l h e = rw (← e) (seen_twice l (suc k) (stands_in (suc k) l) (misplaced (suc k)))
  next-twice (suc n) zero j l h e = absurd (omega arith)
  next-twice (suc n) (suc k) j l h e =
      let p = passed n k l h in
      rw (p.0, p.1) (next-twice n (thread (suc k)).next j (l ++ (suc k ∷ [])) (rw (p.0, p.1) at h) e)

  -- the threads met are those of the chain
  pub along-met : (n k : ℕ) (l : List ℕ) → ended (along thread q n k l) ≡ false → (along thread q n k l).met ≡ l ++ chain thread n k
  unfolding along chain
  along-met zero k l h = sym (append-nil l)
  along-met (suc n) zero l h = sym (append-nil l)
  along-met (suc n) (suc k) l h =
      let p = passed n k l h in
      rw (p.0, p.1) (along-met n (thread (suc k)).next (l ++ (suc k ∷ [])) (rw (p.0, p.1) at h) ∙ append_assoc l (suc k ∷ []) (chain thread n (thread (suc k)).next))

-- ---- a walk has one answer

answers : (a b : ℕ) (c d e f : Bool) → a ≡ b → c ≡ d → e ≡ f → ◌≡◌ {A = Walked} (record { met = a; twice = c; misplaced = e }) (record { met = b; twice = d; misplaced = f })
answers a b c d e f x y z = rw (x, y, z)

pub one_answer : OneAnswer
one_answer w r s f g h i = answers r.met s.met r.twice s.twice r.misplaced s.misplaced (one_number_of 64 r.met s.met f g (λ k. h.bits k ∙ sym (i.bits k))) (h.twice ∙ sym i.twice) (h.misplaced ∙ sym i.misplaced)

-- ---- queue after queue

module _ (thread : ℕ → Thread) (first : ℕ → ℕ) where
  pub before-none : walk_before thread first 0 ≡ so_far [] false false
  unfolding walk_before
  before-none = refl

  pub before_more : (q : ℕ) → walk_before thread first (suc q) ≡ walk_to thread first q 33
  unfolding walk_before
  before_more q = refl

  -- once ended, it stays where it is
  pub before-over : (q last : ℕ) → q ≤ last → ended (walk_before thread first q) ≡ true → walk_before thread first last ≡ walk_before thread first q
  before-over q zero l h = let e : q ≡ 0 = omega arith in rw e
  before-over q (suc last) l h =
      elim (dec_le q last) [
        | yes p ↦ let e = before-over q last p h in before_more last ∙ over (walk_before thread first last) (along thread last 33 (first last)) (ap ended e ∙ h) ∙ e
        | no p ↦ let e : q ≡ suc last = omega arith in rw e
      ]

  -- the threads met are those of the chains
  met-from : (q n : ℕ) → (ended (walk_before thread first q) ≡ false → (walk_before thread first q).met ≡ threads_before thread first q) → ended (walk_to thread first q n) ≡ false → (walk_to thread first q n).met ≡ threads_to thread first q n
  met-from q n m h =
      let w = walk_before thread first q in
      let f = not-before w (along thread q n (first q)) h in
      let e = on w (along thread q n (first q)) f in
      ap (λ (x : Walk). x.met) e ∙ along-met thread q n (first q) w.met (ap ended (sym e) ∙ h) ∙ ap (λ (l : List ℕ). l ++ chain thread n (first q)) (m f)

  pub before-met : (q : ℕ) → ended (walk_before thread first q) ≡ false → (walk_before thread first q).met ≡ threads_before thread first q
  unfolding walk_before threads_before
  before-met zero h = refl
  before-met (suc q) h = met-from q 33 (before-met q) h

  -- ---- the answer at queue q, after those before it

  pub represents_on : (q n f : ℕ) (r : Walked) → ended (walk_before thread first q) ≡ false → f ≡ first q → Represents (along thread q n f (walk_before thread first q).met) r → Represents (walk_to thread first q n) r
  represents_on q n f r h e t = rw (on (walk_before thread first q) (along thread q n (first q)) h, ← e) t

  -- where the walk ended there, it is the answer for all that follows
  pub represents_over : (q last n : ℕ) (r : Walked) → q < last → Represents (walk_to thread first q 33) r → r.twice || r.misplaced ≡ true → Represents (walk_to thread first last n) r
  represents_over q last n r l t h =
      let o : ended (walk_before thread first (suc q)) ≡ true = rw (before_more q, ← t.twice, ← t.misplaced) h in
      let e = before-over (suc q) last (omega arith) o in
      rw (over (walk_before thread first last) (along thread last n (first last)) (ap ended e ∙ o), e, before_more q) t

  pub represents_more : (q : ℕ) (r : Walked) → Represents (walk_to thread first q 33) r → r.twice || r.misplaced ≡ false
      → (ended (walk_before thread first (q + 1)) ≡ false) × Bits r.met (walk_before thread first (q + 1)).met
  represents_more q r t h = rw (add-one q, before_more q) (rw (← t.twice, ← t.misplaced) h, t.bits)

  -- ---- No. 3

  going : (q n : ℕ) (r : Walked) → Represents (walk_to thread first q n) r → GoesOn r → ended (walk_to thread first q n) ≡ false
  going q n r h g = rw (← h.twice, ← h.misplaced, g.0, g.1)

  pub one_number : OneNumber thread first
  one_number =
      record {
        bits = λ q n r h g k. h.bits k ∙ ap (stands_in k) (met-from q n (before-met q) (going q n r h g));
        twice = λ q n k r s h i g e.
            let o = going q n r h g in
            let w = walk_before thread first q in
            let f = not-before w (along thread q n (first q)) o in
            i.twice ∙ ap (λ (x : Walk). x.twice) (on w (along thread q (suc n) (first q)) f) ∙
            next-twice thread q n (first q) k w.met (rw (on w (along thread q n (first q)) f) at o) e ∙
            ap (λ (x : Walk). stands_in (suc k) x.met) (sym (on w (along thread q n (first q)) f)) ∙ sym (h.bits (suc k));
      }
