-- The chain check is rule 13: its walk does not end exactly if each chain meets no thread twice and none that is not placed there.
-- Assumes nothing.
use Prim.Native.Nat.{ℕ, zero, suc, ◌+◌, ◌-◌, ◌≤◌, ◌<◌}
use mathlib.Core.Path.{◌≡◌, refl, ap, sym, subst, ◌∙◌}
use mathlib.Core.Bool.{Bool, true, false, ◌&&◌, ◌||◌, not}
use mathlib.Core.List.{List, [], ◌∷◌, ◌++◌}
use mathlib.Core.Logic.{◌⊎◌, inl, inr, ⊎_elim}
use native.Mathlib.Decide.{ℕ_discrete, dec_le, dec_lt}
use native.Mathlib.Omega.{arith}
use borrow.Author.Tests.{eqb-true, eq-eqb, leb-true, le-leb, not-false}
use lib.Dec.{eqb, leb}
use Rattle.reference.specs.Lists.{in_range, each}
use Rattle.reference.specs.Picture.{stands_in}
use Rattle.reference.proofs.Tests.{both, both_left, both_right, range_true, true_range}
use Rattle.state.specs.declared.Thread.{Thread}
use Rattle.state.specs.Record.{chain}
use Rattle.state.specs.Association.{queued_as}
use Rattle.state.proofs.Numbers.{stands, number_one, mutex_as, ready_as}
use Rattle.reference.specs.Safe.{In}
use Rattle.state.specs.Rules.{every, no_twice, placed_in, chain_ok, chains_in}
use Rattle.rules.specs.declared.chain.Walked.{Walked}
use Rattle.rules.specs.Walk.{has_bit, Walk, ended, along, walk_before, walk_to, Represents, threads_before}
use Rattle.rules.specs.Model.Chain.{queued, none_missed}
use Rattle.reference.proofs.Each.{each_at, each_all}
use Rattle.rules.proofs.Logic.{either, either_left, either_right, implied, implies, never, refuted, same_tests}
use Rattle.rules.proofs.Members.{stands_none, stands_append, every-at, Clean, clean_none, clean_first, clean_rest, clean_cons}
use Rattle.rules.proofs.Walks.{on, not-before, passed, along-none, along-end, along_on, before-none, before_more, before-met}

-- a thread is placed in one queue at most
pub placed-once : (x : Thread) (q r : ℕ) → placed_in x q ≡ true → placed_in x r ≡ true → q ≡ r
placed-once x q r h g =
    let a : Thread = queued_as q 0 in
    let b : Thread = queued_as r 0 in
    number_one q 0 r 0
    (sym (eqb-true x.status a.status (both_left (eqb x.status a.status) (eqb x.holder a.holder) h)) ∙
    eqb-true x.status b.status (both_left (eqb x.status b.status) (eqb x.holder b.holder) g))
    (sym (eqb-true x.holder a.holder (both_right (eqb x.status a.status) (eqb x.holder a.holder) h)) ∙
    eqb-true x.holder b.holder (both_right (eqb x.status b.status) (eqb x.holder b.holder) g))

-- the status and the holder of a thread of one of the 17 queues
kinds : (q : ℕ) → q ≤ 16 → (((queued_as q 0).status ≡ 1) × ((queued_as q 0).holder ≤ 8)) ⊎ (((queued_as q 0).status ≡ 2) × In 8 (queued_as q 0).holder)
kinds q l =
    elim (ℕ_discrete q 0) [
      | yes z ↦ rw z (inl (refl, omega arith))
      | no z ↦
          elim (dec_le q 8) [
            | yes u ↦ let e = mutex_as q 0 (omega arith) in inr (ap (λ (t : Thread). t.status) e, subst (λ (t : Thread). In 8 t.holder) (sym e) (omega arith))
            | no u ↦
                let o : 8 + (q - 8) ≡ q = omega arith in
                let e = ap (λ (n : ℕ). queued_as n 0) (sym o) ∙ ready_as 1 (q - 8) 0 (omega arith) in
                inl (ap (λ (t : Thread). t.status) e, subst (λ (t : Thread). t.holder ≤ 8) (sym e) (omega arith))
          ]
    ]

-- to be placed in one of the queues, and to be placed in a queue of that number
pub placed-queued : (q : ℕ) (x : Thread) → q ≤ 16 → placed_in x q ≡ true → queued x ≡ true
placed-queued q x l e =
    let a : Thread = queued_as q 0 in
    let s : x.status ≡ a.status = eqb-true x.status a.status (both_left (eqb x.status a.status) (eqb x.holder a.holder) e) in
    let h : x.holder ≡ a.holder = eqb-true x.holder a.holder (both_right (eqb x.status a.status) (eqb x.holder a.holder) e) in
    ⊎_elim
    (λ w. either_left (eqb x.status 1 && leb x.holder 8) (eqb x.status 2 && in_range 1 8 x.holder) (both (eq-eqb x.status 1 (s ∙ w.0)) (le-leb x.holder 8 (omega arith))))
    (λ w. either_right (eqb x.status 1 && leb x.holder 8) (eqb x.status 2 && in_range 1 8 x.holder) (both (eq-eqb x.status 2 (s ∙ w.0)) (true_range 1 8 x.holder (omega arith) (omega arith))))
    (kinds q l)

as_placed : (x : Thread) (q s h : ℕ) → queued_as q 0 ≡ stands s h 0 → x.status ≡ s → x.holder ≡ h → placed_in x q ≡ true
as_placed x q s h e a b =
    both (eq-eqb x.status (queued_as q 0).status (a ∙ sym (ap (λ (t : Thread). t.status) e))) (eq-eqb x.holder (queued_as q 0).holder (b ∙ sym (ap (λ (t : Thread). t.holder) e)))

pub queued-placed : (x : Thread) → queued x ≡ true → (q : ℕ) × (q ≤ 16) × (placed_in x q ≡ true)
queued-placed x h =
    ⊎_elim here there (either (eqb x.status 1 && leb x.holder 8) (eqb x.status 2 && in_range 1 8 x.holder) h)
  where
    here : eqb x.status 1 && leb x.holder 8 ≡ true → (q : ℕ) × (q ≤ 16) × (placed_in x q ≡ true)
    here e =
        let s : x.status ≡ 1 = eqb-true x.status 1 (both_left (eqb x.status 1) (leb x.holder 8) e) in
        let l : x.holder ≤ 8 = leb-true x.holder 8 (both_right (eqb x.status 1) (leb x.holder 8) e) in
        elim (ℕ_discrete x.holder 0) [
          | yes z ↦ (0, omega arith, as_placed x 0 1 0 refl s z)
          | no z ↦ (8 + x.holder, omega arith, as_placed x (8 + x.holder) 1 x.holder (ready_as 1 x.holder 0 (omega arith)) s refl)
        ]

    there : eqb x.status 2 && in_range 1 8 x.holder ≡ true → (q : ℕ) × (q ≤ 16) × (placed_in x q ≡ true)
    there e =
        let r = range_true 1 8 x.holder (both_right (eqb x.status 2) (in_range 1 8 x.holder) e) in
        (x.holder, omega arith, as_placed x x.holder 2 x.holder (mutex_as x.holder 0 r) (eqb-true x.status 2 (both_left (eqb x.status 2) (in_range 1 8 x.holder) e)) refl)

module _ (thread : ℕ → Thread) where
  abbrev placed : ℕ → ℕ → Bool
  placed q k = placed_in (thread k) q

  -- ---- one chain

  -- a walk that has not ended met a clean chain
  pub along-true : (q n k : ℕ) (l : List ℕ) → ended (along thread q n k l) ≡ false → Clean (placed q) l (chain thread n k)
  unfolding chain
  along-true q zero k l h = clean_none (placed q) l
  along-true q (suc n) zero l h = clean_none (placed q) l
  along-true q (suc n) (suc k) l h =
      let p = passed thread q n k l h in
      clean_cons (placed q) l (suc k) (chain thread n (thread (suc k)).next) (not-false (placed q (suc k)) p.1) p.0
      (along-true q n (thread (suc k)).next (l ++ (suc k ∷ [])) (ap ended (sym (along_on thread q n k l p.0 p.1)) ∙ h))

  pub along_clean : (q n k : ℕ) (l : List ℕ) → Clean (placed q) l (chain thread n k) → ended (along thread q n k l) ≡ false
  unfolding chain
  along_clean q zero k l h = ap ended (along-none thread q k l)
  along_clean q (suc n) zero l h = ap ended (along-end thread q (suc n) l)
  along_clean q (suc n) (suc k) l h =
      let s = clean_first (placed q) l (suc k) (chain thread n (thread (suc k)).next) h in
      ap ended (along_on thread q n k l s.1 (rw s.0)) ∙
      along_clean q n (thread (suc k)).next (l ++ (suc k ∷ [])) (clean_rest (placed q) l (suc k) (chain thread n (thread (suc k)).next) h)

  -- ---- all chains

  module _ (first : ℕ → ℕ) where
    abbrev met_in : ℕ → List ℕ
    met_in q = chain thread 33 (first q)

    abbrev met-before : ℕ → List ℕ
    met-before = threads_before thread first

    before_in : (n j : ℕ) → stands_in j (met-before n) ≡ true → (q : ℕ) × (q < n) × (stands_in j (met_in q) ≡ true)
    unfolding threads_before
    before_in zero j h = never (stands_in j []) (stands_none j) h
    before_in (suc n) j h =
        ⊎_elim (λ s. let r = before_in n j s in (r.0, omega arith, r.2)) (λ s. (n, omega arith, s))
        (either (stands_in j (met-before n)) (stands_in j (met_in n)) (sym (stands_append j (met-before n) (met_in n)) ∙ h))

    in_before : (n q j : ℕ) → q < n → stands_in j (met_in q) ≡ true → stands_in j (met-before n) ≡ true
    unfolding threads_before
    in_before zero q j h s = absurd (omega arith)
    in_before (suc n) q j h s = stands_append j (met-before n) (met_in n) ∙ go (dec_lt q n) (in_before n q j)
      where
        go : Dec (q < n) → (q < n → stands_in j (met_in q) ≡ true → stands_in j (met-before n) ≡ true) → stands_in j (met-before n) || stands_in j (met_in n) ≡ true
        go (yes p) rest = either_left (stands_in j (met-before n)) (stands_in j (met_in n)) (rest p s)
        go (no p) rest = let e : q ≡ n = omega arith in either_right (stands_in j (met-before n)) (stands_in j (met_in n)) (rw e at s)

    -- the chain of queue q meets none twice, and none that is not placed there
    abbrev Good : ℕ → Type 0
    Good q = Clean (placed q) [] (met_in q)

    apart : (n : ℕ) → ((q : ℕ) → q < n → Good q) → Good n → Clean (placed n) (met-before n) (met_in n)
    apart n f g =
        record {
          placed = g.placed;
          once = g.once;
          apart = λ j s. refuted (stands_in j (met-before n)) (λ i.
              let r = before_in n j i in
              let e : r.0 ≡ n = placed-once (thread j) r.0 n (every-at (placed r.0) (met_in r.0) (f r.0 r.1).placed j r.2) (every-at (placed n) (met_in n) g.placed j s) in
              omega arith);
        }

    -- a walk that has not ended met clean chains
    pub before-true : (n : ℕ) → ended (walk_before thread first n) ≡ false → (q : ℕ) → q < n → Good q
    before-true zero h q l = absurd (omega arith)
    before-true (suc n) h q l =
        let w = walk_before thread first n in
        let o : ended (walk_to thread first n 33) ≡ false = ap ended (sym (before_more thread first n)) ∙ h in
        let f = not-before w (along thread n 33 (first n)) o in
        let c = along-true n 33 (first n) w.met (ap ended (sym (on w (along thread n 33 (first n)) f)) ∙ o) in
        elim (dec_lt q n) [
          | yes p ↦ before-true n f q p
          | no p ↦ let e : q ≡ n = omega arith in rw e (record { placed = c.placed; once = c.once; apart = λ j s. stands_none j })
        ]

    pub before_good : (n : ℕ) → ((q : ℕ) → q < n → Good q) → ended (walk_before thread first n) ≡ false
    before_good zero f = ap ended (before-none thread first)
    before_good (suc n) f =
        let w = walk_before thread first n in
        let i : ended w ≡ false = before_good n (λ q h. f q (omega arith)) in
        ap ended (before_more thread first n ∙ on w (along thread n 33 (first n)) i) ∙
        along_clean n 33 (first n) w.met (rw (before-met thread first n i) (apart n (λ q h. f q (omega arith)) (f n (omega arith))))

    -- ---- the rule

    module _ (t : ℕ) (r : Walked) (represented : Represents (walk_to thread first 16 33) r) where
      abbrev w : Walk
      w = walk_before thread first 17

      h : Represents w r
      h = rw (before_more thread first 16) represented

      -- queue q misses thread k in no case
      abbrev kept : ℕ → ℕ → Bool
      kept q k = not (placed q k) || stands_in k (met_in q)

      abbrev found : ℕ → Bool
      found k = not (queued (thread k)) || has_bit r.met k

      -- the bits are the threads met in the 17 queues
      bits : ended w ≡ false → (k : ℕ) → has_bit r.met k ≡ stands_in k (met-before 17)
      bits e k = h.bits k ∙ ap (stands_in k) (before-met thread first 17 e)

      -- from the check to the rule at queue q
      to_rule : ended w ≡ false → none_missed thread r.met t ≡ true → (q : ℕ) → q < 17 → chain_ok thread t q (first q) ≡ true
      unfolding chain_ok
      to_rule e n q l =
          let good = before-true 17 e in
          let g : Good q = good q l in
          both (both g.once g.placed)
          (each_all (kept q) 1 t (λ k lo hi. implies (placed q k) (stands_in k (met_in q)) (λ p.
          let b : has_bit r.met k ≡ true = implied (queued (thread k)) (has_bit r.met k) (each_at found 1 t n k lo hi) (placed-queued q (thread k) (omega arith) p) in
          let s = before_in 17 k (sym (bits e k) ∙ b) in
          let i : s.0 ≡ q = placed-once (thread k) s.0 q (every-at (placed s.0) (met_in s.0) (good s.0 s.1).placed k s.2) p in
          rw i at s.2)))

      -- and back, from the rule at each queue
      from_rule : ((q : ℕ) → q < 17 → chain_ok thread t q (first q) ≡ true) → (ended w ≡ false) × (none_missed thread r.met t ≡ true)
      unfolding chain_ok
      from_rule f =
          let e : ended w ≡ false = before_good 17 (λ q l. let o = both_left (no_twice (met_in q) && every (placed q) (met_in q)) (each (kept q) 1 t) (f q l) in
          record { placed = both_right (no_twice (met_in q)) (every (placed q) (met_in q)) o; once = both_left (no_twice (met_in q)) (every (placed q) (met_in q)) o; apart = λ j s. stands_none j })
          in (
            e,
            each_all found 1 t (λ k lo hi. implies (queued (thread k)) (has_bit r.met k) (λ p.
                let a = queued-placed (thread k) p in
                let o = both_right (no_twice (met_in a.0) && every (placed a.0) (met_in a.0)) (each (kept a.0) 1 t) (f a.0 (omega arith)) in
                let s : stands_in k (met_in a.0) ≡ true = implied (placed a.0 k) (stands_in k (met_in a.0)) (each_at (kept a.0) 1 t o k lo hi) a.2 in
                bits e k ∙ in_before 17 a.0 k (omega arith) s)),
          )

      -- the check is the rule, on all inputs
      pub check_is_rule : not r.twice && not r.misplaced && none_missed thread r.met t ≡ chains_in thread first t
      check_is_rule =
          rw (h.twice, h.misplaced)
          (same_tests (not w.twice && not w.misplaced && none_missed thread r.met t) (chains_in thread first t)
          (λ e. let o = quiet w.twice w.misplaced (none_missed thread r.met t) e in each_all (λ q. chain_ok thread t q (first q)) 0 17 (λ q lo hi. to_rule o.0 o.1 q (omega arith)))
          (λ e. let f = from_rule (λ q l. each_at (λ i. chain_ok thread t i (first i)) 0 17 e q (omega arith) (omega arith)) in loud w.twice w.misplaced (none_missed thread r.met t) f.0 f.1))
        where
          quiet : (x y z : Bool) → not x && not y && z ≡ true → (x || y ≡ false) × (z ≡ true)
          quiet true y z e = never false refl e
          quiet false true z e = never false refl e
          quiet false false z e = (refl, e)

          loud : (x y z : Bool) → x || y ≡ false → z ≡ true → not x && not y && z ≡ true
          loud true y z e f = never true e refl
          loud false true z e f = never true e refl
          loud false false z e f = f
