-- Chains of threads by next: which list a chain is, and that the rule of chains holds exactly where the chain is the list of the threads that are placed in its queue.
-- Assumes nothing.
use Prim.Native.Nat.{ℕ, zero, suc, ◌≤◌, ◌<◌}
use mathlib.Core.Bool.{true, ◌||◌, not}
use mathlib.Core.List.{List, [], ◌∷◌}
use mathlib.Core.Path.{◌≡◌, refl, ap, sym, subst, ◌∙◌}
use native.Mathlib.Omega.{arith}
use native.Mathlib.Decide.{ℕ_discrete}
use lib.ListN.{length}
use borrow.Author.Tests.{leb-true, le-leb}
use Rattle.state.specs.declared.Thread.{Thread}
use Rattle.state.specs.Record.{chain}
use Rattle.state.specs.Rules.{every, placed_in, chain_ok}
use Rattle.reference.specs.Lists.{is, occurrences, in_range}
use Rattle.reference.specs.Picture.{stands_in, first, behind}
use Rattle.reference.specs.Safe.{In}
use Rattle.reference.proofs.Tests.{both, ◌and◌, true_range}
use Rattle.reference.proofs.Sums.{is_same}
use Rattle.association.proofs.Queues.{occurs_cons, occurs_skip, behind-first, behind_skip, queue-length}
use Rattle.shown.proofs.Tests.{each_all, all-each, Member, Once, occurs_none, first_member, later_member, every-all, all-every, twice-once, once-twice, once_rest, implied, implies}

-- the list is the chain from f by `next`: 0 ends it
abbrev pub Linked : (ℕ → ℕ) → ℕ → List ℕ → Type 0
Linked next f [] = f ≡ 0
Linked next f (k ∷ l) = (f ≡ k) × (1 ≤ k) × Linked next (next k) l

module _ (next : ℕ → ℕ) where
  pub linked_first : (f : ℕ) (l : List ℕ) → Linked next f l → first l ≡ f
  linked_first f [] h = sym h
  linked_first f (x ∷ l) h = sym h.0

  -- the one behind a member is its next
  pub linked_behind : (f : ℕ) (l : List ℕ) → Linked next f l → (k : ℕ) → Member k l → behind k l ≡ next k
  linked_behind f [] h k m = absurd (omega (arith, occurs_none k))
  linked_behind f (x ∷ l) h k m =
      elim (ℕ_discrete k x) [
        | yes z ↦ rw z (behind-first x l ∙ linked_first (next x) l h.2)
        | no z ↦ behind_skip k x l z ∙ linked_behind (next x) l h.2 k (omega (arith, occurs_skip k x l z))
      ]

  -- and if the one behind each member is its next, the list is the chain from its first
  pub behind_linked : (l : List ℕ) → Once l → ((k : ℕ) → Member k l → 1 ≤ k) → ((k : ℕ) → Member k l → next k ≡ behind k l) → Linked next (first l) l
  behind_linked [] once low h = refl
  behind_linked (x ∷ l) once low h = (
    refl,
    low x (first_member x l),
    subst (λ (f : ℕ). Linked next f l) (sym here)
        (behind_linked l (once_rest x l once) (λ k m. low k (later_member k x l m)) (λ k m. h k (later_member k x l m) ∙ behind_skip k x l (apart k m))),
  )
    where
      here : next x ≡ first l
      here = h x (first_member x l) ∙ behind-first x l

      apart : (k : ℕ) → Member k l → k ≡ x → ⊥
      apart k m e = omega (arith, once k, occurs_cons k x l, is_same k, ap (is k) e)

module _ (thread : ℕ → Thread) where
  abbrev pub next_of : ℕ → ℕ
  next_of k = (thread k).next

  -- ---- the chain of a list that is linked is that list, with fuel enough

  pub linked_chain : (fuel f : ℕ) (l : List ℕ) → Linked next_of f l → length l ≤ fuel → chain thread fuel f ≡ l
  unfolding chain
  linked_chain zero f [] h n = refl
  linked_chain zero f (x ∷ l) h n = absurd (omega arith)
  linked_chain (suc fuel) zero [] h n = refl
  linked_chain (suc fuel) (suc f) [] h n = absurd (omega (arith, h))
  linked_chain (suc fuel) zero (x ∷ l) h n = absurd (omega (arith, h.0, h.1))
  linked_chain (suc fuel) (suc f) (x ∷ l) h n =
      let r : chain thread fuel (next_of (suc f)) ≡ l = linked_chain fuel (next_of (suc f)) l (rw h.0 h.2) (omega arith) in
      rw (r, h.0)

  -- a chain that is shorter than its fuel ends
  chain_linked : (fuel f : ℕ) → length (chain thread fuel f) < fuel → Linked next_of f (chain thread fuel f)
  unfolding chain
  chain_linked zero f n = absurd (omega arith)
  chain_linked (suc fuel) zero n = refl
  chain_linked (suc fuel) (suc f) n = (refl, omega arith, chain_linked fuel (next_of (suc f)) (omega arith))

  -- and is the same with any fuel that is enough
  chain_fuel : (n fuel f : ℕ) → length (chain thread fuel f) < fuel → length (chain thread fuel f) ≤ n → chain thread n f ≡ chain thread fuel f
  chain_fuel n fuel f h g = linked_chain n f (chain thread fuel f) (chain_linked fuel f h) g

  -- ---- the rule of chains

  abbrev pub PlacedIn : ℕ → ℕ → Type 0
  PlacedIn q k = placed_in (thread k) q ≡ true

  -- the chain from f is the list l, and l has, each once, exactly the threads that are placed in queue q
  pub record Queue (q f : ℕ) (l : List ℕ) : Type 0 where
    pub linked : Linked next_of f l
    pub once : Once l
    pub placed : (k : ℕ) → Member k l → PlacedIn q k
    pub met : (k : ℕ) → PlacedIn q k → Member k l

  module _ (t q f : ℕ) where
    -- what the rule says of a chain whose threads are among 1 to t
    pub ok-queue : t ≤ 32 → ((k : ℕ) → PlacedIn q k → In t k) → chain_ok thread t q f ≡ true → Queue q f (chain thread 32 f)
    unfolding chain_ok
    ok-queue small inside e =
        let l : List ℕ = chain thread 33 f in
        let z = (
        twice-once l and every-all (λ k. placed_in (thread k) q) l and each_all (λ k. not (placed_in (thread k) q) || stands_in k l) 1 t
        ) e in
        let threads : every (in_range 1 t) l ≡ true = all-every (in_range 1 t) l (λ k m. let i = inside k (z.0.1 k m) in true_range 1 t k i.0 i.1) in
        let few : length l ≤ t = queue-length t l threads (λ k i. z.0.0 k) in
        rw (chain_fuel 32 33 f (omega arith) (omega arith))
        (record {
          linked = chain_linked 33 f (omega arith);
          once = z.0.0;
          placed = z.0.1;
          met = λ k p.
              leb-true 1 (occurrences k l)
              (implied (placed_in (thread k) q) (stands_in k l) (z.1 k (inside k p).0 (omega (arith, (inside k p).1))) p);
        })

    pub queue-ok : (l : List ℕ) → length l ≤ 32 → Queue q f l → chain_ok thread t q f ≡ true
    unfolding chain_ok
    queue-ok l small h =
        let e : chain thread 33 f ≡ l = linked_chain 33 f l h.linked (omega arith) in
        rw e
        (both (both (once-twice l h.once) (all-every (λ k. placed_in (thread k) q) l h.placed))
        (all-each (λ k. not (placed_in (thread k) q) || stands_in k l) 1 t
        (λ k a b. implies (placed_in (thread k) q) (stands_in k l) (λ p. le-leb 1 (occurrences k l) (h.met k p)))))
