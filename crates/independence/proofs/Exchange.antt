-- Two moves of different processors, neither of which writes a word that the other touches, may change places. It follows from what a move changes and what it
-- depends on, once for all words; owners and lives, which are no words, follow from the invariant.
-- Assumes nothing.
use Prim.Native.Nat.{ℕ, zero, suc, ◌≤◌}
use mathlib.Core.Bool.{true, not}
use mathlib.Core.List.{List, []}
use mathlib.Core.Logic.{◌≢◌}
use mathlib.Core.Path.{◌≡◌, refl, ap, ap₂, sym, subst, ◌∙◌}
use native.Mathlib.Decide.{ℕ_discrete}
use native.Mathlib.Omega.{arith}
use lib.Dec.{eqb}
use borrow.Author.Tests.{eqb-false, ne_eqb, not-true}
use Rattle.reference.specs.Lists.{put}
use Rattle.reference.specs.State.{Processor, Life, live, terminated, State, nobody, free_mutex, processor_at, mutex_at, life_at}
use Rattle.reference.specs.Step.{Move, action_of, next}
use Rattle.reference.specs.Cause.{cause}
use Rattle.reference.specs.Safe.{In, end}
use Rattle.reference.specs.Touch.{Word, none, count, token, queue, ready, Touch, touch, apart}
use Rattle.reference.specs.Frame.{Same, Framed}
use Rattle.reference.proofs.Tests.{both, both_left, both_right}
use Rattle.reference.proofs.Legal.{Legal, legal}
use Rattle.reference.proofs.Lives.{current-lives}
use Rattle.reference.proofs.Invariant.{Good, next_good}
use Rattle.reference.proofs.Frame.{framed}
use Rattle.reference.proofs.Laws.{good}
use Rattle.independence.specs.Depends.{Shows, DoesAlike}
use Rattle.independence.specs.Exchange.{independent, Exchanged, Exchanges}
use Rattle.independence.proofs.Slots.{same_members, put_swap}
use Rattle.independence.proofs.Depends.{Owning, gained, dropped, owning, as_in, same-gains, same-drops, does_alike}
use Rattle.independence.proofs.Order.{created-new, ended-live, born, ends, not-both, sizes_kept, sizes_back, registers-kept, cause_b, cause_a}
use Rattle.independence.proofs.Words.{decide_word, apart-first, apart_swap, same-sym, same_trans, stays}

-- ---- owners

-- two moves settle an owner alike in either order: from x to y and then to z, and from x to y' and then to z'
owner_swap : (g d h e x y z y' z' : ℕ) → Owning g d x y → Owning h e y z → Owning h e x y' → Owning g d y' z' → z' ≡ z
owner_swap zero zero zero zero x y z y' z' a b c f = omega (arith, a.kept refl refl, b.kept refl refl, c.kept refl refl, f.kept refl refl)
owner_swap zero zero zero (suc e) x y z y' z' a b c f = omega (arith, b.lost (omega arith), c.lost (omega arith), f.kept refl refl)
owner_swap zero zero (suc h) e x y z y' z' a b c f = omega (arith, b.got (omega arith), c.got (omega arith), f.kept refl refl)
owner_swap zero (suc d) zero zero x y z y' z' a b c f = omega (arith, a.lost (omega arith), b.kept refl refl, f.lost (omega arith))
owner_swap zero (suc d) zero (suc e) x y z y' z' a b c f = omega (arith, b.lost (omega arith), f.lost (omega arith))
owner_swap zero (suc d) (suc h) e x y z y' z' a b c f = omega (arith, a.lost (omega arith), c.got (omega arith))
owner_swap (suc g) d zero zero x y z y' z' a b c f = omega (arith, a.got (omega arith), b.kept refl refl, f.got (omega arith))
owner_swap (suc g) d zero (suc e) x y z y' z' a b c f = omega (arith, a.got (omega arith), c.lost (omega arith))
owner_swap (suc g) d (suc h) e x y z y' z' a b c f = omega (arith, a.got (omega arith), b.got (omega arith))

-- ---- lives

-- creations and ends of two moves in either order, unless one creates what the other ends
lives_swap : (ls : List Life) (i j k l : ℕ) → (1 ≤ j → j ≡ k → ⊥) → (1 ≤ i → i ≡ l → ⊥) →
    put (put (put (put ls i live) j terminated) k live) l terminated ≡ put (put (put (put ls k live) l terminated) i live) j terminated
lives_swap ls i j k l h n =
    ap (λ (x : List Life). put x l terminated) (put_swap (put ls i live) j k terminated live (λ r e. absurd (h r e))) ∙
    ap (λ (x : List Life). put (put x j terminated) l terminated) (put_swap ls i k live live (λ r e. refl)) ∙
    put_swap (put (put ls k live) i live) j l terminated terminated (λ r e. refl) ∙
    ap (λ (x : List Life). put x j terminated) (put_swap (put ls k live) i l live terminated (λ r e. absurd (n r e)))

-- ---- the two moves

module _ (s : State) (g : Good s) (a b : Move) (ca : cause s a ≡ 0) (cb : cause (next s a) b ≡ 0) (ind : independent s a b ≡ true) where
  abbrev p : ℕ
  p = a.processor

  abbrev q : ℕ
  q = b.processor

  abbrev sa : State
  sa = next s a

  abbrev sb : State
  sb = next s b

  differ : p ≢ q
  unfolding independent
  differ = eqb-false p q (not-true _ (both_left (not (eqb p q)) _ ind))

  separate : apart (touch s a) (touch sa b) ≡ true
  unfolding independent
  separate = both_right (not (eqb p q)) _ ind

  differ_back : q ≢ p
  differ_back e = differ (sym e)

  ga : Good sa
  ga = next_good s a g ca

  la : Legal s a
  la = legal s a ca

  rq : In s.P q
  unfolding next
  rq = (legal sa b cb).processor

  fa : Framed s a
  fa = framed s a g ca

  -- ---- b before a

  kept_b : processor_at sa q ≡ processor_at s q
  kept_b = registers-kept s a q differ_back

  shows_b : Shows sa s b (touch sa b).reads
  shows_b = record { registers = kept_b; word = stays s a fa (touch sa b).reads (λ n e. (apart-first (touch s a) (touch sa b) separate _ n e).0 refl) }

  accepts_b : cause s b ≡ 0
  accepts_b = cause_b s g a b ca cb differ

  gb : Good sb
  gb = next_good s b g accepts_b

  lb_first : Legal s b
  lb_first = legal s b accepts_b

  fb : Framed s b
  fb = framed s b g accepts_b

  alike_b : DoesAlike sa s b
  alike_b = does_alike sa s b ga g (sizes_back s a) shows_b cb accepts_b

  -- what b writes, a does not touch
  second : (w : Word) → w ≢ none → (touch s b).writes ≡ w → ((touch s a).reads ≢ w) × ((touch s a).writes ≢ w)
  second w n e =
      apart-first (touch sa b) (touch s a) (apart_swap (touch s a) (touch sa b) separate) w n (ap (λ (t : Touch). t.writes) alike_b.touches ∙ e)

  -- ---- a after b

  kept_a : processor_at s p ≡ processor_at sb p
  kept_a = sym (registers-kept s b p differ)

  shows_a : Shows s sb a (touch s a).reads
  shows_a = record { registers = kept_a; word = same-sym (touch s a).reads sb s (stays s b fb (touch s a).reads (λ n e. (second _ n e).0 refl)) }

  accepts_a : cause sb a ≡ 0
  accepts_a = cause_a s g a b ca cb differ

  alike_a : DoesAlike s sb a
  alike_a = does_alike s sb a g gb (sizes_kept s b) shows_a ca accepts_a

  -- ---- the states after both

  abbrev sab : State
  sab = next sa b

  abbrev sba : State
  sba = next sb a

  gab : Good sab
  gab = next_good sa b ga cb

  gba : Good sba
  gba = next_good sb a gb accepts_a

  fab : Framed sa b
  fab = framed sa b ga cb

  fba : Framed sb a
  fba = framed sb a gb accepts_a

  -- a word is written by a, by b or by neither
  words : (w : Word) → Same w sba sab
  words w =
      same-sym w sab sba
      (elim (decide_word (touch s a).writes w) [
        | yes x ↦ same_trans w sab sa sba (stays sa b fab w (λ n. (apart-first (touch s a) (touch sa b) separate w n x).1)) (subst (λ (u : Word). Same u sa sba) x alike_a.word)
        | no x ↦ not_a x
      ])
    where
      left_a : (touch s a).writes ≢ w → Same w sb sba
      left_a x = same-sym w sba sb (stays sb a fba w (λ n y. x (ap (λ (t : Touch). t.writes) alike_a.touches ∙ y)))

      not_a : (touch s a).writes ≢ w → Same w sab sba
      not_a x =
          elim (decide_word (touch sa b).writes w) [
            | yes y ↦ same_trans w sab sb sba (subst (λ (u : Word). Same u sab sb) y alike_b.word) (left_a x)
            | no y ↦
                same_trans w sab sa sba (stays sa b fab w (λ n. y))
                (same_trans w sa s sba (stays s a fa w (λ n. x))
                (same_trans w s sb sba (same-sym w sb s (stays s b fb w (λ n z. y (ap (λ (t : Touch). t.writes) alike_b.touches ∙ z)))) (left_a x)))
          ]

  processors : (k : ℕ) → processor_at sba k ≡ processor_at sab k
  processors k =
      elim (ℕ_discrete k p) [
        | yes e ↦ subst (λ (i : ℕ). processor_at sba i ≡ processor_at sab i) (sym e) (sym (registers-kept sa b p differ ∙ alike_a.registers))
        | no n ↦ elim (ℕ_discrete k q) [
          | yes e ↦ subst (λ (i : ℕ). processor_at sba i ≡ processor_at sab i) (sym e) (registers-kept sb a q differ_back ∙ sym alike_b.registers)
          | no m ↦ registers-kept sb a k n ∙ registers-kept s b k m ∙ sym (registers-kept s a k n) ∙ sym (registers-kept sa b k m)
        ]
      ]

  owners : (j : ℕ) → In s.M j → (mutex_at sba j).owner ≡ (mutex_at sab j).owner
  unfolding next
  owners j rj =
      owner_swap (gained s a j) (dropped s a j) (gained s b j) (dropped s b j) _ _ _ _ _ (owning s a g ca j rj)
      (as_in (same-gains sa s b ga g (sizes_back s a) shows_b j) (same-drops sa s b ga g (sizes_back s a) shows_b j) (owning sa b ga cb j rj))
      (owning s b g accepts_b j rj)
      (as_in (sym (same-gains s sb a g gb (sizes_kept s b) shows_a j)) (sym (same-drops s sb a g gb (sizes_kept s b) shows_a j)) (owning sb a gb accepts_a j rj))

  -- what a move creates is new, so it is not what another ends
  not-ended : (x y : Move) → Legal s x → In s.P y.processor → 1 ≤ born x → born x ≡ ends y (processor_at s y.processor) → ⊥
  not-ended x y l r h e =
      not-both (created-new s x.processor (action_of x.action) x.operand l.here h)
      (subst (λ (k : ℕ). life_at s k ≡ live) (sym e) (ended-live s (action_of y.action) (processor_at s y.processor).current (current-lives s g y.processor r)))

  lives : sba.lives ≡ sab.lives
  unfolding next
  lives =
      ap (λ (r : Processor). put (put sb.lives (born a) live) (ends a r) terminated) (sym kept_a) ∙
      lives_swap s.lives (born b) (ends b (processor_at s q)) (born a) (ends a (processor_at s p))
      (λ r e. not-ended a b la rq (subst (λ (k : ℕ). 1 ≤ k) e r) (sym e)) (not-ended b a lb_first la.processor) ∙
      ap (λ (r : Processor). put (put sa.lives (born b) live) (ends b r) terminated) (sym kept_b)

  mutexes : (j : ℕ) → In s.M j → mutex_at sba j ≡ mutex_at sab j
  mutexes j rj =
      let c : (mutex_at sba j).count ≡ (mutex_at sab j).count = words (count j) in
      let t : (mutex_at sba j).token ≡ (mutex_at sab j).token = words (token j) in
      let w : (mutex_at sba j).queue ≡ (mutex_at sab j).queue = words (queue j) in
      let o = owners j rj in
      (λ i. record { count = c i; queue = w i; owner = o i; token = t i })

  all-ready : sba.ready ≡ sab.ready
  unfolding next
  all-ready = same_members [] sba.ready sab.ready (gba.queues ∙ sym gab.queues) (λ i r. words (ready i))

  all-processors : sba.processors ≡ sab.processors
  unfolding next
  all-processors = same_members nobody sba.processors sab.processors (gba.processors ∙ sym gab.processors) (λ k i. processors k)

  all-mutexes : sba.mutexes ≡ sab.mutexes
  unfolding next
  all-mutexes =
      same_members free_mutex sba.mutexes sab.mutexes (gba.mutexes ∙ sym gab.mutexes) (λ j i. mutexes j (omega (arith, gba.mutexes)))

  states : sba ≡ sab
  unfolding next
  states =
      λ i. record { P = s.P; T = s.T; M = s.M; stealing = s.stealing; ready = all-ready i; processors = all-processors i; mutexes = all-mutexes i; lives = lives i; applied = suc (suc s.applied) }

  pub exchanged : Exchanged s a b
  unfolding independent
  exchanged =
      record {
        b_first = accepts_b;
        a_second = accepts_a;
        same_state = states;
        a_touches = sym alike_a.touches;
        b_touches = sym alike_b.touches;
        back =
            both (ap not (ne_eqb q p differ_back))
            (ap₂ apart (sym alike_b.touches) (sym alike_a.touches) ∙ apart_swap (touch s a) (touch sa b) separate);
      }

pub exchanges : Exchanges
exchanges c ms e ok a b ca cb h = exchanged (end c ms) (good c e ms ok) a b ca cb h
