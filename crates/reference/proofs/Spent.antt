-- A thread that owns a mutex and has made all calls of its script stays where it is, whatever turns are taken.
-- Assumes nothing.
use Prim.Native.Nat.{ℕ, ◌≤◌}
use mathlib.Core.Bool.{Bool, true, false, not, true≢false}
use mathlib.Core.List.{List, [], ◌∷◌, ◌++◌}
use mathlib.Core.Logic.{◌≢◌}
use mathlib.Core.Path.{◌≡◌, refl, ap, sym, ◌∙◌}
use native.Mathlib.Omega.{arith}
use lib.Dec.{eqb, leb, ltb}
use lib.ListN.{length}
use borrow.Author.Tests.{eqb-true, eq-eqb, le-ltb, not-true}
use Rattle.reference.specs.Refusal.{full, still_owner, refuse}
use Rattle.reference.specs.State.{State, App, processor_at, mutex_at, nobody}
use Rattle.reference.specs.Start.{Config, config_cause, start}
use Rattle.reference.specs.Step.{Move, move_of, action_of, next}
use Rattle.reference.specs.Cause.{at_app, owns_none, cause, accepted}
use Rattle.reference.specs.Safe.{In, end}
use Rattle.reference.specs.Script.{script_length, progress, turn_move, turned, turn_cause, turn_after, class_moves}
use Rattle.reference.specs.Spent.{Spent, Stuck, SpentOwners}
use Rattle.reference.proofs.Tests.{true_range}
use Rattle.reference.proofs.Each.{each_at}
use Rattle.reference.proofs.Sums.{choose-by, at-put-other}
use Rattle.reference.proofs.Legal.{legal}
use Rattle.reference.proofs.Invariant.{Good}
use Rattle.reference.proofs.Moves.{run_snoc, accepted_snoc}
use Rattle.reference.proofs.Script.{progress_snoc, accepted-turn}
use Rattle.reference.proofs.Current.{owner_alike}
use Rattle.reference.proofs.Laws.{good, sized, applied-is, owner-is}

-- an owner owns something
owns-some : (s : State) (m k : ℕ) → In s.M m → (mutex_at s m).owner ≡ k → owns_none s k ≡ false
owns-some s m k rm e = by (owns_none s k) refl
  where
    by : (b : Bool) → owns_none s k ≡ b → b ≡ false
    by false h = refl
    by true h =
        absurd (true≢false (sym (eq-eqb (mutex_at s m).owner k e) ∙ not-true _ (each_at (λ i. not (eqb (mutex_at s i).owner k)) 1 s.M h m rm.0 (omega arith))))

-- the exit of an owner at App
exit-cause : (s : State) (p m : ℕ) → In s.P p → In s.M m → (processor_at s p).position ≡ App → (mutex_at s m).owner ≡ (processor_at s p).current →
    cause s (move_of p 5 0) ≡ refuse (leb 4000 s.applied) full still_owner
unfolding cause action_of
exit-cause s p m rp rm at o = rw (true_range 1 s.P p rp.0 rp.1, at, owns-some s m (processor_at s p).current rm o)

-- a turn moves its own processor
turn-processor : (s : State) (made : ℕ → ℕ) (x : List ℕ) (p : ℕ) → (turn_move s made x p).processor ≡ p
unfolding turn_move
turn-processor s made x p =
    choose-by (λ (a : Move). a.processor ≡ p) (at_app s p)
    (λ e. choose-by (λ (a : Move). a.processor ≡ p) (ltb (made (processor_at s p).current) (script_length x (processor_at s p).current)) (λ z. refl) (λ z. refl))
    (λ e. refl)

module _ (c : Config) (x : List ℕ) (right : config_cause c ≡ 0) (p m k : ℕ) (rp : In c.P p) (rm : In c.M m) where
  module _ (ms : List Move) (ok : accepted (start c) ms ≡ true) (h : Spent c x p m k ms) where
    g : Good (end c ms)
    g = good c right ms ok

    here : In (end c ms).P p
    here = omega (arith, sized c ms)

    there : In (end c ms).M m
    there = omega (arith, sized c ms)

    low : 1 ≤ k
    low = let t = rw h.position at (g.table p here).registers.current-low in omega (arith, h.current)

    owner : (mutex_at (end c ms) m).owner ≡ k
    owner = eqb-true _ k (sym (owner-is c right ms ok m k rm low) ∙ h.owner)

    exits : turned c x ms p ≡ move_of p 5 0
    unfolding turn_move
    exits = rw (h.position, h.current, le-ltb (progress (start c) ms k) (script_length x k) h.spent)

    refused : turn_cause c x ms p ≡ refuse (leb 4000 (length ms)) full still_owner
    refused =
        ap (cause (end c ms)) exits ∙ exit-cause (end c ms) p m here there h.position (owner ∙ sym h.current) ∙
        ap (λ (n : ℕ). refuse (leb 4000 n) full still_owner) (applied-is c ms)

    -- that is no 0
    never : turn_cause c x ms p ≢ 0
    never e = by (leb 4000 (length ms)) (sym refused ∙ e)
      where
        by : (b : Bool) → refuse b full still_owner ≢ 0
        by true z = omega arith
        by false z = omega arith

    pub stuck : Stuck c x p m k ms
    stuck = record { spent = h; refused = refused }

    -- after another processor's move
    module _ (a : Move) (e : cause (end c ms) a ≡ 0) (n : a.processor ≢ p) where
      same : processor_at (next (end c ms) a) p ≡ processor_at (end c ms) p
      unfolding next
      same = at-put-other (end c ms).processors a.processor p _ nobody (λ z. n (sym z))

      owner-after : (mutex_at (next (end c ms) a) m).owner ≡ k
      unfolding next
      owner-after =
          let l = legal (end c ms) a e in
          eqb-true _ _
          (owner_alike (end c ms) g p here (omega (arith, h.current, low)) a.processor l.processor n l.room m (action_of a.action) a.operand ∙
          eq-eqb _ _ (owner ∙ sym h.current)) ∙
          h.current

      more : Spent c x p m k (ms ++ a ∷ [])
      more =
          let run_is = run_snoc ms (start c) a in
          record {
            position = ap (λ (s : State). (processor_at s p).position) run_is ∙ ap (λ r. r.position) same ∙ h.position;
            current = ap (λ (s : State). (processor_at s p).current) run_is ∙ ap (λ r. r.current) same ∙ h.current;
            spent = omega (arith, h.spent, progress_snoc ms (start c) a k);
            owner =
                owner-is c right (ms ++ a ∷ []) (accepted_snoc ms (start c) a ok e) m k rm low ∙
                eq-eqb _ k (ap (λ (s : State). (mutex_at s m).owner) run_is ∙ owner-after);
          }

    pub spent-turn : (q : ℕ) → Spent c x p m k (turn_after c x ms q)
    spent-turn q =
        choose-by (Spent c x p m k) (eqb (turn_cause c x ms q) 0)
        (λ e.
        let z = eqb-true (turn_cause c x ms q) 0 e in
        more (turned c x ms q) z
        (λ i. never (ap (turn_cause c x ms) (sym i ∙ turn-processor (end c ms) (progress (start c) ms) x q) ∙ z)))
        (λ e. h)

  pub stuck_class : (ps : List ℕ) (ms : List Move) → accepted (start c) ms ≡ true → Spent c x p m k ms → Stuck c x p m k (class_moves c x ms ps)
  unfolding class_moves
  stuck_class [] ms ok h = stuck ms ok h
  stuck_class (q ∷ ps) ms ok h = stuck_class ps (turn_after c x ms q) (accepted-turn c x ms q ok) (spent-turn ms ok h q)

pub spent_owners : SpentOwners
spent_owners c x p m k ms right ok rp rm h ps = stuck_class c x right p m k rp rm ps ms ok h
