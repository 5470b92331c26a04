-- The code refuses a move on the record of a state for the reasons for which the reference machine does, and sees a broken rule where it does.
-- Assumes nothing.
use Prim.Native.Nat.{ℕ, ◌≤◌}
use mathlib.Core.Bool.{Bool, true, false, ◌&&◌, ◌||◌, not, true≢false}
use mathlib.Core.List.{List, [], ◌∷◌}
use mathlib.Core.Path.{◌≡◌, refl, ap, sym, ◌∙◌}
use native.Mathlib.Numerals.{add-one}
use native.Mathlib.Omega.{arith}
use lib.Dec.{eqb, leb, ltb}
use borrow.Author.Tests.{leb-true, not-false}
use Rattle.state.specs.declared.Thread.{Thread}
use Rattle.state.specs.declared.Processor as declared
use Rattle.state.specs.declared.Mutex as declared-mutex
use Rattle.state.specs.Record.{thread_of, processor_of}
use Rattle.state.specs.Association.{encode}
use Rattle.step.specs.declared.View as code
use Rattle.step.specs.Model.Moves.{index_of, sizes_of, owns_none as code-owns-none, facts_of, owning_of, move_view, cause_seen, cause_of, nothing_there, breaks_at, step_breaks_of, view_of}
use Rattle.reference.specs.Refusal.{refuse}
use Rattle.reference.specs.Lists.{choose, in_range}
use Rattle.reference.specs.State as reference
use Rattle.reference.specs.State.{State, Processor, Line, L1, L9, TL3, U1, H5, Life, new, live, terminated, same_line, same_life, processor_at, mutex_at, life_at}
use Rattle.reference.specs.Step.{Move, Action, action_of, view, works_on}
use Rattle.reference.specs.Cause.{operand_fits, is_go, is_unlock, is_exit, is_create, at_app, owns_none, first_cause, cause}
use Rattle.reference.specs.Break.{is_empty, line_breaks, step_breaks}
use Rattle.reference.specs.Picture.{Entry, thread_entry}
use Rattle.reference.specs.Safe.{In}
use Rattle.reference.proofs.Tests.{range_true}
use Rattle.reference.proofs.Each.{each_agree, each_within}
use Rattle.reference.proofs.Same.{same_line_exact}
use Rattle.reference.proofs.Legal.{legal}
use Rattle.association.proofs.Spots.{Spot, AtSpot, entry_for, spot_entry, spot_of}
use Rattle.association.proofs.Shown.{Fits, read-processor, read-mutex, read-entry, read_taken}
use Rattle.shown.proofs.Regular.{Registers, Regular, regular_fits}
use Rattle.state.specs.Model.Access.{taken}
use Rattle.state.proofs.Numbers.{queue-mutex, queue-ready}
use Rattle.association.proofs.Transfers.{number, works_there}
use Rattle.agreement.proofs.Index.{index_is}
use Rattle.agreement.proofs.View.{found, seen, by-action}

-- what comes later matters only where this test lets it
later : (b : Bool) (n : ℕ) {x y : ℕ} → (b ≡ false → x ≡ y) → refuse b n x ≡ refuse b n y
later true n h = refl
later false n h = h refl

and_later : (a : Bool) {b c : Bool} → (a ≡ true → b ≡ c) → a && b ≡ a && c
and_later true h = h refl
and_later false h = refl

in_queue : (b : Bool) → eqb (choose b 2 1) 0 ≡ false
in_queue true = refl
in_queue false = refl

-- ---- the causes

module _ (s : State) (h : Fits s) where
  -- a thread is new where its status is 0
  new-status : (k : ℕ) → In s.T k → eqb (thread_of (encode s) k).status 0 ≡ same_life (life_at s k) new
  new-status k i = ap (λ (t : Thread). eqb t.status 0) (read-entry s h k i) ∙ by (life_at s k) refl
    where
      at_spot : (x : Spot) → AtSpot s k x → eqb (thread_entry s k).status 0 ≡ eqb (entry_for s k x).status 0
      at_spot x a = ap (λ (e : Entry). eqb e.status 0) (spot_entry s h.placed k i x a)

      not_new : (x : Spot) → AtSpot s k x → life_at s k ≡ live → eqb (entry_for s k x).status 0 ≡ false
      not_new (Spot.queued q) a e = in_queue (in_range 1 8 q)
      not_new (Spot.current p) a e = refl
      not_new (Spot.transit p) a e = refl
      not_new Spot.new a e = absurd (true≢false (ap (λ (l : Life). same_life l live) (sym e ∙ a)))
      not_new Spot.terminated a e = refl

      by : (l : Life) → life_at s k ≡ l → eqb (thread_entry s k).status 0 ≡ same_life l new
      by new e = at_spot Spot.new e
      by live e = let x = spot_of s h.placed k i h.m_most in at_spot x.0 x.1 ∙ not_new x.0 x.1 e
      by terminated e = at_spot Spot.terminated e

  -- the causes by the action's number: on the record, and in the state
  abbrev Same : ℕ → ℕ → ℕ → Action → Type 0
  Same p o n a =
      first_cause (facts_of (in_range 1 s.P p) (eqb n 0) (sizes_of (encode s)) (move_view (encode s) p n o) (owning_of (encode s) p) (thread_of (encode s) o).status n o) ≡
      first_cause (record {
        there = in_range 1 s.P p;
        fits = leb n 6 && operand_fits s a o;
        full = leb 4000 s.applied;
        goes = is_go a;
        at_app = at_app s p;
        unlocks = is_unlock a;
        owner = eqb (mutex_at s o).owner (processor_at s p).current;
        creates = is_create a;
        is_new = same_life (life_at s o) new;
        exits = is_exit a;
        owning = not (owns_none s (processor_at s p).current);
      })

  -- a thread owns no mutex of the record where it owns none of the state
  owns-shows : (k : ℕ) → code-owns-none (encode s).mutexes s.M k ≡ owns_none s k
  owns-shows k =
      each_agree _ _ 1 8 (λ m l. ap (λ (x : declared-mutex.Mutex). ltb s.M m || not (eqb x.owner k)) (read-mutex s h m)) ∙
      each_within (λ m. not (eqb (mutex_at s m).owner k)) s.M 8 h.m_most

  same : (p o n : ℕ) → n ≤ 6 → Same p o n (action_of n)
  unfolding encode
  same p o =
      by-action (Same p o)
      (rw (read-processor s h p)) (rw (read-processor s h p)) (rw (read-processor s h p)) (rw (read-processor s h p, read-mutex s h o))
      (rw (read-processor s h p)) (rw (read-processor s h p, owns-shows (processor_at s p).current))
      (rw (read-processor s h p)
      (later (not (in_range 1 s.P p)) 2 (λ e. later (not (in_range 1 s.T o)) 3 (λ f. rw (new-status o (range_true 1 s.T o (not-false _ f)))))))

  pub cause-shows : (a : Move) → cause_of (encode s) a.processor a.action a.operand ≡ cause s a
  unfolding cause_seen cause encode
  cause-shows a = by (leb a.action 6) refl
    where
      by : (b : Bool) → leb a.action 6 ≡ b → cause_of (encode s) a.processor a.action a.operand ≡ cause s a
      by true e = same a.processor a.operand a.action (leb-true a.action 6 e)
      by false e = rw e

  pub mutex-shows : (p : ℕ) → (processor_of (encode s) p).mutex ≡ (processor_at s p).mutex
  mutex-shows p = ap (λ (r : declared.Processor). r.mutex) (read-processor s h p)

nothing_empty : (q : List ℕ) → nothing_there (found q) ≡ is_empty q
nothing_empty [] = refl
nothing_empty (x ∷ q) = refl

-- ---- 15 at a step

module _ (s : State) (g : Regular s) where
  abbrev h : Fits s
  h = regular_fits s g

  pub view-shows : (p m : ℕ) → In s.P p → view_of (encode s) p m ≡ seen s p m
  unfolding encode
  view-shows p m rp =
      let q : index_of s.stealing s.P p (processor_of (encode s) p) ≡ number s p =
      ap (index_of s.stealing s.P p) (read-processor s h p) ∙ index_is s g p rp in
      let r : taken (encode s).chains (index_of s.stealing s.P p (processor_of (encode s) p)) ≡ found (reference.queue_at s (works_on s p)) =
      ap (taken (encode s).chains) q ∙ read_taken s h (number s p) ∙ ap found (queue-ready s (works_on s p) (works_there s p h rp)) in
      λ i.
      record {
        number = p;
        proc = read-processor s h p i;
        mutex = read-mutex s h m i;
        queue = read_taken s h m i;
        ready = r i;
        index = q i;
        queues = sym g.placed.count i;
      }

  breaks_agree : (p : ℕ) → In s.P p → breaks_at s.T (seen s p (processor_at s p).mutex) ≡ line_breaks s.T (processor_at s p).position (view s p (processor_at s p).mutex)
  breaks_agree p i =
      let r : Processor = processor_at s p in
      let m : ℕ = r.mutex in
      let l : Line = r.position in
      rw (add-one s.T)
      (ap
      (λ (b : Bool). same_line l U1 && eqb (mutex_at s m).count 0 || (same_line l L1 || same_line l TL3) && ltb s.T (mutex_at s m).count || same_line l H5 && leb 4000 r.sequence || b)
      (and_later (same_line l L9)
      (λ e.
      let t : Registers s.P s.T s.M L9 r = rw (same_line_exact.only l L9 e) at (g.registers p i) in
      ap (λ (q : List ℕ). nothing_there (found q)) (queue-mutex s m (omega (arith, t.mutex-low, t.mutex-most, g.m_range))) ∙ nothing_empty (mutex_at s m).queue)))

  pub breaks_show : (a : Move) → cause s a ≡ 0 → step_breaks_of (encode s) a.processor a.action ≡ step_breaks s a
  unfolding step_breaks_of step_breaks encode
  breaks_show a e =
      let l = legal s a e in
      let f = regular_fits s g in
      ap (λ (v : code.View). eqb a.action 0 && breaks_at s.T v) (ap (view_of (encode s) a.processor) (mutex-shows s f a.processor) ∙ view-shows a.processor _ l.processor) ∙
      ap (λ (b : Bool). eqb a.action 0 && b) (breaks_agree a.processor l.processor) ∙
      ap (λ (b : Bool). b && line_breaks s.T (processor_at s a.processor).position (view s a.processor (processor_at s a.processor).mutex))
      (by-action (λ n x. eqb n 0 ≡ is_go x) refl refl refl refl refl refl refl a.action l.action)
