-- No move reads the choice, and with one processor both choices start alike: so both go through equal states.
-- Assumes nothing.
use Prim.Native.Nat.{ℕ, zero, suc, ◌-◌}
use mathlib.Core.List.{List, [], ◌∷◌}
use mathlib.Core.Path.{◌≡◌, refl, ap, ◌∙◌}
use lib.Dec.{eqb}
use lib.ListN.{set}
use Rattle.reference.specs.Lists.{if_zero, around, those, tabulate, find}
use Rattle.reference.specs.State.{State}
use Rattle.reference.specs.Start.{Config, config_cause, itself, start}
use Rattle.reference.specs.Step.{Action, go, lock, trylock, unlock, yield, exit, create, Move, action_of, next, run}
use Rattle.reference.specs.Cause.{operand_fits, cause}
use Rattle.reference.specs.Picture.{Entry, entry, or_else, thread_entry, stands_in, header_bytes, processor_record}
use Rattle.reference.specs.OneProcessor.{choosing, with_stealing, unnamed, ending, Alike}

-- ---- no move reads the choice

fits-stealing : (n : ℕ) (s : State) (a : Action) (o : ℕ) → operand_fits (with_stealing n s) a o ≡ operand_fits s a o
fits-stealing n s go o = refl
fits-stealing n s lock o = refl
fits-stealing n s trylock o = refl
fits-stealing n s unlock o = refl
fits-stealing n s yield o = refl
fits-stealing n s exit o = refl
fits-stealing n s create o = refl

cause-stealing : (n : ℕ) (s : State) (a : Move) → cause (with_stealing n s) a ≡ cause s a
unfolding cause
cause-stealing n s a = rw (fits-stealing n s (action_of a.action) a.operand)

next-stealing : (n : ℕ) (s : State) (a : Move) → next (with_stealing n s) a ≡ with_stealing n (next s a)
unfolding next
next-stealing n s a = refl

run-stealing : (ms : List Move) (n : ℕ) (s : State) → run (with_stealing n s) ms ≡ with_stealing n (run s ms)
unfolding run
run-stealing [] n s = refl
run-stealing (a ∷ rest) n s = ap (λ (e : State). run e rest) (next-stealing n s a) ∙ run-stealing rest n (next s a)

-- ---- with one processor there is one queue, whatever the choice

start-stealing : (c : Config) → c.P ≡ 1 → start (choosing 1 c) ≡ with_stealing 1 (start (choosing 0 c))
unfolding start
start-stealing c one =
    let dealt : ℕ → List (List ℕ) = λ r. tabulate (λ q. those (λ k. eqb (around r k) q) (tabulate itself (suc c.P) (c.B - c.P))) 1 r in
    ap (λ (x : List (List ℕ)). record { P = c.P; T = c.T; M = c.M; stealing = 1; ready = x; processors = (start c).processors; mutexes = (start c).mutexes; lives = (start c).lives; applied = 0 })
    (ap dealt one)

-- ---- what the pictures show

-- a ready thread's entry, whatever queue it names
unnamed-ready : (q : ℕ) (f g next : ℕ → ℕ) (later : Entry) → unnamed (or_else q (λ q. entry 1 (f q) (next q)) later) ≡ unnamed (or_else q (λ q. entry 1 (g q) (next q)) later)
unnamed-ready zero f g next later = refl
unnamed-ready (suc q) f g next later = refl

thread-stealing : (n m : ℕ) (s : State) (k : ℕ) → unnamed (thread_entry (with_stealing n s) k) ≡ unnamed (thread_entry (with_stealing m s) k)
unfolding thread_entry
thread-stealing n m s k = unnamed-ready (find (stands_in k) s.ready) (if_zero n 0) (if_zero m 0) _ _

pub alike : (c : Config) → c.P ≡ 1 → (ms : List Move) → Alike c ms
unfolding config_cause
alike c one ms =
    record {
      starts = refl;
      causes = λ a. ap (λ (s : State). cause s a) states ∙ cause-stealing 1 (ending c ms 0) a;
      states = states;
      header = ap (λ (s : State). set (set (header_bytes s) 3 0) 7 0) states ∙ refl;
      processor = ap (λ (s : State). set (processor_record s 1) 11 0) states ∙ refl;
      mutexes = ap (λ (s : State). s.mutexes) states;
      threads = λ k. ap (λ (s : State). unnamed (thread_entry s k)) states ∙ thread-stealing 1 (ending c ms 0).stealing (ending c ms 0) k;
    }
  where
    states : ending c ms 1 ≡ with_stealing 1 (ending c ms 0)
    states = ap (λ (s : State). run s ms) (start-stealing c one) ∙ run-stealing ms 1 (start (choosing 0 c))
