-- What the code puts, part by part, is the row.
-- Assumes nothing.
use Prim.Native.Nat.{ℕ, ◌+◌, ◌-◌, ◌*◌}
use mathlib.Core.Bool.{Bool, true, false}
use mathlib.Core.List.{List, ◌++◌, append-nil}
use mathlib.Core.Path.{◌≡◌, refl, ap, ◌∙◌}
use borrow.Author.Tests.{eq-eqb, ne_eqb}
use Rattle.command.specs.Command.{field}
use Rattle.command.specs.declared.printing.Page.{Page}
use Rattle.command.specs.Printing.{text, spaces, written}
use Rattle.command.proofs.Put.{written_twice, written_column}
use Rattle.view.specs.Words.{line_name, action_word}
use Rattle.state.specs.declared.Thread.{Thread}
use Rattle.state.specs.declared.State.{State}
use Rattle.state.specs.Record.{processor_of}
use Rattle.state.proofs.Branch.{if_none, if_some}
use Rattle.reference.specs.Step.{move_of}
use Rattle.chart.specs.Chart.{deed, noted, queue_name}

-- ---- the deed: a go, a call without an operand, a call with one

module _ (r : State) (p a o : ℕ) where
  pub deed_go : a ≡ 0 → deed r (move_of p a o) ≡ line_name (processor_of r p).position
  unfolding deed
  deed_go e = if_none a _ _ e

  pub deed_bare : (a ≡ 0 → ⊥) → o ≡ 0 → deed r (move_of p a o) ≡ action_word a
  unfolding deed
  deed_bare h e = if_some a _ _ h ∙ ap (λ (x : List ℕ). action_word a ++ x) (if_none o _ _ e) ∙ append-nil (action_word a)

  pub deed_call : (a ≡ 0 → ⊥) → (o ≡ 0 → ⊥) → deed r (move_of p a o) ≡ action_word a ++ field o
  unfolding deed
  deed_call h k = if_some a _ _ h ∙ ap (λ (x : List ℕ). action_word a ++ x) (if_some o _ _ k)

pub ruleset deeds = (deed_go, deed_bare, deed_call)

-- ---- the name of a queue: of a mutex, the single ready one, of a processor

module _ (t : Thread) where
  pub mutex_queue : t.status ≡ 2 → queue_name t ≡ text "  queue" ++ field t.holder
  unfolding queue_name
  mutex_queue e = rw (eq-eqb t.status 2 e)

  pub single_queue : (t.status ≡ 2 → ⊥) → t.holder ≡ 0 → queue_name t ≡ text "  ready"
  unfolding queue_name text
  single_queue h e = rw (ne_eqb t.status 2 h) (ap (λ (x : List ℕ). text "  ready" ++ x) (if_none t.holder _ _ e))

  pub own_queue : (t.status ≡ 2 → ⊥) → (t.holder ≡ 0 → ⊥) → queue_name t ≡ text "  ready" ++ field t.holder
  unfolding queue_name
  own_queue h k = rw (ne_eqb t.status 2 h) (ap (λ (x : List ℕ). text "  ready" ++ x) (if_some t.holder _ _ k))

pub ruleset queue_names = (mutex_queue, single_queue, own_queue)

-- ---- a change behind a row

pub row_noted : (p q r : Page) (there : Bool) (count : ℕ) (row x : List ℕ) → q ≡ written p row → (there ≡ false → r ≡ q)
    → (there ≡ true → r ≡ written (written q (spaces (4 + 11 * count - (q.len - p.len)))) x) → r ≡ written p (noted there count row x)
unfolding noted
row_noted p q r true count row x e f g = g refl ∙ rw e (ap (λ (b : Page). written b x) (written_column p row (4 + 11 * count))) ∙ written_twice p _ x
row_noted p q r false count row x e f g = f refl ∙ e
