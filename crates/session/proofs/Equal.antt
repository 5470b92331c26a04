-- Two states are the same exactly if `==` says so.
-- Assumes nothing.
use mathlib.Core.Bool.{Bool, true}
use mathlib.Core.Path.{◌≡◌}
use native.Mathlib.Omega.{arith}
use lib.Pointwise.{pointwise, pointwise_decides, bytes_decides}
use Rattle.state.specs.contracts.ThreadPartialEq.TheImpl as thread
use Rattle.state.specs.contracts.ProcessorPartialEq.TheImpl as processor
use Rattle.state.specs.contracts.MutexPartialEq.TheImpl as mutex
use Rattle.state.specs.contracts.StatePartialEq.TheImpl as state

abbrev Exact : {A : Type 0} → (A → A → Bool) → Type 0
Exact {A} E = (x y : A) → (E x y ≡ true → x ≡ y) × (x ≡ y → E x y ≡ true)

thread_exact : Exact thread.eq-value.it
thread_exact x y = (λ h. grind arith, λ e. grind arith)

processor_exact : Exact processor.eq-value.it
processor_exact x y = (λ h. grind arith, λ e. grind arith)

mutex_exact : Exact mutex.eq-value.it
mutex_exact x y = (λ h. grind arith, λ e. grind arith)

threads_exact : Exact (pointwise thread.eq-value.it)
threads_exact = pointwise_decides thread_exact

processors_exact : Exact (pointwise processor.eq-value.it)
processors_exact = pointwise_decides processor_exact

mutexes_exact : Exact (pointwise mutex.eq-value.it)
mutexes_exact = pointwise_decides mutex_exact

pub state_exact : Exact state.eq-value.it
state_exact x y = (
  λ h. grind (arith, bytes_decides, threads_exact, processors_exact, mutexes_exact),
  λ e. grind (arith, bytes_decides, threads_exact, processors_exact, mutexes_exact),
)
