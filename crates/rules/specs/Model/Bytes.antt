-- The thread records as bytes, as a picture has them: 4 for each thread, thread k at 4 (k - 1): status, holder, next, 0.
-- Assumes nothing.
use Rattle.std.specs.Prelude.{ℕ, ◌+◌, ◌-◌, ◌*◌, List, get_or}
use Rattle.reference.specs.Lists.{choose, in_range}
use Rattle.state.specs.declared.Thread.{Thread}
use Rattle.state.specs.Record.{zero_thread}

-- thread k, of at most 32: the zero record where there is no such thread or the bytes end before it
unfoldable pub thread_in_bytes : List ℕ → ℕ → Thread
thread_in_bytes bytes k =
    choose (in_range 1 32 k)
    (record { status = get_or bytes (4 * (k - 1)) 0; holder = get_or bytes (4 * (k - 1) + 1) 0; next = get_or bytes (4 * (k - 1) + 2) 0 })
    zero_thread
