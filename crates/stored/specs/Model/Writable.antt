-- What is asked of a record that is written to a buffer.
-- Assumes nothing.
use Rattle.std.specs.Prelude.{ℕ, ◌+◌, ◌≤◌, true, List, ◌≡◌, length}
use Rattle.state.specs.declared.Session.{Session}
use Rattle.state.specs.Rules.{session_ok}
use Rattle.picture.specs.Picture.{picture_length}

-- it is a session's, and its bytes fit
pub record Writable (r : Session) (b : List ℕ) : Type 0 where
  pub valid : session_ok r ≡ true
  pub fits : picture_length r.state + 3 ≤ length b
