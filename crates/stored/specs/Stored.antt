-- A session as bytes that the caller keeps: the picture of its state, then B, then the number kept, high byte first.
-- Assumes nothing.
use Rattle.std.specs.Prelude.{ℕ, ◌+◌, Bool, ◌&&◌, List, ◌∷◌, ◌++◌, eqb, leb, length, take}
use Rattle.state.specs.declared.Session.{Session}
use Rattle.state.specs.Record.{zero_session}
use Rattle.state.specs.Association.{decode}
use Rattle.reference.specs.Lists.{choose, with_front}
use Rattle.reference.specs.Picture.{picture, picture_bytes, two}
use Rattle.picture.specs.Picture.{byte, two_at, read, read_refusal}

-- the bytes of a session
unfoldable pub session_bytes : Session → List ℕ
session_bytes r = picture (decode r.state) ++ (r.initial ∷ two r.kept)

-- where the picture at the front of bytes ends, by the sizes that it begins with
abbrev pub picture_end : List ℕ → ℕ
picture_end b = picture_bytes (byte b 0) (byte b 1) (byte b 2)

abbrev pub picture_in : List ℕ → List ℕ
picture_in b = take (picture_end b) b

-- a picture that reads is there, with three bytes behind it
unfoldable pub is_there : List ℕ → Bool
is_there b = leb (picture_end b + 3) (length b) && eqb (read_refusal (picture_in b)) 0

-- the record at the front of bytes, the all-zero one where there is none; the bytes behind it are not looked at
unfoldable pub session_in : List ℕ → Session
session_in b =
    choose (is_there b)
    (record { state = (read (picture_in b)).state; initial = byte b (picture_end b); kept = two_at b (picture_end b + 1) })
    zero_session

-- the bytes after a call that was answered by a number: 0, the record's bytes are at the front; else nothing has changed
abbrev pub bytes_after : List ℕ → ℕ → Session → List ℕ
bytes_after b n r = choose (eqb n 0) (with_front b (session_bytes r)) b
