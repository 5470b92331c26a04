-- What reading and the length's test leave, as an inner contract states it.
-- Assumes nothing.
use Rattle.std.specs.Prelude.{ℕ, ◌≤◌, List, ◌≡◌, length}
use Rattle.picture.specs.Picture.{byte}
use Rattle.reference.specs.Picture.{picture_bytes}

-- sizes in their ranges, and two pictures of their length
pub record Comparable (b c : List ℕ) : Type 0 where
  pub p_least : 1 ≤ byte b 0
  pub p_most : byte b 0 ≤ 8
  pub t_most : byte b 1 ≤ 32
  pub m_most : byte b 2 ≤ 8
  pub length_is : length b ≡ picture_bytes (byte b 0) (byte b 1) (byte b 2)
  pub same_length : length c ≡ length b
