-- The lines of a class, from the buffers with its answers and its pictures.
use Rattle.std.specs.Prelude.{ℕ, List, [], ◌∷◌, ◌++◌, take, drop}
use Rattle.command.specs.Printing.{decimal, hex, line_feed}

-- `size`: the bytes of a picture
unfoldable pub turn_lines : ℕ → List ℕ → List ℕ → List ℕ
turn_lines size [] pictures = []
turn_lines size (a ∷ answers) pictures = (decimal a ++ line_feed) ++ (hex (take size pictures) ++ line_feed) ++ turn_lines size answers (drop size pictures)
