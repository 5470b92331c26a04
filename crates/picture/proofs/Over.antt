-- A buffer with bytes at its front: what stores make, and what a part written in its place makes.
-- Assumes nothing.
use Prim.Native.Nat.{ℕ, ◌+◌, ◌-◌, ◌≤◌, ◌<◌}
use mathlib.Core.Path.{◌≡◌, ap, ◌∙◌}
use mathlib.Core.List.{List, ◌++◌, append_assoc, append-nil}
use native.Mathlib.Nat.{zero-add}
use native.Mathlib.Omega.{arith}
use lib.ListN.{length, take, drop, length-drop, length-append, drop_of_length-le}
use lib.Seq.{sets, sets-eq, take_all, take_at, drop_at, drop-drop}
use borrow.Author.Tests.{le-leb, lt-leb}
use Rattle.picture.specs.Model.Parts.{over}

pub room : (b x : List ℕ) → length x ≤ length b → over b x ≡ x ++ drop (length x) b
unfolding over
room b x h = rw (le-leb (length x) (length b) h)

pub no_room : (b x : List ℕ) → length b < length x → b ≡ over b x
unfolding over
no_room b x h = rw (lt-leb (length x) (length b) h)

-- stores from the front on
pub stored : (b x : List ℕ) → length x ≤ length b → sets b 0 x ≡ over b x
stored b x h = sets-eq x b 0 (omega arith) ∙ rw (room b x h, zero-add)

pub length_over : (b x : List ℕ) → length x ≤ length b → length (over b x) ≡ length b
length_over b x h = rw (room b x h) (simp (length-append, length-drop) (omega arith))

-- a part that starts at n, behind what is written already, written at its front and back in its place
pub grow : (b x y : List ℕ) (n : ℕ) → length x ≡ n → n + length y ≤ length b
    → take n (over b x) ++ (over (take (length (over b x) - n) (drop n (over b x))) y ++ drop (length (over b x) - n) (drop n (over b x))) ≡ over b (x ++ y)
grow b x y n e h =
    let m : length (over b x) ≡ length b = length_over b x (omega arith) in
    let o = room b x (omega arith) in
    let d : drop n (over b x) ≡ drop n b = rw o (drop_at x (drop (length x) b) n e ∙ ap (λ (k : ℕ). drop k b) e) in
    let k : take n (over b x) ≡ x = rw o (take_at x (drop (length x) b) n e) in
    let l : length (drop n b) ≡ length b - n = length-drop n b in
    rw (d, m, k, take_all (length b - n) (drop n b) (omega arith), drop_of_length-le (drop n b) {i = length b - n} (omega arith), room (drop n b) y (omega arith), room b (x ++ y) (simp length-append (omega arith)))
    (simp (append_assoc, append-nil, length-append, drop-drop, e))

-- the part that starts at n, and the buffer with y there
abbrev pub part : List ℕ → ℕ → List ℕ
part b n = take (length b - n) (drop n b)

abbrev pub back : List ℕ → ℕ → List ℕ → List ℕ
back b n y = take n b ++ (y ++ drop (length b - n) (drop n b))

-- four parts, each written behind the one before
pub four : (b h p m t y₁ y₂ y₃ y₄ : List ℕ) (n₁ n₂ n₃ : ℕ) → length h ≡ n₁ → n₁ + length p ≡ n₂ → n₂ + length m ≡ n₃ → n₃ + length t ≤ length b
    → y₁ ≡ over b h → y₂ ≡ over (part y₁ n₁) p → y₃ ≡ over (part (back y₁ n₁ y₂) n₂) m → y₄ ≡ over (part (back (back y₁ n₁ y₂) n₂ y₃) n₃) t
    → back (back (back y₁ n₁ y₂) n₂ y₃) n₃ y₄ ≡ over b (((h ++ p) ++ m) ++ t)
four b h p m t y₁ y₂ y₃ y₄ n₁ n₂ n₃ lh lp lm lt e₁ e₂ e₃ e₄ =
    let x₂ : back y₁ n₁ y₂ ≡ over b (h ++ p) = rw (e₂, e₁) (grow b h p n₁ lh (omega arith)) in
    let l₂ : length (h ++ p) ≡ n₂ = length-append h p ∙ omega arith in
    let x₃ : back (back y₁ n₁ y₂) n₂ y₃ ≡ over b ((h ++ p) ++ m) = rw (e₃, x₂) (grow b (h ++ p) m n₂ l₂ (omega arith)) in
    let l₃ : length ((h ++ p) ++ m) ≡ n₃ = length-append (h ++ p) m ∙ omega arith in
    rw (e₄, x₃) (grow b ((h ++ p) ++ m) t n₃ l₃ lt)
