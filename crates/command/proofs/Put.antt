-- Laws of a buffer that text is added to.
use Prim.Native.Nat.{ℕ, ◌+◌, ◌-◌, ◌*◌, ◌/◌, ◌%◌, ◌≤◌, ◌<◌, min}
use native.Mathlib.Numerals.{add-one}
use native.Mathlib.Omega.{arith}
use mathlib.Core.Bool.{Bool, true, false}
use mathlib.Core.Path.{◌≡◌, refl, sym, ap, ap₂, ◌∙◌}
use mathlib.Core.List.{List, [], ◌∷◌, ◌++◌, append_assoc}
use lib.Dec.{leb}
use lib.ListN.{length, set, take, drop, length-append}
use lib.Seq.{paste, paste-zero, take-paste, drop-paste, length-paste, take-length, take-append-le, take-append-add, drop-drop}
use borrow.Author.Tests.{leb-true, leb-false, lt-ltb, le-ltb}
use Rattle.std.proofs.lemmas.Grind.{common_steps}
use Rattle.std.proofs.lemmas.List.{set_split}
use Rattle.command.specs.declared.printing.Page.{Page}
use Rattle.command.specs.Printing.{decimal, wide, hex_digit, hex, spaces, padded, Buffer, buffer_of, fitting, add, written}

-- a buffer keeps its length
pub add-length : (p : Buffer) (x : List ℕ) → length (add p x).bytes ≡ length p.bytes
unfolding add
add-length p x = go (leb p.len (length p.bytes)) refl
  where
    go : (t : Bool) → leb p.len (length p.bytes) ≡ t → length (add p x).bytes ≡ length p.bytes
    go true e = length-paste p.bytes p.len x (fitting p (length x)) (omega (arith, leb-true p.len (length p.bytes) e)) (omega arith)
    go false e =
        let n : fitting p (length x) ≡ 0 = omega (arith, leb-false p.len (length p.bytes) e) in
        rw n (ap length (sym (paste-zero p.bytes p.len x)))

-- ---- two texts one after the other are one

paste-paste : (d x y : List ℕ) (at m : ℕ) → at + length x ≤ length d → paste (paste d at x (length x)) (at + length x) y m ≡ paste d at (x ++ y) (length x + m)
paste-paste d x y at m h =
    let k : at ≤ length d = omega arith in
    let n : length x ≤ length x = omega arith in
    let t = take-paste d at x (length x) k n in
    let r = sym (drop-drop m (at + length x) (paste d at x (length x))) ∙ ap (drop m) (drop-paste d at x (length x) k n) ∙ drop-drop m (at + length x) d in
    let e : at + length x + m ≡ at + (length x + m) = omega arith in
    rw (t, r, take-append-add x y m, take-length, e) (ap (λ (l : List ℕ). l ++ drop (at + (length x + m)) d) (append_assoc (take at d) x (take m y)))

same-buffer : (b c : List ℕ) (m n : ℕ) → b ≡ c → m ≡ n → buffer_of b m ≡ buffer_of c n
same-buffer b c m n e f = ap₂ buffer_of e f

-- a full buffer takes no more
pub add-full : (p : Buffer) (x : List ℕ) → length p.bytes ≤ p.len → add p x ≡ p
unfolding add
add-full p x h =
    let n : fitting p (length x) ≡ 0 = omega arith in
    rw n (same-buffer _ p.bytes _ p.len (sym (paste-zero p.bytes p.len x)) (omega arith))

-- where the first text fits
add-room : (p : Buffer) (x y : List ℕ) → p.len + length x ≤ length p.bytes → add (add p x) y ≡ add p (x ++ y)
unfolding add
add-room p x y h =
    let n : fitting p (length x) ≡ length x = omega arith in
    let l = length-paste p.bytes p.len x (length x) h (omega arith) in
    let w : fitting p (length (x ++ y)) ≡ length x + min (length y) (length p.bytes - (p.len + length x)) = rw (length-append x y) (omega arith) in
    rw (n, l, w) (same-buffer _ _ _ _ (paste-paste p.bytes x y p.len (min (length y) (length p.bytes - (p.len + length x))) h) (omega arith))

-- where it does not
add-cut : (p : Buffer) (x y : List ℕ) → length p.bytes < p.len + length x → add (add p x) y ≡ add p (x ++ y)
unfolding add
add-cut p x y h =
    let w : fitting p (length (x ++ y)) ≡ fitting p (length x) = rw (length-append x y) (omega arith) in
    add-full (add p x) y (omega (arith, add-length p x))
    ∙ rw w (same-buffer _ _ _ _ (rw (take-append-le (fitting p (length x)) x y (omega arith))) refl)

pub add-add : (p : Buffer) (x y : List ℕ) → add (add p x) y ≡ add p (x ++ y)
add-add p x y = go (leb (p.len + length x) (length p.bytes)) refl
  where
    go : (t : Bool) → leb (p.len + length x) (length p.bytes) ≡ t → add (add p x) y ≡ add p (x ++ y)
    go true e = add-room p x y (leb-true (p.len + length x) (length p.bytes) e)
    go false e = add-cut p x y (leb-false (p.len + length x) (length p.bytes) e)

pub add_none : (p : Buffer) → add p [] ≡ p
unfolding add
add_none p =
    let n : fitting p 0 ≡ 0 = omega arith in
    rw n (same-buffer _ p.bytes _ p.len (sym (paste-zero p.bytes p.len [])) (omega arith))

-- ---- columns

-- where a text fits, it is there whole
pub add-len : (p : Buffer) (x : List ℕ) → p.len + length x ≤ length p.bytes → (add p x).len ≡ p.len + length x
unfolding add
add-len p x h = omega arith

-- where it does not, the buffer is full
add-over : (p : Buffer) (x : List ℕ) → length p.bytes < p.len + length x → length (add p x).bytes ≤ (add p x).len
unfolding add
add-over p x h = let l = add-length p x in omega arith

-- a text, and spaces up to the width of the column that began with it
pub column : (p q : Buffer) (x : List ℕ) (w : ℕ) → q ≡ add p x → add q (spaces (w - (q.len - p.len))) ≡ add p (padded w x)
unfolding padded
column p q x w e = go (leb (p.len + length x) (length p.bytes)) refl
  where
    go : (t : Bool) → leb (p.len + length x) (length p.bytes) ≡ t → add q (spaces (w - (q.len - p.len))) ≡ add p (x ++ spaces (w - length x))
    go true h =
        let l = add-len p x (leb-true (p.len + length x) (length p.bytes) h) in
        let n : (add p x).len - p.len ≡ length x = omega arith in
        rw (e, n) (add-add p x (spaces (w - length x)))
    go false h =
        let f = add-over p x (leb-false (p.len + length x) (length p.bytes) h) in
        rw e (add-full (add p x) (spaces (w - ((add p x).len - p.len))) f ∙ sym (add-full (add p x) (spaces (w - length x)) f) ∙ add-add p x (spaces (w - length x)))

-- ---- numbers

pub one_digit : (n : ℕ) → n < 10 → decimal n ≡ (48 + n % 10) ∷ []
unfolding decimal
one_digit n h = let e : n % 10 ≡ n = omega arith in rw (lt-ltb n 10 h, e)

pub two_digits : (n : ℕ) → 10 ≤ n → n < 100 → decimal n ≡ (48 + n / 10 % 10) ∷ (48 + n % 10) ∷ []
unfolding decimal
two_digits n l h = let e : n / 10 % 10 ≡ n / 10 = omega arith in rw (le-ltb n 10 l, lt-ltb n 100 h, e)

pub three_digits : (n : ℕ) → 100 ≤ n → n < 1000 → decimal n ≡ (48 + n / 100 % 10) ∷ (48 + n / 10 % 10) ∷ (48 + n % 10) ∷ []
unfolding decimal
three_digits n l h =
    let e : n / 100 % 10 ≡ n / 100 = omega arith in
    let k : 10 ≤ n = omega arith in
    rw (le-ltb n 10 k, le-ltb n 100 l, e)

pub wide_short : (n : ℕ) → n < 1000 → decimal n ≡ wide n
unfolding wide
wide_short n h = rw (lt-ltb n 1000 h)

pub ruleset decimals = (one_digit, two_digits, three_digits)

-- ---- hexadecimal digits

pub hex-length : (l : List ℕ) → length (hex l) ≡ 2 * length l
unfolding hex
hex-length [] = refl
hex-length (b ∷ l) = omega (arith, hex-length l)

pub hex_append : (l m : List ℕ) → hex (l ++ m) ≡ hex l ++ hex m
unfolding hex
hex_append [] m = refl
hex_append (b ∷ l) m = ap (λ (x : List ℕ). hex_digit (b / 16) ∷ hex_digit (b % 16) ∷ x) (hex_append l m)

-- ---- pages

one-byte : (d : List ℕ) (at b : ℕ) → at < length d → set d at b ≡ paste d at (b ∷ []) 1
one-byte d at b h = rw (set_split d at b h, add-one, append_assoc)

-- one byte more, where there is room and where there is none
pub write_one : (p : Page) (b : ℕ) → p.len < length p.bytes.now → record p { bytes = record p.bytes { now = set p.bytes.now p.len b }; len = p.len + 1 } ≡ written p (b ∷ [])
unfolding written add
write_one p b h = let n : fitting (buffer_of p.bytes.now p.len) 1 ≡ 1 = omega arith in rw (n, one-byte p.bytes.now p.len b h)

pub write_full : (p : Page) (b : ℕ) → length p.bytes.now ≤ p.len → p ≡ written p (b ∷ [])
unfolding written
write_full p b h = let e = add-full (buffer_of p.bytes.now p.len) (b ∷ []) h in rw e

pub written_twice : (p : Page) (x y : List ℕ) → written (written p x) y ≡ written p (x ++ y)
unfolding written
written_twice p x y = let e = add-add (buffer_of p.bytes.now p.len) x y in rw e

pub written_none : (p : Page) → written p [] ≡ p
unfolding written
written_none p = let e = add_none (buffer_of p.bytes.now p.len) in rw e

-- a text, and spaces up to the width of the column that began with it
pub written_column : (p : Page) (x : List ℕ) (w : ℕ) → written (written p x) (spaces (w - ((written p x).len - p.len))) ≡ written p (padded w x)
unfolding written
written_column p x w = let e = column (buffer_of p.bytes.now p.len) _ x w refl in rw e

-- the same two from the whole text to its parts
pub written_append : (p : Page) (x y : List ℕ) → written p (x ++ y) ≡ written (written p x) y
written_append p x y = sym (written_twice p x y)

pub written_padded : (p : Page) (w : ℕ) (x : List ℕ) → written p (padded w x) ≡ written (written p x) (spaces (w - ((written p x).len - p.len)))
written_padded p w x = sym (written_column p x w)

-- a text put part by part, and what comes of texts put one after the other
pub ruleset page_parts = (written_append, written_padded, written_none)

pub ruleset page_steps = (common_steps, written_twice, written_none, written_column)
