-- A number behind a space is read exactly where it is spelled.
use Prim.Native.Nat.{ℕ, ◌+◌, ◌*◌, ◌-◌, ◌/◌, ◌%◌, ◌≤◌, ◌<◌}
use native.Mathlib.Omega.{arith}
use mathlib.Core.Bool.{Bool, true, false, cond}
use mathlib.Core.Path.{◌≡◌, refl, sym, ap, ap₂, subst, ◌∙◌}
use mathlib.Core.List.{List, [], ◌∷◌, ◌++◌}
use lib.Dec.{eqb, leb, ltb}
use lib.ListN.{length, get_or, drop, length-append}
use borrow.Author.Tests.{lt-ltb, le-ltb, le-leb, ne_eqb, ltb-true, ltb-false, leb-true, eqb-true, eqb-false}
use Rattle.command.specs.Model.Reading.{is_digit, longer, number_of, read_number, read_field}
use Rattle.std.proofs.Common.{Option, Some, None}
use Rattle.std.specs.Option.{IfSome, option_and_then}
use Rattle.command.specs.Printing.{decimal, wide}
use Rattle.command.specs.Command.{field, wide_field}
use Rattle.command.proofs.Laws.{both}
use Rattle.command.proofs.Put.{wide_short}

-- ---- the digits of one to four places

wide_one : (n : ℕ) → n < 10 → wide n ≡ (48 + n) ∷ []
unfolding wide decimal
wide_one n h = rw (lt-ltb n 1000 (omega arith), lt-ltb n 10 h)

wide-two : (n : ℕ) → 10 ≤ n → n < 100 → wide n ≡ (48 + n / 10) ∷ (48 + n % 10) ∷ []
unfolding wide decimal
wide-two n h k = rw (lt-ltb n 1000 (omega arith), le-ltb n 10 h, lt-ltb n 100 k)

wide-three : (n : ℕ) → 100 ≤ n → n < 1000 → wide n ≡ (48 + n / 100) ∷ (48 + n / 10 % 10) ∷ (48 + n % 10) ∷ []
unfolding wide decimal
wide-three n h k = rw (lt-ltb n 1000 k, le-ltb n 10 (omega arith), le-ltb n 100 h)

wide_four : (n : ℕ) → 1000 ≤ n → n < 10000 → wide n ≡ (48 + n / 1000) ∷ (48 + n / 100 % 10) ∷ (48 + n / 10 % 10) ∷ (48 + n % 10) ∷ []
unfolding wide decimal
wide_four n h k = rw (le-ltb n 1000 h, lt-ltb (n / 1000) 10 (omega arith))

digit_yes : (b : ℕ) → 48 ≤ b → b ≤ 57 → is_digit b ≡ true
digit_yes b h k = rw (le-leb 48 b h, le-leb b 57 k)

-- ---- a number that is spelled is read

module _ (most n : ℕ) (rest : List ℕ) (m : n ≤ most) (e : is_digit (get_or rest 0 0) ≡ false) where
  spelled_one : n < 10 → read_number most (32 ∷ (48 + n) ∷ rest) ≡ Some (n, rest)
  unfolding read_number number_of
  spelled_one h =
      let v : 48 + n - 48 ≡ n = omega arith in
      rw (digit_yes (48 + n) (omega arith) (omega arith), e, v, le-leb n most m)

  spelled_two : 10 ≤ n → n < 100 → read_number most (32 ∷ (48 + n / 10) ∷ (48 + n % 10) ∷ rest) ≡ Some (n, rest)
  unfolding read_number number_of
  spelled_two h k =
      let v : longer (48 + n / 10 - 48) (48 + n % 10) ≡ n = omega arith in
      let z : 48 + n / 10 ≡ 48 → ⊥ = λ q. omega arith in
      rw (digit_yes (48 + n / 10) (omega arith) (omega arith), digit_yes (48 + n % 10) (omega arith) (omega arith), ne_eqb (48 + n / 10) 48 z, e, v, le-leb n most m)

  spelled_three : 100 ≤ n → n < 1000 → read_number most (32 ∷ (48 + n / 100) ∷ (48 + n / 10 % 10) ∷ (48 + n % 10) ∷ rest) ≡ Some (n, rest)
  unfolding read_number number_of
  spelled_three h k =
      let v : longer (longer (48 + n / 100 - 48) (48 + n / 10 % 10)) (48 + n % 10) ≡ n = omega arith in
      let z : 48 + n / 100 ≡ 48 → ⊥ = λ q. omega arith in
      rw (
        digit_yes (48 + n / 100) (omega arith) (omega arith),
        digit_yes (48 + n / 10 % 10) (omega arith) (omega arith),
        ne_eqb (48 + n / 100) 48 z,
        digit_yes (48 + n % 10) (omega arith) (omega arith),
        e,
        v,
        le-leb n most m,
      )

  spelled_four : 1000 ≤ n → n < 10000
      → read_number most (32 ∷ (48 + n / 1000) ∷ (48 + n / 100 % 10) ∷ (48 + n / 10 % 10) ∷ (48 + n % 10) ∷ rest) ≡ Some (n, rest)
  unfolding read_number number_of
  spelled_four h k =
      let x : n / 100 ≡ 10 * (n / 1000) + n / 100 % 10 = omega arith in
      let y : n / 10 ≡ 10 * (n / 100) + n / 10 % 10 = omega arith in
      let v : longer (longer (longer (48 + n / 1000 - 48) (48 + n / 100 % 10)) (48 + n / 10 % 10)) (48 + n % 10) ≡ n = omega arith in
      let z : 48 + n / 1000 ≡ 48 → ⊥ = λ q. omega arith in
      rw (
        digit_yes (48 + n / 1000) (omega arith) (omega arith),
        digit_yes (48 + n / 100 % 10) (omega arith) (omega arith),
        ne_eqb (48 + n / 1000) 48 z,
        digit_yes (48 + n / 10 % 10) (omega arith) (omega arith),
        digit_yes (48 + n % 10) (omega arith) (omega arith),
        v,
        le-leb n most m,
      )

  pub number_spelled : n < 10000 → read_number most (wide_field n ++ rest) ≡ Some (n, rest)
  unfolding wide_field
  number_spelled h = one (ltb n 10) refl
    where
      three : (t : Bool) → ltb n 1000 ≡ t → 100 ≤ n → read_number most (32 ∷ (wide n ++ rest)) ≡ Some (n, rest)
      three true t k = rw (wide-three n k (ltb-true n 1000 t)) (spelled_three k (ltb-true n 1000 t))
      three false t k = rw (wide_four n (ltb-false n 1000 t) h) (spelled_four (ltb-false n 1000 t) h)

      two : (t : Bool) → ltb n 100 ≡ t → 10 ≤ n → read_number most (32 ∷ (wide n ++ rest)) ≡ Some (n, rest)
      two true t k = rw (wide-two n k (ltb-true n 100 t)) (spelled_two k (ltb-true n 100 t))
      two false t k = three (ltb n 1000) refl (ltb-false n 100 t)

      one : (t : Bool) → ltb n 10 ≡ t → read_number most (32 ∷ (wide n ++ rest)) ≡ Some (n, rest)
      one true t = rw (wide_one n (ltb-true n 10 t)) (spelled_one (ltb-true n 10 t))
      one false t = two (ltb n 100) refl (ltb-false n 10 t)

-- a byte's field
byte-field : (n : ℕ) → n ≤ 255 → wide_field n ≡ field n
unfolding field wide_field
byte-field n h = ap (λ (d : List ℕ). 32 ∷ d) (sym (wide_short n (omega arith)))

pub field_spelled : (n : ℕ) (rest : List ℕ) → n ≤ 255 → is_digit (get_or rest 0 0) ≡ false → read_field (field n ++ rest) ≡ Some (n, rest)
unfolding read_field
field_spelled n rest h e = rw (← byte-field n h, number_spelled 255 n rest h e (omega arith))

-- ---- a number that is read is spelled

-- the bytes that were read stand at the front
front-two : (l : List ℕ) → 0 < get_or l 0 0 → 0 < get_or l 1 0 → l ≡ get_or l 0 0 ∷ get_or l 1 0 ∷ drop 2 l
front-two [] h k = let w : ⊥ = omega arith in absurd w
front-two (x ∷ []) h k = let w : ⊥ = omega arith in absurd w
front-two (x ∷ y ∷ l) h k = refl

front-three : (l : List ℕ) → 0 < get_or l 0 0 → 0 < get_or l 1 0 → 0 < get_or l 2 0 → l ≡ get_or l 0 0 ∷ get_or l 1 0 ∷ get_or l 2 0 ∷ drop 3 l
front-three [] h k m = let w : ⊥ = omega arith in absurd w
front-three (x ∷ l) h k m = ap (λ (r : List ℕ). x ∷ r) (front-two l k m)

front_four : (l : List ℕ) → 0 < get_or l 0 0 → 0 < get_or l 1 0 → 0 < get_or l 2 0 → 0 < get_or l 3 0 → l ≡ get_or l 0 0 ∷ get_or l 1 0 ∷ get_or l 2 0 ∷ get_or l 3 0 ∷ drop 4 l
front_four [] h k m n = let w : ⊥ = omega arith in absurd w
front_four (x ∷ l) h k m n = ap (λ (r : List ℕ). x ∷ r) (front-three l k m n)

front_five : (l : List ℕ) → 0 < get_or l 0 0 → 0 < get_or l 1 0 → 0 < get_or l 2 0 → 0 < get_or l 3 0 → 0 < get_or l 4 0
    → l ≡ get_or l 0 0 ∷ get_or l 1 0 ∷ get_or l 2 0 ∷ get_or l 3 0 ∷ get_or l 4 0 ∷ drop 5 l
front_five [] h k m n p = let w : ⊥ = omega arith in absurd w
front_five (x ∷ l) h k m n p = ap (λ (r : List ℕ). x ∷ r) (front_four l k m n p)

-- a byte that is a digit
record Digit (b : ℕ) : Type 0 where
  pub low : 48 ≤ b
  pub high : b ≤ 57

digit : (b : ℕ) → is_digit b ≡ true → Digit b
digit b e = let p = both (leb 48 b) (leb b 57) e in record { low = leb-true 48 b p.0; high = leb-true b 57 p.1 }

-- the digits of what was read are the bytes
read_one : (a : ℕ) → Digit a → wide (a - 48) ≡ a ∷ []
read_one a h = let e : 48 + (a - 48) ≡ a = omega arith in wide_one (a - 48) (omega arith) ∙ rw e

read-two : (a b : ℕ) → 48 < a → Digit a → Digit b → wide (longer (a - 48) b) ≡ a ∷ b ∷ []
read-two a b z h k =
    let v = longer (a - 48) b in
    let x : 48 + v / 10 ≡ a = omega arith in
    let y : 48 + v % 10 ≡ b = omega arith in
    wide-two v (omega arith) (omega arith) ∙ rw (x, y)

read-three : (a b c : ℕ) → 48 < a → Digit a → Digit b → Digit c → wide (longer (longer (a - 48) b) c) ≡ a ∷ b ∷ c ∷ []
read-three a b c z h k m =
    let v = longer (longer (a - 48) b) c in
    let t : v / 10 ≡ longer (a - 48) b = omega arith in
    let x : 48 + v / 100 ≡ a = omega arith in
    let y : 48 + v / 10 % 10 ≡ b = rw t (omega arith) in
    let w : 48 + v % 10 ≡ c = omega arith in
    wide-three v (omega arith) (omega arith) ∙ rw (x, y, w)

read_four : (a b c d : ℕ) → 48 < a → Digit a → Digit b → Digit c → Digit d → wide (longer (longer (longer (a - 48) b) c) d) ≡ a ∷ b ∷ c ∷ d ∷ []
read_four a b c d z h k m n =
    let v = longer (longer (longer (a - 48) b) c) d in
    let t : v / 10 ≡ longer (longer (a - 48) b) c = omega arith in
    let u : v / 100 ≡ longer (a - 48) b = omega arith in
    let x : 48 + v / 1000 ≡ a = omega arith in
    let y : 48 + v / 100 % 10 ≡ b = rw u (omega arith) in
    let w : 48 + v / 10 % 10 ≡ c = rw t (omega arith) in
    let r : 48 + v % 10 ≡ d = omega arith in
    wide_four v (omega arith) (omega arith) ∙ rw (x, y, w, r)

-- a number that stands at the front of some bytes, spelled so, with others behind it
pub record Found (l text rest : List ℕ) (value most : ℕ) : Type 0 where
  pub front : l ≡ text ++ rest
  pub small : value ≤ most

-- what is read there, as the bytes that it takes
pub record Taken (l : List ℕ) (n : ℕ × ℕ) : Type 0 where
  pub front : l ≡ wide_field n.0 ++ drop n.1 l
  pub within : n.1 ≤ length l

module _ (l : List ℕ) where
  either : (x y : Option (ℕ × ℕ)) (t : Bool) → (t ≡ true → IfSome x (Taken l)) → (t ≡ false → IfSome y (Taken l)) → IfSome (cond t x y) (Taken l)
  either x y true f g = f refl
  either x y false f g = g refl

  taken : (n w : ℕ) (bytes : List ℕ) → wide n ≡ bytes → get_or l 0 0 ≡ 32 → l ≡ get_or l 0 0 ∷ (bytes ++ drop w l) → w ≡ 1 + length bytes → Taken l (n, w)
  unfolding wide_field
  taken n w bytes d s e k =
      record { front = e ∙ ap₂ (λ (x : ℕ) (y : List ℕ). x ∷ (y ++ drop w l)) s (sym d); within = omega (arith, simp length-append at (ap length e)) }

  pub number-taken : IfSome (number_of (get_or l 0 0) (get_or l 1 0) (get_or l 2 0) (get_or l 3 0) (get_or l 4 0)) (Taken l)
  unfolding number_of
  number-taken =
      either _ _ _ (λ s.
      let p = both (eqb (get_or l 0 0) 32) (is_digit (get_or l 1 0)) s in
      let sp = eqb-true (get_or l 0 0) 32 p.0 in
      let a = digit (get_or l 1 0) p.1 in
      either _ _ _ (λ sb.
      let b = digit (get_or l 2 0) sb in
      either _ _ _ (λ _. tt) (λ n.
      let o = eqb-false (get_or l 1 0) 48 n in
      let z : 48 < get_or l 1 0 = omega arith in
      either _ _ _ (λ sc.
      let c = digit (get_or l 3 0) sc in
      either _ _ _ (λ sd.
      let d = digit (get_or l 4 0) sd in
      taken _ 5 _ (read_four _ _ _ _ z a b c d) sp (front_five l (omega arith) (omega arith) (omega arith) (omega arith) (omega arith)) refl)
      (λ _. taken _ 4 _ (read-three _ _ _ z a b c) sp (front_four l (omega arith) (omega arith) (omega arith) (omega arith)) refl))
      (λ _. taken _ 3 _ (read-two _ _ z a b) sp (front-three l (omega arith) (omega arith) (omega arith)) refl)))
      (λ _. taken _ 2 _ (read_one _ a) sp (front-two l (omega arith) (omega arith)) refl))
      (λ _. tt)

pub number-within : (l : List ℕ) (n : ℕ × ℕ) → number_of (get_or l 0 0) (get_or l 1 0) (get_or l 2 0) (get_or l 3 0) (get_or l 4 0) ≡ Some n → n.1 ≤ length l
number-within l n e = (subst (λ (o : Option (ℕ × ℕ)). IfSome o (Taken l)) e (number-taken l)).within

pub number-only : (most : ℕ) (l : List ℕ) → IfSome {T = ℕ × List ℕ} (read_number most l) (λ x. Found l (wide_field x.0) x.1 x.0 most)
unfolding read_number
number-only most l = go (number_of (get_or l 0 0) (get_or l 1 0) (get_or l 2 0) (get_or l 3 0) (get_or l 4 0)) (number-taken l)
  where
    fits : (n : ℕ × ℕ) (t : Bool) → leb n.0 most ≡ t → Taken l n → IfSome {T = ℕ × List ℕ} (cond t (Some (n.0, drop n.1 l)) None) (λ x. Found l (wide_field x.0) x.1 x.0 most)
    fits n true e f = record { front = f.front; small = leb-true n.0 most e }
    fits n false e f = tt

    go : (o : Option (ℕ × ℕ)) → IfSome o (Taken l) → IfSome {T = ℕ × List ℕ} (option_and_then (λ n. cond (leb n.0 most) (Some (n.0, drop n.1 l)) None) o) (λ x. Found l (wide_field x.0) x.1 x.0 most)
    go None f = tt
    go (Some n) f = fits n (leb n.0 most) refl f

pub number-found : (most : ℕ) (l : List ℕ) (x : ℕ × List ℕ) → read_number most l ≡ Some x → Found l (wide_field x.0) x.1 x.0 most
number-found most l x e = subst (λ (o : Option (ℕ × List ℕ)). IfSome {T = ℕ × List ℕ} o (λ x. Found l (wide_field x.0) x.1 x.0 most)) e (number-only most l)

pub field-found : (l : List ℕ) (x : ℕ × List ℕ) → read_field l ≡ Some x → Found l (field x.0) x.1 x.0 255
unfolding read_field
field-found l x e = let f = number-found 255 l x e in rw (← byte-field x.0 f.small) f

pub number_small : (most : ℕ) (l : List ℕ) (x : ℕ × List ℕ) → read_number most l ≡ Some x → x.0 ≤ most
number_small most l x e = (number-found most l x e).small
