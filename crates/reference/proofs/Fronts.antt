-- A buffer whose front is filled piece by piece.
-- Assumes nothing.
use Prim.Native.Nat.{ℕ, ◌+◌, ◌-◌, ◌≤◌, ◌<◌}
use mathlib.Core.List.{List, [], ◌∷◌, ◌++◌, append_assoc, append-nil}
use mathlib.Core.Path.{◌≡◌, refl, sym, ap, ◌∙◌}
use native.Mathlib.Omega.{arith}
use lib.ListN.{length, take, drop, set, length-append, length-drop, take-append-drop, drop_of_length-le}
use lib.Seq.{sets-eq, take_all, take_at, drop_at, drop-drop}
use Rattle.reference.specs.Lists.{with_front}

-- a buffer that begins so
pub with_front-same : (b x : List ℕ) → take (length x) b ≡ x → b ≡ with_front b x
with_front-same b x e = sym (take-append-drop (length x) b) ∙ ap (λ (l : List ℕ). l ++ drop (length x) b) e

module _ (b x : List ℕ) where
  pub with_front-length : length x ≤ length b → length (with_front b x) ≡ length b
  with_front-length h = omega (arith, length-append x (drop (length x) b), length-drop (length x) b)

  pub with_front_rest : (m : ℕ) → length x ≤ m → drop m (with_front b x) ≡ drop m b
  with_front_rest m h =
      let n : ℕ = length x in
      let d : ℕ = m - n in
      let z : m ≡ n + d = omega arith in
      ap (λ (i : ℕ). drop i (with_front b x)) z ∙ sym (drop-drop d n (with_front b x)) ∙ ap (drop d) (drop_at x (drop n b) n refl) ∙ drop-drop d n b ∙
      ap (λ (i : ℕ). drop i b) (sym z)

  -- what is written at the end of the front joins it
  pub with_front_more : (y : List ℕ) (n : ℕ) → length x ≡ n → take n (with_front b x) ++ y ++ drop (n + length y) (with_front b x) ≡ with_front b (x ++ y)
  with_front_more y n e =
      let front : take n (with_front b x) ≡ x = take_at x (drop (length x) b) n e in
      let rest : drop (n + length y) (with_front b x) ≡ drop (length (x ++ y)) b =
      sym (drop-drop (length y) n (with_front b x)) ∙ ap (drop (length y)) (drop_at x (drop (length x) b) n e) ∙ drop-drop (length y) (length x) b ∙
      ap (λ (k : ℕ). drop k b) (sym (length-append x y)) in
      rw (front, rest)

  -- one byte
  pub with_front-set : (v i : ℕ) → length x ≡ i → i < length b → set (with_front b x) i v ≡ with_front b (x ++ v ∷ [])
  with_front-set v i e h =
      sets-eq (v ∷ []) (with_front b x) i (omega (arith, with_front-length (omega arith))) ∙ with_front_more (v ∷ []) i e

  -- a part from n on whose front is written, back in its place
  pub with_front-part : (y : List ℕ) (n : ℕ) → length x ≡ n → n + length y ≤ length b → (w : List ℕ) →
      w ≡ with_front (take (length (with_front b x) - n) (drop n (with_front b x))) y →
      take n (with_front b x) ++ (w ++ drop (length (with_front b x) - n) (drop n (with_front b x))) ≡ with_front b (x ++ y)
  with_front-part y n e h w is =
      let long : length (with_front b x) ≡ length b = with_front-length (omega arith) in
      let size : length (drop n (with_front b x)) ≡ length (with_front b x) - n = length-drop n (with_front b x) in
      let whole : take (length (with_front b x) - n) (drop n (with_front b x)) ≡ drop n (with_front b x) = take_all (length (with_front b x) - n) (drop n (with_front b x)) (omega arith) in
      let none : drop (length (with_front b x) - n) (drop n (with_front b x)) ≡ [] = drop_of_length-le (drop n (with_front b x)) {i = length (with_front b x) - n} (omega arith) in
      let tail : w ≡ y ++ drop (n + length y) (with_front b x) =
      is ∙ ap (λ (l : List ℕ). with_front l y) whole ∙ ap (λ (l : List ℕ). y ++ l) (drop-drop (length y) n (with_front b x)) in
      rw (none, append-nil w, tail) (sym (append_assoc (take n (with_front b x)) y (drop (n + length y) (with_front b x))) ∙ with_front_more y n e)
