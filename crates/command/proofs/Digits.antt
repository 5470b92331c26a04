-- Bytes in hexadecimal digits are read exactly where they are spelled; and the buffer that they are put into.
-- Assumes nothing.
use Prim.Native.Nat.{ℕ, suc, ◌+◌, ◌-◌, ◌*◌, ◌/◌, ◌%◌, ◌≤◌, ◌<◌, min}
use native.Mathlib.Numerals.{add-one}
use native.Mathlib.Omega.{arith}
use mathlib.Core.Bool.{Bool, true, false, ◌&&◌, cond}
use mathlib.Core.Path.{◌≡◌, refl, sym, ap, subst, ◌∙◌}
use mathlib.Core.List.{List, [], ◌∷◌, ◌++◌, append_assoc, append-nil}
use lib.Dec.{eqb, leb, ltb}
use lib.ListN.{length, get_or, take, drop, set, length-append, length-drop, drop_of_length-le}
use lib.Seq.{drop-cons, drop-drop, drop-append_seam, take_all, take_at, drop_at}
use borrow.Author.Tests.{lt-ltb, le-ltb, le-leb, lt-leb, ltb-true, ltb-false, leb-true, eqb-false, ne_eqb}
use Rattle.command.specs.Printing.{hex_digit, hex}
use Rattle.command.specs.Request.{mark, hex_field, Bytes, asked, count_in, over}
use Rattle.std.proofs.Common.{Option, Some, None}
use Rattle.std.proofs.lemmas.Option.{some_pair_parts}
use Rattle.std.specs.Option.{IfSome, option_map}
use Rattle.command.specs.declared.request.Request.{Request}
use Rattle.command.specs.declared.request.Request.TheVariants.{Mark, MarkOwn}
use Rattle.command.specs.Model.Hex.{hex_worth, paired, pairs, hex_bytes, bytes_of, counted}
use Rattle.command.specs.Model.Request.{Asks, mark_line, mark_front}
use Rattle.command.specs.Model.Reading.{ended, after}
use Rattle.command.proofs.Laws.{both, at_end, after-front, then, either}
use Rattle.command.proofs.Listed.{over-next}
use Rattle.command.proofs.Put.{hex-length}

-- ---- a digit and what it is worth

digit_worth : (d : ℕ) → d < 16 → hex_worth (hex_digit d) ≡ Some d
unfolding hex_worth
digit_worth d h = go (ltb d 10) refl
  where
    go : (t : Bool) → ltb d 10 ≡ t → hex_worth (cond t (48 + d) (87 + d)) ≡ Some d
    go true e =
        let k = ltb-true d 10 e in
        let v : 48 + d - 48 ≡ d = omega arith in
        rw (le-leb 48 (48 + d) (omega arith), le-leb (48 + d) 57 (omega arith), v)
    go false e =
        let k = ltb-false d 10 e in
        let v : 87 + d - 97 + 10 ≡ d = omega arith in
        rw (le-leb 48 (87 + d) (omega arith), lt-leb (87 + d) 57 (omega arith), le-leb 97 (87 + d) (omega arith), le-leb (87 + d) 102 (omega arith), v)

-- a byte that is a digit
record Worth (a x : ℕ) : Type 0 where
  pub digit : hex_digit x ≡ a
  pub small : x ≤ 15

worth-only : (a : ℕ) → IfSome (hex_worth a) (Worth a)
unfolding hex_worth
worth-only a = number (leb 48 a && leb a 57) refl
  where
    letter : (t : Bool) → (leb 97 a && leb a 102) ≡ t → IfSome (cond t (Some (a - 97 + 10)) None) (Worth a)
    letter true e =
        let p = both (leb 97 a) (leb a 102) e in
        let q = leb-true 97 a p.0 in
        let r = leb-true a 102 p.1 in
        record { digit = rw (le-ltb (a - 97 + 10) 10 (omega arith)) (omega arith); small = omega arith }
    letter false e = tt

    number : (t : Bool) → (leb 48 a && leb a 57) ≡ t → IfSome (cond t (Some (a - 48)) (cond (leb 97 a && leb a 102) (Some (a - 97 + 10)) None)) (Worth a)
    number true e =
        let p = both (leb 48 a) (leb a 57) e in
        let q = leb-true 48 a p.0 in
        let r = leb-true a 57 p.1 in
        record { digit = rw (lt-ltb (a - 48) 10 (omega arith)) (omega arith); small = omega arith }
    number false e = letter (leb 97 a && leb a 102) refl

-- ---- pairs of digits

pairs_more : (a b : ℕ) (l : List ℕ) (x y : ℕ) → hex_worth a ≡ Some x → hex_worth b ≡ Some y → pairs (a ∷ b ∷ l) ≡ (16 * x + y) ∷ pairs l
unfolding pairs
pairs_more a b l x y e f = rw (e, f)

pairs-short : (l : List ℕ) → length l ≤ 1 → pairs l ≡ []
unfolding pairs
pairs-short [] h = refl
pairs-short (a ∷ []) h = refl
pairs-short (a ∷ b ∷ l) h = let w : ⊥ = omega arith in absurd w

-- none where a space stands
no_pairs : (l : List ℕ) → pairs (32 ∷ l) ≡ []
unfolding pairs hex_worth
no_pairs [] = refl
no_pairs (a ∷ l) = refl

-- those of bytes, and what is behind
pairs_spelled : (b rest : List ℕ) → Bytes b → pairs (hex b ++ rest) ≡ b ++ pairs rest
unfolding hex Bytes
pairs_spelled [] rest h = refl
pairs_spelled (n ∷ b) rest h =
    let v : 16 * (n / 16) + n % 16 ≡ n = omega arith in
    pairs_more (hex_digit (n / 16)) (hex_digit (n % 16)) (hex b ++ rest) (n / 16) (n % 16) (digit_worth (n / 16) (omega (arith, h.0))) (digit_worth (n % 16) (omega arith))
    ∙ rw (v, pairs_spelled b rest h.1)

-- bytes whose digits stand at the front
record Paired (l b : List ℕ) : Type 0 where
  pub front : l ≡ hex b ++ drop (2 * length b) l
  pub small : Bytes b

pairs-only : (l : List ℕ) → Paired l (pairs l)
unfolding pairs hex Bytes
pairs-only [] = record { front = refl; small = tt }
pairs-only (a ∷ []) = record { front = refl; small = tt }
pairs-only (a ∷ b ∷ l) = high (hex_worth a) (worth-only a) (pairs-only l)
  where
    low : (x : ℕ) → Worth a x → (o : Option ℕ) → IfSome o (Worth b) → Paired l (pairs l) → Paired (a ∷ b ∷ l) (paired (Some x) o (pairs l))
    low x h None k r = record { front = refl; small = tt }
    low x h (Some y) k r =
        let v : (16 * x + y) / 16 ≡ x = omega arith in
        let w : (16 * x + y) % 16 ≡ y = omega arith in
        let n : 2 * length ((16 * x + y) ∷ pairs l) ≡ suc (suc (2 * length (pairs l))) = omega arith in
        record { front = rw (v, w, h.digit, k.digit, n) (ap (λ (m : List ℕ). a ∷ b ∷ m) r.front); small = (omega arith, r.small) }

    high : (o : Option ℕ) → IfSome o (Worth a) → Paired l (pairs l) → Paired (a ∷ b ∷ l) (paired o (hex_worth b) (pairs l))
    high None h r = record { front = refl; small = tt }
    high (Some x) h r = low x h (hex_worth b) (worth-only b) r

pub pairs_few : (l : List ℕ) → 2 * length (pairs l) ≤ length l
pairs_few l = omega (arith, simp (length-append, hex-length) at (ap length (pairs-only l).front))

-- ---- after a space

pub hex_field-length : (b : List ℕ) → length (hex_field b) ≡ 1 + 2 * length b
unfolding hex_field
hex_field-length b = omega (arith, hex-length b)

-- bytes that are spelled are read, with nothing or a space behind them
hex_spelled : (b rest : List ℕ) → Bytes b → 0 < length b → pairs rest ≡ [] → hex_bytes (hex_field b ++ rest) ≡ Some (b, rest)
unfolding hex_bytes hex_field after
hex_spelled b rest h k e =
    let p : pairs (hex b ++ rest) ≡ b = pairs_spelled b rest h ∙ rw e (append-nil b) in
    let z : eqb (length b) 0 ≡ false = ne_eqb (length b) 0 (λ q. omega arith) in
    let n : 2 * length b ≡ length (hex b) = sym (hex-length b) in
    rw (p, z, n, drop-append_seam (hex b) rest)

pub hex-end : (b : List ℕ) → Bytes b → 0 < length b → hex_bytes (hex_field b) ≡ Some (b, [])
unfolding pairs
hex-end b h k = ap hex_bytes (sym (append-nil (hex_field b))) ∙ hex_spelled b [] h k refl

pub hex_then : (b c : List ℕ) → Bytes b → 0 < length b → hex_bytes (hex_field b ++ hex_field c) ≡ Some (b, hex_field c)
unfolding hex_field
hex_then b c h k = hex_spelled b (32 ∷ hex c) h k (no_pairs (hex c))

-- bytes that stand at the front after a space, with others behind them
pub record Shown (l : List ℕ) (x : List ℕ × List ℕ) : Type 0 where
  pub front : l ≡ hex_field x.0 ++ x.1
  pub small : Bytes x.0
  pub some : 0 < length x.0

hex-only : (l : List ℕ) → IfSome (hex_bytes l) (Shown l)
unfolding hex_bytes hex_field
hex-only l =
    then (Shown l) _ _ (λ r e. let f = after-front (32 ∷ []) l r e in let p = pairs-only r in
    either (Shown l) _ _ _ (λ _. tt) (λ z.
    let n = eqb-false (length (pairs r)) 0 z in
    let w : Shown l (pairs r, drop (2 * length (pairs r)) r) = record { front = f ∙ ap (λ (m : List ℕ). 32 ∷ m) p.front; small = p.small; some = omega arith } in w))

pub hex-found : (l : List ℕ) (x : List ℕ × List ℕ) → hex_bytes l ≡ Some x → Shown l x
hex-found l x e = subst (λ (o : Option (List ℕ × List ℕ)). IfSome o (Shown l)) e (hex-only l)

-- ---- a part of a list

-- the part of a list that starts at n, and the list with y there
abbrev pub part : List ℕ → ℕ → List ℕ
part b n = take (length b - n) (drop n b)

abbrev pub back : List ℕ → ℕ → List ℕ → List ℕ
back b n y = take n b ++ (y ++ drop (length b - n) (drop n b))

part-all : (b : List ℕ) (n : ℕ) → part b n ≡ drop n b
part-all b n = take_all (length b - n) (drop n b) (omega (arith, length-drop n b))

-- ---- the loop: the bytes of the first n pairs stand at the front of the buffer

pub record Front (s b x : List ℕ) (n : ℕ) : Type 0 where
  pub bytes : List ℕ
  pub many : length bytes ≡ n
  pub whole : pairs s ≡ bytes ++ pairs (drop (2 * n) s)
  pub front : x ≡ over b bytes

pub front-none : (s b : List ℕ) → Front s b b 0
front-none s b = record { bytes = []; many = refl; whole = refl; front = refl }

pair_at : (s : List ℕ) (n : ℕ) → n < length s / 2 → drop (2 * n) s ≡ get_or s (2 * n) 0 ∷ get_or s (2 * n + 1) 0 ∷ drop (2 * (n + 1)) s
pair_at s n h =
    let e : 2 * (n + 1) ≡ suc (suc (2 * n)) = omega arith in
    drop-cons s (2 * n) 0 (omega arith) ∙ rw (add-one (2 * n), e) (ap (λ (m : List ℕ). get_or s (2 * n) 0 ∷ m) (drop-cons s (suc (2 * n)) 0 (omega arith)))

module _ (s b x : List ℕ) (n : ℕ) (f : Front s b x n) where
  front-all : pairs (drop (2 * n) s) ≡ [] → (n ≡ length (pairs s)) × (x ≡ over b (pairs s))
  front-all e =
      let w : pairs s ≡ f.bytes = f.whole ∙ rw (e, append-nil) in
      (rw w (sym f.many), rw w f.front)

  pub front-end : length s / 2 ≤ n → (n ≡ length (pairs s)) × (x ≡ over b (pairs s))
  front-end h = front-all (pairs-short (drop (2 * n) s) (omega (arith, length-drop (2 * n) s)))

  module _ (k : n < length s / 2) where
    pub front-high : hex_worth (get_or s (2 * n) 0) ≡ None → (n ≡ length (pairs s)) × (x ≡ over b (pairs s))
    unfolding pairs
    front-high e = front-all (rw (pair_at s n k, e))

    pub front_low : (high : ℕ) → hex_worth (get_or s (2 * n) 0) ≡ Some high → hex_worth (get_or s (2 * n + 1) 0) ≡ None → (n ≡ length (pairs s)) × (x ≡ over b (pairs s))
    unfolding pairs
    front_low high e g = front-all (rw (pair_at s n k, e, g))

    pub front-next : (high low : ℕ) → hex_worth (get_or s (2 * n) 0) ≡ Some high → hex_worth (get_or s (2 * n + 1) 0) ≡ Some low → n < length b
        → Front s b (set x n (16 * high + low)) (n + 1)
    unfolding pairs
    front-next high low e g m =
        let r = f.many in
        let p : pairs (drop (2 * n) s) ≡ (16 * high + low) ∷ pairs (drop (2 * (n + 1)) s) = rw (pair_at s n k, e, g) in
        record {
          bytes = f.bytes ++ ((16 * high + low) ∷ []);
          many = simp length-append (omega arith);
          whole = f.whole ∙ rw (p, append_assoc);
          front = rw f.front (over-next b f.bytes (16 * high + low) n r m);
        }

-- ---- one picture's bytes behind the other's

after-bytes : (b x y : List ℕ) (n : ℕ) → length x ≡ n → back (over b x) n (over (part (over b x) n) y) ≡ over b (x ++ y)
after-bytes b x y n e =
    let k : take n (over b x) ≡ x = take_at x (drop (length x) b) n e in
    let d : drop n (over b x) ≡ drop n b = drop_at x (drop (length x) b) n e ∙ rw e in
    rw (part-all (over b x) n, k, drop_of_length-le (drop n (over b x)) {i = length (over b x) - n} (omega (arith, length-drop n (over b x))), d)
    (simp (append_assoc, append-nil, length-append, drop-drop, e))

-- ---- what is read behind `mark`: n bytes, and m behind them

pub record Counted (o : Option (List ℕ × List ℕ)) (n : ℕ) (rest : List ℕ) : Type 0 where
  pub bytes : List ℕ
  pub is : o ≡ Some (bytes, rest)
  pub many : length bytes ≡ n

pub counted-some : (o : Option (List ℕ × List ℕ)) (n : ℕ) (rest : List ℕ) → Some (n, rest) ≡ counted o → Counted o n rest
counted-some None n rest e = absurd (cc)
counted-some (Some y) n rest e = let p = some_pair_parts n (length y.0) rest y.1 e in record { bytes = y.0; is = ap (λ (l : List ℕ). Some (y.0, l)) (sym p.1); many = sym p.0 }

pub counted-none : (o : Option (List ℕ × List ℕ)) → None ≡ counted o → o ≡ None
counted-none None e = refl
counted-none (Some y) e = absurd (cc)

-- all but the first
pub behind_one : (l : List ℕ) → part l (min (length l) 1) ≡ drop 1 l
behind_one l = part-all l (min (length l) 1) ∙ go l
  where
    go : (k : List ℕ) → drop (min (length k) 1) k ≡ drop 1 k
    go [] = refl
    go (a ∷ k) = let e : min (length (a ∷ k)) 1 ≡ 1 = omega arith in rw e

no_bytes : hex_bytes [] ≡ None
unfolding hex_bytes after
no_bytes = refl

module _ (s b x : List ℕ) (h : x ≡ over b (bytes_of (hex_bytes s))) where
  pub mark-none : hex_bytes s ≡ None → (y k : List ℕ) → k ≡ drop 1 s → y ≡ over x (bytes_of (hex_bytes k)) → Asks None b y (mark_line s) (mark_front s)
  unfolding mark_line mark_front
  mark-none e y k k-is w =
      let same : x ≡ b = h ∙ rw e in
      record { read = rw e; buffer = w ∙ rw (same, k-is, e); few = tt }

  module _ (n : ℕ) (rest : List ℕ) (f : Counted (hex_bytes s) n rest) where
    one : x ≡ over b f.bytes
    one = h ∙ rw f.is

    pub mark-one : ended rest ≡ true → n ≤ 1024 → Asks (Some (MarkOwn n)) b x (mark_line s) (mark_front s)
    unfolding mark_line mark_front
    mark-one z k =
        let l : rest ≡ [] = at_end rest z in
        record { read = rw (f.is, z, one, take_at f.bytes (drop (length f.bytes) b) n f.many); buffer = one ∙ rw (f.is, l, no_bytes, append-nil); few = k }

    module _ (z : List ℕ) (g : z ≡ over (part x n) (bytes_of (hex_bytes rest))) (e : ended rest ≡ false) where
      both-bytes : back x n z ≡ over b (f.bytes ++ bytes_of (hex_bytes rest))
      both-bytes = rw (g, one) (after-bytes b f.bytes (bytes_of (hex_bytes rest)) n f.many)

      pub mark-half : hex_bytes rest ≡ None → Asks None b (back x n z) (mark_line s) (mark_front s)
      unfolding mark_line mark_front
      mark-half w = record { read = rw (f.is, e, w); buffer = both-bytes ∙ rw f.is; few = tt }

      pub mark-two : (m : ℕ) (end : List ℕ) (w : Counted (hex_bytes rest) m end) (o : Option Request) → o ≡ cond (ended end) (Some (Mark n m)) None → n + m ≤ 1024
          → Asks o b (back x n z) (mark_line s) (mark_front s)
      unfolding mark_line mark_front
      mark-two m end w o p k = record { read = rw (p, f.is, e, w.is) (go (ended end)); buffer = both-bytes ∙ rw f.is; few = rw p (few (ended end)) }
        where
          all : back x n z ≡ over b (f.bytes ++ w.bytes)
          all = both-bytes ∙ rw w.is

          first : take n (back x n z) ≡ f.bytes
          first = rw (all, append_assoc) (take_at f.bytes (w.bytes ++ drop (length (f.bytes ++ w.bytes)) b) n f.many)

          second : take m (drop n (back x n z)) ≡ w.bytes
          second = rw (all, append_assoc, drop_at f.bytes (w.bytes ++ drop (length (f.bytes ++ w.bytes)) b) n f.many) (take_at w.bytes (drop (length (f.bytes ++ w.bytes)) b) m w.many)

          go : (t : Bool) → option_map (λ r. asked r (back x n z)) (cond t (Some (Mark n m)) None) ≡ cond t (Some (mark f.bytes w.bytes)) None
          go true = rw (first, second)
          go false = refl

          few : (t : Bool) → IfSome (cond t (Some (Mark n m)) None) (λ r. count_in r ≤ 1024)
          few true = k
          few false = tt
