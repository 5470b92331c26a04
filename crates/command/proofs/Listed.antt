-- Fields in a row, read one after the other, and a buffer that their numbers are put into.
-- Assumes nothing.
use Prim.Native.Nat.{ℕ, zero, suc, ◌+◌, ◌≤◌, ◌<◌}
use native.Mathlib.Numerals.{add-one}
use native.Mathlib.Omega.{arith}
use mathlib.Core.Bool.{Bool, true, false, cond}
use mathlib.Core.Path.{◌≡◌, refl, sym, ap, ◌∙◌}
use mathlib.Core.List.{List, [], ◌∷◌, ◌++◌, append_assoc}
use lib.ListN.{length, take, set, length-append}
use lib.Seq.{drop-cons, set-append_seam, take-append_seam}
use Rattle.std.proofs.Common.{Option, Some, None}
use Rattle.std.specs.Option.{IfSome, option_map}
use Rattle.command.specs.Request.{over}
use Rattle.command.proofs.Laws.{at_end}
use Rattle.command.specs.Model.Reading.{ended, number_of, read_number, read_field}
use Rattle.command.specs.Model.Request.{before, values, left, listed}

-- ---- a field more at the front, or none

pub values_more : (n : ℕ) (l : List ℕ) (x : ℕ × List ℕ) → read_field l ≡ Some x → values (suc n) l ≡ x.0 ∷ values n x.1
unfolding values
values_more n l x e = rw e

pub left_more : (n : ℕ) (l : List ℕ) (x : ℕ × List ℕ) → read_field l ≡ Some x → left (suc n) l ≡ left n x.1
unfolding left
left_more n l x e = rw e

pub values-none : (n : ℕ) (l : List ℕ) → read_field l ≡ None → values n l ≡ []
unfolding values
values-none zero l e = refl
values-none (suc n) l e = rw e

pub left-none : (n : ℕ) (l : List ℕ) → read_field l ≡ None → left n l ≡ l
unfolding left
left-none zero l e = refl
left-none (suc n) l e = rw e

-- none at the end
pub none_left : read_field [] ≡ None
unfolding read_field read_number number_of
none_left = refl

-- ---- a field more at the end, or none

record Next (i : ℕ) (l : List ℕ) (x : ℕ × List ℕ) : Type 0 where
  pub more : values (i + 1) l ≡ values i l ++ (x.0 ∷ [])
  pub behind : left (i + 1) l ≡ x.1

next : (i : ℕ) (l : List ℕ) (x : ℕ × List ℕ) → read_field (left i l) ≡ Some x → Next i l x
unfolding values left
next zero l x e = record { more = values_more zero l x e; behind = left_more zero l x e }
next (suc i) l x e = go (read_field l) refl (λ y. next i y.1 x)
  where
    go : (o : Option (ℕ × List ℕ)) → read_field l ≡ o → ((y : ℕ × List ℕ) → read_field (left i y.1) ≡ Some x → Next i y.1 x) → Next (suc i) l x
    go None f r = let z : None ≡ Some x = sym f ∙ rw (left-none (suc i) l f) at e in absurd (cc)
    go (Some y) f r =
        let b = left_more i l y f in
        let n = r y (rw b at e) in
        record {
          more = rw (add-one, values_more (suc i) l y f, values_more i l y f) (ap (λ (v : List ℕ). y.0 ∷ v) (rw add-one at n.more));
          behind = rw (add-one, left_more (suc i) l y f) (rw add-one at n.behind);
        }

record Last (i n : ℕ) (l : List ℕ) : Type 0 where
  pub all : values n l ≡ values i l
  pub end : left n l ≡ left i l

last : (i n : ℕ) (l : List ℕ) → i ≤ n → read_field (left i l) ≡ None → Last i n l
unfolding values left
last zero n l h k = record { all = values-none n l k; end = left-none n l k }
last (suc i) zero l h k = let w : ⊥ = omega arith in absurd w
last (suc i) (suc n) l h k = go (read_field l) refl (λ y. last i n y.1 (omega arith))
  where
    go : (o : Option (ℕ × List ℕ)) → read_field l ≡ o → ((y : ℕ × List ℕ) → read_field (left i y.1) ≡ None → Last i n y.1) → Last (suc i) (suc n) l
    go None f r = record { all = values-none (suc n) l f ∙ sym (values-none (suc i) l f); end = left-none (suc n) l f ∙ sym (left-none (suc i) l f) }
    go (Some y) f r =
        let b = left_more i l y f in
        let m = r y (rw b at k) in
        record { all = rw (values_more n l y f, values_more i l y f, m.all); end = rw (left_more n l y f, b, m.end) }

-- ---- the buffer

-- a byte more at its front
pub over-next : (b x : List ℕ) (v i : ℕ) → length x ≡ i → i < length b → set (over b x) i v ≡ over b (x ++ (v ∷ []))
over-next b x v i n h =
    let h' : length x < length b = omega arith in
    let e : length (x ++ (v ∷ [])) ≡ suc (length x) = simp length-append (omega arith) in
    rw (← n, drop-cons b (length x) 0 h', set-append_seam, e, append_assoc)

-- ---- the loop: the numbers of the first fields of a line are at the front of the buffer b, and what is left is s

pub record Row (l b x : List ℕ) (count : ℕ) (s : List ℕ) : Type 0 where
  pub many : length (values count l) ≡ count
  pub rest : s ≡ left count l
  pub front : x ≡ over b (values count l)

pub row-none : (l b : List ℕ) → Row l b b 0 l
unfolding values left
row-none l b = record { many = refl; rest = refl; front = refl }

values_few : (n : ℕ) (l : List ℕ) → length (values n l) ≤ n
unfolding values
values_few zero l = omega arith
values_few (suc n) l = go (read_field l) (λ m. values_few n m)
  where
    go : (o : Option (ℕ × List ℕ)) → ((m : List ℕ) → length (values n m) ≤ n) → length (before (option_map (λ f. (f.0, values n f.1)) o)) ≤ suc n
    go None r = omega arith
    go (Some y) r = omega (arith, r y.1)

-- what the loop answers where nothing more is read
pub record Done (l b x : List ℕ) (o : Option ℕ) : Type 0 where
  pub value : o ≡ listed l
  pub numbers_after : x ≡ over b (values 1024 l)
  pub listed : IfSome o (λ n. (take n x ≡ values 1024 l) × (n ≤ 1024))

done : (l b x : List ℕ) (o : Option ℕ) → o ≡ listed l → x ≡ over b (values 1024 l) → Done l b x o
unfolding listed
done l b x o e h = record { value = e; numbers_after = h; listed = go o (ended (left 1024 l)) e }
  where
    go : (o : Option ℕ) (t : Bool) → o ≡ cond t (Some (length (values 1024 l))) None → IfSome o (λ n. (take n x ≡ values 1024 l) × (n ≤ 1024))
    go None t e = tt
    go (Some n) true e = let k : n ≡ length (values 1024 l) = cc in (rw (k, h, take-append_seam), omega (arith, values_few 1024 l))
    go (Some n) false e = absurd (cc)

module _ (l b x : List ℕ) (count : ℕ) (s : List ℕ) (r : Row l b x count s) where
  pub row_next : (y : ℕ × List ℕ) → read_field s ≡ Some y → count < length b → Row l b (set x count y.0) (count + 1) y.1
  row_next y e k =
      let n = next count l y (rw r.rest at e) in
      let c = r.many in
      record { many = ap length n.more ∙ simp length-append (omega arith); rest = sym n.behind; front = rw (r.front, n.more) (over-next b (values count l) y.0 count c k) }

  row-all : (o : Option ℕ) → o ≡ cond (ended s) (Some count) None → Last count 1024 l → Done l b x o
  unfolding listed
  row-all o e n = done l b x o (e ∙ rw (n.all, n.end, r.many, r.rest)) (rw n.all r.front)

  -- at the line's end,
  pub row-end : ended s ≡ true → count ≤ 1024 → Done l b x (Some count)
  row-end z k =
      let e : s ≡ [] = at_end s z in
      row-all (Some count) (rw z) (last count 1024 l k (sym (ap read_field r.rest) ∙ ap read_field e ∙ none_left))

  -- where something else stands,
  pub row-stop : ended s ≡ false → read_field s ≡ None → count ≤ 1024 → Done l b x None
  row-stop z e k = row-all None (rw z) (last count 1024 l k (rw r.rest at e))

  -- and after all that the buffer has room for
  pub row-full : (o : Option ℕ) → o ≡ cond (ended s) (Some count) None → count ≡ 1024 → Done l b x o
  row-full o h e = row-all o h (record { all = rw e; end = rw e })
