-- Exactly the spelled lines are asks.
-- Assumes nothing.
use Prim.Native.Nat.{ℕ, zero, suc, ◌+◌, ◌*◌, ◌/◌, ◌%◌, ◌≤◌, ◌<◌}
use native.Mathlib.Omega.{arith}
use mathlib.Core.Bool.{Bool, true, false, cond}
use mathlib.Core.Logic.{◌⊎◌, inl, inr}
use mathlib.Core.Path.{◌≡◌, refl, sym, ap, subst, ◌∙◌}
use mathlib.Core.List.{List, [], ◌∷◌, ◌++◌, append-nil}
use lib.Dec.{ltb}
use lib.ListN.{length, get_or, length-append}
use borrow.Author.Tests.{lt-ltb, le-ltb, ltb-true, ltb-false, eq-eqb, ne_eqb, eqb-true}
use Rattle.command.specs.declared.Command.{Command}
use Rattle.command.specs.declared.Command.TheVariants.{Start, StartWith, Move, Goto, Show, Unknown}
use Rattle.std.proofs.Common.{Option, Some, None}
use Rattle.std.specs.Option.{IfSome, unwrap_or}
use Rattle.command.specs.Printing.{decimal}
use Rattle.command.specs.Command.{field, spell, Known}
use Rattle.command.specs.Request.{Ask, plain, script, turn, turns, view, chart, mark, mark_own, help, script_word, turn_word, turns_word, mark_word, fields, hex_field, spell_ask, Bytes, KnownAsk}
use Rattle.command.specs.Model.Reading.{is_digit, ended, read_field, after, command_of}
use Rattle.command.specs.Model.Request.{values, left, listed, unknown, script_line, turns_line, turn_line, mark_line, short_line, read_ask, ask_of}
use Rattle.command.proofs.Laws.{same, at_end, then, either, behind}
use Rattle.command.proofs.Fields.{field_spelled, field-found}
use Rattle.command.proofs.Lines.{Written, no_digit, field_last, field-length, spelled_read, read, spell-length}
use Rattle.command.proofs.Digits.{hex-end, hex_then, hex-found}
use Rattle.command.proofs.Listed.{values_more, left_more, values-none, left-none, none_left}

-- ---- a list of fields

head_digit : (ns : List ℕ) → is_digit (get_or (fields ns) 0 0) ≡ false
unfolding fields
head_digit [] = refl
head_digit (n ∷ ns) = no_digit n (fields ns)

-- a list that is spelled is read, where there is room for it
record Whole (n : ℕ) (l ns : List ℕ) : Type 0 where
  pub numbers : values n l ≡ ns
  pub rest : left n l ≡ []

fields_spelled : (n : ℕ) (ns : List ℕ) → Bytes ns → length ns ≤ n → Whole n (fields ns) ns
unfolding fields Bytes
fields_spelled n [] h k = record { numbers = values-none n [] none_left; rest = left-none n [] none_left }
fields_spelled zero (m ∷ ns) h k = let w : ⊥ = omega arith in absurd w
fields_spelled (suc n) (m ∷ ns) h k =
    let f = field_spelled m (fields ns) h.0 (head_digit ns) in
    let r = fields_spelled n ns h.1 (omega arith) in
    record { numbers = values_more n _ _ f ∙ rw r.numbers; rest = left_more n _ _ f ∙ r.rest }

listed_spelled : (ns : List ℕ) → Whole 1024 (fields ns) ns → listed (fields ns) ≡ Some (length ns)
unfolding listed
listed_spelled ns w = rw (w.rest, w.numbers)

-- a list that is read up to the end is spelled
record Listed (n : ℕ) (l : List ℕ) : Type 0 where
  pub line : l ≡ fields (values n l)
  pub small : Bytes (values n l)

fields-only : (n : ℕ) (l : List ℕ) → left n l ≡ [] → Listed n l
unfolding fields Bytes values left
fields-only zero l e = record { line = e; small = tt }
fields-only (suc n) l e = go (read_field l) refl (λ m. fields-only n m)
  where
    go : (o : Option (ℕ × List ℕ)) → read_field l ≡ o → ((m : List ℕ) → left n m ≡ [] → Listed n m) → Listed (suc n) l
    go None f r = record { line = rw (values-none (suc n) l f) (sym (left-none (suc n) l f) ∙ e); small = rw (values-none (suc n) l f) tt }
    go (Some x) f r =
        let g = field-found l x f in
        let y = r x.1 (sym (left_more n l x f) ∙ e) in
        record {
          line = rw (values_more n l x f) (g.front ∙ ap (λ (z : List ℕ). field x.0 ++ z) y.line);
          small = rw (values_more n l x f) (g.small, y.small);
        }

record Counted (l : List ℕ) (n : ℕ) : Type 0 where
  pub line : l ≡ fields (values 1024 l)
  pub small : Bytes (values 1024 l)
  pub many : n ≡ length (values 1024 l)

listed-only : (l : List ℕ) (n : ℕ) → listed l ≡ Some n → Counted l n
unfolding listed
listed-only l n e = go (ended (left 1024 l)) refl e
  where
    go : (t : Bool) → ended (left 1024 l) ≡ t → cond t (Some (length (values 1024 l))) None ≡ Some n → Counted l n
    go true z f = let r = fields-only 1024 l (at_end (left 1024 l) z) in record { line = r.line; small = r.small; many = cc }
    go false z f = absurd (cc)

-- a number takes two bytes at least
field-wide : (n : ℕ) → 2 ≤ length (field n)
unfolding field decimal
field-wide n = one (ltb n 10)
  where
    two : (t : Bool) → 2 ≤ length (32 ∷ cond t ((48 + n / 10) ∷ (48 + n % 10) ∷ []) ((48 + n / 100) ∷ (48 + n / 10 % 10) ∷ (48 + n % 10) ∷ []))
    two true = omega arith
    two false = omega arith

    one : (t : Bool) → 2 ≤ length (32 ∷ cond t ((48 + n) ∷ []) (cond (ltb n 100) ((48 + n / 10) ∷ (48 + n % 10) ∷ []) ((48 + n / 100) ∷ (48 + n / 10 % 10) ∷ (48 + n % 10) ∷ [])))
    one true = omega arith
    one false = two (ltb n 100)

pub fields-wide : (ns : List ℕ) → 2 * length ns ≤ length (fields ns)
unfolding fields
fields-wide [] = omega arith
fields-wide (n ∷ ns) = simp length-append (omega (arith, field-wide n, fields-wide ns))

-- ---- an ask that is spelled is read

script_spelled : (k : ℕ) (ns : List ℕ) → KnownAsk (script k ns) → script_line (field k ++ fields ns) ≡ Some (script k ns)
unfolding script_line spell_ask
script_spelled k ns h =
    let n : length (script_word ++ (field k ++ fields ns)) ≡ 6 + (length (field k) + length (fields ns)) = simp length-append (omega arith) in
    let w = fields_spelled 1024 ns h.1 (omega (arith, h.3, n, fields-wide ns)) in
    rw (field_spelled k (fields ns) h.0 (head_digit ns), listed_spelled ns w, w.numbers, eq-eqb (length ns % 2) 0 h.2)

turns_spelled : (ps : List ℕ) → KnownAsk (turns ps) → turns_line (fields ps) ≡ Some (turns ps)
unfolding turns_line spell_ask
turns_spelled ps h =
    let w = fields_spelled 1024 ps h.0 (omega (arith, h.2, fields-wide ps)) in
    rw (listed_spelled ps w, w.numbers, lt-ltb 0 (length ps) h.1)

turn_spelled : (p : ℕ) → p ≤ 255 → turn_line (field p) ≡ Some (turn p)
unfolding turn_line
turn_spelled p h = rw (field_last p h)

mark_own_spelled : (c : List ℕ) → KnownAsk (mark_own c) → mark_line (hex_field c) ≡ Some (mark_own c)
unfolding mark_line
mark_own_spelled c h = rw (hex-end c h.0 h.1)

no_end : (c : List ℕ) → ended (hex_field c) ≡ false
unfolding hex_field
no_end c = ne_eqb (length (hex_field c)) 0 (λ e. omega arith)

mark_spelled : (b c : List ℕ) → KnownAsk (mark b c) → mark_line (hex_field b ++ hex_field c) ≡ Some (mark b c)
unfolding mark_line
mark_spelled b c h = rw (hex_then b c h.0.0 h.0.1, no_end c, hex-end c h.1.0 h.1.1)

fits : (l : List ℕ) → length l ≤ 2048 → ltb 2048 (length l) ≡ false
fits l h = le-ltb 2048 (length l) h

-- the stepper's lines begin with none of the words
plain_spelled : (c : Command) → Known c → ask_of (spell c) ≡ plain (command_of (spell c))
unfolding ask_of read_ask short_line after spell
plain_spelled (Start p t m b) h = rw (fits (spell (Start p t m b)) (omega (arith, spell-length (Start p t m b))))
plain_spelled (StartWith p t m b c) h = rw (fits (spell (StartWith p t m b c)) (omega (arith, spell-length (StartWith p t m b c))))
plain_spelled (Move p a o) h = rw (fits (spell (Move p a o)) (omega (arith, spell-length (Move p a o))))
plain_spelled (Goto k) h = rw (fits (spell (Goto k)) (omega (arith, spell-length (Goto k))))
plain_spelled Show h = refl
plain_spelled Unknown h = absurd h

pub spelled_asked : (a : Ask) → KnownAsk a → ask_of (spell_ask a) ≡ a
unfolding ask_of read_ask short_line after spell_ask field
spelled_asked (plain c) h = plain_spelled c h ∙ ap plain (spelled_read c h)
spelled_asked (script k ns) h = rw (fits (spell_ask (script k ns)) h.3, script_spelled k ns h)
spelled_asked (turn p) h = rw (fits (spell_ask (turn p)) (omega (arith, field-length p)), turn_spelled p h)
spelled_asked (turns ps) h = rw (fits (spell_ask (turns ps)) h.2, turns_spelled ps h)
spelled_asked view h = refl
spelled_asked chart h = refl
spelled_asked (mark b c) h = rw (fits (spell_ask (mark b c)) h.2, mark_spelled b c h)
spelled_asked (mark_own c) h = rw (fits (spell_ask (mark_own c)) h.2, mark_own_spelled c h)
spelled_asked help h = refl

-- ---- an ask that is read is spelled

pub record Spelled (l : List ℕ) (a : Ask) : Type 0 where
  pub line : l ≡ spell_ask a
  pub known : KnownAsk a

abbrev pub Reads : List ℕ → Ask → Type 0
Reads l a = (a ≡ unknown) ⊎ Spelled l a

short-enough : {l m : List ℕ} → l ≡ m → length l ≤ 2048 → length m ≤ 2048
short-enough e h = subst (λ (x : List ℕ). length x ≤ 2048) e h

script-only : (l : List ℕ) → length (script_word ++ l) ≤ 2048 → IfSome (script_line l) (Reads (script_word ++ l))
unfolding script_line spell_ask
script-only l h =
    let P = Reads (script_word ++ l) in
    then P _ _ (λ k e. let f = field-found l k e in
    then P _ _ (λ n en. let r = listed-only k.1 n en in
    either P _ _ _ (λ z.
    let line : script_word ++ l ≡ spell_ask (script k.0 (values 1024 k.1)) = ap (λ (x : List ℕ). script_word ++ x) (f.front ∙ ap (λ (x : List ℕ). field k.0 ++ x) r.line) in
    let even : length (values 1024 k.1) % 2 ≡ 0 = rw r.many at (eqb-true (n % 2) 0 z) in
    let w : P (script k.0 (values 1024 k.1)) = inr (record { line = line; known = (f.small, r.small, even, short-enough line h) }) in w)
    (λ _. tt)))

turns-only : (l : List ℕ) → length (turns_word ++ l) ≤ 2048 → IfSome (turns_line l) (Reads (turns_word ++ l))
unfolding turns_line spell_ask
turns-only l h =
    let P = Reads (turns_word ++ l) in
    then P _ _ (λ n en. let r = listed-only l n en in
    either P _ _ _ (λ z.
    let line : turns_word ++ l ≡ spell_ask (turns (values 1024 l)) = ap (λ (x : List ℕ). turns_word ++ x) r.line in
    let some : 0 < length (values 1024 l) = rw r.many at (ltb-true 0 n z) in
    let w : P (turns (values 1024 l)) = inr (record { line = line; known = (r.small, some, short-enough line h) }) in w)
    (λ _. tt))

turn-only : (l : List ℕ) → IfSome (turn_line l) (Reads (turn_word ++ l))
unfolding turn_line spell_ask
turn-only l =
    let P = Reads (turn_word ++ l) in
    then P _ _ (λ p e. let f = field-found l p e in
    either P _ _ _ (λ z. let w : P (turn p.0) = inr (record { line = rw (f.front, at_end p.1 z, append-nil); known = f.small }) in w) (λ _. tt))

mark-only : (l : List ℕ) → length (mark_word ++ l) ≤ 2048 → IfSome (mark_line l) (Reads (mark_word ++ l))
unfolding mark_line spell_ask
mark-only l h =
    let P = Reads (mark_word ++ l) in
    then P _ _ (λ b eb. let f = hex-found l b eb in
    either P _ _ _ (λ z.
    let line : mark_word ++ l ≡ spell_ask (mark_own b.0) = rw (f.front, at_end b.1 z, append-nil) in
    let w : P (mark_own b.0) = inr (record { line = line; known = (f.small, f.some, short-enough line h) }) in w)
    (λ _. then P _ _ (λ c ec. let g = hex-found b.1 c ec in
    either P _ _ _ (λ z.
    let line : mark_word ++ l ≡ spell_ask (mark b.0 c.0) = rw (f.front, g.front, at_end c.1 z, append-nil) in
    let w : P (mark b.0 c.0) = inr (record { line = line; known = ((f.small, f.some), (g.small, g.some), short-enough line h) }) in w)
    (λ _. tt))))

plain-only : (l : List ℕ) → Reads l (plain (command_of l))
unfolding spell_ask
plain-only l = go (read l)
  where
    go : (command_of l ≡ Unknown) ⊎ Written l (command_of l) → Reads l (plain (command_of l))
    go (inl u) = inl (ap plain u)
    go (inr w) = inr (record { line = w.line; known = w.known })

ask-only : (l : List ℕ) → length l ≤ 2048 → IfSome (read_ask l) (Reads l)
unfolding read_ask short_line spell_ask
ask-only l h =
    let P = Reads l in
    behind P script_word l script_line _ (λ r e. rw e (script-only r (short-enough e h)))
    (behind P turns_word l turns_line _ (λ r e. rw e (turns-only r (short-enough e h)))
    (behind P mark_word l mark_line _ (λ r e. rw e (mark-only r (short-enough e h)))
    (behind P turn_word l turn_line _ (λ r e. rw e (turn-only r))
    (either P _ _ _ (λ e. let w : P view = inr (record { line = same e; known = tt }) in w) (λ _.
    either P _ _ _ (λ e. let w : P chart = inr (record { line = same e; known = tt }) in w) (λ _.
    either P _ _ _ (λ e. let w : P help = inr (record { line = same e; known = tt }) in w) (λ _. plain-only l)))))))

pub asked-read : (l : List ℕ) → Reads l (ask_of l)
unfolding ask_of
asked-read l = go (ltb 2048 (length l)) refl
  where
    some : (o : Option Ask) → IfSome o (Reads l) → Reads l (unwrap_or o unknown)
    some None h = inl refl
    some (Some a) h = h

    go : (t : Bool) → ltb 2048 (length l) ≡ t → Reads l (cond t unknown (unwrap_or (read_ask l) unknown))
    go true e = inl refl
    go false e = some (read_ask l) (ask-only l (ltb-false 2048 (length l) e))
