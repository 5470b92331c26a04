-- The output of a program is the texts for the input's lines, and a loop over turns is a run.
-- Assumes nothing.
use Prim.Native.Nat.{ℕ, ◌+◌, ◌-◌, ◌≤◌, ◌<◌, min}
use native.Mathlib.Omega.{arith}
use mathlib.Core.Bool.{Bool, true, false, false≢true}
use mathlib.Core.Logic.{◌⊎◌, inl, inr}
use mathlib.Core.Path.{◌≡◌, refl, sym, ap, subst, ◌∙◌}
use mathlib.Core.List.{List, [], ◌∷◌, ◌++◌, append-nil, append_assoc}
use lib.ListN.{length, take}
use lib.Seq.{take-paste, take-length}
use borrow.Author.Tests.{ne_eqb, lt-ltb}
use Rattle.command.specs.declared.input.Input.{Input}
use Rattle.command.specs.declared.input.NextLine.{NextLine}
use Rattle.command.specs.Printing.{Buffer, buffer_of, add}
use Rattle.command.specs.Transcript.{Unbroken, whole_line, counts, left_of, Reads, no_read, one_more_read, Next, Program, text_for, output_from, output, Transcript, Turn, Lines, no_line, one_more_line, Run}
use Rattle.command.proofs.Put.{add-length, add-len}
use Rattle.command.proofs.Held.{held_front}

-- ---- lines

from-line : (p : Program) (l m seen : List ℕ) (k : p.Context) → Unbroken l → output_from p seen (l ++ (10 ∷ m)) k ≡ p.response (seen ++ l) k ++ output_from p [] m (p.after (seen ++ l) k)
unfolding output_from
from-line p [] m seen k u = rw append-nil
from-line p (b ∷ l) m seen k u = rw (ne_eqb b 10 u.0) (from-line p l m (seen ++ (b ∷ [])) k u.1 ∙ rw append_assoc)

from_last : (p : Program) (l seen : List ℕ) (k : p.Context) → Unbroken l → output_from p seen l k ≡ text_for p true (seen ++ l) k
unfolding output_from
from_last p [] seen k u = rw append-nil
from_last p (b ∷ l) seen k u = rw (ne_eqb b 10 u.0) (from_last p l (seen ++ (b ∷ [])) k u.1 ∙ rw append_assoc)

pub transcript_holds : (p : Program) → Transcript p
unfolding output output_from
transcript_holds p = record { line = λ l m k u. from-line p l m [] k u; last = λ b l k u. from_last p (b ∷ l) [] k u ∙ rw (lt-ltb 0 (length (b ∷ l)) (omega arith)); none = λ k. refl }

last_line : (p : Program) (l : List ℕ) (k : p.Context) → Unbroken l → output p l k ≡ text_for p true l k
unfolding output
last_line p l k u = from_last p l [] k u

-- lines and more after them
lines-output : (p : Program) (first : p.Context) (n : ℕ) (consumed texts : List ℕ) (k : p.Context) (ended ok : Bool) → Lines p first n consumed texts k ended ok
    → (ended ≡ false → (m : List ℕ) → output p (consumed ++ m) first ≡ texts ++ output p m k) × (texts ≡ output p consumed first)
unfolding output output_from
lines-output p first n consumed texts k ended ok no_line = ((λ e m. refl), refl)
lines-output p first n consumed texts k ended ok (one_more_line i c t l q false o r u) =
    let h = (lines-output p first i c t q false true r).0 refl in
    let more : (m : List ℕ) → output p ((c ++ (l ++ (10 ∷ []))) ++ m) first ≡ (t ++ p.response l q) ++ output p m (p.after l q) = λ m. ap (λ (x : List ℕ). output p x first) (append_assoc c (l ++ (10 ∷ [])) m ∙ ap (λ (x : List ℕ). c ++ x) (append_assoc l (10 ∷ []) m))
    ∙ h (l ++ (10 ∷ m)) ∙ ap (λ (x : List ℕ). t ++ x) (from-line p l m [] q u) ∙ sym (append_assoc t (p.response l q) (output p m (p.after l q))) in
    ((λ e. more), sym (ap (λ (x : List ℕ). output p x first) (sym (append-nil (c ++ (l ++ (10 ∷ []))))) ∙ more [] ∙ append-nil (t ++ p.response l q)))
lines-output p first n consumed texts k ended ok (one_more_line i c t l q true o r u) =
    let h = (lines-output p first i c t q false true r).0 refl in
    ((λ e. absurd (false≢true (sym e))), sym (h l ∙ ap (λ (x : List ℕ). t ++ x) (last_line p l q u)))

-- ---- reads

reads-join : (a b c : List ℕ) (n m : ℕ) (x y : List ℕ) → Reads a n x b → Reads b m y c → Reads a (n + m) (x ++ y) c
reads-join a b c n m x y r no_read = let e : n + 0 ≡ n = omega arith in rw (e, append-nil) r
reads-join a b c n m x y r (one_more_read i w last piece s) =
    let e : n + (i + 1) ≡ n + i + 1 = omega arith in
    rw (e, ← append_assoc) (one_more_read (n + i) (x ++ w) last piece (reads-join a b last n i x w r s))

-- ---- a turn

-- a text that is put at the front of a buffer which has room for it is there whole
printed : (out out' x : List ℕ) (n : ℕ) → buffer_of out' n ≡ add (buffer_of out 0) x → length x ≤ length out → (n ≤ length out') × (take n out' ≡ x)
unfolding add
printed out out' x n e h =
    let m : min (length x) (length out - 0) ≡ length x = omega arith in
    let l = ap (λ (b : Buffer). length b.bytes) e ∙ add-length (buffer_of out 0) x in
    let k = ap (λ (b : Buffer). b.len) e ∙ add-len (buffer_of out 0) x (omega arith) in
    (omega arith, ap (λ (b : Buffer). take b.len b.bytes) e ∙ rw m (take-paste out 0 x (length x) (omega arith) (omega arith) ∙ take-length x))

pub text_fits : (out out' x : List ℕ) (n : ℕ) → length x ≤ length out → buffer_of out' n ≡ add (buffer_of out 0) x → n ≤ length out'
text_fits out out' x n h e = (printed out out' x n e h).0

-- a line that counts
pub turn_answered : (p : Program) (k k' : p.Context) (input : Input) (chunk bytes : List ℕ) (r : NextLine) (chunk' bytes' out out' : List ℕ) (n : ℕ)
    → ((l : List ℕ) (q : p.Context) → length (p.response l q) ≤ length out)
    → ((l : List ℕ) (q : p.Context) → (p.response (take (length bytes) l) q ≡ p.response l q) × (p.after (take (length bytes) l) q ≡ p.after l q))
    → Next input chunk bytes r chunk' bytes' → r.counts ≡ true → buffer_of out' n ≡ add (buffer_of out 0) (p.response (take r.line.len bytes') k)
    → k' ≡ p.after (take r.line.len bytes') k → Turn p input chunk k r.input chunk' k' (take n out') r.ended
turn_answered p k k' input chunk bytes r chunk' bytes' out out' n fits seen t s e a =
    let c : counts r.ended t.line ≡ true = sym t.some ∙ s in
    let w = held_front t.line bytes r.line bytes' t.held in
    let d = seen t.line k in
    record {
      line = t.line;
      consumed = t.consumed;
      all = rw c ((printed out out' _ n e (fits (take r.line.len bytes') k)).1 ∙ ap (λ (l : List ℕ). p.response l k) w ∙ d.0);
      context = rw c (a ∙ ap (λ (l : List ℕ). p.after l k) w ∙ d.1);
    }

-- one that does not
pub turn_none : (p : Program) (k : p.Context) (input : Input) (chunk bytes : List ℕ) (r : NextLine) (chunk' bytes' : List ℕ) → Next input chunk bytes r chunk' bytes' → r.counts ≡ false
    → Turn p input chunk k r.input chunk' k [] r.ended
turn_none p k input chunk bytes r chunk' bytes' n e =
    let c : counts r.ended n.line ≡ false = sym n.some ∙ e in
    record { line = n.line; consumed = n.consumed; all = rw c; context = rw c }

-- ---- the loop of a program

-- after `count` turns: what the program holds, k, what is left of the last read, and whether the input has ended and the last text was written
pub record SoFar (p : Program) (first k : p.Context) (rest : Input) (chunk : List ℕ) (count : ℕ) (ended ok : Bool) : Type 0 where
  pub reads : ℕ
  pub input : List ℕ
  pub brought : Reads [] reads input (take rest.end chunk)
  pub consumed : List ℕ
  pub texts : List ℕ
  pub lines : Lines p first count consumed texts k ended ok
  pub cut : input ≡ consumed ++ left_of rest chunk
  pub end : ended ≡ true → (left_of rest chunk ≡ []) × (((0 < reads) × (take rest.end chunk ≡ [])) ⊎ (18446744073709551615 ≤ reads))

pub nothing_read : (p : Program) (first : p.Context) (rest : Input) (chunk : List ℕ) → rest ≡ record { at = 0; end = 0 } → SoFar p first first rest chunk 0 false true
nothing_read p first rest chunk z =
    rw z (record { reads = 0; input = []; brought = no_read; consumed = []; texts = []; lines = no_line; cut = refl; end = λ w. absurd (false≢true w) })

pub turn_taken : (p : Program) (first k k' : p.Context) (rest rest' : Input) (chunk chunk' text : List ℕ) (count : ℕ) (ended ok : Bool) → SoFar p first k rest chunk count false true
    → Turn p rest chunk k rest' chunk' k' text ended → SoFar p first k' rest' chunk' (count + 1) ended ok
turn_taken p first k k' rest rest' chunk chunk' text count ended ok s t =
    let c = t.consumed in
    record {
      reads = s.reads + c.count;
      input = s.input ++ c.brought;
      brought = reads-join [] (take rest.end chunk) (take rest'.end chunk') s.reads c.count s.input c.brought s.brought c.reads;
      consumed = s.consumed ++ whole_line ended t.line;
      texts = s.texts ++ text_for p ended t.line k;
      lines = subst (λ (x : p.Context). Lines p first (count + 1) (s.consumed ++ whole_line ended t.line) (s.texts ++ text_for p ended t.line k) x ended ok) (sym t.context) (one_more_line count s.consumed s.texts t.line k ended ok s.lines c.unbroken);
      cut = ap (λ (x : List ℕ). x ++ c.brought) s.cut ∙ append_assoc s.consumed (left_of rest chunk) c.brought ∙ ap (λ (x : List ℕ). s.consumed ++ x) c.cut
          ∙ sym (append_assoc s.consumed (whole_line ended t.line) (left_of rest' chunk'));
      end = λ e. (c.none_left e, over (c.stop e));
    }
  where
    over : ((0 < t.consumed.count) × (take rest'.end chunk' ≡ [])) ⊎ (t.consumed.count ≡ 18446744073709551615)
        → ((0 < s.reads + t.consumed.count) × (take rest'.end chunk' ≡ [])) ⊎ (18446744073709551615 ≤ s.reads + t.consumed.count)
    over (inl w) = inl (omega (arith, w.0), w.1)
    over (inr w) = inr (omega arith)

pub run_over : (p : Program) (first k : p.Context) (rest : Input) (chunk : List ℕ) (count : ℕ) (ended ok : Bool) → SoFar p first k rest chunk count ended ok
    → (ok ≡ false) ⊎ ((ended ≡ true) ⊎ (18446744073709551615 ≤ count)) → Run p first
run_over p first k rest chunk count ended ok s w =
    record {
      reads = s.reads;
      input = s.input;
      last = take rest.end chunk;
      brought = s.brought;
      count = count;
      consumed = s.consumed;
      texts = s.texts;
      context = k;
      ended = ended;
      ok = ok;
      lines = s.lines;
      unread = left_of rest chunk;
      cut = s.cut;
      stop = why w;
      all = (lines-output p first count s.consumed s.texts k ended ok s.lines).1;
    }
  where
    at-end : (left_of rest chunk ≡ []) × (((0 < s.reads) × (take rest.end chunk ≡ [])) ⊎ (18446744073709551615 ≤ s.reads))
        → ((0 < s.reads) × (take rest.end chunk ≡ []) × (left_of rest chunk ≡ [])) ⊎ ((ok ≡ false) ⊎ (18446744073709551615 ≤ count + s.reads))
    at-end (e, inl z) = inl (z.0, z.1, e)
    at-end (e, inr z) = inr (inr (omega arith))

    why : (ok ≡ false) ⊎ ((ended ≡ true) ⊎ (18446744073709551615 ≤ count))
        → ((0 < s.reads) × (take rest.end chunk ≡ []) × (left_of rest chunk ≡ [])) ⊎ ((ok ≡ false) ⊎ (18446744073709551615 ≤ count + s.reads))
    why (inl e) = inr (inl e)
    why (inr (inl e)) = at-end (s.end e)
    why (inr (inr e)) = inr (inr (omega arith))
