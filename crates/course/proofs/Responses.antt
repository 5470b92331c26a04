-- No response has more than 700,000 bytes, and a line shows by its first 2,049.
use Prim.Native.Nat.{ℕ, zero, suc, ◌*◌, ◌≤◌}
use native.Mathlib.Omega.{arith}
use mathlib.Core.Bool.{Bool, true, false, not, ◌||◌, cond}
use mathlib.Core.Path.{◌≡◌, refl, sym, ap, ◌∙◌}
use mathlib.Core.List.{List, [], ◌∷◌, ◌++◌}
use lib.Dec.{lit≤, leb, ltb}
use lib.ListN.{length, take, length-append}
use lib.Seq.{take_all, length-take-le}
use borrow.Author.Tests.{leb-true, leb-false, ltb-false, not-false}
use Rattle.command.specs.Printing.{text, decimal, hundredths, line_feed}
use Rattle.command.specs.Request.{Ask, plain, script, turn, turns, view, chart, mark, mark_own, help}
use Rattle.command.specs.Model.Request.{ask_of}
use Rattle.command.proofs.Lines.{decimal-length, hundredths-length}
use Rattle.command.proofs.Put.{hex-length}
use Rattle.command.proofs.Grammar.{course_grammar_holds}
use Rattle.state.specs.declared.Session.{Session}
use Rattle.state.specs.Rules.{session_ok}
use Rattle.reference.specs.Lists.{if_zero}
use Rattle.reference.specs.Start.{Config, config_cause, start}
use Rattle.reference.specs.Step as step
use Rattle.reference.specs.Step.{move_of}
use Rattle.reference.specs.Touch.{Word, none, count, token, queue, ready, birth, Touch}
use Rattle.command.specs.declared.Command.{Command}
use Rattle.command.specs.declared.Command.TheVariants.{Start, StartWith, Move, Goto, Show, Unknown}
use Rattle.reference.specs.Cause.{accepted}
use Rattle.reference.specs.Picture.{picture}
use Rattle.reference.specs.Script.{turn_cause, turn_after}
use Rattle.reference.specs.Session.{picture_size, state_of, lacks_room}
use Rattle.reference.proofs.Tests.{passed}
use Rattle.reference.proofs.Script.{accepted-turn}
use Rattle.shown.proofs.Kept.{state-kept, fields_say}
use Rattle.session.specs.Contract.{config_of, standing, lent_refusal, matches, moved, last_touched}
use Rattle.touch.specs.Association.{touch_shown}
use Rattle.view.specs.Words.{trimmed, word_at, kind_word, word_text, touch_text}
use Rattle.command.specs.Command.{field}
use Rattle.session.proofs.Answers.{or_passed, lent_passed}
use Rattle.session.proofs.Found.{state-right}
use Rattle.session.proofs.Holding.{agrees}
use Rattle.session.proofs.Shown.{picture-long}
use Rattle.turns.specs.Contract.{turned, class_refusal}
use Rattle.shell.specs.Answers.{number, question_mark}
use Rattle.shell.proofs.Responses as shell
use Rattle.view.proofs.Sizes.{view-length}
use Rattle.chart.proofs.Length.{chart-length}
use Rattle.course.specs.Answers.{move_text, zeros, class_lines, class_text, mark_text, help_text}
use Rattle.script.specs.Contract.{set_refusal}
use Rattle.mark.specs.Mark.{Marked, marked, state_marked}
use Rattle.course.proofs.Scripts.{zeros-long}
use Rattle.course.specs.Program.{Context, plain_response, response, course}

number-length : (n : ℕ) → length (number n) ≤ 4
number-length n = simp length-append (omega (arith, decimal-length n))

-- ---- a class

-- the pictures of a record that keeps the rules are short
small : (r : Session) → session_ok r ≡ true → picture_size (config_of r) ≤ 296
small r ok = let f = fields_say r.state (state-kept r.state (state-right r ok)).fields in omega (arith, f.p_range.1, f.t_range.1, f.m_range.1)

lines-length : (c : Config) → config_cause c ≡ 0 → picture_size c ≤ 296 → (x ps : List ℕ) (ms : List step.Move) → accepted (start c) ms ≡ true → length (class_lines c x ms ps) ≤ 597 * length ps
unfolding class_lines
lines-length c e s x [] ms ok = omega arith
lines-length c e s x (p ∷ ps) ms ok =
    let on : List step.Move = turn_after c x ms p in
    let ok' = accepted-turn c x ms p ok in
    let long = picture-long c on e ok' in
    simp length-append (omega (arith, decimal-length (turn_cause c x ms p), hex-length (picture (state_of c on)), lines-length c e s x ps on ok'))

neither : (a b : Bool) → a || b ≡ false → a ≡ false
neither true b e = e
neither false b e = refl

class_text-length : (r : Session) (j x ps : List ℕ) → length (class_text r j x ps) ≤ 611328
unfolding class_text class_refusal
class_text-length r j x ps = go (class_refusal r j x ps (zeros 1024) (zeros 303104)) refl
  where
    go : (n : ℕ) → class_refusal r j x ps (zeros 1024) (zeros 303104) ≡ n → length (if_zero n (class_lines (config_of r) x (standing r j) ps) (number n)) ≤ 611328
    go zero e =
        let first = or_passed (lent_refusal r (length j)) _ e in
        let second = passed (lacks_room (config_of r) (length ps) (zeros 1024) (zeros 303104)) _ _ first.1 in
        let third = passed (not (matches r j)) _ _ second.1 in
        let few : length ps ≤ 1024 = omega (arith, ltb-false (length (zeros 1024)) (length ps) (neither (ltb (length (zeros 1024)) (length ps)) _ second.0), zeros-long 1024) in
        let t = agrees r j first.0 (not-false _ third.0) in
        omega (arith, lines-length (config_of r) t.config (small r (lent_passed r (length j) first.0).1) x ps (standing r j) t.legal)
    go (suc n) e = omega (arith, number-length (suc n))

-- ---- any line

choice_length : (t : Bool) (x y : List ℕ) → length x ≤ 700000 → length y ≤ 700000 → length (cond t x y) ≤ 700000
choice_length true x y h k = h
choice_length false x y h k = k

mark-length : (a : Marked) → length (mark_text a) ≤ 7
unfolding mark_text
mark-length a = go a.refusal
  where
    go : (n : ℕ) → length (if_zero n (hundredths a.mark ++ line_feed) (number n)) ≤ 7
    go zero = simp length-append (omega (arith, hundredths-length a.mark))
    go (suc n) = omega (arith, number-length (suc n))

help-length : length help_text ≤ 700000
unfolding text
help-length = lit≤ tt

-- a number with the words
numbered : (n : ℕ) (name : List ℕ) → length name ≤ 5 → length (name ++ field n) ≤ 9
unfolding field
numbered n name h =
    let e : suc (length (decimal n)) ≤ 4 = omega (arith, decimal-length n) in
    let f : length (field n) ≤ 4 = e in
    omega (arith, f, length-append name (field n))

word-length : (w : Word) → length (word_text w) ≤ 9
unfolding word_text word_at trimmed text
word-length none = lit≤ tt
word-length (count m) = numbered m (kind_word 1) (lit≤ tt)
word-length (token m) = numbered m (kind_word 2) (lit≤ tt)
word-length (queue m) = numbered m (kind_word 3) (lit≤ tt)
word-length (ready q) = numbered q (kind_word 4) (lit≤ tt)
word-length (birth k) = numbered k (kind_word 5) (lit≤ tt)

move-length : (n : ℕ) (t : Touch) → length (move_text n t) ≤ 40
unfolding move_text touch_text text
move-length zero t = simp length-append (omega (arith, decimal-length 0, word-length t.reads, word-length t.writes))
move-length (suc n) t = simp length-append (omega (arith, decimal-length (suc n)))

plain-length : (k : Context) (c : Command) → length (plain_response k c) ≤ 700000
unfolding plain_response
plain-length k (Start p t m b) = omega (arith, shell.response-length (Start p t m b) k.base)
plain-length k (StartWith p t m b s) = omega (arith, shell.response-length (StartWith p t m b s) k.base)
plain-length k (Move p a o) =
    let x = moved k.base.session k.base.journal (move_of p a o) in
    choice_length k.base.begun _ question_mark (omega (arith, move-length x.refusal (touch_shown x.touch))) (omega arith)
plain-length k (Goto i) = omega (arith, shell.response-length (Goto i) k.base)
plain-length k Show = omega (arith, shell.response-length Show k.base)
plain-length k Unknown = omega (arith, shell.response-length Unknown k.base)

response-length : (k : Context) (a : Ask) → length (response k a) ≤ 700000
unfolding response
response-length k (plain c) = plain-length k c
response-length k (script i c) = choice_length k.base.begun _ question_mark (omega (arith, number-length (set_refusal k.base.session.state.t k.scripts i c))) (omega arith)
response-length k (turn p) =
    let x = turned k.base.session k.base.journal k.scripts p in
    choice_length k.base.begun _ question_mark (omega (arith, move-length x.refusal (touch_shown x.touch))) (omega arith)
response-length k (turns ps) = choice_length k.base.begun _ question_mark (omega (arith, class_text-length k.base.session k.base.journal k.scripts ps)) (omega arith)
response-length k view = choice_length k.base.begun _ question_mark (omega (arith, view-length k.base.session.state (touch_shown (last_touched k.base.session k.base.journal)))) (omega arith)
response-length k chart = choice_length k.base.begun _ question_mark (omega (arith, chart-length k.base.session k.base.journal)) (omega arith)
response-length k (mark b c) = omega (arith, mark-length (marked b c))
response-length k (mark_own c) = choice_length k.base.begun _ question_mark (omega (arith, mark-length (state_marked k.base.session.state c))) (omega arith)
response-length k help = help-length

pub response_fits : (l : List ℕ) (k : Context) → length (course.response l k) ≤ 700000
response_fits l k = response-length k (ask_of l)

-- ---- a line that is too long shows by its first 2,049 bytes

same_ask : (n : ℕ) (l : List ℕ) → 2049 ≤ n → ask_of (take n l) ≡ ask_of l
same_ask n l h = go (leb (length l) n) refl
  where
    go : (t : Bool) → leb (length l) n ≡ t → ask_of (take n l) ≡ ask_of l
    go true e = ap ask_of (take_all n l (leb-true (length l) n e))
    go false e =
        let k = leb-false (length l) n e in
        course_grammar_holds.long (take n l) (omega (arith, length-take-le n l (omega arith))) ∙ sym (course_grammar_holds.long l (omega arith))

pub front_read : (n : ℕ) (l : List ℕ) (k : Context) → 2049 ≤ n → (course.response (take n l) k ≡ course.response l k) × (course.after (take n l) k ≡ course.after l k)
front_read n l k h = let e = same_ask n l h in (rw e, rw e)
