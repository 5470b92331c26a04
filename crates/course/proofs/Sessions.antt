-- Whatever lines `course` reads, the session that it holds is one of demand 3.
-- Assumes nothing.
use Prim.Native.Nat.{ℕ, zero, suc, ◌*◌, ◌≤◌}
use mathlib.Core.Bool.{Bool, true, false, cond}
use mathlib.Core.List.{List, [], ◌∷◌, ◌++◌}
use mathlib.Core.Path.{◌≡◌, refl, sym, ap, ap₂, ◌∙◌, subst}
use lib.Dec.{eqb}
use native.Mathlib.Nat.{mul-le-mul}
use native.Mathlib.Omega.{arith}
use lib.ListN.{length, length-append}
use borrow.Author.Tests.{eqb-true, eqb-false, le-ltb}
use Rattle.command.specs.Printing.{hundredths, hex, line_feed}
use Rattle.command.specs.Transcript.{counts, Lines, no_line, one_more_line, Run}
use Rattle.command.specs.Request.{Ask, plain, script, turn, turns, view, chart, mark, mark_own, help, turns_word, fields, spell_ask, KnownAsk}
use Rattle.command.specs.Model.Request.{ask_of}
use Rattle.command.specs.declared.Command.{Command}
use Rattle.command.specs.declared.Command.TheVariants.{Start, StartWith, Move, Goto, Show, Unknown}
use Rattle.command.proofs.Asks.{fields-wide}
use Rattle.command.proofs.Grammar.{course_grammar_holds}
use Rattle.state.specs.declared.Session.{Session}
use Rattle.state.specs.Association.{encode, decode}
use Rattle.reference.specs.Refusal.{bad_length}
use Rattle.reference.specs.Lists.{choose, if_zero}
use Rattle.reference.specs.State.{State}
use Rattle.reference.specs.Start.{Config, config_cause, start}
use Rattle.reference.specs.Step as step_of_lem
use Rattle.reference.specs.Cause.{accepted}
use Rattle.reference.proofs.Legal.{cause-number}
use Rattle.reference.specs.Touch.{nothing, last_touch}
use Rattle.reference.specs.Picture.{picture}
use Rattle.reference.specs.Script.{scripts_ok}
use Rattle.reference.specs.Session as reference
use Rattle.reference.specs.Session.{Request, Reply, touches, own, short, lacks_room, picture_size, Listed, standing as standing-of, state_in, answer_to}
use Rattle.reference.proofs.Start.{ranges}
use Rattle.reference.proofs.Laws.{safe}
use Rattle.reference.proofs.Moves.{accepted-take}
use Rattle.shown.proofs.Unique.{encode_sized}
use Rattle.picture.specs.Picture.{write_refusal}
use Rattle.mark.specs.Mark as marks
use Rattle.mark.specs.Mark.{mark_refusal, marked, state_marked}
use Rattle.mark.proofs.Laws.{laws}
use Rattle.session.specs.Contract.{config_of, or_later, table, started, standing, test_refusal, moved, went, last_touched}
use Rattle.session.proofs.Numbers.{test_number, own-replays}
use Rattle.touch.proofs.Agrees.{touch-back}
use Rattle.view.specs.Table as view_of
use Rattle.view.specs.Table.{view_text}
use Rattle.session.proofs.Holding.{Holds, shown-is, config-is, standing-is}
use Rattle.session.proofs.Shown.{state-right, state-back, picture-long, fits}
use Rattle.turns.specs.Contract.{turned, class_refusal, classed}
use Rattle.script.specs.Contract.{scripts_after}
use Rattle.script.proofs.Sets.{sets_hold, empty_holds}
use Rattle.claim.specs.Implementation.{contract, calls}
use Rattle.claim.specs.Demand3.{Event, asks, Held, step, held_after, IsSession, opening, listed}
use Rattle.claim.proofs.Numbers as claim
use Rattle.claim.proofs.Fits.{held_then, session_then}
use Rattle.claim.proofs.Demand3.{Reached, first-right, reached, demand3}
use Rattle.shell.specs.Answers as shell
use Rattle.shell.specs.Answers.{number, begun_by}
use Rattle.course.specs.Answers.{move_text, zeros, class_lines, class_text, mark_text}
use Rattle.course.specs.Program.{Context, started_with, starts, plain_response, response, after, left_with, course}
use Rattle.course.proofs.Scripts.{zeros-long}
use Rattle.course.specs.Sessions.{after_lines, held_by, InSession, Answers, Lawful, Sessions}

-- ---- one event more

-- what a call that is lent the session's journal leaves
abbrev next : Held → Request → Held
next h q = record { session = (calls h.session h.journal q).session; journal = (calls h.session h.journal q).journal }

called : (h : Held) → InSession h → (q : Request) → InSession (next h q)
called h s q =
    let e : Event = asks (record { request = q; lent = own }) in
    let o : Held = opening contract (reference.table s.config) s.first in
    record {
      config = s.config;
      first = s.first;
      events = s.events ++ e ∷ [];
      begins = s.begins;
      is_session = session_then o s.events e s.is_session tt;
      leads = held_then o s.events e ∙ ap (λ (g : Held). step contract g e) s.leads;
    }

begun : (c : Config) (j : List ℕ) → (started c).refusal ≡ 0 → InSession (record { session = (started c).session; journal = j })
unfolding held_after IsSession
begun c j e = record { config = c; first = j; events = []; begins = e; is_session = tt; leads = refl }

-- ---- what holds in a session

module _ (h : Held) (s : InSession h) where
  abbrev c : Config
  c = s.config

  abbrev list_in : Listed
  list_in = listed contract (reference.table c) s.first s.events

  right_is : config_cause c ≡ 0
  right_is = first-right (reference.table c) s.first s.begins

  holds : Holds c list_in h.session h.journal
  unfolding Reached
  holds = subst (λ (g : Held). Holds c list_in g.session g.journal) s.leads (reached (reference.table c) s.first s.begins s.events s.is_session).1.holds

  size_is : length h.journal ≡ length s.first
  size_is = ap (λ (g : Held). length g.journal) (sym s.leads) ∙ (demand3.sessions (reference.table c) s.first s.begins s.events s.is_session).size

  threads-is : h.session.state.t ≡ c.T
  threads-is = ap (λ (d : Config). d.T) (config-is c right_is list_in h.session h.journal holds)

-- ---- line by line: the journal and the scripts keep their lengths, and what has begun is a session of demand 3, whose scripts are in order

module _ (n m : ℕ) where
  record Kept (k : Context) : Type 0 where
    pub long : length k.base.journal ≡ n
    pub room : length k.scripts ≡ m
    pub held : k.base.begun ≡ true → InSession (held_by k)
    pub order : m ≡ 416 → k.base.begun ≡ true → scripts_ok k.base.session.state.t k.scripts ≡ true

  kept-call : (k : Context) → Kept k → (q : Request) → Kept (cond k.base.begun (left_with k (next (held_by k) q).session (next (held_by k) q).journal) k)
  unfolding called
  kept-call k g q = go k.base.begun refl
    where
      go : (t : Bool) → k.base.begun ≡ t → Kept (cond t (left_with k (next (held_by k) q).session (next (held_by k) q).journal) k)
      go true e =
          let h : Held = held_by k in
          let s = g.held e in
          record {
            long = size_is (next h q) (called h s q) ∙ sym (size_is h s) ∙ g.long;
            room = g.room;
            held = λ _. called h s q;
            order = λ f _. ap (λ (t : ℕ). scripts_ok t k.scripts) (threads-is (next h q) (called h s q) ∙ sym (threads-is h s)) ∙ g.order f e;
          }
      go false e = g

  kept-start : (k : Context) → Kept k → (c : Config) →
      Kept (record { base = begun_by (started c) k.base; scripts = cond (eqb (started c).refusal 0) (zeros (length k.scripts)) k.scripts })
  unfolding begun zeros
  kept-start k g c = go (eqb (started c).refusal 0) refl
    where
      go : (t : Bool) → eqb (started c).refusal 0 ≡ t →
          Kept (record { base = cond t (record { begun = true; session = (started c).session; journal = k.base.journal }) k.base; scripts = cond t (zeros (length k.scripts)) k.scripts })
      go true e =
          let s = begun c k.base.journal (eqb-true (started c).refusal 0 e) in
          let h : Held = record { session = (started c).session; journal = k.base.journal } in
          record {
            long = g.long;
            room = zeros-long (length k.scripts) ∙ g.room;
            held = λ _. s;
            order = λ f _. (λ i. scripts_ok (threads-is h s i) (zeros ((g.room ∙ f) i))) ∙ (empty_holds c.T (ranges c (right_is h s)).threads.1).0;
          }
      go false e = g

  -- a choice of contexts that differ in what the stepper has
  chosen_base : (t : Bool) (k : Context) (b : shell.Context) → cond t (record { base = b; scripts = k.scripts }) k ≡ record { base = cond t b k.base; scripts = k.scripts }
  chosen_base true k b = refl
  chosen_base false k b = refl

  kept-plain : (k : Context) → Kept k → (c : Command) → Kept (after k (plain c))
  unfolding after starts shell.after
  kept-plain k g (Start p t m i) = kept-start k g (table p t m i 0)
  kept-plain k g (StartWith p t m i s) = kept-start k g (table p t m i s)
  kept-plain k g (Move p a o) = subst Kept (chosen_base k.base.begun k _) (kept-call k g (reference.move (step_of_lem.move_of p a o)))
  kept-plain k g (Goto i) = subst Kept (chosen_base k.base.begun k _) (kept-call k g (reference.goto i))
  kept-plain k g Show = g
  kept-plain k g Unknown = g

  kept-script : (k : Context) → Kept k → (i : ℕ) (c : List ℕ) → Kept (after k (script i c))
  unfolding after
  kept-script k g i c = go k.base.begun refl
    where
      go : (t : Bool) → k.base.begun ≡ t → Kept (cond t (record { base = k.base; scripts = scripts_after k.base.session.state.t k.scripts i c }) k)
      go true e =
          let w = sets_hold k.base.session.state.t k.scripts i c in
          record { long = g.long; room = w.long ∙ g.room; held = g.held; order = λ f b. w.in_order (g.order f b) }
      go false e = g

  kept_ask : (k : Context) → Kept k → (a : Ask) → Kept (after k a)
  unfolding after
  kept_ask k g (plain c) = kept-plain k g c
  kept_ask k g (script i c) = kept-script k g i c
  kept_ask k g (turn p) = kept-call k g (reference.turn k.scripts p)
  kept_ask k g (turns ps) = kept-call k g (reference.class k.scripts ps (zeros 1024) (zeros 303104))
  kept_ask k g view = g
  kept_ask k g chart = g
  kept_ask k g (mark b c) = g
  kept_ask k g (mark_own c) = g
  kept_ask k g help = g

  kept-lines : (ls : List (List ℕ)) (k : Context) → Kept k → Kept (after_lines k ls)
  unfolding after_lines
  kept-lines [] k g = g
  kept-lines (l ∷ ls) k g = kept-lines ls (after k (ask_of l)) (kept_ask k g (ask_of l))

  kept_run : {first : Context} {count : ℕ} {consumed texts : List ℕ} {k : Context} {ended ok : Bool} → Kept first → Lines course first count consumed texts k ended ok → Kept k
  kept_run g no_line = g
  kept_run g (one_more_line n consumed texts l k ended ok before u) = go (counts ended l) (kept_run g before)
    where
      go : (t : Bool) → Kept k → Kept (cond t (after k (ask_of l)) k)
      go true f = kept_ask k f (ask_of l)
      go false f = f

never : {A : Type 0} → false ≡ true → A
never e = let w : ◌≡◌ {A = ℕ} 0 1 = ap (λ (b : Bool). cond b 1 0) e in let v : ⊥ = omega arith in absurd v

first-kept : (j x : List ℕ) → Kept (length j) (length x) (started_with j x)
first-kept j x = record { long = refl; room = refl; held = λ e. never e; order = λ f e. never e }

-- ---- what is held and answered then

-- no line asks for more turns than there is room for
few_turns : (l ps : List ℕ) → ask_of l ≡ turns ps → length ps ≤ 1024
unfolding spell_ask
few_turns l ps e =
    let known : KnownAsk (turns ps) = subst KnownAsk e (course_grammar_holds.known l (λ f. other ps (sym e ∙ f))) in
    omega (arith, known.2, fields-wide ps, length-append turns_word (fields ps))
  where
    is-turns : Ask → ℕ
    is-turns (turns ps) = 1
    is-turns (plain c) = 0
    is-turns (script i c) = 0
    is-turns (turn p) = 0
    is-turns view = 0
    is-turns chart = 0
    is-turns (mark b c) = 0
    is-turns (mark_own c) = 0
    is-turns help = 0

    other : (ps : List ℕ) → turns ps ≡ plain Unknown → ⊥
    other ps f = let w : ◌≡◌ {A = ℕ} 1 0 = ap is-turns f in omega arith

module _ (n m : ℕ) (k : Context) (g : Kept n m k) (b : k.base.begun ≡ true) where
  abbrev s : InSession (held_by k)
  s = g.held b

  abbrev d : Config
  d = s.config

  abbrev l : Listed
  l = list_in (held_by k) s

  abbrev ms : List step_of_lem.Move
  ms = standing-of l

  abbrev r : Session
  r = k.base.session

  abbrev j : List ℕ
  j = k.base.journal

  good : config_cause d ≡ 0
  good = right_is (held_by k) s

  shows : Holds d l r j
  shows = holds (held_by k) s

  legal : accepted (start d) ms ≡ true
  legal = accepted-take l.n l.kept (start d) shows.legal

  numbered : (q : Request) → (calls r j q).refusal ≡ answer_to d n l q own
  numbered q = claim.number d good l r j shows n g.long own q

  -- what a session that has begun responds
  said : (x z : List ℕ) → x ≡ z → cond k.base.begun x shell.question_mark ≡ z
  said x z e = ap (λ (t : Bool). cond t x shell.question_mark) b ∙ e

  module _ (long : 12000 ≤ n) (all : m ≡ 416) where
    room : short n ≡ false
    room = le-ltb n 12000 long

    order : scripts_ok d.T k.scripts ≡ true
    order = ap (λ (t : ℕ). scripts_ok t k.scripts) (sym (threads-is (held_by k) s)) ∙ g.order all b

    enough : (ps : List ℕ) → length ps ≤ 1024 → lacks_room d (length ps) (zeros 1024) (zeros 303104) ≡ false
    enough ps h =
        let f = ranges d good in
        let small : picture_size d ≤ 296 = omega (arith, f.processors.1, f.threads.1, f.mutexes.1) in
        rw (zeros-long 1024, zeros-long 303104, le-ltb 1024 (length ps) h) (le-ltb 303104 (length ps * picture_size d) (omega (arith, mul-le-mul h small)))

    to_turns : (i ps : List ℕ) → ask_of i ≡ turns ps → response k (turns ps) ≡ class_lines d k.scripts ms ps
    unfolding response class_text classed
    to_turns i ps e =
        let none : class_refusal r j k.scripts ps (zeros 1024) (zeros 303104) ≡ 0 =
        numbered (reference.class k.scripts ps (zeros 1024) (zeros 303104)) ∙ rw (room, enough ps (few_turns i ps e), order) in
        said (class_text r j k.scripts ps) _
        (ap (λ (z : ℕ). if_zero z (class_lines (config_of r) k.scripts (standing r j) ps) (number z)) none ∙
        (λ t. class_lines (config-is d good l r j shows t) k.scripts (standing-is d good l r j shows t) ps))

    to_show : response k (plain Show) ≡ hex (picture (state_in d l)) ++ line_feed
    unfolding response plain_response shell.response shell.picture_text
    to_show =
        let f = ranges d good in
        let small : picture_size d ≤ length (zeros 296) = omega (arith, zeros-long 296, f.processors.1, f.threads.1, f.mutexes.1) in
        let none : write_refusal r.state 296 ≡ 0 =
        ap₂ (λ (q : Session) (z : ℕ). write_refusal q.state z) shows.shows (sym (zeros-long 296)) ∙ fits d ms good legal (zeros 296) small in
        said (shell.picture_text r.state) _
        (ap (λ (z : ℕ). cond (eqb z 0) (hex (picture (decode r.state)) ++ line_feed) (number z)) none ∙
        ap (λ (z : State). hex (picture z) ++ line_feed) (shown-is d good l r j shows))

    to_mark : (c : List ℕ) → response k (mark_own c) ≡
        choose (eqb (length c) (picture_size d)) (hundredths (marks.mark (picture (state_in d l)) c) ++ line_feed) (number bad_length)
    unfolding response mark_text marked
    to_mark c =
        let z : State = state_in d l in
        let back = state-back d ms good legal in
        let w = laws.own (encode z) c (encode_sized z) (state-right d ms good legal) in
        let is : state_marked r.state c ≡ marked (picture z) c =
        ap (λ (q : Session). state_marked q.state c) shows.shows ∙ w.0 ∙ ap (λ (y : State). marked (picture y) c) back in
        said (mark_text (state_marked r.state c)) _
        (ap mark_text is ∙ go (eqb (length c) (picture_size d)) refl (picture-long d ms good legal) (rw back at w.1) (rw back at w.2))
      where
        go : (t : Bool) → eqb (length c) (picture_size d) ≡ t → length (picture (state_in d l)) ≡ picture_size d
            → (length c ≡ length (picture (state_in d l)) → mark_refusal (picture (state_in d l)) c ≡ 0)
            → ((length c ≡ length (picture (state_in d l)) → ⊥) → mark_refusal (picture (state_in d l)) c ≡ bad_length)
            → mark_text (marked (picture (state_in d l)) c) ≡ choose t (hundredths (marks.mark (picture (state_in d l)) c) ++ line_feed) (number bad_length)
        go true e size right wrong = rw (right (eqb-true (length c) (picture_size d) e ∙ sym size))
        go false e size right wrong = rw (wrong (λ q. eqb-false (length c) (picture_size d) e (q ∙ size)))

    -- what a move, or a turn, is answered
    to_answer : (q : Request) (z : ℕ) → answer_to d n l q own ≡ z → move_text (calls r j q).refusal (calls r j q).touch ≡ move_text z (touches d l q own)
    unfolding move_text
    to_answer q z e =
        ap (λ (a : Reply). move_text a.refusal a.touch) (claim.reply-is d good l r j shows n g.long own q) ∙
        ap (λ (y : ℕ). move_text y (choose (eqb y 0) (touches d l q own) nothing)) e ∙ by z
      where
        by : (y : ℕ) → move_text y (choose (eqb y 0) (touches d l q own) nothing) ≡ move_text y (touches d l q own)
        by zero = refl
        by (suc y) = refl

    -- no later cause
    alone : (z : ℕ) → or_later z 0 ≡ z
    alone zero = refl
    alone (suc z) = refl

    to_view : response k view ≡ view_of.table (encode (state_in d l)) (last_touch (start d) ms)
    unfolding response view_text last_touched
    to_view =
        let passes : test_refusal r j ≡ 0 =
        sym (alone (test_refusal r j)) ∙ test_number d good l r j shows j 0 ∙ rw (g.long, room, own-replays d good l r j shows) in
        said _ _
        ((λ i. view_text (shows.shows i).state (touch-back (choose (eqb (passes i) 0) (last_touch (start (config-is d good l r j shows i)) (standing-is d good l r j shows i)) nothing) i)) ∙
        rw (state-right d ms good legal))

    answers : Answers k d l
    unfolding response plain_response shell.response moved went turned
    answers =
        record {
          to_move = λ p a o. said _ _ (to_answer (reference.move (step_of_lem.move_of p a o)) _ (rw room));
          to_view = to_view;
          to_goto = λ i. said _ _ (ap number (numbered (reference.goto i) ∙ rw room));
          to_show = to_show;
          to_turn = λ p. said _ _ (to_answer (reference.turn k.scripts p) _ (rw (room, order)));
          to_turns = to_turns;
          to_mark = to_mark;
        }

  lawful : Lawful n m k
  lawful =
      record {
        config = d;
        listed = l;
        right = good;
        within = shows.within;
        legal = shows.legal;
        state = shows.shows;
        whole = shows.whole;
        size = g.long;
        room = g.room;
        safe = safe d ms good legal;
        replies = λ q. claim.reply-is d good l r j shows n g.long own q;
        answers = answers;
      }

pub sessions : Sessions
sessions =
    record {
      held = λ j x ls b. (lines j x ls).held b;
      lawful = λ j x ls b. lawful (length j) (length x) (after_lines (started_with j x) ls) (lines j x ls) b;
      causes = cause-number;
      runs = λ j x u b. ((run j x u).held b, lawful (length j) (length x) u.context (run j x u) b);
    }
  where
    lines : (j x : List ℕ) (ls : List (List ℕ)) → Kept (length j) (length x) (after_lines (started_with j x) ls)
    lines j x ls = kept-lines (length j) (length x) ls (started_with j x) (first-kept j x)

    run : (j x : List ℕ) (u : Run course (started_with j x)) → Kept (length j) (length x) u.context
    run j x u = kept_run (length j) (length x) (first-kept j x) u.lines
