-- What a replay of the journal finds, case by case: the shape in which the code arrives at it.
-- Assumes nothing.
use Prim.Native.Nat.{ℕ, ◌-◌, ◌*◌, ◌≤◌}
use mathlib.Core.Bool.{Bool, true, false, ◌&&◌, true≢false}
use mathlib.Core.List.{List, []}
use Rattle.std.specs.Bool.{then_some}
use Rattle.std.specs.Prelude.{Some, None, Ok, Err}
use mathlib.Core.Path.{◌≡◌, refl, sym, ap, ◌∙◌, subst}
use native.Mathlib.Omega.{arith}
use lib.Dec.{eqb}
use lib.ListN.{length, take}
use borrow.Author.Tests.{le-leb, eq-eqb, eqb-true, ne_eqb}
use Rattle.session.specs.declared.replay.Stages.{Stages}
use Rattle.state.specs.declared.Session.{Session}
use Rattle.state.specs.declared.refusal.Refusal.{Refusal}
use Rattle.state.specs.Refusal.{outcome}
use Rattle.state.proofs.Refused.{numbered}
use Rattle.state.specs.declared.State.{State as Record}
use Rattle.state.specs.Association.{encode, decode}
use Rattle.state.specs.Rules.{state_ok, session_ok}
use Rattle.state.specs.Record.{Sized}
use Rattle.state.specs.contracts.StatePartialEq.TheImpl as same
use Rattle.state.specs.Model.Access.{start_record}
use Rattle.step.specs.declared.Run as code
use Rattle.step.specs.Model.Moves.{Run, run_shown, run_from, run_of, counted_from, counted_of}
use Rattle.step.proofs.Split.{Alike, both-made, front-refused}
use Rattle.reference.specs.Lists.{in_range, choose}
use Rattle.reference.specs.State.{same_state}
use Rattle.reference.specs.Start.{Config, config_cause, start}
use Rattle.reference.specs.Step.{Move, run}
use Rattle.reference.specs.Cause.{accepted}
use Rattle.reference.specs.Session.{moves, replays}
use Rattle.reference.proofs.Tests.{both_left, both_right, range_true, true_range}
use Rattle.reference.proofs.Same.{same_state_exact}
use Rattle.shown.proofs.Kept.{state-kept, fields_say}
use Rattle.shown.proofs.Decode.{decode-encode}
use Rattle.shown.proofs.Reached.{reached-allowed}
use Rattle.shown.proofs.Unique.{session-held}
use Rattle.session.specs.Contract.{shown, config_of, lent_refusal, matches}
use Rattle.session.specs.Model.Replay.{between, first_record, counted_to, farther, all_made, Reaches, Replays}
use Rattle.session.proofs.Equal.{state_exact}
use Rattle.session.proofs.Answers.{lent_passed}
use Rattle.session.proofs.Replayed.{Made, made_all}
use Rattle.session.proofs.Standing.{accepted-within}

-- ---- a record that keeps the rules

module _ (r : Session) (ok : session_ok r ≡ true) where
  pub state-right : state_ok r.state ≡ true
  unfolding session_ok
  state-right = both_left (state_ok r.state) _ (both_left (state_ok r.state && in_range 1 r.state.t r.initial) _ ok)

  -- the start table read off it is in range
  pub config-right : config_cause (config_of r) ≡ 0
  unfolding session_ok config_cause
  config-right =
      let f = fields_say r.state (state-kept r.state state-right).fields in
      rw (
        true_range 1 8 r.state.p f.p_range.0 f.p_range.1,
        true_range 1 32 r.state.t f.t_range.0 f.t_range.1,
        true_range 1 8 r.state.m f.m_range.0 f.m_range.1,
        both_right (state_ok r.state) _ (both_left (state_ok r.state && in_range 1 r.state.t r.initial) _ ok),
        le-leb r.state.stealing 1 f.stealing,
      )

  pub applied-most : r.state.applied ≤ 4000
  applied-most = (fields_say r.state (state-kept r.state state-right).fields).applied

  -- the number kept is not below the standing moves, nor above 4,000
  pub kept_range : (r.state.applied ≤ r.kept) × (r.kept ≤ 4000)
  unfolding session_ok
  kept_range = range_true r.state.applied 4000 r.kept (both_right (state_ok r.state && in_range 1 r.state.t r.initial) _ ok)

  shown-back : Sized r.state → encode (shown r) ≡ r.state
  shown-back size = ap (λ (x : Session). x.state) (session-held r size ok).same

-- the states are the same exactly where the records are, once the moves are accepted
module _ (r : Session) (size : Sized r.state) (ok : session_ok r ≡ true) (ms : List Move) (legal : accepted (start (config_of r)) ms ≡ true) (s : Record)
    (is : s ≡ encode (run (start (config_of r)) ms)) where
  back : decode s ≡ run (start (config_of r)) ms
  back = rw is (decode-encode _ (reached-allowed (config_of r) (config-right r ok) ms legal))

  alike_is : (b : Bool) → (b ≡ true → s ≡ r.state) → (s ≡ r.state → b ≡ true) → b ≡ same_state (run (start (config_of r)) ms) (shown r)
  alike_is true f g = sym (rw (sym back ∙ ap decode (f refl)) (same_state_exact.itself (shown r)))
  alike_is false f g = by (same_state (run (start (config_of r)) ms) (shown r)) refl
    where
      by : (b : Bool) → same_state (run (start (config_of r)) ms) (shown r) ≡ b → false ≡ same_state (run (start (config_of r)) ms) (shown r)
      by false z = sym z
      by true z =
          let w : run (start (config_of r)) ms ≡ shown r = same_state_exact.only _ _ z in
          absurd (true≢false (sym (g (is ∙ ap encode w ∙ shown-back r ok size))))

-- ---- a run on, from the state after the first a moves of a journal to its first b

pub between-front : (a : ℕ) (j : List ℕ) → between 0 a j ≡ take (3 * a) j
between-front a j = let e : 3 * a - 3 * 0 ≡ 3 * a = omega arith in ap (λ (n : ℕ). take n j) e

module _ (c : Config) (right : config_cause c ≡ 0) (j : List ℕ) (a b : ℕ) (within : a ≤ b) (long : 3 * b ≤ length j) where
  abbrev first : Record
  first = start_record c.P c.T c.M c.B c.stealing

  module _ (s : Record) (made : Made c (moves a j) true s) where
    front : Made c (moves a j) (eqb (run_of first (take (3 * a) j)).refusal 0) (run_of first (take (3 * a) j)).state
    front = made_all c right a j (omega arith) first refl

    over : eqb (run_of first (take (3 * a) j)).refusal 0 ≡ true
    over = front.accepts ∙ sym made.accepts

    both : (calls : List ℕ) →
        Alike (run_of first (take (3 * b) j)) (run_of s (between a b j)) (counted_of first (take (3 * b) j) calls)
        (counted_of s (between a b j) (counted_of first (take (3 * a) j) calls))
    both calls =
        subst (λ (x : Record).
        Alike (run_of first (take (3 * b) j)) (run_of x (between a b j)) (counted_of first (take (3 * b) j) calls)
        (counted_of x (between a b j) (counted_of first (take (3 * a) j) calls)))
        (front.state over ∙ sym (made.state refl))
        (both-made j a b within long first calls (eqb-true _ 0 over))

    pub part-made : Made c (moves b j) (eqb (run_of s (between a b j)).refusal 0) (run_of s (between a b j)).state
    part-made =
        let all = made_all c right b j long first refl in
        let w = both [] in
        let same : eqb (run_of first (take (3 * b) j)).refusal 0 ≡ eqb (run_of s (between a b j)).refusal 0 = ap (λ (n : ℕ). eqb n 0) w.refusal in
        record { accepts = sym same ∙ all.accepts; state = λ x. sym w.state ∙ all.state (same ∙ x) }

    pub part-counts : (calls : List ℕ) → counted_of s (between a b j) (counted_of first (take (3 * a) j) calls) ≡ counted_of first (take (3 * b) j) calls
    part-counts calls = sym (both calls).counts

  -- a refused move ends it
  pub front-counts : ((run_of first (take (3 * a) j)).refusal ≡ 0 → ⊥) → (calls : List ℕ) →
      counted_of first (take (3 * a) j) calls ≡ counted_of first (take (3 * b) j) calls
  front-counts z calls = sym (front-refused j a b within long first calls z).counts

-- no moves
pub part_none : (a b : ℕ) → a ≡ b → (s : Record) (j calls : List ℕ) →
    (Some s ≡ all_made (run_of s (between a b j))) × (calls ≡ counted_of s (between a b j) calls)
unfolding all_made run_from counted_from
part_none a b e s j calls = let z : 3 * b - 3 * a ≡ 0 = omega arith in rw z (refl, refl)

-- whether the code's run made all its moves
pub part_made : (r : code.Run) (g : Run) → run_shown r ≡ g → r.outcome ≡ Ok tt → Some r.state ≡ all_made g
unfolding all_made outcome
part_made r g is ok = rw (← is, ok)

pub part_refused : (r : code.Run) (g : Run) → run_shown r ≡ g → (e : Refusal) → r.outcome ≡ Err e → None ≡ all_made g
unfolding all_made outcome
part_refused r g is e refused = rw (← is, refused, numbered e)

not-made : (g : Run) → None ≡ all_made g → g.refusal ≡ 0 → ⊥
unfolding all_made
not-made g h z = let e = rw (eq-eqb g.refusal 0 z) at h in cc

module _ (c : Config) (ms : List Move) (g : Run) (made : Made c ms (eqb g.refusal 0) g.state) where
  all-of : (x : Record) → Some x ≡ all_made g → Made c ms true x
  unfolding all_made
  all-of x h = by (eqb g.refusal 0) made h
    where
      by : (t : Bool) → Made c ms t g.state → Some x ≡ choose t (Some g.state) None → Made c ms true x
      by true m e = let same : g.state ≡ x = cc in subst (Made c ms true) same m
      by false m e = absurd (cc)

  none-of : None ≡ all_made g → accepted (start c) ms ≡ false
  none-of h = sym made.accepts ∙ ne_eqb g.refusal 0 (not-made g h)

-- ---- the journal's kept moves: the first a, those up to b, then the others

pub journal_long : (r : Session) (j : List ℕ) → lent_refusal r (length j) ≡ 0 → 3 * r.kept ≤ length j
journal_long r j free = let h = lent_passed r (length j) free in omega (arith, h.0, (kept_range r h.1).1)

module _ (r : Session) (j : List ℕ) (free : lent_refusal r (length j) ≡ 0) (a b : ℕ) (ab : a ≤ b) (top : b ≤ r.kept)
    (first : Record) (first-is : first ≡ first_record r) where
  abbrev c : Config
  c = config_of r

  right : config_cause c ≡ 0
  right = config-right r (lent_passed r (length j) free).1

  -- not all of the first m are accepted
  none : (m : ℕ) → m ≤ r.kept → accepted (start c) (moves m j) ≡ false → Reaches r j a b None
  unfolding Reaches
  none m h e = by (accepted (start c) (moves r.kept j)) refl
    where
      by : (t : Bool) → accepted (start c) (moves r.kept j) ≡ t → accepted (start c) (moves r.kept j) ≡ false
      by false z = z
      by true z = absurd (true≢false (sym (accepted-within m r.kept j (start c) h z) ∙ e))

  -- the first a
  abbrev low_run : Run
  low_run = run_of first (between 0 a j)

  low_made : Made c (moves a j) (eqb low_run.refusal 0) low_run.state
  low_made =
      subst (λ (l : List ℕ). Made c (moves a j) (eqb (run_of first l).refusal 0) (run_of first l).state) (sym (between-front a j))
      (made_all c right a j (omega (arith, journal_long r j free)) first first-is)

  low_counts : (calls : List ℕ) → counted_of first (between 0 a j) calls ≡ counted_to r a j calls
  low_counts calls = λ i. counted_of (first-is i) (between-front a j i) calls

  pub low-all : (x : Record) → Some x ≡ all_made (run_of first (between 0 a j)) → Made c (moves a j) true x
  low-all x h = all-of c (moves a j) low_run low_made x h

  pub low-none : None ≡ all_made (run_of first (between 0 a j)) → (calls n : List ℕ) → n ≡ counted_of first (between 0 a j) calls →
      Reaches r j a b None × (n ≡ counted_to r b j calls)
  low-none h calls n is = (
    none a (omega arith) (none-of c (moves a j) low_run low_made h),
    is ∙ low_counts calls ∙
        front-counts c right j a b ab (omega (arith, journal_long r j free))
        (λ e. not-made low_run h ((λ i. (run_of (first-is i) (between-front a j i)).refusal) ∙ e)) calls,
  )

  -- those up to b
  module _ (x : Record) (low : Made c (moves a j) true x) where
    abbrev high_run : Run
    high_run = run_of x (between a b j)

    high_made : Made c (moves b j) (eqb high_run.refusal 0) high_run.state
    high_made = part-made c right j a b ab (omega (arith, journal_long r j free)) x low

    pub high-all : (y : Record) → Some y ≡ all_made (run_of x (between a b j)) → Made c (moves b j) true y
    high-all y h = all-of c (moves b j) high_run high_made y h

    pub high-none : None ≡ all_made (run_of x (between a b j)) → Reaches r j a b None
    high-none h = none b top (none-of c (moves b j) high_run high_made h)

    pub high_counts : (calls n m : List ℕ) → n ≡ counted_of first (between 0 a j) calls → m ≡ counted_of x (between a b j) n → m ≡ counted_to r b j calls
    high_counts calls n m n-is m-is =
        m-is ∙ ap (counted_of x (between a b j)) (n-is ∙ low_counts calls) ∙
        part-counts c right j a b ab (omega (arith, journal_long r j free)) x low calls

    -- the others
    module _ (y : Record) (high : Made c (moves b j) true y) where
      abbrev rest_run : Run
      rest_run = run_of y (between b r.kept j)

      rest_made : Made c (moves r.kept j) (eqb rest_run.refusal 0) rest_run.state
      rest_made = part-made c right j b r.kept top (journal_long r j free) y high

      pub rest-none : None ≡ all_made (run_of y (between b r.kept j)) → Reaches r j a b None
      rest-none h = none r.kept (omega arith) (none-of c (moves r.kept j) rest_run rest_made h)

      pub rest-all : (z : Record) → Some z ≡ all_made (run_of y (between b r.kept j)) → Reaches r j a b (Some (record { low = x; high = y }))
      unfolding Reaches
      rest-all z h = (sym (all-of c (moves r.kept j) rest_run rest_made z h).accepts, low.state refl, high.state refl)

-- ---- the comparison with the record

module _ (r : Session) (size : Sized r.state) (j : List ℕ) (free : lent_refusal r (length j) ≡ 0) where
  matches-is : (standing : Record) → accepted (start (config_of r)) (moves r.kept j) ≡ true →
      standing ≡ encode (run (start (config_of r)) (moves r.state.applied j)) → (b : Bool) → b ≡ same.eq-value.it standing r.state → matches r j ≡ b
  unfolding matches replays decode
  matches-is standing all is b e =
      let good = (lent_passed r (length j) free).1 in
      let exact = state_exact standing r.state in
      rw all
      (sym
      (alike_is r size good (moves r.state.applied j) (accepted-within r.state.applied r.kept j (start (config_of r)) (kept_range r good).0 all) standing is b
      (λ z. exact.0 (sym e ∙ z)) (λ z. e ∙ exact.1 z)))

  module _ (k : ℕ) where
    -- not all is accepted
    pub found_none : (a b : ℕ) → Reaches r j a b None → Replays r j k None
    unfolding Reaches Replays matches replays
    found_none a b e = rw e

    -- the standing moves are the later ones, or the earlier ones
    pub high_found : (x : Stages) → Reaches r j k r.state.applied (Some x) → (b : Bool) → b ≡ same.eq-value.it x.high r.state → Replays r j k (then_some b x.low)
    unfolding Reaches Replays
    high_found x h true e = (matches-is x.high h.0 h.2 true e, h.1)
    high_found x h false e = matches-is x.high h.0 h.2 false e

    pub low_found : (x : Stages) → Reaches r j r.state.applied k (Some x) → (b : Bool) → b ≡ same.eq-value.it x.low r.state → Replays r j k (then_some b x.high)
    unfolding Reaches Replays
    low_found x h true e = (matches-is x.low h.0 h.1 true e, h.2)
    low_found x h false e = matches-is x.low h.0 h.1 false e

-- the farther step
pub farther-standing : (r : Session) (k : ℕ) → k ≤ r.state.applied → r.state.applied ≡ farther r k
farther-standing r k h = rw (le-leb k r.state.applied h)
