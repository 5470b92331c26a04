-- A class's loop: what holds after i turns, one turn more, and the end.
-- Assumes nothing.
use Prim.Native.Nat.{ℕ, suc, ◌+◌, ◌-◌, ◌*◌, ◌≤◌, ◌<◌}
use mathlib.Core.Bool.{Bool, true, false, ◌||◌, not, true≢false}
use mathlib.Core.List.{List, [], ◌∷◌, ◌++◌}
use mathlib.Core.Path.{◌≡◌, refl, sym, ap, ◌∙◌}
use native.Mathlib.Nat.{suc-mul, mul-le-mul_right}
use native.Mathlib.Numerals.{add-one}
use native.Mathlib.Omega.{arith}
use lib.Dec.{eqb, ltb}
use lib.ListN.{length, get_or, set, take, drop, length-append, length-drop}
use lib.Seq.{take-suc, take_all, length-take-le}
use borrow.Author.Tests.{eqb-true, ltb-false, not-false}
use Rattle.state.specs.declared.State.{State as Record}
use Rattle.state.specs.declared.Session.{Session}
use Rattle.state.specs.Association.{encode}
use Rattle.state.specs.Rules.{session_ok}
use Rattle.state.specs.Record.{Sized}
use Rattle.shown.proofs.Encode.{encode-decode}
use Rattle.shown.proofs.Unique.{encode_sized}
use Rattle.picture.specs.Model.Parts.{over, record_bytes}
use Rattle.picture.proofs.Written.{over-written}
use Rattle.reference.specs.Lists.{choose, with_front, tabulate}
use Rattle.reference.specs.Start.{Config, config_cause, start}
use Rattle.reference.specs.Step.{Move}
use Rattle.reference.specs.Cause.{cause, accepted}
use Rattle.reference.specs.Picture.{picture}
use Rattle.reference.specs.Script.{turned, turn_cause, turn_after, class_moves, class_answers, class_pictures}
use Rattle.reference.specs.Session.{bytes, lacks_room, picture_size, state_of}
use Rattle.reference.proofs.Tests.{passed}
use Rattle.reference.proofs.Laws.{applied-is}
use Rattle.reference.proofs.Legal.{legal}
use Rattle.reference.proofs.Moves.{accepted-length}
use Rattle.reference.proofs.Script.{accepted-turn, accepted-class, moves_more, answers_more, pictures_more, answers-length}
use Rattle.session.specs.Contract.{config_of, lent_refusal, standing, matches, progress_in, written_at}
use Rattle.session.specs.Model.Replay.{stored}
use Rattle.session.proofs.Answers.{or_passed, lent_passed}
use Rattle.session.proofs.Found.{state-right}
use Rattle.session.proofs.Shown.{picture-long, pictured}
use Rattle.session.proofs.Shown as reached
use Rattle.session.proofs.Counted.{calls_of}
use Rattle.session.proofs.Standing.{length-bytes, bytes_snoc, sets-written}
use Rattle.session.proofs.Holding.{Agree, agrees, whole_is}
use Rattle.turns.specs.Contract.{class_refusal}
use Rattle.turns.specs.Model.Turn.{Made, turn_result, Takes, Given}
use Rattle.reference.proofs.Fronts.{with_front-same, with_front-length, with_front_more, with_front-set, with_front-part}
use Rattle.turns.proofs.Turned.{Turn, turn-taken}

-- the pictures of a class are as long as the start table says
module _ (c : Config) (right : config_cause c ≡ 0) (x : List ℕ) where
  pub pictures-length : (ps : List ℕ) (ms : List Move) → accepted (start c) ms ≡ true → length (class_pictures c x ms ps) ≡ length ps * picture_size c
  unfolding class_pictures
  pictures-length [] ms ok = omega arith
  pictures-length (p ∷ ps) ms ok =
      let on : List Move = turn_after c x ms p in
      let ok' = accepted-turn c x ms p ok in
      let one = picture-long c on right ok' in
      length-append (picture (state_of c on)) (class_pictures c x on ps) ∙ omega (arith, pictures-length ps on ok', suc-mul (length ps) (picture_size c))

-- what the code's indices and sums need after i turns: the buffers' lengths, and room for the next answer and picture
pub record Rooms (j ps a b : List ℕ) (size i : ℕ) (j' a' b' : List ℕ) : Type 0 where
  pub few : i ≤ length ps
  pub journal : length j' ≡ length j
  pub answers : length a' ≡ length a
  pub pictures : length b' ≡ length b
  pub room : length ps ≤ length a
  pub next : i < length ps → i * size + size ≤ length b

-- neither test is passed
neither : (a b : Bool) → a || b ≡ false → (a ≡ false) × (b ≡ false)
neither true b e = absurd (true≢false e)
neither false b e = (refl, e)

module _ (r : Session) (size : Sized r.state) (j x ps a b : List ℕ) (none : class_refusal r j x ps a b ≡ 0) where
  abbrev c : Config
  c = config_of r

  abbrev ms : List Move
  ms = standing r j

  -- what the causes that are not there say
  pub record Fine : Type 0 where
    pub record_ok : session_ok r ≡ true
    pub room : (length ps ≤ length a) × (length ps * picture_size c ≤ length b)
    pub agree : Agree r j

  pub fine : Fine
  unfolding class_refusal
  fine =
      let first = or_passed (lent_refusal r (length j)) _ none in
      let second = passed (lacks_room c (length ps) a b) _ _ first.1 in
      let third = passed (not (matches r j)) _ _ second.1 in
      let both = neither (ltb (length a) (length ps)) (ltb (length b) (length ps * picture_size c)) second.0 in
      record {
        record_ok = (lent_passed r (length j) first.0).1;
        room = (ltb-false (length a) (length ps) both.0, ltb-false (length b) (length ps * picture_size c) both.1);
        agree = agrees r j first.0 (not-false _ third.0);
      }

  pub agree : Agree r j
  agree = fine.agree

  right : config_cause c ≡ 0
  right = agree.config

  -- the moves that stand after i turns
  abbrev pub made : ℕ → List Move
  made i = class_moves c x ms (take i ps)

  pub made_ok : (i : ℕ) → accepted (start c) (made i) ≡ true
  made_ok i = accepted-class c x (take i ps) ms agree.legal

  pub record Going (i : ℕ) (s : Record) (calls j' a' b' : List ℕ) : Type 0 where
    pub few : i ≤ length ps
    pub state : s ≡ encode (state_of c (made i))
    pub calls_are : calls ≡ calls_of c (made i)
    pub journal : j' ≡ with_front j (bytes (made i))
    pub numbers : a' ≡ with_front a (class_answers c x ms (take i ps))
    pub shows : b' ≡ with_front b (class_pictures c x ms (take i ps))

  pub going_start : (calls : List ℕ) → calls ≡ tabulate (progress_in r j) 0 33 → Going 0 r.state calls j a b
  unfolding class_moves class_answers class_pictures
  going_start calls e =
      record {
        few = omega arith;
        state = sym (encode-decode r.state size (state-right r fine.record_ok)) ∙ ap encode agree.state;
        calls_are = e;
        journal = with_front-same j (bytes ms) (ap (λ (n : ℕ). take n j) (length-bytes ms) ∙ whole_is r j agree);
        numbers = refl;
        shows = refl;
      }

  -- how much is written
  few_moves : (i : ℕ) → length (made i) ≤ 4000
  unfolding start
  few_moves i = omega (arith, accepted-length (made i) (start c) (omega arith) (made_ok i))

  numbers-length : (i : ℕ) → i ≤ length ps → length (class_answers c x ms (take i ps)) ≡ i
  numbers-length i h = answers-length c x (take i ps) ms ∙ length-take-le i ps h

  shown-length : (i : ℕ) → i ≤ length ps → length (class_pictures c x ms (take i ps)) ≡ i * picture_size c
  shown-length i h = pictures-length c right x (take i ps) ms agree.legal ∙ ap (λ (n : ℕ). n * picture_size c) (length-take-le i ps h)

  module _ (i : ℕ) (s : Record) (calls j' a' b' : List ℕ) (g : Going i s calls j' a' b') where
    abbrev at : ℕ
    at = i * picture_size c

    journal-size : length j' ≡ length j
    journal-size = ap length g.journal ∙ with_front-length j (bytes (made i)) (omega (arith, length-bytes (made i), few_moves i, agree.size))

    numbers-size : length a' ≡ length a
    numbers-size = ap length g.numbers ∙ with_front-length a (class_answers c x ms (take i ps)) (omega (arith, numbers-length i g.few, fine.room.0))

    short_of : i * picture_size c ≤ length ps * picture_size c
    short_of = mul-le-mul_right (picture_size c) g.few

    shown-size : length b' ≡ length b
    shown-size = ap length g.shows ∙ with_front-length b (class_pictures c x ms (take i ps)) (omega (arith, shown-length i g.few, short_of, fine.room.1))

    pub going_end : i ≡ length ps → Given r j x ps a b s j' a' b'
    going_end e =
        let whole : take i ps ≡ ps = take_all i ps (omega arith) in
        record {
          state = g.state ∙ ap (λ (l : List ℕ). encode (state_of c (class_moves c x ms l))) whole;
          journal = g.journal ∙ ap (λ (l : List ℕ). with_front j (bytes (class_moves c x ms l))) whole;
          numbers = g.numbers ∙ ap (λ (l : List ℕ). with_front a (class_answers c x ms l)) whole;
          pictured = g.shows ∙ ap (λ (l : List ℕ). with_front b (class_pictures c x ms l)) whole;
        }

    -- there is room for one more picture
    next_fits : i < length ps → at + picture_size c ≤ length b
    next_fits h =
        let more : suc i * picture_size c ≤ length ps * picture_size c = mul-le-mul_right (picture_size c) h in
        omega (arith, suc-mul i (picture_size c), fine.room.1)

    pub rooms : Rooms j ps a b (picture_size c) i j' a' b'
    rooms = record { few = g.few; journal = journal-size; answers = numbers-size; pictures = shown-size; room = fine.room.0; next = next_fits }

    module _ (h : i < length ps) where
      abbrev p : ℕ
      p = get_or ps i 0

      one_more : take (i + 1) ps ≡ take i ps ++ p ∷ []
      one_more = ap (λ (n : ℕ). take n ps) (add-one i) ∙ take-suc ps i 0 h

      made_more : made (i + 1) ≡ turn_after c x (made i) p
      made_more = ap (class_moves c x ms) one_more ∙ moves_more c x (take i ps) ms p

      abbrev t : Made
      t = turn_result s calls x p

      module _ (n : ℕ) (s' : Record) (calls' j'' : List ℕ) (took : Takes s calls j' x p n s' calls' j'') where
        turn : Turn c right (made i) (made_ok i) x p t
        turn = turn-taken c right (made i) (made_ok i) x p t (λ d. turn_result (g.state d) (g.calls_are d) x p)

        abbrev m : Move
        m = turned c x (made i) p

        applied : s.applied ≡ length (made i)
        unfolding encode
        applied = ap (λ (q : Record). q.applied) g.state ∙ applied-is c (made i)

        -- an accepted move joins the journal
        joined : (u : Bool) → eqb (turn_cause c x (made i) p) 0 ≡ u → choose u (stored j' (length (made i)) m) j' ≡ with_front j (bytes (choose u (made i ++ m ∷ []) (made i)))
        unfolding written_at
        joined true z =
            let n : ℕ = length (made i) in
            let free : cause (state_of c (made i)) m ≡ 0 = eqb-true _ 0 z in
            let inside : 3 * n + 3 ≤ length j' = omega (arith, (legal (state_of c (made i)) m free).room, applied-is c (made i), journal-size, agree.size) in
            sets-written j' n m inside ∙
            (λ d. take (3 * n) (g.journal d) ++ bytes (m ∷ []) ++ drop (3 * n + 3) (g.journal d)) ∙
            ap (λ (k : ℕ). take (3 * n) (with_front j (bytes (made i))) ++ bytes (m ∷ []) ++ drop (3 * n + k) (with_front j (bytes (made i)))) (sym (length-bytes (m ∷ []))) ∙
            with_front_more j (bytes (made i)) (bytes (m ∷ [])) (3 * n) (length-bytes (made i)) ∙ ap (with_front j) (sym (bytes_snoc (made i) m))
        joined false z = g.journal

        -- the picture joins the pictures
        abbrev part : List ℕ → List ℕ
        part l = take (length l - at) (drop at l)

        abbrev before : List ℕ
        before = class_pictures c x ms (take i ps)

        abbrev on : List Move
        on = turn_after c x (made i) p

        on_ok : accepted (start c) on ≡ true
        on_ok = accepted-turn c x (made i) p (made_ok i)

        part_length : length (part b') ≡ length b' - at
        part_length = length-take-le (length b' - at) (drop at b') (omega (arith, length-drop at b'))

        shown-next : (w : List ℕ) → w ≡ over (part b') (record_bytes s') → w ≡ with_front (part b') (picture (state_of c on))
        shown-next w e =
            e ∙ ap (λ (q : Record). over (part b') (record_bytes q)) (took.state ∙ turn.state) ∙
            over-written (encode (state_of c on)) (part b') (encode_sized (state_of c on)) (reached.state-right c on right on_ok) ∙
            pictured c on right on_ok (part b') (omega (arith, part_length, shown-size, next_fits h))

        shown_more : (w : List ℕ) → w ≡ over (part b') (record_bytes s') →
            take at b' ++ (w ++ drop (length b' - at) (drop at b')) ≡ with_front b (class_pictures c x ms (take (i + 1) ps))
        shown_more w e =
            (λ d. take at (g.shows d) ++ (w ++ drop (length (g.shows d) - at) (drop at (g.shows d)))) ∙
            with_front-part b before (picture (state_of c on)) at (shown-length i g.few) (omega (arith, picture-long c on right on_ok, next_fits h)) w
            (shown-next w e ∙ ap (λ (l : List ℕ). with_front (part l) (picture (state_of c on))) g.shows) ∙
            ap (with_front b) (sym (ap (class_pictures c x ms) one_more ∙ pictures_more c x (take i ps) ms p))

        pub going_more : (a'' w : List ℕ) → a'' ≡ set a' i n → w ≡ over (take (length b' - at) (drop at b')) (record_bytes s') →
            Going (i + 1) s' calls' j'' a'' (take at b' ++ (w ++ drop (length b' - at) (drop at b')))
        going_more a'' w ae we =
            record {
              few = omega arith;
              state = took.state ∙ turn.state ∙ ap (λ (l : List Move). encode (state_of c l)) (sym made_more);
              calls_are = took.counts ∙ turn.calls ∙ ap (calls_of c) (sym made_more);
              journal =
                  took.journal ∙ (λ d. choose (eqb (turn.refusal d) 0) (stored j' (applied d) (turn.move d)) j') ∙ joined (eqb (turn_cause c x (made i) p) 0) refl ∙
                  ap (λ (l : List Move). with_front j (bytes l)) (sym made_more);
              numbers =
                  ae ∙ (λ d. set (g.numbers d) i ((took.number ∙ turn.refusal) d)) ∙
                  with_front-set a (class_answers c x ms (take i ps)) (turn_cause c x (made i) p) i (numbers-length i g.few) (omega (arith, fine.room.0)) ∙
                  ap (with_front a) (sym (ap (class_answers c x ms) one_more ∙ answers_more c x (take i ps) ms p));
              shows = shown_more w we;
            }
