-- The words of moves: one move more, the reference machine's words, and what the exported function answers, case by case.
-- Assumes nothing.
use Prim.Native.Nat.{ℕ, zero, suc, ◌+◌, ◌*◌, ◌≤◌, ◌<◌, ◌/◌}
use mathlib.Core.Bool.{true}
use mathlib.Core.List.{List, [], ◌∷◌, ◌++◌}
use mathlib.Core.Path.{◌≡◌, refl, sym, ap, ◌∙◌, subst}
use native.Mathlib.Omega.{arith}
use lib.ListN.{length, set, take, drop}
use lib.Seq.{sets-eq}
use borrow.Author.Tests.{eq-eqb, lt-ltb, le-ltb}
use Rattle.exports.specs.Replay.{Replay, found, replay, whole}
use Rattle.exports.specs.Words.{moves_in, words_of, words_number, words_written}
use Rattle.exports.specs.Model.Replayed.{Reached, Replays}
use Rattle.exports.specs.Model.Made.{made_by, made_after, made_words}
use Rattle.exports.proofs.Tried.{later_first}
use Rattle.std.proofs.Common.{Ok, Err}
use Rattle.state.specs.declared.refusal.Refusal.{Refusal}
use Rattle.state.specs.declared.refusal.Refusal.TheVariants.{TooShort}
use Rattle.state.specs.Refusal.{number}
use Rattle.state.proofs.Refused.{not_none}
use Rattle.state.specs.declared.State.{State as Record}
use Rattle.state.specs.Association.{encode}
use Rattle.state.specs.Model.Access.{start_record}
use Rattle.state.proofs.Started.{start-shown}
use Rattle.touch.specs.declared.Touch as code
use Rattle.touch.specs.Association.{touch_shown, touch_bytes}
use Rattle.touch.specs.Model.Made.{Made}
use Rattle.touch.proofs.Agrees.{touch-back}
use Rattle.reference.specs.Lists.{if_zero, with_front}
use Rattle.reference.specs.State.{State}
use Rattle.reference.specs.Start.{Config, config_cause, start}
use Rattle.reference.specs.Step.{Move, move_of, next, run}
use Rattle.reference.specs.Cause.{cause, accepted}
use Rattle.reference.specs.Touch.{touch, touched}
use Rattle.reference.specs.Session.{moves}
use Rattle.reference.proofs.Tests.{both}
use Rattle.reference.proofs.Legal.{accepted_cons}
use Rattle.reference.proofs.Moves.{run_snoc, accepted_snoc}
use Rattle.reference.proofs.Fronts.{with_front_more}
use Rattle.session.proofs.Replayed.{move_at, moves_more, length-moves}
use Rattle.session.proofs.Reached.{made_in, touched-reached}

-- four bytes stored one after the other
pub four_stored : (w : List ℕ) (at a b c d : ℕ) → at + 4 ≤ length w →
    set (set (set (set w at a) (at + 1) b) (at + 2) c) (at + 3) d ≡ take at w ++ (a ∷ b ∷ c ∷ d ∷ []) ++ drop (at + 4) w
four_stored w at a b c d h =
    let e : at + 1 ≡ suc at = omega arith in
    let f : at + 2 ≡ suc (suc at) = omega arith in
    let g : at + 3 ≡ suc (suc (suc at)) = omega arith in
    (λ i. set (set (set (set w at a) (e i) b) (f i) c) (g i) d) ∙ sets-eq (a ∷ b ∷ c ∷ d ∷ []) w at h

-- ---- the code's words, one move more

words_length : (s : Record) (ms : List Move) → length (made_words s ms) ≡ 4 * length ms
unfolding made_words
words_length s [] = refl
words_length s (a ∷ ms) = omega (arith, words_length (made_by s a).state ms)

after_snoc : (s : Record) (ms : List Move) (a : Move) → made_after s (ms ++ a ∷ []) ≡ (made_by (made_after s ms) a).state
unfolding made_after
after_snoc s [] a = refl
after_snoc s (b ∷ ms) a = after_snoc (made_by s b).state ms a

words_snoc : (s : Record) (ms : List Move) (a : Move) → made_words s (ms ++ a ∷ []) ≡ made_words s ms ++ touch_bytes (touch_shown (made_by (made_after s ms) a).touch)
unfolding made_words made_after
words_snoc s [] a = refl
words_snoc s (b ∷ ms) a = ap (λ (l : List ℕ). touch_bytes (touch_shown (made_by s b).touch) ++ l) (words_snoc (made_by s b).state ms a)

-- after i moves: the record, and the buffer that was w₀
pub record Going (s : Record) (j w₀ : List ℕ) (i : ℕ) (r : Record) (w : List ℕ) : Type 0 where
  pub state : r ≡ made_after s (moves i j)
  pub words : w ≡ with_front w₀ (made_words s (moves i j))

module _ (s : Record) (j w₀ : List ℕ) where
  pub going_start : Going s j w₀ 0 s w₀
  unfolding moves made_after made_words
  going_start = record { state = refl; words = refl }

  module _ (i : ℕ) (r : Record) (w : List ℕ) (g : Going s j w₀ i r w) where
    long : length (made_words s (moves i j)) ≡ 4 * i
    long = words_length s (moves i j) ∙ ap (λ (n : ℕ). 4 * n) (length-moves i j)

    pub going_end : i ≡ length j / 3 → w ≡ with_front w₀ (made_words s (moves_in j))
    going_end e = g.words ∙ ap (λ (n : ℕ). with_front w₀ (made_words s (moves n j))) e

    pub going_more : (r' : Record) → r' ≡ (made_by r (move_at j i)).state → (t : code.Touch) → t ≡ (made_by r (move_at j i)).touch →
        (w' : List ℕ) → w' ≡ take (4 * i) w ++ touch_bytes (touch_shown t) ++ drop (4 * i + 4) w → Going s j w₀ (i + 1) r' w'
    going_more r' e t h w' f =
        let a : Move = move_at j i in
        let ms : List Move = moves i j in
        record {
          state = e ∙ ap (λ (x : Record). (made_by x a).state) g.state ∙ sym (after_snoc s ms a) ∙ ap (made_after s) (sym (moves_more i j));
          words =
              f ∙ (λ k. take (4 * i) (g.words k) ++ touch_bytes (touch_shown ((h ∙ ap (λ (x : Record). (made_by x a).touch) g.state) k)) ++ drop (4 * i + 4) (g.words k)) ∙
              with_front_more w₀ (made_words s ms) (touch_bytes (touch_shown (made_by (made_after s ms) a).touch)) (4 * i) long ∙
              ap (with_front w₀) (sym (words_snoc s ms a) ∙ ap (made_words s) (sym (moves_more i j)));
        }

-- ---- the reference machine's words

touched-is : (s : State) (a : Move) → cause s a ≡ 0 → touched s a ≡ touch s a
unfolding touched
touched-is s a z = rw (eq-eqb (cause s a) 0 z)

-- a move that is accepted, as the code makes it, has the words of the reference machine's and leaves its state
pub made_one : (c : Config) → config_cause c ≡ 0 → (ms : List Move) → accepted (start c) ms ≡ true → (a : Move) → cause (run (start c) ms) a ≡ 0 →
    (touch_shown (made_by (encode (run (start c) ms)) a).touch ≡ touch (run (start c) ms) a) ×
    ((made_by (encode (run (start c) ms)) a).state ≡ encode (next (run (start c) ms) a))
made_one c right ms ok a z =
    let s : State = run (start c) ms in
    let made : made_by (encode s) a ≡ made_in s a = touched-reached c ms right ok a in (
      ap (λ (m : Made). touch_shown m.touch) made ∙ touch-back (touched s a) ∙ touched-is s a z,
      ap (λ (m : Made). m.state) made ∙ rw (eq-eqb (cause s a) 0 z),
    )

-- moves that are accepted one after the other touch what those of the reference machine do
words_made : (c : Config) → config_cause c ≡ 0 → (ms done : List Move) → accepted (start c) done ≡ true → accepted (run (start c) done) ms ≡ true →
    made_words (encode (run (start c) done)) ms ≡ words_of (run (start c) done) ms
unfolding made_words words_of
words_made c right [] done ok all = refl
words_made c right (a ∷ ms) done ok all =
    let s : State = run (start c) done in
    let t = accepted_cons s a ms all in
    let on : run (start c) (done ++ a ∷ []) ≡ next s a = run_snoc done (start c) a in
    let one = made_one c right done ok a t.0 in
    let rest : made_words (encode (next s a)) ms ≡ words_of (next s a) ms =
    subst (λ (e : State). made_words (encode e) ms ≡ words_of e ms) on
    (words_made c right ms (done ++ a ∷ []) (accepted_snoc done (start c) a ok t.0) (ap (λ (e : State). accepted e ms) on ∙ t.1)) in
    (λ i. touch_bytes (one.0 i) ++ made_words (one.1 i) ms) ∙ ap (λ (l : List ℕ). touch_bytes (touch s a) ++ l) rest

-- where a replay refuses no move, the first is accepted and none of the others is refused,
pub replay_cons : (s : State) (i : ℕ) (p a o : ℕ) (rest : List ℕ) → (replay s i (p ∷ a ∷ o ∷ rest)).refusal ≡ 0 →
    (cause s (move_of p a o) ≡ 0) × ((replay (next s (move_of p a o)) (suc i) rest).refusal ≡ 0)
unfolding replay
replay_cons s i p a o rest = by (cause s (move_of p a o)) (replay (next s (move_of p a o)) (suc i) rest)
  where
    by : (n : ℕ) (r : Replay) → (if_zero n r (found n (suc i) s)).refusal ≡ 0 → (n ≡ 0) × (r.refusal ≡ 0)
    by zero r h = (refl, h)
    by (suc n) r h = absurd (omega arith)

-- so all are accepted
pub replay-accepted : (s : State) (i : ℕ) (j : List ℕ) → (replay s i j).refusal ≡ 0 → accepted s (moves_in j) ≡ true
unfolding replay accepted moves
replay-accepted s i [] z = refl
replay-accepted s i (p ∷ []) z = absurd (omega arith)
replay-accepted s i (p ∷ a ∷ []) z = absurd (omega arith)
replay-accepted s i (p ∷ a ∷ o ∷ rest) z =
    let m : Move = move_at (p ∷ a ∷ o ∷ rest) 0 in
    let t = replay_cons s i p a o rest z in
    let e : length (p ∷ a ∷ o ∷ rest) / 3 ≡ suc (length rest / 3) = omega arith in
    rw e (both (eq-eqb (cause s m) 0 t.0) (replay-accepted (next s m) (suc i) rest t.1))

-- ---- what the exported function answers

module _ (c : Config) (bytes buffer : List ℕ) where
  -- refused, the buffer stays
  kept : (e : Refusal) → number e ≡ words_number c bytes (length buffer) → (number e ≡ words_number c bytes (length buffer)) × (buffer ≡ words_written c bytes buffer)
  unfolding words_written
  kept e n = (n, rw (← n) (by (number e) (not_none e)))
    where
      by : (n : ℕ) → (n ≡ 0 → ⊥) → buffer ≡ if_zero n (with_front buffer (words_of (start c) (moves_in bytes))) buffer
      by zero z = absurd (z refl)
      by (suc n) z = refl

  pub bad_moves : (e : Refusal) → Replays c bytes (Err e) → (number e ≡ words_number c bytes (length buffer)) × (buffer ≡ words_written c bytes buffer)
  unfolding Replays words_number
  bad_moves e h = kept e (sym (later_first (config_cause c) (whole c bytes).refusal _ (number e) h (not_none e)))

  module _ (s : Record) (h : Replays c bytes (Ok s)) where
    reached : Reached c bytes s
    unfolding Replays
    reached = h

    pub short-buffer : length buffer / 4 < length bytes / 3 → (10 ≡ words_number c bytes (length buffer)) × (buffer ≡ words_written c bytes buffer)
    unfolding words_number number
    short-buffer l =
        let short = lt-ltb (length buffer) (4 * length (moves_in bytes)) (omega (arith, length-moves (length bytes / 3) bytes)) in
        kept TooShort (rw (reached.right, reached.refusal, short))

    module _ (room : length bytes / 3 ≤ length buffer / 4) where
      none-refused : 0 ≡ words_number c bytes (length buffer)
      unfolding words_number
      none-refused =
          let fits = le-ltb (length buffer) (4 * length (moves_in bytes)) (omega (arith, length-moves (length bytes / 3) bytes)) in
          rw (reached.right, reached.refusal, fits)

      pub all-written : (r : Record) → r ≡ start_record c.P c.T c.M c.B c.stealing →
          (out : List ℕ) → out ≡ with_front buffer (made_words r (moves_in bytes)) → (0 ≡ words_number c bytes (length buffer)) × (out ≡ words_written c bytes buffer)
      unfolding words_written run accepted
      all-written r z out w =
          let words : made_words r (moves_in bytes) ≡ words_of (start c) (moves_in bytes) =
          ap (λ (x : Record). made_words x (moves_in bytes)) (z ∙ start-shown c reached.right) ∙
          words_made c reached.right (moves_in bytes) [] refl (replay-accepted (start c) 0 bytes reached.refusal) in
          (none-refused, w ∙ ap (with_front buffer) words ∙ rw (← none-refused))
