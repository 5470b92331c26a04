-- The lines of a class, one turn after the other.
use Prim.Native.Nat.{ℕ, suc, ◌+◌, ◌-◌, ◌*◌, ◌≤◌, ◌<◌}
use native.Mathlib.Nat.{mul-le-mul_right, suc-mul}
use native.Mathlib.Numerals.{add-one}
use native.Mathlib.Omega.{arith}
use mathlib.Core.Bool.{true}
use mathlib.Core.Path.{◌≡◌, refl, sym, ap, subst, ◌∙◌}
use mathlib.Core.List.{List, [], ◌∷◌, ◌++◌, append_assoc}
use lib.ListN.{length, get_or, take, drop, drop_of_length-le}
use lib.Seq.{take_at, drop_at, drop-drop, drop-cons}
use Rattle.command.specs.declared.printing.Page.{Page}
use Rattle.command.specs.Printing.{decimal, hex, line_feed, written}
use Rattle.command.proofs.Put.{written_twice, written_none}
use Rattle.state.specs.declared.Session.{Session}
use Rattle.state.specs.Record.{Sized}
use Rattle.state.proofs.Branch.{if_none, if_some}
use lib.Dec.{eqb}
use borrow.Author.Tests.{eq-eqb}
use Rattle.reference.specs.Lists.{choose}
use Rattle.reference.specs.Start.{Config, config_cause, start}
use Rattle.reference.specs.Step.{Move}
use Rattle.reference.specs.Cause.{accepted}
use Rattle.reference.specs.Picture.{picture}
use Rattle.reference.specs.Script.{turn_after, class_answers, class_pictures}
use Rattle.reference.specs.Session.{picture_size, state_of}
use Rattle.reference.proofs.Script.{accepted-turn, answers-length}
use Rattle.session.specs.Contract.{config_of, standing}
use Rattle.session.proofs.Shown.{picture-long}
use Rattle.turns.specs.Contract.{class_refusal, answers_after, pictures_after}
use Rattle.turns.proofs.Loop.{fine, agree}
use Rattle.course.specs.Answers.{zeros, class_lines, class_text}
use Rattle.course.proofs.Scripts.{zeros-long}
use Rattle.course.specs.Model.TurnLines.{turn_lines}

-- n pictures have room for the one behind the i-th
pub fits : (i n size : ℕ) → i < n → i * size + size ≤ n * size
fits i n size h =
    let m : suc i * size ≤ n * size = mul-le-mul_right size h in
    let e = suc-mul i size in
    omega arith

-- one turn more
pub next_lines : (p : Page) (size i : ℕ) (answers pictures : List ℕ) → i < length answers
    → written (written (written p (decimal (get_or answers i 0) ++ line_feed)) (hex (take (i * size + size - i * size) (drop (i * size) pictures)) ++ line_feed))
    (turn_lines size (drop (i + 1) answers) (drop ((i + 1) * size) pictures))
    ≡ written p (turn_lines size (drop i answers) (drop (i * size) pictures))
unfolding turn_lines
next_lines p size i answers pictures h =
    let n : i * size + size - i * size ≡ size = omega arith in
    let m : (i + 1) * size ≡ i * size + size = rw (add-one, suc-mul i size) in
    rw (written_twice, written_twice, n, m, add-one, drop-cons answers i 0 h, drop-drop size (i * size) pictures) (simp append_assoc)

-- the last turn
pub no_lines : (p q : Page) (size i : ℕ) (answers pictures : List ℕ) → length answers ≤ i → written p (turn_lines size (drop i answers) pictures) ≡ q → p ≡ q
unfolding turn_lines
no_lines p q size i answers pictures h e = sym (written_none p) ∙ (rw (drop_of_length-le answers h) at e)

-- ---- the buffers of an accepted class

module _ (c : Config) (right : config_cause c ≡ 0) (x : List ℕ) where
  -- its answers and pictures as lines, whatever is behind the pictures
  lines_of : (ps : List ℕ) (ms : List Move) (rest : List ℕ) → accepted (start c) ms ≡ true
      → turn_lines (picture_size c) (class_answers c x ms ps) (class_pictures c x ms ps ++ rest) ≡ class_lines c x ms ps
  unfolding turn_lines class_answers class_pictures class_lines
  lines_of [] ms rest ok = refl
  lines_of (p ∷ ps) ms rest ok =
      let on : List Move = turn_after c x ms p in
      let ok' = accepted-turn c x ms p ok in
      let long = picture-long c on right ok' in
      let one : List ℕ = picture (state_of c on) in
      let more : List ℕ = class_pictures c x on ps ++ rest in
      rw (append_assoc one (class_pictures c x on ps) rest, take_at one more (picture_size c) long, drop_at one more (picture_size c) long, lines_of ps on rest ok')

choose-zero : (n : ℕ) (x y : List ℕ) → n ≡ 0 → x ≡ choose (eqb n 0) x y
choose-zero n x y e = rw (eq-eqb n 0 e)

module _ (r : Session) (size : Sized r.state) (j x ps : List ℕ) where
  abbrev refusal : ℕ
  refusal = class_refusal r j x ps (zeros 1024) (zeros 303104)

  pub class-room : refusal ≡ 0 → (length ps ≤ 1024) × (length ps * picture_size (config_of r) ≤ 303104)
  class-room none =
      let room = (fine r size j x ps (zeros 1024) (zeros 303104) none).room in
      (subst (λ (n : ℕ). length ps ≤ n) (zeros-long 1024) room.0, subst (λ (n : ℕ). length ps * picture_size (config_of r) ≤ n) (zeros-long 303104) room.1)

  pub class-refused : (n : ℕ) → n ≡ refusal → (n ≡ 0 → ⊥) → decimal n ++ line_feed ≡ class_text r j x ps
  unfolding class_text
  class-refused n e z = ap (λ (k : ℕ). decimal k ++ line_feed) e ∙ sym (if_some refusal _ _ (λ q. z (e ∙ q)))

  pub class-printed : (a b : List ℕ) → refusal ≡ 0 → a ≡ answers_after r j x ps (zeros 1024) (zeros 303104) → b ≡ pictures_after r j x ps (zeros 1024) (zeros 303104)
      → turn_lines (picture_size (config_of r)) (take (length ps) a) b ≡ class_text r j x ps
  unfolding class_text answers_after pictures_after
  class-printed a b none e f =
      let c = config_of r in
      let ms = standing r j in
      let t = agree r size j x ps (zeros 1024) (zeros 303104) none in
      let answers = class_answers c x ms ps in
      let pictures = class_pictures c x ms ps in
      let ea : a ≡ answers ++ drop (length answers) (zeros 1024) = e ∙ sym (choose-zero refusal _ _ none) in
      let eb : b ≡ pictures ++ drop (length pictures) (zeros 303104) = f ∙ sym (choose-zero refusal _ _ none) in
      let front : take (length ps) a ≡ answers = ap (take (length ps)) ea ∙ take_at answers _ (length ps) (answers-length c x ps ms) in
      rw (front, eb) (lines_of c t.config x ps ms (drop (length pictures) (zeros 303104)) t.legal) ∙ sym (if_none refusal _ _ none)
