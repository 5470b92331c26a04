-- No chart is longer than 680,103 bytes.
-- Assumes nothing.
use Prim.Native.Nat.{ℕ, zero, suc, ◌+◌, ◌-◌, ◌*◌, ◌≤◌}
use native.Mathlib.Omega.{arith}
use mathlib.Core.Bool.{Bool, true, false, cond}
use mathlib.Core.List.{List, [], ◌∷◌, ◌++◌}
use mathlib.Core.Path.{◌≡◌, refl}
use lib.Dec.{eqb}
use lib.ListN.{length, take, drop, length-append, length-take}
use Rattle.command.specs.Command.{field}
use Rattle.command.specs.Printing.{text, decimal, wide, padded, line_feed}
use Rattle.command.proofs.Lines.{decimal-length, wide-length, field-length}
use Rattle.std.proofs.lemmas.List.{length-replicate}
use Rattle.view.specs.Words.{trimmed, word_at, line_name, action_word, or_dash, token_text, rows}
use Rattle.state.specs.declared.Thread.{Thread}
use Rattle.state.specs.declared.Token.{Token}
use Rattle.state.specs.declared.State.{State}
use Rattle.state.specs.declared.Session.{Session}
use Rattle.state.specs.Record.{processor_of, mutex_of}
use Rattle.state.specs.Association.{encode, decode}
use Rattle.reference.specs.Lists.{choose, if_zero, in_range}
use Rattle.reference.specs.State as reference
use Rattle.reference.specs.Step.{Move, next}
use Rattle.reference.proofs.Tests.{range_true}
use Rattle.shown.proofs.Kept.{Fields, state-kept, fields_say}
use Rattle.session.specs.Contract.{test_refusal}
use Rattle.session.proofs.Answers.{lent_passed, test_passed}
use Rattle.session.proofs.Found.{state-right}
use Rattle.session.proofs.Replayed.{length-moves}
use Rattle.chart.specs.Chart.{deed, made, noted, owner_change, token_change, queue_name, queue_change, with_owner, with_token, with_joined, with_departed, row, column_head, heading, moves_chart, chart_text}

-- ---- of a branch, the longer one

either : (b : Bool) (x y : List ℕ) (n : ℕ) → length x ≤ n → length y ≤ n → length (choose b x y) ≤ n
either true x y n h k = h
either false x y n h k = k

zero_or : (m : ℕ) (x y : List ℕ) (n : ℕ) → (m ≡ 0 → length x ≤ n) → length y ≤ n → length (if_zero m x y) ≤ n
zero_or zero x y n h k = h refl
zero_or (suc m) x y n h k = k

-- ---- words and numbers

trimmed-length : (l : List ℕ) → length (trimmed l) ≤ length l
unfolding trimmed
trimmed-length [] = omega arith
trimmed-length (b ∷ l) = go (eqb b 32) (trimmed-length l)
  where
    go : (t : Bool) → length (trimmed l) ≤ length l → length (cond t [] (b ∷ trimmed l)) ≤ suc (length l)
    go true h = omega arith
    go false h = omega arith

word-length : (width n : ℕ) (table : List ℕ) → length (word_at width table n) ≤ width
unfolding word_at
word-length width n table = omega (arith, trimmed-length (take width (drop (width * n) table)), length-take width (drop (width * n) table))

line-length : (n : ℕ) → length (line_name n) ≤ 3
line-length n = word-length 3 n _

action-length : (n : ℕ) → length (action_word n) ≤ 7
action-length n = word-length 7 n _

dash_length : (n : ℕ) → length (or_dash n) ≤ 3
unfolding text
dash_length n = zero_or n (text "-") (decimal n) 3 (λ e. omega arith) (decimal-length n)

token_text-length : (t : Token) → length (token_text t) ≤ 12
unfolding text
token_text-length t = zero_or t.processor (text "-") _ 12 (λ e. omega arith) (simp length-append (omega (arith, decimal-length t.processor, wide-length t.sequence)))

padded-length : (width n : ℕ) (x : List ℕ) → width ≤ n → length x ≤ n → length (padded width x) ≤ n
unfolding padded
padded-length width n x h k = rw (length-append, length-replicate) (omega arith)

ended : (x : List ℕ) (n : ℕ) → length x ≤ n → length (x ++ line_feed) ≤ n + 1
ended x n h = rw length-append (omega arith)

-- ---- a row, of at most eight columns

deed-length : (r : State) (a : Move) → length (deed r a) ≤ 11
unfolding deed
deed-length r a =
    let o = zero_or a.operand [] (field a.operand) 4 (λ e. omega arith) (field-length a.operand) in
    zero_or a.action _ _ 11 (λ e. omega (arith, line-length (processor_of r a.processor).position)) (rw length-append (omega (arith, action-length a.action)))

queue-length : (sign : List ℕ) (t : Thread) (k : ℕ) → length (queue_change sign t k) ≤ length sign + 14
unfolding queue_change queue_name text
queue-length sign t k =
    let h = field-length t.holder in
    let o = zero_or t.holder [] (field t.holder) 4 (λ e. omega arith) h in
    let q = either (eqb t.status 2) (text "  queue" ++ field t.holder) (text "  ready" ++ if_zero t.holder [] (field t.holder)) 11 (omega arith) (omega arith) in
    simp length-append (omega (arith, decimal-length k))

module _ (count : ℕ) (few : count ≤ 8) where
  before-length : (p : ℕ) → choose (in_range 1 count p) (11 * (p - 1)) 0 ≤ 77
  before-length p = go (in_range 1 count p) refl
    where
      go : (b : Bool) → in_range 1 count p ≡ b → choose b (11 * (p - 1)) 0 ≤ 77
      go true e = omega (arith, range_true 1 count p e)
      go false e = omega arith

  noted-length : (there : Bool) (row change : List ℕ) (n k : ℕ) → 92 ≤ n → length row ≤ n → length change ≤ k → length (noted there count row change) ≤ n + k
  unfolding noted
  noted-length true row change n k w h l = rw length-append (omega (arith, padded-length (4 + 11 * count) n row (omega arith) h))
  noted-length false row change n k w h l = omega arith

  module _ (r : State) (a : Move) (s : State) where
    made-length : length (made count r a s) ≤ 94
    unfolding made
    made-length =
        simp (length-append, length-replicate) (omega (arith, padded-length 6 6 (wide s.applied) (omega arith) (wide-length s.applied), before-length a.processor, deed-length r a))

    owner-length : length (with_owner r a s count) ≤ 110
    unfolding with_owner owner_change text
    owner-length = noted-length _ _ _ 94 16 (omega arith) made-length (simp length-append (omega (arith, decimal-length (processor_of r a.processor).mutex, dash_length (mutex_of s (processor_of r a.processor).mutex).owner)))

    token-length : length (with_token r a s count) ≤ 135
    unfolding with_token token_change text
    token-length = noted-length _ _ _ 110 25 (omega arith) owner-length (simp length-append (omega (arith, decimal-length (processor_of r a.processor).mutex, token_text-length (mutex_of s (processor_of r a.processor).mutex).token)))

    joined_length : length (with_joined r a s count) ≤ 152
    unfolding with_joined text
    joined_length = noted-length _ _ _ 135 17 (omega arith) token-length (queue-length _ _ _)

    departed-length : length (with_departed r a s count) ≤ 169
    unfolding with_departed text
    departed-length = noted-length _ _ _ 152 17 (omega arith) joined_length (queue-length _ _ _)

    row-length : length (row r a s count) ≤ 170
    unfolding row
    row-length = ended (with_departed r a s count) 169 departed-length

  -- ---- the chart

  moves-length : (s : reference.State) (ms : List Move) → length (moves_chart count s ms) ≤ 170 * length ms
  unfolding moves_chart
  moves-length s [] = omega arith
  moves-length s (a ∷ ms) = rw length-append (omega (arith, row-length (encode s) a (encode (next s a)), moves-length (next s a) ms))

columns-length : (k n : ℕ) → length (rows column_head k n) ≤ 11 * n
unfolding rows
columns-length k zero = omega arith
columns-length k (suc n) = rw length-append (omega (arith, padded-length 11 11 (decimal k) (omega arith) (omega (arith, decimal-length k)), columns-length (suc k) n))

heading-length : (count : ℕ) → length (heading count) ≤ 14 + 11 * count
unfolding heading text
heading-length count = simp length-append (omega (arith, padded-length 6 6 (text "move") (omega arith) (omega arith), columns-length 1 count))

whole_length : (count : ℕ) (s : reference.State) (ms : List Move) → count ≤ 8 → length ms ≤ 4000 → length (heading count ++ moves_chart count s ms ++ line_feed) ≤ 680103
whole_length count s ms h k = simp length-append (omega (arith, heading-length count, moves-length count h s ms))

-- what the journal's test has found of the numbers
session-fields : (r : Session) (j : List ℕ) → test_refusal r j ≡ 0 → Fields r.state
session-fields r j e =
    let k = state-right r (lent_passed r (length j) (test_passed r j e).0).1 in
    fields_say r.state (state-kept r.state k).fields

pub chart-length : (r : Session) (j : List ℕ) → length (chart_text r j) ≤ 680103
unfolding chart_text decode
chart-length r j =
    zero_or (test_refusal r j) _ _ 680103
    (λ e. let f = session-fields r j e in whole_length _ _ _ f.p_range.1 (omega (arith, length-moves r.state.applied j, f.applied)))
    (omega (arith, ended (decimal (test_refusal r j)) 3 (decimal-length (test_refusal r j))))
