-- K1 to K10, the sessions with a ready queue for each processor and the exits by owners: computed on the reference machine, whose answers are the entry points' (Along).
-- Assumes nothing.
use Prim.Native.Nat.{ℕ, ◌≤◌}
use mathlib.Core.List.{List, [], ◌∷◌, ◌++◌}
use mathlib.Core.Path.{◌≡◌, refl, sym, ap, ◌∙◌, subst}
use native.Mathlib.Omega.{arith}
use lib.ListN.{length, replicate, length-replicate}
use Rattle.state.specs.declared.State.{State}
use Rattle.state.specs.declared.Session.{Session}
use Rattle.state.specs.Record.{chain}
use Rattle.state.specs.Association.{encode, decode, session_record}
use Rattle.state.specs.Rules.{session_ok, state_ok, zero_past, broken_rule, fields_ok, chains_ok, holders_ok, chain_ok, processor_ok, mutex_ok, thread_ok, every, no_twice}
use Rattle.reference.specs.Lists.{with_front, tabulate, those, find, sum, is, each, same_list}
use Rattle.reference.specs.State.{line_of, same_state}
use Rattle.reference.specs.Start.{Config, config_cause, start}
use Rattle.reference.specs.Step.{Move, next, run, act, action_of, line}
use Rattle.reference.specs.Cause.{cause, accepted}
use Rattle.reference.specs.Break.{step_breaks}
use Rattle.reference.specs.History.{gains, drops, owns, exited as history-exited}
use Rattle.reference.specs.Picture.{thread_entry, behind, picture, concat}
use Rattle.reference.specs.Session.{bytes, moves, replays}
use Rattle.picture.specs.Picture.{read, read_refusal, fields, zero_bytes_ok}
use Rattle.session.specs.Contract.{started, lent_refusal, matches, test_refusal, move_refusal, moved}
use Rattle.session.specs.Worked.{config, by, owned, idles, until_l8, journal, refusals, record_after, Reaches, without_journal, Table, Stealing, exited, left_owner, answers, OwnerExits}
use Rattle.session.proofs.Along.{causes, state_after, from_start}

long : 12000 ≤ length journal
unfolding journal
long = omega (arith, length-replicate {A = ℕ} 12000 0)

module _ (c : Config) (right : config_cause c ≡ 0) (ms : List Move) where
  numbers : refusals (started c).session journal ms ≡ causes (start c) ms
  numbers = (from_start c right journal long ms).0

  reached : record_after (started c).session journal ms ≡ session_record (state_after (start c) ms) c.B (state_after (start c) ms).applied
  reached = (from_start c right journal long ms).1

  reaches : (Q : State → Type 0) → causes (start c) ms ≡ replicate (length ms) 0 → Q (encode (state_after (start c) ms)) → Reaches c ms Q
  unfolding started
  reaches Q e q = record { start = right; moves = numbers ∙ e; end = subst Q (sym (ap (λ (r : Session). r.state) reached)) q }

  unrelated : (a : Move) → (moved (session_record (state_after (start c) ms) c.B (state_after (start c) ms).applied) journal a).refusal ≡ 16 → without_journal c ms a ≡ 16
  unrelated a e = ap (λ (r : Session). (moved r journal a).refusal) reached ∙ e

-- what the rows compute with: to unfold this is to unfold all that its line names
computing : Unit {0}
unfolding causes state_after started config_cause start tabulate those encode decode chain next act line line_of cause action_of sum find is thread_entry behind each
computing = tt

testing : Unit {0}
unfolding computing journal run accepted moves replays same_state same_list matches test_refusal moved move_refusal lent_refusal step_breaks session_ok state_ok broken_rule fields_ok processor_ok mutex_ok thread_ok chains_ok chain_ok holders_ok zero_past every no_twice
testing = tt

k8_journal : without_journal (config 3 3 1 3) until_l8 (by 2 0 0) ≡ 16
unfolding testing
k8_journal = unrelated (config 3 3 1 3) refl until_l8 (by 2 0 0) refl

k9_journal : without_journal (config 2 2 1 2) owned (by 2 3 1) ≡ 16
unfolding testing
k9_journal = unrelated (config 2 2 1 2) refl owned (by 2 3 1) refl

k10-first : without_journal (config 1 1 1 1) (idles 3998) (by 1 0 0) ≡ 16
unfolding testing
k10-first = unrelated (config 1 1 1 1) refl (idles 3998) (by 1 0 0) refl

k10-second : without_journal (config 1 1 1 1) (idles 3999) (by 1 0 0) ≡ 16
unfolding testing
k10-second = unrelated (config 1 1 1 1) refl (idles 3999) (by 1 0 0) refl

full : causes (start (config 1 1 1 1)) (idles 4000) ≡ replicate 4000 0 ++ 8 ∷ []
unfolding computing
full = refl

pub table : Table
unfolding computing
table =
    record {
      k1 = refl;
      k2 = refl;
      k3 = refl;
      k4 = reaches _ refl _ _ refl (refl, refl, refl);
      s_token = reaches _ refl _ _ refl refl;
      k5 = reaches _ refl _ _ refl (refl, refl, refl);
      k6 = reaches _ refl _ _ refl (refl, refl);
      k6_idle = reaches _ refl _ _ refl refl;
      k7_owner = reaches _ refl _ _ refl refl;
      k7 = reaches _ refl _ _ refl (refl, refl);
      k8_before = reaches _ refl _ _ refl (refl, refl);
      k8 = reaches _ refl _ _ refl (refl, refl);
      k9 = numbers (config 2 2 1 2) refl (owned ++ by 2 3 1 ∷ []) ∙ refl;
      k10 = numbers (config 1 1 1 1) refl (idles 4000) ∙ full;
      k8_journal = k8_journal;
      k9_journal = k9_journal;
      k10_journal = (k10-first, k10-second);
    }

pub stealing : Stealing
unfolding computing
stealing =
    record {
      fifth = refl;
      looks = reaches _ refl _ _ refl (refl, refl, refl);
      takes = reaches _ refl _ _ refl (refl, refl, refl);
      loads = reaches _ refl _ _ refl (refl, refl);
      first_look = reaches _ refl _ _ refl refl;
      second_look = reaches _ refl _ _ refl refl;
      third_look = reaches _ refl _ _ refl refl;
      own = reaches _ refl _ _ refl (refl, refl);
    }

-- the answers from that start
given : (ms : List Move) → answers ms ≡ causes (start (config 2 2 8 2)) ms
unfolding config_cause
given ms = numbers (config 2 2 8 2) refl ms

journal_refused : (a : Move) → (moved (session_record left_owner 1 3) (with_front journal (bytes exited)) a).refusal ≡ 16
unfolding testing bytes
journal_refused a = refl

read_back : read (picture left_owner) ≡ record { refusal = 0; state = encode left_owner }
unfolding testing picture concat read read_refusal fields zero_bytes_ok
read_back = refl

pub owner-exits : OwnerExits
unfolding computing run owns history-exited gains drops picture concat
owner-exits =
    record {
      first_mutex = given _ ∙ refl;
      last_mutex = given _ ∙ refl;
      other_mutex = given _ ∙ refl;
      order = given _ ∙ refl;
      unlocked = given _ ∙ refl;
      law_broken = (refl, refl);
      journal_refused = journal_refused;
      pictured = refl;
      read_back = read_back;
    }
