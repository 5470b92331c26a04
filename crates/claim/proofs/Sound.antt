-- An accepted call leaves a session's record and journal, whoever wrote those that it was handed: of the contracts.
-- Assumes nothing.
use Prim.Native.Nat.{ℕ, ◌*◌, ◌≤◌}
use mathlib.Core.List.{List}
use mathlib.Core.Path.{◌≡◌, sym, ap, ◌∙◌, subst}
use native.Mathlib.Omega.{arith}
use lib.ListN.{length, take}
use Rattle.state.specs.declared.Session.{Session}
use Rattle.state.specs.Association.{session_record}
use Rattle.reference.specs.Start.{Config, start}
use Rattle.reference.specs.Cause.{accepted}
use Rattle.reference.specs.Safe.{Safe}
use Rattle.reference.specs.Session.{Request, own, bytes, Listed, standing, state_in, accept}
use Rattle.reference.proofs.Laws.{safe}
use Rattle.session.specs.Contract.{config_of}
use Rattle.session.specs.Held.{listed_in}
use Rattle.session.proofs.Holding.{Agree, Holds, standing-legal, shown-is, listed-is}
use Rattle.session.proofs.Replayed.{length-moves}
use Rattle.claim.specs.Implementation.{contract, calls}
use Rattle.claim.specs.Sound.{SoundCall, Sound}
use Rattle.claim.proofs.Leaves.{calls_agree, state-is, leaves, said}

module _ (r : Session) (j : List ℕ) (q : Request) (e : (calls r j q).refusal ≡ 0) where
  t : Agree r j
  t = calls_agree r j q e

  abbrev c : Config
  c = config_of r

  abbrev made : Listed
  made = accept c (listed_in r j) q own

  holds : Holds c made (calls r j q).session (calls r j q).journal
  holds = (leaves r j q e).0

  listed : listed_in (calls r j q).session (calls r j q).journal ≡ made
  listed = listed-is c t.config made _ _ holds

  sound_call : SoundCall contract r j q
  sound_call =
      record {
        config = t.config;
        within_before = omega (arith, t.within, length-moves r.kept j);
        legal_before = t.kept;
        state_before = state-is r j t;
        made = listed;
        touched = said r j q e;
        within = subst (λ (l : Listed). l.n ≤ length l.kept) (sym listed) holds.within;
        legal = ap (λ (l : Listed). accepted (start c) l.kept) listed ∙ holds.legal;
        state = shown-is c t.config made _ _ holds ∙ sym (ap (state_in c) listed);
        session = holds.shows ∙ sym (ap (λ (l : Listed). session_record (state_in c l) c.B (length l.kept)) listed);
        front = ap (λ (l : Listed). take (3 * length l.kept) (calls r j q).journal) listed ∙ holds.whole ∙ sym (ap (λ (l : Listed). bytes l.kept) listed);
        safe = subst (λ (l : Listed). Safe c (standing l)) (sym listed) (safe c (standing made) t.config (standing-legal c t.config made _ _ holds));
      }

pub sound : Sound contract
sound r j q e = sound_call r j q e
