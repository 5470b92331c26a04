-- Document 02, No. 6: an accepted call leaves a session's record and journal, whatever record and journal it was handed. Nothing is assumed of who wrote these.
-- `Sound` is the statement, for any implementation; proofs/Sound.antt proves it of the contracts.
-- Assumes nothing.
use Rattle.std.specs.Prelude.{ℕ, ◌*◌, ◌≤◌, true, List, ◌≡◌, length, take}
use Rattle.state.specs.declared.Session.{Session}
use Rattle.state.specs.Association.{session_record}
use Rattle.reference.specs.Start.{Config, config_cause, start}
use Rattle.reference.specs.Step.{run}
use Rattle.reference.specs.Cause.{accepted}
use Rattle.reference.specs.Safe.{Safe}
use Rattle.reference.specs.Session.{Request, own, bytes, Listed, standing, accept, touches}
use Rattle.session.specs.Contract.{shown, config_of}
use Rattle.session.specs.Held.{listed_in}
use Rattle.claim.specs.Implementation.{Implementation, Outcome}

-- a move, turn, class or going, handed the record r and lent the journal j
module _ (impl : Implementation) (r : Session) (j : List ℕ) (q : Request) where
  -- what it leaves
  abbrev pub done : Outcome
  done = impl.call r j q

  -- the start table read off the record; the moves that were kept in the journal with how many stood, and those that are kept in it then
  abbrev pub table : Config
  table = config_of r

  abbrev pub before : Listed
  before = listed_in r j

  abbrev pub after : Listed
  after = listed_in done.session done.journal

  pub record SoundCall : Type 0 where
    -- the start table is in its ranges, the kept moves were accepted, and the record was the one that the standing ones among them give
    pub config : config_cause table ≡ 0
    pub within_before : before.n ≤ length before.kept
    pub legal_before : accepted (start table) before.kept ≡ true
    pub state_before : shown r ≡ run (start table) (standing before)
    -- the moves that are kept now, and how many stand: those, with what was asked made of them
    pub made : after ≡ accept table before q own
    -- the words that it said are those of what was asked, in the state before it
    pub touched : done.touch ≡ touches table before q own
    -- each is accepted when those before it have been made
    pub within : after.n ≤ length after.kept
    pub legal : accepted (start table) after.kept ≡ true
    -- the state is the one that the standing ones give, and the record the one that shows it, with the B of the start table and as many moves kept
    pub state : shown done.session ≡ run (start table) (standing after)
    pub session : done.session ≡ session_record (run (start table) (standing after)) table.B (length after.kept)
    -- the journal's first bytes are the kept moves
    pub front : take (3 * length after.kept) done.journal ≡ bytes after.kept
    -- by the history of the standing moves no mutex has two owners, an owner is a living thread, every thread is in exactly one place and nobody is left waiting
    pub safe : Safe table (standing after)

-- any record, any journal, anything that is asked and accepted
abbrev pub Sound : Implementation → Type 0
Sound impl = (r : Session) (j : List ℕ) (q : Request) → (impl.call r j q).refusal ≡ 0 → SoundCall impl r j q
