-- That a list of events is a session can be read off the reference session.
-- Assumes nothing.
use Prim.Native.Nat.{ℕ}
use mathlib.Core.List.{List, [], ◌∷◌, ◌++◌}
use mathlib.Core.Path.{◌≡◌, refl, sym, ap, ◌∙◌, subst}
use lib.ListN.{length}
use Rattle.reference.specs.Start.{Config}
use Rattle.reference.specs.Session.{Opening, opened, Request, Lent, own, other, Reply, Listed, all_standing, answer, after, left}
use Rattle.picture.specs.Picture.{write_refusal}
use Rattle.claim.specs.Implementation.{contract, Refused}
use Rattle.claim.specs.Demand3.{Event, asks, writes, passes, asked, Held, step, held_after, Belongs, BelongsLent, IsSession, opening, listed}
use Rattle.claim.proofs.Demand3.{demand3}

abbrev pub FitsLent : Lent → ℕ → Type 0
FitsLent own n = Unit {0}
FitsLent (other o) n = Refused n

-- each call that is lent another journal is refused there, and so is each picture over the session's own
unfoldable pub Fits : Config → ℕ → Listed → List Event → Type 0
Fits c size l [] = Unit {0}
Fits c size l (asks q ∷ es) = FitsLent q.lent (answer c size l q).refusal × Fits c size (after c size l q) es
Fits c size l (writes s ∷ es) = Refused (write_refusal s size) × Fits c size l es
Fits c size l (passes ∷ es) = Fits c size l es

-- ---- one more event

pub held_then : (h : Held) (es : List Event) (e : Event) → held_after contract h (es ++ e ∷ []) ≡ step contract (held_after contract h es) e
unfolding held_after
held_then h [] e = refl
held_then h (d ∷ es) e = held_then (step contract h d) es e

pub session_then : (h : Held) (es : List Event) (e : Event) → IsSession contract h es → Belongs contract (held_after contract h es) e → IsSession contract h (es ++ e ∷ [])
unfolding held_after IsSession
session_then h [] e s b = (b, tt)
session_then h (d ∷ es) e s b = (s.0, session_then (step contract h d) es e s.1 b)

left_then : (c : Config) (size : ℕ) (l : Listed) (es : List Event) (e : Event) →
    left c size l (asked (es ++ e ∷ [])) ≡ left c size (left c size l (asked es)) (asked (e ∷ []))
unfolding left asked
left_then c size l [] e = refl
left_then c size l (asks q ∷ es) e = left_then c size (after c size l q) es e
left_then c size l (writes s ∷ es) e = left_then c size l es e
left_then c size l (passes ∷ es) e = left_then c size l es e

module _ (o : Opening) (j : List ℕ) (ok : (contract.begin o j).refusal ≡ 0) where
  abbrev first : Held
  first = opening contract o j

  -- what fits what the reference session holds
  abbrev FitsAt : List Event → Listed → Type 0
  FitsAt es l = Fits (opened o).config (length j) l es

  -- after a session, a call is answered as in the reference session: where it is refused there, it is refused
  belongs_lent : (es : List Event) → IsSession contract first es → (q : Request) (t : Lent) →
      FitsLent t (answer (opened o).config (length j) (listed contract o j es) (record { request = q; lent = t })).refusal →
      BelongsLent contract (held_after contract first es) q t
  belongs_lent es s q own f = tt
  belongs_lent es s q (other k) f =
      λ e. f (sym (ap (λ (r : Reply). r.refusal) ((demand3.sessions o j ok es s).answers_next (record { request = q; lent = other k }))) ∙ e)

  -- one event that belongs, then those that fit after it
  fits_then : (e : Event) (rest es : List Event) → IsSession contract first es → Belongs contract (held_after contract first es) e →
      FitsAt rest (left (opened o).config (length j) (listed contract o j es) (asked (e ∷ []))) →
      (IsSession contract first (es ++ e ∷ []) → FitsAt rest (listed contract o j (es ++ e ∷ [])) → IsSession contract (held_after contract first (es ++ e ∷ [])) rest) →
      IsSession contract (held_after contract first es) (e ∷ rest)
  unfolding IsSession
  fits_then e rest es s b f on = (
    b,
    subst (λ (h : Held). IsSession contract h rest) (held_then first es e)
        (on (session_then first es e s b) (subst (FitsAt rest) (sym (left_then (opened o).config (length j) (all_standing (opened o).listed) es e)) f)),
  )

  fits_on : (rest es : List Event) → IsSession contract first es → FitsAt rest (listed contract o j es) → IsSession contract (held_after contract first es) rest
  unfolding IsSession Fits left asked
  fits_on [] es s f = tt
  fits_on (asks q ∷ rest) es s f =
      fits_then (asks q) rest es s (belongs_lent es s q.request q.lent f.0) f.1 (fits_on rest (es ++ asks q ∷ []))
  fits_on (writes r ∷ rest) es s f =
      fits_then (writes r) rest es s (λ e. f.0 (ap (write_refusal r) (sym (demand3.sessions o j ok es s).size) ∙ e)) f.1 (fits_on rest (es ++ writes r ∷ []))
  fits_on (passes ∷ rest) es s f = fits_then passes rest es s tt f (fits_on rest (es ++ passes ∷ []))

  pub is_session : (es : List Event) → FitsAt es (all_standing (opened o).listed) → IsSession contract first es
  unfolding held_after IsSession left asked
  is_session es f = fits_on es [] tt f
