-- The code's readers have the grammars.
-- Assumes nothing.
use native.Mathlib.Omega.{arith}
use Prim.Native.Nat.{ℕ, ◌<◌}
use mathlib.Core.List.{List}
use mathlib.Core.Logic.{◌⊎◌, inl, inr}
use mathlib.Core.Path.{◌≡◌, refl, sym, ap, subst, ◌∙◌}
use lib.ListN.{length}
use borrow.Author.Tests.{lt-ltb}
use Rattle.command.specs.declared.Command.{Command}
use Rattle.command.specs.declared.Command.TheVariants.{Start, StartWith, Move, Goto, Show, Unknown}
use Rattle.command.specs.Command.{spell, Known}
use Rattle.command.specs.Request.{Ask, plain, script, turn, turns, view, chart, mark, mark_own, help, spell_ask, KnownAsk}
use Rattle.command.specs.Grammar.{Grammar, CourseGrammar}
use Rattle.command.specs.Model.Reading.{command_of}
use Rattle.command.specs.Model.Request.{unknown, ask_of}
use Rattle.command.proofs.Lines.{spelled_read, read_known, read_spelled, spell-length, long-unknown}
use Rattle.command.proofs.Asks.{Reads, spelled_asked, asked-read}

pub grammar_holds : Grammar command_of
grammar_holds =
    record {
      exactly = λ l c h. ((λ e. read_spelled l c e h), (λ e. ap command_of e ∙ spelled_read c h));
      known = read_known;
      once = λ c d h k e. sym (spelled_read c h) ∙ ap command_of e ∙ spelled_read d k;
      short = spell-length;
      long = λ l h. long-unknown l (omega arith);
    }

-- ---- two readers that have the grammar agree on every line, so the grammar says all of `command_of`

Named : Command → Type 0
Named Unknown = ⊥
Named (Start p t m b) = Unit {0}
Named (StartWith p t m b c) = Unit {0}
Named (Move p a o) = Unit {0}
Named (Goto k) = Unit {0}
Named Show = Unit {0}

unknown_or : (c : Command) → (c ≡ Unknown) ⊎ (c ≡ Unknown → ⊥)
unfolding Named
unknown_or Unknown = inl refl
unknown_or (Start p t m b) = inr (λ e. subst Named e tt)
unknown_or (StartWith p t m b c) = inr (λ e. subst Named e tt)
unknown_or (Move p a o) = inr (λ e. subst Named e tt)
unknown_or (Goto k) = inr (λ e. subst Named e tt)
unknown_or Show = inr (λ e. subst Named e tt)

module _ {A : Type 0} (none : A) (K : A → Type 0) (s : A → List ℕ) (test : (a : A) → (a ≡ none) ⊎ (a ≡ none → ⊥)) where
  -- what the two grammars say alike of a reader
  record Reader (read : List ℕ → A) : Type 0 where
    pub exactly : (l : List ℕ) (a : A) → K a → (read l ≡ a → l ≡ s a) × (l ≡ s a → read l ≡ a)
    pub known : (l : List ℕ) → (read l ≡ none → ⊥) → K (read l)

  known_agree : (f g : List ℕ → A) → Reader f → Reader g → (l : List ℕ) → K (f l) → f l ≡ g l
  known_agree f g F G l h = sym ((G.exactly l (f l) h).1 ((F.exactly l (f l) h).0 refl))

  agree : (f g : List ℕ → A) → Reader f → Reader g → (l : List ℕ) → f l ≡ g l
  agree f g F G l = go (test (f l)) (test (g l))
    where
      go : (f l ≡ none) ⊎ (f l ≡ none → ⊥) → (g l ≡ none) ⊎ (g l ≡ none → ⊥) → f l ≡ g l
      go (inr n) y = known_agree f g F G l (F.known l n)
      go (inl e) (inr n) = sym (known_agree g f G F l (G.known l n))
      go (inl e) (inl d) = e ∙ sym d

reader : {f : List ℕ → Command} → Grammar f → Reader Unknown Known spell unknown_or f
reader G = record { exactly = G.exactly; known = G.known }

pub readers_agree : (f g : List ℕ → Command) → Grammar f → Grammar g → (l : List ℕ) → f l ≡ g l
readers_agree f g F G = agree Unknown Known spell unknown_or f g (reader F) (reader G)

-- ---- the lines of the program `course`

ask_spelled : (l : List ℕ) (a : Ask) → ask_of l ≡ a → KnownAsk a → l ≡ spell_ask a
ask_spelled l a e h = go (asked-read l)
  where
    go : Reads l (ask_of l) → l ≡ spell_ask a
    go (inl u) = absurd (subst KnownAsk (sym e ∙ u) h)
    go (inr w) = w.line ∙ ap spell_ask e

ask_known : (l : List ℕ) → (ask_of l ≡ unknown → ⊥) → KnownAsk (ask_of l)
ask_known l n = go (asked-read l)
  where
    go : Reads l (ask_of l) → KnownAsk (ask_of l)
    go (inl u) = absurd (n u)
    go (inr w) = w.known

ask_long : (l : List ℕ) → 2048 < length l → ask_of l ≡ unknown
unfolding ask_of
ask_long l h = rw (lt-ltb 2048 (length l) h)

asked : (l : List ℕ) (a : Ask) → KnownAsk a → l ≡ spell_ask a → ask_of l ≡ a
asked l a h e = ap ask_of e ∙ spelled_asked a h

pub course_grammar_holds : CourseGrammar ask_of
unfolding spell_ask
course_grammar_holds =
    record {
      exactly = λ l a h. ((λ e. ask_spelled l a e h), asked l a h);
      known = ask_known;
      once = λ a b h k e. sym (spelled_asked a h) ∙ ap ask_of e ∙ spelled_asked b k;
      long = ask_long;
      stepper = λ f G l n. let h = G.known l n in asked l (plain (f l)) h ((G.exactly l (f l) h).0 refl);
    }

-- ---- two readers that have it agree on every line

NamedAsk : Ask → Type 0
NamedAsk (plain c) = Named c
NamedAsk (script k ns) = Unit {0}
NamedAsk (turn p) = Unit {0}
NamedAsk (turns ps) = Unit {0}
NamedAsk view = Unit {0}
NamedAsk chart = Unit {0}
NamedAsk (mark b c) = Unit {0}
NamedAsk (mark_own c) = Unit {0}
NamedAsk help = Unit {0}

unknown_ask_or : (a : Ask) → (a ≡ unknown) ⊎ (a ≡ unknown → ⊥)
unfolding NamedAsk Named
unknown_ask_or (plain c) = go (unknown_or c)
  where
    go : (c ≡ Unknown) ⊎ (c ≡ Unknown → ⊥) → (plain c ≡ unknown) ⊎ (plain c ≡ unknown → ⊥)
    go (inl e) = inl (ap plain e)
    go (inr n) = inr (λ e. n (cc))
unknown_ask_or (script k ns) = inr (λ e. subst NamedAsk e tt)
unknown_ask_or (turn p) = inr (λ e. subst NamedAsk e tt)
unknown_ask_or (turns ps) = inr (λ e. subst NamedAsk e tt)
unknown_ask_or view = inr (λ e. subst NamedAsk e tt)
unknown_ask_or chart = inr (λ e. subst NamedAsk e tt)
unknown_ask_or (mark b c) = inr (λ e. subst NamedAsk e tt)
unknown_ask_or (mark_own c) = inr (λ e. subst NamedAsk e tt)
unknown_ask_or help = inr (λ e. subst NamedAsk e tt)

asker : {f : List ℕ → Ask} → CourseGrammar f → Reader unknown KnownAsk spell_ask unknown_ask_or f
asker G = record { exactly = G.exactly; known = G.known }

pub askers_agree : (f g : List ℕ → Ask) → CourseGrammar f → CourseGrammar g → (l : List ℕ) → f l ≡ g l
askers_agree f g F G = agree unknown KnownAsk spell_ask unknown_ask_or f g (asker F) (asker G)
