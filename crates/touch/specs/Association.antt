-- Which of the code's words is which word of document 02, No. 4, and the two bytes of each.
-- Assumes nothing.
use Rattle.std.specs.Prelude.{ℕ, List, [], ◌∷◌}
use Rattle.touch.specs.declared.Word as code
use Rattle.touch.specs.declared.Word.TheVariants as case
use Rattle.touch.specs.declared.Touch as pair
use Rattle.reference.specs.Touch.{Word, none, count, token, queue, ready, birth, Touch, kind, number}

-- the word that each case of the enum means
abbrev pub word_shown : code.Word → Word
word_shown case.None = none
word_shown (case.Count m) = count m
word_shown (case.Token m) = token m
word_shown (case.Queue m) = queue m
word_shown (case.Ready q) = ready q
word_shown (case.Birth k) = birth k

abbrev pub touch_shown : pair.Touch → Touch
touch_shown t = record { reads = word_shown t.reads; writes = word_shown t.writes }

-- the case that means a word
abbrev pub word_record : Word → code.Word
word_record none = case.None
word_record (count m) = case.Count m
word_record (token m) = case.Token m
word_record (queue m) = case.Queue m
word_record (ready q) = case.Ready q
word_record (birth k) = case.Birth k

abbrev pub touch_record : Touch → pair.Touch
touch_record t = record { reads = word_record t.reads; writes = word_record t.writes }

-- a word as two bytes, its kind and its number: those of the word read, then those of the word written
abbrev pub touch_bytes : Touch → List ℕ
touch_bytes t = kind t.reads ∷ number t.reads ∷ kind t.writes ∷ number t.writes ∷ []
