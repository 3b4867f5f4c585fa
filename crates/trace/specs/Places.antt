-- Places in a text
use Rattle.std.specs.Prelude.{ℕ, cond, List, [], length, drop, nat_le}
use Rattle.rules.specs.Trace.{words}

-- the words of a text from a place on; past the end there is none
unfoldable pub words_from : (place : ℕ) (text : List ℕ) → List (List ℕ)
words_from place text = cond (nat_le place (length text)) (words (drop place text)) []
