-- What the program writes for a line: the ticket line of the record in the row, or what is wrong with it
use Rattle.std.specs.Prelude.{ℕ, List, [], ◌∷◌, ◌++◌, codes}
use Rattle.rules.specs.Lists.{when_some}
use Rattle.rules.specs.Rows.{Verdict, blank, wrong_check, wrong_fields, intact, judged}
use Rattle.rules.specs.Tickets.{ticket}
use Rattle.rows.specs.Hex.{row_in}

-- with a line feed
abbrev pub ended : List ℕ → List ℕ
ended text = text ++ (10 ∷ [])

abbrev pub verdict_text : Verdict → List ℕ
verdict_text blank = ended (codes "blank")
verdict_text wrong_check = ended (codes "damaged: check")
verdict_text wrong_fields = ended (codes "damaged: fields")
verdict_text (intact r) = ticket r

abbrev pub reply_to : (line : List ℕ) → List ℕ
reply_to line = when_some (row_in line) (ended (codes "not a row")) (λ row. verdict_text (judged row))
