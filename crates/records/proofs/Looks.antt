-- What the words of a row show of it
use Rattle.std.proofs.Common.{◌≡◌, ℕ, ◌-◌, ◌/◌, ◌%◌, ◌^◌, ◌<◌, Bool, eqb, List, length, get_or, replicate, sym, ap, ◌∙◌}
use lib.Count.{ones}
use Rattle.std.specs.Int.Digits.{AllBelowBase}
use Rattle.std.proofs.ByRecursion.{All-from_get_or}
use Rattle.rules.specs.Lists.{same, number_of, digits_of}
use Rattle.rules.specs.Rows.{is_blank, is_checked}
use Rattle.records.proofs.RowsRead.{words_number, checked_number, blank_number}

module _ (row words : List ℕ) (size : length row ≡ 32) (fits : (i : ℕ) → get_or row i 0 < 256) (words_are : words ≡ digits_of (2 ^ 64) 4 (number_of 256 0 row)) where
  pub bytes : AllBelowBase 256 row
  bytes = All-from_get_or (λ b. b < 256) row 0 (λ i _. fits i)

  pub number_is : number_of (2 ^ 64) 0 words ≡ number_of 256 0 row
  number_is = ap (number_of (2 ^ 64) 0) words_are ∙ words_number row size bytes

  -- whether it is blank
  pub looks_blank : (r b : Bool) → r ≡ same words (replicate 4 (2 ^ 64 - 1)) → r ≡ b → is_blank row ≡ b
  looks_blank r b e is = blank_number row size bytes ∙ ap (λ ws. same ws (replicate 4 (2 ^ 64 - 1))) (sym words_are) ∙ sym e ∙ is

  -- whether its check is right
  pub looks_checked : (r b : Bool) → r ≡ eqb (number_of (2 ^ 64) 0 words % 256) (248 - ones (number_of (2 ^ 64) 0 words / 256)) → r ≡ b → is_checked row ≡ b
  looks_checked r b e is = checked_number row size bytes ∙ ap (λ n. eqb (n % 256) (248 - ones (n / 256))) (sym number_is) ∙ sym e ∙ is
