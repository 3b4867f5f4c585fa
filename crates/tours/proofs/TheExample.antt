-- The mark of the example is one, and the example is lawful
use Rattle.std.proofs.Common.{◌≡◌, ℕ, ◌^◌, ◌<◌, ◌≤◌, true, codes, List, refl, arith}
use Rattle.std.proofs.lemmas.Bool.Decides.{nat_tests}
use Rattle.rules.specs.Lists.{number_of}
use Rattle.rules.specs.Records.{spaces_last, lawful_mark, typed_mark, lawful, unnumbered, numbered}
use Rattle.records.proofs.Lawful.{lawful_by}

pub mark_lawful : lawful_mark (typed_mark (codes "KL4420")) ≡ true
unfolding number_of spaces_last lawful_mark typed_mark
mark_lawful = refl

pub example_lawful :
    (n day : ℕ) (mark : List ℕ) → n < 2 ^ 32 → day < 2 ^ 16 → lawful_mark mark ≡ true → 1 ≤ n
    → lawful (numbered n (unnumbered 4 1243 2 426 day 615 18555 mark)) ≡ true
example_lawful n day mark n_fits day_fits known from =
    rw (lawful_by n 4 1243 2 426 day 615 18555 mark n_fits day_fits (omega arith) known) (grind (arith, nat_tests))
