-- Eight blank pages, as bytes and as rows
use Rattle.std.proofs.Common.{◌≡◌, ℕ, replicate, refl, ap, ◌∙◌, None}
use Rattle.rules.specs.Rows.{blank_row}
use Rattle.rules.specs.Memory.{Rows}
use Rattle.rules.specs.Media.{rows_in}
use Rattle.rules.specs.Terminal.{World}
use Rattle.rules.specs.Replay.{eight_pages}

pub blank_rows : rows_in (replicate 4096 255) ≡ replicate 128 blank_row
unfolding rows_in blank_row
blank_rows = refl

-- a medium with such rows, and no write yet
pub blank_world : (rows : Rows) (writes : ℕ) → rows ≡ replicate 128 blank_row → writes ≡ 0 → record { rows = rows; writes = writes; on = None } ≡ eight_pages
unfolding eight_pages
blank_world rows writes er ew =
    let A : Type 0 = World in
    let with_rows : Rows → World = λ x. record { rows = x; writes = writes; on = None } in
    let with_writes : ℕ → World = λ x. record { rows = replicate 128 blank_row; writes = x; on = None } in
    ap with_rows er ∙ ap with_writes ew
