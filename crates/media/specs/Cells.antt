-- The bytes that a medium is over, and the name of the reference to them
use Rattle.std.specs.Prelude.{◌≡◌, ℕ, List}
use Rattle.std.specs.Borrow.{GName}
use Rattle.rules.specs.Media.{one_more}
use Rattle.media.specs.declared.cells.Cells.{Cells}
use Rattle.media.specs.declared.flash.Flash.{Flash}
use Rattle.media.specs.declared.sectors.Sectors.{Sectors}

-- the bytes, as they are now
abbrev pub bytes_of : Cells → List ℕ
bytes_of cells = cells.bytes.now

-- who lent them, by the name of the reference
abbrev pub lender_of : Cells → GName
lender_of cells = cells.bytes.ghost_name

-- one more write is counted, and the bytes are still those that were lent
abbrev pub WritesOnce : (old new : Cells) → Type 0
WritesOnce old new = (new.writes ≡ one_more old.writes) × (lender_of new ≡ lender_of old)

-- the cells of flash
abbrev pub flash_cells : Flash → Cells
flash_cells medium = medium.cells

-- the cells of sectors
abbrev pub sectors_cells : Sectors → Cells
sectors_cells medium = medium.cells
