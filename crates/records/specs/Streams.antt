-- Bits that are read from words of 64 bits, and bits that are written into them
use Rattle.std.specs.Prelude.{ℕ, ◌+◌, ◌-◌, ◌*◌, ◌^◌, take, drop}
use Rattle.rules.specs.Lists.{number_of}
use Rattle.records.specs.declared.bits.Reader.{Reader}
use Rattle.records.specs.declared.bits.Writer.{Writer}

-- the number that the unread bits write
abbrev pub unread : Reader → ℕ
unread r = number_of (2 ^ 64) r.held (drop r.next r.words)

abbrev pub bits_unread : Reader → ℕ
bits_unread r = r.bits + 64 * (4 - r.next)

-- the number that the bits written so far write
abbrev pub written : Writer → ℕ
written w = number_of (2 ^ 64) 0 (take w.next w.words) * 2 ^ w.bits + w.held

abbrev pub bits_written : Writer → ℕ
bits_written w = 64 * w.next + w.bits
