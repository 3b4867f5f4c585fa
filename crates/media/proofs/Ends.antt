-- Where the calls of a medium end, over the bytes before and after
use Rattle.std.proofs.Common.{◌≡◌, ℕ, ◌+◌, ◌*◌, ◌/◌, ◌%◌, ◌<◌, ◌≤◌, true, List, [], length, take, drop, replicate, refl, sym, ap, ◌∙◌, arith}
use borrow.Rule.Slice.PartMut.{put_mid}
use Rattle.std.proofs.Math.Seq.{paste}
use Rattle.std.proofs.lemmas.List.{same_lists, places}
use Rattle.std.proofs.lemmas.Slice.{put_mid-paste}
use Rattle.rules.specs.Rows.{is_blank, blank_row}
use Rattle.rules.specs.Memory.{row_at}
use Rattle.rules.specs.Media.{rows_in, row_in, accepted, one_more, reads, programs, erases}
use Rattle.rules.proofs.BlankRows.{is_blank_row, blank_row_is_blank}
use Rattle.rules.proofs.MediaLaws.{rows_length, row_is, within, program_done, programs_blank, erase_done, erases_inside}

-- a row that was read lies within the bytes
pub read_inside : (bytes got was : List ℕ) (row : ℕ) → reads (rows_in bytes) row was ≡ (accepted, got) → row < length bytes / 32
read_inside bytes got was row e = (within bytes got was row e).0

-- a row that was read and is blank is all ones
pub read_blank : (bytes got was : List ℕ) (row : ℕ) → reads (rows_in bytes) row was ≡ (accepted, got) → is_blank got ≡ true → row_in bytes row ≡ blank_row
read_blank bytes got was row e b = let h = within bytes got was row e in sym (h.1 ∙ row_is bytes row _ h.0) ∙ is_blank_row got b

-- a row that was blank holds the new bytes, which were put where it starts, and one write more is counted
pub program_ends : (bytes after part new : List ℕ) (writes row left start k : ℕ) → after ≡ put_mid start k bytes part → start ≡ row * 32 → row < length bytes / 32 → row_in bytes row ≡ blank_row
    → part ≡ new → length new ≡ 32 → k ≡ 32 → left ≡ one_more writes → programs (rows_in bytes) writes row new ≡ (accepted, rows_in after, left)
program_ends bytes after part new writes row left start k put at inside blank same long wide count =
    let ones : is_blank (row_at (rows_in bytes) row) ≡ true = blank_row_is_blank _ (row_is bytes row [] inside ∙ blank) in
    let done = put ∙ put_mid-paste start k bytes part new 32 same (sym wide) (sym long) ∙ ap (λ a. paste bytes a new 32) at in
    let rows = program_done bytes after new row 32 inside long (omega arith) (omega arith) done in
    programs_blank (rows_in bytes) writes row new (rows_in after) (omega (arith, inside, rows_length bytes)) ones rows ∙ ap (λ n. (accepted, rows_in after, n)) (sym count)

-- a page is all ones, and one write more is counted
pub erase_ends : (bytes after part : List ℕ) (writes page left start k n : ℕ) → after ≡ put_mid start k bytes part → start ≡ page * 512 → page < length bytes / 512 → part ≡ replicate n 255 → n ≡ 512 → k ≡ 512
    → left ≡ one_more writes → length bytes % 512 ≡ 0 → erases (rows_in bytes) writes page ≡ (accepted, rows_in after, left)
erase_ends bytes after part writes page left start k n put at inside ones many wide count whole =
    let ready : part ≡ replicate 512 255 = ones ∙ ap (λ m. replicate m 255) many in
    let done = put ∙ put_mid-paste start k bytes part (replicate 512 255) 512 ready (sym wide) refl ∙ ap (λ a. paste bytes a (replicate 512 255) 512) at in
    let rows = erase_done bytes after page 512 whole inside (omega arith) (omega arith) done in
    erases_inside bytes writes page whole (rows_in after) inside rows ∙ ap (λ n. (accepted, rows_in after, n)) (sym count)

-- a part put into a part that is put back is put where it lies
put_within : (xs new : List ℕ) (a n b k s : ℕ) → a + n ≤ length xs → b + k ≤ n → length new ≡ k → a + b ≡ s → put_mid a n xs (put_mid b k (take n (drop a xs)) new) ≡ put_mid s k xs new
put_within xs new a n b k s inside fits long at = same_lists _ _ (simp places (omega arith)) (λ j d l. grind (arith, places))

-- sectors: the page that was rewritten has the new bytes in it
pub put_inside : (bytes after page part sector new : List ℕ) (first place start k : ℕ) → after ≡ put_mid first 512 bytes sector → sector ≡ put_mid place k page part → page ≡ take 512 (drop first bytes) → part ≡ new
    → length new ≡ 32 → k ≡ 32 → first + place ≡ start → place + 32 ≤ 512 → first + 512 ≤ length bytes → after ≡ put_mid start 32 bytes new
put_inside bytes after page part sector new first place start k put filled is same long wide at fits inside =
    put ∙ ap (put_mid first 512 bytes) (filled ∙ ap (λ p. put_mid place k p part) is ∙ ap (put_mid place k (take 512 (drop first bytes))) same)
    ∙ ap (λ m. put_mid first 512 bytes (put_mid place m (take 512 (drop first bytes)) new)) wide ∙ put_within bytes new first 512 place 32 start inside fits long at
