-- The rows of bytes, and what a write to the bytes does to them
use Rattle.std.proofs.Common.{◌≡◌, ℕ, zero, suc, ◌+◌, ◌-◌, ◌*◌, ◌/◌, ◌%◌, ◌<◌, ◌≤◌, Bool, true, false, cond, ltb, ◌⊎◌, List, [], ◌∷◌, ◌++◌, length, get_or, take, drop, set, replicate, sym, refl, ap, ◌∙◌, inl, ⊎_elim, arith}
use borrow.Rule.Slice.PartMut.{put_mid, post_of}
use lib.Seq.{paste, length-paste}
use Rattle.std.proofs.lemmas.List.{same_lists, ext_get_or, drop-take, drop_at, take_at, length-take-le, length-set, get_or-set_same, get_or-set_other, length-take, length-drop, length-map, length-replicate, get_or-map, drop-drop, drop-append-le, take-append-le, drop-replicate, take-replicate}
use Rattle.std.proofs.lemmas.Slice.{take-put_mid_below, drop-put_mid, put_mid-paste}
use Rattle.std.proofs.lemmas.Bool.{cases_eq, cond-true, cond-false, lt-ltb, le-ltb, ltb-true}
use Rattle.rules.specs.Lists.{from}
use Rattle.rules.specs.Rows.{blank_row, is_blank}
use Rattle.rules.specs.Memory.{Rows, row_at, pages, erased}
use Rattle.rules.specs.Media.{row_in, rows_in, Shaped, Outcome, accepted, refused, one_more, reads, programs, erases}
use Rattle.rules.proofs.MemoryLaws.{erased_length, erased_row}

-- ---- Rows one by one

length_from : (a n : ℕ) → length (from a n) ≡ n
length_from a zero = refl
length_from a (suc n) = omega (arith, length_from (suc a) n)

getD_from : (a n i d : ℕ) → i < n → get_or (from a n) i d ≡ a + i
getD_from a zero i d inside = absurd (omega arith)
getD_from a (suc n) zero d inside = omega arith
getD_from a (suc n) (suc i) d inside = getD_from (suc a) n i d (omega arith) ∙ omega arith

pub rows_length : (bytes : List ℕ) → length (rows_in bytes) ≡ length bytes / 32
unfolding rows_in
rows_length bytes = length-map (from 0 (length bytes / 32)) (row_in bytes) ∙ length_from 0 (length bytes / 32)

pub row_is : (bytes : List ℕ) (r : ℕ) (d : List ℕ) → r < length bytes / 32 → get_or (rows_in bytes) r d ≡ row_in bytes r
unfolding rows_in
row_is bytes r d inside =
    get_or-map (row_in bytes) (from 0 (length bytes / 32)) r 0 d (omega (arith, length_from 0 (length bytes / 32)))
    ∙ ap (row_in bytes) (getD_from 0 (length bytes / 32) r 0 inside ∙ omega arith)

row_size : (bytes : List ℕ) (r : ℕ) → r * 32 + 32 ≤ length bytes → length (row_in bytes r) ≡ 32
row_size bytes r h = simp (length-take, length-drop) (omega arith)

-- ---- A part is written over

put_same : (bytes new : List ℕ) (r k : ℕ) → r * 32 ≤ length bytes → length new ≡ 32 → row_in (put_mid (r * 32) k bytes new) r ≡ new
put_same bytes new r k h e = ap (take 32) (drop_at (take (r * 32) bytes) _ (r * 32) (length-take-le _ _ h)) ∙ take_at new _ 32 e

put_below : (bytes new : List ℕ) (a k i : ℕ) → i * 32 + 32 ≤ a → a ≤ length bytes → row_in (put_mid a k bytes new) i ≡ row_in bytes i
put_below bytes new a k i l h =
    sym (drop-take (i * 32) 32 (put_mid a k bytes new)) ∙ ap (drop (i * 32)) (take-put_mid_below a k bytes new (i * 32 + 32) l h) ∙ drop-take (i * 32) 32 bytes

put_above : (bytes new : List ℕ) (a k i : ℕ) → a + k ≤ i * 32 → a ≤ length bytes → length new ≡ k → row_in (put_mid a k bytes new) i ≡ row_in bytes i
put_above bytes new a k i l h e = ap (take 32) (drop-put_mid a k bytes new (i * 32) l h e)

below_or : (i r : ℕ) → (i < r) ⊎ (r ≤ i)
below_or i r = grind arith

-- a row of the bytes after the write, by the row before it
module _ (bytes new : List ℕ) (r k : ℕ) (inside : r < length bytes / 32) (size : length new ≡ 32) (wide : k ≡ 32) where
  abbrev after : List ℕ
  after = put_mid (r * 32) k bytes new

  row_after : (i : ℕ) (d : List ℕ) → i < length bytes / 32 → row_in (put_mid (r * 32) k bytes new) i ≡ get_or (set (rows_in bytes) r new) i d
  row_after i d hi = ⊎_elim
      (λ (q : i ≡ r). rw q (put_same bytes new r k (omega arith) size ∙ sym (get_or-set_same (rows_in bytes) r new d (omega (arith, rows_length bytes)))))
      (λ (ne : i ≡ r → ⊥). ⊎_elim
      (λ (l : i < r). put_below bytes new (r * 32) k i (omega arith) (omega arith) ∙ kept ne)
      (λ (g : r ≤ i). put_above bytes new (r * 32) k i (let z : r < i = omega arith in omega arith) (omega arith) (size ∙ sym wide) ∙ kept ne)
      (below_or i r))
      (cases_eq i r)
    where
      kept : (i ≡ r → ⊥) → row_in bytes i ≡ get_or (set (rows_in bytes) r new) i d
      kept ne = sym (get_or-set_other (rows_in bytes) r i new d ne ∙ row_is bytes i d hi)

-- the rows after the write of one row
rows_put : (bytes new : List ℕ) (r k : ℕ) → r < length bytes / 32 → length new ≡ 32 → k ≡ 32 → length (put_mid (r * 32) k bytes new) ≡ length bytes
    → rows_in (put_mid (r * 32) k bytes new) ≡ set (rows_in bytes) r new
rows_put bytes new r k inside size wide same =
    let n : ℕ = length bytes / 32 in
    let long : length (rows_in (put_mid (r * 32) k bytes new)) ≡ n = rows_length (put_mid (r * 32) k bytes new) ∙ ap (λ m. m / 32) same in
    same_lists _ _ (long ∙ sym (length-set (rows_in bytes) r new ∙ rows_length bytes)) (λ i d h.
    let hi : i < n = omega arith in
    row_is (put_mid (r * 32) k bytes new) i d (omega (arith, ap (λ m. m / 32) same)) ∙ row_after bytes new r k inside size wide i d hi)

-- ---- A page is filled with ones

-- what lies wholly in a part that was filled
ones_in : (bytes : List ℕ) (y w a n k j e : ℕ) → e ≡ a + j → j + w ≤ n → a ≤ length bytes → take w (drop e (put_mid a k bytes (replicate n y))) ≡ replicate w y
ones_in bytes y w a n k j e at hi h =
    ap (λ z. take w (drop z (put_mid a k bytes (replicate n y)))) at ∙ ap (take w) (sym (drop-drop j a (put_mid a k bytes (replicate n y)))
    ∙ ap (drop j) (drop_at (take a bytes) _ a (length-take-le _ _ h))
    ∙ drop-append-le j (replicate n y) _ (omega (arith, length-replicate n y))
    ∙ ap (λ z. z ++ post_of a k bytes) (drop-replicate j n y))
    ∙ take-append-le w (replicate (n - j) y) _ (omega (arith, length-replicate (n - j) y)) ∙ take-replicate w (n - j) y (omega arith)

put_ones : (bytes : List ℕ) (a n k i : ℕ) → a ≤ i * 32 → i * 32 + 32 ≤ a + n → a ≤ length bytes → row_in (put_mid a k bytes (replicate n 255)) i ≡ blank_row
unfolding blank_row
put_ones bytes a n k i lo hi h = ones_in bytes 255 32 a n k (i * 32 - a) (i * 32) (omega arith) (omega arith) h

-- the rows after the erase of one page
rows_erase : (bytes : List ℕ) (p k m : ℕ) → m ≡ 512 → k ≡ 512 → p * 16 + 16 ≤ length bytes / 32 → length (put_mid (p * 512) k bytes (replicate m 255)) ≡ length bytes
    → rows_in (put_mid (p * 512) k bytes (replicate m 255)) ≡ erased (rows_in bytes) (p ∷ [])
rows_erase bytes p k m me ke inside same =
    let new : List ℕ = replicate m 255 in
    let after : List ℕ = put_mid (p * 512) k bytes new in
    let n : ℕ = length bytes / 32 in
    let size : length new ≡ k = length-replicate m 255 ∙ me ∙ sym ke in
    let long : length (rows_in after) ≡ n = rows_length after ∙ ap (λ l. l / 32) same in
    ext_get_or [] (rows_in after) (erased (rows_in bytes) (p ∷ [])) (long ∙ sym (erased_length (rows_in bytes) (p ∷ []) ∙ rows_length bytes)) (λ i h.
    let hi : i < n = omega arith in
    let hr : i < length (rows_in bytes) = omega (arith, rows_length bytes) in
    row_is after i [] (omega (arith, ap (λ l. l / 32) same)) ∙ ⊎_elim
    (λ listed.
    let q : i / 16 ≡ p = ⊎_elim (λ e. e) (λ None. absurd None) listed.0 in
    put_ones bytes (p * 512) m k i (omega arith) (omega arith) (omega arith) ∙ sym listed.1)
    (λ other.
    let ne : i / 16 ≡ p → ⊥ = λ q. other.0 (inl q) in
    let was : row_in bytes i ≡ row_at (erased (rows_in bytes) (p ∷ [])) i = sym (other.1 ∙ row_is bytes i [] hi) in
    ⊎_elim
    (λ (l : i < p * 16). put_below bytes new (p * 512) k i (omega arith) (omega arith) ∙ was)
    (λ (g : p * 16 ≤ i). put_above bytes new (p * 512) k i (let z : (i < p * 16 + 16) → ⊥ = λ lt. ne (omega arith) in omega arith) (omega arith) size ∙ was)
    (below_or i (p * 16)))
    (erased_row (rows_in bytes) (p ∷ []) i hr))

-- ---- The shape of a medium

pub pages_are : (bytes : List ℕ) → length bytes % 512 ≡ 0 → length (rows_in bytes) ≡ 16 * (length bytes / 512)
pages_are bytes h = rows_length bytes ∙ omega arith

pub shaped : (bytes : List ℕ) → length bytes % 512 ≡ 0 → 1024 ≤ length bytes → length bytes ≤ 32768 → Shaped (rows_in bytes)
shaped bytes whole least most =
    record {
      pages = length bytes / 512;
      least = omega arith;
      most = omega arith;
      whole = pages_are bytes whole;
      wide = λ r h. let hr : r < length bytes / 32 = omega (arith, rows_length bytes) in ap length (row_is bytes r [] hr) ∙ row_size bytes r (omega arith);
    }

-- ---- The ends of the calls, over the bytes before and after

pub erase_done : (bytes after : List ℕ) (p k : ℕ) → length bytes % 512 ≡ 0 → p < length bytes / 512 → 512 ≤ k → k ≤ 512 → after ≡ paste bytes (p * 512) (replicate k 255) k
    → rows_in after ≡ erased (rows_in bytes) (p ∷ [])
erase_done bytes after p k whole lt lo hi e =
    let q : k ≡ 512 = omega arith in
    let put : after ≡ put_mid (p * 512) k bytes (replicate k 255) = e ∙ sym (put_mid-paste (p * 512) k bytes (replicate k 255) (replicate k 255) k refl refl (sym (length-replicate k 255))) in
    let same : length after ≡ length bytes = ap length e ∙ length-paste bytes (p * 512) (replicate k 255) k (omega arith) (omega (arith, length-replicate {A = ℕ} k 255)) in
    ap rows_in put ∙ rows_erase bytes p k k q q (omega arith) (ap length (sym put) ∙ same)

pub program_done : (bytes after new : List ℕ) (r k : ℕ) → r < length bytes / 32 → length new ≡ 32 → 32 ≤ k → k ≤ 32 → after ≡ paste bytes (r * 32) new k → rows_in after ≡ set (rows_in bytes) r new
program_done bytes after new r k inside size lo hi e =
    let q : k ≡ 32 = omega arith in
    let put : after ≡ put_mid (r * 32) k bytes new = e ∙ sym (put_mid-paste (r * 32) k bytes new new k refl refl (q ∙ sym size)) in
    let same : length after ≡ length bytes = ap length e ∙ length-paste bytes (r * 32) new k (omega arith) (omega arith) in
    ap rows_in put ∙ rows_put bytes new r k inside size q (ap length (sym put) ∙ same)

-- ---- Flash: a turn of the loop that clears bits in a blank row

-- ---- Sectors: a row written into a page that is rewritten whole

-- ---- What the calls say, over the bytes

module _ (bytes : List ℕ) (r : ℕ) where
  pub reads_inside : (out : List ℕ) → r < length bytes / 32 → reads (rows_in bytes) r out ≡ (accepted, row_in bytes r)
  reads_inside out h =
      let e : ltb r (length (rows_in bytes)) ≡ true = lt-ltb r (length (rows_in bytes)) (omega (arith, rows_length bytes)) in
      cond-true (ltb r (length (rows_in bytes))) (accepted, row_at (rows_in bytes) r) (refused 2 r, out) e ∙ ap (λ x. (accepted, x)) (row_is bytes r [] h)

  pub reads_outside : (out : List ℕ) → length bytes / 32 ≤ r → reads (rows_in bytes) r out ≡ (refused 2 r, out)
  reads_outside out h =
      let e : ltb r (length (rows_in bytes)) ≡ false = le-ltb r (length (rows_in bytes)) (omega (arith, rows_length bytes)) in
      cond-false (ltb r (length (rows_in bytes))) (accepted, row_at (rows_in bytes) r) (refused 2 r, out) e

-- what a read that was accepted or refused says of the row
pub read_told : (rows : Rows) (row : ℕ) (out got : List ℕ) → reads rows row out ≡ (accepted, got) → (row < length rows) × (got ≡ row_at rows row)
read_told rows row out got e = at (ltb row (length rows)) refl e
  where
    at : (b : Bool) → ltb row (length rows) ≡ b → ◌≡◌ {A = Outcome × List ℕ} (cond b (accepted, row_at rows row) (refused 2 row, out)) (accepted, got) → (row < length rows) × (got ≡ row_at rows row)
    at true is e = (ltb-true row (length rows) is, sym (ap (λ x. x.1) e))
    at false is e = absurd (let z : refused 2 row ≡ accepted = ap (λ x. x.0) e in let y : ◌≡◌ {A = ℕ} 0 1 = cc in omega arith)

-- of bytes: the row lies within them
pub within : (bytes got was : List ℕ) (row : ℕ) → reads (rows_in bytes) row was ≡ (accepted, got) → (row < length bytes / 32) × (got ≡ row_at (rows_in bytes) row)
within bytes got was row e = let option_map = read_told (rows_in bytes) row was got e in (omega (arith, option_map.0, rows_length bytes), option_map.1)

module _ (rows : Rows) (writes row : ℕ) (bytes : List ℕ) where
  pub programs_blank : (left : Rows) → row < length rows → is_blank (row_at rows row) ≡ true → left ≡ set rows row bytes → programs rows writes row bytes ≡ (accepted, left, one_more writes)
  programs_blank left h b e =
      cond-true (ltb row (length rows)) _ _ (lt-ltb row (length rows) h) ∙ cond-true (is_blank (row_at rows row)) _ _ b ∙ ap (λ x. (accepted, x, one_more writes)) (sym e)

module _ (bytes : List ℕ) (writes page : ℕ) (whole : length bytes % 512 ≡ 0) where
  pages_count : pages (rows_in bytes) ≡ length bytes / 512
  pages_count = ap (λ n. n / 16) (pages_are bytes whole) ∙ omega arith

  pub erases_inside : (left : Rows) → page < length bytes / 512 → left ≡ erased (rows_in bytes) (page ∷ []) → erases (rows_in bytes) writes page ≡ (accepted, left, one_more writes)
  erases_inside left h e = cond-true (ltb page (pages (rows_in bytes))) _ _ (lt-ltb page (pages (rows_in bytes)) (omega (arith, pages_count))) ∙ ap (λ x. (accepted, x, one_more writes)) (sym e)
