-- A row by its number: its words, its check and its fields
use Rattle.std.proofs.Common.{◌≡◌, ℕ, ◌+◌, ◌-◌, ◌*◌, ◌/◌, ◌%◌, ◌^◌, ◌<◌, ◌≤◌, Bool, true, false, cond, ◌&&◌, eqb, List, [], ◌∷◌, ◌++◌, length, get_or, take, replicate, sym, refl, ap, ◌∙◌, arith, None, Some}
use lib.Count.{ones, ones_cat, ones-le}
use Rattle.std.specs.Int.Digits.{AllBelowBase}
use Rattle.std.proofs.lemmas.Nat.{div-mul-add, mod-mul-add, div_below}
use Rattle.std.proofs.lemmas.Int.Digits.{number_push}
use Rattle.std.proofs.ByRecursion.{All-get_or, All-take}
use Rattle.std.proofs.lemmas.List.{take_all, take_more, length-take-le}
use Rattle.std.proofs.lemmas.Bool.{eq-eqb, eqb-true}
use Rattle.rules.specs.Lists.{same, number_of, digits_of}
use Rattle.rules.specs.Records.{Record, lawful}
use Rattle.rules.specs.Rows.{fields, side_by_side, zeros, packing, unpacked, read_row, blank_row, is_blank, is_checked}
use Rattle.rules.proofs.BlankRows.{same_list, same_self, is_blank_row, blank_row_is_blank}
use Rattle.rules.proofs.Digits.{number_below, number_of_digits, digits_of_number, digits_under, digits_length, number_in_front}
use Rattle.rules.proofs.Fields.{side_below, read_back}
use Rattle.rules.proofs.Fits.{lawful_fits}
use Rattle.records.specs.declared.fields.Fields.{Fields}
use Rattle.records.specs.FieldsOf.{field_list, FitsWidths, is_record, record_in}

-- ---- Bits that are set

-- four elements, one by one
pub spread : (xs : List ℕ) → length xs ≡ 4 → xs ≡ get_or xs 0 0 ∷ get_or xs 1 0 ∷ get_or xs 2 0 ∷ get_or xs 3 0 ∷ []
spread (a ∷ b ∷ c ∷ d ∷ []) e = refl
spread [] e = absurd (omega arith)
spread (a ∷ []) e = absurd (omega arith)
spread (a ∷ b ∷ []) e = absurd (omega arith)
spread (a ∷ b ∷ c ∷ []) e = absurd (omega arith)
spread (a ∷ b ∷ c ∷ d ∷ f ∷ xs) e = absurd (omega arith)

-- the bits before the check, by the four words
pub body_of_words : (a b c d : ℕ) → number_of (2 ^ 64) 0 (a ∷ b ∷ c ∷ d ∷ []) / 256 ≡ ((a * 2 ^ 64 + b) * 2 ^ 64 + c) * 2 ^ 56 + d / 256
unfolding number_of
body_of_words a b c d = omega arith

pub check_of_words : (a b c d : ℕ) → number_of (2 ^ 64) 0 (a ∷ b ∷ c ∷ d ∷ []) % 256 ≡ d % 256
unfolding number_of
check_of_words a b c d = omega arith

pub ones_of_words : (a b c d : ℕ) → b < 2 ^ 64 → c < 2 ^ 64 → d < 2 ^ 64
    → ones (number_of (2 ^ 64) 0 (a ∷ b ∷ c ∷ d ∷ []) / 256) ≡ ones a + ones b + ones c + ones (d / 256)
ones_of_words a b c d hb hc hd =
    ap ones (body_of_words a b c d) ∙ ones_cat 56 ((a * 2 ^ 64 + b) * 2 ^ 64 + c) (d / 256) (div_below d 256 (2 ^ 56) (omega arith) hd)
    ∙ ap (λ n. n + ones (d / 256)) (ones_cat 64 (a * 2 ^ 64 + b) c hc ∙ ap (λ n. n + ones c) (ones_cat 64 a b hb))

-- the number of the record, by the first word
pub number_of_words : (a b c d : ℕ) → b < 2 ^ 64 → c < 2 ^ 64 → d < 2 ^ 64
    → (number_of (2 ^ 64) 0 (a ∷ b ∷ c ∷ d ∷ []) / 256 / 2 ^ 208) % 2 ^ 32 ≡ (a / 2 ^ 24) % 2 ^ 32
number_of_words a b c d hb hc hd = let body = body_of_words a b c d in omega (arith, body)

-- a number behind the last word
last_word : (a b c d x : ℕ) → number_of (2 ^ 64) 0 (a ∷ b ∷ c ∷ (d + x) ∷ []) ≡ number_of (2 ^ 64) 0 (a ∷ b ∷ c ∷ d ∷ []) + x
unfolding number_of
last_word a b c d x = omega arith

-- zero bits and bits that are set are all bits
zeros_and_ones : (s : ℕ) (ds : List ℕ) → AllBelowBase 256 ds → zeros ds + ones (number_of 256 s ds) ≡ 8 * length ds + ones s
unfolding zeros number_of
zeros_and_ones s [] u = omega arith
zeros_and_ones s (d ∷ ds) u = omega (arith, zeros_and_ones (s * 256 + d) ds u.1, ones_cat 8 s d u.0, ones-le 8 d u.0)

-- ---- A row of 32 bytes

-- the bytes of words of ones, and the words of a blank row
blank_digits : digits_of 256 32 (number_of (2 ^ 64) 0 (replicate 4 (2 ^ 64 - 1))) ≡ blank_row
unfolding blank_row digits_of number_of
blank_digits = refl

blank_words : same (digits_of (2 ^ 64) 4 (number_of 256 0 blank_row)) (replicate 4 (2 ^ 64 - 1)) ≡ true
unfolding blank_row digits_of number_of
blank_words = refl

module _ (row : List ℕ) (size : length row ≡ 32) (bytes : AllBelowBase 256 row) where
  abbrev n : ℕ
  n = number_of 256 0 row

  row_below : number_of 256 0 row < 2 ^ 256
  row_below = rw size at (number_below 256 row bytes)

  -- the words write the same number
  pub words_number : number_of (2 ^ 64) 0 (digits_of (2 ^ 64) 4 (number_of 256 0 row)) ≡ number_of 256 0 row
  words_number = number_of_digits (2 ^ 64) 4 (number_of 256 0 row) (omega arith) row_below

  body_size : length (take 31 row) ≡ 31
  body_size = length-take-le 31 row (omega arith)

  body_bytes : AllBelowBase 256 (take 31 row)
  body_bytes = All-take (λ b. b < 256) 31 row bytes

  split : row ≡ take 31 row ++ (get_or row 31 0 ∷ [])
  split = sym (take_all (31 + 1) row (omega arith)) ∙ take_more row 31 0 (omega arith)

  value : number_of 256 0 row ≡ number_of 256 0 (take 31 row) * 256 + get_or row 31 0
  unfolding number_of
  value = ap (number_of 256 0) split ∙ number_push 256 (take 31 row) (get_or row 31 0)

  last_below : get_or row 31 0 < 256
  last_below = All-get_or (λ b. b < 256) row 31 0 (omega arith) bytes

  pub body_number : number_of 256 0 (take 31 row) ≡ number_of 256 0 row / 256
  body_number = sym (ap (λ v. v / 256) value ∙ div-mul-add (number_of 256 0 (take 31 row)) 256 (get_or row 31 0) last_below)

  last_number : get_or row 31 0 ≡ number_of 256 0 row % 256
  last_number = sym (ap (λ v. v % 256) value ∙ mod-mul-add (number_of 256 0 (take 31 row)) 256 (get_or row 31 0) last_below)

  zeros_number : zeros (take 31 row) ≡ 248 - ones (number_of 256 0 row / 256)
  zeros_number =
      let all = zeros_and_ones 0 (take 31 row) body_bytes in
      let None : ones 0 ≡ 0 = omega (arith, ones-le 0 0 (omega arith)) in
      omega (arith, all, body_size, ap ones body_number)

  pub checked_number : is_checked row ≡ eqb (number_of 256 0 row % 256) (248 - ones (number_of 256 0 row / 256))
  unfolding is_checked
  checked_number = ap (λ v. eqb v (zeros (take 31 row))) last_number ∙ ap (eqb (number_of 256 0 row % 256)) zeros_number

  -- all words are ones exactly where all bytes are
  ones_then_blank : same (digits_of (2 ^ 64) 4 (number_of 256 0 row)) (replicate 4 (2 ^ 64 - 1)) ≡ true → is_blank row ≡ true
  ones_then_blank e =
      let words : digits_of (2 ^ 64) 4 (number_of 256 0 row) ≡ replicate 4 (2 ^ 64 - 1) = same_list (digits_of (2 ^ 64) 4 (number_of 256 0 row)) (replicate 4 (2 ^ 64 - 1)) e in
      let all : number_of 256 0 row ≡ number_of (2 ^ 64) 0 (replicate 4 (2 ^ 64 - 1)) = sym words_number ∙ ap (number_of (2 ^ 64) 0) words in
      blank_row_is_blank row (sym (digits_of_number 256 32 row size bytes) ∙ ap (digits_of 256 32) all ∙ blank_digits)

  blank_then_ones : is_blank row ≡ true → same (digits_of (2 ^ 64) 4 (number_of 256 0 row)) (replicate 4 (2 ^ 64 - 1)) ≡ true
  blank_then_ones e = ap (λ r. same (digits_of (2 ^ 64) 4 (number_of 256 0 r)) (replicate 4 (2 ^ 64 - 1))) (is_blank_row row e) ∙ blank_words

  pub blank_number : is_blank row ≡ same (digits_of (2 ^ 64) 4 (number_of 256 0 row)) (replicate 4 (2 ^ 64 - 1))
  blank_number = both (is_blank row) (same (digits_of (2 ^ 64) 4 (number_of 256 0 row)) (replicate 4 (2 ^ 64 - 1))) blank_then_ones ones_then_blank
    where
      both : (a b : Bool) → (a ≡ true → b ≡ true) → (b ≡ true → a ≡ true) → a ≡ b
      both true b f g = sym (f refl)
      both false true f g = g refl
      both false false f g = refl

  -- ---- The record in the fields

  module _ (f : Fields) (body : side_by_side 0 (field_list f) ≡ number_of 256 0 row / 256) (fit : FitsWidths (field_list f)) where
    abbrev q : Record
    q = record_in f

    here : number_of 256 0 (take 31 row) ≡ side_by_side 0 (field_list f)
    here = body_number ∙ sym body

    unpacked_is : unpacked row ≡ record_in f
    unfolding unpacked
    unpacked_is =
        let back = read_back (number_of 256 0 (take 31 row)) 0 (field_list f) fit here in
        λ i. record {
          number = back 1 (omega arith) i;
          day = back 2 (omega arith) i;
          minute = back 3 (omega arith) i;
          interval = back 4 (omega arith) i;
          gross = back 5 (omega arith) i;
          tare_kind = back 6 (omega arith) i;
          tare = back 7 (omega arith) i;
          net = back 8 (omega arith) i;
          unit_price = back 9 (omega arith) i;
          price = back 10 (omega arith) i;
          mark = ap (digits_of 64 8) (back 11 (omega arith)) i;
        }

    -- with the right kind and spare bits, the row is what the record packs to
    whole : is_checked row ≡ true → f.kind ≡ 0xa1 → f.spare ≡ 2 ^ 37 - 1 → packing (record_in f) ≡ row
    unfolding packing fields is_checked
    whole checked kind spare =
        let mark : number_of 64 0 (digits_of 64 8 f.mark) ≡ f.mark = number_of_digits 64 8 f.mark (omega arith) fit.1.1.1.1.1.1.1.1.1.1.1.0 in
        let list : fields (record_in f) ≡ field_list f = rw (kind, spare, mark) in
        let digits : digits_of 256 31 (side_by_side 0 (fields (record_in f))) ≡ take 31 row =
        ap (λ fs. digits_of 256 31 (side_by_side 0 fs)) list ∙ ap (digits_of 256 31) (sym here) ∙ digits_of_number 256 31 (take 31 row) body_size body_bytes in
        ap (λ ds. ds ++ (zeros ds ∷ [])) digits
        ∙ ap (λ z. take 31 row ++ (z ∷ [])) (sym (eqb-true (get_or row 31 0) (zeros (take 31 row)) checked)) ∙ sym split

    -- a row that the lawful record packs to has them
    pub packed_then : lawful (record_in f) ≡ true → packing (record_in f) ≡ row → (f.kind ≡ 0xa1) × (f.spare ≡ 2 ^ 37 - 1)
    unfolding packing fields
    packed_then ok e =
        let v : ℕ = side_by_side 0 (fields (record_in f)) in
        let fits = lawful_fits (record_in f) ok in
        let same_body : number_of 256 0 (take 31 row) ≡ v =
        ap (λ r. number_of 256 0 (take 31 r)) (sym e) ∙ number_in_front 256 31 v (zeros (digits_of 256 31 v) ∷ []) (omega arith) (side_below (fields (record_in f)) fits) in
        let mine = read_back (number_of 256 0 (take 31 row)) 0 (field_list f) fit here in
        let its = read_back (number_of 256 0 (take 31 row)) 0 (fields (record_in f)) fits same_body in
        (sym (mine 0 (omega arith)) ∙ its 0 (omega arith), sym (mine 12 (omega arith)) ∙ its 12 (omega arith))

    -- so the row is intact exactly where the fields say so
    pub read_by_fields : is_checked row ≡ true → read_row row ≡ cond (is_record f) (Some (record_in f)) None
    unfolding read_row
    read_by_fields checked =
        ap (λ r. cond (lawful r && same (packing r) row) (Some r) None) unpacked_is
        ∙ ap (λ b. cond b (Some (record_in f)) None)
        (tests (lawful (record_in f)) (same (packing (record_in f)) row) (eqb f.kind 0xa1) (eqb f.spare (2 ^ 37 - 1))
        (λ ok e. let h = packed_then ok (same_list (packing (record_in f)) row e) in (eq-eqb f.kind 0xa1 h.0, eq-eqb f.spare (2 ^ 37 - 1) h.1))
        (λ a b. ap (λ r. same r row) (whole checked (eqb-true f.kind 0xa1 a) (eqb-true f.spare (2 ^ 37 - 1) b)) ∙ same_self row))
      where
        tests : (l p a b : Bool) → (l ≡ true → p ≡ true → (a ≡ true) × (b ≡ true)) → (a ≡ true → b ≡ true → p ≡ true) → (l && p) ≡ (a && (b && l))
        tests false p true true f g = refl
        tests false p true false f g = refl
        tests false p false b f g = refl
        tests true p true true f g = g refl refl
        tests true true true false f g = cc (f refl refl).1
        tests true false true false f g = refl
        tests true true false b f g = cc (f refl refl).0
        tests true false false b f g = refl

-- ---- The row of a record

-- the check fits behind 248 bits
pub check_room : (a b c d s check : ℕ) → number_of (2 ^ 64) 0 (a ∷ b ∷ c ∷ d ∷ []) ≡ s * 256 → d < 2 ^ 64 → check ≤ 248 → d + check < 2 ^ 64
check_room a b c d s check e small few = omega (arith, check_of_words a b c d, ap (λ n. n % 256) e)

-- the words with the check are the row of the record
pub packed_row : (r : Record) → lawful r ≡ true → (a b c d check : ℕ) → number_of (2 ^ 64) 0 (a ∷ b ∷ c ∷ d ∷ []) ≡ side_by_side 0 (fields r) * 256
    → check + ones (number_of (2 ^ 64) 0 (a ∷ b ∷ c ∷ d ∷ []) / 256) ≡ 248
    → digits_of 256 32 (number_of (2 ^ 64) 0 (a ∷ b ∷ c ∷ (d + check) ∷ [])) ≡ packing r
unfolding packing digits_of fields
packed_row r ok a b c d check e count =
    let s : ℕ = side_by_side 0 (fields r) in
    let body : number_of (2 ^ 64) 0 (a ∷ b ∷ c ∷ d ∷ []) / 256 ≡ s = ap (λ n. n / 256) e ∙ omega arith in
    let number : number_of (2 ^ 64) 0 (a ∷ b ∷ c ∷ (d + check) ∷ []) ≡ s * 256 + check = last_word a b c d check ∙ ap (λ n. n + check) e in
    let ds : List ℕ = digits_of 256 31 s in
    let back : number_of 256 0 ds ≡ s = number_of_digits 256 31 s (omega arith) (side_below (fields r) (lawful_fits r ok)) in
    let all : zeros ds + ones (number_of 256 0 ds) ≡ 8 * length ds + ones 0 = zeros_and_ones 0 ds (digits_under 256 31 s (omega arith)) in
    let None : ones 0 ≡ 0 = omega (arith, ones-le 0 0 (omega arith)) in
    let check_is : check ≡ zeros ds = omega (arith, count, ap ones body, all, ap ones back, digits_length 256 31 s) in
    let small : check < 256 = omega arith in
    ap (digits_of 256 32) number
    ∙ ap (λ q. digits_of 256 31 q ++ ((s * 256 + check) % 256 ∷ [])) (div-mul-add s 256 check small)
    ∙ ap (λ z. digits_of 256 31 s ++ (z ∷ [])) (mod-mul-add s 256 check small ∙ check_is)
