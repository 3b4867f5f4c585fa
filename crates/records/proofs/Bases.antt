-- One number in two bases: bytes, and words of eight bytes
use Rattle.std.proofs.Common.{◌≡◌, ℕ, zero, suc, ◌+◌, ◌*◌, ◌/◌, ◌%◌, ◌^◌, ◌<◌, ◌≤◌, List, [], ◌∷◌, ◌++◌, map, length, get_or, take, drop, sym, refl, ap, ◌∙◌, pow-suc, arith}
use native.Mathlib.Nat.{pow-zero}
use Rattle.std.specs.Int.Digits.{AllBelowBase}
use Rattle.std.specs.Int.{w64, to_be_bytes, from_be_bytes}
use Rattle.std.specs.List.{flat_map}
use Rattle.std.specs.Simd.{first_chunks}
use Rattle.std.proofs.lemmas.Nat.{be_bytes_8, shr-shr, div-mul-add, mod-mul-add, div_below, mod_below, div-add-mod'}
use Rattle.std.proofs.lemmas.Int.Digits.{number_after_append}
use Rattle.std.proofs.ByRecursion.{All-take, All-drop}
use Rattle.std.proofs.lemmas.List.{append_assoc, append-nil, take-append-drop, length-take-le, length-drop}
use Rattle.rules.specs.Lists.{number_of, digits_of}
use Rattle.rules.proofs.Digits.{number_of_digits, digits_of_number}

-- ---- Eight bytes

-- a number before digits is worth its place
pub number_behind : (b s : ℕ) (ds : List ℕ) → number_of b s ds ≡ s * b ^ length ds + number_of b 0 ds
unfolding number_of
number_behind b s [] = omega (arith, ap (λ p. s * p) (pow-zero b))
number_behind b s (d ∷ ds) =
    omega (arith, ap (λ p. s * p) (pow-suc b (length ds)), number_behind b (s * b + d) ds, number_behind b (0 * b + d) ds)

-- ---- Words to bytes

-- the digits of a number behind those of another
pub digits_behind : (b n m v w : ℕ) → 0 < b → w < b ^ m → digits_of b (n + m) (v * b ^ m + w) ≡ digits_of b n v ++ digits_of b m w
unfolding digits_of
digits_behind b n zero v w some small =
    let w_is : w ≡ 0 = omega (arith, pow-zero b) in
    let v_is : v * b ^ 0 + w ≡ v = omega (arith, ap (λ p. v * p) (pow-zero b)) in
    let n_is : n + 0 ≡ n = omega arith in
    ap (λ k. digits_of b k (v * b ^ 0 + w)) n_is ∙ ap (digits_of b n) v_is ∙ sym (append-nil (digits_of b n v))
digits_behind b n (suc m) v w some small =
    let n_is : n + suc m ≡ suc (n + m) = omega arith in
    let rest : w / b < b ^ m = div_below w b (b ^ m) some (omega (arith, pow-suc b m)) in
    let value : v * b ^ suc m + w ≡ (v * b ^ m + w / b) * b + w % b = omega (arith, ap (λ p. v * p) (pow-suc b m), div-add-mod' w b) in
    let high : (v * b ^ suc m + w) / b ≡ v * b ^ m + w / b = ap (λ x. x / b) value ∙ div-mul-add (v * b ^ m + w / b) b (w % b) (mod_below w b some) in
    let low : (v * b ^ suc m + w) % b ≡ w % b = ap (λ x. x % b) value ∙ mod-mul-add (v * b ^ m + w / b) b (w % b) (mod_below w b some) in
    ap (λ k. digits_of b k (v * b ^ suc m + w)) n_is
    ∙ ap (λ x. digits_of b (n + m) x ++ ((v * b ^ suc m + w) % b ∷ [])) high ∙ ap (λ x. digits_of b (n + m) (v * b ^ m + w / b) ++ (x ∷ [])) low
    ∙ ap (λ xs. xs ++ (w % b ∷ [])) (digits_behind b n m v (w / b) some rest) ∙ append_assoc (digits_of b n v) (digits_of b m (w / b)) (w % b ∷ [])

-- the eight bytes of a word
pub bytes_are : (w : ℕ) → digits_of 256 8 w
    ≡ (w / 72057594037927936 % 256) ∷ (w / 281474976710656 % 256) ∷ (w / 1099511627776 % 256) ∷ (w / 4294967296 % 256)
    ∷ (w / 16777216 % 256) ∷ (w / 65536 % 256) ∷ (w / 256 % 256) ∷ (w % 256) ∷ []
unfolding digits_of
bytes_are w = rw (shr-shr w 8 8, shr-shr w 16 8, shr-shr w 24 8, shr-shr w 32 8, shr-shr w 40 8, shr-shr w 48 8)

-- the bytes of words, one after another behind those of a number
pub words_written :
    (n s : ℕ) (ws : List ℕ) → AllBelowBase (2 ^ 64) ws
    → digits_of 256 n s ++ flat_map (λ bs. bs) (map (λ w. to_be_bytes w64 w) ws) ≡ digits_of 256 (n + 8 * length ws) (number_of (2 ^ 64) s ws)
unfolding number_of
words_written n s [] u = append-nil (digits_of 256 n s) ∙ ap (λ k. digits_of 256 k s) (omega arith)
words_written n s (w ∷ ws) u =
    let rest : List ℕ = flat_map (λ bs. bs) (map (λ v. to_be_bytes w64 v) ws) in
    let next : n + 8 + 8 * length ws ≡ n + 8 * length (w ∷ ws) = omega arith in
    sym (append_assoc (digits_of 256 n s) (to_be_bytes w64 w) rest)
    ∙ ap (λ bs. (digits_of 256 n s ++ bs) ++ rest) (sym (bytes_are w)) ∙ ap (λ bs. bs ++ rest) (sym (digits_behind 256 n 8 s w (omega arith) u.0))
    ∙ words_written (n + 8) (s * 2 ^ 64 + w) ws u.1 ∙ ap (λ k. digits_of 256 k (number_of (2 ^ 64) (s * 2 ^ 64 + w) ws)) next

-- ---- Bytes to words

byte_fits : (bs : List ℕ) → AllBelowBase 256 bs → (i : ℕ) → get_or bs i 0 < 256
byte_fits [] u i = omega arith
byte_fits (b ∷ bs) u zero = u.0
byte_fits (b ∷ bs) u (suc i) = byte_fits bs u.1 i

-- the word of eight bytes
word_is : (bs : List ℕ) → length bs ≡ 8 → AllBelowBase 256 bs → (from_be_bytes w64 bs ≡ number_of 256 0 bs) × (from_be_bytes w64 bs < 2 ^ 64)
word_is bs size u =
    let fits = byte_fits bs u in
    let n : ℕ = from_be_bytes w64 bs in
    let small : n < 2 ^ 64 = omega (arith, fits 0, fits 1, fits 2, fits 3, fits 4, fits 5, fits 6, fits 7) in
    (sym (number_of_digits 256 8 n (omega arith) small) ∙ ap (number_of 256 0) (bytes_are n ∙ be_bytes_8 bs n size fits refl), small)

-- eight bytes less
eight_less : (s : ℕ) (xs : List ℕ) → 8 ≤ length xs → number_of 256 s xs ≡ number_of 256 (s * 2 ^ 64 + number_of 256 0 (take 8 xs)) (drop 8 xs)
unfolding number_of
eight_less s xs long =
    let size : length (take 8 xs) ≡ 8 = length-take-le 8 xs long in
    ap (number_of 256 s) (sym (take-append-drop 8 xs)) ∙ number_after_append 256 s (take 8 xs) (drop 8 xs)
    ∙ ap (λ n. number_of 256 n (drop 8 xs)) (number_behind 256 s (take 8 xs) ∙ ap (λ n. s * 256 ^ n + number_of 256 0 (take 8 xs)) size)

-- the words of bytes, eight by eight
abbrev words_in : ℕ → List ℕ → List ℕ
words_in k xs = map (λ bs. from_be_bytes w64 bs) (first_chunks 8 k xs)

-- they write the same number
words_read :
    (s k : ℕ) (xs : List ℕ) → length xs ≡ 8 * k → AllBelowBase 256 xs
    → (number_of (2 ^ 64) s (words_in k xs) ≡ number_of 256 s xs) × AllBelowBase (2 ^ 64) (words_in k xs) × (length (words_in k xs) ≡ k)
unfolding number_of
words_read s zero [] size u = (refl, tt, refl)
words_read s zero (x ∷ xs) size u = absurd (omega arith)
words_read s (suc k) xs size u =
    let long : 8 ≤ length xs = omega arith in
    let word = word_is (take 8 xs) (length-take-le 8 xs long) (All-take (λ b. b < 256) 8 xs u) in
    let rest = words_read (s * 2 ^ 64 + from_be_bytes w64 (take 8 xs)) k (drop 8 xs) (omega (arith, length-drop 8 xs)) (All-drop (λ b. b < 256) 8 xs u) in (
      rest.0 ∙ ap (λ w. number_of 256 (s * 2 ^ 64 + w) (drop 8 xs)) word.0 ∙ sym (eight_less s xs long),
      (word.1, rest.1),
      ap suc rest.2,
    )

pub words_are : (xs : List ℕ) → length xs ≡ 32 → AllBelowBase 256 xs → words_in 4 xs ≡ digits_of (2 ^ 64) 4 (number_of 256 0 xs)
words_are xs size u =
    let read = words_read 0 4 xs size u in
    sym (digits_of_number (2 ^ 64) 4 (words_in 4 xs) read.2 read.1) ∙ ap (digits_of (2 ^ 64) 4) read.0
