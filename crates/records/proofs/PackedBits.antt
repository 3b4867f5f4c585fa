-- Bits in words of 64 bits
use Rattle.std.proofs.Common.{◌≡◌, ℕ, ◌+◌, ◌-◌, ◌*◌, ◌/◌, ◌%◌, ◌^◌, ◌<◌, ◌≤◌, List, [], ◌∷◌, length, get_or, take, drop, set, sym, ap, ◌∙◌, mul-le-mul_right, arith}
use Rattle.std.proofs.lemmas.Nat.{pow-add, shr_split, shr_below, div-mul-add}
use Rattle.std.proofs.lemmas.Int.Digits.{number_push}
use Rattle.std.proofs.lemmas.List.{drop_more, drop_all, length-drop, take_all, take_more_set}
use Rattle.rules.specs.Lists.{number_of}

-- ---- Words behind a number

-- a number before words is worth its place
pub words_behind : (s : ℕ) (ws : List ℕ) → number_of (2 ^ 64) s ws ≡ s * 2 ^ (64 * length ws) + number_of (2 ^ 64) 0 ws
unfolding number_of
words_behind s [] = omega arith
words_behind s (w ∷ ws) =
    let more : 2 ^ (64 * length (w ∷ ws)) ≡ 2 ^ 64 * 2 ^ (64 * length ws) = ap (λ n. 2 ^ n) (omega arith) ∙ pow-add 2 64 (64 * length ws) in
    omega (arith, ap (λ p. s * p) more, words_behind (s * 2 ^ 64 + w) ws, words_behind (0 * 2 ^ 64 + w) ws)

-- the front of a number is taken off: what stands behind it stays
pub taken_off : (s v t k : ℕ) (ws : List ℕ) → s ≡ v * 2 ^ k + t → number_of (2 ^ 64) s ws ≡ v * 2 ^ (k + 64 * length ws) + number_of (2 ^ 64) t ws
taken_off s v t k ws e =
    let place : 2 ^ (k + 64 * length ws) ≡ 2 ^ k * 2 ^ (64 * length ws) = pow-add 2 k (64 * length ws) in
    omega (arith, words_behind s ws, words_behind t ws, ap (λ n. n * 2 ^ (64 * length ws)) e, ap (λ p. v * p) place)

-- a word that comes in behind h, cut where more of its bits go to the front
pub cut_word : (h word more left : ℕ) → more + left ≡ 64 → h * 2 ^ 64 + word ≡ (h * 2 ^ more + word / 2 ^ left) * 2 ^ left + word % 2 ^ left
cut_word h word more left e =
    let place : 2 ^ 64 ≡ 2 ^ more * 2 ^ left = ap (λ n. 2 ^ n) (sym e) ∙ pow-add 2 more left in
    omega (arith, ap (λ p. h * p) place, shr_split word left)

-- so many bits behind fewer still fit
pub beside_fits : (h low a b : ℕ) → h < 2 ^ a → low < 2 ^ b → h * 2 ^ b + low < 2 ^ (a + b)
beside_fits h low a b p q = omega (arith, pow-add 2 a b, mul-le-mul_right (2 ^ b) p)

-- ---- A field is taken off

-- out of the accumulator alone
pub took_within :
    (words : List ℕ) (next held rest t : ℕ) → length words ≡ 4 → t ≡ held % 2 ^ rest
    → number_of (2 ^ 64) held (drop next words) ≡ held / 2 ^ rest * 2 ^ (rest + 64 * (4 - next)) + number_of (2 ^ 64) t (drop next words)
took_within words next held rest t size e =
    let split : held ≡ held / 2 ^ rest * 2 ^ rest + t = omega (arith, shr_split held rest) in
    taken_off held (held / 2 ^ rest) t rest (drop next words) split
    ∙ ap (λ n. held / 2 ^ rest * 2 ^ (rest + 64 * n) + number_of (2 ^ 64) t (drop next words)) (length-drop next words ∙ ap (λ n. n - next) size)

-- out of the accumulator and the next word
pub took_across :
    (words : List ℕ) (next held more left v t : ℕ) → length words ≡ 4 → next < 4 → more + left ≡ 64
    → v ≡ held * 2 ^ more + get_or words next 0 / 2 ^ left → t ≡ get_or words next 0 % 2 ^ left
    → number_of (2 ^ 64) held (drop next words) ≡ v * 2 ^ (left + 64 * (4 - (next + 1))) + number_of (2 ^ 64) t (drop (next + 1) words)
unfolding number_of
took_across words next held more left v t size inside sum ev et =
    let word : ℕ = get_or words next 0 in
    let split : held * 2 ^ 64 + word ≡ v * 2 ^ left + t = cut_word held word more left sum ∙ ap (λ n. n * 2 ^ left + word % 2 ^ left) (sym ev) ∙ ap (λ n. v * 2 ^ left + n) (sym et) in
    ap (number_of (2 ^ 64) held) (drop_more words next 0 (omega arith))
    ∙ taken_off (held * 2 ^ 64 + word) v t left (drop (next + 1) words) split
    ∙ ap (λ n. v * 2 ^ (left + 64 * n) + number_of (2 ^ 64) t (drop (next + 1) words)) (length-drop (next + 1) words ∙ ap (λ n. n - (next + 1)) size)

-- what comes out of the accumulator alone fits its width
pub within_fits : (held bits width rest : ℕ) → held < 2 ^ bits → width + rest ≡ bits → held / 2 ^ rest < 2 ^ width
within_fits held bits width rest h e = shr_below held width rest (rw e h)

-- ---- A field is put behind others

-- into the accumulator alone
pub put_within : (p held bits width value : ℕ) → p * 2 ^ (bits + width) + (held * 2 ^ width + value) ≡ (p * 2 ^ bits + held) * 2 ^ width + value
put_within p held bits width value = omega (arith, ap (λ n. p * n) (pow-add 2 bits width))

-- into the accumulator, which fills a word, and what is over stays in it
pub put_across :
    (p held bits front over value : ℕ) → bits + front ≡ 64
    → (p * 2 ^ 64 + (held * 2 ^ front + value / 2 ^ over)) * 2 ^ over + value % 2 ^ over ≡ (p * 2 ^ bits + held) * 2 ^ (front + over) + value
put_across p held bits front over value e =
    let word : 2 ^ 64 ≡ 2 ^ bits * 2 ^ front = ap (λ n. 2 ^ n) (sym e) ∙ pow-add 2 bits front in
    omega (arith, ap (λ n. p * n * 2 ^ over) word, ap (λ n. (p * 2 ^ bits + held) * n) (pow-add 2 front over), shr_split value over)

-- one word more is full
pub word_more : (words : List ℕ) (next word : ℕ) → next < length words → number_of (2 ^ 64) 0 (take (next + 1) (set words next word)) ≡ number_of (2 ^ 64) 0 (take next words) * 2 ^ 64 + word
unfolding number_of
word_more words next word inside = ap (number_of (2 ^ 64) 0) (take_more_set words next word inside) ∙ number_push (2 ^ 64) (take next words) word

-- ---- Fields one after another

-- one field more stands before the rest
pub one_more : (n p v w l k r t : ℕ) → k + w ≡ l → n ≡ p * 2 ^ l + r → r ≡ v * 2 ^ k + t → n ≡ (p * 2 ^ w + v) * 2 ^ k + t
one_more n p v w l k r t e so_far next =
    let place : 2 ^ l ≡ 2 ^ w * 2 ^ k = ap (λ i. 2 ^ i) (omega arith) ∙ pow-add 2 w k in
    omega (arith, ap (λ i. p * i) place)

-- with eight bits left, all that stands before them
pub before_check : (n p l r : ℕ) → l ≡ 8 → n ≡ p * 2 ^ l + r → r < 2 ^ 8 → p ≡ n / 256
before_check n p l r e so_far small =
    let here : n ≡ p * 256 + r = so_far ∙ ap (λ i. p * 2 ^ i + r) e in
    sym (ap (λ i. i / 256) here ∙ div-mul-add p 256 r small)

-- eight bits that are left lie in the accumulator
pub eight_left : (words : List ℕ) (next held bits : ℕ) → length words ≡ 4 → held < 2 ^ bits → bits ≤ 64 → next ≤ 4 → bits + 64 * (4 - next) ≡ 8 → number_of (2 ^ 64) held (drop next words) < 2 ^ 8
unfolding number_of
eight_left words next held bits size small few inside count =
    let b8 : bits ≡ 8 = omega arith in
    let none : drop next words ≡ [] = drop_all next words (omega arith) in
    rw (ap (number_of (2 ^ 64) held) none) (rw b8 at small)

-- ---- All bits are written

pub all_written : (words : List ℕ) (next held bits : ℕ) → length words ≡ 4 → held < 2 ^ bits → bits < 64 → next ≤ 4 → 64 * next + bits ≡ 256
    → number_of (2 ^ 64) 0 words ≡ number_of (2 ^ 64) 0 (take next words) * 2 ^ bits + held
all_written words next held bits size small few inside count =
    let b0 : bits ≡ 0 = omega arith in
    let h0 : held < 2 ^ 0 = rw b0 at small in
    let all : take next words ≡ words = take_all next words (omega arith) in
    omega (arith, ap (number_of (2 ^ 64) 0) all, ap (λ b. number_of (2 ^ 64) 0 (take next words) * 2 ^ b) b0)
