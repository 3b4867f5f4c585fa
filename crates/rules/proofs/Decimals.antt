-- Decimal digits that are read one after another
use Rattle.std.proofs.Common.{◌≡◌, ℕ, zero, suc, ◌+◌, ◌-◌, ◌*◌, ◌^◌, ◌<◌, ◌≤◌, Bool, true, false, ◌&&◌, leb, ◌⊎◌, List, [], ◌∷◌, map, length, get_or, take, drop, sym, refl, ap, ◌∙◌, inl, inr, pow-suc, arith}
use native.Mathlib.Nat.{pow-le-pow_right}
use Rattle.std.proofs.lemmas.Int.Digits.{number_push}
use Rattle.std.proofs.lemmas.List.{drop_more, map_more, take_all}
use Rattle.std.proofs.lemmas.Bool.{le-leb, lt-leb, leb-true, and_parts, cases_lt}
use Rattle.std.specs.Char.{IsDigitOf, NotDecimalDigitIn}
use Rattle.rules.specs.Lists.{number_of}
use Rattle.rules.specs.Terminal.{all_digits, written}

-- one digit more
pub digit_more : (text : List ℕ) (i v : ℕ) → i < length text → v ≡ written (take i text) → v * 10 + (get_or text i 0 - 48) ≡ written (take (i + 1) text)
unfolding number_of
digit_more text i v inside e =
    ap (λ n. n * 10 + (get_or text i 0 - 48)) e ∙ sym (ap (number_of 10 0) (map_more (λ c. c - 48) text i 0 inside) ∙ number_push 10 (map (λ c. c - 48) (take i text)) (get_or text i 0 - 48))

pub digit_room : (i v d : ℕ) → d < 10 → v < 10 ^ i → v * 10 + d < 10 ^ (i + 1)
digit_room i v d h l = let s : i + 1 ≡ suc i = omega arith in omega (arith, ap (λ n. 10 ^ n) s, pow-suc 10 i)

-- a number of few digits is small
pub few_digits : (i most : ℕ) → i ≤ most → 10 ^ i ≤ 10 ^ most
few_digits i most h = pow-le-pow_right (omega arith) h

module _ (text : List ℕ) (i : ℕ) (inside : i < length text) where
  front : all_digits (drop i text) ≡ ((leb 48 (get_or text i 0) && leb (get_or text i 0) 57) && all_digits (drop (i + 1) text))
  front = ap all_digits (drop_more text i 0 inside)

  pub digit_here : 48 ≤ get_or text i 0 → get_or text i 0 ≤ 57 → all_digits (drop i text) ≡ all_digits (drop (i + 1) text)
  digit_here low high = front ∙ rw (le-leb 48 (get_or text i 0) low, le-leb (get_or text i 0) 57 high)

  pub none_here : (get_or text i 0 < 48) ⊎ (57 < get_or text i 0) → all_digits (drop i text) ≡ false
  none_here (inl low) = front ∙ rw (lt-leb 48 (get_or text i 0) low)
  none_here (inr high) = front ∙ ap (λ b. (leb 48 (get_or text i 0) && b) && all_digits (drop (i + 1) text)) (lt-leb (get_or text i 0) 57 high) ∙ never (leb 48 (get_or text i 0))
    where
      never : (b : Bool) → ((b && false) && all_digits (drop (i + 1) text)) ≡ false
      never true = refl
      never false = refl

-- what a byte is that is a digit, and what it is else
pub digit_told : (c d : ℕ) → d < 10 → IsDigitOf c d → (48 ≤ c) × (c ≤ 57) × (d ≡ c - 48)
digit_told c d small (inl h) = (omega arith, omega arith, omega arith)
digit_told c d small (inr (inl h)) = absurd (omega arith)
digit_told c d small (inr (inr h)) = absurd (omega arith)

pub no_digit_told : (c : ℕ) → NotDecimalDigitIn 10 c → (c < 48) ⊎ (57 < c)
no_digit_told c h = elim (cases_lt c 48) [ inl low ↦ inl low | inr low ↦ elim (cases_lt 57 c) [ inl high ↦ inr high | inr high ↦ absurd (omega (arith, h low high)) ] ]

-- ---- What digits write is small

pub digit_at : (text : List ℕ) (i : ℕ) → i < length text → all_digits text ≡ true → get_or text i 0 - 48 < 10
digit_at [] i h e = absurd (omega arith)
digit_at (c ∷ cs) zero h e = let both = and_parts (leb 48 c && leb c 57) (all_digits cs) e in omega (arith, leb-true c 57 (and_parts (leb 48 c) (leb c 57) both.0).1)
digit_at (c ∷ cs) (suc i) h e = digit_at cs i (omega (arith, h)) (and_parts (leb 48 c && leb c 57) (all_digits cs) e).1

first_digits_small : (text : List ℕ) → all_digits text ≡ true → (i : ℕ) → i ≤ length text → written (take i text) < 10 ^ i
unfolding number_of
first_digits_small text e zero h = omega arith
first_digits_small text e (suc i) h =
    let before = first_digits_small text e i (omega (arith, h)) in
    let next : i + 1 ≡ suc i = omega arith in
    omega (
      arith,
      digit_more text i (written (take i text)) (omega (arith, h)) refl,
      digit_room i (written (take i text)) (get_or text i 0 - 48) (digit_at text i (omega (arith, h)) e) before,
      ap (λ n. written (take n text)) next,
      ap (λ n. 10 ^ n) next,
    )

pub digits_small : (text : List ℕ) (most : ℕ) → length text ≤ most → all_digits text ≡ true → written text < 10 ^ most
digits_small text most h e =
    omega (arith, ap written (take_all (length text) text (omega arith)), first_digits_small text e (length text) (omega arith), few_digits (length text) most h)
