-- The codes of a mark, looked at one by one
use Rattle.std.proofs.Common.{◌≡◌, ℕ, zero, suc, ◌+◌, ◌-◌, ◌*◌, ◌^◌, ◌<◌, ◌≤◌, Bool, true, false, cond, ◌&&◌, eqb, ltb, leb, List, [], ◌∷◌, ◌++◌, map, length, get_or, take, drop, set, replicate, sym, refl, ap, ◌∙◌, arith}
use Rattle.std.specs.Int.Digits.{AllBelowBase}
use Rattle.std.specs.List.{AllByRecursion as All}
use Rattle.std.proofs.lemmas.Int.Digits.{number_after_ge, number_after_append, number_lt, number_more}
use Rattle.std.proofs.ByRecursion.{All-get_or, All-weaker}
use Rattle.std.proofs.lemmas.List.{append-nil, drop-replicate, drop_more, drop_all, map-append, take_all, take-append-drop, length-append, length-map, length-replicate, length-take-le}
use Rattle.std.proofs.lemmas.List.Edits.{map_over_more}
use Rattle.std.proofs.lemmas.Grind.{get_or_default_zero}
use Rattle.std.proofs.Math.Seq.{get_or-append_seam}
use Rattle.std.proofs.lemmas.Bool.{and_parts, eq-eqb, ne_eqb, eqb-true, eqb-false, lt-ltb, ltb-false, leb-true}
use Rattle.std.specs.Prelude.{◌==◌, nat_le, nat_lt, position, unwrap_or, Some, None}
use Rattle.std.specs.List.{list_all, position_or_len}
use Rattle.std.proofs.Math.Bool.{and_assoc, not}
use Rattle.std.proofs.lemmas.List.Sums.{prefix_len-le-length}
use Rattle.rules.specs.Lists.{number_of}
use Rattle.rules.specs.Records.{spaces_last, lawful_mark, code_of, typed_mark}

-- codes write the number 0 where each is a space
zero_number : (cs : List ℕ) → eqb (number_of 64 0 cs) 0 ≡ list_all (λ c. c == 0) cs
unfolding number_of
zero_number [] = refl
zero_number (c ∷ cs) = by_test (eqb c 0) refl (zero_number cs)
  where
    by_test : (b : Bool) → eqb c 0 ≡ b → eqb (number_of 64 0 cs) 0 ≡ list_all (λ d. d == 0) cs → eqb (number_of 64 (0 * 64 + c) cs) 0 ≡ (b && list_all (λ d. d == 0) cs)
    by_test true e rest = ap (λ d. eqb (number_of 64 (0 * 64 + d) cs) 0) (eqb-true c 0 e) ∙ rest
    by_test false e rest =
        let some : c ≡ 0 → ⊥ = eqb-false c 0 e in
        ne_eqb (number_of 64 (0 * 64 + c) cs) 0 (λ z. some (omega (arith, number_after_ge 64 (0 * 64 + c) cs (omega arith))))

-- what stands before the first space, and what stands from it on
abbrev pub parts_at : ℕ → List ℕ → Bool
parts_at n cs = list_all (λ c. nat_le c 36) (take n cs) && list_all (λ c. c == 0) (drop n cs)

spaces_split : (cs : List ℕ) → spaces_last cs ≡ parts_at (position_or_len (λ c. c == 0) cs) cs
unfolding spaces_last
spaces_split [] = refl
spaces_split (c ∷ cs) = by_test (eqb c 0) refl (spaces_split cs)
  where
    by_test :
        (b : Bool) → eqb c 0 ≡ b → spaces_last cs ≡ parts_at (position_or_len (λ d. d == 0) cs) cs
        → cond b (number_of 64 0 cs == 0) (nat_le c 36 && spaces_last cs) ≡ parts_at (cond (not b) (1 + position_or_len (λ d. d == 0) cs) 0) (c ∷ cs)
    by_test true e rest = zero_number cs ∙ sym (ap (λ b. b && list_all (λ d. d == 0) cs) e)
    by_test false e rest =
        let n : ℕ = position_or_len (λ d. d == 0) cs in
        let more : suc n ≡ 1 + n = omega arith in
        ap (λ b. nat_le c 36 && b) rest ∙ sym (and_assoc (nat_le c 36) (list_all (λ d. nat_le d 36) (take n cs)) (list_all (λ d. d == 0) (drop n cs)))
        ∙ ap (λ k. parts_at k (c ∷ cs)) more

-- the first code is no space where the first space stands later
first_not_space : (m : List ℕ) → 0 < length m → nat_lt 0 (get_or m 0 0) ≡ nat_lt 0 (position_or_len (λ c. c == 0) m)
first_not_space [] h = absurd (omega arith)
first_not_space (c ∷ cs) h = by_test (eqb c 0) refl
  where
    by_test : (b : Bool) → eqb c 0 ≡ b → nat_lt 0 c ≡ nat_lt 0 (cond (not b) (1 + position_or_len (λ d. d == 0) cs) 0)
    by_test true e = ap (nat_lt 0) (eqb-true c 0 e)
    by_test false e =
        let some : c ≡ 0 → ⊥ = eqb-false c 0 e in
        lt-ltb 0 c (omega arith) ∙ sym (lt-ltb 0 (1 + position_or_len (λ d. d == 0) cs) (omega arith))

-- a mark is some characters, and spaces from the first space on
pub mark_by : (m : List ℕ) (len : ℕ) → length m ≡ 8 → len ≡ unwrap_or (position (λ c. c == 0) m) 8 → lawful_mark m ≡ (nat_lt 0 len && parts_at len m)
unfolding lawful_mark
mark_by m len size e =
    rw (eq-eqb (length m) 8 size) (ap (λ b. b && spaces_last m) (first_not_space m (omega arith)) ∙ ap (λ b. nat_lt 0 n && b) (spaces_split m)
    ∙ ap (λ k. nat_lt 0 k && parts_at k m) (sym (e ∙ by_test (nat_lt n (length m)) refl)))
  where
    n : ℕ
    n = position_or_len (λ c. c == 0) m

    by_test : (b : Bool) → nat_lt n (length m) ≡ b → unwrap_or (cond b (Some n) None) 8 ≡ n
    by_test true t = refl
    by_test false t = omega (arith, ltb-false n (length m) t, prefix_len-le-length (λ c. not (c == 0)) m)

-- ---- The codes of a lawful mark

zeros_known : (s : ℕ) (cs : List ℕ) → number_of 64 s cs ≡ 0 → All (λ c. c ≤ 36) cs
unfolding number_of
zeros_known s [] e = tt
zeros_known s (c ∷ cs) e = (omega (arith, number_after_ge 64 (s * 64 + c) cs (omega arith)), zeros_known (s * 64 + c) cs e)

all_known : (cs : List ℕ) → spaces_last cs ≡ true → All (λ c. c ≤ 36) cs
unfolding spaces_last
all_known [] ok = tt
all_known (c ∷ cs) ok = by_test (eqb c 0) refl ok (all_known cs)
  where
    by_test :
        (space : Bool) → eqb c 0 ≡ space → cond space (eqb (number_of 64 0 cs) 0) (leb c 36 && spaces_last cs) ≡ true
        → (spaces_last cs ≡ true → All (λ d. d ≤ 36) cs) → All (λ d. d ≤ 36) (c ∷ cs)
    by_test true e ok rest = (omega (arith, eqb-true c 0 e), zeros_known 0 cs (eqb-true (number_of 64 0 cs) 0 ok))
    by_test false e ok rest = let both = and_parts (leb c 36) (spaces_last cs) ok in (leb-true c 36 both.0, rest both.1)

pub codes_known : (m : List ℕ) → lawful_mark m ≡ true → (length m ≡ 8) × All (λ c. c ≤ 36) m
unfolding lawful_mark
codes_known m ok =
    let both = and_parts (eqb (length m) 8) (ltb 0 (get_or m 0 0) && spaces_last m) ok in
    (eqb-true (length m) 8 both.0, all_known m (and_parts (ltb 0 (get_or m 0 0)) (spaces_last m) both.1).1)

codes_under : (m : List ℕ) → lawful_mark m ≡ true → AllBelowBase 64 m
codes_under m ok = All-weaker (λ c. c ≤ 36) (λ c. c < 64) (λ c h. omega arith) m (codes_known m ok).1

-- a mark is a number of 48 bits
pub mark_below : (m : List ℕ) → lawful_mark m ≡ true → number_of 64 0 m < 2 ^ 48
unfolding number_of
mark_below m ok = rw (codes_known m ok).0 at (number_lt 64 m (codes_under m ok))

-- one code more of it
pub code_more : (m : List ℕ) (i v : ℕ) → lawful_mark m ≡ true → i < 8 → v ≡ number_of 64 0 (take i m)
    → (v * 2 ^ 6 + get_or m i 0 ≡ number_of 64 0 (take (i + 1) m)) × (v * 2 ^ 6 + get_or m i 0 < 2 ^ 48) × (get_or m i 0 < 2 ^ 6)
unfolding number_of
code_more m i v ok inside e =
    let known = codes_known m ok in
    let under = codes_under m ok in
    let whole = mark_below m ok in
    let more : number_of 64 0 (take (i + 1) m) ≡ number_of 64 0 (take i m) * 64 + get_or m i 0 = number_more 64 m i (omega (arith, known.0)) in
    let part : number_of 64 0 m ≡ number_of 64 (number_of 64 0 (take (i + 1) m)) (drop (i + 1) m) =
    ap (number_of 64 0) (sym (take-append-drop (i + 1) m)) ∙ number_after_append 64 0 (take (i + 1) m) (drop (i + 1) m) in
    let least : number_of 64 0 (take (i + 1) m) ≤ number_of 64 (number_of 64 0 (take (i + 1) m)) (drop (i + 1) m) = number_after_ge 64 (number_of 64 0 (take (i + 1) m)) (drop (i + 1) m) (omega arith) in
    let here : get_or m i 0 < 64 = All-get_or (λ c. c < 64) m i 0 (omega (arith, known.0)) under in
    (omega arith, omega arith, omega arith)

-- ---- Elements that are changed one after another

module _ (f : ℕ → ℕ) (xs ys : List ℕ) (i : ℕ) (so_far : ys ≡ map f (take i xs) ++ drop i xs) where
  -- those from place i on are as they were
  pub unchanged : i < length xs → get_or ys i 0 ≡ get_or xs i 0
  unchanged inside =
      let front : List ℕ = map f (take i xs) in
      let size : length front ≡ i = length-map (take i xs) f ∙ length-take-le i xs (omega arith) in
      ap (λ l. get_or l i 0) (so_far ∙ ap (λ l. front ++ l) (drop_more xs i 0 inside))
      ∙ ap (λ n. get_or (front ++ (get_or xs i 0 ∷ drop (i + 1) xs)) n 0) (sym size) ∙ get_or-append_seam front (get_or xs i 0) (drop (i + 1) xs) 0

  -- the one at place i is changed
  pub one_changed : (v : ℕ) → i < length xs → i < length ys → v ≡ f (get_or ys i 0) → set ys i v ≡ map f (take (i + 1) xs) ++ drop (i + 1) xs
  one_changed v inside within is =
      let x : ℕ = get_or ys i 0 in
      ap (set ys i) is ∙ map_over_more f xs ys i x inside so_far (sym (get_or_default_zero ys i x within))

  pub all_changed : length xs ≤ i → ys ≡ map f xs
  all_changed past =
      so_far ∙ ap (λ l. map f l ++ drop i xs) (take_all i xs past) ∙ ap (λ l. map f xs ++ l) (drop_all i xs past) ∙ append-nil (map f xs)

-- ---- A mark as it was typed

-- a code that is too large is no mark's
pub no_mark : (m : List ℕ) (i : ℕ) → i < length m → 36 < get_or m i 0 → lawful_mark m ≡ false
no_mark m i inside large = by_test (lawful_mark m) refl
  where
    by_test : (b : Bool) → lawful_mark m ≡ b → lawful_mark m ≡ false
    by_test true ok = absurd (omega (arith, large, All-get_or (λ c. c ≤ 36) m i 0 inside (codes_known m ok).1))
    by_test false e = e

-- the characters, filled up with spaces, have the codes of the mark
pub filled_up :
    (bytes padded : List ℕ) → length bytes ≤ 8 → padded ≡ bytes ++ drop (length bytes) (replicate 8 32) → (map code_of padded ≡ typed_mark bytes) × (length padded ≡ 8)
unfolding typed_mark
filled_up bytes padded few e =
    let k : ℕ = 8 - length bytes in
    let is : padded ≡ bytes ++ replicate k 32 = e ∙ ap (λ l. bytes ++ l) (drop-replicate (length bytes) 8 32) in (
      ap (map code_of) is ∙ map-append code_of bytes (replicate k 32) ∙ ap (λ l. map code_of bytes ++ l) (spaces k),
      ap length is ∙ length-append bytes (replicate k 32) ∙ omega (arith, length-replicate {A = ℕ} k 32),
    )
  where
    spaces : (n : ℕ) → map code_of (replicate n 32) ≡ replicate n 0
    spaces zero = refl
    spaces (suc n) = ap (λ l. 0 ∷ l) (spaces n)

-- more than eight characters are no mark
pub long_is_no_mark : (bytes : List ℕ) → 8 < length bytes → lawful_mark (typed_mark bytes) ≡ false
unfolding lawful_mark typed_mark
long_is_no_mark bytes long =
    let none : 8 - length bytes ≡ 0 = omega arith in
    let size : length (map code_of bytes ++ replicate (8 - length bytes) 0) ≡ length bytes =
    length-append (map code_of bytes) (replicate (8 - length bytes) 0) ∙ omega (arith, length-map bytes code_of, length-replicate {A = ℕ} (8 - length bytes) 0) in
    rw (ne_eqb (length (map code_of bytes ++ replicate (8 - length bytes) 0)) 8 (λ z. absurd (omega arith)))
