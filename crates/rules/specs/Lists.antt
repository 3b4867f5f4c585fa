-- Lists, options and digits, for the files that follow
use Rattle.std.specs.Prelude.{◌≡◌, ℕ, zero, suc, ◌+◌, ◌*◌, ◌/◌, ◌%◌, Bool, true, false, ◌&&◌, ◌⊎◌, List, [], ◌∷◌, ◌++◌, ◌==◌, Option, None, Some}

-- ---- Something or nothing

-- b where there is nothing, else f of what there is
abbrev pub when_some : {A B : Type 0} → Option A → B → (A → B) → B
when_some None b f = b
when_some (Some a) b f = f a

-- the first that is something
abbrev pub or_else : {A : Type 0} → Option A → Option A → Option A
or_else None b = b
or_else (Some a) b = Some a

-- ---- Lists

-- n numbers that count up from a
abbrev pub from : (a n : ℕ) → List ℕ
from a zero = []
from a (suc n) = a ∷ from (suc a) n

-- these lists one after another
abbrev pub joined : {A : Type 0} → List (List A) → List A
joined [] = []
joined (xs ∷ xss) = xs ++ joined xss

abbrev pub all_true : List Bool → Bool
all_true [] = true
all_true (b ∷ bs) = b && all_true bs

-- whether two lists are the same
abbrev pub same : List ℕ → List ℕ → Bool
same [] [] = true
same [] (y ∷ ys) = false
same (x ∷ xs) [] = false
same (x ∷ xs) (y ∷ ys) = x == y && same xs ys

-- x is one of these
abbrev pub Among : {A : Type 0} → A → List A → Type 0
Among x [] = ⊥
Among x (y ∷ ys) = (x ≡ y) ⊎ Among x ys

-- P holds of each of these
abbrev pub AllOf : {A : Type 0} → (A → Type 0) → List A → Type 0
AllOf P [] = Unit {0}
AllOf P (x ∷ xs) = P x × AllOf P xs

-- P holds of none of these
abbrev pub NoneOf : {A : Type 0} → (A → Type 0) → List A → Type 0
NoneOf P [] = Unit {0}
NoneOf P (x ∷ xs) = (P x → ⊥) × NoneOf P xs

-- ---- Digits, most significant first

-- the number that digits write in a base, behind those that wrote so_far
unfoldable pub number_of : (base so_far : ℕ) → List ℕ → ℕ
number_of base so_far [] = so_far
number_of base so_far (d ∷ ds) = number_of base (so_far * base + d) ds

-- the last n digits of v in a base
unfoldable pub digits_of : (base n v : ℕ) → List ℕ
digits_of base zero v = []
digits_of base (suc n) v = digits_of base n (v / base) ++ (v % base ∷ [])
