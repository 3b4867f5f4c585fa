-- A line that is written part by part
use Rattle.std.proofs.Common.{◌≡◌, ℕ, List, [], ◌∷◌, ◌++◌, ◌∙◌}
use Rattle.std.proofs.lemmas.List.{append_assoc}
use Rattle.rules.specs.Tickets.{parted}

-- eleven parts, one after the other
pub eleven :
    {w0 w1 w2 w3 w4 w5 w6 w7 w8 w9 w10 w11 : List ℕ} → (c1 c2 c3 c4 c5 c6 c7 c8 c9 c10 c11 : List ℕ) → w0 ≡ [] → w1 ≡ w0 ++ (c1 ++ (32 ∷ [])) → w2 ≡ w1 ++ (c2 ++ (32 ∷ []))
    → w3 ≡ w2 ++ (c3 ++ (32 ∷ [])) → w4 ≡ w3 ++ (c4 ++ (32 ∷ [])) → w5 ≡ w4 ++ (c5 ++ (32 ∷ [])) → w6 ≡ w5 ++ (c6 ++ (32 ∷ [])) → w7 ≡ w6 ++ (c7 ++ (32 ∷ []))
    → w8 ≡ w7 ++ (c8 ++ (32 ∷ [])) → w9 ≡ w8 ++ (c9 ++ (32 ∷ [])) → w10 ≡ w9 ++ (c10 ++ (32 ∷ [])) → w11 ≡ w10 ++ (c11 ++ (10 ∷ []))
    → w11 ≡ parted (c1 ∷ c2 ∷ c3 ∷ c4 ∷ c5 ∷ c6 ∷ c7 ∷ c8 ∷ c9 ∷ c10 ∷ c11 ∷ [])
unfolding parted
eleven c1 c2 c3 c4 c5 c6 c7 c8 c9 c10 c11 e0 e1 e2 e3 e4 e5 e6 e7 e8 e9 e10 e11 =
    e11 ∙ simp (e10, e9, e8, e7, e6, e5, e4, e3, e2, e1, e0, append_assoc)
