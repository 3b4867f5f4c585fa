-- The record of a weighing that no refusal meets is lawful
use Rattle.std.proofs.Common.{◌≡◌, ℕ, ◌+◌, ◌-◌, ◌^◌, ◌<◌, ◌≤◌, true, false, not, ◌||◌, eqb, ltb, leb, ℤ, pos, negsuc, ◌-ℤ◌, nat_abs, refl, inl, inr, arith}
use lib.Signed.{lt_z}
use Rattle.std.proofs.lemmas.Bool.{and_from, and_parts, or_parts, ltb-false, le-leb, lt-ltb, eq-eqb, ne_eqb, not-false, true≢false, cond-false}
use Rattle.std.proofs.lemmas.Int.{ints}
use Rattle.rules.specs.Lists.{AllOf}
use Rattle.rules.specs.Records.{Record, lawful, lawful_mark, lawful_tare, typed_mark, numbered}
use Rattle.rules.specs.Settings.{Settings, Passed, min_of}
use Rattle.rules.specs.Terminal.{Tare, no_tare, weighed, preset, tare_kind, tare_value, Entries, Indicator, record_from, weigh_refusals, gross}

-- a tare that is set is at least 1 and at most the largest load
abbrev pub TareFits : ℕ → Tare → Type 0
TareFits max no_tare = Unit {0}
TareFits max (weighed v) = (1 ≤ v) × (v ≤ max)
TareFits max (preset v) = (1 ≤ v) × (v ≤ max)

-- a load of 1 to the largest
pub within_bounds : (g : ℤ) (max : ℕ) → (lt_z g (pos 1) || lt_z (pos max) g) ≡ false → (1 ≤ nat_abs g) × (nat_abs g ≤ max)
within_bounds (pos v) max e = let p = or_parts (ltb v 1) (ltb max v) e in (ltb-false v 1 p.0, ltb-false max v p.1)
within_bounds (negsuc v) max e = absurd (true≢false e)

-- a net weight of 1 or more: the tare is below the gross
net_bounds : (v t : ℕ) → lt_z (pos v -ℤ pos t) (pos 1) ≡ false → t < v
net_bounds v t e = grind (arith, ints)

-- such a tare is lawful
tare_lawful : (max : ℕ) (t : Tare) → TareFits max t → (tare_value t ≤ max) × (lawful_tare (tare_kind t) (tare_value t) ≡ true)
tare_lawful max no_tare fits = (omega arith, refl)
tare_lawful max (weighed v) fits = (fits.1, cond-false (eqb v 0) false true (ne_eqb v 0 (omega arith)))
tare_lawful max (preset v) fits = (fits.1, cond-false (eqb v 0) false true (ne_eqb v 0 (omega arith)))

-- the largest load of all settings
passed_max : (s : Settings) → Passed s → s.max ≤ 10000
passed_max s p = elim p.class [ inl three ↦ three.1.high | inr four ↦ omega (arith, four.1.high) ]

-- what each refusal's failing gives
lawful_from :
    (s : Settings) (g : ℤ) (t : Tare) (e : Entries) → Passed s → TareFits s.max t → e.day < 2 ^ 16
    → ltb 1439 e.minute ≡ false → not (lawful_mark (typed_mark e.mark)) ≡ false → ltb 1000000 e.unit_price ≡ false
    → lt_z g (pos (min_of s)) ≡ false → lt_z (pos (s.max + 9)) g ≡ false → lt_z (g -ℤ pos (tare_value t)) (pos 1) ≡ false
    → (n : ℕ) → 1 ≤ n → n < 2 ^ 32 → lawful (numbered n (record_from s g t e)) ≡ true
unfolding lawful
lawful_from s (negsuc g) t e passed fits day minute mark price low high net n from to = absurd (true≢false low)
lawful_from s (pos g) t e passed fits day minute mark price low high net n from to =
    let tare_ok = tare_lawful s.max t fits in
    let high' : g ≤ s.max + 9 = ltb-false (s.max + 9) g high in
    let net' : tare_value t < g = net_bounds g (tare_value t) net in
    let most : s.max ≤ 10000 = passed_max s passed in
    and_from _ _ (le-leb 1 n from) (and_from _ _ (lt-ltb n (2 ^ 32) to) (and_from _ _ (lt-ltb e.day (2 ^ 16) day) (and_from _ _ (le-leb e.minute 1439 (ltb-false 1439 e.minute minute))
    (and_from _ _ (le-leb s.interval 5 passed.interval) (and_from _ _ (le-leb g 10009 (omega arith)) (and_from _ _ (le-leb (tare_value t) 10000 (omega arith)) (and_from _ _ tare_ok.1
    (and_from _ _ (le-leb 1 (g - tare_value t) (omega arith)) (and_from _ _ (eq-eqb (g - tare_value t + tare_value t) g (omega arith))
    (and_from _ _ (le-leb e.unit_price 1000000 (ltb-false 1000000 e.unit_price price)) (and_from _ _ (eq-eqb _ _ refl)
    (and_from _ _ (not-false (lawful_mark (typed_mark e.mark)) mark) refl))))))))))))

-- the record is lawful, whatever number it is given
pub weighed_lawful :
    (i : Indicator) (e : Entries) → Passed i.settings → TareFits i.settings.max i.tare → e.day < 2 ^ 16 → AllOf (λ x. x.holds ≡ false) (weigh_refusals i e)
    → (n : ℕ) → 1 ≤ n → n < 2 ^ 32 → lawful (numbered n (record_from i.settings (gross i) i.tare e)) ≡ true
weighed_lawful i e passed fits day (minute, (mark, (price, (pending, (waiting, (settled, (low, (high, (net, none))))))))) =
    lawful_from i.settings (gross i) i.tare e passed fits day minute mark price low high net

-- a record that is lawful under one number is lawful under any other
pub renumbered_lawful : (r : Record) (k n : ℕ) → lawful (numbered k r) ≡ true → 1 ≤ n → n < 2 ^ 32 → lawful (numbered n r) ≡ true
unfolding lawful
renumbered_lawful r k n e from to =
    and_from _ _ (le-leb 1 n from) (and_from _ _ (lt-ltb n (2 ^ 32) to) (and_parts (ltb k (2 ^ 32)) _ (and_parts (leb 1 k) _ e).1).1)
