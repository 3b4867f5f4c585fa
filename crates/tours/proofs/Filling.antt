-- A store a day: what one more day does to what is left to fill
use Rattle.std.proofs.Common.{◌≡◌, ℕ, suc, min, ◌+◌, ◌-◌, ◌<◌, cond, sym, ap, ◌∙◌, arith}
use Rattle.rules.specs.Memory.{Rows}
use Rattle.rules.specs.Media.{Outcome, accepted, refused}
use Rattle.tours.specs.Fills.{Store, is_accepted, fills_for, fills}

module _ (store : Store) (end : ℕ) where
  -- the days from the first up to the end are all that a fill stores
  all_days : (rows : Rows) (writes first : ℕ) → end ≡ min (first + 100) 65535 → fills store rows writes first ≡ fills_for (end - first) store rows writes first
  all_days rows writes first e = let days : min 100 (65535 - first) ≡ end - first = omega (arith, e) in ap (λ n. fills_for n store rows writes first) days

  module _ (rows : Rows) (writes day : ℕ) where
    -- what comes of the days that are left, once this one is tried
    abbrev tried : Outcome × Rows × ℕ → ℕ × (Rows × ℕ)
    tried after = cond (is_accepted after.0) (fills_for (end - (day + 1)) store after.1 after.2 (day + 1)) (day, (after.1, after.2))

    tries : day < end → fills_for (end - day) store rows writes day ≡ tried (store rows writes day)
    tries within = let left : end - day ≡ suc (end - (day + 1)) = omega (arith, within) in ap (λ n. fills_for n store rows writes day) left

    -- the days from the first up to this one are stored
    module _ (before : Rows) (at_first first : ℕ) (so_far : fills_for (end - day) store rows writes day ≡ fills_for (end - first) store before at_first first)
        (within : day < end) (next : Rows) (count : ℕ) where
      -- and so is this one
      pub goes_on : store rows writes day ≡ (accepted, next, count) → fills_for (end - (day + 1)) store next count (day + 1) ≡ fills_for (end - first) store before at_first first
      goes_on e = sym (tries within ∙ ap tried e) ∙ so_far

      -- this one is refused
      pub stops : (number place : ℕ) → end ≡ min (first + 100) 65535 → store rows writes day ≡ (refused number place, next, count)
          → (fills store before at_first first).1 ≡ (next, count)
      stops number place all e = ap (λ p. p.1) (all_days before at_first first all ∙ sym so_far ∙ tries within ∙ ap tried e)
