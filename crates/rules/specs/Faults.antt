-- The layer to which a fault belongs, by its number
use Rattle.std.specs.Prelude.{ℕ, cond, ◌&&◌, ◌==◌, nat_le}
use Rattle.rules.specs.declared.layer.Layer.{Layer}
use Rattle.rules.specs.declared.layer.Layer.TheVariants.{Medium, Cell, Indicator, Store, Trace}

-- 1 to 3 are the medium's, 7 the cell's, 20 to 31 the store's, 32 the trace's, all others the indicator's
abbrev pub layer_of : (number : ℕ) → Layer
layer_of n =
    cond (nat_le 1 n && nat_le n 3) Medium
    (cond (n == 7) Cell (cond (nat_le 20 n && nat_le n 31) Store (cond (n == 32) Trace Indicator)))
