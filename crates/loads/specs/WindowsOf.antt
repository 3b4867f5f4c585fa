-- The samples of a window, in tenths
use Rattle.std.specs.Prelude.{List, take, ℤ}
use Rattle.loads.specs.declared.tenths.Tenths.{Tenths}
use Rattle.loads.specs.declared.window.Window.{Window}

abbrev pub tenths_of : Tenths → ℤ
tenths_of t = t.0

-- oldest first
abbrev pub window_of : Window → List ℤ
window_of w = take w.len w.samples
