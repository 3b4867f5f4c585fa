use Rattle.std.proofs.Common.{◌≡◌}
use Rattle.player.specs.Players.{playing}
use Rattle.player.specs.Runs.{whole_of}
use Rattle.player.proofs.run.Run.play.Given as goal

-- what is written, with what the lines that are left write, is what all lines write; and the medium keeps the reference that it was lent
abbrev pub invariant-loop-item : goal.invariant-loop-item
invariant-loop-item g l =
    let rows = g.M.Medium.rows in
    let count = g.M.Medium.count in
    let lender = g.M.Medium.lender in
    (whole_of (playing rows count l.player) (record { reader = l.item-iterator; out = l.self.out }) ≡ whole_of (playing rows count l.fn.player) l.fn.self)
    × (lender l.player.terminal.medium ≡ lender l.fn.player.terminal.medium)
