use Rattle.std.proofs.Common.{◌≡◌, IfOk, ap, ◌∙◌, subst, None}
use Rattle.rules.specs.Terminal.{opening, acts}
use Rattle.rules.specs.Replay.{running}
use Rattle.loads.specs.SettingsOf.{settings_of}
use Rattle.player.specs.Players.{playing, opened}
use Rattle.player.specs.Runs.{whole_of}
use Rattle.player.proofs.Blanks.{blank_world}
use Rattle.player.proofs.run.Run.play_over.Goals as goal

pub returns : goal.returns
returns g c =
    let s = settings_of c.args.settings in
    let begun : playing g.M.Medium.rows g.M.Medium.count c.open.result ≡ opened c.args.settings =
    c.open.ensures.opens None ∙ ap (λ w. running s (acts (opening s) w).1) (blank_world _ _ c.requires.0 c.requires.1) in
    subst (λ r. IfOk c.play.result (λ v. v.items ≡ whole_of r c.args.self)) begun c.play.ensures.writes
