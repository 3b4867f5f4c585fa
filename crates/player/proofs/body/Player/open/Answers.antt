use Rattle.std.proofs.Common.{sym, ap}
use Rattle.rules.specs.Replay.{running}
use Rattle.loads.specs.SettingsOf.{settings_of}
use Rattle.player.proofs.body.Player.open.Goals as goal

pub returns-clause-opens : goal.returns-clause-opens
returns-clause-opens g c = λ on. sym (ap (λ p. running (settings_of c.args.settings) p.1) (c.open.ensures.opens on))
