use Rattle.std.proofs.Common.{ap, ◌∙◌}
use Rattle.rules.specs.Replay.{refusal_line}
use Rattle.player.proofs.Digits.{refusal_digits}
use Rattle.player.proofs.reply.Reply.refusal.Goals as goal

pub returns : goal.returns
returns c =
    refusal_digits c.from.result c.args.line _ _ c.decimal.ensures c.decimal-2.ensures ∙ ap (λ n. refusal_line n c.args.line) c.from.ensures
