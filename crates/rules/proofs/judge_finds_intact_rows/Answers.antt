use Rattle.rules.proofs.Judging.{judge_finds_intact}
use Rattle.rules.proofs.judge_finds_intact_rows.Goals as goal

pub returns : goal.returns
returns c = judge_finds_intact
