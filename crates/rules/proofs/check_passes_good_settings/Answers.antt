use Rattle.rules.proofs.SettingLaws.{passes, is_passed}
use Rattle.rules.proofs.check_passes_good_settings.Goals as goal

pub returns : goal.returns
returns c = λ class kg max s. (passes class kg max s, is_passed class kg max s)
