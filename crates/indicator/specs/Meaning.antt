-- What an indicator means in the rules
use Rattle.rules.specs.Terminal.{Indicator as TheIndicator}
use Rattle.loads.specs.SettingsOf.{settings_of}
use Rattle.loads.specs.WindowsOf.{window_of}
use Rattle.records.specs.RecordsOf.{tare_of}
use Rattle.indicator.specs.declared.body.Indicator.TheInside.{Inside}
use Rattle.indicator.specs.StatesOf.{state_of}

abbrev pub meaning : Inside → TheIndicator
meaning i = record {
  settings = settings_of i.settings;
  zero_at = i.zero.0;
  tare = tare_of i.tare;
  window = window_of i.window;
  state = state_of i.state;
}
