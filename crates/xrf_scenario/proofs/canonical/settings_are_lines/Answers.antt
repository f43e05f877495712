use Rattle.xrf_scenario.proofs.SettingsKept.{settings_are_lines}
use Rattle.xrf_scenario.proofs.canonical.settings_are_lines.Goals as goal

pub returns : goal.returns
returns c = settings_are_lines
