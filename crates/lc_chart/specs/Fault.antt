-- How a run of lcmux_chart that meets a fault ends. This is this project's own.
use Rattle.lc_cli.specs.declared.fault.Status.{Status}
use Rattle.lc_cli.specs.declared.fault.Status.TheVariants.{Bad}
use Rattle.lc_cli.specs.Fault.{status_of}
use Rattle.lc_chart.specs.declared.fault.ChartFault.{ChartFault}
use Rattle.lc_chart.specs.declared.fault.ChartFault.TheVariants.{Usage, TooManyEvents, Shared}

-- how a run that meets a fault ends: arguments and scripts that are too long are bad, and a fault that lcmux has too ends as there
abbrev pub chart_status : ChartFault → Status
chart_status Usage = Bad
chart_status TooManyEvents = Bad
chart_status (Shared fault) = status_of fault
