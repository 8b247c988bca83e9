-- The numbers of statuses, which are the exit codes of the command. This project's own.
use Rattle.std.specs.Prelude.{ℕ}
use Rattle.tdcc_base.specs.declared.status.Status.{Status}
use Rattle.tdcc_base.specs.declared.status.Status.TheVariants as statuses

-- the number of a status
abbrev pub status_number : Status → ℕ
status_number statuses.Ok = 0
status_number statuses.No = 1
status_number statuses.Usage = 2
status_number statuses.Program = 3
status_number statuses.Trace = 4
status_number statuses.Fuel = 5
status_number statuses.Net = 6
status_number statuses.Read = 7
status_number statuses.Write = 8
status_number statuses.Memory = 9
