-- The statuses that a call may end with.
use Rattle.tdcc_base.specs.declared.status.Status.{Status}
use Rattle.tdcc_base.specs.declared.status.Status.TheVariants as statuses

-- neither a fault nor a lack of memory cut the call short
abbrev pub IsComplete : Status → Type 0
IsComplete statuses.Read = ⊥
IsComplete statuses.Write = ⊥
IsComplete statuses.Memory = ⊥
IsComplete _ = Unit {0}

-- how a command that was not cut short ends
abbrev pub IsCommandEnd : Status → Type 0
IsCommandEnd statuses.Ok = Unit {0}
IsCommandEnd statuses.Program = Unit {0}
IsCommandEnd statuses.Trace = Unit {0}
IsCommandEnd statuses.Fuel = Unit {0}
IsCommandEnd statuses.Net = Unit {0}
IsCommandEnd _ = ⊥

-- what the tool may end with
abbrev pub IsToolStatus : Status → Type 0
IsToolStatus statuses.No = ⊥
IsToolStatus _ = Unit {0}
