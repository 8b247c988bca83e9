-- What it says of a program that no table stratifies it. This project's own.
use Rattle.std.specs.Prelude.{◌≡◌}
use Rattle.agent_core.specs.Programs.{CoreProgram}
use Rattle.agent_core.specs.Strata.{Edge, IsFirstCase, HasNoTable}
use Rattle.strata.specs.declared.fault.StrataFault.{StrataFault}
use Rattle.strata.specs.declared.fault.StrataFault.TheVariants.{NotStratified, Memory}

-- the cells and the else node are those of the first case in which a told cell reaches one that its else asks for
abbrev pub NamesFirstCase : CoreProgram → StrataFault → Type 0
NamesFirstCase p (NotStratified guard told node) = (e : Edge) × IsFirstCase p e × (e.guard.cell ≡ guard) × (e.told ≡ told) × (e.guard.node ≡ node)
NamesFirstCase p Memory = Unit {0}

-- unless memory ran out, no table stratifies the program
abbrev pub SaysNoTable : CoreProgram → StrataFault → Type 0
SaysNoTable p (NotStratified guard told node) = HasNoTable p
SaysNoTable p Memory = Unit {0}

abbrev pub HasNoFirstCase : CoreProgram → Type 0
HasNoFirstCase p = (e : Edge) → IsFirstCase p e → ⊥
