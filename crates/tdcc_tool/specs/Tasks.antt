-- What each command does with which bytes. This project's own.
use Rattle.std.specs.Prelude.{ℕ, ◌≤◌, List}
use Rattle.command_words.specs.declared.command.Command.{Command}
use Rattle.command_words.specs.declared.command.Command.TheVariants as commands
use Rattle.command_words.specs.declared.settings.Limits.{Limits}
use Rattle.command_words.specs.Limits.{default_fuel, default_net, greatest_net}
use Rattle.trace_text.specs.Generated.{input_bytes}
use Rattle.tdcc_tool.specs.declared.task.Task.{Task}
use Rattle.tdcc_tool.specs.declared.task.Task.TheVariants as tasks
use Rattle.tdcc_tool.specs.declared.output.OutputMode.TheVariants.{Stores, Reports, Summary}

-- the limits of a generated run: the default ones
abbrev pub default_limits : Limits
default_limits = record { fuel = default_fuel; net = default_net }

abbrev pub task_of : Command → Task
task_of (commands.Run limits) = tasks.Run Stores limits
task_of (commands.Report limits) = tasks.Run Reports limits
task_of commands.Check = tasks.Check
task_of commands.Core = tasks.Core
task_of (commands.Generate n) = tasks.Run Summary default_limits

-- a generated run reads a generated program and trace, with the mark between them, and all others the bytes of the source
abbrev pub input_of : Command → List ℕ → List ℕ
input_of (commands.Generate n) bytes = input_bytes n
input_of _ bytes = bytes

-- the command generates its input
abbrev pub IsGenerated : Command → Type 0
IsGenerated (commands.Generate n) = Unit {0}
IsGenerated _ = ⊥

-- the command reads its trace from the source
abbrev pub ReadsTrace : Command → Type 0
ReadsTrace (commands.Run limits) = Unit {0}
ReadsTrace (commands.Report limits) = Unit {0}
ReadsTrace _ = ⊥

-- a run may have 65,536 leaves in an instant at most
abbrev pub HasNetLimit : Task → Type 0
HasNetLimit (tasks.Run mode limits) = limits.net ≤ greatest_net
HasNetLimit _ = Unit {0}

-- the task is to run the program
abbrev pub RunsProgram : Task → Type 0
RunsProgram (tasks.Run mode limits) = Unit {0}
RunsProgram _ = ⊥
