-- What one line of a trace does to the state of a run.
use Rattle.std.specs.Prelude.{◌≡◌, ◌≢◌, ℕ, ◌<◌, ◌≤◌, List, [], ◌∷◌, ◌++◌, length}
use Rattle.token_system.specs.Stores.{StoreMap}
use Rattle.agent_core.specs.Closures.{roots}
use Rattle.agent_core.specs.Leaves.{leaves}
use Rattle.agent_core.specs.Limits.{most_instants}
use Rattle.tdcc_base.specs.Limits.{longest_line}
use Rattle.instant_net.specs.Nets.{Flat}
use Rattle.instant_net.specs.Opened.{IsNetOf}
use Rattle.residuals.specs.RootLists.{listed_roots}
use Rattle.run_book.specs.Books.{BookView, KeepsRun, HasClosedInstant}
use Rattle.trace_text.specs.declared.fault.LineFault.TheVariants.{Memory}
use Rattle.trace_text.specs.Inputs.{GivesInput}
use Rattle.tdcc_tool.specs.declared.run_state.RunState.{RunState}
use Rattle.tdcc_tool.specs.declared.run_end.RunEnd.{RunEnd}
use Rattle.tdcc_tool.specs.declared.run_end.RunEnd.TheVariants as ends
use Rattle.tdcc_tool.specs.Answers.{KeepsLimits}
use Rattle.tdcc_tool.specs.RunEnds.{EndsAt}
use Rattle.tdcc_tool.specs.RunTexts.{spent, instant_lines}

-- how many leaves the instant has that the book is at
abbrev pub count_now : BookView → ℕ
count_now b = length (leaves b.program (listed_roots b.roots) (length b.ins))

-- the net is that of the instant after these outputs of the book's program
abbrev pub IsNetAfter : BookView → List StoreMap → Flat → Type 0
IsNetAfter b past net = IsNetOf b.program b.levels (roots b.program past) (length past) net

-- the state is that of a run with these outputs: the book keeps it, what was written and spent is what is due, and no limit was passed
pub record IsStateOf (c : RunState) (full : List StoreMap) : Type 0 where
  pub keeps : KeepsRun c.book full
  pub spent : c.spent ≡ spent c.book.program full
  pub lines : c.lines.items ≡ instant_lines c.mode c.book.program full
  pub within : KeepsLimits c.book.program c.limits full

-- an instant is closed on this input, and the state goes on with its output
pub record ClosesInstant (before after : RunState) (input : StoreMap) : Type 0 where
  pub output : StoreMap
  pub closed : HasClosedInstant before.book after.book input output
  pub mode : after.mode ≡ before.mode
  pub limits : after.limits ≡ before.limits
  pub follows : (full : List StoreMap) → IsStateOf before full → IsStateOf after (full ++ output ∷ [])

-- the line gives the input of an instant, which is closed
pub record AdvancesRun (before after : RunState) (line : List ℕ) : Type 0 where
  pub few : length before.book.ins < most_instants
  pub input : StoreMap
  pub given : GivesInput before.book.program line input
  pub closes : ClosesInstant before after input

-- the end says something of the run, and not that memory ran out
abbrev pub IsNotOutOfMemory : RunEnd → Type 0
IsNotOutOfMemory (ends.BadLine fault) = fault ≢ Memory
IsNotOutOfMemory _ = Unit {0}

-- the run ends so at a line within the limit of bytes, whatever outputs it has had, and its state stays as it was
pub record StopsRun (before after : RunState) (line : List ℕ) (end : RunEnd) : Type 0 where
  pub at : length line ≤ longest_line → (full : List StoreMap) → IsStateOf before full → EndsAt before.book.program before.limits full line end
  pub same : after ≡ before
  pub says : IsNotOutOfMemory end
