-- What is written of a run: a line for each instant, or one line for all. This project's own.
use Rattle.std.specs.Prelude.{ℕ, List, [], ◌∷◌, ◌++◌, length, codes, decimal, Bool, filter, is_some}
use Rattle.std.specs.FinMap.{get}
use Rattle.std.specs.List.{concat, range_with_len, sum_by}
use Rattle.token_system.specs.declared.name.CellName.TheVariants.{Declared}
use Rattle.token_system.specs.Stores.{StoreMap}
use Rattle.agent_core.specs.Programs.{CoreProgram}
use Rattle.agent_core.specs.Closures.{roots}
use Rattle.agent_core.specs.Leaves.{ran}
use Rattle.trace_text.specs.StoreLines.{store_line}
use Rattle.run_report.specs.declared.counts.Report.{Report}
use Rattle.run_report.specs.Reports.{report_of}
use Rattle.tdcc_tool.specs.declared.output.OutputMode.{OutputMode}
use Rattle.tdcc_tool.specs.declared.output.OutputMode.TheVariants.{Stores, Reports, Summary}

-- what f makes of each output, with the outputs that stand before it
abbrev pub each_after : {X : Type 0} → (List StoreMap → StoreMap → X) → List StoreMap → List StoreMap → List X
each_after f past [] = []
each_after f past (v ∷ later) = f past v ∷ each_after f (past ++ v ∷ []) later

-- how many agents run in the instant that follows these outputs and has this one
abbrev pub ran_after : CoreProgram → List StoreMap → StoreMap → ℕ
ran_after p past v = ran p (roots p past) (length past) v

-- how many agents run in the instants that have these outputs, together
abbrev pub spent : CoreProgram → List StoreMap → ℕ
spent p outs = sum_by (λ n. n) (each_after (ran_after p) [] outs)

-- REPORTS

-- the counts of an instant: `2 ran 1 confirmed 0 refuted 0 parked 0 next 1`
abbrev pub report_text : ℕ → Report → List ℕ
report_text n r =
    decimal n ++ codes " ran " ++ decimal r.ran ++ codes " confirmed " ++ decimal r.confirmed ++ codes " refuted " ++ decimal r.refuted
    ++ codes " parked " ++ decimal r.parked ++ codes " next " ++ decimal r.next

-- those of the instant that follows these outputs and has this one
abbrev pub report_line : CoreProgram → List StoreMap → StoreMap → List ℕ
report_line p past v = report_text (length past) (report_of p (roots p past) (length past) v (length (roots p (past ++ v ∷ []))))

-- SUMMARIES

-- the store keeps something of the declared cell of this number; of a bottom nothing is kept
abbrev pub is_told : StoreMap → ℕ → Bool
is_told v n = is_some (get v (Declared n))

-- how many declared cells a store tells something of
abbrev pub told_cells : CoreProgram → StoreMap → ℕ
told_cells p v = length (filter (is_told v) (range_with_len 0 p.declared))

-- the store line of the last output, where there is one
abbrev pub last_line : CoreProgram → List StoreMap → List ℕ
last_line p [] = []
last_line p (v ∷ []) = store_line p v
last_line p (v ∷ w ∷ later) = last_line p (w ∷ later)

-- how many instants there were, what ran in them, what they told, and the last store: `instants 2 ran 3 cells 1 last a`
abbrev pub summary_line : CoreProgram → List StoreMap → List ℕ
summary_line p outs =
    codes "instants " ++ decimal (length outs) ++ codes " ran " ++ decimal (spent p outs) ++ codes " cells " ++ decimal (sum_by (told_cells p) outs)
    ++ codes " last " ++ last_line p outs

-- ALL THAT IS WRITTEN

-- what is written of the instant that follows these outputs and has this one
abbrev pub line_of : OutputMode → CoreProgram → List StoreMap → StoreMap → List ℕ
line_of Stores p past v = store_line p v ++ 10 ∷ []
line_of Reports p past v = report_line p past v ++ 10 ∷ []
line_of Summary p past v = []

-- the lines of the instants
abbrev pub instant_lines : OutputMode → CoreProgram → List StoreMap → List ℕ
instant_lines mode p outs = concat (each_after (line_of mode p) [] outs)

-- what is written of a run that has these outputs
abbrev pub written : OutputMode → CoreProgram → List StoreMap → List ℕ
written Stores p outs = instant_lines Stores p outs
written Reports p outs = instant_lines Reports p outs
written Summary p outs = summary_line p outs ++ 10 ∷ []
