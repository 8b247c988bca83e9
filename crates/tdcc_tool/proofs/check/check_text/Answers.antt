use Rattle.std.proofs.Common.{ℕ, List, [], ◌∷◌, ◌++◌, length, sym, ap, ◌∙◌, append_assoc}
use Rattle.std.specs.Prelude.{codes, decimal, flat_map, slice_get, slice_index}
use Rattle.std.specs.List.{range_with_len}
use Rattle.std.proofs.lemmas.List.{append-nil}
use Rattle.agent_core.specs.declared.node.CellDecl.{CellDecl}
use Rattle.agent_core.specs.declared.node.Node.{Node}
use Rattle.agent_core.specs.Programs.{CoreProgram}
use Rattle.tdcc_tool.specs.Checks.{cell_line, size_line}
use Rattle.tdcc_tool.specs.Messages.{cell_name}
use Rattle.tdcc_tool.proofs.Counting.{behind, joined-more}
use Rattle.tdcc_tool.proofs.check.check_text.Goals as goal

pub loop-cell-init : goal.loop-cell-init
loop-cell-init c =
    let p : CoreProgram = c.args.program.now in
    let cells = ap (λ (ds : List CellDecl). length ds) c.cells-cells.ensures.all in
    let nodes = ap (λ (ns : List Node). length ns) c.nodes.ensures.all in
    let strata = c.from.ensures ∙ c.strata.ensures in
    let one = c.in_ok-write_count.ensures ∙ ap (λ (xs : List ℕ). xs ++ codes "accepted: " ++ decimal (length c.cells-cells.result.now)) c.new-text.ensures.items ∙ ap (λ (n : ℕ). [] ++ codes "accepted: " ++ decimal n) cells in
    let two = c.in_ok-write_count-2.ensures ∙ ap (λ (xs : List ℕ). xs ++ codes " cells, " ++ decimal (length c.nodes.result.now)) one
    ∙ ap (λ (n : ℕ). [] ++ codes "accepted: " ++ decimal (length p.cells) ++ codes " cells, " ++ decimal n) nodes in
    let three = c.in_ok-write_count-3.ensures ∙ ap (λ (xs : List ℕ). xs ++ codes " nodes, " ++ decimal c.from.result) two
    ∙ ap (λ (n : ℕ). [] ++ codes "accepted: " ++ decimal (length p.cells) ++ codes " cells, " ++ decimal (length p.nodes) ++ codes " nodes, " ++ decimal n) strata in
    c.in_ok-extend_from_slice.ensures.items ∙ ap (λ (xs : List ℕ). xs ++ codes " strata\n") three ∙ sym (append-nil (size_line p c.args.levels.now))

pub loop-cell-preserved : goal.loop-cell-preserved
loop-cell-preserved c =
    let p : CoreProgram = c.args.program.now in
    let levels : List ℕ = c.args.levels.now in
    let cell = c.loop-cell.cell in
    let begun : List ℕ = size_line p levels ++ flat_map (cell_line p levels) (range_with_len 0 cell) in
    let number = c.from-in-loop-cell.ensures ∙ ap (λ (ns : List ℕ). slice_index ns cell) c.list.ensures.all in
    let one = c.in_ok-extend_from_slice-2.ensures.items ∙ ap (λ (xs : List ℕ). xs ++ c.name_of.result.now) c.loop-cell.invariant ∙ ap (λ (xs : List ℕ). begun ++ xs) c.name_of.ensures in
    let two = c.in_ok-write_count-4.ensures ∙ ap (λ (xs : List ℕ). xs ++ codes " " ++ decimal c.from-in-loop-cell.result) one
    ∙ ap (λ (n : ℕ). begun ++ cell_name (slice_get p.cells cell) ++ codes " " ++ decimal n) number in
    let three = c.in_ok-push.ensures.items ∙ ap (λ (xs : List ℕ). xs ++ 10 ∷ []) two in
    three ∙ behind begun (cell_name (slice_get p.cells cell)) (codes " ") (decimal (slice_index levels cell)) (10 ∷ [])
    ∙ append_assoc (size_line p levels) (flat_map (cell_line p levels) (range_with_len 0 cell)) (cell_line p levels cell)
    ∙ ap (λ (xs : List ℕ). size_line p levels ++ xs) (sym (joined-more (cell_line p levels) cell))
