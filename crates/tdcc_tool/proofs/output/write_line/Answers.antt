use Rattle.std.proofs.Common.{◌≡◌, ℕ, List, [], ◌∷◌, ◌++◌, length, sym, ap, ◌∙◌, ◌-◌, append_assoc}
use Rattle.std.specs.Prelude.{Option, slice_get}
use Rattle.std.proofs.lemmas.List.{append-nil}
use Rattle.std.specs.Option.{option_copied}
use Rattle.std.proofs.Common.{Bor, Vec, ◌+◌}
use Rattle.std.specs.declared.alloc.Global.{Global}
use Rattle.residuals.specs.RootLists.{RootLists}
use Rattle.token_system.specs.Stores.{StoreMap}
use Rattle.agent_core.specs.Programs.{CoreProgram}
use Rattle.agent_core.specs.Closures.{roots}
use Rattle.instant_net.specs.Words.{store_in}
use Rattle.run_report.specs.declared.counts.Report.{Report}
use Rattle.run_report.specs.Reports.{report_of}
use Rattle.trace_text.specs.StoreLines.{store_line}
use Rattle.tdcc_tool.specs.declared.output.OutputMode.{OutputMode}
use Rattle.tdcc_tool.specs.RunTexts.{line_of, report_line, report_text}
use Rattle.tdcc_tool.proofs.StateSteps.{roots-after}
use Rattle.tdcc_tool.proofs.DeclaredLines.{line_if, no_line, last-declared, last-push}
use Rattle.tdcc_tool.proofs.output.write_line.Goals as goal
use Rattle.tdcc_tool.proofs.output.write_line.Goals.{in-Some+in_ok-write_store-in-Stores, in_default}

pub returns-in_ok-push-in-Stores : goal.returns-in_ok-push-in-Stores
returns-in_ok-push-in-Stores c = λ past kept net.
    let p : CoreProgram = c.args.book.now.program in
    let v : StoreMap = store_in c.args.net.now.cells c.args.words.now in
    let into : List ℕ = c.args.into.now.items in
    let last = c.last.ensures.value ∙ ap (λ (vs : List StoreMap). slice_get vs (length vs - 1)) c.outs.ensures.outs in
    let line = sym (last-push p past v) ∙ last-declared p (past ++ v ∷ []) c.args.book.now.outs (option_copied c.last.result) kept.declared last in
    let text : c.match-last.into.items ≡ into ++ line_if p (option_copied c.last.result) =
    elim c.match-last.branch [
      | in-Some+in_ok-write_store-in-Stores w ↦
          ap (λ (x : Vec ℕ Global). x.items) w.into-is ∙ w.in_ok-write_store-in-Stores.ensures.ok ∙ ap (λ (q : CoreProgram). into ++ store_line q w.in-Some.store.now) w.program.ensures.program
          ∙ ap (λ (o : Option (Bor StoreMap)). into ++ line_if p (option_copied o)) (sym w.in-Some.is)
      | in_default w ↦ ap (λ (x : Vec ℕ Global). x.items) w.into-is ∙ sym (append-nil into) ∙ ap (λ (xs : List ℕ). into ++ xs) (sym (no_line p c.last.result w.in_default.not-Some))
    ] in
    c.in_ok-push-in-Stores.ensures.items ∙ ap (λ (xs : List ℕ). xs ++ 10 ∷ []) (text ∙ ap (λ (xs : List ℕ). into ++ xs) (sym line)) ∙ append_assoc into (store_line p v) (10 ∷ [])
    ∙ ap (λ (w : OutputMode). into ++ line_of w p past v) (sym c.in-Stores.is)

pub returns-in_ok-push-in-Reports : goal.returns-in_ok-push-in-Reports
returns-in_ok-push-in-Reports c = λ past kept net.
    let p : CoreProgram = c.args.book.now.program in
    let v : StoreMap = store_in c.args.net.now.cells c.args.words.now in
    let into : List ℕ = c.args.into.now.items in
    let report : ℕ → Report = report_of p (roots p past) (length past) v in
    let next = c.len.ensures ∙ ap (λ (r : RootLists). length r.once + length r.stay) c.roots.ensures ∙ roots-after c.args.book.now (past ++ v ∷ []) kept in
    let counts = c.report-counts.ensures p c.args.book.now.levels (roots p past) (length past) net ∙ ap report next in
    let instant = c.instant.ensures ∙ net.instant in
    let text = c.in_ok-write_report-in-Reports.ensures ∙ ap (λ (r : Report). into ++ report_text c.instant.result r) counts ∙ ap (λ (n : ℕ). into ++ report_text n (report (length (roots p (past ++ v ∷ []))))) instant in
    c.in_ok-push-in-Reports.ensures.items ∙ ap (λ (xs : List ℕ). xs ++ 10 ∷ []) text ∙ append_assoc into (report_line p past v) (10 ∷ []) ∙ ap (λ (w : OutputMode). into ++ line_of w p past v) (sym c.in-Reports.is)
