use Rattle.std.proofs.Common.{◌≡◌, ◌-◌, ℕ, Bor, Vec, List, [], ◌∷◌, ◌++◌, length, sym, ap, ◌∙◌, append_assoc}
use Rattle.std.specs.Prelude.{Option, codes, decimal, filter, slice_get}
use Rattle.std.specs.Option.{option_copied}
use Rattle.std.specs.List.{range_with_len, sum_by}
use Rattle.std.specs.declared.alloc.Global.{Global}
use Rattle.std.proofs.lemmas.List.{append-nil}
use Rattle.token_system.specs.Stores.{StoreMap}
use Rattle.agent_core.specs.Programs.{CoreProgram}
use Rattle.trace_text.specs.StoreLines.{store_line}
use Rattle.tdcc_tool.specs.RunTexts as texts
use Rattle.tdcc_tool.specs.RunTexts.{is_told, told_cells, last_line}
use Rattle.tdcc_tool.proofs.DeclaredLines.{line_if, no_line, last-declared, same-told_cells}
use Rattle.tdcc_tool.proofs.summary.summary.Goals as goal
use Rattle.tdcc_tool.proofs.summary.summary.Goals.{in-Some+in_ok-write_store, in_default}

pub returns : goal.returns
returns c = λ full kept spent.
    let p : CoreProgram = c.args.book.now.program in
    let outs = c.outs-outs.ensures.outs in
    let last = c.last.ensures.value ∙ ap (λ (vs : List StoreMap). slice_get vs (length vs - 1)) outs in
    let line = last-declared p full c.args.book.now.outs (option_copied c.last.result) kept.declared last in
    let instants = c.from.ensures ∙ c.instants.ensures ∙ sym kept.run.whole in
    let cells = c.declared.ensures.number ∙ ap (λ (q : CoreProgram). q.declared) c.program.ensures.program in
    let told : c.told_in_all-told.result ≡ sum_by (told_cells p) full =
    c.told_in_all-told.ensures ∙ ap (λ (n : ℕ). sum_by (λ v. length (filter (is_told v) (range_with_len 0 n))) c.outs-outs.result.now) cells
    ∙ ap (sum_by (told_cells p)) outs ∙ sym (same-told_cells p.declared full c.args.book.now.outs kept.declared) in
    let one = c.in_ok-write_count.ensures ∙ ap (λ (xs : List ℕ). xs ++ codes "instants " ++ decimal c.from.result) c.new-line.ensures.items ∙ ap (λ (n : ℕ). [] ++ codes "instants " ++ decimal n) instants in
    let two = c.in_ok-write_count-2.ensures ∙ ap (λ (xs : List ℕ). xs ++ codes " ran " ++ decimal c.args.spent) one
    ∙ ap (λ (n : ℕ). [] ++ codes "instants " ++ decimal (length full) ++ codes " ran " ++ decimal n) spent in
    let three = c.in_ok-write_count-3.ensures ∙ ap (λ (xs : List ℕ). xs ++ codes " cells " ++ decimal c.told_in_all-told.result) two
    ∙ ap (λ (n : ℕ). [] ++ codes "instants " ++ decimal (length full) ++ codes " ran " ++ decimal (texts.spent p full) ++ codes " cells " ++ decimal n) told in
    let base : List ℕ = c.extend_from_slice.new.self.items in
    let four = c.in_ok-extend_from_slice.ensures.items ∙ ap (λ (xs : List ℕ). xs ++ codes " last ") three in
    let text : c.match-last.line.items ≡ base ++ line_if p (option_copied c.last.result) =
    elim c.match-last.branch [
      | in-Some+in_ok-write_store w ↦
          ap (λ (x : Vec ℕ Global). x.items) w.line-is ∙ w.in_ok-write_store.ensures.ok ∙ ap (λ (q : CoreProgram). base ++ store_line q w.in-Some.store.now) w.program-in-Some.ensures.program
          ∙ ap (λ (o : Option (Bor StoreMap)). base ++ line_if p (option_copied o)) (sym w.in-Some.is)
      | in_default w ↦ ap (λ (x : Vec ℕ Global). x.items) w.line-is ∙ sym (append-nil base) ∙ ap (λ (xs : List ℕ). base ++ xs) (sym (no_line p c.last.result w.in_default.not-Some))
    ] in
    let five = text ∙ ap (λ (xs : List ℕ). base ++ xs) (sym line) ∙ ap (λ (xs : List ℕ). xs ++ last_line p full) four in
    let all = c.in_ok-push.ensures.items ∙ ap (λ (xs : List ℕ). xs ++ 10 ∷ []) five in
    simp append_assoc (simp append_assoc at all)
