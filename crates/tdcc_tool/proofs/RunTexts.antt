-- What is written and spent grows instant by instant.
use Rattle.std.proofs.Common.{◌≡◌, ℕ, ◌+◌, ◌≤◌, List, [], ◌∷◌, ◌++◌, sym, ap, ◌∙◌, arith, append_assoc}
use Rattle.std.specs.List.{concat, sum_by}
use Rattle.std.proofs.lemmas.List.{append-nil}
use Rattle.std.proofs.lemmas.List.Folds.{concat-append}
use Rattle.std.proofs.lemmas.List.Sums.{sum_by_push}
use Rattle.token_system.specs.Stores.{StoreMap}
use Rattle.agent_core.specs.Programs.{CoreProgram}
use Rattle.tdcc_tool.specs.declared.output.OutputMode.{OutputMode}
use Rattle.tdcc_tool.specs.RunTexts.{each_after, ran_after, spent, line_of, instant_lines}

-- one output more is one element more, made with all before it
each_after-push : {X : Type 0} (f : List StoreMap → StoreMap → X) (past vs : List StoreMap) (v : StoreMap) → each_after f past (vs ++ v ∷ []) ≡ each_after f past vs ++ f (past ++ vs) v ∷ []
each_after-push f past [] v = ap (λ (ws : List StoreMap). f ws v ∷ []) (sym (append-nil past))
each_after-push {X} f past (w ∷ vs) v =
    ap (λ (xs : List X). f past w ∷ xs) (each_after-push f (past ++ w ∷ []) vs v)
    ∙ ap (λ (ws : List StoreMap). f past w ∷ (each_after f (past ++ w ∷ []) vs ++ f ws v ∷ [])) (append_assoc past (w ∷ []) vs)

pub spent-push : (p : CoreProgram) (outs : List StoreMap) (v : StoreMap) → spent p (outs ++ v ∷ []) ≡ spent p outs + ran_after p outs v
spent-push p outs v =
    ap (sum_by (λ n. n)) (each_after-push (ran_after p) [] outs v) ∙ sum_by_push (λ n. n) (each_after (ran_after p) [] outs) (ran_after p outs v)

pub instant_lines-push : (mode : OutputMode) (p : CoreProgram) (outs : List StoreMap) (v : StoreMap) → instant_lines mode p (outs ++ v ∷ []) ≡ instant_lines mode p outs ++ line_of mode p outs v
instant_lines-push mode p outs v =
    ap concat (each_after-push (line_of mode p) [] outs v)
    ∙ concat-append (each_after (line_of mode p) [] outs) (line_of mode p outs v ∷ [])
    ∙ ap (λ (line : List ℕ). instant_lines mode p outs ++ line) (append-nil (line_of mode p outs v))

-- no more is spent in fewer instants
pub spent-front : (p : CoreProgram) (outs more : List StoreMap) → spent p outs ≤ spent p (outs ++ more)
spent-front p outs [] = let same = ap (spent p) (append-nil outs) in omega arith
spent-front p outs (v ∷ more) =
    let one = spent-push p outs v in
    let rest = spent-front p (outs ++ v ∷ []) more in
    let same = ap (spent p) (append_assoc outs (v ∷ []) more) in
    omega arith
