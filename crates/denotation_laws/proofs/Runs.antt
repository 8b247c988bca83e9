-- A run, instant by instant.
use Rattle.std.proofs.Common.{◌≡◌, ℕ, suc, ◌+◌, ◌<◌, ◌≤◌, List, [], ◌∷◌, ◌++◌, length, take, get_or, All, refl, sym, ap, ◌∙◌, subst, arith}
use Rattle.std.proofs.Math.Seq.{take-suc}
use Rattle.std.proofs.lemmas.List.{take_all, length-take}
use Rattle.std.proofs.lemmas.Option.{slice_get_within}
use Rattle.token_system.specs.Stores.{StoreMap}
use Rattle.agent_core.specs.Programs.{CoreProgram}
use Rattle.agent_core.specs.Outputs.{IsOutput, IsRun}
use Rattle.agent_core.specs.Stores.{IsInput, IsStore}
use Rattle.agent_laws.proofs.Runs.{run-push}

-- before the first instant
pub no_run : (p : CoreProgram) → IsRun p [] []
no_run p = record { whole = refl; each = λ n i v ei ev. absurd (let h = slice_get_within [] n i ei in omega arith) }

-- an input is a store of the program
pub input-store : (p : CoreProgram) (ins : List StoreMap) (k : ℕ) → All (IsInput p) ins → k < length ins → (i : StoreMap) → i ≡ get_or ins k i → IsStore p i
input-store p ins k inputs lt i e = subst (IsStore p) (sym e) (inputs k i lt).store

pub run-few : (p : CoreProgram) (ins outs : List StoreMap) (k : ℕ) → IsRun p (take k ins) outs → length outs ≤ length ins
run-few p ins outs k run = let w = run.whole in omega (arith, length-take k ins)

-- one instant more
pub run-more : (p : CoreProgram) (ins outs : List StoreMap) (k : ℕ) → k < length ins → (i : StoreMap) → i ≡ get_or ins k i → (v : StoreMap) → IsRun p (take k ins) outs → IsOutput p outs i v
    → IsRun p (take (k + 1) ins) (outs ++ v ∷ [])
run-more p ins outs k lt i e v run out =
    let next : k + 1 ≡ suc k = omega arith in
    let more : take (k + 1) ins ≡ take k ins ++ i ∷ [] =
    ap (λ (m : ℕ). take m ins) next ∙ take-suc ins k i lt ∙ ap (λ (x : StoreMap). take k ins ++ x ∷ []) (sym e) in
    subst (λ (z : List StoreMap). IsRun p z (outs ++ v ∷ [])) (sym more) (run-push p (take k ins) outs i v run out)

-- all instants
pub run-whole : (p : CoreProgram) (ins outs : List StoreMap) (k : ℕ) → length ins ≤ k → IsRun p (take k ins) outs → IsRun p ins outs
run-whole p ins outs k le run = subst (λ (z : List StoreMap). IsRun p z outs) (take_all k ins le) run
