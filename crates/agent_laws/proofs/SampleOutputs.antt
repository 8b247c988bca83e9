-- The outputs of `if a else b` where nothing is after_tell, and where `a` is.
use Rattle.std.proofs.Common.{◌≡◌, Bool, true, false, ◌&&◌, not, cond, List, [], ◌∷◌, refl, ap, ◌∙◌, subst, arith}
use Rattle.std.specs.Prelude.{unwrap_or}
use Rattle.std.specs.FinMap.{get-empty, get-insert}
use Rattle.token_system.specs.declared.cell.Token.TheVariants.{On}
use Rattle.token_system.specs.declared.cell.Value.{Value}
use Rattle.token_system.specs.declared.name.CellName.{CellName}
use Rattle.token_system.specs.declared.name.CellName.TheVariants.{Declared}
use Rattle.token_system.specs.Values.{bottom_of, value_with}
use Rattle.token_system.specs.Names.{name_cmp, name_total}
use Rattle.token_system.specs.Stores.{StoreMap, value_at, stored, after_tell}
use Rattle.agent_core.specs.declared.node.CellDecl.{CellDecl}
use Rattle.agent_core.specs.declared.node.Closure.{Closure}
use Rattle.agent_core.specs.Stores.{IsStore}
use Rattle.agent_core.specs.Outputs.{IsOutput}
use Rattle.agent_core.specs.Closures.{closure}
use Rattle.agent_core.specs.Rests.{entails}
use Rattle.agent_core.specs.Leaves.{leaves, ran}
use Rattle.agent_core.specs.Strata.{Each}
use Rattle.agent_core.specs.Worked.{a_decl, a_on, nothing, only_a}
use Rattle.agent_core.proofs.Scopes.{root-IsClosure}
use Rattle.agent_core.proofs.Told.{told-Tells}
use Rattle.agent_core.proofs.Tellings.{empty-IsStore}
use Rattle.agent_laws.specs.Worked.{signal, by_default, only_b}
use Rattle.agent_laws.proofs.System.{System}
use Rattle.agent_laws.proofs.Fixpoint as flat
use Rattle.agent_laws.proofs.Instance.{LeafFits, system}
use Rattle.agent_laws.proofs.Started.{IsOwn}
use Rattle.agent_laws.proofs.ClosureOutputs.{above_all, all_below, leaves-fit, output-flat}
use Rattle.agent_laws.proofs.ProgramOutputs.{output-of_roots}
use Rattle.agent_laws.proofs.Samples.{by_default-program, by_default-table}

-- `a` in each store
b_without_a : entails by_default [] only_b a_on ≡ false
b_without_a = simp (get-insert {X = Value} name_total, get-empty {X = Value} name_cmp) (refl {a = false})

a_with_a : entails by_default [] only_a a_on ≡ true
a_with_a = simp (get-insert {X = Value} name_total) (refl {a = true})

-- a signal after_tell alone
told_alone : (n : CellName) (d : CellDecl) → value_at nothing n d.cell ≡ bottom_of d.cell
told_alone n d = ap (λ o. unwrap_or o (bottom_of d.cell)) (get-empty name_cmp n)

pub tell_a : after_tell nothing (Declared 0) a_decl.cell On ≡ only_a
tell_a = ap (λ (v : Value). stored nothing (Declared 0) a_decl.cell (value_with v On)) (told_alone (Declared 0) a_decl)

pub tell_b : after_tell nothing (Declared 1) (signal 98).cell On ≡ only_b
tell_b = ap (λ (v : Value). stored nothing (Declared 1) (signal 98).cell (value_with v On)) (told_alone (Declared 1) (signal 98))

nothing-store : IsStore by_default nothing
nothing-store = empty-IsStore by_default

only_a-store : IsStore by_default only_a
only_a-store = subst (IsStore by_default) tell_a (told-Tells by_default nothing (Declared 0) a_decl On nothing-store (omega arith, refl) refl).store

only_b-store : IsStore by_default only_b
only_b-store = subst (IsStore by_default) tell_b (told-Tells by_default nothing (Declared 1) (signal 98) On nothing-store (omega arith, refl) refl).store

-- THE OUTPUTS

abbrev root : List Closure
root = closure 0 [] ∷ []

root-own : Each (IsOwn by_default) root
root-own = (root-IsClosure by_default by_default-program, tt)

abbrev sys : System
sys = system by_default (0 ∷ 1 ∷ []) (above_all (0 ∷ 1 ∷ [])) (all_below by_default (0 ∷ 1 ∷ [])) by_default-program

fit : Each (LeafFits by_default (0 ∷ 1 ∷ [])) (leaves by_default root 0)
fit = leaves-fit by_default (0 ∷ 1 ∷ []) (above_all (0 ∷ 1 ∷ [])) (all_below by_default (0 ∷ 1 ∷ [])) by_default-program by_default-table root root-own 0

-- what is after_tell from the store as guess is the store again
by_fixpoint : (i v : StoreMap) (ii : IsStore by_default i) → IsStore by_default v → flat.told_from sys (leaves by_default root 0) i fit ii v ≡ v → IsOutput by_default [] i v
by_fixpoint i v ii iv e =
    output-of_roots by_default by_default-program [] i v
    (output-flat by_default (0 ∷ 1 ∷ []) (above_all (0 ∷ 1 ∷ [])) (all_below by_default (0 ∷ 1 ∷ [])) by_default-program by_default-table root root-own 0 i v ii
    (flat.fixed-output sys (leaves by_default root 0) i fit ii v iv e))

pub absent-output : IsOutput by_default [] nothing only_b
absent-output =
    by_fixpoint nothing only_b nothing-store only_b-store
    (ap (λ (x : Bool). cond (not (not x && true)) nothing (after_tell nothing (Declared 1) (signal 98).cell On)) b_without_a ∙ tell_b)

pub present-output : IsOutput by_default [] only_a only_a
present-output =
    by_fixpoint only_a only_a only_a-store only_a-store
    (ap (λ (x : Bool). cond (not (not x && true)) only_a (after_tell only_a (Declared 1) (signal 98).cell On)) a_with_a)

pub absent-ran : ran by_default root 0 only_b ≡ 1
absent-ran = simp (get-insert {X = Value} name_total, get-empty {X = Value} name_cmp) (refl {a = 1})

pub present-ran : ran by_default root 0 only_a ≡ 0
present-ran = simp (get-insert {X = Value} name_total) (refl {a = 0})
