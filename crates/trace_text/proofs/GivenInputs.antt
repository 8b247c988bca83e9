-- The store of the tokens of a line is its input, and a line gives one.
use Rattle.std.proofs.Common.{◌≡◌, ℕ, ◌≤◌, Bool, true, false, cond, List, [], ◌∷◌, length, None, Some, refl, sym, ap, ◌∙◌, subst}
use Rattle.std.specs.Prelude.{Option, IsTrue, slice_get}
use Rattle.std.specs.FinMap.{get, empty, insert, get-empty, get-insert}
use Rattle.std.specs.Ordering.{eq_by_cmp}
use Rattle.token_system.specs.declared.cell.Token.{Token}
use Rattle.token_system.specs.declared.cell.Value.{Value}
use Rattle.token_system.specs.declared.cell.Cell.{Cell}
use Rattle.token_system.specs.declared.name.CellName.{CellName}
use Rattle.token_system.specs.declared.name.CellName.TheVariants.{Declared}
use Rattle.token_system.specs.Values.{value_eq, value_with, bottom_of}
use Rattle.token_system.specs.Names.{name_cmp, name_total}
use Rattle.token_system.specs.Stores.{StoreMap, value_at, after_tell}
use Rattle.agent_core.specs.declared.node.CellDecl.{CellDecl}
use Rattle.agent_core.specs.Agents.{Constraint}
use Rattle.agent_core.specs.Programs.{CoreProgram}
use Rattle.agent_core.specs.Scope.{ConstraintFits}
use Rattle.agent_core.specs.Rests.{entails}
use Rattle.agent_core.specs.Tellings.{tell_at, tell_all}
use Rattle.agent_core.proofs.OneStore.{Below-antisym}
use Rattle.token_system.proofs.Telling.{equal_names}
use Rattle.agent_core.proofs.Tellings.{empty-IsStore, empty-Below, tell_all-least, tell_all-entails}
use Rattle.trace_text.specs.Limits.{longest_trace_line}
use Rattle.trace_text.specs.Fields.{fields}
use Rattle.trace_text.specs.Inputs.{DenoteAll, GivesInput}
use Rattle.trace_text.proofs.DeclaredTokens.{in_scope}
use Rattle.trace_text.proofs.Sayings.{say_all_fit, say_all_one}

-- the store keeps declared names alone
abbrev pub DeclaredOnly : StoreMap → Type 0
DeclaredOnly s = (n : CellName) (v : Value) → get s n ≡ Some v → (k : ℕ) × (n ≡ Declared k)

one_more_declared : (s : StoreMap) (k : ℕ) (v : Value) → DeclaredOnly s → DeclaredOnly (insert s (Declared k) v)
one_more_declared s k v only n w e = go (eq_by_cmp name_cmp n (Declared k)) refl
  where
    go : (b : Bool) → eq_by_cmp name_cmp n (Declared k) ≡ b → (j : ℕ) × (n ≡ Declared j)
    go true t = (k, equal_names n (Declared k) t)
    go false t = only n w (sym (get-insert name_total s (Declared k) v n ∙ ap (λ b. cond b (Some v) (get s n)) t) ∙ e)

told_declared : (s : StoreMap) (k : ℕ) (c : Cell) (t : Token) → DeclaredOnly s → DeclaredOnly (after_tell s (Declared k) c t)
told_declared s k c t only = go (value_eq (value_with (value_at s (Declared k) c) t) (bottom_of c))
  where
    go : (b : Bool) → DeclaredOnly (cond b s (insert s (Declared k) (value_with (value_at s (Declared k) c) t)))
    go true = only
    go false = one_more_declared s k (value_with (value_at s (Declared k) c) t) only

tell_all_declared : (p : CoreProgram) (ask : Constraint) (s : StoreMap) → ConstraintFits p [] ask → DeclaredOnly s → DeclaredOnly (tell_all p [] ask s)
tell_all_declared p [] s fits only = only
tell_all_declared p (pair ∷ ask) s fits only = tell_all_declared p ask (tell_at (slice_get p.cells pair.0) p [] s pair.0 pair.1) fits.1 (go (slice_get p.cells pair.0))
  where
    go : (o : Option CellDecl) → DeclaredOnly (tell_at o p [] s pair.0 pair.1)
    go None = only
    go (Some d) = subst (λ (n : CellName). DeclaredOnly (after_tell s n d.cell pair.1)) (sym (in_scope p pair fits.0)) (told_declared s pair.0 d.cell pair.1 only)

-- what is after_tell to the store of which nothing is after_tell is the line's input
pub told_input : (p : CoreProgram) (line : List ℕ) (tokens : Constraint) (i : StoreMap) → length line ≤ longest_trace_line → DenoteAll p (fields line) tokens → i ≡ tell_all p [] tokens empty → GivesInput p line i
told_input p line tokens i short said after_tell =
    let fits = say_all_fit p (fields line) tokens said in
    let least = tell_all-least p [] tokens empty (empty-IsStore p) fits in
    subst (GivesInput p line) (sym after_tell) (record {
      short = short;
      tokens = tokens;
      said = said;
      input = record { store = least.store; declared = tell_all_declared p tokens empty fits (λ n v e. absurd (let h : None ≡ Some v = sym (get-empty name_cmp n) ∙ e in cc)) };
      tells = tell_all-entails p [] tokens empty (empty-IsStore p) fits;
      least = λ u is h. least.least u is (empty-Below p u is) h;
    })

-- a line gives one input
pub one_input : (p : CoreProgram) (line : List ℕ) (i j : StoreMap) → GivesInput p line i → GivesInput p line j → i ≡ j
one_input p line i j x y =
    let same : x.tokens ≡ y.tokens = say_all_one p (fields line) x.tokens y.tokens x.said y.said in
    Below-antisym p i j x.input.store y.input.store
    (x.least j y.input.store (subst (λ (a : Constraint). IsTrue (entails p [] j a)) (sym same) y.tells))
    (y.least i x.input.store (subst (λ (a : Constraint). IsTrue (entails p [] i a)) same x.tells))
