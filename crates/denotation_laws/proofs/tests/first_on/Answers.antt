use Rattle.std.proofs.Common.{◌≡◌, ◌≢◌, ℕ, ◌<◌, ◌≤◌, List, length, Some, None, get_or, refl, sym, ap, ◌∙◌, subst, arith}
use Rattle.std.specs.Prelude.{slice_get}
use Rattle.std.specs.FinMap.{empty, get, get-empty}
use Rattle.std.proofs.lemmas.Option.{slice_get_read}
use Rattle.token_system.specs.declared.cell.Token.{Token}
use Rattle.token_system.specs.declared.cell.Token.TheVariants.{On}
use Rattle.token_system.specs.declared.cell.Value.{Value}
use Rattle.token_system.specs.declared.name.CellName.{CellName}
use Rattle.token_system.specs.declared.name.CellName.TheVariants.{Declared, Local}
use Rattle.token_system.specs.Names.{name_cmp}
use Rattle.token_system.specs.Stores.{StoreMap, after_tell, CanHold}
use Rattle.token_system.specs.Tokens.{Fits}
use Rattle.token_system.proofs.Telling.{get-told_other}
use Rattle.agent_core.specs.declared.node.CellDecl.{CellDecl}
use Rattle.agent_core.specs.Programs.{CoreProgram}
use Rattle.agent_core.specs.Stores.{IsInput}
use Rattle.agent_core.proofs.AskTests.{can_hold}
use Rattle.agent_core.proofs.Tellings.{empty-IsStore}
use Rattle.agent_core.proofs.Told.{told-Tells}
use Rattle.denotation_laws.proofs.tests.first_on.Goals as goal

-- a declared cell that is after_tell in an empty store
module _ (p : CoreProgram) (d : CellDecl) (t : Token) (some : 0 < p.declared) (found : slice_get p.cells 0 ≡ Some d) (fits : Fits d.cell t) where
  may-hold : CanHold empty (Declared 0) d.cell t
  may-hold = can_hold p empty (Declared 0) d t (empty-IsStore p) (some, found) fits

  is_input : IsInput p (after_tell empty (Declared 0) d.cell t)
  is_input = record { store = (told-Tells p empty (Declared 0) d t (empty-IsStore p) (some, found) fits).store; declared = names }
    where
      names : (n : CellName) (v : Value) → get (after_tell empty (Declared 0) d.cell t) n ≡ Some v → (k : ℕ) × (n ≡ Declared k)
      names (Declared k) v e = (k, refl)
      names (Local m b) v e =
          absurd (let f : None ≡ Some v = sym (get-empty name_cmp (Local m b)) ∙ sym (get-told_other empty (Declared 0) (Local m b) d.cell t (λ same. cc)) ∙ e in cc)

-- where the first declared cell was read
module _ (p : CoreProgram) (all : List CellDecl) (same : all ≡ p.cells) (n : ℕ) (number : n ≡ p.declared) (some : n ≢ 0) (within : p.declared ≤ length p.cells) (d : CellDecl) (read : d ≡ get_or all 0 d) where
  any : 0 < p.declared
  any = omega arith

  there : slice_get p.cells 0 ≡ Some d
  there = let lt : 0 < length p.cells = omega arith in slice_get_read p.cells (length p.cells) 0 d refl lt (read ∙ ap (λ (xs : List CellDecl). get_or xs 0 d) same)

pub tell-requires : goal.tell-requires
tell-requires c =
    let d : CellDecl = get_or c.cells.result.now 0 c.index-cells-0.result in
    let some = any c.args.program.now c.cells.result.now c.cells.ensures.all c.declared.result c.declared.ensures.number c.if-declared-eq0.false c.declared.ensures.program.limits.within c.index-cells-0.result c.index-cells-0.is in
    let found = there c.args.program.now c.cells.result.now c.cells.ensures.all c.declared.result c.declared.ensures.number c.if-declared-eq0.false c.declared.ensures.program.limits.within c.index-cells-0.result c.index-cells-0.is in
    subst (λ (s : StoreMap). CanHold s (Declared 0) d.cell On) (sym c.new-store.ensures)
    (may-hold c.args.program.now d On some (found ∙ ap Some c.index-cells-0.is) (sym c.fits.ensures ∙ c.if-not-fits.false))

pub returns : goal.returns
returns c =
    let d : CellDecl = get_or c.cells.result.now 0 c.index-cells-0.result in
    let some = any c.args.program.now c.cells.result.now c.cells.ensures.all c.declared.result c.declared.ensures.number c.if-declared-eq0.false c.declared.ensures.program.limits.within c.index-cells-0.result c.index-cells-0.is in
    let found = there c.args.program.now c.cells.result.now c.cells.ensures.all c.declared.result c.declared.ensures.number c.if-declared-eq0.false c.declared.ensures.program.limits.within c.index-cells-0.result c.index-cells-0.is in
    subst (IsInput c.args.program.now) (sym (c.in_ok-tell.ensures.ok ∙ ap (λ (s : StoreMap). after_tell s (Declared 0) d.cell On) c.new-store.ensures))
    (is_input c.args.program.now d On some (found ∙ ap Some c.index-cells-0.is) (sym c.fits.ensures ∙ c.if-not-fits.false))
