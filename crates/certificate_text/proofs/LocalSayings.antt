-- What bytes say of a local cell is one thing: one name, with one cell, and tokens that fit it.
use Rattle.std.proofs.Common.{◌≡◌, ℕ, List, Option, sym, ap, ◌∙◌, subst}
use Rattle.std.specs.Prelude.{IsTrue}
use Rattle.token_system.specs.declared.cell.Cell.{Cell}
use Rattle.token_system.specs.declared.cell.Token.{Token}
use Rattle.token_system.specs.declared.name.CellName.{CellName}
use Rattle.agent_core.specs.declared.node.CellDecl.{CellDecl}
use Rattle.agent_core.specs.Names.{Names}
use Rattle.agent_core.specs.Programs.{CoreProgram}
use Rattle.agent_core.proofs.OneStore.{Names-one}
use Rattle.certificate_text.specs.LocalCells.{IsLocalCell, IsSaidOfLocal, both_fit}
use Rattle.certificate_text.specs.LocalTokens.{IsLocalTokenText}
use Rattle.certificate_text.proofs.LocalTokenLaws.{one_local_token}
use Rattle.certificate_text.proofs.OutWalks.{local_named}

-- a local name has one cell
pub one_cell : (p : CoreProgram) (t : ℕ) (m n : CellName) (c d : Cell) → m ≡ n → IsLocalCell p t m c → IsLocalCell p t n d → c ≡ d
one_cell p t m n c d same a b =
    let x = local_named p t m c a in
    let y = local_named p t n d b in
    sym x.2 ∙ ap (λ (e : CellDecl). e.cell) (Names-one p n x.0 y.0 (subst (λ (k : CellName). Names p k x.0) same x.1) y.1) ∙ y.2

module _ (p : CoreProgram) (t : ℕ) (bytes : List ℕ) (m : CellName) (f : Token) (s : Option Token) (text : IsLocalTokenText bytes m f s)
    (n : CellName) (d : Cell) (g : Token) (r : Option Token) (said : IsSaidOfLocal p t bytes n d g r) where
  -- the name that was read is that of the cell
  pub cell_said : IsLocalCell p t m d
  cell_said = subst (λ (k : CellName). IsLocalCell p t k d) (sym (one_local_token bytes m n f g s r text said.text).0) said.cell

  -- and the tokens that were read fit it
  pub fits_said : (c : Cell) → IsLocalCell p t m c → IsTrue (both_fit c f s)
  fits_said c cell =
      let same = one_local_token bytes m n f g s r text said.text in
      ap (λ (k : Cell). both_fit k f s) (one_cell p t m n c d same.0 cell said.cell)
      ∙ ap (λ (k : Token). both_fit d k s) same.1
      ∙ ap (λ (k : Option Token). both_fit d g k) same.2
      ∙ said.fits
