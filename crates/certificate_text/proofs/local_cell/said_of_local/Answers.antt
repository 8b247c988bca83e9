use Rattle.std.proofs.Common.{◌≡◌, ◌∙◌, true, false, refl, sym, subst}
use Rattle.std.specs.Prelude.{IfSome, IsNone}
use Rattle.certificate_text.specs.LocalTokens.{IsLocalTokenText}
use Rattle.certificate_text.proofs.LocalSayings.{cell_said, fits_said}
use Rattle.certificate_text.proofs.local_cell.said_of_local.Goals as goal

pub returns-in_default-clause-none : goal.returns-in_default-clause-none
returns-in_default-clause-none c = λ _ says. c.in_ok-said.ensures.bad (subst IsNone (sym c.in_default.is) refl) says.0 says.2 says.3 says.4.text

-- the name is that of no cell
pub returns-in_default-local_cell-clause-none : goal.returns-in_default-local_cell-clause-none
returns-in_default-local_cell-clause-none c = λ _ says.
    let text = subst (λ o. IfSome o (λ t. IsLocalTokenText c.args.bytes.now t.name t.first t.second)) c.in-Some.is c.in_ok-said.ensures.read in
    c.in_default-local_cell.ensures.none refl says.1
    (cell_said c.args.program.now c.args.instant c.args.bytes.now c.in-Some.said.name c.in-Some.said.first c.in-Some.said.second text says.0 says.1 says.2 says.3 says.4)

-- its tokens do not fit the cell
pub returns-then-not-both_fit-clause-none : goal.returns-then-not-both_fit-clause-none
returns-then-not-both_fit-clause-none c = λ _ says.
    let text = subst (λ o. IfSome o (λ t. IsLocalTokenText c.args.bytes.now t.name t.first t.second)) c.in-Some.is c.in_ok-said.ensures.read in
    let fits = fits_said c.args.program.now c.args.instant c.args.bytes.now c.in-Some.said.name c.in-Some.said.first c.in-Some.said.second text says.0 says.1 says.2 says.3 says.4
    c.in-Some-local_cell.cell c.in-Some-local_cell.ensures.found in
    let no : true ≡ false = sym fits ∙ sym c.both_fit.ensures ∙ c.if-not-both_fit.true in absurd (cc)

pub returns-clause-said : goal.returns-clause-said
returns-clause-said c = record {
  text = subst (λ o. IfSome o (λ t. IsLocalTokenText c.args.bytes.now t.name t.first t.second)) c.in-Some.is c.in_ok-said.ensures.read;
  cell = c.in-Some-local_cell.ensures.found;
  fits = sym c.both_fit.ensures ∙ c.if-not-both_fit.false;
}
