use Rattle.std.proofs.Common.{length, refl}
use Rattle.std.proofs.lemmas.Option.{slice_get_read, slice_get_past}
use Rattle.agent_core.specs.Drafts.{core_of, locals_of}
use Rattle.agent_core.proofs.ScopeTests.{token_scoped, no_cell}
use Rattle.agent_core.proofs.candidate.Candidate.is_in_scope.Goals as goal

pub returns-in-Some : goal.returns-in-Some
returns-in-Some c =
    let read = c.in-Some.ensures.lookup in
    token_scoped (core_of c.args.self) (locals_of c.args.around.now) c.args.cell c.args.token (c.is_visible.ensures.0 c.if-not-is_visible.false) c.in-Some.decl.now
    (slice_get_read c.args.self.cells.now (length c.args.self.cells.now) c.args.cell c.in-Some.decl.now refl read.3.0 read.1) c.fits.result c.fits.ensures

pub returns-in-None : goal.returns-in-None
returns-in-None c =
    no_cell (core_of c.args.self) (locals_of c.args.around.now) c.args.cell c.args.token (slice_get_past c.args.self.cells.now c.args.cell c.in-None.ensures.lookup.3)
