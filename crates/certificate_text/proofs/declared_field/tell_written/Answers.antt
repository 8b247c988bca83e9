use Rattle.std.proofs.Common.{sym, subst}
use Rattle.agent_core.specs.Stores.{IsStore}
use Rattle.trace_text.proofs.DeclaredTokens.{store_told}
use Rattle.certificate_text.proofs.declared_field.tell_written.Goals as goal

pub tell-requires-in-Some-clause-store : goal.tell-requires-in-Some-clause-store
tell-requires-in-Some-clause-store c =
    subst (IsStore c.args.program.now) (sym c.in_ok-tell.ensures) (store_told c.args.program.now c.args.store.now (c.args.cell, c.args.written.first) c.requires.store c.requires.fits.0)
