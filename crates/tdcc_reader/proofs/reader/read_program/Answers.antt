use Rattle.std.proofs.Common.{◌≡◌, ◌∙◌}
use Rattle.tdcc_reader.specs.Surfaces.{IsSurfaceOf}
use Rattle.tdcc_reader.specs.declared.fault.ReadFault.TheVariants as fault
use Rattle.tdcc_reader.proofs.Options.{err_to}
use Rattle.tdcc_reader.proofs.reader.read_program.Goals as goal

pub returns-in_err-parts-clause-complete : goal.returns-in_err-parts-clause-complete
returns-in_err-parts-clause-complete c = λ p accepts.
    let is = c.in_err-parts.ensures.complete p accepts in
    err_to c.from_residual.result (IsSurfaceOf p) _ (λ e. e ≡ fault.Memory) c.from_residual.ensures.1 (λ e h. h ∙ is)
