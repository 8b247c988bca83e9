use Rattle.std.proofs.Common.{[], refl}
use Rattle.std.specs.Prelude.{length}
use Rattle.agent_core.proofs.Scopes.{root-IsClosure}
use Rattle.denotation_laws.proofs.Steps.{answer-same}
use Rattle.denotation_laws.specs.Dues.{leaves_since, leaves_now}
use Rattle.denotation_laws.proofs.Completed.{root-leaves}
use Rattle.denotation_laws.proofs.walk.tell_first.Goals as goal

pub tell_since-requires-clause-closure : goal.tell_since-requires-clause-closure
tell_since-requires-clause-closure c = root-IsClosure c.args.program.now c.requires.program

pub returns : goal.returns
returns c =
    answer-same c.args.program.now c.args.levels.now c.args.stratum c.tell_since.result (leaves_since c.args.program.now (length c.args.closed.now) 0 [] c.args.closed.now) (leaves_now c.args.program.now c.args.closed.now) c.args.store.now c.tell_since.new.store
    (root-leaves c.args.program.now c.args.closed.now (length c.args.closed.now) refl) c.tell_since.ensures
