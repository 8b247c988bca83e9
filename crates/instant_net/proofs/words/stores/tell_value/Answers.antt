use Rattle.std.proofs.Common.{subst}
use Rattle.token_system.specs.Values.{IsValueOf}
use Rattle.instant_net.proofs.Openings.{signal_fits_all, bounds_read}
use Rattle.instant_net.proofs.words.stores.tell_value.Goals as goal

pub tell_token-requires-clause-fits : goal.tell_token-requires-clause-fits
tell_token-requires-clause-fits c =
    let (x, at, is) = c.requires.value in
    (x, at, signal_fits_all x.cell c.in-Signal.on c.in-Signal.off (subst (IsValueOf x.cell) c.in-Signal.is is))

pub tell_token-requires-then-off-clause-fits : goal.tell_token-requires-then-off-clause-fits
tell_token-requires-then-off-clause-fits c =
    let (x, at, is) = c.requires.value in
    (x, at, signal_fits_all x.cell c.in-Signal.on c.in-Signal.off (subst (IsValueOf x.cell) c.in-Signal.is is))

pub tell_bounds-requires-clause-value : goal.tell_bounds-requires-clause-value
tell_bounds-requires-clause-value c =
    let (x, at, is) = c.requires.value in
    (x, at, bounds_read x.cell c.in-Number.lo c.in-Number.hi (subst (IsValueOf x.cell) c.in-Number.is is))
