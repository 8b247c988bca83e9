use Rattle.std.proofs.Common.{◌≡◌, true, sym, ap, ◌∙◌}
use Rattle.std.specs.Prelude.{Some, slice_get}
use Rattle.instant_net.specs.declared.parts.NetLeaf.{NetLeaf}
use Rattle.instant_net.specs.NamedLeaves.{runs_named}
use Rattle.instant_net.specs.Nets.{named_leaf}
use Rattle.instant_net.specs.Words.{store_in}
use Rattle.settle.specs.Ways.{is_level_upto}
use Rattle.settle.proofs.OneLook.{IsLookedAt, look-told}
use Rattle.settle.proofs.looking.look_at.Goals as goal

-- the leaf tells
told : (g : _) (c : goal.After-ask_again g) → IsLookedAt c.args.net.now c.args.stratum c.args.leaf c.args.words.now c.tell.new.words c.args.watch.now.asks c.ask_again.new.watch.asks c.args.steps.now c.ask_again.new.steps
told g c =
    look-told c.args.net.now c.requires.net c.args.stratum c.args.leaf c.requires.leaf c.args.words.now c.requires.words c.args.watch.now.asks c.requires.noted c.tell.new.words c.ask_again.new.watch.asks c.args.steps.now c.ask_again.new.steps
    c.tell.ensures.words c.tell.ensures.store c.ask_again.ensures.notes c.ask_again.ensures.held (ap (is_level_upto c.args.stratum) (sym c.level.ensures) ∙ sym c.is_upto.ensures ∙ c.if-is_upto.true)
    (λ l at. sym c.if-is_free.true ∙ c.is_free.ensures c.args.words.now l c.requires.noted at) (sym c.has_told.ensures ∙ c.if-not-has_told.true) c.ask_again.ensures.steps

pub returns-then-not-has_told-clause-looks : goal.returns-then-not-has_told-clause-looks
returns-then-not-has_told-clause-looks g c = (told g c).0

pub returns-then-not-has_told-clause-seen : goal.returns-then-not-has_told-clause-seen
returns-then-not-has_told-clause-seen g c = (told g c).1.0

pub returns-then-not-has_told-clause-steps : goal.returns-then-not-has_told-clause-steps
returns-then-not-has_told-clause-steps g c = (told g c).1.1
