use Rattle.std.proofs.Common.{refl, sym, ◌∙◌}
use Rattle.denotation_laws.proofs.Steps.{not_upto-news, told-news, upto-news}
use Rattle.denotation_laws.proofs.walk.Walk.tell_due.Goals as goal

pub returns-then-not-is_upto : goal.returns-then-not-is_upto
returns-then-not-is_upto c =
    (not_upto-news c.args.self.now.program.now c.args.self.now.levels.now c.args.self.now.stratum c.args.store.now c.args.births.now c.args.ask.now (sym c.is_upto.ensures ∙ c.if-not-is_upto.true), refl)

pub returns-then-has_told : goal.returns-then-has_told
returns-then-has_told c =
    (told-news c.args.self.now.program.now c.args.self.now.levels.now c.args.self.now.stratum c.args.store.now c.args.births.now c.args.ask.now (sym c.in_ok-has_told.ensures ∙ c.if-has_told.true), refl)

pub returns : goal.returns
returns c = (
  upto-news c.args.self.now.program.now c.args.self.now.levels.now c.args.self.now.stratum c.args.store.now c.args.births.now c.args.ask.now
      (sym c.is_upto.ensures ∙ c.if-not-is_upto.false) (sym c.in_ok-has_told.ensures ∙ c.if-has_told.false),
  c.in_ok-tell_all.ensures,
)
