use Rattle.std.proofs.Common.{ℤ, w64, sym, ap, ◌∙◌, subst}
use Rattle.std.proofs.lemmas.Int.{to_z-of_z}
use Rattle.token_system.specs.declared.cell.Token.TheVariants.{AtLeast, AtMost}
use Rattle.token_system.specs.Tokens.{Fits}
use Rattle.instant_net.specs.Words.{tell_word, told_as}
use Rattle.instant_net.proofs.Openings.{bounds_fit}
use Rattle.instant_net.proofs.words.stores.tell_bounds.Goals as goal

pub tell_token-requires-clause-fits : goal.tell_token-requires-clause-fits
tell_token-requires-clause-fits c =
    let (x, at, is) = c.requires.value in
    (x, at, subst (λ (n : ℤ). Fits x.cell (AtLeast n)) (sym (to_z-of_z w64 c.args.lo c.ranges.lo)) (bounds_fit x.cell c.args.lo c.args.hi is).0)

pub tell_token-requires-2-clause-fits : goal.tell_token-requires-2-clause-fits
tell_token-requires-2-clause-fits c =
    let (x, at, is) = c.requires.value in
    (x, at, subst (λ (n : ℤ). Fits x.cell (AtMost n)) (sym (to_z-of_z w64 c.args.hi c.ranges.hi)) (bounds_fit x.cell c.args.lo c.args.hi is).1)

pub returns-clause-told : goal.returns-clause-told
returns-clause-told c = λ x at.
    c.tell_token-2.ensures.told x at
    ∙ ap (λ n. tell_word c.tell_token.new.words (told_as x (AtMost n))) (to_z-of_z w64 c.args.hi c.ranges.hi)
    ∙ ap (λ ws. tell_word ws (told_as x (AtMost c.args.hi)))
    (c.tell_token.ensures.told x at ∙ ap (λ n. tell_word c.args.words.now (told_as x (AtLeast n))) (to_z-of_z w64 c.args.lo c.ranges.lo))
