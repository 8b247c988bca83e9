use Rattle.std.proofs.Common.{◌≡◌, ◌+◌, ◌<◌, ℕ, List, [], ◌∷◌, ◌++◌, Option, length, ap, sym, ◌∙◌, subst}
use Rattle.std.specs.Prelude.{IfNone, option_to_list}
use Rattle.std.proofs.lemmas.List.{append-nil}
use Rattle.std.proofs.lemmas.List.Elements.{All-contains, Contains-push}
use Rattle.settle.specs.Asking.{AreGuards}
use Rattle.settle.specs.Looking.{AreSeenTo}
use Rattle.settle.proofs.Evaluating.{evaluates-then}
use Rattle.settle.proofs.Looks.{seen-below}
use Rattle.settle.proofs.watching.look_below_due.Goals as goal

pub loop-guard-preserved : goal.loop-guard-preserved
loop-guard-preserved g c =
    let had = c.loop-guard.invariant in
    let now = c.look_below.ensures in
    let popped = c.next_due.ensures.due ∙ ap (λ (o : Option ℕ). c.next_due.new.self.due ++ option_to_list o) c.in-Some.is in
    let there : c.in-Some.guard < length c.args.net.now.guards =
    All-contains (λ n. n < length c.args.net.now.guards) (c.next_due.new.self.due ++ c.in-Some.guard ∷ []) c.in-Some.guard (subst (AreGuards c.args.net.now) popped had.noted.due) (Contains-push c.next_due.new.self.due c.in-Some.guard) in
    record {
      words = now.looks.words;
      watch = now.watch;
      noted = now.looks.noted;
      way = λ input output strat out h. now.looks.way input output strat out (had.way input output strat out h);
      seen = seen-below c.args.net.now c.requires.net c.args.stratum c.args.level c.requires.level c.loop-guard.words c.look_below.new.words c.loop-guard.watch.asks.due c.in-Some.guard there c.next_due.new.self c.look_below.new.watch.asks popped now.looks
          now.seen had.seen;
      steps = evaluates-then c.args.net.now c.requires.net c.args.stratum c.args.stratum c.args.words.now c.loop-guard.words c.look_below.new.words c.args.steps.now c.loop-guard.steps c.look_below.new.steps had.way had.steps now.steps;
    }

pub returns-clause-due : goal.returns-clause-due
returns-clause-due g c =
    sym (append-nil c.next_due.new.self.due) ∙ sym (ap (λ (o : Option ℕ). c.next_due.new.self.due ++ option_to_list o) c.in_default.is) ∙ sym c.next_due.ensures.due
    ∙ subst (λ (o : Option ℕ). IfNone o (c.loop-guard.watch.asks.due ≡ [])) c.in_default.is c.next_due.ensures.none

pub returns-clause-seen : goal.returns-clause-seen
returns-clause-seen g c =
    subst (λ (ds : List ℕ). AreSeenTo c.args.net.now (c.args.level + 1) c.loop-guard.words ds) (subst (λ (o : Option ℕ). IfNone o (c.loop-guard.watch.asks.due ≡ [])) c.in_default.is c.next_due.ensures.none) c.loop-guard.invariant.seen
