use Rattle.std.proofs.Common.{◌≡◌, ◌≤◌, ℕ, length, ap, ◌∙◌, subst, rules}
use Rattle.residuals.specs.RootLists.{listed_roots}
use Rattle.instant_net.specs.declared.opening.NetFault.TheVariants.{NetFull}
use Rattle.instant_net.specs.Programs.{root_leaves}
use Rattle.instant_net.specs.Words.{store_in}
use Rattle.tdcc_tool.proofs.InstantNets.{count-of-book, few-leaves, net-of-book, given_net, completed, output-of-run}
use Rattle.tdcc_tool.proofs.instant.output_of.Goals as goal

pub open_words-requires : goal.open_words-requires
open_words-requires c =
    let roots : c.deref.result.now ≡ listed_roots c.args.book.now.roots = c.deref.ensures.value ∙ c.in_ok-roots.ensures.all ∙ ap listed_roots c.roots.ensures in
    let of = net-of-book c.args.book.now c.program.result.now c.levels.result.now c.deref.result.now c.instants.result c.in_ok-net.net c.program.ensures.program c.levels.ensures.levels roots c.instants.ensures c.in_ok-net.ensures.found in
    given_net c.args.book.now c.program.ensures.book c.args.input.now c.requires.input c.by_roots_law.ensures.closures c.one_output_law.ensures c.stratified_net_law.ensures c.net_outputs_law.ensures c.in_ok-net.net of

pub returns : goal.returns
returns c =
    let b = c.args.book.now in
    let net = c.in_ok-net.net in
    let roots : c.deref.result.now ≡ listed_roots b.roots = c.deref.ensures.value ∙ c.in_ok-roots.ensures.all ∙ ap listed_roots c.roots.ensures in
    let of = net-of-book b c.program.result.now c.levels.result.now c.deref.result.now c.instants.result net c.program.ensures.program c.levels.ensures.levels roots c.instants.ensures c.in_ok-net.ensures.found in
    let counted : ℕ = length (root_leaves c.program.result.now c.deref.result.now c.instants.result) in
    let few = few-leaves c.open_net.result net (NetFull counted) counted c.args.limit c.in_ok-net.was c.open_net.ensures.full in
    let output = completed b c.program.ensures.book c.args.input.now c.requires.input c.by_roots_law.ensures.closures c.one_output_law.ensures c.stratified_net_law.ensures c.net_outputs_law.ensures net of
    (store_in net.cells c.in_ok-words.words) (store_in net.cells c.settle_instant.new.words) c.in_ok-words.ensures.store c.in_ok-settle_instant.ensures.settled in
    record {
      net = of;
      words = search rules;
      output = output;
      run = output-of-run b c.program.ensures.book c.args.input.now c.requires.input c.by_roots_law.ensures.closures c.one_output_law.ensures c.stratified_net_law.ensures c.net_outputs_law.ensures net of
          (store_in net.cells c.settle_instant.new.words) output;
      small = subst (λ (n : ℕ). n ≤ c.args.limit) (count-of-book b c.program.result.now c.deref.result.now c.instants.result c.program.ensures.program roots c.instants.ensures) few;
      counted = λ leaves e. absurd (cc);
      full = λ leaves e. absurd (cc);
    }
