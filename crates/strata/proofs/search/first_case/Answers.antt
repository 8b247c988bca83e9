-- The next node.
use Rattle.std.proofs.Common.{ℕ, List, length, sym, ap, ◌∙◌, subst, refl, arith}
use Rattle.agent_core.specs.declared.node.Node.{Node}
use Rattle.agent_core.specs.declared.node.Node.TheVariants as nodes
use Rattle.strata.specs.Items.{AskInside, AllInside}
use Rattle.strata.specs.Search.{first_that, told_below, pairs, reaches_back, named}
use Rattle.strata.proofs.Searches.{program_read, case-hit, case-miss, case-skip}
use Rattle.strata.proofs.Grounded.{program-inside}
use Rattle.strata.proofs.search.first_case.Goals.{in-Else+in_default-first_below, in_default}
use Rattle.strata.proofs.search.first_case.Goals as goal

pub first_below-requires-clause-all : goal.first_below-requires-clause-all
first_below-requires-clause-all c =
    subst (λ (ns : List Node). AllInside (length c.args.rows.now) ns) (sym c.nodes-nodes.ensures.all)
    (subst (λ (k : ℕ). AllInside k c.args.program.now.nodes) (sym c.requires.all) (program-inside c.args.program.now c.nodes-nodes.ensures.program))

pub first_below-requires-clause-ask : goal.first_below-requires-clause-ask
first_below-requires-clause-ask c =
    let read = program_read c.args.program.now c.nodes-nodes.result.now c.nodes-nodes.ensures.all c.loop-n.n c.index-nodes-n.result (nodes.Else c.in-Else.ask c.in-Else.body) c.loop-n-test.true c.index-nodes-n.is c.in-Else.is in
    subst (λ (k : ℕ). AskInside k c.in-Else.ask) (sym c.requires.all) (program-inside c.args.program.now c.nodes-nodes.ensures.program c.loop-n.n (nodes.Else c.in-Else.ask c.in-Else.body) read.1).0

pub first_below-requires-clause-n : goal.first_below-requires-clause-n
first_below-requires-clause-n c =
    let read = program_read c.args.program.now c.nodes-nodes.result.now c.nodes-nodes.ensures.all c.loop-n.n c.index-nodes-n.result (nodes.Else c.in-Else.ask c.in-Else.body) c.loop-n-test.true c.index-nodes-n.is c.in-Else.is in
    let inside = (program-inside c.args.program.now c.nodes-nodes.ensures.program c.loop-n.n (nodes.Else c.in-Else.ask c.in-Else.body) read.1).1 in
    let long = ap length c.nodes-nodes.ensures.all in
    omega arith

pub returns-in-Some : goal.returns-in-Some
returns-in-Some c =
    let read = program_read c.args.program.now c.nodes-nodes.result.now c.nodes-nodes.ensures.all c.loop-n.n c.index-nodes-n.result (nodes.Else c.in-Else.ask c.in-Else.body) c.loop-n-test.true c.index-nodes-n.is c.in-Else.is in
    case-hit (reaches_back c.args.rows.now) c.args.program.now c.nodes-nodes.ensures.program.tree c.loop-n.n read.0 c.in-Else.ask c.in-Else.body c.in-Some.case read.1
    (sym c.in-Some.is ∙ c.first_below.ensures ∙ ap (λ (ns : List Node). first_that (reaches_back c.args.rows.now) (pairs c.in-Else.ask (told_below ns c.in-Else.body))) c.nodes-nodes.ensures.all)
    ∙ ap named (sym c.loop-n.invariant)

pub loop-n-preserved : goal.loop-n-preserved
loop-n-preserved c = c.loop-n.invariant ∙ elim c.match-node.branch [
  | in-Else+in_default-first_below w ↦
      let read = program_read c.args.program.now c.nodes-nodes.result.now c.nodes-nodes.ensures.all c.loop-n.n c.index-nodes-n.result (nodes.Else w.in-Else.ask w.in-Else.body) c.loop-n-test.true c.index-nodes-n.is w.in-Else.is in
      case-miss (reaches_back c.args.rows.now) c.args.program.now c.nodes-nodes.ensures.program.tree c.loop-n.n read.0 w.in-Else.ask w.in-Else.body read.1
      (sym w.in_default-first_below.is ∙ w.first_below.ensures ∙ ap (λ (ns : List Node). first_that (reaches_back c.args.rows.now) (pairs w.in-Else.ask (told_below ns w.in-Else.body))) c.nodes-nodes.ensures.all)
  | in_default w ↦
      let read = program_read c.args.program.now c.nodes-nodes.result.now c.nodes-nodes.ensures.all c.loop-n.n c.index-nodes-n.result c.index-nodes-n.result c.loop-n-test.true c.index-nodes-n.is refl in
      case-skip (reaches_back c.args.rows.now) c.args.program.now c.nodes-nodes.ensures.program.tree c.loop-n.n read.0 c.index-nodes-n.result read.1 w.in_default.not-Else
]
