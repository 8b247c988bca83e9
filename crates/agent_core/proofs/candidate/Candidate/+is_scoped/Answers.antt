use Rattle.std.proofs.Common.{refl, arith}
use Rattle.agent_core.specs.Drafts.{core_of, locals_of}
use Rattle.agent_core.proofs.ScopeTests.{ask_body-behind, later_body-behind, new_body-behind, left-behind, right-behind, skip_scoped, tell_scoped, ask_scoped, ask_not_scoped, par_scoped, par_not_scoped, new_scoped, later_scoped}
use Rattle.agent_core.proofs.candidate.Candidate.+is_scoped.Goals as goal

pub is_scoped-requires : goal.is_scoped-requires
is_scoped-requires t c =
    let part = left-behind (core_of c.args.self) c.requires.tree c.args.n c.requires.inside c.index-self-n.result c.in-Par.left c.in-Par.right c.in-Par.is in
    (omega (arith, part.0, part.1), (c.requires.tree, part.1))

pub is_scoped-requires-then-is_scoped : goal.is_scoped-requires-then-is_scoped
is_scoped-requires-then-is_scoped t c =
    let part = right-behind (core_of c.args.self) c.requires.tree c.args.n c.requires.inside c.index-self-n.result c.in-Par.left c.in-Par.right c.in-Par.is in
    (omega (arith, part.0, part.1), (c.requires.tree, part.1))

pub is_scoped-requires-in-New : goal.is_scoped-requires-in-New
is_scoped-requires-in-New t c =
    let part = new_body-behind (core_of c.args.self) c.requires.tree c.args.n c.requires.inside c.index-self-n.result c.in-New.cell c.in-New.body c.in-New.is in
    (omega (arith, part.0, part.1), (c.requires.tree, part.1))

pub is_scoped-requires-in-Hence : goal.is_scoped-requires-in-Hence
is_scoped-requires-in-Hence t c =
    let part = later_body-behind (core_of c.args.self) c.requires.tree c.args.n c.requires.inside c.index-self-n.result c.in-Hence.body c.in-Hence.is in
    (omega (arith, part.0, part.1), (c.requires.tree, part.1))

pub is_scoped-requires-then-is_constraint : goal.is_scoped-requires-then-is_constraint
is_scoped-requires-then-is_constraint t c =
    let part = ask_body-behind (core_of c.args.self) c.requires.tree c.args.n c.requires.inside c.index-self-n.result c.in-Then.ask c.in-Then.body c.in-Then.is in
    (omega (arith, part.0, part.1), (c.requires.tree, part.1))

pub returns-in-Skip : goal.returns-in-Skip
returns-in-Skip t c = skip_scoped (core_of c.args.self) c.requires.tree c.args.n c.requires.inside c.index-self-n.result (locals_of c.args.around.now) c.in-Skip.is

pub returns-in-Tell : goal.returns-in-Tell
returns-in-Tell t c =
    tell_scoped (core_of c.args.self) c.requires.tree c.args.n c.requires.inside c.index-self-n.result (locals_of c.args.around.now) c.is_constraint.result
    c.in-Tell.ask c.in-Tell.is c.is_constraint.ensures

pub returns-then-is_scoped : goal.returns-then-is_scoped
returns-then-is_scoped t c =
    par_scoped (core_of c.args.self) c.requires.tree c.args.n c.requires.inside c.index-self-n.result (locals_of c.args.around.now) c.is_scoped-then-is_scoped.result
    c.in-Par.left c.in-Par.right c.in-Par.is (c.if-is_scoped.ensures.0 refl) c.is_scoped-then-is_scoped.ensures

pub returns-else-is_scoped : goal.returns-else-is_scoped
returns-else-is_scoped t c =
    par_not_scoped (core_of c.args.self) c.requires.tree c.args.n c.requires.inside c.index-self-n.result (locals_of c.args.around.now) c.is_scoped.result
    c.in-Par.left c.in-Par.right c.in-Par.is c.if-is_scoped.false c.is_scoped.ensures

pub returns-in-New : goal.returns-in-New
returns-in-New t c =
    new_scoped (core_of c.args.self) c.requires.tree c.args.n c.requires.inside c.index-self-n.result (locals_of c.args.around.now) c.is_scoped-in-New.result
    c.in-New.cell c.in-New.body c.in-New.is c.is_scoped-in-New.ensures

pub returns-in-Hence : goal.returns-in-Hence
returns-in-Hence t c =
    later_scoped (core_of c.args.self) c.requires.tree c.args.n c.requires.inside c.index-self-n.result (locals_of c.args.around.now) c.is_scoped-in-Hence.result
    c.in-Hence.body c.in-Hence.is c.is_scoped-in-Hence.ensures

pub returns-then-is_constraint : goal.returns-then-is_constraint
returns-then-is_constraint t c =
    ask_scoped (core_of c.args.self) c.requires.tree c.args.n c.requires.inside c.index-self-n.result (locals_of c.args.around.now) c.is_scoped-then-is_constraint.result
    c.in-Then.ask c.in-Then.body c.in-Then.is (c.if-is_constraint.ensures.0 refl) c.is_scoped-then-is_constraint.ensures

pub returns-else-is_constraint : goal.returns-else-is_constraint
returns-else-is_constraint t c =
    ask_not_scoped (core_of c.args.self) c.requires.tree c.args.n c.requires.inside c.index-self-n.result (locals_of c.args.around.now) c.is_constraint-in-Then.result
    c.in-Then.ask c.in-Then.body c.in-Then.is c.if-is_constraint.false c.is_constraint-in-Then.ensures
