use Rattle.std.proofs.Common.{arith}
use Rattle.std.specs.Prelude.{map}
use Rattle.std.proofs.lemmas.List.{length-map}
use Rattle.tdcc_reader.specs.Dialects.{language}
use Rattle.tdcc_reader.specs.TermViews.{term_view}
use Rattle.tdcc_reader.specs.BuildPass.{built_view}
use Rattle.tdcc_reader.proofs.Finished.{all_checked, few_cells, many_declared, not_many}
use Rattle.tdcc_reader.proofs.reader.build_checked.Goals as goal

pub returns-clause-found : goal.returns-clause-found
returns-clause-found c = λ p is are.
    let l = length-map c.args.terms.now term_view in
    let r = c.requires in
    let few = few_cells c.args.dialect (map term_view c.args.terms.now) p is (omega arith) in
    all_checked c.args.dialect p (built_view c.in_ok-built.built) (c.in_ok-check_limits.ensures.kept (language c.args.dialect) p is.spells are) (c.in_ok-check_names.ensures.kept (language c.args.dialect) p is.spells are) (c.in_ok-built.ensures (language c.args.dialect) p is.spells are few) c.if-built-gt-MAX_DECLARED.false

pub returns-then-built-gt-MAX_DECLARED-clause-fault : goal.returns-then-built-gt-MAX_DECLARED-clause-fault
returns-then-built-gt-MAX_DECLARED-clause-fault c = λ p is are.
    let l = length-map c.args.terms.now term_view in
    let r = c.requires in
    let few = few_cells c.args.dialect (map term_view c.args.terms.now) p is (omega arith) in
    (p, is, c.in_ok-check_limits.ensures.kept (language c.args.dialect) p is.spells are, c.in_ok-check_names.ensures.kept (language c.args.dialect) p is.spells are, many_declared p (built_view c.in_ok-built.built) (c.in_ok-built.ensures (language c.args.dialect) p is.spells are few) c.if-built-gt-MAX_DECLARED.true)

pub returns-then-built-gt-MAX_DECLARED-clause-complete : goal.returns-then-built-gt-MAX_DECLARED-clause-complete
returns-then-built-gt-MAX_DECLARED-clause-complete c = λ p is are within named declared.
    let l = length-map c.args.terms.now term_view in
    let r = c.requires in
    let few = few_cells c.args.dialect (map term_view c.args.terms.now) p is (omega arith) in
    not_many p (built_view c.in_ok-built.built) (c.in_ok-built.ensures (language c.args.dialect) p is.spells are few) c.if-built-gt-MAX_DECLARED.true declared
