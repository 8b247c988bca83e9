use Rattle.std.proofs.Common.{◌<◌, ◌≤◌, ◌∷◌, [], ◌+◌, ◌-◌, take, drop, ℕ, List, length, get_or, subst, sym, ap, ◌∙◌, arith}
use Rattle.std.specs.Io.KnownBytes.{Keeps, Consumes, prepend_known}
use Rattle.tdcc_base.specs.Unread.{unread}
use Rattle.tdcc_base.proofs.Known.{take-first, Consumes-first}
use Rattle.tdcc_base.proofs.read_ahead.ReadAhead.next.Goals as goal

pub invariant_of-self : goal.invariant_of-self
invariant_of-self g c =
    let more : c.fill.new.self.from < c.fill.new.self.to = rw c.if-more.true at c.in_ok-more.ensures.more in
    record { sized = c.fill.new.self.sized; ordered = omega arith; within = c.fill.new.self.within }

pub returns-then-more-clause-gave : goal.returns-then-more-clause-gave
returns-then-more-clause-gave g c =
    let more : c.fill.new.self.from < c.fill.new.self.to = rw c.if-more.true at c.in_ok-more.ensures.more in
    let long : c.fill.new.self.to ≤ length c.fill.new.self.chunk.items = omega (arith, c.fill.new.self.within, c.fill.new.self.sized, c.fill.new.self.chunk.ok.0) in
    let d : ℕ = c.index-byte.result.now in
    let items : List ℕ = c.fill.new.self.chunk.items in
    let first = take-first c.fill.new.self.from c.fill.new.self.to items d more long in
    let old = unread g.S.Source.left c.args.self.now c.args.source.now in
    let kept = subst (λ (xs : List ℕ). Keeps old (prepend_known xs (g.S.Source.left c.fill.new.source))) first c.in_ok-more.ensures.same in
    let rest : List ℕ = take (c.fill.new.self.to - (c.fill.new.self.from + 1)) (drop (c.fill.new.self.from + 1) items) in
    subst (λ (y : ℕ). Consumes old (prepend_known rest (g.S.Source.left c.fill.new.source)) (y ∷ [])) (sym c.index-byte.ensures) (Consumes-first old (g.S.Source.left c.fill.new.source) (get_or items c.fill.new.self.from d) rest kept)

pub returns-then-more-clause-reads : goal.returns-then-more-clause-reads
returns-then-more-clause-reads g c =
    let more : c.fill.new.self.from < c.fill.new.self.to = rw c.if-more.true at c.in_ok-more.ensures.more in
    let long : c.fill.new.self.to ≤ length c.fill.new.self.chunk.items = omega (arith, c.fill.new.self.within, c.fill.new.self.sized, c.fill.new.self.chunk.ok.0) in
    let d : ℕ = c.index-byte.result.now in
    let first = take-first c.fill.new.self.from c.fill.new.self.to c.fill.new.self.chunk.items d more long in
    let byte = ap (λ (x : ℕ). x ∷ take (c.fill.new.self.to - (c.fill.new.self.from + 1)) (drop (c.fill.new.self.from + 1) c.fill.new.self.chunk.items)) (sym c.index-byte.ensures) in
    let r = c.in_ok-more.ensures.reads in
    record {
      pieces = r.pieces;
      last = r.last;
      given = r.given;
      needed = r.needed;
      ending = r.ending;
      takes = sym r.takes ∙ first ∙ byte;
    }
