use Rattle.std.proofs.Common.{◌≡◌, ◌<◌, ◌≤◌, ◌-◌, ℕ, List, [], ◌++◌, length, take, drop, sym, ap, ◌∙◌, arith}
use Rattle.std.proofs.lemmas.List.{take_at}
use Rattle.tdcc_base.specs.Limits.{read_size}
use Rattle.tdcc_base.specs.Unread.{pending}
use Rattle.tdcc_base.proofs.ReadSteps.{fill_piece, nothing_held}
use Rattle.tdcc_base.proofs.read_ahead.ReadAhead.fill.Goals as goal

pub returns-clause-reads : goal.returns-clause-reads
returns-clause-reads g c =
    let bytes : List ℕ = c.read.new.into in
    let size : length bytes ≡ read_size = omega (arith, c.read.auto.into, ap length c.deref_mut.ensures.value, c.args.self.now.sized, c.args.self.now.chunk.ok.0) in
    let none : pending c.args.self.now ≡ [] = nothing_held c.args.self.now c.if-self.false in
    let some : 0 < c.in_ok-count.count = omega (arith, c.if-count-eq0.false) in
    let within : c.in_ok-count.count ≤ length bytes = c.in_ok-count.ensures.bound.0 in
    let old = c.args.self.now.chunk in
    let items : take old.len (bytes ++ drop (length bytes) old.items) ≡ bytes = take_at bytes (drop (length bytes) old.items) old.len (size ∙ sym c.args.self.now.sized) in
    let whole : c.in_ok-count.count - 0 ≡ c.in_ok-count.count = omega arith in
    fill_piece g.S.Source.read_gives c.args.self.now _ c.args.source.now c.read.new.self bytes size c.if-self-2.false none c.in_ok-count.count some within c.if-self-2.false (ap (take (c.in_ok-count.count - 0)) items ∙ ap (λ (k : ℕ). take k bytes) whole) c.in_ok-count.ensures.own
