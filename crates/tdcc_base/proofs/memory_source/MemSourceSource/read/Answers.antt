use Rattle.std.proofs.Common.{◌≡◌, ◌<◌, ◌≤◌, ◌+◌, ◌-◌, ℕ, List, length, take, drop, ◌++◌, arith, length-drop, sym, ap, ◌∙◌}
use Rattle.std.specs.List.{concat}
use Rattle.std.proofs.lemmas.List.{take_at, length-take-le}
use Rattle.tdcc_base.specs.Chunks.{pieces_from, skip_empty}
use Rattle.tdcc_base.proofs.Known.{take-tail}
use Rattle.tdcc_base.proofs.PieceSteps.{bytes_given, some_left}
use Rattle.tdcc_base.proofs.memory_source.MemSourceSource.read.Goals as goal

pub returns-clause-bytes : goal.returns-clause-bytes
returns-clause-bytes c =
    let n : ℕ = c.min-count.result in
    let given : ℕ = c.skip.new.self.given in
    let place : ℕ = c.skip.new.self.place in
    let pieces = c.skip.new.self.pieces.items in
    let bytes : List ℕ = c.index.result.now.items in
    let within : place < length pieces = omega (arith, c.if-self-len.false, c.len.ensures, c.skip.new.self.within, c.skip.new.self.pieces.ok.0) in
    let some : given < length bytes = some_left pieces place given c.index.result.now within c.index.ensures c.skip.ensures.some in
    let read = bytes_given pieces place given c.index.result.now within c.index.ensures c.skip.ensures.some n in
    let piece : take (length c.deref.result.now - given) (drop given c.deref.result.now) ≡ drop given bytes = take-tail given c.deref.result.now ∙ ap (drop given) c.deref.ensures.value in
    let got : c.copy_from_slice.new.self ≡ take n (drop given bytes) = c.copy_from_slice.ensures.after ∙ ap (take n) piece in
    let more : n ≤ length (drop given bytes) = omega (arith, c.min-count.ensures, ap length piece) in
    let len : length c.copy_from_slice.new.self ≡ n = ap length got ∙ length-take-le n (drop given bytes) more in (
      ap concat (sym c.skip.ensures.left) ∙ read ∙ ap (λ (xs : List ℕ). xs ++ concat (skip_empty (pieces_from (given + n) (drop place pieces)))) (sym got ∙ sym (take_at c.copy_from_slice.new.self (drop n c.args.into.now) n len)),
      λ none h. absurd (omega (arith, none, c.min-count.ensures, ap length piece, length-drop given bytes, some, c.requires)),
    )
