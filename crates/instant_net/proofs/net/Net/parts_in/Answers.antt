use Rattle.std.proofs.Common.{◌≡◌, ap, ◌∙◌, arith}
use Rattle.instant_net.specs.Nets.{Flat}
use Rattle.instant_net.specs.Words.{signals}
use Rattle.instant_net.proofs.PartsInWords.{signals_there, word_parts_there}
use Rattle.instant_net.proofs.net.Net.parts_in.Goals as goal

pub returns-then-word-words-clause-there : goal.returns-then-word-words-clause-there
returns-then-word-words-clause-there c =
    let there = signals_there c.args.self.now.cells in
    let min = c.min.ensures in
    let count : c.count_signals-signals.result ≡ signals c.args.self.now.cells = c.count_signals-signals.ensures ∙ ap signals c.as_slice.ensures.value ∙ ap (λ (n : Flat). signals n.cells) c.self.view_is in
    omega arith

pub returns-else-word-words-clause-there : goal.returns-else-word-words-clause-there
returns-else-word-words-clause-there c =
    let count : c.count_signals-signals.result ≡ signals c.args.self.now.cells = c.count_signals-signals.ensures ∙ ap signals c.as_slice.ensures.value ∙ ap (λ (n : Flat). signals n.cells) c.self.view_is in
    let words = c.signal_words-words.ensures in
    let other = c.if-word-words.false in
    let there = word_parts_there c.args.self.now.cells c.args.word (omega arith) c.requires in
    omega arith
