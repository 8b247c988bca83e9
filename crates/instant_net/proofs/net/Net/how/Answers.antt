use Rattle.std.proofs.Common.{◌<◌, ◌≤◌, length, sym, arith}
use Rattle.std.proofs.lemmas.Bool.Decides.{nat_tests}
use Rattle.instant_net.specs.Words.{hows}
use Rattle.instant_net.proofs.PartsInWords.{sw, lower_word_how, upper_word_how}
use Rattle.instant_net.proofs.net.Net.how.Goals as goal
use Rattle.instant_net.proofs.net.Net.how.Goals.{then-word-first, else-word-first}

pub returns-then-word-first-eq0 : goal.returns-then-word-first-eq0
returns-then-word-first-eq0 c =
    let first = c.signal_words-first.ensures in
    let value = c.if-word-words.false in
    let low : sw c.args.self.now.cells ≤ c.args.word = elim c.if-word-first.branch [ then-word-first w ↦ (let v = w.value-is in grind arith) | else-word-first w ↦ (let t = w.if-word-first.false in omega arith) ] in
    let high : c.args.word < length (hows c.args.self.now.cells) = elim c.if-word-first.branch [ then-word-first w ↦ (let v = w.value-is in grind arith) | else-word-first w ↦ (let v = w.value-is in let words = w.words.ensures in grind (arith, nat_tests)) ] in
    let even = c.if-word-first-eq0.true in
    sym (lower_word_how c.args.self.now.cells c.args.word low high (omega arith))

pub returns-else-word-first-eq0 : goal.returns-else-word-first-eq0
returns-else-word-first-eq0 c =
    let first = c.signal_words-first.ensures in
    let value = c.if-word-words.false in
    let low : sw c.args.self.now.cells ≤ c.args.word = elim c.if-word-first.branch [ then-word-first w ↦ (let v = w.value-is in grind arith) | else-word-first w ↦ (let t = w.if-word-first.false in omega arith) ] in
    let high : c.args.word < length (hows c.args.self.now.cells) = elim c.if-word-first.branch [ then-word-first w ↦ (let v = w.value-is in grind arith) | else-word-first w ↦ (let v = w.value-is in let words = w.words.ensures in grind (arith, nat_tests)) ] in
    let odd = c.if-word-first-eq0.false in
    sym (upper_word_how c.args.self.now.cells c.args.word low high (λ e. odd (omega arith)))
