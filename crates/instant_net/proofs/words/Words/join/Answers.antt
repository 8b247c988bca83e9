use Rattle.std.proofs.Common.{◌+◌, sym, ap, ◌∙◌, subst, arith}
use Rattle.std.specs.Prelude.{slice_index_or}
use Rattle.instant_net.specs.declared.words.How.TheVariants.{Or}
use Rattle.instant_net.specs.Words.{hows, tell_word, told_to, AreWords}
use Rattle.instant_net.proofs.JoinedWords.{AreJoinedBelow, next-joined, all-joined}
use Rattle.instant_net.proofs.SeenViews.{told_words, word_there}
use Rattle.instant_net.proofs.WordPlaces.{as_many}
use Rattle.instant_net.proofs.words.Words.join.Goals as goal

pub at-requires : goal.at-requires
at-requires c =
    let test = c.loop-word-test.true in
    let count = c.words-word-end.ensures in
    word_there c.args.net.now.cells c.args.others.now c.requires.others c.loop-word.word (omega arith)

pub take-requires : goal.take-requires
take-requires c =
    let test = c.loop-word-test.true in
    let count = c.words-word-end.ensures in
    word_there c.args.net.now.cells c.loop-word.self c.loop-word.invariant.words c.loop-word.word (omega arith)

pub loop-word-preserved : goal.loop-word-preserved
loop-word-preserved c =
    let test = c.loop-word-test.true in
    let count = c.words-word-end.ensures in
    let told = c.take.ensures
    ∙ ap (λ how. tell_word c.loop-word.self (told_to c.loop-word.word how c.at.result)) c.how.ensures
    ∙ ap (λ bits. tell_word c.loop-word.self (told_to c.loop-word.word (slice_index_or (hows c.args.net.now.cells) c.loop-word.word Or) bits)) c.at.ensures in
    record {
      joined = subst (AreJoinedBelow (hows c.args.net.now.cells) (c.loop-word.word + 1) c.args.self.now c.args.others.now) (sym told)
          (next-joined (hows c.args.net.now.cells) c.loop-word.word c.args.self.now c.args.others.now c.loop-word.self c.loop-word.invariant.joined (word_there c.args.net.now.cells c.args.self.now c.requires.words c.loop-word.word (omega arith)));
      words = subst (AreWords c.args.net.now.cells) (sym c.take.ensures) (told_words c.args.net.now.cells c.loop-word.self c.loop-word.invariant.words c.loop-word.word c.at.result c.how.result (omega arith) c.how.ensures);
    }

pub returns-clause-joined : goal.returns-clause-joined
returns-clause-joined c =
    let past = c.loop-word-test.false in
    let count = c.words-word-end.ensures in
    let long = c.requires.words.long in
    let many = as_many c.args.net.now.cells in
    all-joined (hows c.args.net.now.cells) c.loop-word.word c.args.self.now c.args.others.now c.loop-word.self c.loop-word.invariant.joined (omega arith)
