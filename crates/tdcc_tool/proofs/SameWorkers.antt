-- Words that call the same commands have the same answers.
use Rattle.std.proofs.Common.{ℕ, List, ◌++◌, map, sym, subst, inl, inr}
use Rattle.std.specs.Prelude.{String, string_bytes}
use Rattle.std.specs.declared.alloc.Global.{Global}
use Rattle.command_words.specs.Words.{CallAlike, SetsWorkers}
use Rattle.tdcc_base.specs.declared.status.Status.{Status}
use Rattle.tdcc_tool.specs.Answers.{Answers}
use Rattle.tdcc_tool.specs.Laws.{DifferInWorkers, HaveSameAnswers}

-- an answer to the one is one to the other
other_answer : (words others : List (String Global)) → CallAlike (map string_bytes words) (map string_bytes others) → (bytes : List ℕ) (s : Status) (o e : List ℕ) → Answers words bytes s o e → Answers others bytes s o e
other_answer words others alike bytes s o e (inl (command, is, answer)) = inl (command, (alike command).0 is, answer)
other_answer words others alike bytes s o e (inr usage) = inr (record { none = λ command is. usage.none command ((alike command).1 is); is = usage.is; nothing = usage.nothing; told = usage.told })

pub same_answers : (words others : List (String Global)) → ((front more workers others : List (List ℕ)) → SetsWorkers workers → SetsWorkers others → CallAlike (front ++ workers ++ more) (front ++ others ++ more))
    → DifferInWorkers words others → HaveSameAnswers words others
same_answers words others law d bytes s o e =
    let there = law d.front d.more d.workers d.other_workers d.sets d.others_set in
    let alike : CallAlike (map string_bytes words) (map string_bytes others) =
    subst (λ (ws : List (List ℕ)). CallAlike ws (map string_bytes others)) (sym d.words_are) (subst (CallAlike (d.front ++ d.workers ++ d.more)) (sym d.others_are) there) in
    (other_answer words others alike bytes s o e, other_answer others words (λ command. ((alike command).1, (alike command).0)) bytes s o e)
