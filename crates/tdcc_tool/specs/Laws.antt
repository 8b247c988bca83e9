-- What is proved of the definitions themselves.
use Rattle.std.specs.Prelude.{◌≡◌, ◌↔◌, ℕ, List, ◌++◌, All, map, String, string_bytes}
use Rattle.std.specs.declared.alloc.Global.{Global}
use Rattle.command_words.specs.Words.{SetsWorkers}
use Rattle.tdcc_base.specs.declared.status.Status.{Status}
use Rattle.token_system.specs.Stores.{StoreMap}
use Rattle.agent_core.specs.Programs.{CoreProgram}
use Rattle.agent_core.specs.Stores.{IsStore}
use Rattle.agent_core.specs.Outputs.{IsOutput, IsRun}
use Rattle.agent_laws.specs.Laws.{ExactlyOne}
use Rattle.tdcc_tool.specs.Accepted.{IsAccepted}
use Rattle.tdcc_tool.specs.Answers.{Answers}

-- the program of an accepted text has exactly one output, after any closed stores, on each of its stores
abbrev pub AcceptedHaveOneOutput : List ℕ → Type 0
AcceptedHaveOneOutput text = (p : CoreProgram) → IsAccepted text p → (closed : List StoreMap) (input : StoreMap) → IsStore p input → ExactlyOne (IsOutput p closed input)

-- and exactly one run on inputs
abbrev pub AcceptedHaveOneRun : List ℕ → Type 0
AcceptedHaveOneRun text = (p : CoreProgram) → IsAccepted text p → (ins : List StoreMap) → All (IsStore p) ins → ExactlyOne (IsRun p ins)

-- the words and the bytes have an answer
abbrev pub HaveAnswer : List (String Global) → List ℕ → Type 0
HaveAnswer words bytes = (s : Status) × (o : List ℕ) × (e : List ℕ) × Answers words bytes s o e

-- the words differ in the number of workers alone
pub record DifferInWorkers (words others : List (String Global)) : Type 0 where
  pub front : List (List ℕ)
  pub more : List (List ℕ)
  pub workers : List (List ℕ)
  pub other_workers : List (List ℕ)
  pub sets : SetsWorkers workers
  pub others_set : SetsWorkers other_workers
  pub words_are : map string_bytes words ≡ front ++ workers ++ more
  pub others_are : map string_bytes others ≡ front ++ other_workers ++ more

-- whatever the bytes, they have the same answers
abbrev pub HaveSameAnswers : List (String Global) → List (String Global) → Type 0
HaveSameAnswers words others = (bytes : List ℕ) (s : Status) (o e : List ℕ) → Answers words bytes s o e ↔ Answers others bytes s o e
