-- The core text of the program of a text reads as that program alone.
use Rattle.std.proofs.Common.{◌≡◌, ◌⊎◌, ℕ, List, Result, Ok, Err}
use Rattle.agent_core.specs.Programs.{CoreProgram}
use Rattle.core_text.specs.CoreTexts.{core_text}
use Rattle.core_text.specs.GoodNames.{HasGoodNames}
use Rattle.tdcc_reader.specs.declared.fault.ReadFault.{ReadFault}
use Rattle.tdcc_reader.specs.declared.fault.ReadFault.TheVariants.{Memory}
use Rattle.core_reader.specs.Readings.{IsCoreText, MayAnswer}
use Rattle.core_reader.proofs.CoreVerdicts.{one_answer, one_core_text}
use Rattle.core_text_laws.proofs.ReadBack.{text_read}
use Rattle.surface_laws.proofs.WellFormed.{surface_formed}
use Rattle.expansion_laws.proofs.WholePrograms.{expansion_names}
use Rattle.tdcc_tool.specs.Accepted.{IsTextOf}
use Rattle.tdcc_tool.proofs.AcceptedPrograms.{built_program}

-- the names of the program of a text can be written and read back
built_names : (text : List ℕ) (p : CoreProgram) → IsTextOf text p → HasGoodNames p
built_names text p a =
    let (d, drawn, made) = a.core.expansion in
    expansion_names a.surface (surface_formed a.surface (text, a.reads)) d p made a.core.few_nodes a.core.few_cells drawn

pub built_read_back : (text : List ℕ) (p : CoreProgram) → IsTextOf text p → IsCoreText (core_text p) p
built_read_back text p a = text_read p (built_program text p a) (built_names text p a)

pub built_one_reading : (text : List ℕ) (p q : CoreProgram) → IsTextOf text p → IsCoreText (core_text p) q → q ≡ p
built_one_reading text p q a is = one_core_text (core_text p) q p is (built_read_back text p a)

pub built_one_answer : (text : List ℕ) (p : CoreProgram) → IsTextOf text p → (answer : Result CoreProgram ReadFault) → MayAnswer (core_text p) answer
    → (answer ≡ Ok p) ⊎ (answer ≡ Err Memory)
built_one_answer text p a answer may = one_answer (core_text p) p answer (built_read_back text p a) may
