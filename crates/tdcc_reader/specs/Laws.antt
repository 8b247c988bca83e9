-- What is proved of refusals. This project's own.
use Rattle.std.specs.Prelude.{◌≡◌, ◌≢◌, ◌⊎◌, ℕ, List}
use Rattle.program_grammar.specs.Phrases.{ProgramPhrase}
use Rattle.tdcc_reader.specs.declared.dialect.Dialect.{Dialect}
use Rattle.tdcc_reader.specs.declared.fault.ReadFault.{ReadFault}
use Rattle.tdcc_reader.specs.declared.fault.ReadFault.TheVariants.{Memory}
use Rattle.tdcc_reader.specs.Refusals.{Accepts, Refuses}
use Rattle.tdcc_reader.specs.Surfaces.{SurfaceProgram}
use Rattle.tdcc_reader.specs.Texts.{ReadsAs}

-- the text is accepted, and has a surface, or it is refused for a reason that is not out of memory
abbrev pub HasVerdict : Dialect → List ℕ → Type 0
HasVerdict dialect text = ((s : SurfaceProgram) × ReadsAs dialect text s) ⊎ ((f : ReadFault) × (f ≢ Memory) × Refuses dialect text f)

-- out of memory aside, the text is refused for one reason at most, at one place
abbrev pub HasOneRefusal : Dialect → List ℕ → Type 0
HasOneRefusal dialect text = (f g : ReadFault) → f ≢ Memory → g ≢ Memory → Refuses dialect text f → Refuses dialect text g → f ≡ g

-- out of memory aside, the text is not refused where it is accepted
abbrev pub AcceptedIsNotRefused : Dialect → List ℕ → Type 0
AcceptedIsNotRefused dialect text = (p : ProgramPhrase) (f : ReadFault) → f ≢ Memory → Accepts dialect text p → Refuses dialect text f → ⊥
