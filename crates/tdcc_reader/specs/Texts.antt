-- The programs that texts are.
use Rattle.std.specs.Prelude.{ℕ, List}
use Rattle.program_grammar.specs.Phrases.{ProgramPhrase}
use Rattle.tdcc_reader.specs.declared.dialect.Dialect.{Dialect}
use Rattle.tdcc_reader.specs.declared.dialect.Dialect.TheVariants as dialects
use Rattle.tdcc_reader.specs.Refusals.{Accepts}
use Rattle.tdcc_reader.specs.Surfaces.{SurfaceProgram, IsSurfaceOf}

-- the text is accepted, and this is its surface
abbrev pub ReadsAs : Dialect → List ℕ → SurfaceProgram → Type 0
ReadsAs dialect text s = (p : ProgramPhrase) × Accepts dialect text p × IsSurfaceOf p s

-- some program text is accepted, and this is its surface
abbrev pub IsSurface : SurfaceProgram → Type 0
IsSurface s = (text : List ℕ) × ReadsAs dialects.Program text s
