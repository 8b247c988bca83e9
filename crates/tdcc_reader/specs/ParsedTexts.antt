-- What is read of a text, as a surface.
use Rattle.tdcc_reader.specs.declared.surface.ParsedText.{ParsedText}
use Rattle.tdcc_reader.specs.Surfaces.{SurfaceProgram}

abbrev pub surface_of : ParsedText → SurfaceProgram
surface_of parts = record { cells = parts.cells.items; declared = parts.declared; forms = parts.forms.items }
