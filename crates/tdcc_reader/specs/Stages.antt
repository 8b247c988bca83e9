-- The forms that are read today. This project's own.
use Rattle.std.specs.Prelude.{Bool, true, false}
use Rattle.program_grammar.specs.declared.words.Word.{Word}
use Rattle.program_grammar.specs.declared.words.Word.TheVariants.{Set, Colon}

-- the word belongs to a form that is not built yet
abbrev pub is_later : Word → Bool
is_later Set = true
is_later Colon = true
is_later _ = false
