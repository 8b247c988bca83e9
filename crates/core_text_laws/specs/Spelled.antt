-- Texts as programs of the core language: all of reading a text but its limits. This project's own.
use Rattle.std.specs.Prelude.{◌≡◌, ℕ, List, map, length, position, None}
use Rattle.program_lexemes.specs.declared.bytes.TextForm.TheVariants as form
use Rattle.program_lexemes.specs.declared.lexer.Lexeme.{Lexeme}
use Rattle.program_lexemes.specs.Lexemes.{AreLexemes}
use Rattle.program_grammar.specs.declared.words.Language.TheVariants as language
use Rattle.program_grammar.specs.Phrases.{ProgramPhrase}
use Rattle.program_grammar.specs.Programs.{Spells}
use Rattle.agent_core.specs.Agents.{agent_at}
use Rattle.agent_core.specs.Programs.{CoreProgram}
use Rattle.tdcc_reader.specs.LexemeTerms.{terms_of, too_long}
use Rattle.tdcc_reader.specs.Scope.{program_fault}
use Rattle.tdcc_reader.specs.Surfaces.{cell_view, declared_cells, program_cells, program_tree}
use Rattle.core_reader.specs.Trees.{tree_of}

-- The lexemes of the text are not too long, and say a program phrase of the core language. Its names have no fault, and it
-- has the cells of the program and its agent.
pub record IsSpelled (text : List ℕ) (p : CoreProgram) : Type 0 where
  pub lexemes : List Lexeme
  pub lexed : AreLexemes form.Core text lexemes
  pub short : position (too_long text) lexemes ≡ None
  pub phrase : ProgramPhrase
  pub spells : Spells language.Core phrase (terms_of text lexemes)
  pub named : program_fault phrase ≡ None
  pub cells : map cell_view p.cells ≡ program_cells phrase
  pub declared : p.declared ≡ length (declared_cells phrase)
  pub tree : tree_of (agent_at p.nodes 0) ≡ program_tree phrase
