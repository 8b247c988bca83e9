-- The dialects of texts, and what each allows: a program as it is written, and a core program as it is printed. This
-- project's own.
use Rattle.std.specs.Prelude.{ℕ}
use Rattle.program_lexemes.specs.Limits.{longest_program_text, longest_core_text}
use Rattle.program_lexemes.specs.declared.bytes.TextForm.{TextForm}
use Rattle.program_lexemes.specs.declared.bytes.TextForm.TheVariants as form
use Rattle.program_grammar.specs.declared.words.Language.{Language}
use Rattle.program_grammar.specs.declared.words.Language.TheVariants as languages
use Rattle.program_grammar.specs.Phrases.{TokenPhrase, Exactly}
use Rattle.tdcc_reader.specs.Limits.{greatest_depth, greatest_core_depth, most_written_tokens, most_constraint_tokens}
use Rattle.tdcc_reader.specs.declared.dialect.Dialect.{Dialect}
use Rattle.tdcc_reader.specs.declared.dialect.Dialect.TheVariants.{Program, Core}

-- the most bytes that a text may have
abbrev pub max_bytes : Dialect → ℕ
max_bytes Program = longest_program_text
max_bytes Core = longest_core_text

-- what is a lexeme
abbrev pub text_form : Dialect → TextForm
text_form Program = form.Program
text_form Core = form.Core

-- what is a program
abbrev pub language : Dialect → Language
language Program = languages.Whole
language Core = languages.Core

-- the greatest depth of a unit
abbrev pub max_depth : Dialect → ℕ
max_depth Program = greatest_depth
max_depth Core = greatest_core_depth

-- the most tokens of a constraint
abbrev pub max_tokens : Dialect → ℕ
max_tokens Program = most_written_tokens
max_tokens Core = most_constraint_tokens

-- as how many tokens x=n counts: a core text counts the two that it stands for
abbrev pub equation_count : Dialect → ℕ
equation_count Program = 1
equation_count Core = 2

-- as how many a token counts
abbrev pub token_count : Dialect → TokenPhrase → ℕ
token_count dialect (Exactly x n) = equation_count dialect
token_count dialect t = 1
