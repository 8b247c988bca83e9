-- The core text of a program with good names is read as that program.
use Rattle.std.proofs.Common.{◌≡◌, [], length, refl, sym, ap, ◌∙◌, arith}
use Rattle.std.proofs.lemmas.List.{length-map}
use Rattle.program_lexemes.specs.declared.bytes.TextForm.TheVariants as form
use Rattle.program_grammar.specs.Spelling.{program}
use Rattle.agent_core.specs.Agents.{agent_at}
use Rattle.agent_core.specs.Programs.{CoreProgram}
use Rattle.agent_core.specs.WellFormed.{IsWellFormed}
use Rattle.agent_core.proofs.ListingTrees.{length-listing}
use Rattle.tdcc_reader.specs.declared.dialect.Dialect.TheVariants as dialect
use Rattle.tdcc_reader.specs.Trees.{form_count}
use Rattle.tdcc_reader.specs.LexemeTerms.{terms_of}
use Rattle.tdcc_reader.specs.Surfaces.{cell_view, program_tree, program_cells}
use Rattle.tdcc_reader.specs.Refusals.{Accepts}
use Rattle.core_text.specs.CoreTexts.{core_text}
use Rattle.core_text.specs.GoodNames.{HasGoodNames}
use Rattle.core_text.proofs.TextLengths.{text_length}
use Rattle.core_reader.specs.Readings.{IsCoreText}
use Rattle.core_reader.proofs.NodeForms.{same_size}
use Rattle.core_text_laws.proofs.CorePhrases.{program_phrase}
use Rattle.core_text_laws.proofs.CoreLimits.{program_within}
use Rattle.core_text_laws.proofs.NoLater.{none_later}
use Rattle.core_text_laws.proofs.CoreCells.{program_declared, program_seen}
use Rattle.core_text_laws.proofs.CoreTrees.{program_kept}
use Rattle.core_text_laws.proofs.CoreNames.{program_clean}
use Rattle.core_text_laws.proofs.Written.{written_lexed}
use Rattle.core_text_laws.proofs.CoreAgents.{text_says}
use Rattle.core_text_laws.proofs.Spellings.{phrase_is_core, listed}

module _ (p : CoreProgram) (is : IsWellFormed p) (good : HasGoodNames p) where
  -- nothing refuses the core text, which is the program's phrase
  accepted : Accepts dialect.Core (core_text p) (program_phrase p)
  accepted =
      let lexed = written_lexed form.Core (core_text p) (program (program_phrase p) []) (text_says p good is) in
      let declared = program_declared p is in
      let few = is.limits.few_declared in
      record {
        terms = terms_of (core_text p) lexed.lexemes;
        has = record { lexemes = lexed.lexemes; lexed = record { within = text_length p is good; lexemes = lexed.lexed }; short = lexed.short; terms = refl };
        is = record {
          built = none_later (program_phrase p) (terms_of (core_text p) lexed.lexemes) lexed.terms_are;
          spells = record { allowed = phrase_is_core p; spelled = lexed.terms_are };
        };
        within = program_within p is;
        named = program_clean p good is;
        declared = omega arith;
      }

  -- the phrase has as many forms as the program has nodes, and as many cells
  forms_many : form_count (program_tree (program_phrase p)) ≡ length p.nodes
  forms_many =
      sym (ap form_count (program_kept p good is)) ∙ same_size (agent_at p.nodes 0)
      ∙ sym (length-listing 0 (agent_at p.nodes 0)) ∙ sym (ap length (listed p is))

  cells_many : length (program_cells (program_phrase p)) ≡ length p.cells
  cells_many = sym (ap length (program_seen p is good)) ∙ length-map p.cells cell_view

  -- The core text is that program.
  pub text_read : IsCoreText (core_text p) p
  text_read =
      let nodes = is.limits.few_nodes in
      let cells = is.limits.few_cells in (
        program_phrase p,
        record { accepts = accepted; few_nodes = omega (arith, forms_many); few_cells = omega (arith, cells_many) },
        record { agent = agent_at p.nodes 0; nodes = listed p is; tree = program_kept p good is; cells = program_seen p is good; declared = program_declared p is },
      )
