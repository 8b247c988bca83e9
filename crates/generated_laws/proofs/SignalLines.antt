-- Each generated line gives an input of the program: its fields are names of declared signals, and each says that its signal is on.
use Rattle.std.proofs.Common.{◌≡◌, ℕ, zero, suc, ◌+◌, ◌<◌, Bool, true, false, List, [], ◌∷◌, ◌++◌, take, Option, Some, None, refl, sym, ap, ◌∙◌, subst, arith}
use Rattle.std.specs.Prelude.{All, IsTrue, codes, map, nat_eq, slice_get}
use Rattle.std.specs.FinMap.{empty}
use Rattle.std.specs.Fmt.{digits}
use Rattle.std.specs.List.{join_with_byte, position, range_with_len}
use Rattle.std.specs.Cmp.Lexicographic.{pointwise}
use Rattle.std.proofs.lemmas.Bool.{eqb-true}
use Rattle.std.proofs.lemmas.List.{append-nil}
use Rattle.std.proofs.lemmas.List.Elements.{All-nil, All-cons}
use Rattle.token_system.specs.declared.cell.Token.TheVariants.{On}
use Rattle.token_system.specs.declared.cell.Value.TheVariants as values
use Rattle.token_system.specs.Texts.{is_name}
use Rattle.agent_core.specs.declared.node.CellDecl.{CellDecl}
use Rattle.agent_core.specs.Agents.{Constraint}
use Rattle.agent_core.specs.Programs.{CoreProgram}
use Rattle.agent_core.specs.Tellings.{tell_all}
use Rattle.expansion_laws.specs.SymbolicAgents.{binders}
use Rattle.expansion_laws.specs.Numbering.{cells_from}
use Rattle.expansion_laws.specs.Expansions.{IsExpansion}
use Rattle.trace_text.specs.Draws.{draw_after, drawn}
use Rattle.trace_text.specs.Generated.{joined_by, signal_name, line_text, lines_after, trace_lines}
use Rattle.trace_text.specs.Inputs.{declared_cell, DenoteAll}
use Rattle.trace_text.specs.Laws.{IsLine}
use Rattle.trace_text.specs.Fields.{fields}
use Rattle.trace_text.proofs.GeneratedLines.{trace_line}
use Rattle.trace_text.proofs.GivenInputs.{told_input}
use Rattle.trace_text.proofs.TextDenotations.{SayTexts, SayTexts-append, value_says, line_says}
use Rattle.generated_laws.specs.GeneratedInputs.{GivesSomeInput}
use Rattle.generated_laws.specs.GeneratedSurfaces.{signal_cell, number_cell, cells, surface}
use Rattle.generated_laws.proofs.Parts.{drawn-lt}
use Rattle.generated_laws.proofs.Rows.{row_passes, row_get, all_both}

-- NAMES

signal_named : (j : ℕ) → j < 32 → IsTrue (is_name (signal_name j))
unfolding digits
signal_named j few = row_passes (λ k. is_name (signal_name k)) 0 32 refl j (omega arith) (omega arith)

-- the number of the declared cell of this name
abbrev place_of : List ℕ → List CellDecl → Option ℕ
place_of name ds = position (λ (d : CellDecl). pointwise nat_eq d.name name) ds

abbrev is_place : Option ℕ → ℕ → Bool
is_place (Some k) j = nat_eq k j
is_place None j = false

same_place : (o : Option ℕ) (j : ℕ) → is_place o j ≡ true → o ≡ Some j
same_place (Some k) j e = ap Some (eqb-true k j e)
same_place None j e = cc

signal_placed : (j : ℕ) → j < 32 → place_of (signal_name j) cells ≡ Some j
unfolding digits cells
signal_placed j few = same_place (place_of (signal_name j) cells) j (row_passes (λ k. is_place (place_of (signal_name k) cells) k) 0 32 refl j (omega arith) (omega arith))

-- LINES

-- the separator is one byte
space_joined : (texts : List (List ℕ)) → join_with_byte 32 texts ≡ joined_by (codes " ") texts
space_joined [] = refl
space_joined (text ∷ []) = sym (append-nil text)
space_joined (text ∷ next ∷ texts) = ap (λ (t : List ℕ). text ++ (32 ∷ t)) (space_joined (next ∷ texts))

-- the line says some tokens
abbrev IsSaid : CoreProgram → List ℕ → Type 0
IsSaid p line = (tokens : Constraint) × DenoteAll p (fields line) tokens

module _ (n : ℕ) (p : CoreProgram) (is : IsExpansion (surface n) p) where
  -- the cells of the text are those that are declared
  cells_declared : take p.declared p.cells ≡ cells
  unfolding cells
  cells_declared = let (d, sketched, made) = is in ap (λ (k : ℕ). take k p.cells) made.declared ∙ ap (take 40) made.cells

  signal_found : (j : ℕ) → j < 32 → slice_get p.cells j ≡ Some (signal_cell j)
  unfolding cells
  signal_found j few =
      let (d, sketched, made) = is in
      ap (λ (ds : List CellDecl). slice_get ds j) made.cells ∙ row_get signal_cell 0 32 j (map number_cell (range_with_len 0 8) ++ cells_from cells 40 (binders d)) few ∙ ap (λ (k : ℕ). Some (signal_cell k)) (let same : 0 + j ≡ j = omega arith in same)

  signal_says : (j : ℕ) → j < 32 → SayTexts p (signal_name j ∷ []) ((j, On) ∷ [])
  signal_says j few =
      let named : declared_cell p (signal_name j) ≡ Some j = ap (place_of (signal_name j)) cells_declared ∙ signal_placed j few in
      value_says p j (signal_cell j) (signal_found j few) named (signal_named j few) (values.Signal true false) tt refl

  row_says : (f : ℕ → ℕ) (a count : ℕ) → ((k : ℕ) → f k < 32) → SayTexts p (map (λ k. signal_name (f k)) (range_with_len a count)) (map (λ k. (f k, On)) (range_with_len a count))
  row_says f a zero few = refl
  row_says f a (suc count) few =
      SayTexts-append p (signal_name (f a) ∷ []) (map (λ k. signal_name (f k)) (range_with_len (a + 1) count)) ((f a, On) ∷ []) (map (λ k. (f k, On)) (range_with_len (a + 1) count))
      (signal_says (f a) (few a)) (row_says f (a + 1) count few)

  line_said : (x : ℕ) → IsSaid p (line_text x)
  unfolding line_text
  line_said x =
      let row : List ℕ = range_with_len 1 (drawn x 0 4) in
      let texts : List (List ℕ) = map (λ k. signal_name (drawn x k 32)) row in
      let tokens : Constraint = map (λ k. (drawn x k 32, On)) row in
      (tokens, subst (λ (line : List ℕ). DenoteAll p (fields line) tokens) (space_joined texts) (line_says p texts tokens (row_says (λ k. drawn x k 32) 1 (drawn x 0 4) (λ k. drawn-lt x k 32 (omega arith)))))

  lines_said : (x count : ℕ) → All (IsSaid p) (lines_after x count)
  lines_said x zero = All-nil (IsSaid p)
  lines_said x (suc count) = let next : ℕ = draw_after x (1 + drawn x 0 4) in All-cons (IsSaid p) (line_text x) (lines_after next count) (line_said x) (lines_said next count)

  trace_said : All (IsSaid p) (trace_lines n)
  unfolding trace_lines
  trace_said = lines_said (draw_after n 109) n

  said_given : (line : List ℕ) → IsLine 11 line → IsSaid p line → GivesSomeInput p line
  said_given line short (tokens, said) =
      let few = short.short in
      (tell_all p [] tokens empty, told_input p line tokens (tell_all p [] tokens empty) (omega arith) said refl)

  -- Each line of the trace gives an input.
  pub trace_given : All (GivesSomeInput p) (trace_lines n)
  trace_given = all_both (IsLine 11) (IsSaid p) (GivesSomeInput p) said_given (trace_lines n) (trace_line n) trace_said
