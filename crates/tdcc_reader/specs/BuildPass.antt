-- The pass that builds the flat forms of a program: the flat forms so far, the tokens of the constraint at hand, where the unit
-- at hand of each open agent and of each open do and time begins, the names in scope, the cells, what waits for a later
-- term, and how many cells are declared.
use Rattle.std.specs.Prelude.{ℕ, min, ℤ, List, [], ◌∷◌, ◌++◌, length, map}
use Rattle.token_system.specs.declared.cell.Token.{Token}
use Rattle.token_system.specs.declared.cell.Token.TheVariants as token
use Rattle.program_grammar.specs.Terms.{Term}
use Rattle.program_grammar.specs.declared.words.Word.{Word}
use Rattle.program_grammar.specs.declared.words.Word.TheVariants as word
use Rattle.program_grammar.specs.declared.stack_symbols.StackSymbol.{StackSymbol}
use Rattle.program_grammar.specs.declared.stack_symbols.StackSymbol.TheVariants.{Declarations, OneUnit, MoreUnits, OneToken, Bound, Branch, DeniedName, ClashingName, DeclaredName, LocalName, DeclaredIntName, LocalIntName, LowNumber, HighNumber, LeastNumber, MostNumber, ExactNumber, TheDo, EndTell, EndLocal, EndWatch, EndTimed}
use Rattle.tdcc_reader.specs.declared.flat_form.FlatFormKind.{FlatFormKind}
use Rattle.tdcc_reader.specs.declared.flat_form.FlatFormKind.TheVariants as kind
use Rattle.tdcc_reader.specs.declared.build.Builder as code
use Rattle.tdcc_reader.specs.declared.build.Held as code_held
use Rattle.tdcc_reader.specs.declared.build.Held.TheVariants as held
use Rattle.agent_core.specs.Agents.{Constraint}
use Rattle.tdcc_reader.specs.Surfaces.{Placed, placed, cell_in_scope, Declared, declared_signal, declared_number, cell_view}
use Rattle.tdcc_reader.specs.FlatForms.{Entry, entry}
use Rattle.tdcc_reader.specs.OpenForms.{OpenForms, open_forms, paired, wrapped}
use Rattle.tdcc_reader.specs.Passes.{Pass, by_term, less_first}

-- what waits for a later term: nothing, the cell of a token, the name of a declared_number, or that with its least value
pub data Waits : Type 0 where
  Nothing : Waits
  Subject : (cell : ℕ) → Waits
  Item : (name : List ℕ) → Waits
  Low : (name : List ℕ) → (value : ℤ) → Waits

pub record Built : Type 0 where
  pub flat_forms : List Entry
  pub ask : Constraint
  pub starts : List ℕ
  pub scope : List Placed
  pub cells : List Declared
  pub waits : Waits
  pub declared : ℕ

abbrev pub built : List Entry → Constraint → List ℕ → List Placed → List Declared → Waits → ℕ → Built
built f a s n c w d = record { flat_forms = f; ask = a; starts = s; scope = n; cells = c; waits = w; declared = d }

-- what the code has of it
abbrev pub waits_view : code_held.Held → Waits
waits_view held.Nothing = Nothing
waits_view (held.Subject cell) = Subject cell
waits_view (held.Item name) = Item name.now
waits_view (held.Low name value) = Low name.now value

abbrev pub scoped_view : List ℕ × ℕ → Placed
scoped_view s = placed s.0 s.1

abbrev pub built_view : code.Builder → Built
built_view b = built b.insertions.flat_forms b.ask.items b.insertions.starts (map scoped_view b.scope) (map cell_view b.cells.items) (waits_view b.held) b.declared

-- a flat form without a constraint, or with the one at hand
abbrev pub puts : FlatFormKind → Built → Built
puts k b = built (b.flat_forms ++ entry k [] ∷ []) b.ask b.starts b.scope b.cells b.waits b.declared

abbrev pub puts_asked : FlatFormKind → Built → Built
puts_asked k b = built (b.flat_forms ++ entry k b.ask ∷ []) [] b.starts b.scope b.cells b.waits b.declared

-- a token of a cell
abbrev pub asks : ℕ → Token → Built → Built
asks cell t b = built b.flat_forms (b.ask ++ (cell, t) ∷ []) b.starts b.scope b.cells b.waits b.declared

abbrev pub waits_for : Waits → Built → Built
waits_for w b = built b.flat_forms b.ask b.starts b.scope b.cells w b.declared

-- the tokens of the cell that waits
abbrev pub asks_waiting : Waits → List Token → Built → Built
asks_waiting (Subject cell) ts b = built b.flat_forms (b.ask ++ map (λ t. (cell, t)) ts) b.starts b.scope b.cells Nothing b.declared
asks_waiting _ ts b = b

-- the unit at hand begins behind the flat forms so far
abbrev pub begins : Built → Built
begins b = built b.flat_forms b.ask (length b.flat_forms ∷ b.starts) b.scope b.cells b.waits b.declared

abbrev pub ends : Built → Built
ends b = built b.flat_forms b.ask (less_first b.starts) b.scope b.cells b.waits b.declared

-- what has grown
abbrev pub grows : OpenForms → Built → Built
grows g b = built g.flat_forms b.ask g.starts b.scope b.cells b.waits b.declared

-- the unit at hand is the left part of a par, and the next one begins
abbrev pub next_unit : Built → Built
next_unit b = grows (paired b.starts (open_forms b.flat_forms b.starts)) b

-- the unit at hand is the body of a form with the constraint at hand
abbrev pub wraps : FlatFormKind → Built → Built
wraps k b =
    let g = wrapped (entry k b.ask) b.starts (open_forms b.flat_forms b.starts) in
    built g.flat_forms [] g.starts b.scope b.cells b.waits b.declared

-- the declared_number of the next cell
abbrev pub next_cell : List Declared → ℕ
next_cell cells = min (length cells) 4294967295

abbrev pub builds_declaration : List ℕ → Declared → Built → Built
builds_declaration x c b = built b.flat_forms b.ask b.starts (placed x (next_cell b.cells) ∷ b.scope) (b.cells ++ c ∷ []) b.waits b.declared

abbrev pub declares_signal : List ℕ → Built → Built
declares_signal x b = builds_declaration x (declared_signal x) b

-- the declared_number that waits, with its greatest value
abbrev pub declares_number : Waits → ℤ → Built → Built
declares_number (Low x low) high b = waits_for Nothing (builds_declaration x (declared_number x low high) b)
declares_number _ high b = b

abbrev pub builds_low : Waits → ℤ → Built → Built
builds_low (Item x) low b = waits_for (Low x low) b
builds_low _ low b = b

abbrev pub builds_scope_end : Built → Built
builds_scope_end b = built b.flat_forms b.ask b.starts (less_first b.scope) b.cells b.waits b.declared

abbrev pub counts_declared : Built → Built
counts_declared b = built b.flat_forms b.ask b.starts b.scope b.cells b.waits (length b.cells)

-- a part matches a name
abbrev pub builds_name : StackSymbol → List ℕ → Built → Built
builds_name OneUnit x b = waits_for (Subject (cell_in_scope b.scope x)) b
builds_name OneToken x b = waits_for (Subject (cell_in_scope b.scope x)) b
builds_name DeniedName x b = asks (cell_in_scope b.scope x) token.Off b
builds_name ClashingName x b = asks (cell_in_scope b.scope x) token.Clash b
builds_name DeclaredName x b = declares_signal x b
builds_name LocalName x b = declares_signal x (puts (kind.New (next_cell b.cells)) b)
builds_name DeclaredIntName x b = waits_for (Item x) b
builds_name LocalIntName x b = waits_for (Item x) (puts (kind.New (next_cell b.cells)) b)
builds_name _ x b = b

-- a part matches a declared_number
abbrev pub builds_number : StackSymbol → ℤ → Built → Built
builds_number LowNumber n b = builds_low b.waits n b
builds_number HighNumber n b = declares_number b.waits n b
builds_number LeastNumber n b = asks_waiting b.waits (token.AtLeast n ∷ []) b
builds_number MostNumber n b = asks_waiting b.waits (token.AtMost n ∷ []) b
builds_number ExactNumber n b = asks_waiting b.waits (token.AtLeast n ∷ token.AtMost n ∷ []) b
builds_number _ n b = b

-- a unit begins with a keyword or symbol
abbrev pub builds_unit : Word → Built → Built
builds_unit word.Skip b = puts kind.Skip b
builds_unit word.OpenBrace b = begins b
builds_unit word.Hence b = puts kind.Hence b
builds_unit word.Next b = puts kind.Next b
builds_unit word.Always b = puts kind.Always b
builds_unit word.Do b = begins (begins b)
builds_unit word.Time b = begins (begins b)
builds_unit _ b = b

-- the ask of if is whole
abbrev pub builds_branch : Word → Built → Built
builds_branch word.Then b = puts_asked kind.Then b
builds_branch word.Else b = puts_asked kind.Else b
builds_branch _ b = b

-- a part matches a keyword or symbol
abbrev pub builds_word : StackSymbol → Word → Built → Built
builds_word OneUnit w b = builds_unit w b
builds_word MoreUnits w b = next_unit b
builds_word Branch w b = builds_branch w b
builds_word TheDo w b = puts_asked kind.When b
builds_word _ w b = b

abbrev pub builds_matched : StackSymbol → Term → Built → Built
builds_matched p t b = by_term (λ x. builds_name p x b) (λ n. builds_number p n b) (λ w. builds_word p w b) t

abbrev pub builds_skipped : StackSymbol → Built → Built
builds_skipped Declarations b = counts_declared b
builds_skipped MoreUnits b = ends b
builds_skipped Bound b = asks_waiting b.waits (token.On ∷ []) b
builds_skipped EndTell b = puts_asked kind.Tell b
builds_skipped EndLocal b = builds_scope_end b
builds_skipped EndWatch b = wraps kind.Watch b
builds_skipped EndTimed b = wraps kind.Time b
builds_skipped _ b = b

abbrev pub build_pass : Pass Built
build_pass = record { matches = λ at p t b. builds_matched p t b; skips = builds_skipped }

-- before the first step
abbrev pub nothing_built : Built
nothing_built = built [] [] (0 ∷ []) [] [] Nothing 0
