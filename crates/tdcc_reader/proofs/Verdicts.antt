-- Each text is accepted, with its surface, or it is refused.
use Rattle.std.proofs.Common.{◌≡◌, ◌≢◌, ℕ, ◌+◌, ◌<◌, ◌≤◌, List, [], ◌∷◌, ◌++◌, length, get_or, Option, Some, None, Bool, true, false, refl, ap, ◌∙◌, inl, inr}
use Rattle.std.specs.Prelude.{position, ◌⊎◌, map, ℤ, pos, if◌then◌else◌}
use Rattle.std.proofs.lemmas.Bool.{cases_lt}
use Rattle.std.proofs.lemmas.List.{map-append}
use Rattle.token_system.specs.Domain.{is_cell}
use Rattle.token_system.specs.declared.cell.Kind.TheVariants as cells
use Rattle.agent_core.specs.declared.node.CellDecl.{CellDecl}
use Rattle.program_lexemes.specs.declared.lexer.Lexeme.{Lexeme}
use Rattle.program_lexemes.specs.declared.lexer.LexKind.{LexKind}
use Rattle.program_lexemes.specs.declared.lexer.LexKind.TheVariants as kind
use Rattle.program_lexemes.proofs.Verdicts as lexer
use Rattle.program_grammar.specs.Terms.{Term, classes}
use Rattle.program_grammar.specs.Phrases.{UnitPhrase, Tell, Braces, IfThen, IfElse, LocalSignal, LocalInt, AgentPhrase, Only, Par, NamesPhrase, LastName, MoreName, ItemsPhrase, LastItem, MoreItem, ProgramPhrase, Runs, Signals, Ints}
use Rattle.program_grammar.specs.Phrases as phrase
use Rattle.program_grammar.specs.Programs.{IsProgram, IsFault}
use Rattle.program_grammar.proofs.Verdicts as grammar
use Rattle.agent_core.specs.Limits.{most_declared_cells}
use Rattle.tdcc_reader.specs.declared.dialect.Dialect.{Dialect}
use Rattle.tdcc_reader.specs.declared.fault.ReadFault.{ReadFault}
use Rattle.tdcc_reader.specs.declared.fault.ReadFault.TheVariants.{TextTooLong, Lex, LongName, LongNumber, Later, Syntax, TooDeep, TooManyTokens, DoubleName, EmptyDomain, UnknownName, WrongKind, TooManyDeclared, Memory}
use Rattle.tdcc_reader.specs.declared.limits.Limit.{Limit}
use Rattle.tdcc_reader.specs.declared.limits.Limit.TheVariants as limit
use Rattle.tdcc_reader.specs.declared.naming.NameFault.{NameFault}
use Rattle.tdcc_reader.specs.declared.naming.NameFault.TheVariants as naming
use Rattle.tdcc_reader.specs.Dialects.{max_bytes, text_form, language}
use Rattle.tdcc_reader.specs.LimitFaults.{program_limit}
use Rattle.tdcc_reader.specs.Scope.{program_fault}
use Rattle.tdcc_reader.specs.Surfaces.{Declared, declared, declared_signal, declared_number, cell_view, unit_cells, agent_cells, names_cells, items_cells, declared_cells, program_cells, program_tree, SurfaceProgram, IsSurfaceOf}
use Rattle.tdcc_reader.specs.Trees.{form_listing}
use Rattle.tdcc_reader.specs.LexemeTerms.{terms_of, too_long}
use Rattle.tdcc_reader.specs.Stages.{is_later}
use Rattle.tdcc_reader.specs.Refusals.{IsLexed, HasTerms, IsProgramOf, Refuses, Accepts}
use Rattle.tdcc_reader.specs.Laws.{HasVerdict}
use Rattle.tdcc_reader.proofs.LongLexemes.{first_long, first_told}

-- The surface of a program: these are cells as a program declares them.
abbrev AreSeen : List Declared → Type 0
AreSeen ds = (cs : List CellDecl) × (map cell_view cs ≡ ds)

seen_signal : (x : List ℕ) → (c : CellDecl) × (cell_view c ≡ declared_signal x)
seen_signal x = (record { name = x; cell = record { kind = cells.Signal; lo = pos 0; hi = pos 0; lawful = refl } }, refl)

seen_number : (x : List ℕ) (l h : ℤ) → (c : CellDecl) × (cell_view c ≡ declared_number x l h)
seen_number x l h = go (is_cell cells.Number l h) refl
  where
    go : (b : Bool) → is_cell cells.Number l h ≡ b → (c : CellDecl) × (cell_view c ≡ (if b then declared x cells.Number l h else declared_signal x))
    go true e = (record { name = x; cell = record { kind = cells.Number; lo = l; hi = h; lawful = e } }, refl)
    go false e = seen_signal x

seen_more : (d : Declared) (ds : List Declared) → (c : CellDecl) × (cell_view c ≡ d) → AreSeen ds → AreSeen (d ∷ ds)
seen_more d ds (c, e) (cs, f) = (c ∷ cs, ap (λ x. x ∷ map cell_view cs) e ∙ ap (λ xs. d ∷ xs) f)

seen_append : (ds es : List Declared) → AreSeen ds → AreSeen es → AreSeen (ds ++ es)
seen_append ds es (cs, e) (bs, f) = (cs ++ bs, map-append cell_view cs bs ∙ ap (λ x. x ++ map cell_view bs) e ∙ ap (λ x. ds ++ x) f)

mutual
  unit_seen : (u : UnitPhrase) → AreSeen (unit_cells u)
  unit_seen phrase.Skip = ([], refl)
  unit_seen (Tell c) = ([], refl)
  unit_seen (Braces a) = agent_seen a
  unit_seen (IfThen c u) = unit_seen u
  unit_seen (IfElse c u) = unit_seen u
  unit_seen (LocalSignal x u) = seen_more (declared_signal x) (unit_cells u) (seen_signal x) (unit_seen u)
  unit_seen (LocalInt x l h u) = seen_more (declared_number x l h) (unit_cells u) (seen_number x l h) (unit_seen u)
  unit_seen (phrase.Hence u) = unit_seen u
  unit_seen (phrase.Next u) = unit_seen u
  unit_seen (phrase.Always u) = unit_seen u
  unit_seen (phrase.When c u) = unit_seen u
  unit_seen (phrase.Watching a c) = agent_seen a
  unit_seen (phrase.TimeOn a c) = agent_seen a

  agent_seen : (a : AgentPhrase) → AreSeen (agent_cells a)
  agent_seen (Only u) = unit_seen u
  agent_seen (Par u a) = seen_append (unit_cells u) (agent_cells a) (unit_seen u) (agent_seen a)

names_seen : (ns : NamesPhrase) → AreSeen (names_cells ns)
names_seen (LastName x) = seen_more (declared_signal x) [] (seen_signal x) ([], refl)
names_seen (MoreName x ns) = seen_more (declared_signal x) (names_cells ns) (seen_signal x) (names_seen ns)

items_seen : (is : ItemsPhrase) → AreSeen (items_cells is)
items_seen (LastItem x l h) = seen_more (declared_number x l h) [] (seen_number x l h) ([], refl)
items_seen (MoreItem x l h is) = seen_more (declared_number x l h) (items_cells is) (seen_number x l h) (items_seen is)

program_seen : (p : ProgramPhrase) → AreSeen (program_cells p)
program_seen (Runs a) = agent_seen a
program_seen (Signals ns p) = seen_append (names_cells ns) (program_cells p) (names_seen ns) (program_seen p)
program_seen (Ints is p) = seen_append (items_cells is) (program_cells p) (items_seen is) (program_seen p)

-- Each program has a surface.
pub some_surface : (p : ProgramPhrase) → (s : SurfaceProgram) × IsSurfaceOf p s
some_surface p = let (cs, e) = program_seen p in (record { cells = cs; declared = length (declared_cells p); forms = form_listing 0 (program_tree p) }, record { cells = e; declared = refl; forms = refl })

-- each of these is a verdict
module _ (dialect : Dialect) (text : List ℕ) where
  accepted : (p : ProgramPhrase) → Accepts dialect text p → HasVerdict dialect text
  accepted p a = let (s, is) = some_surface p in inl (s, (p, a, is))

  refused : (f : ReadFault) → f ≢ Memory → Refuses dialect text f → HasVerdict dialect text
  refused f not_memory r = inr (f, not_memory, r)

  -- on a program
  by_declared : (ts : List Term) (p : ProgramPhrase) → HasTerms dialect text ts → IsProgramOf dialect ts p → program_limit dialect p ≡ None → program_fault p ≡ None
      → (most_declared_cells < length (declared_cells p)) ⊎ (length (declared_cells p) ≤ most_declared_cells) → HasVerdict dialect text
  by_declared ts p has is within named (inl many) = refused TooManyDeclared (λ e. cc) (ts, has, (p, is, within, named, many))
  by_declared ts p has is within named (inr few) = accepted p (record { terms = ts; has = has; is = is; within = within; named = named; declared = few })

  by_names : (ts : List Term) (p : ProgramPhrase) → HasTerms dialect text ts → IsProgramOf dialect ts p → program_limit dialect p ≡ None → (o : Option NameFault) → program_fault p ≡ o → HasVerdict dialect text
  by_names ts p has is within (Some (naming.DoubleName n)) e = refused (DoubleName n) (λ e. cc) (ts, has, (p, is, within, e))
  by_names ts p has is within (Some (naming.EmptyDomain n)) e = refused (EmptyDomain n) (λ e. cc) (ts, has, (p, is, within, e))
  by_names ts p has is within (Some (naming.UnknownName n)) e = refused (UnknownName n) (λ e. cc) (ts, has, (p, is, within, e))
  by_names ts p has is within (Some (naming.WrongKind n)) e = refused (WrongKind n) (λ e. cc) (ts, has, (p, is, within, e))
  by_names ts p has is within None e = by_declared ts p has is within e (cases_lt most_declared_cells (length (declared_cells p)))

  by_limits : (ts : List Term) (p : ProgramPhrase) → HasTerms dialect text ts → IsProgramOf dialect ts p → (o : Option Limit) → program_limit dialect p ≡ o → HasVerdict dialect text
  by_limits ts p has is (Some (limit.TooDeep n)) e = refused (TooDeep n) (λ e. cc) (ts, has, (p, is, e))
  by_limits ts p has is (Some (limit.TooManyTokens n)) e = refused (TooManyTokens n) (λ e. cc) (ts, has, (p, is, e))
  by_limits ts p has is None e = by_names ts p has is e (program_fault p) refl

  -- on terms
  by_grammar : (ts : List Term) → HasTerms dialect text ts → position is_later (classes ts) ≡ None → IsProgram (language dialect) ts ⊎ ((n : ℕ) × IsFault (language dialect) ts n) → HasVerdict dialect text
  by_grammar ts has built (inl (p, spells)) = by_limits ts p has (record { built = built; spells = spells }) (program_limit dialect p) refl
  by_grammar ts has built (inr (n, fault)) = refused (Syntax n) (λ e. cc) (ts, has, (built, fault))

  by_stage : (ts : List Term) → HasTerms dialect text ts → (o : Option ℕ) → position is_later (classes ts) ≡ o → HasVerdict dialect text
  by_stage ts has (Some n) e = refused (Later n) (λ e. cc) (ts, has, e)
  by_stage ts has None e = by_grammar ts has e (grammar.verdict (language dialect) ts)

  -- on lexemes
  no_lexeme : Lexeme
  no_lexeme = record { kind = kind.Name; start = 0; end = 0 }

  by_kind : (ls : List Lexeme) (n : ℕ) → IsLexed dialect text ls → position (too_long text) ls ≡ Some n → (k : LexKind) → (get_or ls n no_lexeme).kind ≡ k → HasVerdict dialect text
  by_kind ls n lexed e kind.Name is = refused (LongName n) (λ e. cc) (ls, lexed, first_long text ls n no_lexeme kind.Name e is)
  by_kind ls n lexed e kind.Number is = refused (LongNumber n) (λ e. cc) (ls, lexed, first_long text ls n no_lexeme kind.Number e is)
  by_kind ls n lexed e kind.Keyword is = absurd (first_told text ls n no_lexeme e (inl is))
  by_kind ls n lexed e kind.Symbol is = absurd (first_told text ls n no_lexeme e (inr is))

  by_lengths : (ls : List Lexeme) → IsLexed dialect text ls → (o : Option ℕ) → position (too_long text) ls ≡ o → HasVerdict dialect text
  by_lengths ls lexed (Some n) e = by_kind ls n lexed e (get_or ls n no_lexeme).kind refl
  by_lengths ls lexed None e = by_stage (terms_of text ls) (record { lexemes = ls; lexed = lexed; short = e; terms = refl }) (position is_later (classes (terms_of text ls))) refl

  by_lexemes : length text ≤ max_bytes dialect → lexer.Verdict (text_form dialect) text → HasVerdict dialect text
  by_lexemes within (inl (ls, are)) = let lexed : IsLexed dialect text ls = record { within = within; lexemes = are } in by_lengths ls lexed (position (too_long text) ls) refl
  by_lexemes within (inr (n, bad)) = refused (Lex n) (λ e. cc) (within, bad)

  by_size : (max_bytes dialect < length text) ⊎ (length text ≤ max_bytes dialect) → HasVerdict dialect text
  by_size (inl long) = refused TextTooLong (λ e. cc) long
  by_size (inr within) = by_lexemes within (lexer.verdict (text_form dialect) text)

-- Each text is accepted, with its surface, or it is refused.
pub verdict : (dialect : Dialect) (text : List ℕ) → HasVerdict dialect text
verdict dialect text = by_size dialect text (cases_lt (max_bytes dialect) (length text))
