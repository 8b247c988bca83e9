-- Each cell of a program of fit terms has a name that can be written.
use Rattle.std.proofs.Common.{◌≡◌, ℕ, zero, suc, ℤ, List, [], ◌∷◌, ◌++◌, Some, Bool, true, false, refl, sym, subst}
use Rattle.std.specs.Prelude.{slice_get, if◌then◌else◌}
use Rattle.token_system.specs.Domain.{is_cell}
use Rattle.token_system.specs.declared.cell.Kind.TheVariants as kind
use Rattle.program_lexemes.specs.declared.bytes.TextForm.{TextForm}
use Rattle.program_grammar.specs.Phrases.{UnitPhrase, Tell, Braces, IfThen, IfElse, LocalSignal, LocalInt, AgentPhrase, Only, Par, NamesPhrase, LastName, MoreName, ItemsPhrase, LastItem, MoreItem, ProgramPhrase, Runs, Signals, Ints}
use Rattle.program_grammar.specs.Phrases as phrase
use Rattle.program_lexemes.specs.Names.{IsName}
use Rattle.tdcc_reader.specs.Surfaces.{Declared, declared, declared_signal, declared_number, unit_cells, agent_cells, names_cells, items_cells, program_cells}
use Rattle.surface_laws.proofs.FitPhrases.{ItemFit, UnitFit, AgentFit, NamesFit, ItemsFit, ProgramFit}

-- The cell of a declared_number has its name.
pub number_name : (x : List ℕ) (l h : ℤ) → (declared_number x l h).name ≡ x
number_name x l h = go (is_cell kind.Number l h)
  where
    go : (b : Bool) → (if b then declared x kind.Number l h else declared_signal x).name ≡ x
    go true = refl
    go false = refl

module _ (form : TextForm) where
  -- each of these cells has such a name
  abbrev pub AreNamed : List Declared → Type 0
  AreNamed [] = Unit {0}
  AreNamed (d ∷ ds) = IsName form d.name × AreNamed ds

  named_append : (xs ys : List Declared) → AreNamed xs → AreNamed ys → AreNamed (xs ++ ys)
  named_append [] ys a b = b
  named_append (x ∷ xs) ys (h, a) b = (h, named_append xs ys a b)

  number_named : (x : List ℕ) (l h : ℤ) → ItemFit form x l h → IsName form (declared_number x l h).name
  number_named x l h fit = subst (IsName form) (sym (number_name x l h)) fit.named

  mutual
    unit_named : (u : UnitPhrase) → UnitFit form u → AreNamed (unit_cells u)
    unit_named phrase.Skip fit = tt
    unit_named (Tell c) fit = tt
    unit_named (Braces a) fit = agent_named a fit
    unit_named (IfThen c u) fit = unit_named u fit.1
    unit_named (IfElse c u) fit = unit_named u fit.1
    unit_named (LocalSignal x u) fit = (fit.0, unit_named u fit.1)
    unit_named (LocalInt x l h u) fit = (number_named x l h fit.0, unit_named u fit.1)
    unit_named (phrase.Hence u) fit = unit_named u fit
    unit_named (phrase.Next u) fit = unit_named u fit
    unit_named (phrase.Always u) fit = unit_named u fit
    unit_named (phrase.When c u) fit = unit_named u fit.1
    unit_named (phrase.Watching a c) fit = agent_named a fit.0
    unit_named (phrase.TimeOn a c) fit = agent_named a fit.0

    agent_named : (a : AgentPhrase) → AgentFit form a → AreNamed (agent_cells a)
    agent_named (Only u) fit = unit_named u fit
    agent_named (Par u a) fit = named_append (unit_cells u) (agent_cells a) (unit_named u fit.0) (agent_named a fit.1)

  names_named : (ns : NamesPhrase) → NamesFit form ns → AreNamed (names_cells ns)
  names_named (LastName x) fit = (fit, tt)
  names_named (MoreName x ns) fit = (fit.0, names_named ns fit.1)

  items_named : (is : ItemsPhrase) → ItemsFit form is → AreNamed (items_cells is)
  items_named (LastItem x l h) fit = (number_named x l h fit, tt)
  items_named (MoreItem x l h is) fit = (number_named x l h fit.0, items_named is fit.1)

  -- The cells of the program have such names.
  pub program_named : (p : ProgramPhrase) → ProgramFit form p → AreNamed (program_cells p)
  program_named (Runs a) fit = agent_named a fit
  program_named (Signals ns p) fit = named_append (names_cells ns) (program_cells p) (names_named ns fit.0) (program_named p fit.1)
  program_named (Ints is p) fit = named_append (items_cells is) (program_cells p) (items_named is fit.0) (program_named p fit.1)

  -- So has the cell at each place.
  pub named_at : (ds : List Declared) (n : ℕ) (d : Declared) → AreNamed ds → slice_get ds n ≡ Some d → IsName form d.name
  named_at [] n d are e = cc
  named_at (x ∷ xs) zero d are e = let same : x ≡ d = cc in subst (λ (y : Declared). IsName form y.name) same are.0
  named_at (x ∷ xs) (suc n) d are e = named_at xs n d are.1 e
