-- In a phrase of fit terms each number may stand in a bound, and each declared name can be written.
use Rattle.std.proofs.Common.{◌≡◌, ℕ, ℤ, List, [], ◌∷◌, true, subst}
use Rattle.program_lexemes.specs.declared.bytes.TextForm.{TextForm}
use Rattle.program_grammar.specs.Terms.{Term, Then, Else, Do, Watching, On, Semicolon, Ampersand, Bars, CloseBrace}
use Rattle.program_grammar.specs.Phrases.{TokenPhrase, AtLeast, AtMost, Exactly, ConstraintPhrase, One, Both, UnitPhrase, Tell, Braces, IfThen, IfElse, LocalSignal, LocalInt, AgentPhrase, Only, Par, NamesPhrase, LastName, MoreName, ItemsPhrase, LastItem, MoreItem, ProgramPhrase, Runs, Signals, Ints}
use Rattle.program_grammar.specs.Phrases as phrases
use Rattle.program_grammar.specs.Spelling.{token, constraint, unit, agent, names, items, program}
use Rattle.token_system.specs.Domain.{is_bound}
use Rattle.program_lexemes.specs.Names.{IsName}
use Rattle.surface_laws.proofs.FitTerms.{AreFit}

-- the number of a token may stand in a bound
abbrev pub TokenFit : TokenPhrase → Type 0
TokenFit (phrases.On x) = Unit {0}
TokenFit (phrases.Off x) = Unit {0}
TokenFit (phrases.Clash x) = Unit {0}
TokenFit (AtLeast x n) = is_bound n ≡ true
TokenFit (AtMost x n) = is_bound n ≡ true
TokenFit (Exactly x n) = is_bound n ≡ true

-- of a constraint
abbrev pub ConstraintFit : ConstraintPhrase → Type 0
ConstraintFit (One t) = TokenFit t
ConstraintFit (Both t c) = TokenFit t × ConstraintFit c

-- a declared number has a name that can be written, and its bounds are small
pub record ItemFit (form : TextForm) (x : List ℕ) (low high : ℤ) : Type 0 where
  pub named : IsName form x
  pub low_fit : is_bound low ≡ true
  pub high_fit : is_bound high ≡ true

abbrev mutual
  -- of a unit
  pub UnitFit : TextForm → UnitPhrase → Type 0
  UnitFit form phrases.Skip = Unit {0}
  UnitFit form (Tell c) = ConstraintFit c
  UnitFit form (Braces a) = AgentFit form a
  UnitFit form (IfThen c u) = ConstraintFit c × UnitFit form u
  UnitFit form (IfElse c u) = ConstraintFit c × UnitFit form u
  UnitFit form (LocalSignal x u) = IsName form x × UnitFit form u
  UnitFit form (LocalInt x l h u) = ItemFit form x l h × UnitFit form u
  UnitFit form (phrases.Hence u) = UnitFit form u
  UnitFit form (phrases.Next u) = UnitFit form u
  UnitFit form (phrases.Always u) = UnitFit form u
  UnitFit form (phrases.When c u) = ConstraintFit c × UnitFit form u
  UnitFit form (phrases.Watching a c) = AgentFit form a × ConstraintFit c
  UnitFit form (phrases.TimeOn a c) = AgentFit form a × ConstraintFit c

  -- of an agent
  pub AgentFit : TextForm → AgentPhrase → Type 0
  AgentFit form (Only u) = UnitFit form u
  AgentFit form (Par u a) = UnitFit form u × AgentFit form a

-- of the names of signals
abbrev pub NamesFit : TextForm → NamesPhrase → Type 0
NamesFit form (LastName x) = IsName form x
NamesFit form (MoreName x ns) = IsName form x × NamesFit form ns

-- of the names of integers
abbrev pub ItemsFit : TextForm → ItemsPhrase → Type 0
ItemsFit form (LastItem x l h) = ItemFit form x l h
ItemsFit form (MoreItem x l h is) = ItemFit form x l h × ItemsFit form is

-- of a program
abbrev pub ProgramFit : TextForm → ProgramPhrase → Type 0
ProgramFit form (Runs a) = AgentFit form a
ProgramFit form (Signals ns p) = NamesFit form ns × ProgramFit form p
ProgramFit form (Ints is p) = ItemsFit form is × ProgramFit form p

module _ (form : TextForm) where
  fit_token : (t : TokenPhrase) (k : List Term) → AreFit form (token t k) → TokenFit t × AreFit form k
  fit_token (phrases.On x) k (name, f) = (tt, f)
  fit_token (phrases.Off x) k (bang, (name, f)) = (tt, f)
  fit_token (phrases.Clash x) k (hash, (name, f)) = (tt, f)
  fit_token (AtLeast x n) k (name, (sign, (number, f))) = (number, f)
  fit_token (AtMost x n) k (name, (sign, (number, f))) = (number, f)
  fit_token (Exactly x n) k (name, (sign, (number, f))) = (number, f)

  fit_constraint : (c : ConstraintPhrase) (k : List Term) → AreFit form (constraint c k) → ConstraintFit c × AreFit form k
  fit_constraint (One t) k f = fit_token t k f
  fit_constraint (Both t c) k f =
      let (here, (and, rest)) = fit_token t (Ampersand ∷ constraint c k) f in
      let (behind, last) = fit_constraint c k rest in
      ((here, behind), last)

  mutual
    fit_unit : (u : UnitPhrase) (k : List Term) → AreFit form (unit u k) → UnitFit form u × AreFit form k
    fit_unit phrases.Skip k (skip, f) = (tt, f)
    fit_unit (Tell c) k f = fit_constraint c k f
    fit_unit (Braces a) k (open_brace, f) = let (inside, (close, last)) = fit_agent a (CloseBrace ∷ k) f in (inside, last)
    fit_unit (IfThen c u) k (if_word, f) =
        let (ask, (then_word, rest)) = fit_constraint c (Then ∷ unit u k) f in
        let (body, last) = fit_unit u k rest in ((ask, body), last)
    fit_unit (IfElse c u) k (if_word, f) =
        let (ask, (else_word, rest)) = fit_constraint c (Else ∷ unit u k) f in
        let (body, last) = fit_unit u k rest in ((ask, body), last)
    fit_unit (LocalSignal x u) k (new_word, (signal_word, (name, (in_word, f)))) =
        let (body, last) = fit_unit u k f in ((name, body), last)
    fit_unit (LocalInt x l h u) k (new_word, (int_word, (name, (in_word, (low, (range, (high, (in_again, f)))))))) =
        let (body, last) = fit_unit u k f in ((record { named = name; low_fit = low; high_fit = high }, body), last)
    fit_unit (phrases.Hence u) k (hence, f) = fit_unit u k f
    fit_unit (phrases.Next u) k (next, f) = fit_unit u k f
    fit_unit (phrases.Always u) k (always, f) = fit_unit u k f
    fit_unit (phrases.When c u) k (when, f) =
        let (ask, (do_word, rest)) = fit_constraint c (Do ∷ unit u k) f in
        let (body, last) = fit_unit u k rest in ((ask, body), last)
    fit_unit (phrases.Watching a c) k (do_word, f) =
        let (body, (watching, rest)) = fit_agent a (Watching ∷ constraint c k) f in
        let (stop, last) = fit_constraint c k rest in ((body, stop), last)
    fit_unit (phrases.TimeOn a c) k (time, f) =
        let (body, (on, rest)) = fit_agent a (On ∷ constraint c k) f in
        let (clock, last) = fit_constraint c k rest in ((body, clock), last)

    fit_agent : (a : AgentPhrase) (k : List Term) → AreFit form (agent a k) → AgentFit form a × AreFit form k
    fit_agent (Only u) k f = fit_unit u k f
    fit_agent (Par u a) k f =
        let (here, (bars, rest)) = fit_unit u (Bars ∷ agent a k) f in
        let (behind, last) = fit_agent a k rest in ((here, behind), last)

  fit_names : (ns : NamesPhrase) (k : List Term) → AreFit form (names ns k) → NamesFit form ns × AreFit form k
  fit_names (LastName x) k (name, f) = (name, f)
  fit_names (MoreName x ns) k (name, (comma, f)) = let (more, last) = fit_names ns k f in ((name, more), last)

  fit_items : (is : ItemsPhrase) (k : List Term) → AreFit form (items is k) → ItemsFit form is × AreFit form k
  fit_items (LastItem x l h) k (name, (in_word, (low, (range, (high, f))))) = (record { named = name; low_fit = low; high_fit = high }, f)
  fit_items (MoreItem x l h is) k (name, (in_word, (low, (range, (high, (comma, f)))))) =
      let (more, last) = fit_items is k f in ((record { named = name; low_fit = low; high_fit = high }, more), last)

  fit_all : (p : ProgramPhrase) → AreFit form (program p []) → ProgramFit form p
  fit_all (Runs a) f = let (is, last) = fit_agent a [] f in is
  fit_all (Signals ns p) (signal_word, f) = let (names_fit, (semicolon, rest)) = fit_names ns (Semicolon ∷ program p []) f in (names_fit, fit_all p rest)
  fit_all (Ints is p) (int_word, f) = let (items_fit, (semicolon, rest)) = fit_items is (Semicolon ∷ program p []) f in (items_fit, fit_all p rest)

  -- The program of fit terms is fit.
  pub fit_program : (p : ProgramPhrase) (ts : List Term) → ts ≡ program p [] → AreFit form ts → ProgramFit form p
  fit_program p ts e f = fit_all p (subst (AreFit form) e f)
