-- The events of a program take its terms in order, so its steps with the terms put back are its events.
use Rattle.std.proofs.Common.{◌≡◌, suc, List, [], ◌∷◌, ◌++◌, get_or, length, append_assoc, refl, ap, sym, ◌∙◌, arith}
use Rattle.std.specs.Prelude.{map}
use Rattle.std.proofs.lemmas.List.{length-append}
use Rattle.program_grammar.specs.Terms.{Term, Name, Number, Signal, Int, In, Skip, If, Then, Else, New, Hence, Next, Always, When, Do, Watching, Time, On, Semicolon, Comma, Range, Ampersand, Bars, OpenBrace, CloseBrace}
use Rattle.program_grammar.specs.Phrases.{TokenPhrase, AtLeast, AtMost, Exactly, ConstraintPhrase, One, Both, UnitPhrase, Tell, Braces, IfThen, IfElse, LocalSignal, LocalInt, AgentPhrase, Only, Par, NamesPhrase, LastName, MoreName, ItemsPhrase, LastItem, MoreItem, ProgramPhrase, Runs, Signals, Ints}
use Rattle.program_grammar.specs.Phrases as phrase
use Rattle.program_grammar.specs.declared.stack_symbols.StackSymbol.{StackSymbol}
use Rattle.program_grammar.specs.declared.stack_symbols.StackSymbol.TheVariants.{OneUnit, MoreUnits, OneToken, MoreTokens, Branch, TheClose, EndTell, EndBody, EndLocal, TheDo, TheWatching, TheOn, EndWatch, EndTimed}
use Rattle.program_grammar.specs.Spelling.{token, constraint, unit, agent, names, items, program}
use Rattle.program_grammar.specs.Events.{Event, Matches, Skips, token_events, constraint_events, unit_events, agent_events, names_events, items_events, program_events, numbered, matched_terms, event_at}

taken-token : (p : StackSymbol) (t : TokenPhrase) (rest : List Event) → matched_terms (token_events p t rest) ≡ token t (matched_terms rest)
taken-token p (phrase.On x) rest = refl
taken-token p (phrase.Off x) rest = refl
taken-token p (phrase.Clash x) rest = refl
taken-token p (AtLeast x n) rest = refl
taken-token p (AtMost x n) rest = refl
taken-token p (Exactly x n) rest = refl

taken-constraint : (p : StackSymbol) (c : ConstraintPhrase) (rest : List Event) → matched_terms (constraint_events p c rest) ≡ constraint c (matched_terms rest)
taken-constraint p (One t) rest = taken-token p t (Skips MoreTokens ∷ rest)
taken-constraint p (Both t c) rest = taken-token p t (Matches MoreTokens Ampersand ∷ constraint_events OneToken c rest) ∙ ap (λ l. token t (Ampersand ∷ l)) (taken-constraint OneToken c rest)

mutual
  taken-unit : (u : UnitPhrase) (rest : List Event) → matched_terms (unit_events u rest) ≡ unit u (matched_terms rest)
  taken-unit phrase.Skip rest = refl
  taken-unit (Tell c) rest = taken-constraint OneUnit c (Skips EndTell ∷ rest)
  taken-unit (Braces a) rest = ap (λ l. OpenBrace ∷ l) (taken-agent a (Matches TheClose CloseBrace ∷ rest))
  taken-unit (IfThen c u) rest = ap (λ l. If ∷ l) (taken-constraint OneToken c (Matches Branch Then ∷ unit_events u (Skips EndBody ∷ rest)) ∙ ap (λ l. constraint c (Then ∷ l)) (taken-unit u (Skips EndBody ∷ rest)))
  taken-unit (IfElse c u) rest = ap (λ l. If ∷ l) (taken-constraint OneToken c (Matches Branch Else ∷ unit_events u (Skips EndBody ∷ rest)) ∙ ap (λ l. constraint c (Else ∷ l)) (taken-unit u (Skips EndBody ∷ rest)))
  taken-unit (LocalSignal x u) rest = ap (λ l. New ∷ Signal ∷ Name x ∷ In ∷ l) (taken-unit u (Skips EndLocal ∷ rest))
  taken-unit (LocalInt x l h u) rest = ap (λ q. New ∷ Int ∷ Name x ∷ In ∷ Number l ∷ Range ∷ Number h ∷ In ∷ q) (taken-unit u (Skips EndLocal ∷ rest))
  taken-unit (phrase.Hence u) rest = ap (λ l. Hence ∷ l) (taken-unit u (Skips EndBody ∷ rest))
  taken-unit (phrase.Next u) rest = ap (λ l. Next ∷ l) (taken-unit u (Skips EndBody ∷ rest))
  taken-unit (phrase.Always u) rest = ap (λ l. Always ∷ l) (taken-unit u (Skips EndBody ∷ rest))
  taken-unit (phrase.When c u) rest = ap (λ l. When ∷ l) (taken-constraint OneToken c (Matches TheDo Do ∷ unit_events u (Skips EndBody ∷ rest)) ∙ ap (λ l. constraint c (Do ∷ l)) (taken-unit u (Skips EndBody ∷ rest)))
  taken-unit (phrase.Watching a c) rest = ap (λ l. Do ∷ l) (taken-agent a (Matches TheWatching Watching ∷ constraint_events OneToken c (Skips EndWatch ∷ rest)) ∙ ap (λ l. agent a (Watching ∷ l)) (taken-constraint OneToken c (Skips EndWatch ∷ rest)))
  taken-unit (phrase.TimeOn a c) rest = ap (λ l. Time ∷ l) (taken-agent a (Matches TheOn On ∷ constraint_events OneToken c (Skips EndTimed ∷ rest)) ∙ ap (λ l. agent a (On ∷ l)) (taken-constraint OneToken c (Skips EndTimed ∷ rest)))

  taken-agent : (a : AgentPhrase) (rest : List Event) → matched_terms (agent_events a rest) ≡ agent a (matched_terms rest)
  taken-agent (Only u) rest = taken-unit u (Skips MoreUnits ∷ rest)
  taken-agent (Par u a) rest = taken-unit u (Matches MoreUnits Bars ∷ agent_events a rest) ∙ ap (λ l. unit u (Bars ∷ l)) (taken-agent a rest)

taken-names : (ns : NamesPhrase) (rest : List Event) → matched_terms (names_events ns rest) ≡ names ns (Semicolon ∷ matched_terms rest)
taken-names (LastName x) rest = refl
taken-names (MoreName x ns) rest = ap (λ l. Name x ∷ Comma ∷ l) (taken-names ns rest)

taken-items : (is : ItemsPhrase) (rest : List Event) → matched_terms (items_events is rest) ≡ items is (Semicolon ∷ matched_terms rest)
taken-items (LastItem x l h) rest = refl
taken-items (MoreItem x l h is) rest = ap (λ q. Name x ∷ In ∷ Number l ∷ Range ∷ Number h ∷ Comma ∷ q) (taken-items is rest)

-- The events of a program take its terms.
pub taken-program : (p : ProgramPhrase) → matched_terms (program_events p) ≡ program p []
taken-program (Runs a) = taken-agent a []
taken-program (Signals ns p) = ap (λ l. Signal ∷ l) (taken-names ns (program_events p) ∙ ap (λ l. names ns (Semicolon ∷ l)) (taken-program p))
taken-program (Ints is p) = ap (λ l. Int ∷ l) (taken-items is (program_events p) ∙ ap (λ l. items is (Semicolon ∷ l)) (taken-program p))

get_or-middle : (front : List Term) (t : Term) (ts : List Term) → get_or (front ++ t ∷ ts) (length front) Skip ≡ t
get_or-middle [] t ts = refl
get_or-middle (x ∷ front) t ts = get_or-middle front t ts

-- Numbered behind these terms, events with the terms put back are themselves.
events_at-numbered : (es : List Event) (front : List Term) → map (event_at (front ++ matched_terms es)) (numbered (length front) es) ≡ es
events_at-numbered [] front = refl
events_at-numbered (Skips p ∷ es) front = ap (λ l. Skips p ∷ l) (events_at-numbered es front)
events_at-numbered (Matches p t ∷ es) front =
    let one : length (front ++ t ∷ []) ≡ suc (length front) = length-append front (t ∷ []) ∙ omega arith in
    ap (λ v. Matches p v ∷ map (event_at (front ++ t ∷ matched_terms es)) (numbered (suc (length front)) es)) (get_or-middle front t (matched_terms es))
    ∙ ap (λ l. Matches p t ∷ map (event_at l) (numbered (suc (length front)) es)) (sym (append_assoc front (t ∷ []) (matched_terms es)))
    ∙ ap (λ n. Matches p t ∷ map (event_at ((front ++ t ∷ []) ++ matched_terms es)) (numbered n es)) (sym one)
    ∙ ap (λ l. Matches p t ∷ l) (events_at-numbered es (front ++ t ∷ []))

-- The steps of a program, with its terms put back, are its events.
pub events_at-program : (p : ProgramPhrase) → map (event_at (program p [])) (numbered 0 (program_events p)) ≡ program_events p
events_at-program p = ap (λ l. map (event_at l) (numbered 0 (program_events p))) (sym (taken-program p)) ∙ events_at-numbered (program_events p) []
