-- A text is one core program, or refused for one reason, out of memory aside.
use Rattle.std.proofs.Common.{◌≡◌, ◌≢◌, ◌⊎◌, inl, inr, Result, Ok, Err, ℕ, ◌<◌, ◌≤◌, List, length, Option, Some, None, refl, ap, sym, ◌∙◌, subst}
use Rattle.std.specs.Prelude.{nat_lt, if◌then◌else◌}
use Rattle.std.proofs.lemmas.Bool.{lt-ltb, le-ltb, cases_lt}
use Rattle.program_grammar.specs.Phrases.{ProgramPhrase as Phrase}
use Rattle.agent_core.specs.WellFormed.{IsWellFormed}
use Rattle.agent_core.specs.Programs.{CoreProgram}
use Rattle.agent_core.specs.Listing.{listing}
use Rattle.tdcc_reader.specs.declared.dialect.Dialect.TheVariants as dialect
use Rattle.tdcc_reader.specs.declared.fault.ReadFault.{ReadFault}
use Rattle.tdcc_reader.specs.declared.fault.ReadFault.TheVariants.{TextTooLong, Lex, LongName, LongNumber, Later, Syntax, TooDeep, TooManyTokens, DoubleName, EmptyDomain, UnknownName, WrongKind, TooManyDeclared, TooManyNodes, TooManyCells, Memory}
use Rattle.tdcc_reader.specs.Trees.{form_count}
use Rattle.tdcc_reader.specs.Surfaces.{SurfaceProgram, IsSurfaceOf, program_tree, program_cells}
use Rattle.tdcc_reader.specs.Refusals.{Accepts, Refuses}
use Rattle.tdcc_reader.proofs.OneRefusal.{one_accepted, one_refusal, accepted_not_refused}
use Rattle.tdcc_reader.specs.Laws.{HasVerdict}
use Rattle.tdcc_reader.proofs.Verdicts.{verdict}
use Rattle.core_reader.specs.Readings.{IsCoreOf, AcceptsCore, IsCoreText, RefusesCore, HasCoreVerdict, MayAnswer}
use Rattle.core_reader.proofs.CoreTrees.{agent_of}
use Rattle.core_reader.proofs.CorePrograms.{core_is_program, one_core, made_core, forms_of}

-- What refuses the text refuses it as a core text.
pub text_refused : (text : List ℕ) (f : ReadFault) → Refuses dialect.Core text f → RefusesCore text f
text_refused text TextTooLong r = r
text_refused text (Lex n) r = r
text_refused text (LongName n) r = r
text_refused text (LongNumber n) r = r
text_refused text (Later n) r = r
text_refused text (Syntax n) r = r
text_refused text (TooDeep n) r = r
text_refused text (TooManyTokens n) r = r
text_refused text (DoubleName n) r = r
text_refused text (EmptyDomain n) r = r
text_refused text (UnknownName n) r = r
text_refused text (WrongKind n) r = r
text_refused text TooManyDeclared r = r
text_refused text TooManyNodes (ts, has, (p, is, within, h)) = absurd h
text_refused text TooManyCells (ts, has, (p, is, within, h)) = absurd h
text_refused text Memory r = r

-- why a phrase of so many nodes and so many cells is refused
abbrev size_refusal : ℕ → ℕ → Option ReadFault
size_refusal nodes cells = if nat_lt 4096 nodes then Some TooManyNodes else (if nat_lt 1024 cells then Some TooManyCells else None)

abbrev phrase_refusal : Phrase → Option ReadFault
phrase_refusal phrase = size_refusal (form_count (program_tree phrase)) (length (program_cells phrase))

many_nodes : (n m : ℕ) → 4096 < n → Some TooManyNodes ≡ size_refusal n m
many_nodes n m h = sym (ap (λ b. if b then Some TooManyNodes else (if nat_lt 1024 m then Some TooManyCells else None)) (lt-ltb 4096 n h))

few_nodes : (n m : ℕ) → n ≤ 4096 → (if nat_lt 1024 m then Some TooManyCells else None) ≡ size_refusal n m
few_nodes n m h = sym (ap (λ b. if b then Some TooManyNodes else (if nat_lt 1024 m then Some TooManyCells else None)) (le-ltb 4096 n h))

many_cells : (n m : ℕ) → n ≤ 4096 → 1024 < m → Some TooManyCells ≡ size_refusal n m
many_cells n m h k = sym (ap (λ b. if b then Some TooManyCells else None) (lt-ltb 1024 m k)) ∙ few_nodes n m h

few_cells : (n m : ℕ) → n ≤ 4096 → m ≤ 1024 → None ≡ size_refusal n m
few_cells n m h k = sym (ap (λ b. if b then Some TooManyCells else None) (le-ltb 1024 m k)) ∙ few_nodes n m h

-- the verdict on a core text, which is None where it is a core program: a refusal as a text, or what is said of its phrase
data Verdict (text : List ℕ) (verdict : Option ReadFault) : Type 0 where
  no_phrase : (f : ReadFault) → f ≢ Memory → Refuses dialect.Core text f → verdict ≡ Some f → Verdict text verdict
  a_phrase : (phrase : Phrase) → Accepts dialect.Core text phrase → verdict ≡ phrase_refusal phrase → Verdict text verdict

one_verdict : (text : List ℕ) (v w : Option ReadFault) → Verdict text v → Verdict text w → v ≡ w
one_verdict text v w (no_phrase f m a e) (no_phrase g n b e') = let same = one_refusal dialect.Core text f g m n a b in cc
one_verdict text v w (no_phrase f m a e) (a_phrase phrase is e') = absurd (accepted_not_refused dialect.Core text phrase f m is a)
one_verdict text v w (a_phrase phrase is e) (no_phrase f m a e') = absurd (accepted_not_refused dialect.Core text phrase f m is a)
one_verdict text v w (a_phrase p a e) (a_phrase q b e') = e ∙ ap phrase_refusal (one_accepted dialect.Core text p q a b) ∙ sym e'

refused : (text : List ℕ) (f : ReadFault) → f ≢ Memory → RefusesCore text f → Verdict text (Some f)
refused text TooManyNodes m (phrase, a, h) = a_phrase phrase a (many_nodes (form_count (program_tree phrase)) (length (program_cells phrase)) h)
refused text TooManyCells m (phrase, a, h, k) = a_phrase phrase a (many_cells (form_count (program_tree phrase)) (length (program_cells phrase)) h k)
refused text TextTooLong m r = no_phrase TextTooLong m r refl
refused text (Lex n) m r = no_phrase (Lex n) m r refl
refused text (LongName n) m r = no_phrase (LongName n) m r refl
refused text (LongNumber n) m r = no_phrase (LongNumber n) m r refl
refused text (Later n) m r = no_phrase (Later n) m r refl
refused text (Syntax n) m r = no_phrase (Syntax n) m r refl
refused text (TooDeep n) m r = no_phrase (TooDeep n) m r refl
refused text (TooManyTokens n) m r = no_phrase (TooManyTokens n) m r refl
refused text (DoubleName n) m r = no_phrase (DoubleName n) m r refl
refused text (EmptyDomain n) m r = no_phrase (EmptyDomain n) m r refl
refused text (UnknownName n) m r = no_phrase (UnknownName n) m r refl
refused text (WrongKind n) m r = no_phrase (WrongKind n) m r refl
refused text TooManyDeclared m r = no_phrase TooManyDeclared m r refl
refused text Memory m r = absurd (m refl)

accepted : (text : List ℕ) (phrase : Phrase) → AcceptsCore text phrase → Verdict text None
accepted text phrase a = a_phrase phrase a.accepts (few_cells (form_count (program_tree phrase)) (length (program_cells phrase)) a.few_nodes a.few_cells)

-- A text has one refusal at most.
pub one_core_refusal : (text : List ℕ) (f g : ReadFault) → f ≢ Memory → g ≢ Memory → RefusesCore text f → RefusesCore text g → f ≡ g
one_core_refusal text f g m n a b = let same : Some f ≡ Some g = one_verdict text (Some f) (Some g) (refused text f m a) (refused text g n b) in cc

-- It has none where it is accepted.
pub accepted_core : (text : List ℕ) (phrase : Phrase) (f : ReadFault) → f ≢ Memory → AcceptsCore text phrase → RefusesCore text f → ⊥
accepted_core text phrase f m a r = let same : None ≡ Some f = one_verdict text None (Some f) (accepted text phrase a) (refused text f m r) in cc

-- A text is one core program, which is a program.
pub text_is_program : (text : List ℕ) (p : CoreProgram) → IsCoreText text p → IsWellFormed p
text_is_program text p (phrase, a, is) = core_is_program text phrase p a is

pub one_core_text : (text : List ℕ) (p q : CoreProgram) → IsCoreText text p → IsCoreText text q → p ≡ q
one_core_text text p q (x, a, is) (y, b, are) =
    let same : y ≡ x = one_accepted dialect.Core text y x b.accepts a.accepts in
    one_core x p q is (subst (λ (z : Phrase). IsCoreOf z q) same are)

pub text_not_refused : (text : List ℕ) (p : CoreProgram) (f : ReadFault) → f ≢ Memory → IsCoreText text p → RefusesCore text f → ⊥
text_not_refused text p f m (phrase, a, is) r = accepted_core text phrase f m a r

-- what an accepted text is, by its form_count
by_cells : (text : List ℕ) (phrase : Phrase) (s : SurfaceProgram) → Accepts dialect.Core text phrase → IsSurfaceOf phrase s → form_count (program_tree phrase) ≤ 4096
    → (1024 < length (program_cells phrase)) ⊎ (length (program_cells phrase) ≤ 1024) → HasCoreVerdict text
by_cells text phrase s a is nodes (inl h) = inr (TooManyCells, (λ e. cc), (phrase, a, nodes, h))
by_cells text phrase s a is nodes (inr h) =
    let listed = listing 0 (agent_of (program_tree phrase)) in
    inl (record { cells = s.cells; declared = s.declared; nodes = listed }, (phrase, record { accepts = a; few_nodes = nodes; few_cells = h }, made_core text phrase s listed a is (sym (forms_of text phrase s a is))))

by_nodes : (text : List ℕ) (phrase : Phrase) (s : SurfaceProgram) → Accepts dialect.Core text phrase → IsSurfaceOf phrase s
    → (4096 < form_count (program_tree phrase)) ⊎ (form_count (program_tree phrase) ≤ 4096) → HasCoreVerdict text
by_nodes text phrase s a is (inl h) = inr (TooManyNodes, (λ e. cc), (phrase, a, h))
by_nodes text phrase s a is (inr h) = by_cells text phrase s a is h (cases_lt 1024 (length (program_cells phrase)))

-- A text is a core program, or it is refused.
pub core_verdict : (text : List ℕ) → HasCoreVerdict text
core_verdict text = go (verdict dialect.Core text)
  where
    go : HasVerdict dialect.Core text → HasCoreVerdict text
    go (inl (s, (phrase, a, is))) = by_nodes text phrase s a is (cases_lt 4096 (form_count (program_tree phrase)))
    go (inr (f, not_memory, r)) = inr (f, not_memory, text_refused text f r)

-- Only out of memory is said against a core program.
pub only_memory : (text : List ℕ) (p : CoreProgram) (f : ReadFault) → IsCoreText text p → RefusesCore text f → f ≡ Memory
only_memory text p TextTooLong is r = absurd (text_not_refused text p TextTooLong (λ e. cc) is r)
only_memory text p (Lex n) is r = absurd (text_not_refused text p (Lex n) (λ e. cc) is r)
only_memory text p (LongName n) is r = absurd (text_not_refused text p (LongName n) (λ e. cc) is r)
only_memory text p (LongNumber n) is r = absurd (text_not_refused text p (LongNumber n) (λ e. cc) is r)
only_memory text p (Later n) is r = absurd (text_not_refused text p (Later n) (λ e. cc) is r)
only_memory text p (Syntax n) is r = absurd (text_not_refused text p (Syntax n) (λ e. cc) is r)
only_memory text p (TooDeep n) is r = absurd (text_not_refused text p (TooDeep n) (λ e. cc) is r)
only_memory text p (TooManyTokens n) is r = absurd (text_not_refused text p (TooManyTokens n) (λ e. cc) is r)
only_memory text p (DoubleName n) is r = absurd (text_not_refused text p (DoubleName n) (λ e. cc) is r)
only_memory text p (EmptyDomain n) is r = absurd (text_not_refused text p (EmptyDomain n) (λ e. cc) is r)
only_memory text p (UnknownName n) is r = absurd (text_not_refused text p (UnknownName n) (λ e. cc) is r)
only_memory text p (WrongKind n) is r = absurd (text_not_refused text p (WrongKind n) (λ e. cc) is r)
only_memory text p TooManyDeclared is r = absurd (text_not_refused text p TooManyDeclared (λ e. cc) is r)
only_memory text p TooManyNodes is r = absurd (text_not_refused text p TooManyNodes (λ e. cc) is r)
only_memory text p TooManyCells is r = absurd (text_not_refused text p TooManyCells (λ e. cc) is r)
only_memory text p Memory is r = refl

-- Of a core program the reader may answer that program, or that memory ran out.
pub one_answer : (text : List ℕ) (p : CoreProgram) (answer : Result CoreProgram ReadFault) → IsCoreText text p → MayAnswer text answer → (answer ≡ Ok p) ⊎ (answer ≡ Err Memory)
one_answer text p (Ok q) is may = inl (ap Ok (one_core_text text q p may is))
one_answer text p (Err f) is may = inr (ap Err (only_memory text p f is may))
