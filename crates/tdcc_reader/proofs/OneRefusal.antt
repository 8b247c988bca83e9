-- A text has one verdict: it is accepted as one program, or refused for one reason, out of memory aside.
use Rattle.std.proofs.Common.{◌≡◌, ◌≢◌, ℕ, ◌<◌, ◌≤◌, List, length, Option, Some, None, refl, ap, sym, ◌∙◌, arith, subst}
use Rattle.std.specs.Prelude.{position, slice_get, option_map, nat_lt, if◌then◌else◌}
use Rattle.std.proofs.lemmas.Bool.{lt-ltb, le-ltb}
use Rattle.program_lexemes.specs.declared.lexer.Lexeme.{Lexeme}
use Rattle.program_lexemes.specs.declared.lexer.LexKind.{LexKind}
use Rattle.program_lexemes.specs.declared.lexer.LexKind.TheVariants as kind
use Rattle.program_lexemes.specs.Lexemes.{IsBad}
use Rattle.program_lexemes.proofs.Unique.{unique, lexed_not_bad, one_bad_byte}
use Rattle.program_grammar.specs.Terms.{Term, classes}
use Rattle.program_grammar.specs.Phrases.{ProgramPhrase}
use Rattle.program_grammar.specs.Programs.{IsFault}
use Rattle.program_grammar.proofs.Unambiguous.{one_program}
use Rattle.agent_core.specs.Limits.{most_declared_cells}
use Rattle.tdcc_reader.specs.declared.dialect.Dialect.{Dialect}
use Rattle.tdcc_reader.specs.declared.fault.ReadFault.{ReadFault}
use Rattle.tdcc_reader.specs.declared.fault.ReadFault.TheVariants.{TextTooLong, Lex, LongName, LongNumber, Later, Syntax, TooDeep, TooManyTokens, DoubleName, EmptyDomain, UnknownName, WrongKind, TooManyDeclared, TooManyNodes, TooManyCells, Memory}
use Rattle.tdcc_reader.specs.declared.limits.Limit.{Limit}
use Rattle.tdcc_reader.specs.declared.limits.Limit.TheVariants as limit
use Rattle.tdcc_reader.specs.declared.naming.NameFault.{NameFault}
use Rattle.tdcc_reader.specs.declared.naming.NameFault.TheVariants as naming
use Rattle.tdcc_reader.specs.Dialects.{max_bytes, text_form, language}
use Rattle.tdcc_reader.specs.LimitFaults.{first, program_limit}
use Rattle.tdcc_reader.specs.Scope.{program_fault}
use Rattle.tdcc_reader.specs.Surfaces.{SurfaceProgram, declared_cells}
use Rattle.tdcc_reader.specs.LexemeTerms.{terms_of, too_long}
use Rattle.tdcc_reader.specs.Stages.{is_later}
use Rattle.tdcc_reader.specs.Refusals.{IsLexed, HasTerms, IsFirstLong, IsProgramOf, Refuses, Accepts}
use Rattle.tdcc_reader.specs.Texts.{ReadsAs}
use Rattle.tdcc_reader.specs.Laws.{HasOneRefusal, AcceptedIsNotRefused}

-- A text has one list of lexemes, and one list of terms.
one_lexed : (dialect : Dialect) (text : List ℕ) (ls ms : List Lexeme) → IsLexed dialect text ls → IsLexed dialect text ms → ls ≡ ms
one_lexed dialect text ls ms a b = unique (text_form dialect) text ls ms 0 a.lexemes b.lexemes

one_terms : (dialect : Dialect) (text : List ℕ) (ts us : List Term) → HasTerms dialect text ts → HasTerms dialect text us → ts ≡ us
one_terms dialect text ts us a b = a.terms ∙ ap (terms_of text) (one_lexed dialect text a.lexemes b.lexemes a.lexed b.lexed) ∙ sym b.terms

-- Terms are one program.
one_phrase : (dialect : Dialect) (ts us : List Term) (p q : ProgramPhrase) → ts ≡ us → IsProgramOf dialect ts p → IsProgramOf dialect us q → p ≡ q
one_phrase dialect ts us p q e a b = one_program p q (sym a.spells.spelled ∙ e ∙ b.spells.spelled)

-- A text is one program.
pub one_accepted : (dialect : Dialect) (text : List ℕ) (p q : ProgramPhrase) → Accepts dialect text p → Accepts dialect text q → p ≡ q
one_accepted dialect text p q a b = one_phrase dialect a.terms b.terms p q (one_terms dialect text a.terms b.terms a.has b.has) a.is b.is

-- the refusal for a lexeme that is too long, for a limit, for a name, for so many declared cells
abbrev long_refusal : LexKind → ℕ → Option ReadFault
long_refusal kind.Name place = Some (LongName place)
long_refusal kind.Number place = Some (LongNumber place)
long_refusal _ place = None

abbrev limit_refusal : Limit → ReadFault
limit_refusal (limit.TooDeep place) = TooDeep place
limit_refusal (limit.TooManyTokens place) = TooManyTokens place

abbrev name_refusal : NameFault → ReadFault
name_refusal (naming.DoubleName place) = DoubleName place
name_refusal (naming.EmptyDomain place) = EmptyDomain place
name_refusal (naming.UnknownName place) = UnknownName place
name_refusal (naming.WrongKind place) = WrongKind place

abbrev many_refusal : ℕ → Option ReadFault
many_refusal n = if nat_lt most_declared_cells n then Some TooManyDeclared else None

-- why a program is refused, where it is
abbrev refusal_of : Option Limit → Option NameFault → ℕ → Option ReadFault
refusal_of l f n = first (option_map limit_refusal l) (first (option_map name_refusal f) (many_refusal n))

abbrev program_refusal : Dialect → ProgramPhrase → Option ReadFault
program_refusal dialect p = refusal_of (program_limit dialect p) (program_fault p) (length (declared_cells p))

-- the verdict on terms, which is None where they are accepted: the first one that belongs to a form to come, the place of
-- a syntax fault, or what is said of their program
data TermsFound (dialect : Dialect) (ts : List Term) (verdict : Option ReadFault) : Type 0 where
  to_come : (place : ℕ) → position is_later (classes ts) ≡ Some place → verdict ≡ Some (Later place) → TermsFound dialect ts verdict
  no_program : (place : ℕ) → position is_later (classes ts) ≡ None → IsFault (language dialect) ts place → verdict ≡ Some (Syntax place) → TermsFound dialect ts verdict
  a_program : (p : ProgramPhrase) → IsProgramOf dialect ts p → verdict ≡ program_refusal dialect p → TermsFound dialect ts verdict

-- the verdict on a text
data Found (dialect : Dialect) (text : List ℕ) (verdict : Option ReadFault) : Type 0 where
  long_text : max_bytes dialect < length text → verdict ≡ Some TextTooLong → Found dialect text verdict
  bad_byte : (offset : ℕ) → length text ≤ max_bytes dialect → IsBad (text_form dialect) text offset → verdict ≡ Some (Lex offset) → Found dialect text verdict
  long_lexeme : (ls : List Lexeme) (k : LexKind) (place : ℕ) → IsLexed dialect text ls → IsFirstLong text ls k place → verdict ≡ long_refusal k place → Found dialect text verdict
  terms : (ts : List Term) → HasTerms dialect text ts → TermsFound dialect ts verdict → Found dialect text verdict

-- no terms are a program and have a syntax fault, or a term that belongs to a form to come
one_of_terms : (dialect : Dialect) (ts : List Term) (v w : Option ReadFault) → TermsFound dialect ts v → TermsFound dialect ts w → v ≡ w
one_of_terms dialect ts v w (to_come m at e) (to_come n at' e') = let same : Some m ≡ Some n = sym at ∙ at' in cc
one_of_terms dialect ts v w (to_come m at e) (no_program n built is e') = let no : Some m ≡ None = sym at ∙ built in cc
one_of_terms dialect ts v w (to_come m at e) (a_program p is e') = let no : Some m ≡ None = sym at ∙ is.built in cc
one_of_terms dialect ts v w (no_program n built is e') (to_come m at e) = let no : Some m ≡ None = sym at ∙ built in cc
one_of_terms dialect ts v w (no_program m built a e) (no_program n built' b e') =
    let most = a.longest n b.within b.begins in
    let least = b.longest m a.within a.begins in
    let same : m ≡ n = omega arith in cc
one_of_terms dialect ts v w (no_program n built a e) (a_program p is e') = absurd (a.wrong (p, is.spells))
one_of_terms dialect ts v w (a_program p is e') (to_come m at e) = let no : Some m ≡ None = sym at ∙ is.built in cc
one_of_terms dialect ts v w (a_program p is e') (no_program n built a e) = absurd (a.wrong (p, is.spells))
one_of_terms dialect ts v w (a_program p is e) (a_program q is' e') = let same = one_phrase dialect ts ts p q refl is is' in e ∙ ap (program_refusal dialect) same ∙ sym e'

-- no list of terms where the first long lexeme is
not_long : (dialect : Dialect) (text : List ℕ) (ls : List Lexeme) (k : LexKind) (place : ℕ) (ts : List Term) → IsLexed dialect text ls → IsFirstLong text ls k place → HasTerms dialect text ts → ⊥
not_long dialect text ls k place ts lexed long has =
    let same = one_lexed dialect text ls has.lexemes lexed has.lexed in
    let no : Some place ≡ None = sym long.first ∙ ap (position (too_long text)) same ∙ has.short in cc

one_long : (text : List ℕ) (ls : List Lexeme) (k l : LexKind) (m n : ℕ) → IsFirstLong text ls k m → IsFirstLong text ls l n → long_refusal k m ≡ long_refusal l n
one_long text ls k l m n a b =
    let place : Some m ≡ Some n = sym a.first ∙ b.first in
    let at : m ≡ n = cc in
    let lexeme : Some a.lexeme ≡ Some b.lexeme = sym a.found ∙ ap (slice_get ls) at ∙ b.found in
    let one : a.lexeme ≡ b.lexeme = cc in
    let same : k ≡ l = sym a.kind ∙ ap (λ (x : Lexeme). x.kind) one ∙ b.kind in
    ap (λ x. long_refusal x m) same ∙ ap (long_refusal l) at

-- what is found is one
one_found : (dialect : Dialect) (text : List ℕ) (v w : Option ReadFault) → Found dialect text v → Found dialect text w → v ≡ w
one_found dialect text v w (long_text h e) (long_text h' e') = e ∙ sym e'
one_found dialect text v w (long_text h e) (bad_byte n few is e') = absurd (omega arith)
one_found dialect text v w (long_text h e) (long_lexeme ls k n lexed long e') = absurd (omega (arith, lexed.within))
one_found dialect text v w (long_text h e) (terms ts has found) = absurd (omega (arith, has.lexed.within))
one_found dialect text v w (bad_byte n few is e') (long_text h e) = absurd (omega arith)
one_found dialect text v w (bad_byte m few a e) (bad_byte n few' b e') = let same = one_bad_byte (text_form dialect) text m n a b in cc
one_found dialect text v w (bad_byte m few is e) (long_lexeme ls k n lexed long e') = absurd (lexed_not_bad (text_form dialect) text ls m lexed.lexemes is)
one_found dialect text v w (bad_byte m few is e) (terms ts has found) = absurd (lexed_not_bad (text_form dialect) text has.lexemes m has.lexed.lexemes is)
one_found dialect text v w (long_lexeme ls k n lexed long e') (long_text h e) = absurd (omega (arith, lexed.within))
one_found dialect text v w (long_lexeme ls k n lexed long e') (bad_byte m few is e) = absurd (lexed_not_bad (text_form dialect) text ls m lexed.lexemes is)
one_found dialect text v w (long_lexeme ls k m lexed a e) (long_lexeme ms l n lexed' b e') =
    let same = one_lexed dialect text ls ms lexed lexed' in
    let there = let P : List Lexeme → Type 0 = λ x. IsFirstLong text x k m in subst P same a in
    e ∙ one_long text ms k l m n there b ∙ sym e'
one_found dialect text v w (long_lexeme ls k n lexed long e) (terms ts has found) = absurd (not_long dialect text ls k n ts lexed long has)
one_found dialect text v w (terms ts has found) (long_text h e) = absurd (omega (arith, has.lexed.within))
one_found dialect text v w (terms ts has found) (bad_byte m few is e) = absurd (lexed_not_bad (text_form dialect) text has.lexemes m has.lexed.lexemes is)
one_found dialect text v w (terms ts has found) (long_lexeme ls k n lexed long e) = absurd (not_long dialect text ls k n ts lexed long has)
one_found dialect text v w (terms ts has a) (terms us has' b) =
    let same = one_terms dialect text ts us has has' in
    let there = let P : List Term → Type 0 = λ x. TermsFound dialect x v in subst P same a in
    one_of_terms dialect us v w there b

-- a program's refusal
limited : (dialect : Dialect) (p : ProgramPhrase) (l : Limit) → program_limit dialect p ≡ Some l → Some (limit_refusal l) ≡ program_refusal dialect p
limited dialect p l e = sym (ap (λ x. refusal_of x (program_fault p) (length (declared_cells p))) e)

misnamed : (dialect : Dialect) (p : ProgramPhrase) (f : NameFault) → program_limit dialect p ≡ None → program_fault p ≡ Some f → Some (name_refusal f) ≡ program_refusal dialect p
misnamed dialect p f within e =
    sym (ap (λ x. refusal_of x (program_fault p) (length (declared_cells p))) within ∙ ap (λ x. refusal_of None x (length (declared_cells p))) e)

unlimited : (dialect : Dialect) (p : ProgramPhrase) → program_limit dialect p ≡ None → program_fault p ≡ None → many_refusal (length (declared_cells p)) ≡ program_refusal dialect p
unlimited dialect p within named =
    sym (ap (λ x. refusal_of x (program_fault p) (length (declared_cells p))) within ∙ ap (λ x. refusal_of None x (length (declared_cells p))) named)

many : (n : ℕ) → most_declared_cells < n → Some TooManyDeclared ≡ many_refusal n
many n h = sym (ap (λ b. if b then Some TooManyDeclared else None) (lt-ltb most_declared_cells n h))

few : (n : ℕ) → n ≤ most_declared_cells → None ≡ many_refusal n
few n h = sym (ap (λ b. if b then Some TooManyDeclared else None) (le-ltb most_declared_cells n h))

-- what a refusal says is found
refused : (dialect : Dialect) (text : List ℕ) (f : ReadFault) → f ≢ Memory → Refuses dialect text f → Found dialect text (Some f)
refused dialect text TextTooLong not_memory h = long_text h refl
refused dialect text (Lex offset) not_memory (within, is) = bad_byte offset within is refl
refused dialect text (LongName place) not_memory (ls, lexed, long) = long_lexeme ls kind.Name place lexed long refl
refused dialect text (LongNumber place) not_memory (ls, lexed, long) = long_lexeme ls kind.Number place lexed long refl
refused dialect text (Later place) not_memory (ts, has, at) = terms ts has (to_come place at refl)
refused dialect text (Syntax place) not_memory (ts, has, (built, is)) = terms ts has (no_program place built is refl)
refused dialect text (TooDeep place) not_memory (ts, has, (p, is, e)) = terms ts has (a_program p is (limited dialect p (limit.TooDeep place) e))
refused dialect text (TooManyTokens place) not_memory (ts, has, (p, is, e)) = terms ts has (a_program p is (limited dialect p (limit.TooManyTokens place) e))
refused dialect text (DoubleName place) not_memory (ts, has, (p, is, within, e)) = terms ts has (a_program p is (misnamed dialect p (naming.DoubleName place) within e))
refused dialect text (EmptyDomain place) not_memory (ts, has, (p, is, within, e)) = terms ts has (a_program p is (misnamed dialect p (naming.EmptyDomain place) within e))
refused dialect text (UnknownName place) not_memory (ts, has, (p, is, within, e)) = terms ts has (a_program p is (misnamed dialect p (naming.UnknownName place) within e))
refused dialect text (WrongKind place) not_memory (ts, has, (p, is, within, e)) = terms ts has (a_program p is (misnamed dialect p (naming.WrongKind place) within e))
refused dialect text TooManyDeclared not_memory (ts, has, (p, is, within, named, h)) = terms ts has (a_program p is (many (length (declared_cells p)) h ∙ unlimited dialect p within named))
refused dialect text TooManyNodes not_memory (ts, has, (p, is, within, h)) = absurd h
refused dialect text TooManyCells not_memory (ts, has, (p, is, within, h)) = absurd h
refused dialect text Memory not_memory h = absurd (not_memory refl)

-- and that a text is accepted
accepted : (dialect : Dialect) (text : List ℕ) (p : ProgramPhrase) → Accepts dialect text p → Found dialect text None
accepted dialect text p a = terms a.terms a.has (a_program p a.is (few (length (declared_cells p)) a.declared ∙ unlimited dialect p a.within a.named))

-- A text has one refusal at most.
pub one_refusal : (dialect : Dialect) (text : List ℕ) → HasOneRefusal dialect text
one_refusal dialect text f g f_not_memory g_not_memory a b =
    let same : Some f ≡ Some g = one_found dialect text (Some f) (Some g) (refused dialect text f f_not_memory a) (refused dialect text g g_not_memory b) in cc

-- It has none where it is accepted.
pub accepted_not_refused : (dialect : Dialect) (text : List ℕ) → AcceptedIsNotRefused dialect text
accepted_not_refused dialect text p f not_memory a r = let same : None ≡ Some f = one_found dialect text None (Some f) (accepted dialect text p a) (refused dialect text f not_memory r) in cc

-- It has none where it has a surface.
pub read_not_refused : (dialect : Dialect) (text : List ℕ) (s : SurfaceProgram) (f : ReadFault) → f ≢ Memory → ReadsAs dialect text s → Refuses dialect text f → ⊥
read_not_refused dialect text s f not_memory (p, a, is) r = accepted_not_refused dialect text p f not_memory a r
