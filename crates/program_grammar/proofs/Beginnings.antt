-- What begins a program by the cases of the alternatives goes on to a program.
use Rattle.std.proofs.Common.{◌≡◌, List, [], ◌∷◌, ◌++◌, Bool, true, refl, ap, sym, ◌∙◌, subst}
use Rattle.std.specs.Prelude.{◌&&◌, pos}
use Rattle.std.proofs.lemmas.List.{append-nil}
use Rattle.program_grammar.specs.Terms.{Term, class_of, classes, Name, Number, In, Skip, Range}
use Rattle.program_grammar.specs.Spelling.{program}
use Rattle.program_grammar.specs.Alternatives.{Symbol, AName, ANumber, The, AToken, AConstraint, AUnit, AnAgent, SomeNames, AnItem, SomeItems, AProgram, MatchesSymbol, Alternative, asserts, denies, clashes, at_least, at_most, exactly, one, both, nothing, tell, braces, if_then, if_else, new_signal, new_int, hence, next, only, par, last_name, more_names, item, last_item, more_items, runs, signals, ints, Is, AreAll, none, some, by, Begins, BeginAll, empty, within, whole, part, past}
use Rattle.program_grammar.specs.Alternatives.Is.{itself as is_itself}
use Rattle.program_grammar.specs.Alternatives.Begins.{itself as begins_itself}
use Rattle.program_grammar.specs.declared.words.Language.{Language}
use Rattle.program_grammar.specs.declared.words.Language.TheVariants.{Whole, Core}
use Rattle.std.proofs.Common.{append_assoc}
use Rattle.std.specs.List.{list_all}
use Rattle.std.proofs.lemmas.List.Folds.{list_all-append}
use Rattle.std.proofs.lemmas.List.{map-append}
use Rattle.program_grammar.specs.Programs.{BeginsProgram}
use Rattle.program_grammar.specs.Machine.{permits}
use Rattle.program_grammar.proofs.CoreWords.{permitted_allowed, all_permitted}
use Rattle.program_grammar.proofs.Soundness.{and_left, and_right}
use Rattle.program_grammar.proofs.Meanings.{means}

-- the words of a symbol of the core language are the core language's
abbrev is_plain : Symbol → Bool
is_plain (The t) = permits Core (class_of t)
is_plain _ = true

abbrev plain : List Term → Bool
plain ts = list_all (permits Core) (classes ts)

fits_plain : (s : Symbol) (t : Term) → MatchesSymbol s t → is_plain s ≡ true → plain (t ∷ []) ≡ true
fits_plain AName t (x, e) h = ap (λ v. plain (v ∷ [])) e
fits_plain ANumber t (x, e) h = ap (λ v. plain (v ∷ [])) e
fits_plain (The v) t e h = ap (λ v. plain (v ∷ [])) e ∙ ap (λ b. b && true) h
fits_plain AToken t e h = absurd e
fits_plain AConstraint t e h = absurd e
fits_plain AUnit t e h = absurd e
fits_plain AnAgent t e h = absurd e
fits_plain SomeNames t e h = absurd e
fits_plain AnItem t e h = absurd e
fits_plain SomeItems t e h = absurd e
fits_plain AProgram t e h = absurd e

plain_parts : {s : Symbol} {parts : List Symbol} → Alternative Core s parts → list_all is_plain parts ≡ true
plain_parts asserts = refl
plain_parts denies = refl
plain_parts clashes = refl
plain_parts at_least = refl
plain_parts at_most = refl
plain_parts exactly = refl
plain_parts one = refl
plain_parts both = refl
plain_parts nothing = refl
plain_parts tell = refl
plain_parts braces = refl
plain_parts if_then = refl
plain_parts if_else = refl
plain_parts new_signal = refl
plain_parts new_int = refl
plain_parts hence = refl
plain_parts next = refl
plain_parts only = refl
plain_parts par = refl
plain_parts last_name = refl
plain_parts more_names = refl
plain_parts item = refl
plain_parts last_item = refl
plain_parts more_items = refl
plain_parts runs = refl
plain_parts signals = refl
plain_parts ints = refl

both_plain : (us vs : List Term) → plain us ≡ true → plain vs ≡ true → plain (us ++ vs) ≡ true
both_plain us vs h k = ap (list_all (permits Core)) (map-append class_of us vs) ∙ list_all-append (permits Core) (classes us) (classes vs) ∙ ap (λ b. b && plain vs) h ∙ k

mutual
  plain_is : {s : Symbol} {ts : List Term} → Is Core s ts → is_plain s ≡ true → plain ts ≡ true
  plain_is (is_itself {l} {s} {t} f) h = fits_plain s t f h
  plain_is (by a all) h = plain_all all (plain_parts a)

  plain_all : {ss : List Symbol} {ts : List Term} → AreAll Core ss ts → list_all is_plain ss ≡ true → plain ts ≡ true
  plain_all none h = refl
  plain_all (some {l} {s} {ss} {us} {vs} i all) h = both_plain us vs (plain_is i (and_left (is_plain s) (list_all is_plain ss) h)) (plain_all all (and_right (is_plain s) (list_all is_plain ss) h))

program_permitted : (l : Language) (ts : List Term) → Is l AProgram ts → list_all (permits l) (classes ts) ≡ true
program_permitted Whole ts i = all_permitted (classes ts)
program_permitted Core ts i = plain_is i refl

-- each symbol stands for some terms
some_unit : {l : Language} → Is l AUnit (Skip ∷ [])
some_unit = by nothing (some (is_itself refl) none)

some_agent : {l : Language} → Is l AnAgent (Skip ∷ [])
some_agent = by only (some some_unit none)

some_name : {l : Language} → Is l AName (Name [] ∷ [])
some_name = is_itself ([], refl)

some_number : {l : Language} → Is l ANumber (Number (pos 0) ∷ [])
some_number = is_itself (pos 0, refl)

some_token : {l : Language} → Is l AToken (Name [] ∷ [])
some_token = by asserts (some some_name none)

some_item : {l : Language} → Is l AnItem (Name [] ∷ In ∷ Number (pos 0) ∷ Range ∷ Number (pos 0) ∷ [])
some_item = by item (some some_name (some (is_itself refl) (some some_number (some (is_itself refl) (some some_number none)))))

some_is : (l : Language) (s : Symbol) → (ts : List Term) × Is l s ts
some_is l AName = (Name [] ∷ [], some_name)
some_is l ANumber = (Number (pos 0) ∷ [], some_number)
some_is l (The t) = (t ∷ [], is_itself refl)
some_is l AToken = (Name [] ∷ [], some_token)
some_is l AConstraint = (Name [] ∷ [], by one (some some_token none))
some_is l AUnit = (Skip ∷ [], some_unit)
some_is l AnAgent = (Skip ∷ [], some_agent)
some_is l SomeNames = (Name [] ∷ [], by last_name (some some_name none))
some_is l AnItem = (Name [] ∷ In ∷ Number (pos 0) ∷ Range ∷ Number (pos 0) ∷ [], some_item)
some_is l SomeItems = (Name [] ∷ In ∷ Number (pos 0) ∷ Range ∷ Number (pos 0) ∷ [], by last_item (some some_item none))
some_is l AProgram = (Skip ∷ [], by runs (some some_agent none))

some_are : (l : Language) (ss : List Symbol) → (ts : List Term) × AreAll l ss ts
some_are l [] = ([], none)
some_are l (s ∷ ss) = let (us, i) = some_is l s in let (vs, all) = some_are l ss in (us ++ vs, some i all)

-- what begins a symbol goes on to one
part_more : (l : Language) (s : Symbol) (ss : List Symbol) (ts : List Term) → ((more : List Term) × Is l s (ts ++ more)) → (more : List Term) × AreAll l (s ∷ ss) (ts ++ more)
part_more l s ss ts (m, i) = let (n, all) = some_are l ss in (m ++ n, subst (AreAll l (s ∷ ss)) (append_assoc ts m n) (some i all))

past_more : (l : Language) (s : Symbol) (ss : List Symbol) (us vs : List Term) → Is l s us → ((more : List Term) × AreAll l ss (vs ++ more)) → (more : List Term) × AreAll l (s ∷ ss) ((us ++ vs) ++ more)
past_more l s ss us vs i (m, all) = (m, subst (AreAll l (s ∷ ss)) (sym (append_assoc us vs m)) (some i all))

by_more : {l : Language} {s : Symbol} {parts : List Symbol} (ts : List Term) → Alternative l s parts → ((more : List Term) × AreAll l parts (ts ++ more)) → (more : List Term) × Is l s (ts ++ more)
by_more ts a (m, all) = (m, by a all)

mutual
  begins_more : {l : Language} {s : Symbol} {ts : List Term} → Begins l s ts → (more : List Term) × Is l s (ts ++ more)
  begins_more (empty {l} {s}) = some_is l s
  begins_more (begins_itself f) = ([], is_itself f)
  begins_more (within {l} {s} {parts} {ts} a all) = by_more ts a (all_more all)

  all_more : {l : Language} {ss : List Symbol} {ts : List Term} → BeginAll l ss ts → (more : List Term) × AreAll l ss (ts ++ more)
  all_more whole = ([], none)
  all_more (part {l} {s} {ss} {ts} b) = part_more l s ss ts (begins_more b)
  all_more (past {l} {s} {ss} {us} {vs} i b) = past_more l s ss us vs i (all_more b)

-- What begins a program by the cases goes on to one.
pub begins_program : (l : Language) (ts : List Term) → Begins l AProgram ts → BeginsProgram l ts
begins_program l ts b =
    let (more, i) = begins_more b in
    let (p, e) = means i in
    let spelled : ts ++ more ≡ program p [] = sym (append-nil (ts ++ more)) ∙ e [] in
    (more, (p, record { allowed = permitted_allowed l p (ap (λ q. list_all (permits l) (classes q)) (sym spelled) ∙ program_permitted l (ts ++ more) i); spelled = spelled }))
