-- An `out` line gives one store at most, which there can be at its instant, and is then bad nowhere.
use Rattle.std.proofs.Common.{◌≡◌, ℕ, Bool, true, false, cond, List, [], ◌∷◌, ◌++◌, length, get_or, Option, Some, None, refl, sym, ap, ◌∙◌, subst, arith}
use Rattle.std.specs.Prelude.{IsTrue, codes, nat_le, ◌==◌}
use Rattle.std.specs.FinMap.{empty}
use Rattle.std.specs.List.{list_all, slice_split}
use Rattle.std.proofs.lemmas.Bool.{eqb-true}
use Rattle.std.proofs.lemmas.List.{append-nil}
use Rattle.names_and_numbers.specs.Limits.{longest_name}
use Rattle.names_and_numbers.specs.Names.{is_letter, is_name, is_word, is_word_byte}
use Rattle.token_system.specs.declared.cell.Cell.{Cell}
use Rattle.token_system.specs.declared.cell.Token.{Token}
use Rattle.token_system.specs.declared.name.CellName.{CellName}
use Rattle.token_system.specs.declared.reading.Written.{Written}
use Rattle.token_system.specs.Stores.{StoreMap, after_tell}
use Rattle.token_system.specs.Texts.{IsNamed, IsTokenText}
use Rattle.token_system.specs.Texts as texts
use Rattle.token_system.proofs.NameFronts.{first_true}
use Rattle.agent_core.specs.Agents.{Constraint}
use Rattle.agent_core.specs.Programs.{CoreProgram}
use Rattle.agent_core.specs.Strata.{Each}
use Rattle.agent_core.specs.Tellings.{tell_all}
use Rattle.agent_core.proofs.Tellings.{empty-IsStore}
use Rattle.agent_laws.proofs.Eachs.{Each-parts}
use Rattle.trace_text.specs.Fields.{Field, fields}
use Rattle.trace_text.proofs.Sayings.{says_fit, says_one}
use Rattle.certificate_text.specs.BadPlaces.{IsFirstUnread, no_field, other_word, later_field, long, unread}
use Rattle.certificate_text.specs.Laws.{LinesGiveStores, LinesGiveOneStore, GivenOutsAreGood}
use Rattle.certificate_text.specs.LocalCells.{IsBornBy, told_if, told_both}
use Rattle.certificate_text.specs.LocalNames.{is_dot, local_name_of, naturals_of, numbered_name}
use Rattle.certificate_text.specs.LocalTokens.{IsLocalTokenText, off, clash, plain}
use Rattle.certificate_text.specs.OutReadings.{SaysOut, TellsOut, of_declared, of_local, TellTexts, texts_in, TellsBehindOut}
use Rattle.certificate_text.proofs.KeptNames.{KeepsOnly, only-empty, only-told, only-declared}
use Rattle.certificate_text.proofs.LocalTokenLaws.{marked_plain, one_local_token}
use Rattle.certificate_text.proofs.LocalSayings.{one_cell}
use Rattle.certificate_text.proofs.OutWalks.{texts_told, all_say}

-- DECLARED OR LOCAL

-- a letter is not `@`
letter_no_at : (b : ℕ) → is_letter b ≡ true → b == 64 ≡ false
letter_no_at b letter = go (b == 64) refl
  where
    go : (t : Bool) → b == 64 ≡ t → t ≡ false
    go false e = refl
    go true e = let none : is_letter 64 ≡ false = refl in let w : false ≡ true = sym none ∙ ap is_letter (sym (eqb-true b 64 e)) ∙ letter in absurd (cc)

-- so the name of a declared cell is none of a local one
declared_not_local : (name : List ℕ) (n : CellName) → IsTrue (is_name name) → local_name_of name ≡ Some n → ⊥
declared_not_local [] n h e = let w : false ≡ true = h in absurd (cc)
declared_not_local (b ∷ name) n h e =
    let letter = first_true (is_letter b) (list_all is_word_byte name) (first_true (is_word (b ∷ name)) (nat_le (length (b ∷ name)) longest_name) h) in
    let none : None ≡ Some n = sym (ap (λ t. cond t (numbered_name (naturals_of (slice_split is_dot name))) None) (letter_no_at b letter)) ∙ e in absurd (cc)

-- a text that begins with a name begins with a letter
named_first : (bytes name rest : List ℕ) → bytes ≡ name ++ rest → IsTrue (is_name name) → (b : ℕ) × (later : List ℕ) × (bytes ≡ b ∷ later) × (is_letter b ≡ true)
named_first bytes [] rest e h = let w : false ≡ true = h in absurd (cc)
named_first bytes (b ∷ name) rest e h =
    (b, name ++ rest, e, first_true (is_letter b) (list_all is_word_byte name) (first_true (is_word (b ∷ name)) (nat_le (length (b ∷ name)) longest_name) h))

first_byte : (b k : ℕ) (xs ys bytes : List ℕ) → bytes ≡ b ∷ xs → bytes ≡ k ∷ ys → b ≡ k
first_byte b k xs ys bytes e f = ap (λ bs. get_or bs 0 0) (sym e ∙ f)

marked_same : (k : ℕ) (xs ys bytes : List ℕ) → bytes ≡ k ∷ xs → bytes ≡ k ∷ ys → xs ≡ ys
marked_same k xs ys bytes e f = let same : k ∷ xs ≡ k ∷ ys = sym e ∙ f in cc

marks_differ : (xs ys bytes : List ℕ) → bytes ≡ 33 ∷ xs → bytes ≡ 35 ∷ ys → ⊥
marks_differ xs ys bytes e f = let same = first_byte 33 35 xs ys bytes e f in omega (arith, same)

letter_no_mark : (b k : ℕ) → is_letter b ≡ true → is_letter k ≡ false → b ≡ k → ⊥
letter_no_mark b k letter none e = let w : false ≡ true = sym none ∙ ap is_letter (sym e) ∙ letter in absurd (cc)

-- no bytes say tokens of a declared cell and of a local one
not_both : (bytes : List ℕ) (w : Written) (n : CellName) (f : Token) (s : Option Token) → IsTokenText bytes w → IsLocalTokenText bytes n f s → ⊥
not_both bytes w n f s (texts.off name e h is) (off text e' a p q) = declared_not_local name n h (ap local_name_of (marked_same 33 name text bytes e e') ∙ a)
not_both bytes w n f s (texts.off name e h is) (clash text e' a p q) = marks_differ name text bytes e e'
not_both bytes w n f s (texts.off name e h is) (plain a x) = marked_plain bytes name 33 n e refl a
not_both bytes w n f s (texts.clash name e h is) (off text e' a p q) = marks_differ text name bytes e' e
not_both bytes w n f s (texts.clash name e h is) (clash text e' a p q) = declared_not_local name n h (ap local_name_of (marked_same 35 name text bytes e e') ∙ a)
not_both bytes w n f s (texts.clash name e h is) (plain a x) = marked_plain bytes name 35 n e refl a
not_both bytes w n f s (texts.plain h) (off text e' a p q) =
    let first = named_first bytes h.name h.rest h.parts h.is_a_name in
    letter_no_mark first.0 33 first.3 refl (first_byte first.0 33 first.1 text bytes first.2 e')
not_both bytes w n f s (texts.plain h) (clash text e' a p q) =
    let first = named_first bytes h.name h.rest h.parts h.is_a_name in
    letter_no_mark first.0 35 first.3 refl (first_byte first.0 35 first.1 text bytes first.2 e')
not_both bytes w n f s (texts.plain h) (plain a x) =
    let first = named_first bytes h.name h.rest h.parts h.is_a_name in
    marked_plain bytes first.1 first.0 n first.2 (letter_no_at first.0 first.3) a

-- ONE STORE

one_told : (p : CoreProgram) (t : ℕ) (text : List ℕ) (u v w : StoreMap) → TellsOut p t text u v → TellsOut p t text u w → v ≡ w
one_told p t text u v w (of_declared h) (of_declared k) =
    h.told ∙ ap (λ (tokens : Constraint). tell_all p [] tokens u) (says_one p text h.tokens k.tokens h.said k.said) ∙ sym k.told
one_told p t text u v w (of_declared h) (of_local n c f s said e) = absurd (not_both text h.said.written n f s h.said.names.text said.text)
one_told p t text u v w (of_local n c f s said e) (of_declared h) = absurd (not_both text h.said.written n f s h.said.names.text said.text)
one_told p t text u v w (of_local m c f s said e) (of_local n d g r also e') =
    let same = one_local_token text m n f g s r said.text also.text in
    e
    ∙ ap (λ (k : CellName). told_both k c f s u) same.0
    ∙ ap (λ (k : Cell). told_both n k f s u) (one_cell p t m n c d same.0 said.cell also.cell)
    ∙ ap (λ (k : Token). told_both n d k s u) same.1
    ∙ ap (λ (k : Option Token). told_both n d g k u) same.2
    ∙ sym e'

texts_one : (p : CoreProgram) (t : ℕ) (all : List (List ℕ)) (u v w : StoreMap) → TellTexts p t all u v → TellTexts p t all u w → v ≡ w
texts_one p t [] u v w a b = a ∙ sym b
texts_one p t (text ∷ later) u v w (x, here, rest) (y, here', rest') =
    texts_one p t later y v w (subst (λ (s : StoreMap). TellTexts p t later s v) (one_told p t text u x y here here') rest) rest'

-- the fields behind the word are the same
behind_same : (p : CoreProgram) (t : ℕ) (all : List Field) (v w : StoreMap) (a : TellsBehindOut p t all v []) (b : TellsBehindOut p t all w []) → a.behind ≡ b.behind
behind_same p t all v w a b =
    let whole : a.word ∷ (a.behind ++ []) ≡ b.word ∷ (b.behind ++ []) = sym a.parts ∙ b.parts in
    let tails : a.behind ++ [] ≡ b.behind ++ [] = cc in
    sym (append-nil a.behind) ∙ tails ∙ append-nil b.behind

pub gives_one : LinesGiveOneStore
gives_one p t line v w x y =
    let a = x.told in
    let b = y.told in
    texts_one p t (texts_in b.behind) empty v w (subst (λ (fs : List Field). TellTexts p t (texts_in fs) empty v) (behind_same p t (fields line) v w a b) a.told) b.told

-- BAD NOWHERE

none_unread : (p : CoreProgram) (t : ℕ) (all : List Field) (v : StoreMap) (place : ℕ) → TellsBehindOut p t all v [] → IsFirstUnread (codes "out") (SaysOut p t) all place → ⊥
none_unread p t all v place r (no_field none at) = let h : [] ≡ r.word ∷ (r.behind ++ []) = sym none ∙ r.parts in absurd (cc)
none_unread p t all v place r (other_word first later parts other at) =
    let h : first ∷ later ≡ r.word ∷ (r.behind ++ []) = sym parts ∙ r.parts in
    let same : first ≡ r.word = cc in
    other (ap (λ (f : Field). f.bytes) same ∙ r.is_word)
none_unread p t all v place r (later_field first before field after parts is_word reads not at) =
    let h : first ∷ (before ++ field ∷ after) ≡ r.word ∷ (r.behind ++ []) = sym parts ∙ r.parts in
    let tails : before ++ field ∷ after ≡ r.behind ++ [] = cc in
    let each = subst (Each (λ (f : Field). SaysOut p t f.bytes)) (sym (tails ∙ append-nil r.behind)) (all_say p t r.behind empty v r.told) in
    not (Each-parts (λ (f : Field). SaysOut p t f.bytes) before (field ∷ after) each).1.0

pub is_good : GivenOutsAreGood
is_good p t line v place x (long over at) = let short = x.short in absurd (omega arith)
is_good p t line v place x (unread short h) = none_unread p t (fields line) v place x.told h

-- A STORE OF THE INSTANT

born_one : (p : CoreProgram) (t : ℕ) (text : List ℕ) (u v : StoreMap) → KeepsOnly (IsBornBy t) u → TellsOut p t text u v → KeepsOnly (IsBornBy t) v
born_one p t text u v only (of_declared h) = subst (KeepsOnly (IsBornBy t)) (sym h.told) (only-declared (IsBornBy t) p (λ k. tt) h.tokens u (says_fit p text h.tokens h.said) only)
born_one p t text u v only (of_local name c first second said e) =
    let own : IsBornBy t name = subst (IsBornBy t) (sym said.cell.local) said.cell.born in
    subst (KeepsOnly (IsBornBy t)) (sym e) (go own second (only-told (IsBornBy t) u name c first own only))
  where
    go : IsBornBy t name → (o : Option Token) → KeepsOnly (IsBornBy t) (after_tell u name c first) → KeepsOnly (IsBornBy t) (told_if name c o (after_tell u name c first))
    go own None kept = kept
    go own (Some s) kept = only-told (IsBornBy t) (after_tell u name c first) name c s own kept

born_all : (p : CoreProgram) (t : ℕ) (all : List (List ℕ)) (u v : StoreMap) → KeepsOnly (IsBornBy t) u → TellTexts p t all u v → KeepsOnly (IsBornBy t) v
born_all p t [] u v only e = subst (KeepsOnly (IsBornBy t)) (sym e) only
born_all p t (text ∷ later) u v only (between, here, rest) = born_all p t later between v (born_one p t text u between only here) rest

pub gives_store : LinesGiveStores
gives_store p t line v x = record {
  store = texts_told p t (texts_in x.told.behind) empty v (empty-IsStore p) x.told.told;
  born = born_all p t (texts_in x.told.behind) empty v (only-empty (IsBornBy t)) x.told.told;
}
