-- An `out` line is read field by field: first its word, and then tokens of declared and of local cells, which are told.
use Rattle.std.proofs.Common.{◌≡◌, ℕ, ◌≤◌, Bool, true, false, List, [], ◌∷◌, ◌++◌, length, Option, Some, None, inl, inr, refl, sym, ap, ◌∙◌, subst, append_assoc}
use Rattle.std.specs.Prelude.{IfSome, IsTrue, codes, nat_eq}
use Rattle.std.specs.Cmp.Lexicographic.{pointwise, bytes_decides}
use Rattle.std.specs.FinMap.{empty}
use Rattle.token_system.specs.declared.cell.Cell.{Cell}
use Rattle.token_system.specs.declared.cell.Token.{Token}
use Rattle.token_system.specs.declared.name.CellName.{CellName}
use Rattle.token_system.specs.Stores.{StoreMap, after_tell, CanHold}
use Rattle.token_system.specs.Tokens.{Fits, token_fits}
use Rattle.agent_core.specs.declared.node.CellDecl.{CellDecl}
use Rattle.agent_core.specs.Names.{Names}
use Rattle.agent_core.specs.Programs.{CoreProgram}
use Rattle.agent_core.specs.Stores.{IsStore}
use Rattle.agent_core.specs.Strata.{Each}
use Rattle.agent_core.proofs.AskTests.{can_hold}
use Rattle.agent_core.proofs.Bools.{first_of_both, second_of_both}
use Rattle.agent_core.proofs.Told.{told-Tells}
use Rattle.agent_core.proofs.Tellings.{empty-IsStore, tell_all-least}
use Rattle.trace_text.specs.Fields.{Field, fields}
use Rattle.trace_text.specs.Inputs.{fits_if_some}
use Rattle.trace_text.proofs.Sayings.{says_fit}
use Rattle.certificate_text.specs.declared.fault.EntryLineFault.{EntryLineFault}
use Rattle.certificate_text.specs.declared.fault.EntryLineFault.TheVariants.{Bad, Memory}
use Rattle.certificate_text.specs.Limits.{longest_entry_line}
use Rattle.certificate_text.specs.BadPlaces.{IsFirstUnread, IsFaultAt, unread, other_word, later_field}
use Rattle.certificate_text.specs.LocalCells.{IsLocalCell, IsSaidOfLocal, told_if, told_both}
use Rattle.certificate_text.specs.OutReadings.{SaysOut, TellsOut, of_declared, of_local, TellTexts, texts_in, TellsBehindOut, IsOutBadAt, IsOutReadUpTo}

-- A LOCAL CELL

-- the name of a local cell is one of the program's
pub local_named : (p : CoreProgram) (t : ℕ) (name : CellName) (c : Cell) → IsLocalCell p t name c → (d : CellDecl) × Names p name d × (d.cell ≡ c)
local_named p t name c h = (h.decl, subst (λ (n : CellName). Names p n h.decl) (sym h.local) h.named, h.kind)

module _ (p : CoreProgram) (name : CellName) (c : Cell) (cell : (d : CellDecl) × Names p name d × (d.cell ≡ c)) (u : StoreMap) (is : IsStore p u) where
  -- a store of the program can hold a token of it that fits
  pub local_can_hold : (t : Token) → IsTrue (token_fits c t) → CanHold u name c t
  local_can_hold t fits = subst (λ (k : Cell). CanHold u name k t) cell.2 (can_hold p u name cell.0 t is cell.1 (subst (λ (k : Cell). Fits k t) (sym cell.2) fits))

  -- and is one after it is told
  pub local_told : (t : Token) → IsTrue (token_fits c t) → IsStore p (after_tell u name c t)
  local_told t fits = subst (λ (k : Cell). IsStore p (after_tell u name k t)) cell.2 (told-Tells p u name cell.0 t is cell.1 (subst (λ (k : Cell). Fits k t) (sym cell.2) fits)).store

module _ (p : CoreProgram) (t : ℕ) (bytes : List ℕ) (name : CellName) (c : Cell) (first : Token) (second : Option Token) (said : IsSaidOfLocal p t bytes name c first second) (u : StoreMap) (is : IsStore p u) where
  first_fits : IsTrue (token_fits c first)
  first_fits = first_of_both (token_fits c first) (fits_if_some c second) said.fits

  between : IsStore p (after_tell u name c first)
  between = local_told p name c (local_named p t name c said.cell) u is first first_fits

  pub first_held : CanHold u name c first
  first_held = local_can_hold p name c (local_named p t name c said.cell) u is first first_fits

  pub second_held : IfSome second (CanHold (after_tell u name c first) name c)
  second_held = go second (second_of_both (token_fits c first) (fits_if_some c second) said.fits)
    where
      go : (o : Option Token) → IsTrue (fits_if_some c o) → IfSome o (CanHold (after_tell u name c first) name c)
      go None h = tt
      go (Some s) h = local_can_hold p name c (local_named p t name c said.cell) (after_tell u name c first) between s h

  both_told : IsStore p (told_both name c first second u)
  both_told = go second (second_of_both (token_fits c first) (fits_if_some c second) said.fits)
    where
      go : (o : Option Token) → IsTrue (fits_if_some c o) → IsStore p (told_if name c o (after_tell u name c first))
      go None h = between
      go (Some s) h = local_told p name c (local_named p t name c said.cell) (after_tell u name c first) between s h

-- FIELDS

-- what was told is a store
out_told : (p : CoreProgram) (t : ℕ) (text : List ℕ) (u v : StoreMap) → IsStore p u → TellsOut p t text u v → IsStore p v
out_told p t text u v is (of_declared h) = subst (IsStore p) (sym h.told) (tell_all-least p [] h.tokens u is (says_fit p text h.tokens h.said)).store
out_told p t text u v is (of_local name c first second said e) = subst (IsStore p) (sym e) (both_told p t text name c first second said u is)

pub texts_told : (p : CoreProgram) (t : ℕ) (texts : List (List ℕ)) (u v : StoreMap) → IsStore p u → TellTexts p t texts u v → IsStore p v
texts_told p t [] u v is e = subst (IsStore p) (sym e) is
texts_told p t (text ∷ texts) u v is (between, here, later) = texts_told p t texts between v (out_told p t text u between is here) later

pub out_store : (p : CoreProgram) (t : ℕ) (all left : List Field) (worded : Bool) (v : StoreMap) → IsOutReadUpTo p t all worded v left → IsStore p v
out_store p t all left false v r = subst (IsStore p) (sym r.1) (empty-IsStore p)
out_store p t all left true v r = texts_told p t (texts_in r.behind) empty v (empty-IsStore p) r.told

-- texts, and then one more
pub TellTexts-append : (p : CoreProgram) (t : ℕ) (xs ys : List (List ℕ)) (u v w : StoreMap) → TellTexts p t xs u v → TellTexts p t ys v w → TellTexts p t (xs ++ ys) u w
TellTexts-append p t [] ys u v w a b = subst (λ (s : StoreMap). TellTexts p t ys s w) a b
TellTexts-append p t (x ∷ xs) ys u v w (between, here, later) b = (between, here, TellTexts-append p t xs ys between v w later b)

texts_in-append : (xs ys : List Field) → texts_in (xs ++ ys) ≡ texts_in xs ++ texts_in ys
texts_in-append [] ys = refl
texts_in-append (x ∷ xs) ys = ap (λ (texts : List (List ℕ)). x.bytes ∷ texts) (texts_in-append xs ys)

-- each field of those that are told says something
one_says : (p : CoreProgram) (t : ℕ) (text : List ℕ) (u v : StoreMap) → TellsOut p t text u v → SaysOut p t text
one_says p t text u v (of_declared h) = inl (h.tokens, h.said)
one_says p t text u v (of_local name c first second said e) = inr (name, c, first, second, said)

pub all_say : (p : CoreProgram) (t : ℕ) (all : List Field) (u v : StoreMap) → TellTexts p t (texts_in all) u v → Each (λ f. SaysOut p t f.bytes) all
all_say p t [] u v h = tt
all_say p t (field ∷ all) u v (between, here, later) = (one_says p t field.bytes u between here, all_say p t all between v later)

module _ (p : CoreProgram) (t offset : ℕ) (bytes : List ℕ) where
  abbrev here : Field
  here = record { offset = offset; bytes = bytes }

  -- a field behind the word is told
  pub told_next : (worded : Bool) (u v : StoreMap) → worded ≡ true → TellsOut p t bytes u v → (all later : List Field) → IsOutReadUpTo p t all worded u (here ∷ later) → IsOutReadUpTo p t all worded v later
  told_next false u v e h all later r = absurd (cc)
  told_next true u v e h all later r = record {
    word = r.word;
    behind = r.behind ++ here ∷ [];
    parts = r.parts ∙ ap (λ (fs : List Field). r.word ∷ fs) (sym (append_assoc r.behind (here ∷ []) later));
    is_word = r.is_word;
    told = subst (λ (texts : List (List ℕ)). TellTexts p t texts empty v) (sym (texts_in-append r.behind (here ∷ [])))
        (TellTexts-append p t (texts_in r.behind) (bytes ∷ []) empty u v r.told (v, h, refl));
  }

  -- or does not read
  pub fault_next : (worded : Bool) (u : StoreMap) (fault : EntryLineFault) → worded ≡ true → IsFaultAt (λ place. (place ≡ offset) × ¬ (SaysOut p t bytes)) fault
      → (all later : List Field) → IsOutReadUpTo p t all worded u (here ∷ later) → IsFaultAt (IsFirstUnread (codes "out") (SaysOut p t) all) fault
  fault_next false u fault e h all later r = absurd (cc)
  fault_next true u Memory e h all later r = tt
  fault_next true u (Bad place) e h all later r = later_field r.word r.behind here later r.parts r.is_word (all_say p t r.behind empty u r.told) h.1 h.0

  -- the word comes first
  pub word_next : (worded : Bool) (u : StoreMap) → worded ≡ false → pointwise nat_eq bytes (codes "out") ≡ true → (all later : List Field) → IsOutReadUpTo p t all worded u (here ∷ later) → TellsBehindOut p t all u later
  word_next true u e same all later r = absurd (cc)
  word_next false u e same all later r = record {
    word = here;
    behind = [];
    parts = r.0;
    is_word = (bytes_decides bytes (codes "out")).0 same;
    told = r.1;
  }

  -- or another one
  pub other_next : (worded : Bool) (u : StoreMap) → worded ≡ false → pointwise nat_eq bytes (codes "out") ≡ false → (all later : List Field) → IsOutReadUpTo p t all worded u (here ∷ later)
      → IsFirstUnread (codes "out") (SaysOut p t) all offset
  other_next true u e differ all later r = absurd (cc)
  other_next false u e differ all later r = other_word here later r.0 (λ same. let h : true ≡ false = sym ((bytes_decides bytes (codes "out")).1 same) ∙ differ in absurd (cc)) refl

-- the place of a field is one of the line, which is not too long
pub fault_of_line : (p : CoreProgram) (t : ℕ) (line : List ℕ) (fault : EntryLineFault) → length line ≤ longest_entry_line → IsFaultAt (IsFirstUnread (codes "out") (SaysOut p t) (fields line)) fault → IsFaultAt (IsOutBadAt p t line) fault
fault_of_line p t line Memory short h = tt
fault_of_line p t line (Bad place) short h = unread short h
