-- An `in` line is read field by field: first its word, and then tokens, which are told.
use Rattle.std.proofs.Common.{◌≡◌, ℕ, ◌≤◌, Bool, true, false, List, [], ◌∷◌, ◌++◌, length, refl, sym, ap, ◌∙◌, subst, append_assoc}
use Rattle.std.specs.Prelude.{codes, nat_eq}
use Rattle.std.specs.Cmp.Lexicographic.{pointwise, bytes_decides}
use Rattle.std.specs.FinMap.{empty}
use Rattle.token_system.specs.Stores.{StoreMap}
use Rattle.agent_core.specs.Agents.{Constraint}
use Rattle.agent_core.specs.Programs.{CoreProgram}
use Rattle.agent_core.specs.Stores.{IsStore}
use Rattle.agent_core.specs.Strata.{Each}
use Rattle.agent_core.specs.Tellings.{tell_all}
use Rattle.agent_core.proofs.Tellings.{empty-IsStore, tell_all-least}
use Rattle.trace_text.specs.Fields.{Field, fields}
use Rattle.trace_text.specs.Inputs.{DenoteAll}
use Rattle.trace_text.specs.Tellings.{TellsField}
use Rattle.trace_text.proofs.Sayings.{say_all_fit, say_all-append, say_one, tell_all-append}
use Rattle.certificate_text.specs.declared.fault.EntryLineFault.{EntryLineFault}
use Rattle.certificate_text.specs.declared.fault.EntryLineFault.TheVariants.{Bad, Memory}
use Rattle.certificate_text.specs.Limits.{longest_entry_line}
use Rattle.certificate_text.specs.BadPlaces.{IsFirstUnread, IsFaultAt, unread, other_word, later_field}
use Rattle.certificate_text.specs.InLines.{SaysTokens, TellsBehindWord, IsInputBadAt, IsReadUpTo}

-- each field of a list that says tokens says some
pub all_say : (p : CoreProgram) (all : List Field) (tokens : Constraint) → DenoteAll p all tokens → Each (λ f. SaysTokens p f.bytes) all
all_say p [] tokens h = tt
all_say p (field ∷ later) tokens (first, rest, here, others, e) = ((first, here), all_say p later rest others)

-- what was told is a store
pub read_store : (p : CoreProgram) (all left : List Field) (worded : Bool) (i : StoreMap) → IsReadUpTo p all worded i left → IsStore p i
read_store p all left false i r = subst (IsStore p) (sym r.1) (empty-IsStore p)
read_store p all left true i r =
    subst (IsStore p) (sym r.told.told) (tell_all-least p [] r.told.tokens empty (empty-IsStore p) (say_all_fit p r.behind r.told.tokens r.told.said)).store

module _ (p : CoreProgram) (offset : ℕ) (bytes : List ℕ) where
  abbrev here : Field
  here = record { offset = offset; bytes = bytes }

  -- a field behind the word is told
  pub told_next : (worded : Bool) (i j : StoreMap) → worded ≡ true → TellsField p bytes i j → (all later : List Field) → IsReadUpTo p all worded i (here ∷ later) → IsReadUpTo p all worded j later
  told_next false i j e t all later r = absurd (cc)
  told_next true i j e t all later r = record {
    word = r.word;
    behind = r.behind ++ here ∷ [];
    parts = r.parts ∙ ap (λ (fs : List Field). r.word ∷ fs) (sym (append_assoc r.behind (here ∷ []) later));
    is_word = r.is_word;
    told = record {
      tokens = r.told.tokens ++ t.tokens;
      said = say_all-append p r.behind (here ∷ []) r.told.tokens t.tokens r.told.said (say_one p here t.tokens t.said);
      told = t.told ∙ ap (tell_all p [] t.tokens) r.told.told ∙ sym (tell_all-append p [] r.told.tokens t.tokens empty);
    };
  }

  -- or does not read
  pub fault_next : (worded : Bool) (i : StoreMap) (fault : EntryLineFault) → worded ≡ true → IsFaultAt (λ place. (place ≡ offset) × ¬ (SaysTokens p bytes)) fault
      → (all later : List Field) → IsReadUpTo p all worded i (here ∷ later) → IsFaultAt (IsFirstUnread (codes "in") (SaysTokens p) all) fault
  fault_next false i fault e h all later r = absurd (cc)
  fault_next true i Memory e h all later r = tt
  fault_next true i (Bad place) e h all later r = later_field r.word r.behind here later r.parts r.is_word (all_say p r.behind r.told.tokens r.told.said) h.1 h.0

  -- the word comes first
  pub word_next : (worded : Bool) (i : StoreMap) → worded ≡ false → pointwise nat_eq bytes (codes "in") ≡ true → (all later : List Field) → IsReadUpTo p all worded i (here ∷ later) → TellsBehindWord p all i later
  word_next true i e same all later r = absurd (cc)
  word_next false i e same all later r = record {
    word = here;
    behind = [];
    parts = r.0;
    is_word = (bytes_decides bytes (codes "in")).0 same;
    told = record { tokens = []; said = refl; told = r.1 };
  }

  -- or another one
  pub other_next : (worded : Bool) (i : StoreMap) → worded ≡ false → pointwise nat_eq bytes (codes "in") ≡ false → (all later : List Field) → IsReadUpTo p all worded i (here ∷ later)
      → IsFirstUnread (codes "in") (SaysTokens p) all offset
  other_next true i e differ all later r = absurd (cc)
  other_next false i e differ all later r = other_word here later r.0 (λ same. let t : true ≡ false = sym ((bytes_decides bytes (codes "in")).1 same) ∙ differ in absurd (cc)) refl

-- the place of a field is one of the line, which is not too long
pub fault_of_line : (p : CoreProgram) (line : List ℕ) (fault : EntryLineFault) → length line ≤ longest_entry_line → IsFaultAt (IsFirstUnread (codes "in") (SaysTokens p) (fields line)) fault → IsFaultAt (IsInputBadAt p line) fault
fault_of_line p line Memory short h = tt
fault_of_line p line (Bad place) short h = unread short h
