-- An `in` line gives the input of which it was written, and no other.
use Rattle.std.proofs.Common.{◌≡◌, ℕ, ◌+◌, ◌≤◌, Bool, true, false, List, [], ◌∷◌, ◌++◌, length, refl, sym, ap, ◌∙◌, subst, arith}
use Rattle.std.specs.Prelude.{codes}
use Rattle.std.specs.FinMap.{empty}
use Rattle.std.specs.List.{slice_split}
use Rattle.std.proofs.lemmas.List.{append-nil}
use Rattle.std.proofs.lemmas.List.Splits.{slice_split_at}
use Rattle.token_system.specs.declared.name.CellName.TheVariants.{Declared}
use Rattle.token_system.specs.Stores.{StoreMap}
use Rattle.agent_core.specs.Agents.{Constraint}
use Rattle.agent_core.specs.Programs.{CoreProgram}
use Rattle.agent_core.specs.Stores.{IsInput}
use Rattle.agent_core.specs.Tellings.{tell_all}
use Rattle.agent_core.proofs.Tellings.{empty-IsStore, tell_all-least}
use Rattle.agent_laws.proofs.Eachs.{each_all}
use Rattle.trace_text.specs.Fields.{Field, fields, is_blank, is_some}
use Rattle.trace_text.specs.Inputs.{DenoteAll, GivesInput}
use Rattle.trace_text.specs.Limits.{longest_store_line}
use Rattle.trace_text.specs.StoreLines.{store_line}
use Rattle.trace_text.proofs.GivenInputs.{told_input, one_input}
use Rattle.trace_text.proofs.LineWalks.{fields_from}
use Rattle.trace_text.proofs.ReadBack.{line_read, line_short}
use Rattle.trace_text.proofs.Sayings.{say_all_fit, say_all_one, say_all-middle}
use Rattle.certificate_text.specs.BadPlaces.{IsFirstUnread, no_field, other_word, later_field, long, unread}
use Rattle.certificate_text.specs.InLines.{line_behind, SaysTokens, TellsBehindWord}
use Rattle.certificate_text.specs.Laws.{InputsReadBack, LinesGiveInputs, LinesGiveOneInput, GivenLinesAreGood}
use Rattle.certificate_text.proofs.KeptNames.{only-empty, only-declared}
use Rattle.certificate_text.proofs.PartWalks.{field_first, field_skipped}

-- ONE INPUT

-- the fields behind the word are the same
behind_same : (p : CoreProgram) (all : List Field) (i j : StoreMap) (a : TellsBehindWord p all i []) (b : TellsBehindWord p all j []) → a.behind ≡ b.behind
behind_same p all i j a b =
    let whole : a.word ∷ (a.behind ++ []) ≡ b.word ∷ (b.behind ++ []) = sym a.parts ∙ b.parts in
    let tails : a.behind ++ [] ≡ b.behind ++ [] = cc in
    sym (append-nil a.behind) ∙ tails ∙ append-nil b.behind

pub gives_one : LinesGiveOneInput
gives_one p line i j x y =
    let a = x.told in
    let b = y.told in
    let same : a.told.tokens ≡ b.told.tokens =
    say_all_one p b.behind a.told.tokens b.told.tokens (subst (λ (all : List Field). DenoteAll p all a.told.tokens) (behind_same p (fields line) i j a b) a.told.said) b.told.said in
    a.told.told ∙ ap (λ (tokens : Constraint). tell_all p [] tokens empty) same ∙ sym b.told.told

-- of these fields none is the first that does not read
none_unread : (p : CoreProgram) (all : List Field) (i : StoreMap) (place : ℕ) → TellsBehindWord p all i [] → IsFirstUnread (codes "in") (SaysTokens p) all place → ⊥
none_unread p all i place r (no_field none at) = let h : [] ≡ r.word ∷ (r.behind ++ []) = sym none ∙ r.parts in absurd (cc)
none_unread p all i place r (other_word first later parts other at) =
    let h : first ∷ later ≡ r.word ∷ (r.behind ++ []) = sym parts ∙ r.parts in
    let same : first ≡ r.word = cc in
    other (ap (λ (f : Field). f.bytes) same ∙ r.is_word)
none_unread p all i place r (later_field first before field after parts is_word reads not at) =
    let h : first ∷ (before ++ field ∷ after) ≡ r.word ∷ (r.behind ++ []) = sym parts ∙ r.parts in
    let tails : before ++ field ∷ after ≡ r.behind ++ [] = cc in
    not (say_all-middle p before field after r.told.tokens (subst (λ (fs : List Field). DenoteAll p fs r.told.tokens) (sym (tails ∙ append-nil r.behind)) r.told.said))

pub is_good : GivenLinesAreGood
is_good p line i place x (long over at) = let short = x.short in absurd (omega arith)
is_good p line i place x (unread short h) = none_unread p (fields line) i place x.told h

-- A STORE OVER THE DECLARED CELLS

pub gives_input : LinesGiveInputs
gives_input p line i x =
    let r = x.told in
    let fits = say_all_fit p r.behind r.told.tokens r.told.said in
    subst (IsInput p) (sym r.told.told) (record {
      store = (tell_all-least p [] r.told.tokens empty (empty-IsStore p) fits).store;
      declared = only-declared (λ n. (k : ℕ) × (n ≡ Declared k)) p (λ k. (k, refl)) r.told.tokens empty fits (only-empty (λ n. (k : ℕ) × (n ≡ Declared k)));
    })

-- WHAT WAS WRITTEN

-- fields say the same at other places
say_first : (p : CoreProgram) (m n : ℕ) (part : List ℕ) (xs ys : List Field) (tokens : Constraint) → ((tokens : Constraint) → DenoteAll p xs tokens → DenoteAll p ys tokens)
    → DenoteAll p (record { offset = m; bytes = part } ∷ xs) tokens → DenoteAll p (record { offset = n; bytes = part } ∷ ys) tokens
say_first p m n part xs ys tokens move (first, rest, here, later, e) = (first, rest, here, move rest later, e)

say_moved : (p : CoreProgram) (m n : ℕ) (parts : List (List ℕ)) (tokens : Constraint) → DenoteAll p (fields_from m parts) tokens → DenoteAll p (fields_from n parts) tokens
say_moved p m n [] tokens h = h
say_moved p m n (part ∷ parts) tokens h = go (is_some part) refl (λ tokens. say_moved p (m + (length part + 1)) (n + (length part + 1)) parts tokens)
  where
    go : (b : Bool) → is_some part ≡ b
        → ((tokens : Constraint) → DenoteAll p (fields_from (m + (length part + 1)) parts) tokens → DenoteAll p (fields_from (n + (length part + 1)) parts) tokens) → DenoteAll p (fields_from n (part ∷ parts)) tokens
    go false none later =
        subst (λ (all : List Field). DenoteAll p all tokens) (sym (field_skipped n part parts none))
        (later tokens (subst (λ (all : List Field). DenoteAll p all tokens) (field_skipped m part parts none) h))
    go true some later =
        subst (λ (all : List Field). DenoteAll p all tokens) (sym (field_first n part parts some))
        (say_first p m n part (fields_from (m + (length part + 1)) parts) (fields_from (n + (length part + 1)) parts) tokens later
        (subst (λ (all : List Field). DenoteAll p all tokens) (field_first m part parts some) h))

-- the fields of a line behind the word
fields_behind : (line : List ℕ) → fields (codes "in" ++ codes " " ++ line) ≡ record { offset = 0; bytes = codes "in" } ∷ fields_from 3 (slice_split is_blank line)
fields_behind line = ap (λ parts. fields_from 0 parts) (slice_split_at is_blank (codes "in") 32 line (each_all (λ b. is_blank b ≡ false) (codes "in") (refl, (refl, tt))) refl)

-- what the fields of the line tell is told behind the word
told_behind : (p : CoreProgram) (line : List ℕ) (i : StoreMap) (tokens : Constraint) → DenoteAll p (fields line) tokens → i ≡ tell_all p [] tokens empty → TellsBehindWord p (fields (line_behind (codes "in") line)) i []
told_behind p [] i tokens said told = record {
  word = record { offset = 0; bytes = codes "in" };
  behind = [];
  parts = refl;
  is_word = refl;
  told = record { tokens = tokens; said = said; told = told };
}
told_behind p (b ∷ line) i tokens said told = record {
  word = record { offset = 0; bytes = codes "in" };
  behind = fields_from 3 (slice_split is_blank (b ∷ line));
  parts = fields_behind (b ∷ line) ∙ ap (λ (fs : List Field). record { offset = 0; bytes = codes "in" } ∷ fs) (sym (append-nil (fields_from 3 (slice_split is_blank (b ∷ line)))));
  is_word = refl;
  told = record { tokens = tokens; said = say_moved p 0 3 (slice_split is_blank (b ∷ line)) tokens said; told = told };
}

behind_short : (line : List ℕ) → length (line_behind (codes "in") line) ≤ length line + 3
behind_short [] = omega arith
behind_short (b ∷ line) = omega arith

-- an input is what the tokens of its line tell
pub input_told : (p : CoreProgram) (line : List ℕ) (i : StoreMap) (given : GivesInput p line i) → i ≡ tell_all p [] given.tokens empty
input_told p line i given = one_input p line i (tell_all p [] given.tokens empty) given (told_input p line given.tokens (tell_all p [] given.tokens empty) given.short given.said refl)

pub reads_back : InputsReadBack
reads_back p i program names input =
    let given : GivesInput p (store_line p i) i = line_read p i i program names (record { input = input; same = λ n lt. refl }) in
    let told : i ≡ tell_all p [] given.tokens empty = input_told p (store_line p i) i given in
    let few : length (store_line p i) ≤ longest_store_line = line_short p i program names input.store in
    record {
      short = let more = behind_short (store_line p i) in omega arith;
      told = told_behind p (store_line p i) i given.tokens given.said told;
    }
