-- The `out` line of a store gives that store: its declared part is what the line of a store gives, and each local cell is told behind it.
use Rattle.std.proofs.Common.{◌≡◌, ℕ, ◌<◌, ◌^◌, Bool, true, false, cond, ◌&&◌, List, [], ◌∷◌, ◌++◌, Option, Some, None, refl, sym, ap, ◌∙◌, subst}
use Rattle.std.specs.Prelude.{T, codes, flat_map, slice_get}
use Rattle.std.specs.FinMap.{get, empty, entries, entries_sorted, find, insert, is_sorted, retain_keys, get-entries, get-insert, get-retain_keys, same_map}
use Rattle.std.specs.FinMap.Entries.{below_all}
use Rattle.std.specs.Ordering.{is_eq, is_lt, eq_by_cmp}
use Rattle.std.specs.Cmp.{eq_by_cmp_equiv}
use Rattle.std.specs.declared.cmp.Ordering.{Ordering}
use Rattle.std.specs.declared.cmp.Ordering.TheVariants.{Less, Equal, Greater}
use Rattle.std.proofs.lemmas.List.{append-nil}
use Rattle.token_system.specs.declared.cell.Value.{Value}
use Rattle.token_system.specs.declared.name.CellName.{CellName}
use Rattle.token_system.specs.declared.name.CellName.TheVariants.{Declared, Local}
use Rattle.token_system.specs.Names.{name_cmp, name_total, name_cmp-IsAntisymmetric}
use Rattle.token_system.specs.Stores.{StoreMap}
use Rattle.token_system.proofs.Telling.{equal_names}
use Rattle.agent_core.specs.declared.node.CellDecl.{CellDecl}
use Rattle.agent_core.specs.Agents.{Constraint}
use Rattle.agent_core.specs.Programs.{CoreProgram}
use Rattle.agent_core.specs.Tellings.{tell_all}
use Rattle.agent_core.specs.WellFormed.{IsWellFormed}
use Rattle.trace_text.specs.Fields.{Field, fields}
use Rattle.trace_text.specs.Inputs.{DenoteAll, GivesInput}
use Rattle.trace_text.specs.Laws.{IsInputPart}
use Rattle.trace_text.specs.StoreLines.{store_line}
use Rattle.trace_text.proofs.ReadBack.{line_read}
use Rattle.trace_text.proofs.Sayings.{tell_all-append}
use Rattle.certificate_text.specs.Laws.{OutsReadBack}
use Rattle.certificate_text.specs.LocalNames.{local_text}
use Rattle.certificate_text.specs.OutLines.{cell_made, local_texts, local_value_texts, out_line, texts_where}
use Rattle.certificate_text.specs.OutReadings.{IsStoreAt, of_declared, TellTexts, texts_in}
use Rattle.certificate_text.proofs.InputLaws.{input_told}
use Rattle.certificate_text.proofs.LineParts.{first_field, line_texts}
use Rattle.certificate_text.proofs.LocalCellFacts.{births_small, node_small}
use Rattle.certificate_text.proofs.LocalTexts.{AreWritten, value_written, written-append}
use Rattle.certificate_text.proofs.OutWalks.{TellTexts-append}

-- ENTRIES IN ORDER

t_first : (a b : Bool) → T (a && b) → T a
t_first true b h = tt
t_first false b h = h

t_second : (a b : Bool) → T (a && b) → T b
t_second true b h = h
t_second false b h = absurd h

is_less : (o : Ordering) → T (is_lt o) → is_eq o ≡ false
is_less Less h = refl
is_less Equal h = absurd h
is_less Greater h = absurd h

-- the first name is that of no later entry
find_below : (q : CellName) (es : List (CellName × Value)) → T (below_all name_cmp q es) → find name_cmp q es ≡ None
find_below q [] h = refl
find_below q (e ∷ es) h =
    ap (λ b. cond b (Some e.1) (find name_cmp q es)) (is_less (name_cmp q e.0) (t_first (is_lt (name_cmp q e.0)) (below_all name_cmp q es) h))
    ∙ find_below q es (t_second (is_lt (name_cmp q e.0)) (below_all name_cmp q es) h)

find_none : (q : CellName) (x : Value) (es : List (CellName × Value)) → T (is_sorted name_cmp ((q, x) ∷ es)) → find name_cmp q es ≡ None
find_none q x es h = find_below q es (t_first (below_all name_cmp q es) (is_sorted name_cmp es) h)

-- so what is found later is found
find_later : (n : CellName) (x : Value) (es : List (CellName × Value)) → T (is_sorted name_cmp ((n, x) ∷ es)) → (q : CellName) (y : Value) → find name_cmp q es ≡ Some y → (eq_by_cmp name_cmp q n ≡ false) × (find name_cmp q ((n, x) ∷ es) ≡ Some y)
find_later n x es sorted q y found = go (eq_by_cmp name_cmp q n) refl
  where
    go : (b : Bool) → eq_by_cmp name_cmp q n ≡ b → (eq_by_cmp name_cmp q n ≡ false) × (find name_cmp q ((n, x) ∷ es) ≡ Some y)
    go false e = (e, ap (λ b. cond b (Some x) (find name_cmp q es)) e ∙ found)
    go true e =
        let none : find name_cmp q es ≡ None = ap (λ (k : CellName). find name_cmp k es) (equal_names q n e) ∙ find_none n x es sorted in
        let no : None ≡ Some y = sym none ∙ found in absurd (cc)

find_here : (n : CellName) (x : Value) (es : List (CellName × Value)) → find name_cmp n ((n, x) ∷ es) ≡ Some x
find_here n x es = ap (λ b. cond b (Some x) (find name_cmp n es)) ((eq_by_cmp_equiv name_total).refl n)

-- THE LOCAL CELLS

-- what a store has for a name after the local cells of some entries are told, of which this one was found
abbrev pub or_had : Option Value → Option Value → Option Value
or_had (Some x) had = Some x
or_had None had = had

abbrev pub told_for : CellName → Option Value → Option Value → Option Value
told_for (Declared n) found had = had
told_for (Local m births) found had = or_had found had

module _ (p : CoreProgram) (t : ℕ) (v : StoreMap) (program : IsWellFormed p) (soon : t < 10 ^ 9) (at : IsStoreAt p t v) where
  -- the texts of one local cell
  local_written : (m : ℕ) (births : List ℕ) (x : Value) → get v (Local m births) ≡ Some x → (u : StoreMap) → get u (Local m births) ≡ None
      → AreWritten p t (local_value_texts p (Local m births) x) u (insert u (Local m births) x)
  local_written m births x kept u none =
      let own = at.store (Local m births) x kept in
      let born = at.born (Local m births) x kept in
      let made : cell_made p.cells (slice_get p.nodes m) ≡ Some own.0 = ap (cell_made p.cells) own.1.2 ∙ own.1.3 in
      subst (λ (o : Option CellDecl). AreWritten p t (texts_where (local_text m births) o x) u (insert u (Local m births) x)) (sym made)
      (value_written p t m births (node_small p m births own.0 program own.1) (births_small 0 t births soon born) own.0 own.1 born u none x own.2)

  record EntriesTold (es : List (CellName × Value)) (u : StoreMap) : Type 0 where
    after : StoreMap
    written : AreWritten p t (flat_map (λ e. local_value_texts p e.0 e.1) es) u after
    has : (q : CellName) → get after q ≡ told_for q (find name_cmp q es) (get u q)

  entries_told : (es : List (CellName × Value)) → T (is_sorted name_cmp es) → ((q : CellName) (x : Value) → find name_cmp q es ≡ Some x → get v q ≡ Some x)
      → (u : StoreMap) → ((m : ℕ) (births : List ℕ) (x : Value) → find name_cmp (Local m births) es ≡ Some x → get u (Local m births) ≡ None) → EntriesTold es u
  entries_told [] sorted kept u none = record { after = u; written = record { whole = tt; told = refl }; has = go }
    where
      go : (q : CellName) → get u q ≡ told_for q None (get u q)
      go (Declared n) = refl
      go (Local m births) = refl
  entries_told ((Declared n, x) ∷ es) sorted kept u none =
      let rest = entries_told es (t_second (below_all name_cmp (Declared n) es) (is_sorted name_cmp es) sorted) (λ q y e. kept q y (find_later (Declared n) x es sorted q y e).1) u (λ m births y e. none m births y (find_later (Declared n) x es sorted (Local m births) y e).1) in
      record { after = rest.after; written = rest.written; has = go rest.after rest.has }
    where
      go : (w : StoreMap) → ((q : CellName) → get w q ≡ told_for q (find name_cmp q es) (get u q)) → (q : CellName) → get w q ≡ told_for q (find name_cmp q ((Declared n, x) ∷ es)) (get u q)
      go w has (Declared k) = has (Declared k)
      go w has (Local m births) = has (Local m births)
  entries_told ((Local m births, x) ∷ es) sorted kept u none =
      let own : StoreMap = insert u (Local m births) x in
      let rest = entries_told es (t_second (below_all name_cmp (Local m births) es) (is_sorted name_cmp es) sorted) (λ q y e. kept q y (find_later (Local m births) x es sorted q y e).1) own (λ k bs y e.
      let later = find_later (Local m births) x es sorted (Local k bs) y e in
      get-insert name_total u (Local m births) x (Local k bs) ∙ ap (λ b. cond b (Some x) (get u (Local k bs))) later.0 ∙ none k bs y later.1) in
      record {
        after = rest.after;
        written = written-append p t (local_value_texts p (Local m births) x) (flat_map (λ e. local_value_texts p e.0 e.1) es) u own rest.after
            (local_written m births x (kept (Local m births) x (find_here (Local m births) x es)) u (none m births x (find_here (Local m births) x es))) rest.written;
        has = go rest.after rest.has;
      }
    where
      behind : (q : CellName) (k : ℕ) (bs : List ℕ) → q ≡ Local k bs → (b : Bool) → eq_by_cmp name_cmp q (Local m births) ≡ b
          → or_had (find name_cmp q es) (cond b (Some x) (get u q)) ≡ or_had (cond b (Some x) (find name_cmp q es)) (get u q)
      behind q k bs is false e = refl
      behind q k bs is true e =
          ap (λ o. or_had o (Some x)) (ap (λ (n : CellName). find name_cmp n es) (equal_names q (Local m births) e) ∙ find_none (Local m births) x es sorted)

      go : (w : StoreMap) → ((q : CellName) → get w q ≡ told_for q (find name_cmp q es) (get (insert u (Local m births) x) q)) → (q : CellName) → get w q ≡ told_for q (find name_cmp q ((Local m births, x) ∷ es)) (get u q)
      go w has (Declared k) = has (Declared k) ∙ get-insert name_total u (Local m births) x (Declared k)
      go w has (Local k bs) =
          has (Local k bs) ∙ ap (or_had (find name_cmp (Local k bs) es)) (get-insert name_total u (Local m births) x (Local k bs))
          ∙ behind (Local k bs) k bs refl (eq_by_cmp name_cmp (Local k bs) (Local m births)) refl

-- THE DECLARED CELLS

-- fields that denote tokens tell them
denoted_tell : (p : CoreProgram) (t : ℕ) (all : List Field) (tokens : Constraint) (u : StoreMap) → DenoteAll p all tokens → TellTexts p t (texts_in all) u (tell_all p [] tokens u)
denoted_tell p t [] tokens u h = ap (λ (z : Constraint). tell_all p [] z u) h
denoted_tell p t (field ∷ all) tokens u (first, rest, here, later, e) = (
  tell_all p [] first u,
  of_declared (record { tokens = first; said = here; told = refl }),
  subst (TellTexts p t (texts_in all) (tell_all p [] first u)) (sym (ap (λ (z : Constraint). tell_all p [] z u) e ∙ tell_all-append p [] first rest u)) (denoted_tell p t all rest (tell_all p [] first u) later),
)

-- the part of a store over the declared cells
abbrev pub is_declared : CellName → Bool
is_declared (Declared n) = true
is_declared (Local m births) = false

abbrev pub declared_part : StoreMap → StoreMap
declared_part v = retain_keys v is_declared

part_has : (v : StoreMap) (q : CellName) → get (declared_part v) q ≡ cond (is_declared q) (get v q) None
part_has v q = get-retain_keys v is_declared q (λ x e. sym (ap is_declared (name_cmp-IsAntisymmetric q x e)))

part_input : (p : CoreProgram) (t : ℕ) (v : StoreMap) → IsStoreAt p t v → IsInputPart p v (declared_part v)
part_input p t v at = record {
  input = record { store = λ q x e. at.store q x (within q x e); declared = only };
  same = λ n lt. sym (part_has v (Declared n));
}
  where
    within : (q : CellName) (x : Value) → get (declared_part v) q ≡ Some x → get v q ≡ Some x
    within (Declared n) x e = sym (part_has v (Declared n)) ∙ e
    within (Local m births) x e = let no : None ≡ Some x = sym (part_has v (Local m births)) ∙ e in absurd (cc)

    only : (q : CellName) (x : Value) → get (declared_part v) q ≡ Some x → (k : ℕ) × (q ≡ Declared k)
    only (Declared n) x e = (n, refl)
    only (Local m births) x e = let no : None ≡ Some x = sym (part_has v (Local m births)) ∙ e in absurd (cc)

-- BOTH

-- what the entries tell to the declared part is the store
whole_store : (v w : StoreMap) → ((q : CellName) → get w q ≡ told_for q (find name_cmp q (entries v)) (get (declared_part v) q)) → w ≡ v
whole_store v w has = same_map name_total name_cmp-IsAntisymmetric w v (λ q. has q ∙ go q)
  where
    or_none : (o : Option Value) → or_had o None ≡ o
    or_none None = refl
    or_none (Some x) = refl

    go : (q : CellName) → told_for q (find name_cmp q (entries v)) (get (declared_part v) q) ≡ get v q
    go (Declared n) = part_has v (Declared n)
    go (Local m births) = ap (or_had (find name_cmp (Local m births) (entries v))) (part_has v (Local m births)) ∙ or_none (find name_cmp (Local m births) (entries v)) ∙ sym (get-entries v (Local m births))

pub reads_back : OutsReadBack
reads_back p t v program names soon at short =
    let part = declared_part v in
    let given : GivesInput p (store_line p v) part = line_read p v part program names (part_input p t v at) in
    let local = entries_told p t v program soon at (entries v) (entries_sorted v) (λ q x e. get-entries v q ∙ e) part (λ m births x e. part_has v (Local m births)) in
    let first : TellTexts p t (texts_in (fields (store_line p v))) empty part = subst (TellTexts p t (texts_in (fields (store_line p v))) empty) (sym (input_told p (store_line p v) part given)) (denoted_tell p t (fields (store_line p v)) given.tokens empty given.said) in
    let all : TellTexts p t (texts_in (fields (store_line p v)) ++ local_texts p v) empty v =
    TellTexts-append p t (texts_in (fields (store_line p v))) (local_texts p v) empty part v first (subst (TellTexts p t (local_texts p v) part) (whole_store v local.after local.has) local.written.told) in
    let line = first_field (fields (out_line p v)) (codes "out") (texts_in (fields (store_line p v)) ++ local_texts p v)
    (line_texts (codes "out") (store_line p v) (local_texts p v) ((refl, (refl, (refl, tt))), refl) local.written.whole) in
    record {
      short = short;
      told = record {
        word = line.0;
        behind = line.1;
        parts = line.2 ∙ ap (λ (fs : List Field). line.0 ∷ fs) (sym (append-nil line.1));
        is_word = line.3;
        told = subst (λ (texts : List (List ℕ)). TellTexts p t texts empty v) (sym line.4) all;
      };
    }
