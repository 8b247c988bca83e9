-- Each line gives an input or is refused.
use Rattle.std.proofs.Common.{◌≡◌, ◌⊎◌, inl, inr, ℕ, ◌<◌, ◌≤◌, Bool, true, false, pos, List, [], ◌∷◌, ◌++◌, length, take, get_or, Some, None, refl, ap, arith}
use Rattle.std.specs.Prelude.{◌≢◌, Option, nat_eq, nat_le, slice_get}
use Rattle.std.specs.Cmp.Lexicographic.{pointwise}
use Rattle.std.specs.FinMap.{empty}
use Rattle.std.proofs.lemmas.Bool.Decides.{leb_tells}
use Rattle.std.proofs.lemmas.List.{length-take}
use Rattle.std.proofs.lemmas.List.Quantifiers.{position-Some}
use Rattle.std.proofs.lemmas.Option.{slice_get_cases}
use Rattle.token_system.specs.declared.cell.Kind.TheVariants as kinds
use Rattle.token_system.specs.declared.reading.Written.{Written}
use Rattle.token_system.specs.Texts.{IsTokenText}
use Rattle.agent_core.specs.declared.node.CellDecl.{CellDecl}
use Rattle.agent_core.specs.Agents.{Constraint}
use Rattle.agent_core.specs.Programs.{CoreProgram}
use Rattle.agent_core.specs.Tellings.{tell_all}
use Rattle.trace_text.specs.Limits.{longest_trace_line}
use Rattle.trace_text.specs.declared.fault.LineFault.{LineFault}
use Rattle.trace_text.specs.declared.fault.LineFault.TheVariants.{BadToken, UnknownName, WrongKind, LineTooLong, Memory}
use Rattle.trace_text.specs.Fields.{Field, fields}
use Rattle.trace_text.specs.Inputs.{declared_cell, name_in, text_fits, tokens_of, NamesCell, Denotes, DenoteAll}
use Rattle.trace_text.specs.Refusals.{RefusesField, IsFirstRefused, RefusesFields}
use Rattle.trace_text.specs.Laws.{IsRead}
use Rattle.trace_text.proofs.GivenInputs.{told_input}
use Rattle.trace_text.proofs.Refused.{first_refused, line_refused}
use Rattle.trace_text.proofs.TextDecisions.{decide_text}

-- the field says tokens, or it has a fault
abbrev IsFieldRead : CoreProgram → Field → Type 0
IsFieldRead p x = ((tokens : Constraint) × Denotes p x.bytes tokens) ⊎ ((f : LineFault) × (f ≢ Memory) × RefusesField p x f)

-- the cell of a name that is declared
found_cell : (p : CoreProgram) (name : List ℕ) (cell : ℕ) (d : CellDecl) → declared_cell p name ≡ Some cell → (e : CellDecl) × (slice_get p.cells cell ≡ Some e)
found_cell p name cell d named = go (slice_get_cases p.cells cell).1
  where
    lt : cell < length p.cells
    lt = let at = position-Some (λ (e : CellDecl). pointwise nat_eq e.name name) (take p.declared p.cells) cell d named in omega (arith, length-take p.declared p.cells, at.0)

    go : ((e : CellDecl) × (cell < length p.cells) × (slice_get p.cells cell ≡ Some e) × (get_or p.cells cell e ≡ e)) ⊎ ((length p.cells ≤ cell) × (slice_get p.cells cell ≡ None)) → (e : CellDecl) × (slice_get p.cells cell ≡ Some e)
    go (inl (e, within, at, read)) = (e, at)
    go (inr (past, none)) = absurd (let h = lt in omega arith)

module _ (p : CoreProgram) (x : Field) where
  fitted : (w : Written) (cell : ℕ) (d : CellDecl) → NamesCell p x.bytes w cell d → (b : Bool) → text_fits d.cell w ≡ b → IsFieldRead p x
  fitted w cell d names true e = inl (tokens_of cell w, record { written = w; cell = cell; decl = d; names = names; fits = e; meant = refl })
  fitted w cell d names false e = inr (WrongKind x.offset, (λ m. let wrong : WrongKind x.offset ≡ Memory = m in cc), (refl, w, cell, d, names, e))

  named : (w : Written) → IsTokenText x.bytes w → (o : Option ℕ) → declared_cell p (name_in x.bytes w) ≡ o → IsFieldRead p x
  named w text None e = inr (UnknownName x.offset, (λ m. let wrong : UnknownName x.offset ≡ Memory = m in cc), (refl, w, text, e))
  named w text (Some cell) e =
      let d = found_cell p (name_in x.bytes w) cell (record { name = []; cell = record { kind = kinds.Signal; lo = pos 0; hi = pos 0; lawful = refl } }) e in
      fitted w cell d.0 (record { text = text; named = e; found = d.1 }) (text_fits d.0.cell w) refl

  decide_field : IsFieldRead p x
  decide_field = go (decide_text x.bytes)
    where
      go : ((w : Written) × IsTokenText x.bytes w) ⊎ ((w : Written) → IsTokenText x.bytes w → ⊥) → IsFieldRead p x
      go (inl (w, text)) = named w text (declared_cell p (name_in x.bytes w)) refl
      go (inr none) = inr (BadToken x.offset, (λ m. let wrong : BadToken x.offset ≡ Memory = m in cc), (refl, none))

-- the fields say tokens, or one of them is the first that has a fault
abbrev AreFieldsRead : CoreProgram → List Field → Type 0
AreFieldsRead p all = ((tokens : Constraint) × DenoteAll p all tokens) ⊎ ((f : LineFault) × (f ≢ Memory) × IsFirstRefused p all f)

decide_fields : (p : CoreProgram) (all : List Field) → AreFieldsRead p all
decide_fields p [] = inl ([], refl)
decide_fields p (x ∷ all) = go (decide_field p x) (decide_fields p all)
  where
    go : IsFieldRead p x → AreFieldsRead p all → AreFieldsRead p (x ∷ all)
    go (inr (f, other, refused)) later = inr (f, other, record { before = []; field = x; after = all; parts = refl; tokens = []; accepted = refl; refused = refused })
    go (inl (first, here)) (inl (rest, said)) = inl (first ++ rest, (first, rest, here, said, refl))
    go (inl (first, here)) (inr (f, other, r)) = inr (
      f,
      other,
      record {
        before = x ∷ r.before;
        field = r.field;
        after = r.after;
        parts = ap (λ (xs : List Field). x ∷ xs) r.parts;
        tokens = first ++ r.tokens;
        accepted = (first, r.tokens, here, r.accepted, refl);
        refused = r.refused;
      },
    )

-- a first refused field is the fault of the fields
refuses_fields : (p : CoreProgram) (all : List Field) (f : LineFault) → IsFirstRefused p all f → RefusesFields p all f
refuses_fields p all f r = first_refused p all r.before r.field r.after r.tokens f r.parts r.accepted r.refused

pub decide_line : (p : CoreProgram) (line : List ℕ) → IsRead p line
decide_line p line = go (leb_tells (length line) longest_trace_line)
  where
    within : length line ≤ longest_trace_line → AreFieldsRead p (fields line) → IsRead p line
    within short (inl (tokens, said)) = inl (tell_all p [] tokens empty, told_input p line tokens (tell_all p [] tokens empty) short said refl)
    within short (inr (f, other, r)) = inr (f, other, line_refused p line f short (refuses_fields p (fields line) f r))

    go : ((nat_le (length line) longest_trace_line ≡ true) × (length line ≤ longest_trace_line)) ⊎ ((nat_le (length line) longest_trace_line ≡ false) × (longest_trace_line < length line)) → IsRead p line
    go (inl (t, short)) = within short (decide_fields p (fields line))
    go (inr (t, long)) = inr (LineTooLong, (λ m. let wrong : LineTooLong ≡ Memory = m in cc), long)
