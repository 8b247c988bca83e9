-- What fields say: tokens that fit the cells that they name, and no others.
use Rattle.std.proofs.Common.{◌≡◌, ℕ, ◌<◌, List, [], ◌∷◌, ◌++◌, Some, None, refl, sym, ap, ◌∙◌, subst, append_assoc}
use Rattle.std.specs.Prelude.{Option, IsTrue, slice_get}
use Rattle.std.proofs.lemmas.List.{append-nil}
use Rattle.token_system.specs.declared.cell.Token.{Token}
use Rattle.token_system.specs.declared.reading.Written.{Written}
use Rattle.token_system.specs.Tokens.{token_fits}
use Rattle.token_system.specs.Stores.{StoreMap}
use Rattle.token_system.proofs.OneReading.{one_reading}
use Rattle.agent_core.specs.declared.node.CellDecl.{CellDecl}
use Rattle.agent_core.specs.Agents.{Constraint}
use Rattle.agent_core.specs.Programs.{CoreProgram}
use Rattle.agent_core.specs.Scope.{ConstraintFits}
use Rattle.agent_core.specs.Tellings.{tell_at, tell_all}
use Rattle.agent_core.proofs.Bools.{first_of_both, second_of_both}
use Rattle.trace_text.specs.Fields.{Field}
use Rattle.trace_text.specs.Inputs.{declared_cell, name_in, tokens_if, tokens_of, fits_if_some, text_fits, Denotes, DenoteAll}
use Rattle.trace_text.proofs.DeclaredTokens.{declared_fits, named_within}

pub AskFits-append : (p : CoreProgram) (b : List ℕ) (xs ys : Constraint) → ConstraintFits p b xs → ConstraintFits p b ys → ConstraintFits p b (xs ++ ys)
AskFits-append p b [] ys f g = g
AskFits-append p b (x ∷ xs) ys f g = (f.0, AskFits-append p b xs ys f.1 g)

pub tell_all-append : (p : CoreProgram) (b : List ℕ) (xs ys : Constraint) (u : StoreMap) → tell_all p b (xs ++ ys) u ≡ tell_all p b ys (tell_all p b xs u)
tell_all-append p b [] ys u = refl
tell_all-append p b (x ∷ xs) ys u = tell_all-append p b xs ys (tell_at (slice_get p.cells x.0) p b u x.0 x.1)

-- the tokens of a text that names a declared cell and fits it
tokens_fit : (p : CoreProgram) (cell : ℕ) (d : CellDecl) (w : Written) → cell < p.declared → slice_get p.cells cell ≡ Some d → IsTrue (text_fits d.cell w) → ConstraintFits p [] (tokens_of cell w)
tokens_fit p cell d w lt found fits =
    (declared_fits p cell d w.first lt found (first_of_both (token_fits d.cell w.first) (fits_if_some d.cell w.second) fits), second w.second (second_of_both (token_fits d.cell w.first) (fits_if_some d.cell w.second) fits))
  where
    second : (o : Option Token) → IsTrue (fits_if_some d.cell o) → ConstraintFits p [] (tokens_if cell o)
    second None h = tt
    second (Some t) h = (declared_fits p cell d t lt found h, tt)

pub says_fit : (p : CoreProgram) (bytes : List ℕ) (tokens : Constraint) → Denotes p bytes tokens → ConstraintFits p [] tokens
says_fit p bytes tokens s =
    subst (ConstraintFits p []) (sym s.meant) (tokens_fit p s.cell s.decl s.written (named_within p (name_in bytes s.written) s.cell s.decl s.names.named) s.names.found s.fits)

pub say_all_fit : (p : CoreProgram) (all : List Field) (tokens : Constraint) → DenoteAll p all tokens → ConstraintFits p [] tokens
say_all_fit p [] tokens h = subst (ConstraintFits p []) (sym h) tt
say_all_fit p (x ∷ all) tokens (first, rest, here, later, e) = subst (ConstraintFits p []) (sym e) (AskFits-append p [] first rest (says_fit p x.bytes first here) (say_all_fit p all rest later))

pub say_all-append : (p : CoreProgram) (xs ys : List Field) (s t : Constraint) → DenoteAll p xs s → DenoteAll p ys t → DenoteAll p (xs ++ ys) (s ++ t)
say_all-append p [] ys s t a b = subst (λ (z : Constraint). DenoteAll p ys (z ++ t)) (sym a) b
say_all-append p (x ∷ xs) ys s t (first, rest, here, later, e) b =
    (first, rest ++ t, here, say_all-append p xs ys rest t later b, ap (λ (z : Constraint). z ++ t) e ∙ append_assoc first rest t)

pub say_one : (p : CoreProgram) (x : Field) (tokens : Constraint) → Denotes p x.bytes tokens → DenoteAll p (x ∷ []) tokens
say_one p x tokens h = (tokens, [], h, refl, sym (append-nil tokens))

-- one of some fields that all say tokens
pub say_all-middle : (p : CoreProgram) (before : List Field) (x : Field) (after : List Field) (tokens : Constraint) → DenoteAll p (before ++ x ∷ after) tokens → (own : Constraint) × Denotes p x.bytes own
say_all-middle p [] x after tokens (first, rest, here, later, e) = (first, here)
say_all-middle p (y ∷ before) x after tokens (first, rest, here, later, e) = say_all-middle p before x after rest later

pub says_one : (p : CoreProgram) (bytes : List ℕ) (s t : Constraint) → Denotes p bytes s → Denotes p bytes t → s ≡ t
says_one p bytes s t a b =
    let w : a.written ≡ b.written = one_reading bytes a.written b.written a.names.text b.names.text in
    let found : Some a.cell ≡ Some b.cell = sym a.names.named ∙ ap (λ (x : Written). declared_cell p (name_in bytes x)) w ∙ b.names.named in
    let cell : a.cell ≡ b.cell = cc in
    a.meant ∙ ap (λ (c : ℕ). tokens_of c a.written) cell ∙ ap (tokens_of b.cell) w ∙ sym b.meant

pub say_all_one : (p : CoreProgram) (all : List Field) (s t : Constraint) → DenoteAll p all s → DenoteAll p all t → s ≡ t
say_all_one p [] s t a b = a ∙ sym b
say_all_one p (x ∷ all) s t (first, rest, here, later, e) (first', rest', here', later', e') =
    e ∙ ap (λ (z : Constraint). z ++ rest) (says_one p x.bytes first first' here here') ∙ ap (λ (z : Constraint). first' ++ z) (say_all_one p all rest rest' later later') ∙ sym e'
