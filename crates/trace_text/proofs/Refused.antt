-- A field that says tokens is not refused, and the first that is refused is one field with one fault.
use Rattle.std.proofs.Common.{◌≡◌, ℕ, ◌<◌, ◌≤◌, List, [], ◌∷◌, ◌++◌, length, Some, None, refl, sym, ap, ◌∙◌, subst, arith}
use Rattle.std.specs.Prelude.{◌≢◌}
use Rattle.token_system.specs.declared.reading.Written.{Written}
use Rattle.token_system.proofs.Alike.{true_false}
use Rattle.token_system.proofs.OneReading.{one_reading}
use Rattle.agent_core.specs.declared.node.CellDecl.{CellDecl}
use Rattle.agent_core.specs.Agents.{Constraint}
use Rattle.agent_core.specs.Programs.{CoreProgram}
use Rattle.trace_text.specs.Limits.{longest_trace_line}
use Rattle.trace_text.specs.declared.fault.LineFault.{LineFault}
use Rattle.trace_text.specs.declared.fault.LineFault.TheVariants.{BadToken, UnknownName, WrongKind, LineTooLong, Memory}
use Rattle.trace_text.specs.Fields.{Field, fields}
use Rattle.trace_text.specs.Inputs.{declared_cell, name_in, text_fits, NamesCell, Denotes, DenoteAll}
use Rattle.trace_text.specs.Refusals.{RefusesField, IsFirstRefused, RefusesFields, RefusesLine}
use Rattle.trace_text.proofs.Sayings.{say_all-middle}

-- two readings of one text name one cell
same_cell : (p : CoreProgram) (bytes : List ℕ) (v w : Written) (m n : ℕ) (c d : CellDecl) → NamesCell p bytes v m c → NamesCell p bytes w n d → (v ≡ w) × (c ≡ d)
same_cell p bytes v w m n c d a b =
    let same : v ≡ w = one_reading bytes v w a.text b.text in
    let found : Some m ≡ Some n = sym a.named ∙ ap (λ (x : Written). declared_cell p (name_in bytes x)) same ∙ b.named in
    let cell : m ≡ n = cc in
    let f = a.found in let g = b.found in let decl : c ≡ d = cc in (same, decl)

unknown_named : (p : CoreProgram) (bytes : List ℕ) (v w : Written) (n : ℕ) (d : CellDecl) → v ≡ w → declared_cell p (name_in bytes v) ≡ None → NamesCell p bytes w n d → ⊥
unknown_named p bytes v w n d same none b =
    let wrong : None ≡ Some n = sym none ∙ ap (λ (x : Written). declared_cell p (name_in bytes x)) same ∙ b.named in cc

pub said_not_refused : (p : CoreProgram) (x : Field) (t : Constraint) (f : LineFault) → Denotes p x.bytes t → f ≢ Memory → RefusesField p x f → ⊥
said_not_refused p x t (BadToken o) s other r = r.1 s.written s.names.text
said_not_refused p x t (UnknownName o) s other (e, w, text, none) =
    unknown_named p x.bytes w s.written s.cell s.decl (one_reading x.bytes w s.written text s.names.text) none s.names
said_not_refused p x t (WrongKind o) s other (e, w, cell, d, names, fails) =
    let same = same_cell p x.bytes w s.written cell s.cell d s.decl names s.names in
    true_false (sym s.fits ∙ ap (text_fits s.decl.cell) (sym same.0) ∙ ap (λ (c : CellDecl). text_fits c.cell w) (sym same.1) ∙ fails)
said_not_refused p x t LineTooLong s other r = r
said_not_refused p x t Memory s other r = other refl

-- a field has one fault
pub one_refusal : (p : CoreProgram) (x : Field) (f g : LineFault) → f ≢ Memory → g ≢ Memory → RefusesField p x f → RefusesField p x g → f ≡ g
one_refusal p x LineTooLong g a b r q = absurd r
one_refusal p x Memory g a b r q = absurd (a refl)
one_refusal p x (BadToken m) LineTooLong a b r q = absurd q
one_refusal p x (BadToken m) Memory a b r q = absurd (b refl)
one_refusal p x (BadToken m) (BadToken n) a b r q = ap BadToken (r.0 ∙ sym q.0)
one_refusal p x (BadToken m) (UnknownName n) a b r (e, w, text, none) = absurd (r.1 w text)
one_refusal p x (BadToken m) (WrongKind n) a b r (e, w, cell, d, names, fails) = absurd (r.1 w names.text)
one_refusal p x (UnknownName m) LineTooLong a b r q = absurd q
one_refusal p x (UnknownName m) Memory a b r q = absurd (b refl)
one_refusal p x (UnknownName m) (BadToken n) a b (e, w, text, none) q = absurd (q.1 w text)
one_refusal p x (UnknownName m) (UnknownName n) a b r q = ap UnknownName (r.0 ∙ sym q.0)
one_refusal p x (UnknownName m) (WrongKind n) a b (e, v, text, none) (e', w, cell, d, names, fails) = absurd (unknown_named p x.bytes v w cell d (one_reading x.bytes v w text names.text) none names)
one_refusal p x (WrongKind m) LineTooLong a b r q = absurd q
one_refusal p x (WrongKind m) Memory a b r q = absurd (b refl)
one_refusal p x (WrongKind m) (BadToken n) a b (e, w, cell, d, names, fails) q = absurd (q.1 w names.text)
one_refusal p x (WrongKind m) (UnknownName n) a b (e, w, cell, d, names, fails) (e', v, text, none) = absurd (unknown_named p x.bytes v w cell d (one_reading x.bytes v w text names.text) none names)
one_refusal p x (WrongKind m) (WrongKind n) a b r q = ap WrongKind (r.0 ∙ sym q.0)

-- the first refused field of a list is one field
first_one : (p : CoreProgram) (f g : LineFault) → f ≢ Memory → g ≢ Memory → (xs ys : List Field) (x y : Field) (us vs : List Field) (s t : Constraint)
    → xs ++ x ∷ us ≡ ys ++ y ∷ vs → DenoteAll p xs s → DenoteAll p ys t → RefusesField p x f → RefusesField p y g → x ≡ y
first_one p f g a b [] [] x y us vs s t e sx sy r q = cc
first_one p f g a b [] (z ∷ ys) x y us vs s t e sx (first, rest, here, later, e') r q =
    let same : z ≡ x = cc in absurd (said_not_refused p x first f (subst (λ (w : Field). Denotes p w.bytes first) same here) a r)
first_one p f g a b (z ∷ xs) [] x y us vs s t e (first, rest, here, later, e') sy r q =
    let same : z ≡ y = cc in absurd (said_not_refused p y first g (subst (λ (w : Field). Denotes p w.bytes first) same here) b q)
first_one p f g a b (z ∷ xs) (w ∷ ys) x y us vs s t e (first, rest, here, later, e') (first', rest', here', later', e'') r q =
    let tails : xs ++ x ∷ us ≡ ys ++ y ∷ vs = cc in first_one p f g a b xs ys x y us vs rest rest' tails later later' r q

one_fault : (p : CoreProgram) (all : List Field) (f g : LineFault) → f ≢ Memory → g ≢ Memory → IsFirstRefused p all f → IsFirstRefused p all g → f ≡ g
one_fault p all f g a b x y =
    let same : x.field ≡ y.field = first_one p f g a b x.before y.before x.field y.field x.after y.after x.tokens y.tokens (sym x.parts ∙ y.parts) x.accepted y.accepted x.refused y.refused in
    one_refusal p y.field f g a b (subst (λ (z : Field). RefusesField p z f) same x.refused) y.refused

-- what a fault that is neither of the line as a whole nor out of memory says of a line
within : (p : CoreProgram) (line : List ℕ) (f : LineFault) → f ≢ Memory → RefusesLine p line f → length line ≤ longest_trace_line → IsFirstRefused p (fields line) f
within p line (BadToken o) other r short = r.1
within p line (UnknownName o) other r short = r.1
within p line (WrongKind o) other r short = r.1
within p line LineTooLong other r short = absurd (omega arith)
within p line Memory other r short = absurd (other refl)

too_long : (p : CoreProgram) (line : List ℕ) (f : LineFault) → f ≢ Memory → RefusesLine p line f → longest_trace_line < length line → f ≡ LineTooLong
too_long p line (BadToken o) other r long = let short : length line ≤ longest_trace_line = r.0 in absurd (omega arith)
too_long p line (UnknownName o) other r long = let short : length line ≤ longest_trace_line = r.0 in absurd (omega arith)
too_long p line (WrongKind o) other r long = let short : length line ≤ longest_trace_line = r.0 in absurd (omega arith)
too_long p line LineTooLong other r long = refl
too_long p line Memory other r long = absurd (other refl)

pub one_line_fault : (p : CoreProgram) (line : List ℕ) (f g : LineFault) → f ≢ Memory → g ≢ Memory → RefusesLine p line f → RefusesLine p line g → f ≡ g
one_line_fault p line (BadToken o) g a b r q = one_fault p (fields line) (BadToken o) g a b r.1 (within p line g b q r.0)
one_line_fault p line (UnknownName o) g a b r q = one_fault p (fields line) (UnknownName o) g a b r.1 (within p line g b q r.0)
one_line_fault p line (WrongKind o) g a b r q = one_fault p (fields line) (WrongKind o) g a b r.1 (within p line g b q r.0)
one_line_fault p line LineTooLong g a b r q = sym (too_long p line g b q r)
one_line_fault p line Memory g a b r q = absurd (a refl)

-- a line that gives an input is not refused
pub given_not_refused : (p : CoreProgram) (line : List ℕ) (tokens : Constraint) (f : LineFault) → f ≢ Memory → length line ≤ longest_trace_line → DenoteAll p (fields line) tokens → RefusesLine p line f → ⊥
given_not_refused p line tokens f other short said r =
    let x = within p line f other r short in
    let own = say_all-middle p x.before x.field x.after tokens (subst (λ (all : List Field). DenoteAll p all tokens) x.parts said) in
    said_not_refused p x.field own.0 f own.1 other x.refused

-- the first field that is refused, behind fields that say tokens
pub first_refused : (p : CoreProgram) (all before : List Field) (x : Field) (after : List Field) (tokens : Constraint) (f : LineFault)
    → all ≡ before ++ x ∷ after → DenoteAll p before tokens → RefusesField p x f → RefusesFields p all f
first_refused p all before x after tokens (BadToken o) e said r = record { before = before; field = x; after = after; parts = e; tokens = tokens; accepted = said; refused = r }
first_refused p all before x after tokens (UnknownName o) e said r = record { before = before; field = x; after = after; parts = e; tokens = tokens; accepted = said; refused = r }
first_refused p all before x after tokens (WrongKind o) e said r = record { before = before; field = x; after = after; parts = e; tokens = tokens; accepted = said; refused = r }
first_refused p all before x after tokens LineTooLong e said r = absurd r
first_refused p all before x after tokens Memory e said r = tt

-- a line within its limit that has a refused field
pub line_refused : (p : CoreProgram) (line : List ℕ) (f : LineFault) → length line ≤ longest_trace_line → RefusesFields p (fields line) f → RefusesLine p line f
line_refused p line (BadToken o) short r = (short, r)
line_refused p line (UnknownName o) short r = (short, r)
line_refused p line (WrongKind o) short r = (short, r)
line_refused p line LineTooLong short r = absurd (let h : RefusesField p r.field LineTooLong = r.refused in h)
line_refused p line Memory short r = (short, r)
