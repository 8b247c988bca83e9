-- The texts of a store line say the tokens of its values.
use Rattle.std.proofs.Common.{◌≡◌, ℕ, ◌+◌, ◌-◌, ◌*◌, ◌≤◌, Bool, true, false, cond, ◌&&◌, ℤ, List, [], ◌∷◌, ◌++◌, length, take, Some, None, refl, sym, ap, ◌∙◌, subst, append_assoc, arith}
use Rattle.std.specs.Prelude.{Option, IsTrue, int_lt, codes, filter, slice_get}
use Rattle.std.specs.Ordering.{int_eq}
use Rattle.std.specs.Fmt.{signed_decimal}
use Rattle.std.specs.List.{join_with_byte}
use Rattle.std.proofs.lemmas.List.{append-nil, length-append}
use Rattle.std.proofs.Math.Seq.{take-append_seam, take-length}
use Rattle.token_system.specs.declared.cell.Token.{Token}
use Rattle.token_system.specs.declared.cell.Token.TheVariants.{On, Off, AtLeast, AtMost, Clash}
use Rattle.token_system.specs.declared.cell.Value.{Value}
use Rattle.token_system.specs.declared.cell.Value.TheVariants as values
use Rattle.token_system.specs.declared.reading.Written.{Written}
use Rattle.token_system.specs.Domain.{is_bound}
use Rattle.token_system.specs.Tokens.{Fits, token_fits, is_number}
use Rattle.token_system.specs.Values.{bottom_of, value_eq, IsProper, WithinDomain}
use Rattle.token_system.specs.Texts.{is_name, text_of, written_of, exactly, IsTokenText, plain}
use Rattle.token_system.proofs.ReadBack.{fitting_reads_back, number-signed_decimal}
use Rattle.agent_core.specs.declared.node.CellDecl.{CellDecl}
use Rattle.agent_core.specs.Agents.{Constraint}
use Rattle.agent_core.specs.Programs.{CoreProgram}
use Rattle.agent_core.specs.Strata.{Each}
use Rattle.agent_core.proofs.Bools.{both, second_of_both}
use Rattle.trace_text.specs.Fields.{Field, is_some, placed_fields, fields}
use Rattle.trace_text.specs.Inputs.{declared_cell, name_in, tokens_if, fits_if_some, Denotes, DenoteAll}
use Rattle.trace_text.specs.StoreLines.{exact_text, text_if, told_texts, value_texts}
use Rattle.trace_text.specs.Writing.{spaced}
use Rattle.trace_text.proofs.TokenTexts.{HasNoBlank, text_facts, split_join}
use Rattle.trace_text.proofs.ValueTokens.{IsHeld, told_held, told_tokens, token_if, value_tokens, Each-front, Each-back}

-- each of the texts says some tokens, and together they say these
abbrev pub SayTexts : CoreProgram → List (List ℕ) → Constraint → Type 0
SayTexts p [] tokens = tokens ≡ []
SayTexts p (text ∷ later) tokens = (first rest : Constraint) × Denotes p text first × SayTexts p later rest × (tokens ≡ first ++ rest)

pub SayTexts-append : (p : CoreProgram) (xs ys : List (List ℕ)) (s t : Constraint) → SayTexts p xs s → SayTexts p ys t → SayTexts p (xs ++ ys) (s ++ t)
SayTexts-append p [] ys s t a b = subst (λ (z : Constraint). SayTexts p ys (z ++ t)) (sym a) b
SayTexts-append p (x ∷ xs) ys s t (first, rest, here, later, e) b =
    (first, rest ++ t, here, SayTexts-append p xs ys rest t later b, ap (λ (z : Constraint). z ++ t) e ∙ append_assoc first rest t)

no_blanks : (p : CoreProgram) (texts : List (List ℕ)) (tokens : Constraint) → SayTexts p texts tokens → Each HasNoBlank texts
no_blanks p [] tokens h = tt
no_blanks p (text ∷ texts) tokens (first, rest, here, later, e) = ((text_facts text here.written here.names.text).no_blank, no_blanks p texts rest later)

placed_say : (p : CoreProgram) (offset : ℕ) (texts : List (List ℕ)) (tokens : Constraint) → SayTexts p texts tokens → DenoteAll p (filter (λ (field : Field). is_some field.bytes) (placed_fields offset texts)) tokens
placed_say p offset [] tokens h = h
placed_say p offset (text ∷ texts) tokens (first, rest, here, later, e) =
    let later_fields : List Field = filter (λ (field : Field). is_some field.bytes) (placed_fields (offset + (length text + 1)) texts) in
    subst (λ (b : Bool). DenoteAll p (cond b (record { offset = offset; bytes = text } ∷ later_fields) later_fields) tokens) (sym (text_facts text here.written here.names.text).some)
    (first, rest, here, placed_say p (offset + (length text + 1)) texts rest later, e)

-- so do the fields of their line
pub line_says : (p : CoreProgram) (texts : List (List ℕ)) (tokens : Constraint) → SayTexts p texts tokens → DenoteAll p (fields (join_with_byte 32 texts)) tokens
line_says p [] tokens h = h
line_says p (text ∷ texts) tokens h =
    let calm = no_blanks p (text ∷ texts) tokens h in
    subst (λ (parts : List (List ℕ)). DenoteAll p (filter (λ (field : Field). is_some field.bytes) (placed_fields 0 parts)) tokens) (sym (split_join text texts calm.0 calm.1)) (placed_say p 0 (text ∷ texts) tokens h)

-- with a space behind each they take 45 bytes for each text at most
pub texts_short : (p : CoreProgram) (texts : List (List ℕ)) (tokens : Constraint) → SayTexts p texts tokens → length (spaced texts) ≤ 45 * length texts
texts_short p [] tokens h = omega arith
texts_short p (text ∷ texts) tokens (first, rest, here, later, e) =
    let own = (text_facts text here.written here.names.text).short in
    let more = texts_short p texts rest later in
    omega (arith, length-append (text ++ 32 ∷ []) (spaced texts), length-append text (32 ∷ []))

-- tokens of one cell
abbrev pub cell_ask : ℕ → List Token → Constraint
cell_ask n [] = []
cell_ask n (t ∷ ts) = (n, t) ∷ cell_ask n ts

pub cell_ask-append : (n : ℕ) (xs ys : List Token) → cell_ask n (xs ++ ys) ≡ cell_ask n xs ++ cell_ask n ys
cell_ask-append n [] ys = refl
cell_ask-append n (x ∷ xs) ys = ap (λ (z : Constraint). (n, x) ∷ z) (cell_ask-append n xs ys)

-- the name in a token's text
cut_name : (name rest : List ℕ) (m : ℕ) → m ≡ length name → take m (name ++ rest) ≡ name
cut_name name rest m e = ap (λ (k : ℕ). take k (name ++ rest)) e ∙ take-append_seam name rest

whole_name : (name : List ℕ) (m : ℕ) → m ≡ length name → take m name ≡ name
whole_name name m e = ap (λ (k : ℕ). take k name) e ∙ take-length name

name_in-text : (name : List ℕ) (t : Token) → name_in (text_of name t) (written_of name t) ≡ name
name_in-text name On = whole_name name (length name - 0) (omega arith)
name_in-text name Off = whole_name name (length name + 1 - 1) (omega arith)
name_in-text name Clash = whole_name name (length name + 1 - 1) (omega arith)
name_in-text name (AtLeast k) = ap (take (length name - 0)) (append_assoc name (codes ">=") (signed_decimal k)) ∙ cut_name name (codes ">=" ++ signed_decimal k) (length name - 0) (omega arith)
name_in-text name (AtMost k) = ap (take (length name - 0)) (append_assoc name (codes "<=") (signed_decimal k)) ∙ cut_name name (codes "<=" ++ signed_decimal k) (length name - 0) (omega arith)

module _ (p : CoreProgram) (n : ℕ) (d : CellDecl) (found : slice_get p.cells n ≡ Some d) (named : declared_cell p d.name ≡ Some n) (own : IsTrue (is_name d.name)) where
  -- a text that means one token of this cell
  say_written : (bytes : List ℕ) (w : Written) (t : Token) → w.first ≡ t → w.second ≡ None → IsTokenText bytes w → name_in bytes w ≡ d.name → Fits d.cell t → Denotes p bytes ((n, t) ∷ [])
  say_written bytes w t first second text name fits = record {
    written = w;
    cell = n;
    decl = d;
    names = record { text = text; named = ap (declared_cell p) name ∙ named; found = found };
    fits = ap (λ (x : Token). token_fits d.cell x && fits_if_some d.cell w.second) first ∙ ap (λ (o : Option Token). token_fits d.cell t && fits_if_some d.cell o) second ∙ both (token_fits d.cell t) true fits refl;
    meant = sym (ap (λ (x : Token). (n, x) ∷ tokens_if n w.second) first ∙ ap (λ (o : Option Token). (n, t) ∷ tokens_if n o) second);
  }

  say_token : (t : Token) → Fits d.cell t → Denotes p (text_of d.name t) ((n, t) ∷ [])
  say_token On fits = say_written (text_of d.name On) (written_of d.name On) On refl refl (fitting_reads_back d.cell d.name On fits own) (name_in-text d.name On) fits
  say_token Off fits = say_written (text_of d.name Off) (written_of d.name Off) Off refl refl (fitting_reads_back d.cell d.name Off fits own) (name_in-text d.name Off) fits
  say_token Clash fits = say_written (text_of d.name Clash) (written_of d.name Clash) Clash refl refl (fitting_reads_back d.cell d.name Clash fits own) (name_in-text d.name Clash) fits
  say_token (AtLeast k) fits = say_written (text_of d.name (AtLeast k)) (written_of d.name (AtLeast k)) (AtLeast k) refl refl (fitting_reads_back d.cell d.name (AtLeast k) fits own) (name_in-text d.name (AtLeast k)) fits
  say_token (AtMost k) fits = say_written (text_of d.name (AtMost k)) (written_of d.name (AtMost k)) (AtMost k) refl refl (fitting_reads_back d.cell d.name (AtMost k) fits own) (name_in-text d.name (AtMost k)) fits

  -- both bounds at once
  say_exact : (k : ℤ) → Fits d.cell (AtLeast k) → Fits d.cell (AtMost k) → Denotes p (exact_text d.name k) ((n, AtLeast k) ∷ (n, AtMost k) ∷ [])
  say_exact k low high = record {
    written = record { name_start = 0; name_end = length d.name; first = AtLeast k; second = Some (AtMost k) };
    cell = n;
    decl = d;
    names = record {
      text = plain (record {
        name = d.name;
        rest = codes "=" ++ signed_decimal k;
        parts = append_assoc d.name (codes "=") (signed_decimal k);
        is_a_name = own;
        tail = exactly (signed_decimal k) k refl (number-signed_decimal k (second_of_both (is_number d.cell.kind) (is_bound k) low)) refl refl;
        start = refl;
        ends = refl;
      });
      named = ap (declared_cell p) (ap (take (length d.name - 0)) (append_assoc d.name (codes "=") (signed_decimal k)) ∙ cut_name d.name (codes "=" ++ signed_decimal k) (length d.name - 0) (omega arith)) ∙ named;
      found = found;
    };
    fits = both (token_fits d.cell (AtLeast k)) (token_fits d.cell (AtMost k)) low high;
    meant = refl;
  }

  one_text : (text : List ℕ) (tokens : Constraint) → Denotes p text tokens → SayTexts p (text ∷ []) tokens
  one_text text tokens h = (tokens, [], h, refl, sym (append-nil tokens))

  say_if : (v : Value) (b : Bool) (t : Token) → Each (IsHeld d.cell.kind v) (token_if b t) → SayTexts p (text_if b (text_of d.name t)) (cell_ask n (token_if b t))
  say_if v true t h = one_text (text_of d.name t) ((n, t) ∷ []) (say_token t h.0.0)
  say_if v false t h = refl

  say_bounds : (lo hi : ℤ) (b : Bool) → int_eq lo hi ≡ b
      → Each (IsHeld d.cell.kind (values.Number lo hi)) (cond b (AtLeast lo ∷ AtMost lo ∷ []) (token_if (int_lt d.cell.lo lo) (AtLeast lo) ++ token_if (int_lt hi d.cell.hi) (AtMost hi)))
      → SayTexts p (cond b (exact_text d.name lo ∷ []) (text_if (int_lt d.cell.lo lo) (text_of d.name (AtLeast lo)) ++ text_if (int_lt hi d.cell.hi) (text_of d.name (AtMost hi))))
      (cell_ask n (cond b (AtLeast lo ∷ AtMost lo ∷ []) (token_if (int_lt d.cell.lo lo) (AtLeast lo) ++ token_if (int_lt hi d.cell.hi) (AtMost hi))))
  say_bounds lo hi true e h = one_text (exact_text d.name lo) ((n, AtLeast lo) ∷ (n, AtMost lo) ∷ []) (say_exact lo h.0.0 h.1.0.0)
  say_bounds lo hi false e h =
      let low : List Token = token_if (int_lt d.cell.lo lo) (AtLeast lo) in
      let high : List Token = token_if (int_lt hi d.cell.hi) (AtMost hi) in
      subst (SayTexts p (text_if (int_lt d.cell.lo lo) (text_of d.name (AtLeast lo)) ++ text_if (int_lt hi d.cell.hi) (text_of d.name (AtMost hi)))) (sym (cell_ask-append n low high))
      (SayTexts-append p (text_if (int_lt d.cell.lo lo) (text_of d.name (AtLeast lo))) (text_if (int_lt hi d.cell.hi) (text_of d.name (AtMost hi))) (cell_ask n low) (cell_ask n high)
      (say_if (values.Number lo hi) (int_lt d.cell.lo lo) (AtLeast lo) (Each-front (IsHeld d.cell.kind (values.Number lo hi)) low high h))
      (say_if (values.Number lo hi) (int_lt hi d.cell.hi) (AtMost hi) (Each-back (IsHeld d.cell.kind (values.Number lo hi)) low high h)))

  told_say : (v : Value) → Each (IsHeld d.cell.kind v) (told_tokens d.cell.lo d.cell.hi v) → SayTexts p (told_texts d.name d.cell v) (cell_ask n (told_tokens d.cell.lo d.cell.hi v))
  told_say (values.Signal true off) h = one_text (text_of d.name On) ((n, On) ∷ []) (say_token On h.0.0)
  told_say (values.Signal false off) h = one_text (text_of d.name Off) ((n, Off) ∷ []) (say_token Off h.0.0)
  told_say (values.Number lo hi) h = say_bounds lo hi (int_eq lo hi) refl h
  told_say values.Clash h = one_text (text_of d.name Clash) ((n, Clash) ∷ []) (say_token Clash h.0.0)

  -- the texts of a value of this cell
  pub value_says : (v : Value) → WithinDomain d.cell.lo d.cell.hi d.cell.kind v → IsProper v → SayTexts p (value_texts d.name d.cell v) (cell_ask n (value_tokens d.cell.kind d.cell.lo d.cell.hi v))
  value_says v within proper = go (value_eq v (bottom_of d.cell)) refl
    where
      go : (b : Bool) → value_eq v (bottom_of d.cell) ≡ b → SayTexts p (cond b [] (told_texts d.name d.cell v)) (cell_ask n (cond b [] (told_tokens d.cell.lo d.cell.hi v)))
      go true e = refl
      go false e = told_say v (told_held d.cell.kind d.cell.lo d.cell.hi v d.cell.lawful within proper e)

-- a value has two texts at most
pub few_texts : (name : List ℕ) (d : CellDecl) (v : Value) → length (value_texts name d.cell v) ≤ 2
few_texts name d v = go (value_eq v (bottom_of d.cell))
  where
    few_if : (b : Bool) (text : List ℕ) → length (text_if b text) ≤ 1
    few_if true text = omega arith
    few_if false text = omega arith

    few_bounds : (b : Bool) (lo hi : ℤ) → length (cond b (exact_text name lo ∷ []) (text_if (int_lt d.cell.lo lo) (text_of name (AtLeast lo)) ++ text_if (int_lt hi d.cell.hi) (text_of name (AtMost hi)))) ≤ 2
    few_bounds true lo hi = omega arith
    few_bounds false lo hi =
        let a = few_if (int_lt d.cell.lo lo) (text_of name (AtLeast lo)) in
        let b = few_if (int_lt hi d.cell.hi) (text_of name (AtMost hi)) in
        omega (arith, length-append (text_if (int_lt d.cell.lo lo) (text_of name (AtLeast lo))) (text_if (int_lt hi d.cell.hi) (text_of name (AtMost hi))))

    few_told : (x : Value) → length (told_texts name d.cell x) ≤ 2
    few_told (values.Signal true off) = omega arith
    few_told (values.Signal false off) = omega arith
    few_told (values.Number lo hi) = few_bounds (int_eq lo hi) lo hi
    few_told values.Clash = omega arith

    go : (b : Bool) → length (cond b [] (told_texts name d.cell v)) ≤ 2
    go true = omega arith
    go false = few_told v
