-- A line is read part by part.
use Rattle.std.proofs.Common.{◌≡◌, ℕ, suc, ◌+◌, ◌<◌, ◌≤◌, Bool, true, false, cond, List, [], ◌∷◌, ◌++◌, length, drop, get_or, refl, sym, ap, ◌∙◌, subst, append_assoc, add-one, drop-cons, arith}
use Rattle.std.specs.Prelude.{filter, ◌==◌}
use Rattle.std.proofs.lemmas.Bool.{eqb-true}
use Rattle.std.specs.List.{slice_split, onto_first}
use Rattle.std.specs.FinMap.{empty}
use Rattle.std.proofs.lemmas.List.{append-nil, drop_all, length_push}
use Rattle.token_system.specs.Stores.{StoreMap}
use Rattle.agent_core.specs.Agents.{Constraint}
use Rattle.agent_core.specs.Programs.{CoreProgram}
use Rattle.agent_core.specs.Stores.{IsStore}
use Rattle.agent_core.specs.Tellings.{tell_all}
use Rattle.agent_core.proofs.Tellings.{empty-IsStore, tell_all-least}
use Rattle.trace_text.specs.declared.fault.LineFault.{LineFault}
use Rattle.trace_text.specs.Fields.{Field, is_blank, is_some, placed_fields, fields}
use Rattle.trace_text.specs.Inputs.{DenoteAll}
use Rattle.trace_text.specs.Refusals.{RefusesField, RefusesFields}
use Rattle.trace_text.specs.Tellings.{TellsField, TellsFields}
use Rattle.trace_text.proofs.Sayings.{say_all_fit, say_all-append, say_one, tell_all-append}
use Rattle.trace_text.proofs.Refused.{first_refused}

-- how many bytes some parts take, each with a byte behind it
abbrev pub span : List (List ℕ) → ℕ
span [] = 0
span (part ∷ parts) = length part + 1 + span parts

-- the fields among parts of which the first stands at this place
abbrev pub fields_from : ℕ → List (List ℕ) → List Field
fields_from offset parts = filter (λ (field : Field). is_some field.bytes) (placed_fields offset parts)

span-onto : (b : ℕ) (parts : List (List ℕ)) (n : ℕ) → span parts ≡ n + 1 → span (onto_first b parts) ≡ suc n + 1
span-onto b [] n e = absurd (omega arith)
span-onto b (part ∷ parts) n e = omega arith

pub span-split : (line : List ℕ) → span (slice_split is_blank line) ≡ length line + 1
span-split [] = omega arith
span-split (b ∷ line) = go (is_blank b) (span-split line)
  where
    go : (t : Bool) → span (slice_split is_blank line) ≡ length line + 1 → span (cond t ([] ∷ slice_split is_blank line) (onto_first b (slice_split is_blank line))) ≡ suc (length line) + 1
    go true h = omega arith
    go false h = span-onto b (slice_split is_blank line) (length line) h

-- these parts of the line are left, of which the first stands at this place, and the fields before them were told to the store
pub record ReadSoFar (p : CoreProgram) (line : List ℕ) (rest : List (List ℕ)) (offset : ℕ) (s : StoreMap) : Type 0 where
  pub before : List Field
  pub whole : fields line ≡ before ++ fields_from offset rest
  pub tokens : Constraint
  pub said : DenoteAll p before tokens
  pub told : s ≡ tell_all p [] tokens empty
  pub left : offset + span rest ≡ length line + 1

pub read-start : (p : CoreProgram) (line : List ℕ) (s : StoreMap) → s ≡ empty → ReadSoFar p line (slice_split is_blank line) 0 s
read-start p line s e = record { before = []; whole = refl; tokens = []; said = refl; told = e; left = let h = span-split line in omega arith }

module _ (p : CoreProgram) (line : List ℕ) where
  pub read-store : (rest : List (List ℕ)) (offset : ℕ) (s : StoreMap) → ReadSoFar p line rest offset s → IsStore p s
  read-store rest offset s r =
      subst (IsStore p) (sym r.told) (tell_all-least p [] r.tokens empty (empty-IsStore p) (say_all_fit p r.before r.tokens r.said)).store

  pub read-end : (offset : ℕ) (old s : StoreMap) → old ≡ empty → ReadSoFar p line [] offset s → TellsFields p (fields line) old s
  read-end offset old s e r = record {
    tokens = r.tokens;
    said = subst (λ (all : List Field). DenoteAll p all r.tokens) (sym (r.whole ∙ append-nil r.before)) r.said;
    told = r.told ∙ ap (tell_all p [] r.tokens) (sym e);
  }

  module _ (part : List ℕ) (rest : List (List ℕ)) (offset : ℕ) (s : StoreMap) (r : ReadSoFar p line (part ∷ rest) offset s) where
    left_over : offset + (length part + 1) + span rest ≡ length line + 1
    left_over = let h : offset + (length part + 1 + span rest) ≡ length line + 1 = r.left in omega arith

    -- the place of the next part is within the line, or one behind it
    pub read-within : offset + (length part + 1) ≤ length line + 1
    read-within = let h = left_over in omega arith

    -- an empty part is no field
    pub read-skip : is_some part ≡ false → ReadSoFar p line rest (offset + (length part + 1)) s
    read-skip none = record {
      before = r.before;
      whole = r.whole ∙ ap (λ b. r.before ++ cond b (record { offset = offset; bytes = part } ∷ fields_from (offset + (length part + 1)) rest) (fields_from (offset + (length part + 1)) rest)) none;
      tokens = r.tokens;
      said = r.said;
      told = r.told;
      left = left_over;
    }

    module _ (some : is_some part ≡ true) where
      here : fields line ≡ r.before ++ record { offset = offset; bytes = part } ∷ fields_from (offset + (length part + 1)) rest
      here = r.whole ∙ ap (λ b. r.before ++ cond b (record { offset = offset; bytes = part } ∷ fields_from (offset + (length part + 1)) rest) (fields_from (offset + (length part + 1)) rest)) some

      -- a field is told
      pub read-tell : (next : StoreMap) → TellsField p part s next → ReadSoFar p line rest (offset + (length part + 1)) next
      read-tell next t = record {
        before = r.before ++ record { offset = offset; bytes = part } ∷ [];
        whole = here ∙ sym (append_assoc r.before (record { offset = offset; bytes = part } ∷ []) (fields_from (offset + (length part + 1)) rest));
        tokens = r.tokens ++ t.tokens;
        said = say_all-append p r.before (record { offset = offset; bytes = part } ∷ []) r.tokens t.tokens r.said (say_one p (record { offset = offset; bytes = part }) t.tokens t.said);
        told = t.told ∙ ap (tell_all p [] t.tokens) r.told ∙ sym (tell_all-append p [] r.tokens t.tokens empty);
        left = left_over;
      }

      -- or refused
      pub read-refused : (f : LineFault) → RefusesField p (record { offset = offset; bytes = part }) f → RefusesFields p (fields line) f
      read-refused f h = first_refused p (fields line) r.before (record { offset = offset; bytes = part }) (fields_from (offset + (length part + 1)) rest) r.tokens f here r.said h

-- the part that comes next in a list of parts
pub read-at : (p : CoreProgram) (line : List ℕ) (parts : List (List ℕ)) (k offset : ℕ) (s : StoreMap) (part : List ℕ) → (k < length parts) × (part ≡ get_or parts k part)
    → ReadSoFar p line (drop k parts) offset s → ReadSoFar p line (part ∷ drop (k + 1) parts) offset s
read-at p line parts k offset s part (lt, is) r =
    subst (λ (x : List ℕ). ReadSoFar p line (x ∷ drop (k + 1) parts) offset s) (sym is)
    (subst (λ (rest : List (List ℕ)). ReadSoFar p line rest offset s) (rw add-one (drop-cons parts k part lt)) r)

-- no part is left
pub read-past : (p : CoreProgram) (line : List ℕ) (parts : List (List ℕ)) (k offset : ℕ) (s : StoreMap) → length parts ≤ k → ReadSoFar p line (drop k parts) offset s → ReadSoFar p line [] offset s
read-past p line parts k offset s over r = subst (λ (rest : List (List ℕ)). ReadSoFar p line rest offset s) (drop_all k parts over) r

-- one part more was read
pub read-pushed : (p : CoreProgram) (line : List ℕ) (parts : List (List ℕ)) {X : Type 0} (xs : List X) (x : X) (offset : ℕ) (s : StoreMap)
    → ReadSoFar p line (drop (length xs + 1) parts) offset s → ReadSoFar p line (drop (length (xs ++ x ∷ [])) parts) offset s
read-pushed p line parts xs x offset s r = subst (λ (k : ℕ). ReadSoFar p line (drop k parts) offset s) (sym (length_push xs x)) r

-- whether a part is empty
pub some_part : (part : List ℕ) (b : Bool) → b ≡ (length part == 0) → b ≡ false → is_some part ≡ true
some_part [] b e f = absurd (let t : true ≡ false = sym e ∙ f in cc)
some_part (x ∷ part) b e f = refl

pub empty_part : (part : List ℕ) (b : Bool) → b ≡ (length part == 0) → b ≡ true → is_some part ≡ false
empty_part [] b e t = refl
empty_part (x ∷ part) b e t = absurd (let h : suc (length part) ≡ 0 = eqb-true (suc (length part)) 0 (sym e ∙ t) in omega arith)
