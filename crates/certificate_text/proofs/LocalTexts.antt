-- The texts of a local cell's value are whole, and tell that value to a store that has none for its name.
use Rattle.std.proofs.Common.{◌≡◌, ℕ, ◌<◌, ◌^◌, Bool, true, false, cond, ℤ, List, [], ◌∷◌, ◌++◌, Option, Some, None, refl, sym, ap, ◌∙◌, arith}
use Rattle.std.specs.Prelude.{◌≤ℤ◌, IsTrue, codes, int_lt}
use Rattle.std.specs.FinMap.{get, insert}
use Rattle.std.specs.Fmt.{signed_decimal}
use Rattle.std.specs.Ordering.{int_eq}
use Rattle.std.proofs.lemmas.Bool.Decides.{Decides-int_eq}
use Rattle.std.proofs.lemmas.Int.{ints}
use Rattle.token_system.specs.declared.cell.Cell.{Cell}
use Rattle.token_system.specs.declared.cell.Kind.{Kind}
use Rattle.token_system.specs.declared.cell.Kind.TheVariants as kinds
use Rattle.token_system.specs.declared.cell.Token.{Token}
use Rattle.token_system.specs.declared.cell.Token.TheVariants.{On, Off, AtLeast, AtMost, Clash}
use Rattle.token_system.specs.declared.cell.Value.{Value}
use Rattle.token_system.specs.declared.cell.Value.TheVariants as values
use Rattle.token_system.specs.declared.name.CellName.TheVariants.{Local}
use Rattle.token_system.specs.Domain.{is_bound, is_cell}
use Rattle.token_system.specs.Stores.{StoreMap, IsKeptFor, after_tell, stored}
use Rattle.token_system.specs.Texts.{text_of, exactly, plain as plain_text}
use Rattle.token_system.specs.Tokens.{fits_kind, token_fits}
use Rattle.token_system.specs.Values.{IsProper, bottom_for, bottom_of, value_eq, value_with}
use Rattle.token_system.proofs.Adding.{value_eq-true, value_eq-itself}
use Rattle.token_system.proofs.Alike.{true_false, within_bound}
use Rattle.token_system.proofs.ByKind.{Fitting, fitting, OfKind, of_kind}
use Rattle.token_system.proofs.ByKind as by
use Rattle.token_system.proofs.ReadBack.{number-signed_decimal}
use Rattle.agent_core.specs.declared.node.CellDecl.{CellDecl}
use Rattle.agent_core.specs.Names.{Names}
use Rattle.agent_core.specs.Programs.{CoreProgram}
use Rattle.agent_core.specs.Strata.{Each}
use Rattle.agent_core.proofs.Bools.{both}
use Rattle.agent_laws.proofs.Eachs.{each_all, Each-append}
use Rattle.trace_text.specs.Fields.{is_blank}
use Rattle.trace_text.specs.StoreLines.{bound_texts, exact_text, text_if, told_texts, value_texts}
use Rattle.trace_text.proofs.TokenTexts.{text_facts}
use Rattle.certificate_text.specs.LocalCells.{are_births, both_fit, told_both, IsLocalCell}
use Rattle.certificate_text.specs.LocalNames.{local_text}
use Rattle.certificate_text.specs.LocalTokens.{IsLocalTokenText}
use Rattle.certificate_text.specs.OutReadings.{of_local, TellTexts}
use Rattle.certificate_text.proofs.LineParts.{IsWhole, calm}
use Rattle.certificate_text.proofs.LocalTokenLaws.{tokens_read_back, values_read_back}
use Rattle.certificate_text.proofs.NameTexts.{name_avoids}
use Rattle.certificate_text.proofs.OutWalks.{TellTexts-append}
use Rattle.certificate_text.proofs.RunTexts.{digit_no_blank}
use Rattle.certificate_text.proofs.ValuesTold.{tell_first, tell_second, stored_told, same_bound, lower_told, upper_told}

-- the texts are whole, and tell the store v to the store u
pub record AreWritten (p : CoreProgram) (t : ℕ) (texts : List (List ℕ)) (u v : StoreMap) : Type 0 where
  pub whole : Each IsWhole texts
  pub told : TellTexts p t texts u v

pub written-append : (p : CoreProgram) (t : ℕ) (xs ys : List (List ℕ)) (u v w : StoreMap) → AreWritten p t xs u v → AreWritten p t ys v w → AreWritten p t (xs ++ ys) u w
written-append p t xs ys u v w a b = record { whole = Each-append IsWhole xs ys a.whole b.whole; told = TellTexts-append p t xs ys u v w a.told b.told }

-- the digits of a number are no blanks
number_calm : (k : ℤ) → IsTrue (is_bound k) → Each (λ b. is_blank b ≡ false) (signed_decimal k)
number_calm k bound =
    calm (signed_decimal k)
    (text_facts (97 ∷ (codes "=" ++ signed_decimal k)) (record { name_start = 0; name_end = 1; first = AtLeast k; second = Some (AtMost k) })
    (plain_text (record { name = 97 ∷ []; rest = codes "=" ++ signed_decimal k; parts = refl; is_a_name = refl; tail = exactly (signed_decimal k) k refl (number-signed_decimal k bound) refl refl; start = refl; ends = refl }))).no_blank

module _ (p : CoreProgram) (t node : ℕ) (births : List ℕ) (lt : node < 10 ^ 9) (small : Each (λ b. b < 10 ^ 9) births) (d : CellDecl) (named : Names p (Local node births) d) (born : IsTrue (are_births 0 t births)) where
  abbrev c : Cell
  c = d.cell

  abbrev name : List ℕ
  name = local_text node births

  name_calm : Each (λ b. is_blank b ≡ false) name
  name_calm = name_avoids is_blank digit_no_blank refl refl node births lt small

  -- a name, a relation and a number
  bound_whole : (relation : List ℕ) (k : ℤ) → Each (λ b. is_blank b ≡ false) relation → IsTrue (is_bound k) → IsWhole (name ++ relation ++ signed_decimal k)
  bound_whole relation k none bound =
      (Each-append (λ b. is_blank b ≡ false) (name ++ relation) (signed_decimal k) (Each-append (λ b. is_blank b ≡ false) name relation name_calm none) (number_calm k bound), refl)

  text_whole : (k : Kind) (token : Token) → Fitting k token → IsWhole (text_of name token)
  text_whole _ _ by.on = (name_calm, refl)
  text_whole _ _ by.off = ((refl, name_calm), refl)
  text_whole _ _ (by.Fitting.clash _) = ((refl, name_calm), refl)
  text_whole _ _ (by.at_least k bound) = bound_whole (codes ">=") k (refl, (refl, tt)) bound
  text_whole _ _ (by.at_most k bound) = bound_whole (codes "<=") k (refl, (refl, tt)) bound

  local_is : IsLocalCell p t (Local node births) c
  local_is = record { node = node; births = births; local = refl; decl = d; named = named; kind = refl; born = born }

  -- one text
  one : (text : List ℕ) (first : Token) (second : Option Token) (u v : StoreMap) → IsWhole text → IsLocalTokenText text (Local node births) first second → IsTrue (both_fit c first second)
      → told_both (Local node births) c first second u ≡ v → AreWritten p t (text ∷ []) u v
  one text first second u v whole reads fits e = record {
    whole = (whole, tt);
    told = (v, of_local (Local node births) c first second (record { text = reads; cell = local_is; fits = fits }) (sym e), refl);
  }

  one_token : (token : Token) (u v : StoreMap) → IsTrue (token_fits c token) → told_both (Local node births) c token None u ≡ v → AreWritten p t (text_of name token ∷ []) u v
  one_token token u v fits e =
      one (text_of name token) token None u v (text_whole c.kind token (fitting c.kind token fits)) (tokens_read_back c node births token lt (each_all (λ b. b < 10 ^ 9) births small) fits)
      (both (token_fits c token) true fits refl) e

  module _ (u : StoreMap) (none : get u (Local node births) ≡ None) where
    first_kept : (token : Token) (x : Value) → IsTrue (token_fits c token) → value_with (bottom_of c) token ≡ x → value_eq x (bottom_of c) ≡ false → AreWritten p t (text_of name token ∷ []) u (insert u (Local node births) x)
    first_kept token x fits e told =
        one_token token u (insert u (Local node births) x) fits (tell_first u (Local node births) c none token x e ∙ stored_told u (Local node births) c none x told)

    -- A SIGNAL

    signal_written : (a b : Bool) → kinds.Signal ≡ c.kind → IsProper (values.Signal a b) → value_eq (values.Signal a b) (bottom_of c) ≡ false
        → AreWritten p t (told_texts name c (values.Signal a b)) u (insert u (Local node births) (values.Signal a b))
    signal_written true true k proper told = absurd (true_false (sym proper))
    signal_written true false k proper told =
        first_kept On (values.Signal true false) (ap (λ j. fits_kind j On) (sym k)) (ap (λ j. value_with (bottom_for j c.lo c.hi) On) (sym k)) told
    signal_written false true k proper told =
        first_kept Off (values.Signal false true) (ap (λ j. fits_kind j Off) (sym k)) (ap (λ j. value_with (bottom_for j c.lo c.hi) Off) (sym k)) told
    signal_written false false k proper told = absurd (true_false (ap (λ j. value_eq (values.Signal false false) (bottom_for j c.lo c.hi)) k ∙ told))

    clash_first : (k : Kind) → value_with (bottom_for k c.lo c.hi) Clash ≡ values.Clash
    clash_first kinds.Signal = refl
    clash_first kinds.Number = refl

    -- A NUMBER

    module _ (lo hi : ℤ) (k : kinds.Number ≡ c.kind) (low : c.lo ≤ℤ lo) (proper : lo ≤ℤ hi) (high : hi ≤ℤ c.hi) (told : value_eq (values.Number lo hi) (bottom_of c) ≡ false) where
      bottom_is : bottom_of c ≡ values.Number c.lo c.hi
      bottom_is = ap (λ j. bottom_for j c.lo c.hi) (sym k)

      bounds : IsTrue (is_bound lo) × IsTrue (is_bound hi)
      bounds = within_bound c.lo lo c.hi hi (ap (λ j. is_cell j c.lo c.hi) k ∙ c.lawful) low proper high

      lower_fits : IsTrue (token_fits c (AtLeast lo))
      lower_fits = ap (λ j. fits_kind j (AtLeast lo)) (sym k) ∙ bounds.0

      upper_fits : IsTrue (token_fits c (AtMost hi))
      upper_fits = ap (λ j. fits_kind j (AtMost hi)) (sym k) ∙ bounds.1

      lower_value : value_with (bottom_of c) (AtLeast lo) ≡ values.Number lo c.hi
      lower_value = ap (λ v. value_with v (AtLeast lo)) bottom_is ∙ lower_told c.lo c.hi lo low (grind (arith, ints))

      -- the lower bound, where it is tighter than the domain's, and then the upper one
      lower_written : (b : Bool) → int_lt c.lo lo ≡ b → AreWritten p t (text_if b (text_of name (AtLeast lo))) u (stored u (Local node births) c (values.Number lo c.hi))
      lower_written true e = one_token (AtLeast lo) u (stored u (Local node births) c (values.Number lo c.hi)) lower_fits (tell_first u (Local node births) c none (AtLeast lo) (values.Number lo c.hi) lower_value)
      lower_written false e =
          let same : values.Number lo c.hi ≡ bottom_of c = ap (λ j. values.Number j c.hi) (sym (same_bound c.lo lo low e)) ∙ sym bottom_is in
          record { whole = tt; told = ap (λ b. cond b u (insert u (Local node births) (values.Number lo c.hi))) (ap (value_eq (values.Number lo c.hi)) (sym same) ∙ value_eq-itself (values.Number lo c.hi)) }

      upper_written : (b : Bool) → int_lt hi c.hi ≡ b → AreWritten p t (text_if b (text_of name (AtMost hi))) (stored u (Local node births) c (values.Number lo c.hi)) (insert u (Local node births) (values.Number lo hi))
      upper_written true e =
          one_token (AtMost hi) (stored u (Local node births) c (values.Number lo c.hi)) (insert u (Local node births) (values.Number lo hi)) upper_fits
          (tell_second u (Local node births) c none (values.Number lo c.hi) (AtMost hi) (values.Number lo hi) (upper_told lo c.hi hi proper high) told ∙ stored_told u (Local node births) c none (values.Number lo hi) told)
      upper_written false e = record {
        whole = tt;
        told = sym (stored_told u (Local node births) c none (values.Number lo hi) told) ∙ ap (λ j. stored u (Local node births) c (values.Number lo j)) (same_bound hi c.hi high e);
      }

      -- both bounds at once
      exact_written : lo ≡ hi → AreWritten p t (exact_text name lo ∷ []) u (insert u (Local node births) (values.Number lo hi))
      exact_written e =
          let most : IsTrue (token_fits c (AtMost lo)) = ap (λ j. token_fits c (AtMost j)) e ∙ upper_fits in
          one (exact_text name lo) (AtLeast lo) (Some (AtMost lo)) u (insert u (Local node births) (values.Number lo hi)) (bound_whole (codes "=") lo (refl, tt) bounds.0)
          (values_read_back node births lo lt (each_all (λ b. b < 10 ^ 9) births small) bounds.0)
          (both (token_fits c (AtLeast lo)) (token_fits c (AtMost lo)) lower_fits most)
          (ap (λ s. after_tell s (Local node births) c (AtMost lo)) (tell_first u (Local node births) c none (AtLeast lo) (values.Number lo c.hi) lower_value)
          ∙ tell_second u (Local node births) c none (values.Number lo c.hi) (AtMost lo) (values.Number lo hi) (ap (λ j. value_with (values.Number lo c.hi) (AtMost j)) e ∙ upper_told lo c.hi hi proper high) told
          ∙ stored_told u (Local node births) c none (values.Number lo hi) told)

      number_written : AreWritten p t (bound_texts name c.lo c.hi lo hi) u (insert u (Local node births) (values.Number lo hi))
      number_written = go (int_eq lo hi) refl
        where
          go : (b : Bool) → int_eq lo hi ≡ b → AreWritten p t (cond b (exact_text name lo ∷ []) (text_if (int_lt c.lo lo) (text_of name (AtLeast lo)) ++ text_if (int_lt hi c.hi) (text_of name (AtMost hi)))) u (insert u (Local node births) (values.Number lo hi))
          go true e = exact_written ((Decides-int_eq lo hi).0 e)
          go false e =
              written-append p t (text_if (int_lt c.lo lo) (text_of name (AtLeast lo))) (text_if (int_lt hi c.hi) (text_of name (AtMost hi))) u (stored u (Local node births) c (values.Number lo c.hi)) (insert u (Local node births) (values.Number lo hi))
              (lower_written (int_lt c.lo lo) refl) (upper_written (int_lt hi c.hi) refl)

    -- A VALUE

    by_kind : (k : Kind) (x : Value) → k ≡ c.kind → OfKind c.lo c.hi k x → IsProper x → value_eq x (bottom_of c) ≡ false → AreWritten p t (told_texts name c x) u (insert u (Local node births) x)
    by_kind _ _ k (by.signal a b) proper told = signal_written a b k proper told
    by_kind _ _ k (by.number lo hi low high) proper told = number_written lo hi k low proper high told
    by_kind _ _ k (by.OfKind.clash _) proper told = first_kept Clash values.Clash refl (clash_first c.kind) told

    pub value_written : (x : Value) → IsKeptFor c x → AreWritten p t (value_texts name c x) u (insert u (Local node births) x)
    value_written x kept = go (value_eq x (bottom_of c)) refl
      where
        go : (b : Bool) → value_eq x (bottom_of c) ≡ b → AreWritten p t (cond b [] (told_texts name c x)) u (insert u (Local node births) x)
        go true e = absurd (kept.not_bottom (value_eq-true x (bottom_of c) e))
        go false e = by_kind c.kind x refl (of_kind c.lo c.hi c.kind x kept.value.domain) kept.value.proper e
