-- The values of a cell are its closed sets of tokens.
use Rattle.std.proofs.Common.{◌≡◌, Bool, true, false, cond, ◌&&◌, not, ℤ, List, [], ◌∷◌, ◌++◌, All, refl, sym, ap, ◌∙◌, subst, arith, append_assoc}
use Rattle.std.specs.Prelude.{◌≤ℤ◌, IsTrue, int_le, int_lt}
use Rattle.std.proofs.lemmas.Int.{ints}
use Rattle.std.proofs.lemmas.List.{append-nil}
use Rattle.token_system.specs.declared.cell.Kind.{Kind}
use Rattle.token_system.specs.declared.cell.Kind.TheVariants as kinds
use Rattle.token_system.specs.declared.cell.Cell.{Cell}
use Rattle.token_system.specs.declared.cell.Token.{Token}
use Rattle.token_system.specs.declared.cell.Token.TheVariants.{On, Off, AtLeast, AtMost, Clash}
use Rattle.token_system.specs.declared.cell.Value.{Value}
use Rattle.token_system.specs.declared.cell.Value.TheVariants as values
use Rattle.token_system.specs.Domain.{is_cell}
use Rattle.token_system.specs.Tokens.{Fits, fits_kind}
use Rattle.token_system.specs.Values.{bottom_of, bottom_for, value_with, IsProper, WithinDomain, IsValueOf, StandsFor}
use Rattle.token_system.proofs.Adding.{kinds_agree, added, bottom_within}
use Rattle.token_system.proofs.Alike.{within_bound, true_false}
use Rattle.token_system.proofs.Below.{below-antisymm}
use Rattle.token_system.proofs.Standing.{with-stands, bottom-stands}
use Rattle.agent_core.specs.Strata.{Each}
use Rattle.agent_laws.proofs.Eachs.{all_each, each_all}
use Rattle.denotation_laws.specs.Laws.{IsClosureOf}

-- TOKENS HAVE ONE VALUE

module _ (c : Cell) where
  -- the bottom is that of no tokens
  none-closed : IsClosureOf c [] (bottom_of c)
  none-closed = let b = bottom_within c.kind c.lo c.hi c.lawful in record { value = record { domain = b.0; proper = b.1 }; stands = bottom-stands c }

  -- with one token more it is the value with the token
  one_more-closed : (ts : List Token) (v : Value) (t : Token) → IsClosureOf c ts v → Fits c t → IsClosureOf c (ts ++ t ∷ []) (value_with v t)
  one_more-closed ts v t h f =
      let a = added c.lo c.hi c.kind v t c.lawful h.value.domain h.value.proper f in
      record {
        value = record { domain = a.domain; proper = a.proper };
        stands = with-stands c ts v t f h.value h.stands;
      }

  with_more : (rest done : List Token) (v : Value) → IsClosureOf c done v → Each (Fits c) rest → (w : Value) × IsClosureOf c (done ++ rest) w
  with_more [] done v h f = (v, subst (λ (ts : List Token). IsClosureOf c ts v) (sym (append-nil done)) h)
  with_more (t ∷ rest) done v h f =
      let r = with_more rest (done ++ t ∷ []) (value_with v t) (one_more-closed done v t h f.0) f.1 in
      (r.0, subst (λ (ts : List Token). IsClosureOf c ts r.0) (append_assoc done (t ∷ []) rest) r.1)

  pub has_value : (ts : List Token) → All (Fits c) ts → (v : Value) × IsClosureOf c ts v
  has_value ts f = with_more ts [] (bottom_of c) none-closed (all_each (Fits c) ts f)

  pub one_value : (ts : List Token) (v w : Value) → IsClosureOf c ts v → IsClosureOf c ts w → v ≡ w
  one_value ts v w h g =
      below-antisymm c v w h.value g.value
      (λ t f e. (g.stands t f).1 ((h.stands t f).0 e))
      (λ t f e. (h.stands t f).1 ((g.stands t f).0 e))
