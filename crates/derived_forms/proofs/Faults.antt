-- What a refusal of a part says of the whole.
use Rattle.std.proofs.Common.{◌≡◌, ℕ, ◌≤◌, subst, sym, arith, Result}
use Rattle.std.specs.Prelude.{IsErrAnd, IfErr}
use Rattle.std.proofs.lemmas.Result.{err_from_is_err_and, IfErr-weaker}
use Rattle.derived_forms.specs.declared.fault.ExpandFault.{ExpandFault}
use Rattle.derived_forms.specs.declared.fault.ExpandFault.TheVariants.{TooManyNodes, TooManyCells, Memory}
use Rattle.derived_forms.specs.Refusals.{IsTooLarge}

-- where a part is too large, the whole is
pub too_large_whole : (m n : ℕ) (f : ExpandFault) → m ≤ n → IsTooLarge m f → IsTooLarge n f
too_large_whole m n TooManyNodes le h = omega arith
too_large_whole m n TooManyCells le h = h
too_large_whole m n Memory le h = tt

-- the fault of a part is handed on
pub handed_on : {T : Type 0} (r : Result T ExpandFault) (f : ExpandFault) (m n : ℕ) → IsErrAnd r (λ e. e ≡ f) → m ≤ n → IsTooLarge m f → IfErr r (IsTooLarge n)
handed_on {T} r f m n failed le h =
    let p = err_from_is_err_and r failed in
    let P : Result T ExpandFault → Type 0 = λ r. IfErr r (IsTooLarge n) in
    subst P (sym p.1) (subst (IsTooLarge n) (sym p.2) (too_large_whole m n f le h))

pub still_too_large : {T : Type 0} (r : Result T ExpandFault) (m n : ℕ) → m ≤ n → IfErr r (IsTooLarge m) → IfErr r (IsTooLarge n)
still_too_large r m n le h = IfErr-weaker r (IsTooLarge m) (IsTooLarge n) (λ f x. too_large_whole m n f le x) h
