-- To each list of inputs belongs exactly one run.
use Rattle.std.proofs.Common.{◌≡◌, ◌⊎◌, inl, inr, ℕ, zero, suc, ◌<◌, ◌≤◌, List, [], ◌∷◌, ◌++◌, length, length-append, take, get_or, Some, refl, sym, ap, ◌∙◌, subst, arith}
use Rattle.std.specs.Prelude.{slice_get, All}
use Rattle.std.specs.FinMap.{empty}
use Rattle.std.proofs.Math.Seq.{take-suc, take-length, take-append_seam}
use Rattle.std.proofs.lemmas.List.{take-append-le}
use Rattle.std.proofs.lemmas.Option.{slice_get-get_or, slice_get_within}
use Rattle.token_system.specs.Stores.{StoreMap}
use Rattle.agent_core.specs.Programs.{CoreProgram}
use Rattle.agent_core.specs.Stores.{IsStore}
use Rattle.agent_core.specs.WellFormed.{IsWellFormed}
use Rattle.agent_core.specs.Outputs.{IsOutput, IsRun}
use Rattle.agent_core.specs.Strata.{Stratifies}
use Rattle.agent_core.proofs.Standing.{StandsAt, stands-head}
use Rattle.agent_laws.proofs.ProgramOutputs.{has_output, one_output}

front : {X : Type 0} (xs : List X) (y : X) (m : ℕ) → m < length xs → slice_get (xs ++ y ∷ []) m ≡ slice_get xs m
front [] y m lt = absurd (omega arith)
front (x ∷ xs) y zero lt = refl
front (x ∷ xs) y (suc m) lt = front xs y m (omega arith)

at_end : {X : Type 0} (xs : List X) (y : X) → slice_get (xs ++ y ∷ []) (length xs) ≡ Some y
at_end {X} xs y = let s : StandsAt X (xs ++ y ∷ []) (length xs) (y ∷ []) = record { front = xs; back = []; whole = refl; long = refl } in stands-head s

-- a run with one instant more
pub run-push : (p : CoreProgram) (ins outs : List StoreMap) (i v : StoreMap) → IsRun p ins outs → IsOutput p outs i v → IsRun p (ins ++ i ∷ []) (outs ++ v ∷ [])
run-push p ins outs i v run out = record {
  whole = let w = run.whole in omega (arith, length-append outs (v ∷ []), length-append ins (i ∷ []));
  each = λ n j x ej ex.
      let within = slice_get_within (outs ++ v ∷ []) n x ex in
      let long = length-append outs (v ∷ []) in
      go n j x ej ex (split n (length outs) (omega arith));
}
  where
    split : (n m : ℕ) → n ≤ m → (n < m) ⊎ (n ≡ m)
    split n m le = grind arith

    some : {X : Type 0} (x y : X) → Some x ≡ Some y → x ≡ y
    some x y e = cc

    go : (n : ℕ) (j x : StoreMap) → slice_get (ins ++ i ∷ []) n ≡ Some j → slice_get (outs ++ v ∷ []) n ≡ Some x → (n < length outs) ⊎ (n ≡ length outs) → IsOutput p (take n (outs ++ v ∷ [])) j x
    go n j x ej ex (inl lt) =
        let long : n < length ins = let w = run.whole in omega arith in
        subst (λ (z : List StoreMap). IsOutput p z j x) (sym (take-append-le n outs (v ∷ []) (let h : n ≤ length outs = omega arith in h)))
        (run.each n j x (sym (front ins i n long) ∙ ej) (sym (front outs v n lt) ∙ ex))
    go n j x ej ex (inr e) =
        let last_in : slice_get (ins ++ i ∷ []) n ≡ Some i = ap (slice_get (ins ++ i ∷ [])) (e ∙ run.whole) ∙ at_end ins i in
        let last_out : slice_get (outs ++ v ∷ []) n ≡ Some v = ap (slice_get (outs ++ v ∷ [])) e ∙ at_end outs v in
        let a : i ≡ j = some i j (sym last_in ∙ ej) in
        let b : v ≡ x = some v x (sym last_out ∙ ex) in
        subst (λ (z : List StoreMap). IsOutput p z j x) (sym (ap (λ (k : ℕ). take k (outs ++ v ∷ [])) e ∙ take-append_seam outs (v ∷ [])))
        (subst (λ (y : StoreMap). IsOutput p outs y x) a (subst (λ (y : StoreMap). IsOutput p outs i y) b out))

module _ (p : CoreProgram) (table : List ℕ) (is : IsWellFormed p) (strat : Stratifies p table) (ins : List StoreMap) (stores : All (IsStore p) ins) where
  runs_upto : (k : ℕ) → k ≤ length ins → (outs : List StoreMap) × IsRun p (take k ins) outs
  runs_upto zero le = ([], record { whole = refl; each = λ n i v ei ev. absurd (let h = slice_get_within [] n i ei in omega arith) })
  runs_upto (suc k) le =
      let before = runs_upto k (omega arith) in
      let i : StoreMap = get_or ins k empty in
      let at = slice_get-get_or ins k empty (omega arith) in
      let out = has_output p table is strat before.0 i (stores k empty (omega arith)) in (
        before.0 ++ out.0 ∷ [],
        subst (λ (z : List StoreMap). IsRun p z (before.0 ++ out.0 ∷ [])) (sym (take-suc ins k empty (omega arith))) (run-push p (take k ins) before.0 i out.0 before.1 out.1),
      )

  pub has_run : (outs : List StoreMap) × IsRun p ins outs
  has_run =
      let r = runs_upto (length ins) (omega arith) in
      (r.0, subst (λ (z : List StoreMap). IsRun p z r.0) (take-length ins) r.1)

-- and there is no other
module _ (p : CoreProgram) (table : List ℕ) (is : IsWellFormed p) (strat : Stratifies p table) (ins a b : List StoreMap) (ra : IsRun p ins a) (rb : IsRun p ins b) where
  same_upto : (k : ℕ) → k ≤ length ins → take k a ≡ take k b
  same_upto zero le = refl
  same_upto (suc k) le =
      let before = same_upto k (omega arith) in
      let la : k < length a = let w = ra.whole in omega arith in
      let lb : k < length b = let w = rb.whole in omega arith in
      let i : StoreMap = get_or ins k empty in
      let at = slice_get-get_or ins k empty (omega arith) in
      let oa = ra.each k i (get_or a k empty) at (slice_get-get_or a k empty la) in
      let ob = rb.each k i (get_or b k empty) at (slice_get-get_or b k empty lb) in
      let one = one_output p table is strat (take k a) i (get_or a k empty) (get_or b k empty) oa (subst (λ (z : List StoreMap). IsOutput p z i (get_or b k empty)) (sym before) ob) in
      take-suc a k empty la ∙ ap (λ (z : List StoreMap). z ++ get_or a k empty ∷ []) before ∙ ap (λ (v : StoreMap). take k b ++ v ∷ []) one ∙ sym (take-suc b k empty lb)

  pub one_run : a ≡ b
  one_run =
      sym (take-length a) ∙ ap (λ (k : ℕ). take k a) ra.whole ∙ same_upto (length ins) (omega arith) ∙ ap (λ (k : ℕ). take k b) (sym rb.whole) ∙ take-length b
