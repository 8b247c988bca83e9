-- The certificates that are worked out, and the stores that have none.
use Rattle.std.proofs.Common.{subst, ◌≡◌, inl, ℕ, zero, suc, Bool, true, false, ◌&&◌, not, List, [], ◌∷◌, refl, sym, ap, ◌∙◌, arith}
use Rattle.std.specs.Prelude.{IsTrue}
use Rattle.std.specs.FinMap.{get-empty, get-insert}
use Rattle.token_system.specs.declared.cell.Value.{Value}
use Rattle.token_system.specs.Names.{name_cmp, name_total}
use Rattle.token_system.specs.Stores.{StoreMap}
use Rattle.token_system.proofs.Alike.{true_false}
use Rattle.agent_core.specs.Agents.{Agent, Tell, Then, Else, Par}
use Rattle.agent_core.specs.Programs.{CoreProgram}
use Rattle.agent_core.specs.WellFormed.{IsConstraint, IsWellFormed}
use Rattle.agent_core.specs.Outputs.{IsOutput}
use Rattle.agent_core.specs.Rests.{entails}
use Rattle.agent_core.specs.RestsAfter.{obs}
use Rattle.agent_core.specs.Leaves.{Leaf, Negative, leaf, runs}
use Rattle.agent_core.specs.Strata.{HasNoTable, In}
use Rattle.agent_core.specs.Worked.{a_decl, a_on, nothing, only_a}
use Rattle.agent_core.proofs.Tellings.{Below-refl, empty-IsStore, empty-Below}
use Rattle.agent_laws.specs.Worked.{signal, on, only_b}
use Rattle.agent_laws.proofs.SampleOutputs.{tell_a, tell_b}
use Rattle.certificate_laws.specs.LeafNumbers.{IsCertificate, AreListed}
use Rattle.certificate_laws.specs.CertifiedRuns.{leaves_after}
use Rattle.certificate_laws.specs.Worked.{over_both, a_and_b, one_of_two, each_by_other}
use Rattle.certificate_laws.proofs.CertifiedRuns.{certified_after-output}

-- THE PROGRAMS

-- the agents of the two programs
abbrev two : Agent
two = Par (Else a_on (Tell (on 1))) (Else (on 1) (Tell a_on))

abbrev ring : Agent
ring = Par (Then a_on (Tell (on 1))) (Then (on 1) (Tell a_on))

a_constraint : (a : Agent) → IsConstraint (over_both a) [] a_on
a_constraint a = record { some = omega arith; few = omega arith; tokens = (record { visible = inl (omega arith); decl = a_decl; found = refl; fits = refl }, tt) }

b_constraint : (a : Agent) → IsConstraint (over_both a) [] (on 1)
b_constraint a = record { some = omega arith; few = omega arith; tokens = (record { visible = inl (omega arith); decl = signal 98; found = refl; fits = refl }, tt) }

pub one_of_two-program : IsWellFormed one_of_two
one_of_two-program = record {
  tree = (two, refl);
  locals = refl;
  scoped = ((a_constraint two, b_constraint two), (b_constraint two, a_constraint two));
  limits = record { few_nodes = omega arith; few_cells = omega arith; few_declared = omega arith; within = omega arith };
}

pub each_by_other-program : IsWellFormed each_by_other
each_by_other-program = record {
  tree = (ring, refl);
  locals = refl;
  scoped = ((a_constraint ring, b_constraint ring), (b_constraint ring, a_constraint ring));
  limits = record { few_nodes = omega arith; few_cells = omega arith; few_declared = omega arith; within = omega arith };
}

pub one_of_two-strata : HasNoTable one_of_two
one_of_two-strata table strat = let a = strat.each.0 in let b = strat.each.1.0 in omega arith

-- THE SIGNALS OF EACH STORE

b_without_a : (a : Agent) → entails (over_both a) [] only_b a_on ≡ false
b_without_a a = simp (get-insert {X = Value} name_total, get-empty {X = Value} name_cmp) (refl {a = false})

a_without_b : (a : Agent) → entails (over_both a) [] only_a (on 1) ≡ false
a_without_b a = simp (get-insert {X = Value} name_total, get-empty {X = Value} name_cmp) (refl {a = false})

a_with_a : (a : Agent) → entails (over_both a) [] only_a a_on ≡ true
a_with_a a = simp (get-insert {X = Value} name_total) (refl {a = true})

b_with_b : (a : Agent) → entails (over_both a) [] only_b (on 1) ≡ true
b_with_b a = simp (get-insert {X = Value} name_total) (refl {a = true})

both_with_a : (a : Agent) → entails (over_both a) [] a_and_b a_on ≡ true
both_with_a a = simp (get-insert {X = Value} name_total) (refl {a = true})

both_with_b : (a : Agent) → entails (over_both a) [] a_and_b (on 1) ≡ true
both_with_b a = simp (get-insert {X = Value} name_total) (refl {a = true})

nothing_without_a : (a : Agent) → entails (over_both a) [] nothing a_on ≡ false
nothing_without_a a = simp (get-empty {X = Value} name_cmp) (refl {a = false})

nothing_without_b : (a : Agent) → entails (over_both a) [] nothing (on 1) ≡ false
nothing_without_b a = simp (get-empty {X = Value} name_cmp) (refl {a = false})

-- THE CERTIFICATES

-- a test of a guard alone, from what the store has of it
free-alone : (x : Bool) → x ≡ false → IsTrue (not x && true)
free-alone true e = absurd (true_false e)
free-alone false e = refl

runs-not : (x : Bool) → x ≡ true → IsTrue (not x && true) → ⊥
runs-not true e h = true_false (sym h)
runs-not false e h = true_false (sym e)

asks-not : (x : Bool) → x ≡ false → IsTrue (x && true) → ⊥
asks-not true e h = true_false e
asks-not false e h = true_false (sym h)

-- of two leaves, those that are run are listed
pair_listed : (p : CoreProgram) (a b : Leaf) (v : StoreMap) (numbers : List ℕ) → (IsTrue (runs p v a) → In 0 numbers) → (IsTrue (runs p v b) → In 1 numbers) → AreListed p (a ∷ b ∷ []) v numbers
pair_listed p a b v numbers first second zero l at e r = first (subst (λ x. IsTrue (runs p v x)) (let same : l ≡ a = cc in same) r)
pair_listed p a b v numbers first second (suc zero) l at e r = second (subst (λ x. IsTrue (runs p v x)) (let same : l ≡ b = cc in same) r)
pair_listed p a b v numbers first second (suc (suc n)) l at e r = absurd (cc)

pub b-certified : IsCertificate one_of_two (leaves_after one_of_two []) nothing only_b (0 ∷ [])
b-certified = record {
  once = (λ i. absurd i, tt);
  run = leaf 2 (Tell (on 1)) [] (Negative [] a_on ∷ []) ∷ [];
  numbered = (refl, tt);
  leads = (record { tells = refl; asked = refl; free = free-alone _ (b_without_a two) }, tell_b);
  listed = pair_listed one_of_two _ _ only_b (0 ∷ []) (λ r. inl refl) (λ r. absurd (runs-not _ (b_with_b two) r));
}

pub a-certified : IsCertificate one_of_two (leaves_after one_of_two []) nothing only_a (1 ∷ [])
a-certified = record {
  once = (λ i. absurd i, tt);
  run = leaf 4 (Tell a_on) [] (Negative [] (on 1) ∷ []) ∷ [];
  numbered = (refl, tt);
  leads = (record { tells = refl; asked = refl; free = free-alone _ (a_without_b two) }, tell_a);
  listed = pair_listed one_of_two _ _ only_a (1 ∷ []) (λ r. absurd (runs-not _ (a_with_a two) r)) (λ r. inl refl);
}

pub nobody-certified : IsCertificate each_by_other (leaves_after each_by_other []) nothing nothing []
nobody-certified = record {
  once = tt;
  run = [];
  numbered = tt;
  leads = refl;
  listed = pair_listed each_by_other _ _ nothing [] (λ r. absurd (asks-not _ (nothing_without_a ring) r)) (λ r. absurd (asks-not _ (nothing_without_b ring) r));
}

-- AND WHAT HAS NONE

-- a certificate on the empty input shows an output
pub as_output : (p : CoreProgram) → IsWellFormed p → (v : StoreMap) (numbers : List ℕ) → IsCertificate p (leaves_after p []) nothing v numbers → IsOutput p [] nothing v
as_output p is v numbers c = certified_after-output p is [] nothing v numbers (record { input = empty-IsStore p; certificate = c })

-- where the empty store rests under a guess that has `a`, the guess has no certificate
not_least : (p : CoreProgram) → IsWellFormed p → (v : StoreMap) → entails p [] nothing a_on ≡ false → entails p [] v a_on ≡ true → IsTrue (obs p 0 [] 0 [] nothing v) → (numbers : List ℕ)
    → IsCertificate p (leaves_after p []) nothing v numbers → ⊥
not_least p is v without with_a rest numbers c =
    let out = as_output p is v numbers c in
    let same = out.least nothing (empty-IsStore p) (Below-refl p nothing) (empty-Below p v out.store) rest in
    true_false (sym with_a ∙ ap (λ (w : StoreMap). entails p [] w a_on) (sym same) ∙ without)

pub neither : (numbers : List ℕ) → IsCertificate one_of_two (leaves_after one_of_two []) nothing nothing numbers → ⊥
neither numbers c = true_false (sym (as_output one_of_two one_of_two-program nothing numbers c).rests ∙ simp (get-empty {X = Value} name_cmp) (refl {a = false}))

pub not_both : (numbers : List ℕ) → IsCertificate one_of_two (leaves_after one_of_two []) nothing a_and_b numbers → ⊥
not_both = not_least one_of_two one_of_two-program a_and_b (nothing_without_a two) (both_with_a two) (simp (get-insert {X = Value} name_total, get-empty {X = Value} name_cmp) (refl {a = true}))

pub no_circle : (numbers : List ℕ) → IsCertificate each_by_other (leaves_after each_by_other []) nothing a_and_b numbers → ⊥
no_circle = not_least each_by_other each_by_other-program a_and_b (nothing_without_a ring) (both_with_a ring) (simp (get-insert {X = Value} name_total, get-empty {X = Value} name_cmp) (refl {a = true}))
