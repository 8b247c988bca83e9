-- Certificates of two small programs over the signals `a` and `b`, worked out by hand.
use Rattle.std.specs.Prelude.{◌≡◌, ℕ, true, false, List, [], ◌∷◌}
use Rattle.std.specs.FinMap.{insert}
use Rattle.token_system.specs.declared.cell.Value.TheVariants as values
use Rattle.token_system.specs.declared.name.CellName.TheVariants.{Declared}
use Rattle.token_system.specs.Stores.{StoreMap}
use Rattle.agent_core.specs.Agents.{Agent, Tell, Then, Else, Par}
use Rattle.agent_core.specs.Programs.{CoreProgram}
use Rattle.agent_core.specs.Listing.{listing}
use Rattle.agent_core.specs.WellFormed.{IsWellFormed}
use Rattle.agent_core.specs.Outputs.{IsOutput}
use Rattle.agent_core.specs.Leaves.{Positive, Negative, leaf}
use Rattle.agent_core.specs.Strata.{HasNoTable}
use Rattle.agent_core.specs.Worked.{a_decl, a_on, nothing, only_a}
use Rattle.agent_laws.specs.Worked.{signal, on, only_b}
use Rattle.certificate_laws.specs.LeafNumbers.{IsCertificate}
use Rattle.certificate_laws.specs.CertifiedRuns.{leaves_after}

-- the program of this agent over `a` and `b`
abbrev pub over_both : Agent → CoreProgram
over_both agent = record { cells = a_decl ∷ signal 98 ∷ []; declared = 2; nodes = listing 0 agent }

-- the store in which both are on
abbrev pub a_and_b : StoreMap
a_and_b = insert only_b (Declared 0) (values.Signal true false)

-- `if a else b || if b else a`
abbrev pub one_of_two : CoreProgram
one_of_two = over_both (Par (Else a_on (Tell (on 1))) (Else (on 1) (Tell a_on)))

-- no table of strata fits it, and on the empty input both signals, alone, are outputs: leaf 0 certifies `b`, and leaf 1 `a`.
-- The empty store has no certificate, since it runs both leaves; nor has the store with both signals, since nobody may tell them.
pub record HasTwoOutputs : Type 0 where
  pub program : IsWellFormed one_of_two
  pub strata : HasNoTable one_of_two
  pub leaves : leaves_after one_of_two [] ≡ leaf 2 (Tell (on 1)) [] (Negative [] a_on ∷ []) ∷ leaf 4 (Tell a_on) [] (Negative [] (on 1) ∷ []) ∷ []
  pub first : IsCertificate one_of_two (leaves_after one_of_two []) nothing only_b (0 ∷ [])
  pub second : IsCertificate one_of_two (leaves_after one_of_two []) nothing only_a (1 ∷ [])
  pub first_output : IsOutput one_of_two [] nothing only_b
  pub second_output : IsOutput one_of_two [] nothing only_a
  pub neither : (numbers : List ℕ) → IsCertificate one_of_two (leaves_after one_of_two []) nothing nothing numbers → ⊥
  pub both : (numbers : List ℕ) → IsCertificate one_of_two (leaves_after one_of_two []) nothing a_and_b numbers → ⊥

-- `if a then b || if b then a`
abbrev pub each_by_other : CoreProgram
each_by_other = over_both (Par (Then a_on (Tell (on 1))) (Then (on 1) (Tell a_on)))

-- in the store with both signals each leaf has the other for its ground, but no order begins with a ground: a run is a list, and no set
pub record SupportsItself : Type 0 where
  pub program : IsWellFormed each_by_other
  pub leaves : leaves_after each_by_other [] ≡ leaf 2 (Tell (on 1)) [] (Positive [] a_on ∷ []) ∷ leaf 4 (Tell a_on) [] (Positive [] (on 1) ∷ []) ∷ []
  pub nobody : IsCertificate each_by_other (leaves_after each_by_other []) nothing nothing []
  pub circle : (numbers : List ℕ) → IsCertificate each_by_other (leaves_after each_by_other []) nothing a_and_b numbers → ⊥
