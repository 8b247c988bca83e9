-- Strata, roots, leaves and outputs of four small programs, worked out by hand.
use Rattle.std.specs.Prelude.{◌≡◌, ℕ, true, false, refl, List, [], ◌∷◌, length, pos}
use Rattle.std.specs.FinMap.{empty, insert}
use Rattle.token_system.specs.declared.cell.Kind.TheVariants as kinds
use Rattle.token_system.specs.declared.cell.Token.TheVariants.{On}
use Rattle.token_system.specs.declared.cell.Value.TheVariants as values
use Rattle.token_system.specs.declared.name.CellName.TheVariants.{Declared}
use Rattle.token_system.specs.Stores.{StoreMap}
use Rattle.agent_core.specs.declared.node.CellDecl.{CellDecl}
use Rattle.agent_core.specs.Agents.{Constraint, Tell, Else, Par, New, Hence}
use Rattle.agent_core.specs.Programs.{CoreProgram}
use Rattle.agent_core.specs.Listing.{listing}
use Rattle.agent_core.specs.WellFormed.{IsWellFormed}
use Rattle.agent_core.specs.Outputs.{IsOutput}
use Rattle.agent_core.specs.Closures.{closure, roots}
use Rattle.agent_core.specs.Leaves.{leaves, ran}
use Rattle.agent_core.specs.Strata.{Edge, Stratifies, IsLeastTable, HasNoTable, IsFirstCase}
use Rattle.agent_core.specs.Worked.{a_decl, a_on, over_a, nothing, only_a, self_defeating}

abbrev pub signal : ℕ → CellDecl
signal letter = record { name = letter ∷ []; cell = record { kind = kinds.Signal; lo = pos 0; hi = pos 0; lawful = refl } }

abbrev pub on : ℕ → Constraint
on cell = (cell, On) ∷ []

-- `signal a, b; if a else b`
abbrev pub by_default : CoreProgram
by_default = record { cells = a_decl ∷ signal 98 ∷ []; declared = 2; nodes = listing 0 (Else a_on (Tell (on 1))) }

-- the store in which `b` is on
abbrev pub only_b : StoreMap
only_b = insert empty (Declared 1) (values.Signal true false)

-- `b` stands above `a`, and no lesser table serves; where nothing is told `b` is, and where `a` is told nothing more is
pub record TellsByDefault : Type 0 where
  pub program : IsWellFormed by_default
  pub table : Stratifies by_default (0 ∷ 1 ∷ [])
  pub least : IsLeastTable by_default (0 ∷ 1 ∷ [])
  pub absent : IsOutput by_default [] nothing only_b
  pub present : IsOutput by_default [] only_a only_a
  pub run_absent : ran by_default (closure 0 [] ∷ []) 0 only_b ≡ 1
  pub run_present : ran by_default (closure 0 [] ∷ []) 0 only_a ≡ 0

-- the case of `if a else a`
abbrev pub own_case : Edge
own_case = record { guard = record { node = 0; cell = 0; negative = true }; tell = 1; told = 0 }

-- `if a else a` has no table, since `a` reaches the else that it stands under
pub record StandsOnItself : Type 0 where
  pub program : IsWellFormed self_defeating
  pub none : HasNoTable self_defeating
  pub first : IsFirstCase self_defeating own_case

-- how many leaves the program has after these closed stores
abbrev pub leaf_count : CoreProgram → List StoreMap → ℕ
leaf_count p z = length (leaves p (roots p z) (length z))

-- `hence hence a`
abbrev pub later_twice : CoreProgram
later_twice = over_a (Hence (Hence (Tell a_on)))

-- the inner hence is started at each instant but the first, and its body at each instant but the first two, as one closure
pub record StartsLaterTwice : Type 0 where
  pub program : IsWellFormed later_twice
  pub roots_0 : roots later_twice [] ≡ closure 0 [] ∷ []
  pub roots_1 : roots later_twice (nothing ∷ []) ≡ closure 1 [] ∷ []
  pub roots_2 : roots later_twice (nothing ∷ nothing ∷ []) ≡ closure 1 [] ∷ closure 2 [] ∷ []
  pub roots_3 : roots later_twice (nothing ∷ nothing ∷ nothing ∷ []) ≡ closure 1 [] ∷ closure 2 [] ∷ []
  pub leaves_0 : leaf_count later_twice [] ≡ 1
  pub leaves_1 : leaf_count later_twice (nothing ∷ []) ≡ 1
  pub leaves_2 : leaf_count later_twice (nothing ∷ nothing ∷ []) ≡ 2
  pub leaves_3 : leaf_count later_twice (nothing ∷ nothing ∷ nothing ∷ []) ≡ 2

-- `always new signal s in hence s`: each instant has a local cell of its own, which is told ever after
abbrev pub ever_more : CoreProgram
ever_more = record { cells = signal 115 ∷ signal 115 ∷ []; declared = 0; nodes = listing 0 (Par (New 0 (Hence (Tell (on 0)))) (Hence (New 1 (Hence (Tell (on 1)))))) }

-- so there is one leaf more at each instant but the second
pub record StartsEverMore : Type 0 where
  pub program : IsWellFormed ever_more
  pub table : Stratifies ever_more (0 ∷ 0 ∷ [])
  pub leaves_0 : leaf_count ever_more [] ≡ 2
  pub leaves_1 : leaf_count ever_more (nothing ∷ []) ≡ 2
  pub leaves_2 : leaf_count ever_more (nothing ∷ nothing ∷ []) ≡ 3
  pub leaves_3 : leaf_count ever_more (nothing ∷ nothing ∷ nothing ∷ []) ≡ 4
  pub leaves_4 : leaf_count ever_more (nothing ∷ nothing ∷ nothing ∷ nothing ∷ []) ≡ 5
