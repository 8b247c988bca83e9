-- What rest says of two programs over one signal `a`, worked out by hand.
use Rattle.std.specs.Prelude.{◌≡◌, pos, refl, true, false, [], ◌∷◌}
use Rattle.std.specs.FinMap.{empty, insert}
use Rattle.token_system.specs.declared.cell.Kind.TheVariants as kinds
use Rattle.token_system.specs.declared.cell.Token.TheVariants.{On}
use Rattle.token_system.specs.declared.cell.Value.TheVariants as values
use Rattle.token_system.specs.declared.name.CellName.TheVariants.{Declared}
use Rattle.token_system.specs.Stores.{StoreMap}
use Rattle.agent_core.specs.declared.node.CellDecl.{CellDecl}
use Rattle.agent_core.specs.Agents.{Agent, Constraint, Tell, Else, Par, Hence, Next}
use Rattle.agent_core.specs.Programs.{CoreProgram}
use Rattle.agent_core.specs.Listing.{listing}
use Rattle.agent_core.specs.Rests.{rests}
use Rattle.agent_core.specs.RestsAfter.{obs}

-- the signal `a`
abbrev pub a_decl : CellDecl
a_decl = record { name = 97 ∷ []; cell = record { kind = kinds.Signal; lo = pos 0; hi = pos 0; lawful = refl } }

-- the constraint `a`
abbrev pub a_on : Constraint
a_on = (0, On) ∷ []

-- the program of this agent over `a` alone
abbrev pub over_a : Agent → CoreProgram
over_a agent = record { cells = a_decl ∷ []; declared = 1; nodes = listing 0 agent }

-- the store of which nothing is told, and the one in which `a` is on
abbrev pub nothing : StoreMap
nothing = empty

abbrev pub only_a : StoreMap
only_a = insert empty (Declared 0) (values.Signal true false)

-- `if a else a`: a default that takes its own ground away
abbrev pub self_defeating : CoreProgram
self_defeating = over_a (Else a_on (Tell a_on))

-- it rests under the guess that has `a`, and not under the guess that has not; so neither store is an output
pub record RestsUnderItsTell : Type 0 where
  pub without : rests self_defeating 0 [] 0 nothing nothing ≡ false
  pub guessed : rests self_defeating 0 [] 0 nothing only_a ≡ true
  pub told : rests self_defeating 0 [] 0 only_a only_a ≡ true

-- `always (if a else next a)`: where `a` was absent, it is told at the next instant
abbrev pub next_if_absent : Agent
next_if_absent = Else a_on (Next (Tell a_on))

abbrev pub alternating : CoreProgram
alternating = over_a (Par next_if_absent (Hence next_if_absent))

-- after one closed store without `a`, it does not rest before `a` is told, and rests after
pub record TellsAfterAbsence : Type 0 where
  pub before : obs alternating 0 [] 0 (nothing ∷ []) nothing nothing ≡ false
  pub after : obs alternating 0 [] 0 (nothing ∷ []) only_a only_a ≡ true
