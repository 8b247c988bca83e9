-- The core program of a surface. This project's own.
use Rattle.std.specs.Prelude.{◌≡◌, [], ◌++◌, length, take}
use Rattle.agent_core.specs.Programs.{CoreProgram}
use Rattle.agent_core.specs.Listing as core
use Rattle.tdcc_reader.specs.Surfaces.{SurfaceProgram}
use Rattle.tdcc_reader.specs.Trees.{Tree, form_listing}
use Rattle.expansion_laws.specs.SymbolicAgents.{SymbolicAgent, binders}
use Rattle.expansion_laws.specs.Expanding.{symbolic_of}
use Rattle.expansion_laws.specs.Numbering.{bound_agent, cells_from}

-- this is the symbolic agent of the surface
pub record IsSymbolicOf (s : SurfaceProgram) (d : SymbolicAgent) : Type 0 where
  pub tree : Tree
  pub written : s.forms ≡ form_listing 0 tree
  pub symbolic : d ≡ symbolic_of (length s.cells) 0 tree

-- this is the core program of the symbolic agent
pub record IsCoreOfSymbolic (s : SurfaceProgram) (d : SymbolicAgent) (p : CoreProgram) : Type 0 where
  pub nodes : p.nodes ≡ core.listing 0 (bound_agent [] s.declared d)
  pub cells : p.cells ≡ take s.declared s.cells ++ cells_from s.cells s.declared (binders d)
  pub declared : p.declared ≡ s.declared

-- this is the core program of the surface
abbrev pub IsExpansion : SurfaceProgram → CoreProgram → Type 0
IsExpansion s p = (d : SymbolicAgent) × IsSymbolicOf s d × IsCoreOfSymbolic s d p

-- what is said of a surface, its tree, the symbolic agent of that and the program holds of them
abbrev pub OnItsTree : SurfaceProgram → (SurfaceProgram → Tree → SymbolicAgent → CoreProgram → Type 0)
    → CoreProgram → Type 0
OnItsTree s Holds p = (tree : Tree) → s.forms ≡ form_listing 0 tree → Holds s tree (symbolic_of (length s.cells) 0 tree) p
