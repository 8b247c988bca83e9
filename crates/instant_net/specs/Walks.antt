-- Guards and leaves as a walk over the nodes of an instant lists them, and what they say by name. This project's own.
use Rattle.std.specs.Prelude.{◌≡◌, ℕ, suc, ◌+◌, ◌<◌, Bool, All, length, List, [], ◌∷◌, ◌++◌, map, set, slice_get, Option, None, Some}
use Rattle.token_system.specs.declared.cell.Token.{Token}
use Rattle.token_system.specs.declared.name.CellName.{CellName}
use Rattle.token_system.specs.declared.name.CellName.TheVariants.{Declared}
use Rattle.agent_core.specs.Agents.{Constraint, agent_at}
use Rattle.agent_core.specs.Programs.{CoreProgram}
use Rattle.agent_core.specs.Leaves as core
use Rattle.agent_core.specs.declared.node.CellDecl.{CellDecl}
use Rattle.agent_core.specs.declared.node.Closure.{Closure}
use Rattle.agent_core.specs.Names.{Names}
use Rattle.instant_net.specs.declared.locals.Local.{Local}
use Rattle.instant_net.specs.declared.parts.Atom.{Atom}
use Rattle.instant_net.specs.declared.parts.NetCell.{NetCell}
use Rattle.instant_net.specs.declared.parts.NetGuard.{NetGuard}
use Rattle.instant_net.specs.declared.parts.NetLeaf.{NetLeaf}
use Rattle.instant_net.specs.Locals.{AreLocalsOf}
use Rattle.instant_net.specs.NamedLeaves.{NamedGuard, NamedLeaf}
use Rattle.agent_core.specs.Occurrences.{Occurrence, occurrences_of}
use Rattle.instant_net.specs.Links.{guard_count, AreLinked, AreLinkedAsRoots}
use Rattle.instant_net.specs.Opened.{AreInOrder}
use Rattle.instant_net.specs.Nets.{AtomFits, named_at, named_atoms, named_guard, named_kind, atoms_of}
use Rattle.instant_net.specs.Programs.{token_named, constraint_named, guard_named, leaf_named, occurrence_named, root_leaves, root_occurrences, agent_leaf_count}

-- the cell is the one that its name says
pub record IsCellOfName (p : CoreProgram) (c : NetCell) : Type 0 where
  pub decl : CellDecl
  pub named : Names p c.name decl
  pub cell : c.cell ≡ decl.cell

-- the atoms are those of the constraint under the births
pub record AreAtomsOf (p : CoreProgram) (cells : List NetCell) (b : List ℕ) (ask : Constraint) (atoms : List Atom) : Type 0 where
  pub same : named_atoms cells atoms ≡ constraint_named p b ask
  pub fit : All (AtomFits cells) atoms

-- the place is that of a cell with this name
pub record IsPlaceOfName (cells : List NetCell) (n : CellName) (place : ℕ) : Type 0 where
  pub found : NetCell
  pub stands : slice_get cells place ≡ Some found
  pub named : found.name ≡ n

-- the cells are those of their names, in order, that of a declared one at its number, no more than 32 bits can number, and these are the program's local cells
pub record AreNamed (p : CoreProgram) (locals : List Local) (cells : List NetCell) : Type 0 where
  pub each : All (IsCellOfName p) cells
  pub order : AreInOrder cells
  pub few : length cells < 4294967296
  pub declared : (k : ℕ) → k < p.declared → IsPlaceOfName cells (Declared k) k
  pub locals_are : AreLocalsOf p locals

-- the atom is that of the token under the births
pub record IsAtomOf (p : CoreProgram) (cells : List NetCell) (b : List ℕ) (x : ℕ × Token) (a : Atom) : Type 0 where
  pub same : named_at (slice_get cells a.cell) a ≡ token_named p b x.0 x.1 (slice_get p.cells x.0)
  pub fits : AtomFits cells a

-- a guard of these, whose leaves begin with the one of this number
pub record IsBegun (negative : Bool) (ask : List Atom) (above : Option ℕ) (first : ℕ) (g : NetGuard) : Type 0 where
  pub negative_is : g.negative ≡ negative
  pub ask_is : g.ask ≡ ask
  pub above_is : g.above ≡ above
  pub first_is : g.first ≡ first

-- guards after the leaves of the one with number k end before this leaf
pub record IsEnded (guards guards' : List NetGuard) (k past : ℕ) : Type 0 where
  pub one : NetGuard
  pub stands : slice_get guards k ≡ Some one
  pub ended : guards' ≡ set guards k (record one { past = past })

-- these guards and leaves stand below the guard `last` and the path that leads to it, the first guard has number k and the first leaf number l, and the guards and the leaves say this
pub data Grown (cells : List NetCell) : Option ℕ → List NamedGuard → ℕ → ℕ → List NetGuard → List NetLeaf → List (Occurrence NamedGuard) → List NamedLeaf → Type 0 where
  none : (last : Option ℕ) (path : List NamedGuard) (k l : ℕ) → Grown cells last path k l [] [] [] []
  leaf : (path : List NamedGuard) (k l : ℕ) (x : NetLeaf) → All (AtomFits cells) (atoms_of x.kind)
      → Grown cells x.last path k l [] (x ∷ []) [] (record { kind = named_kind cells x.kind; path = path } ∷ [])
  under : (path : List NamedGuard) (k l : ℕ) (g : NetGuard) (gs : List NetGuard) (ls : List NetLeaf) (os : List (Occurrence NamedGuard)) (out : List NamedLeaf) → All (AtomFits cells) g.ask → g.first ≡ l → g.past ≡ l + length ls
      → Grown cells (Some k) (path ++ named_guard cells g ∷ []) (suc k) l gs ls os out → Grown cells g.above path k l (g ∷ gs) ls (record { guard = named_guard cells g; path = path } ∷ os) out
  beside : (last : Option ℕ) (path : List NamedGuard) (k l : ℕ) (gs : List NetGuard) (ls : List NetLeaf) (os : List (Occurrence NamedGuard)) (out : List NamedLeaf)
      (gs' : List NetGuard) (ls' : List NetLeaf) (os' : List (Occurrence NamedGuard)) (out' : List NamedLeaf)
      → Grown cells last path k l gs ls os out → Grown cells last path (k + length gs) (l + length ls) gs' ls' os' out'
      → Grown cells last path k l (gs ++ gs') (ls ++ ls') (os ++ os') (out ++ out')

-- behind these guards and leaves those of node n can be numbered in 32 bits
pub record HasRoomFor (p : CoreProgram) (n : ℕ) (gs : List NetGuard) (ls : List NetLeaf) : Type 0 where
  pub guards : length gs + guard_count (agent_at p.nodes n) < 4294967296
  pub leaves : length ls + agent_leaf_count (agent_at p.nodes n) < 4294967296

-- guards and leaves after those of node n were added, which is started at t under births b and stands below the guard `last`
pub record Adds (p : CoreProgram) (cells : List NetCell) (t n : ℕ) (b : List ℕ) (last : Option ℕ) (guards guards' : List NetGuard) (leaves leaves' : List NetLeaf) : Type 0 where
  pub more_guards : List NetGuard
  pub more_leaves : List NetLeaf
  pub guards_are : guards' ≡ guards ++ more_guards
  pub leaves_are : leaves' ≡ leaves ++ more_leaves
  pub grown : (path : List core.Guard)
      → Grown cells last (map (guard_named p) path) (length guards) (length leaves) more_guards more_leaves
      (map (occurrence_named p) (occurrences_of t (agent_at p.nodes n) b path)) (map (leaf_named p) (core.leaves_of t (agent_at p.nodes n) n b path))
  pub linked : AreLinked (agent_at p.nodes n) last (length guards) (length leaves) more_guards more_leaves

-- guards and leaves of these roots
pub record AreListedFor (p : CoreProgram) (cells : List NetCell) (t : ℕ) (rs : List Closure) (guards : List NetGuard) (leaves : List NetLeaf) : Type 0 where
  pub grown : Grown cells None [] 0 0 guards leaves (root_occurrences p rs t) (root_leaves p rs t)
  pub linked : AreLinkedAsRoots p rs guards leaves
