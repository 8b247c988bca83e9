-- The leaves of an instant with their cells by name, whatever they were read off: a program's roots, or a flat net. When such leaves rest. This project's own.
use Rattle.std.specs.Prelude.{Bool, true, false, cond, ◌&&◌, not, List, [], ◌∷◌, ◌++◌, map, flat_map}
use Rattle.std.specs.List.{list_all}
use Rattle.token_system.specs.declared.cell.Cell.{Cell}
use Rattle.token_system.specs.declared.cell.Token.{Token}
use Rattle.token_system.specs.declared.name.CellName.{CellName}
use Rattle.token_system.specs.Stores.{StoreMap, store_entails, after_tell}
use Rattle.agent_core.specs.declared.node.Closure.{Closure}
use Rattle.agent_core.specs.Rests.{◌⇒◌}
use Rattle.agent_core.specs.Occurrences.{Occurrence}

-- a token of a named cell
pub record Named : Type 0 where
  pub name : CellName
  pub cell : Cell
  pub token : Token

-- an ask above a leaf: of a then, or of an else
pub record NamedGuard : Type 0 where
  pub negative : Bool
  pub ask : List Named

-- what a leaf is: a skip, a tell of these tokens, or what starts a closure at each later instant, or at the next
pub data Kind : Type 0 where
  Idle : Kind
  Tells : (after_tell : List Named) → Kind
  StartsHence : (closure : Closure) → Kind
  StartsNext : (closure : Closure) → Kind

-- a leaf, and the guards above it, outermost first
pub record NamedLeaf : Type 0 where
  pub kind : Kind
  pub path : List NamedGuard

-- what a leaf tells
abbrev pub told_by : Kind → List Named
told_by (Tells after_tell) = after_tell
told_by _ = []

abbrev pub named_holds : StoreMap → Named → Bool
named_holds u x = store_entails u x.name x.cell x.token

abbrev pub named_entails : StoreMap → List Named → Bool
named_entails u ask = list_all (named_holds u) ask

abbrev pub allowed : Bool → Bool → Bool
allowed true entailed = not entailed
allowed false entailed = entailed

-- the store allows the guard: it does not entail an else ask, or it entails a then ask
abbrev pub allows_named : StoreMap → NamedGuard → Bool
allows_named v g = allowed g.negative (named_entails v g.ask)

-- the store runs the leaf: it allows each guard above it
abbrev pub runs_named : StoreMap → NamedLeaf → Bool
runs_named v l = list_all (allows_named v) l.path

-- the store reaches the occurrence: it allows each guard above it
abbrev pub reaches_named : StoreMap → Occurrence NamedGuard → Bool
reaches_named v o = list_all (allows_named v) o.path

-- the guard is an else, which v does not entail, or a then
abbrev pub named_free : StoreMap → NamedGuard → Bool
named_free v g = cond g.negative (not (named_entails v g.ask)) true

-- the guard is a then, which u entails, or an else
abbrev pub named_asked : StoreMap → NamedGuard → Bool
named_asked u g = cond g.negative true (named_entails u g.ask)

-- the leaf rests under (u, v): where v entails no else ask above it, u entails what it tells if u entails each then ask above it, and so does v
abbrev pub named_leaf_rests : StoreMap → StoreMap → NamedLeaf → Bool
named_leaf_rests u v l =
    list_all (named_free v) l.path
    ⇒ ((list_all (named_asked u) l.path ⇒ named_entails u (told_by l.kind)) && (list_all (named_asked v) l.path ⇒ named_entails v (told_by l.kind)))

abbrev pub leaves_rest : List NamedLeaf → StoreMap → StoreMap → Bool
leaves_rest ls u v = list_all (named_leaf_rests u v) ls

-- the store after each of the tokens is told
abbrev pub tell_named : List Named → StoreMap → StoreMap
tell_named [] u = u
tell_named (x ∷ named) u = tell_named named (after_tell u x.name x.cell x.token)

-- the names that a leaf speaks of
abbrev pub names_of : NamedLeaf → List CellName
names_of l = map (λ x. x.name) (told_by l.kind ++ flat_map (λ g. g.ask) l.path)
