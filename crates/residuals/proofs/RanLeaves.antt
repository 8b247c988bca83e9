-- A store allows the guards of a net, and runs its leaves, as it does those of the roots.
use Rattle.std.proofs.Common.{◌≡◌, ℕ, Bool, ◌&&◌, not, List, [], ◌∷◌, length, map, sym, ap, ◌∙◌, refl}
use Rattle.std.specs.Prelude.{filter}
use Rattle.std.specs.List.{list_all}
use Rattle.token_system.specs.Stores.{StoreMap}
use Rattle.agent_core.specs.declared.node.Closure.{Closure}
use Rattle.agent_core.specs.Programs.{CoreProgram}
use Rattle.agent_core.specs.Strata.{Each}
use Rattle.agent_core.specs.Leaves as core
use Rattle.agent_laws.proofs.Eachs.{Each-map}
use Rattle.agent_laws.proofs.Instance.{GuardFits}
use Rattle.instant_net.specs.declared.parts.NetLeaf.{NetLeaf}
use Rattle.instant_net.specs.NamedLeaves.{NamedLeaf, allows_named, runs_named}
use Rattle.instant_net.specs.Nets.{Flat, named_leaf}
use Rattle.instant_net.specs.Opened.{IsNetOf}
use Rattle.instant_net.specs.Programs.{guard_named, leaf_named}
use Rattle.instant_net.proofs.NetRests.{LeafFits, entails-named, roots-fit}
use Rattle.residuals.proofs.Passing.{passed-map, passed-agree}

module _ (p : CoreProgram) (w : StoreMap) where
  allows-named : (g : core.Guard) → GuardFits p g → allows_named w (guard_named p g) ≡ core.allows p w g
  allows-named (core.Positive b c) f = entails-named p b c w f
  allows-named (core.Negative b c) f = ap not (entails-named p b c w f)

  pub path-named : (path : List core.Guard) → Each (GuardFits p) path → list_all (allows_named w) (map (guard_named p) path) ≡ list_all (core.allows p w) path
  path-named [] f = refl
  path-named (g ∷ path) f =
      ap (λ (r : Bool). r && list_all (allows_named w) (map (guard_named p) path)) (allows-named g f.0) ∙ ap (λ (r : Bool). core.allows p w g && r) (path-named path f.1)

-- of the leaves of a net as many run as of those of its roots
pub net-ran : (p : CoreProgram) (table : List ℕ) (rs : List Closure) (t : ℕ) (net : Flat) → IsNetOf p table rs t net → (w : StoreMap)
    → length (filter (λ (l : NetLeaf). runs_named w (named_leaf net l)) net.leaves) ≡ core.ran p rs t w
net-ran p table rs t net is w =
    sym (passed-map (named_leaf net) (runs_named w) net.leaves)
    ∙ ap (λ (ls : List NamedLeaf). length (filter (runs_named w) ls)) is.leaves
    ∙ passed-map (leaf_named p) (runs_named w) (core.leaves p rs t)
    ∙ passed-agree (λ (l : core.Leaf). runs_named w (leaf_named p l)) (core.runs p w) (core.leaves p rs t)
    (Each-map (LeafFits p) (λ (l : core.Leaf). runs_named w (leaf_named p l) ≡ core.runs p w l) (λ l f. path-named p w l.path f.1) (core.leaves p rs t) (roots-fit p is.program rs is.roots t))
