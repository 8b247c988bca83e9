-- Stores rest for the leaves of a net where they rest for the leaves of its roots.
use Rattle.std.proofs.Common.{◌≡◌, ℕ, suc, ◌+◌, Bool, ◌&&◌, not, List, [], ◌∷◌, ◌++◌, map, refl, sym, ap, ◌∙◌, subst}
use Rattle.std.specs.Prelude.{Option}
use Rattle.std.specs.List.{list_all}
use Rattle.token_system.specs.Stores.{StoreMap, store_entails}
use Rattle.agent_core.specs.declared.node.CellDecl.{CellDecl}
use Rattle.agent_core.specs.declared.node.Closure.{Closure}
use Rattle.agent_core.specs.Agents.{Agent, Constraint, Skip, Tell, Then, Else, Par, New, Hence, Next, agent_at}
use Rattle.agent_core.specs.Programs.{CoreProgram}
use Rattle.agent_core.specs.WellFormed.{IsWellFormed}
use Rattle.agent_core.specs.Listing.{size}
use Rattle.agent_core.specs.Names.{IsClosure, name_of}
use Rattle.agent_core.specs.Scope.{ConstraintFits, AgentFits}
use Rattle.agent_core.specs.Rests as rests
use Rattle.agent_core.specs.Strata.{Each}
use Rattle.agent_core.specs.Leaves as core
use Rattle.agent_core.proofs.Scopes.{closure_fits}
use Rattle.agent_laws.specs.LeafRests as core_rests
use Rattle.agent_laws.specs.LeafRests.{path_rests}
use Rattle.agent_laws.specs.Laws.{AreClosures}
use Rattle.agent_laws.proofs.Eachs.{Each-append, all_each}
use Rattle.agent_laws.proofs.Instance.{GuardFits}
use Rattle.instant_net.specs.NamedLeaves.{Named, NamedGuard, NamedLeaf, told_by, named_holds, named_entails, named_free, named_asked, named_leaf_rests, leaves_rest}
use Rattle.instant_net.specs.Nets.{Flat, net_leaves}
use Rattle.instant_net.specs.Opened.{IsNetOf}
use Rattle.instant_net.specs.Programs.{token_named, constraint_named, guard_named, kind_named, leaf_named}

-- what a leaf names fits
abbrev pub LeafFits : CoreProgram → core.Leaf → Type 0
LeafFits p l = ConstraintFits p l.births (core.tells l.agent) × Each (GuardFits p) l.path

leaves-fit : (p : CoreProgram) (t : ℕ) (a : Agent) (n : ℕ) (b : List ℕ) (path : List core.Guard) → AgentFits p t a b → Each (GuardFits p) path → Each (LeafFits p) (core.leaves_of t a n b path)
leaves-fit p t Skip n b path f g = ((tt, g), tt)
leaves-fit p t (Tell c) n b path f g = ((f, g), tt)
leaves-fit p t (Hence a) n b path f g = ((tt, g), tt)
leaves-fit p t (Next a) n b path f g = ((tt, g), tt)
leaves-fit p t (Par l r) n b path f g =
    Each-append (LeafFits p) (core.leaves_of t l (suc n) b path) (core.leaves_of t r (suc n + size l) b path) (leaves-fit p t l (suc n) b path f.0 g) (leaves-fit p t r (suc n + size l) b path f.1 g)
leaves-fit p t (Then c a) n b path f g = leaves-fit p t a (suc n) b (path ++ core.Positive b c ∷ []) f.1 (Each-append (GuardFits p) path (core.Positive b c ∷ []) g (f.0, tt))
leaves-fit p t (Else c a) n b path f g = leaves-fit p t a (suc n) b (path ++ core.Negative b c ∷ []) f.1 (Each-append (GuardFits p) path (core.Negative b c ∷ []) g (f.0, tt))
leaves-fit p t (New cell a) n b path f g = leaves-fit p t a (suc n) (b ++ t ∷ []) path f g

pub roots-fit : (p : CoreProgram) → IsWellFormed p → (rs : List Closure) → AreClosures p rs → (t : ℕ) → Each (LeafFits p) (core.leaves p rs t)
roots-fit p is rs own t = go rs (all_each (λ r. IsClosure p r.node r.births) rs own)
  where
    go : (rs : List Closure) → Each (λ r. IsClosure p r.node r.births) rs → Each (LeafFits p) (core.leaves p rs t)
    go [] h = tt
    go (r ∷ rs) h =
        Each-append (LeafFits p) (core.leaves_of t (agent_at p.nodes r.node) r.node r.births []) (core.leaves p rs t)
        (leaves-fit p t (agent_at p.nodes r.node) r.node r.births [] (closure_fits p is r.node r.births h.0 t) tt) (go rs h.1)

module _ (p : CoreProgram) where
  pub entails-named : (b : List ℕ) (c : Constraint) (u : StoreMap) → ConstraintFits p b c → named_entails u (constraint_named p b c) ≡ rests.entails p b u c
  entails-named b [] u f = refl
  entails-named b (x ∷ c) u f =
      let d : CellDecl = f.0.decl in
      subst (λ (o : Option CellDecl). list_all (named_holds u) (token_named p b x.0 x.1 o ++ constraint_named p b c) ≡ (rests.holds_at o p b u x.0 x.1 && rests.entails p b u c)) (sym f.0.found)
      (ap (λ (r : Bool). store_entails u (name_of p b x.0) d.cell x.1 && r) (entails-named b c u f.1))

  free-named : (v : StoreMap) (path : List core.Guard) → Each (GuardFits p) path → list_all (named_free v) (map (guard_named p) path) ≡ list_all (core_rests.free p v) path
  free-named v [] f = refl
  free-named v (core.Positive b c ∷ path) f = free-named v path f.1
  free-named v (core.Negative b c ∷ path) f =
      ap (λ (r : Bool). not r && list_all (named_free v) (map (guard_named p) path)) (entails-named b c v f.0)
      ∙ ap (λ (r : Bool). not (rests.entails p b v c) && r) (free-named v path f.1)

  asked-named : (u : StoreMap) (path : List core.Guard) → Each (GuardFits p) path → list_all (named_asked u) (map (guard_named p) path) ≡ list_all (core_rests.asked p u) path
  asked-named u [] f = refl
  asked-named u (core.Positive b c ∷ path) f =
      ap (λ (r : Bool). r && list_all (named_asked u) (map (guard_named p) path)) (entails-named b c u f.0)
      ∙ ap (λ (r : Bool). rests.entails p b u c && r) (asked-named u path f.1)
  asked-named u (core.Negative b c ∷ path) f = asked-named u path f.1

  told-named : (n : ℕ) (b : List ℕ) (a : Agent) (u : StoreMap) → ConstraintFits p b (core.tells a) → named_entails u (told_by (kind_named p n b a)) ≡ rests.entails p b u (core.tells a)
  told-named n b (Tell c) u f = entails-named b c u f
  told-named n b Skip u f = refl
  told-named n b (Then c a) u f = refl
  told-named n b (Else c a) u f = refl
  told-named n b (Par l r) u f = refl
  told-named n b (New cell a) u f = refl
  told-named n b (Hence a) u f = refl
  told-named n b (Next a) u f = refl

  leaf-named : (u v : StoreMap) (l : core.Leaf) → LeafFits p l → named_leaf_rests u v (leaf_named p l) ≡ core_rests.leaf_rests p u v l
  leaf-named u v l f =
      let path : List NamedGuard = map (guard_named p) l.path in
      let told : List Named = told_by (kind_named p l.node l.births l.agent) in
      ap (λ (x : Bool). path_rests x (list_all (named_asked u) path) (list_all (named_asked v) path) (named_entails u told) (named_entails v told)) (free-named v l.path f.1)
      ∙ ap (λ (x : Bool). path_rests (list_all (core_rests.free p v) l.path) x (list_all (named_asked v) path) (named_entails u told) (named_entails v told)) (asked-named u l.path f.1)
      ∙ ap (λ (x : Bool). path_rests (list_all (core_rests.free p v) l.path) (list_all (core_rests.asked p u) l.path) x (named_entails u told) (named_entails v told)) (asked-named v l.path f.1)
      ∙ ap (λ (x : Bool). path_rests (list_all (core_rests.free p v) l.path) (list_all (core_rests.asked p u) l.path) (list_all (core_rests.asked p v) l.path) x (named_entails v told)) (told-named l.node l.births l.agent u f.0)
      ∙ ap (λ (x : Bool). path_rests (list_all (core_rests.free p v) l.path) (list_all (core_rests.asked p u) l.path) (list_all (core_rests.asked p v) l.path) (rests.entails p l.births u (core.tells l.agent)) x) (told-named l.node l.births l.agent v f.0)

  leaves-named : (u v : StoreMap) (ls : List core.Leaf) → Each (LeafFits p) ls → leaves_rest (map (leaf_named p) ls) u v ≡ list_all (core_rests.leaf_rests p u v) ls
  leaves-named u v [] f = refl
  leaves-named u v (l ∷ ls) f =
      ap (λ (x : Bool). x && leaves_rest (map (leaf_named p) ls) u v) (leaf-named u v l f.0)
      ∙ ap (λ (x : Bool). core_rests.leaf_rests p u v l && x) (leaves-named u v ls f.1)

  pub net-rests : (table : List ℕ) (rs : List Closure) (t : ℕ) (net : Flat) → IsNetOf p table rs t net → (u v : StoreMap) → leaves_rest (net_leaves net) u v ≡ list_all (core_rests.leaf_rests p u v) (core.leaves p rs t)
  net-rests table rs t net is u v = ap (λ (ls : List NamedLeaf). leaves_rest ls u v) is.leaves ∙ leaves-named u v (core.leaves p rs t) (roots-fit p is.program rs is.roots t)
