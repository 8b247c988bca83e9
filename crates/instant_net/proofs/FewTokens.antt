-- A leaf of a net tells as many tokens as a constraint has, at most.
use Rattle.std.proofs.Common.{◌≡◌, ℕ, zero, suc, ◌+◌, ◌≤◌, List, [], ◌∷◌, ◌++◌, length, map, Option, Some, None, refl, sym, ap, ◌∙◌, subst, arith, All}
use Rattle.std.specs.Prelude.{slice_get, option_map}
use Rattle.std.proofs.lemmas.Option.{slice_get-map}
use Rattle.agent_core.specs.declared.node.CellDecl.{CellDecl}
use Rattle.agent_core.specs.declared.node.Closure.{Closure}
use Rattle.agent_core.specs.Agents.{Agent, Constraint, Skip, Tell, Then, Else, Par, New, Hence, Next, agent_at}
use Rattle.agent_core.specs.Programs.{CoreProgram}
use Rattle.agent_core.specs.WellFormed.{IsWellFormed, Scoped}
use Rattle.agent_core.specs.Listing.{size}
use Rattle.agent_core.specs.Names.{IsClosure}
use Rattle.agent_core.specs.Strata.{Each}
use Rattle.agent_core.specs.Leaves as core
use Rattle.agent_core.proofs.Scopes.{placed}
use Rattle.agent_laws.specs.Laws.{AreClosures}
use Rattle.agent_laws.proofs.Eachs.{Each-append, all_each}
use Rattle.instant_net.specs.declared.parts.Atom.{Atom}
use Rattle.instant_net.specs.declared.parts.NetCell.{NetCell}
use Rattle.instant_net.specs.declared.parts.NetLeaf.{NetLeaf}
use Rattle.instant_net.specs.declared.parts.LeafKind.{LeafKind}
use Rattle.instant_net.specs.declared.parts.LeafKind.TheVariants as kinds
use Rattle.instant_net.specs.NamedLeaves.{NamedLeaf, told_by}
use Rattle.instant_net.specs.Nets.{Flat, AtomFits, atoms_of, named_at, named_atoms, named_kind, named_leaf, net_leaves}
use Rattle.instant_net.specs.Opened.{IsNet}
use Rattle.instant_net.specs.Programs.{token_named, constraint_named, kind_named, leaf_named}
use Rattle.instant_net.specs.Readers.{leaf_tells_of}
use Rattle.instant_net.proofs.NetParts.{tells_fit}

-- the leaf's constraint has few tokens
abbrev IsFew : core.Leaf → Type 0
IsFew l = length (core.tells l.agent) ≤ 16

agent-few : (p : CoreProgram) (t : ℕ) (locals : List ℕ) (a : Agent) (n : ℕ) (b : List ℕ) (path : List core.Guard) → Scoped p locals a → Each IsFew (core.leaves_of t a n b path)
agent-few p t locals Skip n b path h = (omega arith, tt)
agent-few p t locals (Tell c) n b path h = (h.few, tt)
agent-few p t locals (Hence a) n b path h = (omega arith, tt)
agent-few p t locals (Next a) n b path h = (omega arith, tt)
agent-few p t locals (Par l r) n b path h =
    Each-append IsFew (core.leaves_of t l (suc n) b path) (core.leaves_of t r (suc n + size l) b path) (agent-few p t locals l (suc n) b path h.0) (agent-few p t locals r (suc n + size l) b path h.1)
agent-few p t locals (Then c a) n b path h = agent-few p t locals a (suc n) b (path ++ core.Positive b c ∷ []) h.1
agent-few p t locals (Else c a) n b path h = agent-few p t locals a (suc n) b (path ++ core.Negative b c ∷ []) h.1
agent-few p t locals (New cell a) n b path h = agent-few p t (cell ∷ locals) a (suc n) (b ++ t ∷ []) path h

roots-few : (p : CoreProgram) → IsWellFormed p → (rs : List Closure) → AreClosures p rs → (t : ℕ) → Each IsFew (core.leaves p rs t)
roots-few p is rs own t = go rs (all_each (λ r. IsClosure p r.node r.births) rs own)
  where
    go : (rs : List Closure) → Each (λ r. IsClosure p r.node r.births) rs → Each IsFew (core.leaves p rs t)
    go [] h = tt
    go (r ∷ rs) h =
        let at = placed p is r.node h.0.node in
        Each-append IsFew (core.leaves_of t (agent_at p.nodes r.node) r.node r.births []) (core.leaves p rs t) (agent-few p t at.0 (agent_at p.nodes r.node) r.node r.births [] at.1.scoped) (go rs h.1)

-- each token has one name at most
one-named : (p : CoreProgram) (b : List ℕ) (c : Constraint) → length (constraint_named p b c) ≤ length c
one-named p b [] = omega arith
one-named p b (x ∷ c) =
    let rest = one-named p b c in
    go (slice_get p.cells x.0) rest
  where
    go : (o : Option CellDecl) → length (constraint_named p b c) ≤ length c → length (token_named p b x.0 x.1 o ++ constraint_named p b c) ≤ suc (length c)
    go None h = omega arith
    go (Some d) h = omega arith

told-few : (p : CoreProgram) (l : core.Leaf) → length (told_by (leaf_named p l).kind) ≤ length (core.tells l.agent)
told-few p l = go l.node l.births l.agent
  where
    go : (n : ℕ) (b : List ℕ) (a : Agent) → length (told_by (kind_named p n b a)) ≤ length (core.tells a)
    go n b (Tell c) = one-named p b c
    go n b Skip = omega arith
    go n b (Then c a) = omega arith
    go n b (Else c a) = omega arith
    go n b (Par l r) = omega arith
    go n b (New cell a) = omega arith
    go n b (Hence a) = omega arith
    go n b (Next a) = omega arith

-- each atom that fits has its name
all-named : (cells : List NetCell) (atoms : List Atom) → Each (AtomFits cells) atoms → length (named_atoms cells atoms) ≡ length atoms
all-named cells [] h = refl
all-named cells (a ∷ atoms) h = ap (λ o. length (named_at o a ++ named_atoms cells atoms)) h.0.1 ∙ ap suc (all-named cells atoms h.1)

same-told : (cells : List NetCell) (kind : LeafKind) → Each (AtomFits cells) (atoms_of kind) → length (told_by (named_kind cells kind)) ≡ length (atoms_of kind)
same-told cells (kinds.Tells told) h = all-named cells told h
same-told cells kinds.Idle h = refl
same-told cells (kinds.StartsHence c) h = refl
same-told cells (kinds.StartsNext c) h = refl

-- a leaf of the net is one of the roots'
leaf-few : (p : CoreProgram) (ls : List core.Leaf) (k : ℕ) (x : NamedLeaf) → Each IsFew ls → slice_get (map (leaf_named p) ls) k ≡ Some x → length (told_by x.kind) ≤ 16
leaf-few p [] k x few e = absurd (cc)
leaf-few p (l ∷ ls) zero x few e =
    let same : leaf_named p l ≡ x = cc in
    let told = told-few p l in
    let own = few.0 in
    subst (λ (y : NamedLeaf). length (told_by y.kind) ≤ 16) same (omega arith)
leaf-few p (l ∷ ls) (suc k) x few e = leaf-few p ls k x few.1 e

module _ (net : Flat) (is : IsNet net) where
  net-few : (k : ℕ) (l : NetLeaf) → slice_get net.leaves k ≡ Some l → length (atoms_of l.kind) ≤ 16
  net-few k l e =
      let here : slice_get (net_leaves net) k ≡ Some (named_leaf net l) = slice_get-map (named_leaf net) net.leaves k ∙ ap (option_map (named_leaf net)) e in
      let few = leaf-few is.program (core.leaves is.program is.roots net.instant) k (named_leaf net l) (roots-few is.program is.of.program is.roots is.of.roots net.instant) (ap (λ ls. slice_get ls k) (sym is.of.leaves) ∙ here) in
      let fits : All (AtomFits net.cells) (atoms_of l.kind) = subst (λ o. All (AtomFits net.cells) (leaf_tells_of o)) e (tells_fit net is k) in
      let same = same-told net.cells l.kind (all_each (AtomFits net.cells) (atoms_of l.kind) fits) in
      omega arith

  pub leaf-tells_few : (k : ℕ) → length (leaf_tells_of (slice_get net.leaves k)) ≤ 16
  leaf-tells_few k = go (slice_get net.leaves k) refl
    where
      go : (o : Option NetLeaf) → slice_get net.leaves k ≡ o → length (leaf_tells_of o) ≤ 16
      go None e = omega arith
      go (Some l) e = net-few k l e
