-- All guards and leaves of an instant's roots can be numbered in 32 bits.
use Rattle.std.proofs.Common.{◌≡◌, ℕ, zero, suc, ◌+◌, ◌*◌, ◌<◌, ◌≤◌, List, [], ◌∷◌, ◌++◌, length, map, take, Some, refl, sym, ap, ◌∙◌, subst, arith, length-append}
use Rattle.std.specs.Prelude.{Option, All, slice_get}
use Rattle.agent_core.specs.declared.node.Closure.{Closure}
use Rattle.agent_core.specs.declared.node.Node.{Node}
use Rattle.agent_core.specs.declared.node.Node.TheVariants as nodes
use Rattle.agent_core.specs.Agents.{Agent, Constraint, Skip, Tell, Then, Else, Par, New, Hence, Next, agent_at}
use Rattle.agent_core.specs.Programs.{CoreProgram}
use Rattle.agent_core.specs.WellFormed.{IsWellFormed}
use Rattle.agent_core.specs.Listing.{size}
use Rattle.agent_core.specs.Names.{IsClosure}
use Rattle.agent_core.specs.Strata.{Each}
use Rattle.agent_core.proofs.Places.{size-within}
use Rattle.agent_core.proofs.Scopes.{placed}
use Rattle.agent_laws.specs.Laws.{AreClosures}
use Rattle.agent_laws.proofs.Eachs.{Each-map, all_each}
use Rattle.instant_net.specs.declared.parts.NetCell.{NetCell}
use Rattle.instant_net.specs.declared.parts.NetGuard.{NetGuard}
use Rattle.instant_net.specs.declared.parts.NetLeaf.{NetLeaf}
use Rattle.instant_net.specs.Programs.{agent_leaf_count}
use Rattle.instant_net.specs.Links.{guard_count, links_of, AreLinkedAsRoots}
use Rattle.instant_net.specs.Walks.{HasRoomFor, Adds}
use Rattle.instant_net.proofs.Counts.{length-map, few_leaves}
use Rattle.instant_net.proofs.NodeLeaves.{agent-is}
use Rattle.instant_net.proofs.Linking.{guards_in, leaves_in, linked-guards, linked-leaves, root_guards-count, root_leaves-count}

-- NODES

guards-size : (a : Agent) → guard_count a ≤ size a
guards-size Skip = omega arith
guards-size (Tell c) = omega arith
guards-size (Then c a) = let h = guards-size a in omega arith
guards-size (Else c a) = let h = guards-size a in omega arith
guards-size (Par a b) = let h = guards-size a in let g = guards-size b in omega arith
guards-size (New cell a) = let h = guards-size a in omega arith
guards-size (Hence a) = omega arith
guards-size (Next a) = omega arith

few_guards : (p : CoreProgram) → IsWellFormed p → (n : ℕ) → n < length p.nodes → guard_count (agent_at p.nodes n) ≤ 4096
few_guards p is n lt =
    let at = placed p is n lt in
    let within = (size-within p.nodes n at.0 (agent_at p.nodes n) at.1.place).1 in
    let few = is.limits.few_nodes in
    let h = guards-size (agent_at p.nodes n) in
    omega arith

module _ (p : CoreProgram) (is : IsWellFormed p) (n : ℕ) (gs : List NetGuard) (ls : List NetLeaf) (room : HasRoomFor p n gs ls) where
  room-guard : (m : ℕ) (gs' : List NetGuard) (ls' : List NetLeaf) (g : NetGuard) → guard_count (agent_at p.nodes n) ≡ suc (guard_count (agent_at p.nodes m)) → agent_leaf_count (agent_at p.nodes n) ≡ agent_leaf_count (agent_at p.nodes m)
      → gs' ≡ gs ++ g ∷ [] → ls' ≡ ls → HasRoomFor p m gs' ls'
  room-guard m gs' ls' g e f eg el =
      let x : length gs' ≡ length gs + 1 = ap length eg ∙ length-append gs (g ∷ []) in
      let y : length ls' ≡ length ls = ap length el in
      let a = room.guards in
      let b = room.leaves in
      record { guards = omega arith; leaves = omega arith }

  pub room-then : (c : Constraint) (m : ℕ) → slice_get p.nodes n ≡ Some (nodes.Then c m) → (gs' : List NetGuard) (ls' : List NetLeaf) (g : NetGuard) → gs' ≡ gs ++ g ∷ [] → ls' ≡ ls → HasRoomFor p m gs' ls'
  room-then c m found gs' ls' g = room-guard m gs' ls' g (ap guard_count (agent-is p is n (nodes.Then c m) found)) (ap agent_leaf_count (agent-is p is n (nodes.Then c m) found))

  pub room-else : (c : Constraint) (m : ℕ) → slice_get p.nodes n ≡ Some (nodes.Else c m) → (gs' : List NetGuard) (ls' : List NetLeaf) (g : NetGuard) → gs' ≡ gs ++ g ∷ [] → ls' ≡ ls → HasRoomFor p m gs' ls'
  room-else c m found gs' ls' g = room-guard m gs' ls' g (ap guard_count (agent-is p is n (nodes.Else c m) found)) (ap agent_leaf_count (agent-is p is n (nodes.Else c m) found))

  pub room-new : (cell m : ℕ) → slice_get p.nodes n ≡ Some (nodes.New cell m) → HasRoomFor p m gs ls
  room-new cell m found = record {
    guards = subst (λ (k : ℕ). length gs + k < 4294967296) (ap guard_count (agent-is p is n (nodes.New cell m) found)) room.guards;
    leaves = subst (λ (k : ℕ). length ls + k < 4294967296) (ap agent_leaf_count (agent-is p is n (nodes.New cell m) found)) room.leaves;
  }

  module _ (l r : ℕ) (found : slice_get p.nodes n ≡ Some (nodes.Par l r)) where
    guards : guard_count (agent_at p.nodes n) ≡ guard_count (agent_at p.nodes l) + guard_count (agent_at p.nodes r)
    guards = ap guard_count (agent-is p is n (nodes.Par l r) found)

    leaves : agent_leaf_count (agent_at p.nodes n) ≡ agent_leaf_count (agent_at p.nodes l) + agent_leaf_count (agent_at p.nodes r)
    leaves = ap agent_leaf_count (agent-is p is n (nodes.Par l r) found)

    pub room-left : HasRoomFor p l gs ls
    room-left = let a = room.guards in let b = room.leaves in let x = guards in let y = leaves in record { guards = omega arith; leaves = omega arith }

    pub room-right : (cells : List NetCell) (t : ℕ) (b : List ℕ) (last : Option ℕ) (gs' : List NetGuard) (ls' : List NetLeaf) → Adds p cells t l b last gs gs' ls ls' → HasRoomFor p r gs' ls'
    room-right cells t b last gs' ls' h =
        let u = room.guards in
        let v = room.leaves in
        let x = guards in
        let y = leaves in
        let wide : length gs' ≡ length gs + length h.more_guards = ap length h.guards_are ∙ length-append gs h.more_guards in
        let long : length ls' ≡ length ls + length h.more_leaves = ap length h.leaves_are ∙ length-append ls h.more_leaves in
        let d = linked-guards h.linked in
        let e = linked-leaves h.linked in
        record { guards = omega arith; leaves = omega arith }

  -- what was added has numbers
  pub room-filled : (cells : List NetCell) (t : ℕ) (b : List ℕ) (last : Option ℕ) (gs' : List NetGuard) (ls' : List NetLeaf) → Adds p cells t n b last gs gs' ls ls' → length ls' < 4294967296
  room-filled cells t b last gs' ls' h =
      let v = room.leaves in
      let long : length ls' ≡ length ls + length h.more_leaves = ap length h.leaves_are ∙ length-append ls h.more_leaves in
      let e = linked-leaves h.linked in
      omega arith

-- ROOTS

module _ (p : CoreProgram) (is : IsWellFormed p) where
  abbrev Inside : Closure → Type 0
  Inside r = r.node < length p.nodes

  few_taken : (rs : List Closure) (i : ℕ) → Each Inside rs → guards_in p (take i rs) ≤ 4096 * i
  few_taken rs zero h = omega arith
  few_taken [] (suc i) h = omega arith
  few_taken (r ∷ rs) (suc i) h = let x = few_guards p is r.node h.0 in let y = few_taken rs i h.1 in omega arith

  few_taken_leaves : (rs : List Closure) (i : ℕ) → Each Inside rs → leaves_in p (take i rs) ≤ 4096 * i
  few_taken_leaves rs zero h = omega arith
  few_taken_leaves [] (suc i) h = omega arith
  few_taken_leaves (r ∷ rs) (suc i) h = let x = few_leaves p is r.node h.0 in let y = few_taken_leaves rs i h.1 in omega arith

  few_in : (rs : List Closure) → Each Inside rs → guards_in p rs ≤ 4096 * length rs
  few_in [] h = omega arith
  few_in (r ∷ rs) h = let x = few_guards p is r.node h.0 in let y = few_in rs h.1 in omega arith

  insides : (rs : List Closure) → AreClosures p rs → Each Inside rs
  insides rs own = Each-map (λ r. IsClosure p r.node r.births) Inside (λ r h. h.node) rs (all_each (λ r. IsClosure p r.node r.births) rs own)

  pub room-root : (rs : List Closure) (i n : ℕ) (gs : List NetGuard) (ls : List NetLeaf) → AreClosures p rs → length rs ≤ 131072 → i < length rs → n < length p.nodes → AreLinkedAsRoots p (take i rs) gs ls → HasRoomFor p n gs ls
  room-root rs i n gs ls own few lt inside h =
      let wide : length gs ≡ guards_in p (take i rs) = sym (length-map links_of gs) ∙ ap length h.guards_are ∙ root_guards-count p (take i rs) 0 0 in
      let long : length ls ≡ leaves_in p (take i rs) = sym (length-map (λ (x : NetLeaf). x.last) ls) ∙ ap length h.leaves_are ∙ root_leaves-count p (take i rs) 0 in
      let a = few_taken rs i (insides rs own) in
      let b = few_taken_leaves rs i (insides rs own) in
      let c = few_guards p is n inside in
      let d = few_leaves p is n inside in
      record { guards = omega arith; leaves = omega arith }

  pub guards-few : (rs : List Closure) (gs : List NetGuard) (ls : List NetLeaf) → AreClosures p rs → length rs ≤ 131072 → AreLinkedAsRoots p rs gs ls → length gs < 4294967296
  guards-few rs gs ls own few h =
      let wide : length gs ≡ guards_in p rs = sym (length-map links_of gs) ∙ ap length h.guards_are ∙ root_guards-count p rs 0 0 in
      let a = few_in rs (insides rs own) in
      omega arith
