-- Guards and leaves that a walk lists are linked as those of its nodes.
use Rattle.std.proofs.Common.{◌≡◌, ℕ, zero, suc, ◌+◌, List, [], ◌∷◌, ◌++◌, length, map, Some, None, refl, sym, ap, ◌∙◌, arith, length-append}
use Rattle.std.specs.Prelude.{Option}
use Rattle.std.proofs.lemmas.List.{append-nil, append_assoc, map-append}
use Rattle.agent_core.specs.declared.node.Closure.{Closure}
use Rattle.agent_core.specs.Agents.{Agent, Skip, Tell, Then, Else, Par, New, Hence, Next, agent_at}
use Rattle.agent_core.specs.Programs.{CoreProgram}
use Rattle.instant_net.specs.declared.parts.NetGuard.{NetGuard}
use Rattle.instant_net.specs.declared.parts.NetLeaf.{NetLeaf}
use Rattle.instant_net.specs.Programs.{agent_leaf_count}
use Rattle.instant_net.specs.Links.{guard_count, GuardLinks, guard_links, leaf_links, root_guard_links, root_leaf_links, links_of, AreLinked, AreLinkedAsRoots}
use Rattle.instant_net.proofs.Counts.{length-map}

pub guard_links-count : (a : Agent) (nearest : Option ℕ) (k l : ℕ) → length (guard_links a nearest k l) ≡ guard_count a
guard_links-count Skip nearest k l = refl
guard_links-count (Tell c) nearest k l = refl
guard_links-count (Hence a) nearest k l = refl
guard_links-count (Next a) nearest k l = refl
guard_links-count (Then c a) nearest k l = ap suc (guard_links-count a (Some k) (suc k) l)
guard_links-count (Else c a) nearest k l = ap suc (guard_links-count a (Some k) (suc k) l)
guard_links-count (Par a b) nearest k l =
    let x = guard_links-count a nearest k l in
    let y = guard_links-count b nearest (k + guard_count a) (l + agent_leaf_count a) in
    omega (arith, length-append (guard_links a nearest k l) (guard_links b nearest (k + guard_count a) (l + agent_leaf_count a)))
guard_links-count (New cell a) nearest k l = guard_links-count a nearest k l

pub leaf_links-count : (a : Agent) (nearest : Option ℕ) (k : ℕ) → length (leaf_links a nearest k) ≡ agent_leaf_count a
leaf_links-count Skip nearest k = refl
leaf_links-count (Tell c) nearest k = refl
leaf_links-count (Hence a) nearest k = refl
leaf_links-count (Next a) nearest k = refl
leaf_links-count (Then c a) nearest k = leaf_links-count a (Some k) (suc k)
leaf_links-count (Else c a) nearest k = leaf_links-count a (Some k) (suc k)
leaf_links-count (Par a b) nearest k =
    let x = leaf_links-count a nearest k in
    let y = leaf_links-count b nearest (k + guard_count a) in
    omega (arith, length-append (leaf_links a nearest k) (leaf_links b nearest (k + guard_count a)))
leaf_links-count (New cell a) nearest k = leaf_links-count a nearest k

pub linked-guards : {a : Agent} {nearest : Option ℕ} {k l : ℕ} {gs : List NetGuard} {ls : List NetLeaf} → AreLinked a nearest k l gs ls → length gs ≡ guard_count a
linked-guards {a} {nearest} {k} {l} {gs} h = sym (length-map links_of gs) ∙ ap length h.guards_are ∙ guard_links-count a nearest k l

pub linked-leaves : {a : Agent} {nearest : Option ℕ} {k l : ℕ} {gs : List NetGuard} {ls : List NetLeaf} → AreLinked a nearest k l gs ls → length ls ≡ agent_leaf_count a
linked-leaves {a} {nearest} {k} {l} {gs} {ls} h = sym (length-map (λ (x : NetLeaf). x.last) ls) ∙ ap length h.leaves_are ∙ leaf_links-count a nearest k

-- two parts, one after the other
pub linked-par : (a b : Agent) (nearest : Option ℕ) (k k' l l' : ℕ) (gs gs' : List NetGuard) (ls ls' : List NetLeaf) → k' ≡ k + length gs → l' ≡ l + length ls
    → AreLinked a nearest k l gs ls → AreLinked b nearest k' l' gs' ls' → AreLinked (Par a b) nearest k l (gs ++ gs') (ls ++ ls')
linked-par a b nearest k k' l l' gs gs' ls ls' ek el h h' =
    let fk : k' ≡ k + guard_count a = ek ∙ ap (λ (n : ℕ). k + n) (linked-guards h) in
    let fl : l' ≡ l + agent_leaf_count a = el ∙ ap (λ (n : ℕ). l + n) (linked-leaves h) in
    record {
      guards_are =
          map-append links_of gs gs' ∙ ap (λ xs. xs ++ map links_of gs') h.guards_are
          ∙ ap (λ xs. guard_links a nearest k l ++ xs) (h'.guards_are ∙ ap (λ (n : ℕ). guard_links b nearest n l') fk ∙ ap (guard_links b nearest (k + guard_count a)) fl);
      leaves_are =
          map-append (λ (x : NetLeaf). x.last) ls ls' ∙ ap (λ xs. xs ++ map (λ (x : NetLeaf). x.last) ls') h.leaves_are
          ∙ ap (λ xs. leaf_links a nearest k ++ xs) (h'.leaves_are ∙ ap (leaf_links b nearest) fk);
    }

-- ROOTS

-- how many guards and leaves roots have
abbrev pub guards_in : CoreProgram → List Closure → ℕ
guards_in p [] = 0
guards_in p (r ∷ rs) = guard_count (agent_at p.nodes r.node) + guards_in p rs

abbrev pub leaves_in : CoreProgram → List Closure → ℕ
leaves_in p [] = 0
leaves_in p (r ∷ rs) = agent_leaf_count (agent_at p.nodes r.node) + leaves_in p rs

module _ (p : CoreProgram) where
  abbrev tree : Closure → Agent
  tree r = agent_at p.nodes r.node

  pub root_guards-count : (rs : List Closure) (k l : ℕ) → length (root_guard_links p rs k l) ≡ guards_in p rs
  root_guards-count [] k l = refl
  root_guards-count (r ∷ rs) k l =
      let x = guard_links-count (tree r) None k l in
      let y = root_guards-count rs (k + guard_count (tree r)) (l + agent_leaf_count (tree r)) in
      omega (arith, length-append (guard_links (tree r) None k l) (root_guard_links p rs (k + guard_count (tree r)) (l + agent_leaf_count (tree r))))

  pub root_leaves-count : (rs : List Closure) (k : ℕ) → length (root_leaf_links p rs k) ≡ leaves_in p rs
  root_leaves-count [] k = refl
  root_leaves-count (r ∷ rs) k =
      let x = leaf_links-count (tree r) None k in
      let y = root_leaves-count rs (k + guard_count (tree r)) in
      omega (arith, length-append (leaf_links (tree r) None k) (root_leaf_links p rs (k + guard_count (tree r))))

  guards-more : (rs : List Closure) (r : Closure) (k l m n : ℕ) → m ≡ k + guards_in p rs → n ≡ l + leaves_in p rs
      → root_guard_links p (rs ++ r ∷ []) k l ≡ root_guard_links p rs k l ++ guard_links (tree r) None m n
  guards-more [] r k l m n e f =
      append-nil (guard_links (tree r) None k l)
      ∙ ap (λ (j : ℕ). guard_links (tree r) None j l) (let g : k ≡ m = omega arith in g) ∙ ap (guard_links (tree r) None m) (let g : l ≡ n = omega arith in g)
  guards-more (s ∷ rs) r k l m n e f =
      ap (λ xs. guard_links (tree s) None k l ++ xs) (guards-more rs r (k + guard_count (tree s)) (l + agent_leaf_count (tree s)) m n (omega arith) (omega arith))
      ∙ sym (append_assoc (guard_links (tree s) None k l) (root_guard_links p rs (k + guard_count (tree s)) (l + agent_leaf_count (tree s))) (guard_links (tree r) None m n))

  leaves-more : (rs : List Closure) (r : Closure) (k m : ℕ) → m ≡ k + guards_in p rs → root_leaf_links p (rs ++ r ∷ []) k ≡ root_leaf_links p rs k ++ leaf_links (tree r) None m
  leaves-more [] r k m e = append-nil (leaf_links (tree r) None k) ∙ ap (leaf_links (tree r) None) (let g : k ≡ m = omega arith in g)
  leaves-more (s ∷ rs) r k m e =
      ap (λ xs. leaf_links (tree s) None k ++ xs) (leaves-more rs r (k + guard_count (tree s)) m (omega arith))
      ∙ sym (append_assoc (leaf_links (tree s) None k) (root_leaf_links p rs (k + guard_count (tree s))) (leaf_links (tree r) None m))

  -- one more root
  pub linked-root : (rs : List Closure) (r : Closure) (gs gs' : List NetGuard) (ls ls' : List NetLeaf) → AreLinkedAsRoots p rs gs ls → AreLinked (tree r) None (length gs) (length ls) gs' ls'
      → AreLinkedAsRoots p (rs ++ r ∷ []) (gs ++ gs') (ls ++ ls')
  linked-root rs r gs gs' ls ls' h h' =
      let some : length gs ≡ guards_in p rs = sym (length-map links_of gs) ∙ ap length h.guards_are ∙ root_guards-count rs 0 0 in
      let wide : length gs ≡ 0 + guards_in p rs = omega arith in
      let many : length ls ≡ leaves_in p rs = sym (length-map (λ (x : NetLeaf). x.last) ls) ∙ ap length h.leaves_are ∙ root_leaves-count rs 0 in
      let long : length ls ≡ 0 + leaves_in p rs = omega arith in
      record {
        guards_are =
            map-append links_of gs gs' ∙ ap (λ xs. xs ++ map links_of gs') h.guards_are ∙ ap (λ xs. root_guard_links p rs 0 0 ++ xs) h'.guards_are
            ∙ sym (guards-more rs r 0 0 (length gs) (length ls) wide long);
        leaves_are =
            map-append (λ (x : NetLeaf). x.last) ls ls' ∙ ap (λ xs. xs ++ map (λ (x : NetLeaf). x.last) ls') h.leaves_are ∙ ap (λ xs. root_leaf_links p rs 0 ++ xs) h'.leaves_are
            ∙ sym (leaves-more rs r 0 (length gs) wide);
      }
