-- Guards and leaves after those of a node were added, by the kind of the node.
use Rattle.std.proofs.Common.{◌≡◌, ℕ, suc, ◌+◌, Bool, true, false, List, [], ◌∷◌, ◌++◌, length, map, set, get_or, take, Some, None, refl, sym, ap, ◌∙◌, subst, arith, length-append, inl, inr, ◌<◌}
use Rattle.std.specs.Prelude.{Option, All, slice_get, flat_map}
use Rattle.std.proofs.lemmas.List.{append-nil, append_assoc, map-append, take_more}
use Rattle.std.proofs.lemmas.Grind.{flat_map-append}
use Rattle.agent_core.specs.declared.node.Node.{Node}
use Rattle.agent_core.specs.declared.node.Node.TheVariants as nodes
use Rattle.agent_core.specs.declared.node.Closure.{Closure}
use Rattle.agent_core.specs.Agents.{Agent, Constraint, Skip, Tell, Hence, Next, agent_of, agent_at}
use Rattle.agent_core.specs.Programs.{CoreProgram}
use Rattle.agent_core.specs.WellFormed.{IsWellFormed}
use Rattle.agent_core.specs.Leaves as core
use Rattle.instant_net.specs.declared.parts.Atom.{Atom}
use Rattle.instant_net.specs.declared.parts.NetCell.{NetCell}
use Rattle.instant_net.specs.declared.parts.NetGuard.{NetGuard}
use Rattle.instant_net.specs.declared.parts.NetLeaf.{NetLeaf}
use Rattle.instant_net.specs.declared.parts.LeafKind.{LeafKind}
use Rattle.instant_net.specs.declared.parts.LeafKind.TheVariants as kinds
use Rattle.instant_net.specs.NamedLeaves.{NamedGuard, Kind, Tells, StartsHence, StartsNext, NamedLeaf}
use Rattle.instant_net.specs.Nets.{AtomFits, named_atoms, named_guard, named_kind, atoms_of}
use Rattle.agent_core.specs.Occurrences.{Occurrence, occurrence, occurrences_of}
use Rattle.instant_net.specs.Programs.{constraint_named, guard_named, kind_named, leaf_named, occurrence_named, root_leaves, root_occurrences, agent_leaf_count}
use Rattle.instant_net.specs.Walks.{AreAtomsOf, IsBegun, IsEnded, Grown, none, leaf, under, beside, Adds, AreListedFor}
use Rattle.instant_net.specs.Links.{guard_link, guard_links, leaf_links, links_of, AreLinked, AreLinkedAsRoots}
use Rattle.instant_net.proofs.Lists.{set-between, get-between}
use Rattle.instant_net.proofs.Linking.{linked-leaves, linked-par, linked-root}
use Rattle.instant_net.proofs.NodeLeaves.{below, agent-is, body-behind, then-below, else-below, new-below, par-below}
use Rattle.std.proofs.lemmas.List.Elements.{All-nil}

same-grown : {cells : List NetCell} {last last' : Option ℕ} {path path' : List NamedGuard} {k k' l l' : ℕ} {gs : List NetGuard} {ls : List NetLeaf} {os os' : List (Occurrence NamedGuard)} {out out' : List NamedLeaf}
    → last ≡ last' → path ≡ path' → k ≡ k' → l ≡ l' → os ≡ os' → out ≡ out' → Grown cells last path k l gs ls os out → Grown cells last' path' k' l' gs ls os' out'
same-grown {cells} {last} {last'} {path} {path'} {k} {k'} {l} {l'} {gs} {ls} {os} {os'} {out} {out'} a b c d e f h =
    subst (λ (x : List NamedLeaf). Grown cells last' path' k' l' gs ls os' x) f
    (subst (λ (x : List (Occurrence NamedGuard)). Grown cells last' path' k' l' gs ls x out) e
    (subst (λ (x : ℕ). Grown cells last' path' k' x gs ls os out) d
    (subst (λ (x : ℕ). Grown cells last' path' x l gs ls os out) c
    (subst (λ (x : List NamedGuard). Grown cells last' x k l gs ls os out) b
    (subst (λ (x : Option ℕ). Grown cells x path k l gs ls os out) a h)))))

length-more : {X : Type 0} (xs ys : List X) (x : X) → ys ≡ xs ++ x ∷ [] → length ys ≡ suc (length xs)
length-more xs ys x e = ap length e ∙ length-append xs (x ∷ []) ∙ (let g : length xs + 1 ≡ suc (length xs) = omega arith in g)

module _ (p : CoreProgram) (is : IsWellFormed p) (cells : List NetCell) (t n : ℕ) (b : List ℕ) (last : Option ℕ) where
  -- what is inside the node, by its kind
  inside : (node : Node) → slice_get p.nodes n ≡ Some node → (path : List core.Guard) → occurrences_of t (agent_at p.nodes n) b path ≡ occurrences_of t (agent_of (agent_at p.nodes) node) b path
  inside node found path = ap (λ (a : Agent). occurrences_of t a b path) (agent-is p is n node found)

  -- a node that is a leaf
  adds-leaf : (a : Agent) → agent_at p.nodes n ≡ a → ((path : List core.Guard) → core.leaves_of t a n b path ≡ core.leaf n a b path ∷ []) → ((path : List core.Guard) → occurrences_of t a b path ≡ []) → ((k l : ℕ) → guard_links a last k l ≡ []) → ((k : ℕ) → leaf_links a last k ≡ last ∷ [])
      → (kind : LeafKind) → named_kind cells kind ≡ kind_named p n b a → All (AtomFits cells) (atoms_of kind) → (gs gs' : List NetGuard) (ls ls' : List NetLeaf) → gs' ≡ gs → ls' ≡ ls ++ record { kind = kind; last = last } ∷ []
      → Adds p cells t n b last gs gs' ls ls'
  adds-leaf a is_leaf only quiet no_link one_link kind same fit gs gs' ls ls' eg el =
      let x : NetLeaf = record { kind = kind; last = last } in
      record {
        more_guards = [];
        more_leaves = x ∷ [];
        guards_are = eg ∙ sym (append-nil gs);
        leaves_are = el;
        grown = λ path.
            let way : List NamedGuard = map (guard_named p) path in
            let silent : [] ≡ map (occurrence_named p) (occurrences_of t (agent_at p.nodes n) b path) =
            ap (map (occurrence_named p)) (sym (quiet path)) ∙ ap (λ (y : Agent). map (occurrence_named p) (occurrences_of t y b path)) (sym is_leaf) in
            let own : record { kind = named_kind cells kind; path = way } ∷ [] ≡ map (leaf_named p) (below p is n t b path n) =
            ap (λ (y : Kind). record { kind = y; path = way } ∷ []) same ∙ ap (map (leaf_named p)) (sym (only path)) ∙ ap (λ (y : Agent). map (leaf_named p) (core.leaves_of t y n b path)) (sym is_leaf) in
            same-grown refl refl refl refl silent own (leaf way (length gs) (length ls) x fit);
        linked = subst (λ (y : Agent). AreLinked y last (length gs) (length ls) [] (x ∷ [])) (sym is_leaf) (record { guards_are = sym (no_link (length gs) (length ls)); leaves_are = sym (one_link (length gs)) });
      }

  pub adds-skip : slice_get p.nodes n ≡ Some nodes.Skip → (gs gs' : List NetGuard) (ls ls' : List NetLeaf) → gs' ≡ gs → ls' ≡ ls ++ record { kind = kinds.Idle; last = last } ∷ [] → Adds p cells t n b last gs gs' ls ls'
  adds-skip found = adds-leaf Skip (agent-is p is n nodes.Skip found) (λ path. refl) (λ path. refl) (λ k l. refl) (λ k. refl) kinds.Idle refl (All-nil (AtomFits cells))

  pub adds-tell : (c : Constraint) (told : List Atom) → slice_get p.nodes n ≡ Some (nodes.Tell c) → AreAtomsOf p cells b c told
      → (gs gs' : List NetGuard) (ls ls' : List NetLeaf) → gs' ≡ gs → ls' ≡ ls ++ record { kind = kinds.Tells told; last = last } ∷ [] → Adds p cells t n b last gs gs' ls ls'
  adds-tell c told found are = adds-leaf (Tell c) (agent-is p is n (nodes.Tell c) found) (λ path. refl) (λ path. refl) (λ k l. refl) (λ k. refl) (kinds.Tells told) (ap Tells are.same) are.fit

  closure-is : (m : ℕ) (c : Closure) → m ≡ suc n → c.node ≡ m → c.births ≡ b → c ≡ record { node = suc n; births = b }
  closure-is m c e f g = ap (λ (k : ℕ). record { node = k; births = c.births }) (f ∙ e) ∙ ap (λ (bs : List ℕ). record { node = suc n; births = bs }) g

  pub adds-hence : (m : ℕ) (c : Closure) → slice_get p.nodes n ≡ Some (nodes.Hence m) → c.node ≡ m → c.births ≡ b
      → (gs gs' : List NetGuard) (ls ls' : List NetLeaf) → gs' ≡ gs → ls' ≡ ls ++ record { kind = kinds.StartsHence c; last = last } ∷ [] → Adds p cells t n b last gs gs' ls ls'
  adds-hence m c found f g =
      adds-leaf (Hence (agent_at p.nodes m)) (agent-is p is n (nodes.Hence m) found) (λ path. refl) (λ path. refl) (λ k l. refl) (λ k. refl)
      (kinds.StartsHence c) (ap StartsHence (closure-is m c (body-behind p is n (nodes.Hence m) m (inl refl) found) f g)) (All-nil (AtomFits cells))

  pub adds-next : (m : ℕ) (c : Closure) → slice_get p.nodes n ≡ Some (nodes.Next m) → c.node ≡ m → c.births ≡ b
      → (gs gs' : List NetGuard) (ls ls' : List NetLeaf) → gs' ≡ gs → ls' ≡ ls ++ record { kind = kinds.StartsNext c; last = last } ∷ [] → Adds p cells t n b last gs gs' ls ls'
  adds-next m c found f g =
      adds-leaf (Next (agent_at p.nodes m)) (agent-is p is n (nodes.Next m) found) (λ path. refl) (λ path. refl) (λ k l. refl) (λ k. refl)
      (kinds.StartsNext c) (ap StartsNext (closure-is m c (body-behind p is n (nodes.Next m) m (inr refl) found) f g)) (All-nil (AtomFits cells))

  pub adds-new : (cell m : ℕ) (inner : List ℕ) → slice_get p.nodes n ≡ Some (nodes.New cell m) → inner ≡ b ++ t ∷ [] → (gs gs' : List NetGuard) (ls ls' : List NetLeaf)
      → Adds p cells t m inner last gs gs' ls ls' → Adds p cells t n b last gs gs' ls ls'
  adds-new cell m inner found e gs gs' ls ls' h = record {
    more_guards = h.more_guards;
    more_leaves = h.more_leaves;
    guards_are = h.guards_are;
    leaves_are = h.leaves_are;
    grown = λ path.
        same-grown refl refl refl refl
        (ap (λ (bs : List ℕ). map (occurrence_named p) (occurrences_of t (agent_at p.nodes m) bs path)) e ∙ ap (map (occurrence_named p)) (sym (inside (nodes.New cell m) found path)))
        (ap (λ (bs : List ℕ). map (leaf_named p) (below p is n t bs path m)) e ∙ ap (map (leaf_named p)) (sym (new-below p is n t b path cell m found))) (h.grown path);
    linked =
        subst (λ (y : Agent). AreLinked y last (length gs) (length ls) h.more_guards h.more_leaves) (sym (agent-is p is n (nodes.New cell m) found))
        (record { guards_are = h.linked.guards_are; leaves_are = h.linked.leaves_are });
  }

  pub adds-par : (l r : ℕ) → slice_get p.nodes n ≡ Some (nodes.Par l r) → (gs gs' gs'' : List NetGuard) (ls ls' ls'' : List NetLeaf)
      → Adds p cells t l b last gs gs' ls ls' → Adds p cells t r b last gs' gs'' ls' ls'' → Adds p cells t n b last gs gs'' ls ls''
  adds-par l r found gs gs' gs'' ls ls' ls'' h h' = record {
    more_guards = h.more_guards ++ h'.more_guards;
    more_leaves = h.more_leaves ++ h'.more_leaves;
    guards_are = h'.guards_are ∙ ap (λ xs. xs ++ h'.more_guards) h.guards_are ∙ append_assoc gs h.more_guards h'.more_guards;
    leaves_are = h'.leaves_are ∙ ap (λ xs. xs ++ h'.more_leaves) h.leaves_are ∙ append_assoc ls h.more_leaves h'.more_leaves;
    grown = λ path.
        let first : List NamedLeaf = map (leaf_named p) (below p is n t b path l) in
        let second : List NamedLeaf = map (leaf_named p) (below p is n t b path r) in
        let asks : List (Occurrence core.Guard) = occurrences_of t (agent_at p.nodes l) b path in
        let more_asks : List (Occurrence core.Guard) = occurrences_of t (agent_at p.nodes r) b path in
        let way : List NamedGuard = map (guard_named p) path in
        same-grown refl refl refl refl (sym (map-append (occurrence_named p) asks more_asks) ∙ ap (map (occurrence_named p)) (sym (inside (nodes.Par l r) found path)))
        (sym (map-append (leaf_named p) (below p is n t b path l) (below p is n t b path r)) ∙ ap (map (leaf_named p)) (sym (par-below p is n t b path l r found)))
        (beside last way (length gs) (length ls) h.more_guards h.more_leaves (map (occurrence_named p) asks) first h'.more_guards h'.more_leaves (map (occurrence_named p) more_asks) second (h.grown path)
        (same-grown refl refl (ap length h.guards_are ∙ length-append gs h.more_guards) (ap length h.leaves_are ∙ length-append ls h.more_leaves) refl refl (h'.grown path)));
    linked =
        subst (λ (y : Agent). AreLinked y last (length gs) (length ls) (h.more_guards ++ h'.more_guards) (h.more_leaves ++ h'.more_leaves)) (sym (agent-is p is n (nodes.Par l r) found))
        (linked-par (agent_at p.nodes l) (agent_at p.nodes r) last (length gs) (length gs') (length ls) (length ls') h.more_guards h'.more_guards h.more_leaves h'.more_leaves
        (ap length h.guards_are ∙ length-append gs h.more_guards) (ap length h.leaves_are ∙ length-append ls h.more_leaves) h.linked h'.linked);
  }

  -- a guard, and what is below it
  adds-guard : (negative : Bool) (c : Constraint) (mk : core.Guard) → guard_named p mk ≡ record { negative = negative; ask = constraint_named p b c } → (m : ℕ) → ((path : List core.Guard) → below p is n t b path n ≡ below p is n t b (path ++ mk ∷ []) m)
      → ((path : List core.Guard) → occurrences_of t (agent_at p.nodes n) b path ≡ occurrence mk path ∷ occurrences_of t (agent_at p.nodes m) b (path ++ mk ∷ []))
      → ((k l : ℕ) → guard_links (agent_at p.nodes n) last k l ≡ guard_link last l (agent_leaf_count (agent_at p.nodes m)) ∷ guard_links (agent_at p.nodes m) (Some k) (suc k) l) → ((k : ℕ) → leaf_links (agent_at p.nodes n) last k ≡ leaf_links (agent_at p.nodes m) (Some k) (suc k))
      → (ask : List Atom) → AreAtomsOf p cells b c ask → (k : ℕ) (gs gs' gs'' gs''' : List NetGuard) (ls ls' ls'' ls''' : List NetLeaf) (g : NetGuard)
      → k ≡ length gs → gs' ≡ gs ++ g ∷ [] → IsBegun negative ask last (length ls) g → ls' ≡ ls → Adds p cells t m b (Some k) gs' gs'' ls' ls'' → IsEnded gs'' gs''' k (length ls'') → ls''' ≡ ls''
      → Adds p cells t n b last gs gs''' ls ls'''
  adds-guard negative c mk called m same within own_link leaf_link ask are k gs gs' gs'' gs''' ls ls' ls'' ls''' g ek eg begun el h ended el' =
      let whole : gs'' ≡ (gs ++ g ∷ []) ++ h.more_guards = h.guards_are ∙ ap (λ xs. xs ++ h.more_guards) eg in
      let at : slice_get gs'' k ≡ Some g = ap (λ xs. slice_get xs k) whole ∙ ap (slice_get ((gs ++ g ∷ []) ++ h.more_guards)) ek ∙ get-between gs h.more_guards g in
      let one : ended.one ≡ g = let s = ended.stands in cc in
      let g' : NetGuard = record g { past = length ls'' } in
      let ask_is : named_atoms cells g.ask ≡ constraint_named p b c = ap (named_atoms cells) begun.ask_is ∙ are.same in
      let call : guard_named p mk ≡ named_guard cells g' =
      called ∙ ap (λ (s : Bool). record { negative = s; ask = constraint_named p b c }) (sym begun.negative_is) ∙ ap (λ xs. record { negative = g.negative; ask = xs }) (sym ask_is) in
      let leaves : ls'' ≡ ls ++ h.more_leaves = h.leaves_are ∙ ap (λ xs. xs ++ h.more_leaves) el in
      record {
        more_guards = g' ∷ h.more_guards;
        more_leaves = h.more_leaves;
        guards_are =
            ended.ended ∙ ap (λ (x : NetGuard). set gs'' k (record x { past = length ls'' })) one ∙ ap (λ xs. set xs k g') whole
            ∙ ap (λ (j : ℕ). set ((gs ++ g ∷ []) ++ h.more_guards) j g') ek ∙ set-between gs h.more_guards g g';
        leaves_are = el' ∙ leaves;
        grown = λ path.
            let way : List NamedGuard = map (guard_named p) path in
            let os : List (Occurrence NamedGuard) = map (occurrence_named p) (occurrences_of t (agent_at p.nodes m) b (path ++ mk ∷ [])) in
            let out : List NamedLeaf = map (leaf_named p) (below p is n t b (path ++ mk ∷ []) m) in
            same-grown begun.above_is refl refl refl (ap (λ (x : NamedGuard). record { guard = x; path = way } ∷ os) (sym call) ∙ ap (map (occurrence_named p)) (sym (within path))) (ap (map (leaf_named p)) (sym (same path)))
            (under way (length gs) (length ls) g' h.more_guards h.more_leaves os out (subst (All (AtomFits cells)) (sym begun.ask_is) are.fit) begun.first_is (ap length leaves ∙ length-append ls h.more_leaves)
            (same-grown (ap Some ek) (map-append (guard_named p) path (mk ∷ []) ∙ ap (λ (x : NamedGuard). way ++ x ∷ []) call) (length-more gs gs' g eg) (ap length el) refl refl (h.grown (path ++ mk ∷ []))));
        linked =
            let nearest : Some k ≡ Some (length gs) = ap Some ek in
            let place : length gs' ≡ suc (length gs) = length-more gs gs' g eg in
            let from : length ls' ≡ length ls = ap length el in
            let past : length ls'' ≡ length ls + agent_leaf_count (agent_at p.nodes m) = ap length leaves ∙ length-append ls h.more_leaves ∙ ap (λ (j : ℕ). length ls + j) (linked-leaves h.linked) in
            record {
              guards_are =
                  ap (λ (o : Option ℕ). record { above = o; first = g.first; past = length ls'' } ∷ map links_of h.more_guards) begun.above_is
                  ∙ ap (λ (j : ℕ). record { above = last; first = j; past = length ls'' } ∷ map links_of h.more_guards) begun.first_is
                  ∙ ap (λ (j : ℕ). record { above = last; first = length ls; past = j } ∷ map links_of h.more_guards) past
                  ∙ ap (λ xs. guard_link last (length ls) (agent_leaf_count (agent_at p.nodes m)) ∷ xs)
                  (h.linked.guards_are
                  ∙ ap (λ (o : Option ℕ). guard_links (agent_at p.nodes m) o (length gs') (length ls')) nearest
                  ∙ ap (λ (j : ℕ). guard_links (agent_at p.nodes m) (Some (length gs)) j (length ls')) place
                  ∙ ap (guard_links (agent_at p.nodes m) (Some (length gs)) (suc (length gs))) from)
                  ∙ sym (own_link (length gs) (length ls));
              leaves_are =
                  h.linked.leaves_are
                  ∙ ap (λ (o : Option ℕ). leaf_links (agent_at p.nodes m) o (length gs')) nearest
                  ∙ ap (leaf_links (agent_at p.nodes m) (Some (length gs))) place
                  ∙ sym (leaf_link (length gs));
            };
      }

  pub adds-then : (c : Constraint) (m : ℕ) → slice_get p.nodes n ≡ Some (nodes.Then c m) → (ask : List Atom) → AreAtomsOf p cells b c ask
      → (k : ℕ) (gs gs' gs'' gs''' : List NetGuard) (ls ls' ls'' ls''' : List NetLeaf) (g : NetGuard)
      → k ≡ length gs → gs' ≡ gs ++ g ∷ [] → IsBegun false ask last (length ls) g → ls' ≡ ls → Adds p cells t m b (Some k) gs' gs'' ls' ls'' → IsEnded gs'' gs''' k (length ls'') → ls''' ≡ ls''
      → Adds p cells t n b last gs gs''' ls ls'''
  adds-then c m found = adds-guard false c (core.Positive b c) refl m (λ path. then-below p is n t b path c m found) (inside (nodes.Then c m) found)
      (λ k l. ap (λ (a : Agent). guard_links a last k l) (agent-is p is n (nodes.Then c m) found)) (λ k. ap (λ (a : Agent). leaf_links a last k) (agent-is p is n (nodes.Then c m) found))

  pub adds-else : (c : Constraint) (m : ℕ) → slice_get p.nodes n ≡ Some (nodes.Else c m) → (ask : List Atom) → AreAtomsOf p cells b c ask
      → (k : ℕ) (gs gs' gs'' gs''' : List NetGuard) (ls ls' ls'' ls''' : List NetLeaf) (g : NetGuard)
      → k ≡ length gs → gs' ≡ gs ++ g ∷ [] → IsBegun true ask last (length ls) g → ls' ≡ ls → Adds p cells t m b (Some k) gs' gs'' ls' ls'' → IsEnded gs'' gs''' k (length ls'') → ls''' ≡ ls''
      → Adds p cells t n b last gs gs''' ls ls'''
  adds-else c m found = adds-guard true c (core.Negative b c) refl m (λ path. else-below p is n t b path c m found) (inside (nodes.Else c m) found)
      (λ k l. ap (λ (a : Agent). guard_links a last k l) (agent-is p is n (nodes.Else c m) found)) (λ k. ap (λ (a : Agent). leaf_links a last k) (agent-is p is n (nodes.Else c m) found))

-- ROOTS

-- what is made of one more element, element by element
flat-more : {X Y Z : Type 0} (f : X → List Y) (g : Y → Z) (xs : List X) (x : X) → map g (flat_map f (xs ++ x ∷ [])) ≡ map g (flat_map f xs) ++ map g (f x)
flat-more f g xs x = ap (map g) (flat_map-append f xs (x ∷ []) ∙ ap (λ ys. flat_map f xs ++ ys) (append-nil (f x))) ∙ map-append g (flat_map f xs) (f x)

module _ (p : CoreProgram) (cells : List NetCell) (t : ℕ) (roots : List Closure) where
  pub roots-none : (gs : List NetGuard) (ls : List NetLeaf) → gs ≡ [] → ls ≡ [] → AreListedFor p cells t (take 0 roots) gs ls
  roots-none gs ls eg el =
      subst (λ xs. AreListedFor p cells t [] xs ls) (sym eg)
      (subst (λ ys. AreListedFor p cells t [] [] ys) (sym el) (record { grown = none None [] 0 0; linked = record { guards_are = refl; leaves_are = refl } }))

  -- what a root has under these births
  abbrev leaves_in : Closure → List ℕ → List core.Leaf
  leaves_in r b = core.leaves_of t (agent_at p.nodes r.node) r.node b []

  abbrev asks_in : Closure → List ℕ → List (Occurrence core.Guard)
  asks_in r b = occurrences_of t (agent_at p.nodes r.node) b []

  pub roots-next : (i : ℕ) (r : Closure) (b : List ℕ) (gs gs' : List NetGuard) (ls ls' : List NetLeaf) → i < length roots → r ≡ get_or roots i r → b ≡ r.births
      → AreListedFor p cells t (take i roots) gs ls → Adds p cells t r.node b None gs gs' ls ls' → AreListedFor p cells t (take (i + 1) roots) gs' ls'
  roots-next i r b gs gs' ls ls' lt is eb h h' =
      let taken : take i roots ++ r ∷ [] ≡ take (i + 1) roots = ap (λ (x : Closure). take i roots ++ x ∷ []) is ∙ sym (take_more roots i r lt) in
      let own : List NamedLeaf = map (leaf_named p) (leaves_in r b) in
      let out : root_leaves p (take i roots) t ++ own ≡ root_leaves p (take (i + 1) roots) t =
      ap (λ (bs : List ℕ). root_leaves p (take i roots) t ++ map (leaf_named p) (leaves_in r bs)) eb
      ∙ sym (flat-more (λ (x : Closure). leaves_in x x.births) (leaf_named p) (take i roots) r) ∙ ap (λ rs. root_leaves p rs t) taken in
      let asked : List (Occurrence NamedGuard) = map (occurrence_named p) (asks_in r b) in
      let os : root_occurrences p (take i roots) t ++ asked ≡ root_occurrences p (take (i + 1) roots) t =
      ap (λ (bs : List ℕ). root_occurrences p (take i roots) t ++ map (occurrence_named p) (asks_in r bs)) eb
      ∙ sym (flat-more (λ (x : Closure). asks_in x x.births) (occurrence_named p) (take i roots) r) ∙ ap (λ rs. root_occurrences p rs t) taken in
      subst (λ xs. AreListedFor p cells t (take (i + 1) roots) xs ls') (sym h'.guards_are)
      (subst (λ ys. AreListedFor p cells t (take (i + 1) roots) (gs ++ h'.more_guards) ys) (sym h'.leaves_are)
      (record {
        grown =
            same-grown refl refl refl refl os out
            (beside None [] 0 0 gs ls (root_occurrences p (take i roots) t) (root_leaves p (take i roots) t) h'.more_guards h'.more_leaves asked own h.grown
            (same-grown refl refl (let e : length gs ≡ 0 + length gs = omega arith in e) (let e : length ls ≡ 0 + length ls = omega arith in e) refl refl (h'.grown [])));
        linked =
            subst (λ rs. AreLinkedAsRoots p rs (gs ++ h'.more_guards) (ls ++ h'.more_leaves)) taken
            (linked-root p (take i roots) r gs h'.more_guards ls h'.more_leaves h.linked h'.linked);
      }))
