-- Names that are collected cover the constraints that they are collected from.
use Rattle.std.proofs.Common.{◌≡◌, ℕ, zero, suc, ◌+◌, ◌<◌, ◌≤◌, List, [], ◌∷◌, ◌++◌, length, take, get_or, Some, refl, sym, ap, ◌∙◌, subst, arith, ◌⊎◌, inl, inr}
use Rattle.std.specs.Prelude.{Contains, slice_get}
use Rattle.std.specs.BTreeSet.{insert_key}
use Rattle.std.specs.Ordering.{match_ordering}
use Rattle.std.specs.declared.cmp.Ordering.{Ordering}
use Rattle.std.specs.declared.cmp.Ordering.TheVariants.{Less, Equal, Greater}
use Rattle.std.proofs.lemmas.List.{take_all}
use Rattle.std.proofs.lemmas.List.Elements.{All-weaker, All-more, All-nil, All-cons, Contains-append_right}
use Rattle.std.proofs.lemmas.Option.{slice_get_within}
use Rattle.token_system.specs.declared.cell.Token.{Token}
use Rattle.token_system.specs.declared.name.CellName.{CellName}
use Rattle.token_system.specs.Names.{name_cmp, name_cmp-IsAntisymmetric}
use Rattle.agent_core.specs.declared.node.Closure.{Closure}
use Rattle.agent_core.specs.declared.node.Node.{Node}
use Rattle.agent_core.specs.declared.node.Node.TheVariants as nodes
use Rattle.agent_core.specs.Agents.{Agent, Constraint, Skip, Tell, Then, Else, Par, New, Hence, Next, agent_of, agent_at}
use Rattle.agent_core.specs.Programs.{CoreProgram}
use Rattle.agent_core.specs.WellFormed.{IsWellFormed}
use Rattle.agent_core.specs.Names.{IsClosure, name_of, depth_of}
use Rattle.agent_core.specs.Scope.{TokenFits, ConstraintFits, AgentFits}
use Rattle.agent_core.proofs.Scopes.{scoped_fits, AgentFits-under}
use Rattle.agent_laws.specs.Laws.{AreClosures}
use Rattle.instant_net.specs.declared.parts.NetCell.{NetCell}
use Rattle.instant_net.specs.Collecting.{cell_names, declared_names}
use Rattle.instant_net.specs.Covering.{TokenCovered, AskCovered, AgentCovered, RootsCovered, KeepsNames, CoversAsk, CoversNode}
use Rattle.instant_net.proofs.NodeLeaves.{agent-is}

-- A NAME THAT IS INSERTED

at-head : (x q : CellName) (xs : List CellName) → x ≡ q → Contains (x ∷ xs) q
at-head x q xs e = (0, omega arith, e)

in-tail : (x q : CellName) (xs : List CellName) → Contains xs q → Contains (x ∷ xs) q
in-tail x q xs (j, lt, e) = (suc j, omega arith, e)

module _ (k : CellName) where
  insert-keeps : (xs : List CellName) → KeepsNames xs (insert_key name_cmp xs k)
  insert-keeps [] q h = in-tail k q [] h
  insert-keeps (x ∷ xs) q h = go (name_cmp k x) (insert-keeps xs) h
    where
      go : (r : Ordering) → KeepsNames xs (insert_key name_cmp xs k) → Contains (x ∷ xs) q → Contains (match_ordering r (k ∷ x ∷ xs) (x ∷ xs) (x ∷ insert_key name_cmp xs k)) q
      go Less keeps h = in-tail k q (x ∷ xs) h
      go Equal keeps h = h
      go Greater keeps (zero, lt, e) = at-head x q (insert_key name_cmp xs k) e
      go Greater keeps (suc j, lt, e) = in-tail x q (insert_key name_cmp xs k) (keeps q (j, omega arith, e))

  insert-has : (xs : List CellName) → Contains (insert_key name_cmp xs k) k
  insert-has [] = at-head k k [] refl
  insert-has (x ∷ xs) = go (name_cmp k x) refl (insert-has xs)
    where
      go : (r : Ordering) → name_cmp k x ≡ r → Contains (insert_key name_cmp xs k) k → Contains (match_ordering r (k ∷ x ∷ xs) (x ∷ xs) (x ∷ insert_key name_cmp xs k)) k
      go Less e has = at-head k k (x ∷ xs) refl
      go Equal e has = at-head x k xs (sym (name_cmp-IsAntisymmetric k x e))
      go Greater e has = in-tail x k (insert_key name_cmp xs k) has

-- ONE CONSTRAINT

module _ (p : CoreProgram) (b : List ℕ) where
  ask-kept : (before after : List CellName) → KeepsNames before after → (ask : Constraint) → AskCovered p b before ask → AskCovered p b after ask
  ask-kept before after keeps ask h = All-weaker (TokenCovered p b before) (TokenCovered p b after) (λ x covered le. keeps (name_of p b x.0) (covered le)) ask h

  pub asks-none : (items : Constraint) (names : List CellName) → CoversAsk p b (take 0 items) names names
  asks-none items names = record { keeps = λ q h. h; covers = All-nil (TokenCovered p b names) }

  -- a declared cell needs no name
  pub asks-declared : (items : Constraint) (i : ℕ) (x : ℕ × Token) (before after : List CellName) → i < length items → (get_or items i x).0 < p.declared → CoversAsk p b (take i items) before after → CoversAsk p b (take (i + 1) items) before after
  asks-declared items i x before after lt few h = record { keeps = h.keeps; covers = All-more (TokenCovered p b after) items i x lt h.covers (λ le. absurd (omega arith)) }

  -- one more name of the constraint is inserted
  pub asks-local : (items : Constraint) (i : ℕ) (x : ℕ × Token) (before mid after : List CellName) (n : CellName) → i < length items → n ≡ name_of p b (get_or items i x).0 → after ≡ insert_key name_cmp mid n
      → CoversAsk p b (take i items) before mid → CoversAsk p b (take (i + 1) items) before after
  asks-local items i x before mid after n lt is e h =
      let grown : List CellName = insert_key name_cmp mid n in
      subst (CoversAsk p b (take (i + 1) items) before) (sym e) (record {
        keeps = λ q had. insert-keeps n mid q (h.keeps q had);
        covers =
            All-more (TokenCovered p b grown) items i x lt (ask-kept mid grown (insert-keeps n mid) (take i items) h.covers)
            (λ le. subst (Contains grown) is (insert-has n mid));
      })

  pub asks-all : (items ask : Constraint) (i : ℕ) (before after : List CellName) → length items ≤ i → items ≡ ask → CoversAsk p b (take i items) before after → CoversAsk p b ask before after
  asks-all items ask i before after le e h = subst (λ (xs : Constraint). CoversAsk p b xs before after) (take_all i items le ∙ e) h

-- NODES

module _ (p : CoreProgram) (t : ℕ) where
  agent-kept : (before after : List CellName) → KeepsNames before after → (a : Agent) (b : List ℕ) → AgentCovered p t before a b → AgentCovered p t after a b
  agent-kept before after keeps Skip b h = tt
  agent-kept before after keeps (Tell c) b h = ask-kept p b before after keeps c h
  agent-kept before after keeps (Then c a) b h = (ask-kept p b before after keeps c h.0, agent-kept before after keeps a b h.1)
  agent-kept before after keeps (Else c a) b h = (ask-kept p b before after keeps c h.0, agent-kept before after keeps a b h.1)
  agent-kept before after keeps (Par l r) b h = (agent-kept before after keeps l b h.0, agent-kept before after keeps r b h.1)
  agent-kept before after keeps (New cell a) b h = agent-kept before after keeps a (b ++ t ∷ []) h
  agent-kept before after keeps (Hence a) b h = tt
  agent-kept before after keeps (Next a) b h = tt

  module _ (is : IsWellFormed p) (n : ℕ) (b : List ℕ) where
    -- what a node needs, its constraint and its parts need
    pub parts-covered : (node : Node) → slice_get p.nodes n ≡ Some node → (names : List CellName) → AgentCovered p t names (agent_at p.nodes n) b → AgentCovered p t names (agent_of (agent_at p.nodes) node) b
    parts-covered node found names h = subst (λ (a : Agent). AgentCovered p t names a b) (agent-is p is n node found) h

    whole : (node : Node) → slice_get p.nodes n ≡ Some node → (before after : List CellName) → KeepsNames before after → AgentCovered p t after (agent_of (agent_at p.nodes) node) b → CoversNode p t n b before after
    whole node found before after keeps h = record { keeps = keeps; covers = subst (λ (a : Agent). AgentCovered p t after a b) (sym (agent-is p is n node found)) h }

    pub covers-none : (node : Node) → (node ≡ nodes.Skip) ⊎ (((m : ℕ) × (node ≡ nodes.Hence m)) ⊎ ((m : ℕ) × (node ≡ nodes.Next m))) → slice_get p.nodes n ≡ Some node → (names : List CellName) → CoversNode p t n b names names
    covers-none node (inl e) found names = whole nodes.Skip (found ∙ ap Some e) names names (λ q h. h) tt
    covers-none node (inr (inl (m, e))) found names = whole (nodes.Hence m) (found ∙ ap Some e) names names (λ q h. h) tt
    covers-none node (inr (inr (m, e))) found names = whole (nodes.Next m) (found ∙ ap Some e) names names (λ q h. h) tt

    pub covers-tell : (c : Constraint) → slice_get p.nodes n ≡ Some (nodes.Tell c) → (before after : List CellName) → CoversAsk p b c before after → CoversNode p t n b before after
    covers-tell c found before after h = whole (nodes.Tell c) found before after h.keeps h.covers

    pub covers-body : (d : Node) (c : Constraint) (m : ℕ) → (d ≡ nodes.Then c m) ⊎ (d ≡ nodes.Else c m) → slice_get p.nodes n ≡ Some d
        → (before mid after : List CellName) → CoversAsk p b c before mid → CoversNode p t m b mid after → CoversNode p t n b before after
    covers-body d c m which found before mid after h h' = go which
      where
        keeps : KeepsNames before after
        keeps q had = h'.keeps q (h.keeps q had)

        both : AskCovered p b after c × AgentCovered p t after (agent_at p.nodes m) b
        both = (ask-kept p b mid after h'.keeps c h.covers, h'.covers)

        go : (d ≡ nodes.Then c m) ⊎ (d ≡ nodes.Else c m) → CoversNode p t n b before after
        go (inl e) = whole (nodes.Then c m) (found ∙ ap Some e) before after keeps both
        go (inr e) = whole (nodes.Else c m) (found ∙ ap Some e) before after keeps both

    pub covers-par : (l r : ℕ) → slice_get p.nodes n ≡ Some (nodes.Par l r) → (before mid after : List CellName) → CoversNode p t l b before mid → CoversNode p t r b mid after → CoversNode p t n b before after
    covers-par l r found before mid after h h' = whole (nodes.Par l r) found before after (λ q had. h'.keeps q (h.keeps q had)) (agent-kept mid after h'.keeps (agent_at p.nodes l) b h.covers, h'.covers)

    pub covers-new : (cell m : ℕ) (inner : List ℕ) → slice_get p.nodes n ≡ Some (nodes.New cell m) → inner ≡ b ++ t ∷ [] → (before after : List CellName) → CoversNode p t m inner before after → CoversNode p t n b before after
    covers-new cell m inner found e before after h = whole (nodes.New cell m) found before after h.keeps (subst (AgentCovered p t after (agent_at p.nodes m)) e h.covers)

  -- ROOTS

  abbrev Own : List CellName → Closure → Type 0
  Own names r = AgentCovered p t names (agent_at p.nodes r.node) r.births

  pub roots-covered-none : (names : List CellName) (roots : List Closure) → RootsCovered p t names (take 0 roots)
  roots-covered-none names roots = All-nil (Own names)

  roots-kept : (before after : List CellName) → KeepsNames before after → (roots : List Closure) → RootsCovered p t before roots → RootsCovered p t after roots
  roots-kept before after keeps roots h = All-weaker (Own before) (Own after) (λ r x. agent-kept before after keeps (agent_at p.nodes r.node) r.births x) roots h

  pub roots-covered-next : (roots : List Closure) (i : ℕ) (r : Closure) (b : List ℕ) (before after : List CellName) → i < length roots → r ≡ get_or roots i r → b ≡ r.births → RootsCovered p t before (take i roots) → CoversNode p t r.node b before after
      → RootsCovered p t after (take (i + 1) roots)
  roots-covered-next roots i r b before after lt is eb h h' =
      All-more (Own after) roots i r lt (roots-kept before after h'.keeps (take i roots) h)
      (subst (Own after) is (subst (AgentCovered p t after (agent_at p.nodes r.node)) eb h'.covers))

  pub roots-covered-all : (roots : List Closure) (i : ℕ) (names : List CellName) → length roots ≤ i → RootsCovered p t names (take i roots) → RootsCovered p t names roots
  roots-covered-all roots i names le h = subst (RootsCovered p t names) (take_all i roots le) h

  pub root-covered : (roots : List Closure) (i : ℕ) (r : Closure) (b : List ℕ) (names : List CellName) → i < length roots → r ≡ get_or roots i r → b ≡ r.births → RootsCovered p t names roots → AgentCovered p t names (agent_at p.nodes r.node) b
  root-covered roots i r b names lt is eb h = subst (AgentCovered p t names (agent_at p.nodes r.node)) (sym eb) (subst (Own names) (sym is) (h i r lt))

  -- the cells of the declared names and of these others cover the roots that the others cover
  pub cells-cover : (cells : List NetCell) (names : List CellName) (roots : List Closure) → cell_names cells ≡ declared_names p.declared ++ names → RootsCovered p t names roots → RootsCovered p t (cell_names cells) roots
  cells-cover cells names roots e h =
      roots-kept names (cell_names cells) (λ q had. subst (λ xs. Contains xs q) (sym e) (Contains-append_right (declared_names p.declared) names q had)) roots h

  -- where all cells are declared ones, no name is needed
  module _ (is : IsWellFormed p) (none : length p.cells ≡ p.declared) (names : List CellName) where
    token-declared : (b : List ℕ) (x : ℕ × Token) → TokenFits p b x → TokenCovered p b names x
    token-declared b x f le = let lt = slice_get_within p.cells x.0 f.decl f.found in absurd (omega arith)

    ask-declared : (b : List ℕ) (c : Constraint) → ConstraintFits p b c → AskCovered p b names c
    ask-declared b [] h = All-nil (TokenCovered p b names)
    ask-declared b (x ∷ c) h = All-cons (TokenCovered p b names) x c (token-declared b x h.0) (ask-declared b c h.1)

    agent-declared : (a : Agent) (b : List ℕ) → AgentFits p t a b → AgentCovered p t names a b
    agent-declared Skip b h = tt
    agent-declared (Tell c) b h = ask-declared b c h
    agent-declared (Then c a) b h = (ask-declared b c h.0, agent-declared a b h.1)
    agent-declared (Else c a) b h = (ask-declared b c h.0, agent-declared a b h.1)
    agent-declared (Par l r) b h = (agent-declared l b h.0, agent-declared r b h.1)
    agent-declared (New cell a) b h = agent-declared a (b ++ t ∷ []) h
    agent-declared (Hence a) b h = tt
    agent-declared (Next a) b h = tt

    pub none-needed : (roots : List Closure) → AreClosures p roots → RootsCovered p t names roots
    none-needed roots own =
        All-weaker (λ r. IsClosure p r.node r.births) (Own names)
        (λ r c. agent-declared (agent_at p.nodes r.node) r.births (AgentFits-under p t (agent_at p.nodes r.node) r.births (depth_of p.nodes r.node) c.long (scoped_fits p is r.node c.node))) roots own
