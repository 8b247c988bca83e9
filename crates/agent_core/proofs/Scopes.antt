-- Each constraint of a program has a meaning under any births, as many as new nodes enclose it.
use Rattle.std.proofs.Common.{◌≡◌, ℕ, suc, ◌+◌, ◌<◌, Bool, true, false, List, [], ◌∷◌, ◌++◌, Some, length, refl, sym, ap, ◌∙◌, subst, arith, length-append, ◌⊎◌, inl, inr}
use Rattle.std.specs.Prelude.{slice_get, nat_lt, if◌then◌else◌}
use Rattle.std.proofs.lemmas.Bool.{lt-ltb, ltb-true, false≢true}
use Rattle.std.proofs.lemmas.List.{length-take}
use Rattle.std.proofs.lemmas.Option.{slice_get_within}
use Rattle.token_system.specs.declared.cell.Token.{Token}
use Rattle.token_system.specs.declared.name.CellName.TheVariants.{Declared}
use Rattle.agent_core.specs.declared.node.Node.{Node}
use Rattle.agent_core.specs.declared.node.Node.TheVariants as nodes
use Rattle.agent_core.specs.Programs.{CoreProgram}
use Rattle.agent_core.specs.Agents.{Agent, Constraint, Skip, Tell, Then, Else, Par, New, Hence, Next, agent_of, agent_at}
use Rattle.agent_core.specs.Listing.{size}
use Rattle.agent_core.specs.Names.{Names, local_name, new_of, depth_of, IsClosure}
use Rattle.agent_core.specs.WellFormed.{IsAmong, IsInScope, AreInScope, Scoped, IsWellFormed}
use Rattle.agent_core.specs.Scope.{TokenFits, ConstraintFits, AgentFits, AlwaysFits}
use Rattle.agent_core.proofs.Standing.{stands-head}
use Rattle.agent_core.proofs.ListingTrees.{listed_tree, has_node}
use Rattle.agent_core.proofs.Places.{Place, Place-goes_down, GoesDown, each_node, root_place, depth_of-place, size-root, node_of_listing}
use Rattle.agent_core.proofs.NewNodes.{new_of-one}

-- each of these local cells has its new node, enclosed by those of the cells behind it
abbrev pub AreNews : CoreProgram → List ℕ → Type 0
AreNews p [] = Unit {0}
AreNews p (cell ∷ locals) = ((m body : ℕ) × (slice_get p.nodes m ≡ Some (nodes.New cell body)) × (depth_of p.nodes m ≡ length locals)) × AreNews p locals

-- an agent in its place, with the local cells around it
pub record IsPlaced (p : CoreProgram) (n : ℕ) (locals : List ℕ) (a : Agent) : Type 0 where
  pub place : Place p.nodes n locals a
  pub scoped : Scoped p locals a
  pub news : AreNews p locals

pub IsPlaced-goes_down : (p : CoreProgram) → GoesDown (IsPlaced p)
IsPlaced-goes_down p = let down = Place-goes_down p.nodes in record {
  then_body = λ n locals c a h. record { place = down.then_body n locals c a h.place; scoped = h.scoped.1; news = h.news };
  else_body = λ n locals c a h. record { place = down.else_body n locals c a h.place; scoped = h.scoped.1; news = h.news };
  left = λ n locals a b h. record { place = down.left n locals a b h.place; scoped = h.scoped.0; news = h.news };
  right = λ n locals a b h. record { place = down.right n locals a b h.place; scoped = h.scoped.1; news = h.news };
  new_body = λ n locals cell a h. record {
    place = down.new_body n locals cell a h.place;
    scoped = h.scoped;
    news = ((n, suc n, stands-head h.place.listed, depth_of-place p.nodes n locals (New cell a) h.place), h.news);
  };
  hence_body = λ n locals a h. record { place = down.hence_body n locals a h.place; scoped = h.scoped; news = h.news };
  next_body = λ n locals a h. record { place = down.next_body n locals a h.place; scoped = h.scoped; news = h.news };
}

root_placed : (p : CoreProgram) → IsWellFormed p → IsPlaced p 0 [] (agent_at p.nodes 0)
root_placed p is = record { place = root_place p.nodes is.tree; scoped = is.scoped; news = tt }

-- each node of a program has its place
pub placed : (p : CoreProgram) → IsWellFormed p → (n : ℕ) → n < length p.nodes → (locals : List ℕ) × IsPlaced p n locals (agent_at p.nodes n)
placed p is n lt =
    let long = size-root p.nodes is.tree in
    let found = each_node (IsPlaced p) (IsPlaced-goes_down p) 0 [] (agent_at p.nodes 0) (root_placed p is) n n (omega arith) (omega arith) in
    (found.0, subst (IsPlaced p n found.0) (sym (listed_tree p.nodes n found.1 found.2.place.listed)) found.2)

new_node : (p : CoreProgram) (locals : List ℕ) (cell : ℕ) → AreNews p locals → IsAmong locals cell
    → (m body : ℕ) × (slice_get p.nodes m ≡ Some (nodes.New cell body)) × (depth_of p.nodes m < length locals)
new_node p [] cell news among = absurd among
new_node p (local ∷ locals) cell news (inl same) =
    let deep = news.0.3 in
    (news.0.0, news.0.1, news.0.2 ∙ ap (λ (k : ℕ). Some (nodes.New k news.0.1)) (sym same), omega arith)
new_node p (local ∷ locals) cell news (inr among) =
    let found = new_node p locals cell news.1 among in
    let deep = found.3 in
    (found.0, found.1, found.2, omega arith)

-- a token in scope has its name under as many births
pub pair_fits : (p : CoreProgram) → IsWellFormed p → (locals : List ℕ) → AreNews p locals → (pair : ℕ × Token) → IsInScope p locals pair
    → (b : List ℕ) → length b ≡ length locals → TokenFits p b pair
pair_fits p is locals news pair scope b long = record { decl = scope.decl; found = scope.found; named = go (nat_lt pair.0 p.declared) refl; fits = scope.fits }
  where
    local : (pair.0 < p.declared) ⊎ IsAmong locals pair.0 → nat_lt pair.0 p.declared ≡ false → Names p (local_name p.nodes b (new_of p.nodes pair.0)) scope.decl
    local (inl declared) r = absurd (false≢true (sym r ∙ lt-ltb pair.0 p.declared declared))
    local (inr among) r =
        let found = new_node p locals pair.0 news among in
        let one = new_of-one p is found.0 pair.0 found.1 found.2 in
        let deep : depth_of p.nodes (new_of p.nodes pair.0) < length locals = subst (λ (m : ℕ). depth_of p.nodes m < length locals) (sym one) found.3 in (
          pair.0,
          found.1,
          ap (λ (m : ℕ). slice_get p.nodes m) one ∙ found.2,
          scope.found,
          omega (arith, length-take (suc (depth_of p.nodes (new_of p.nodes pair.0))) b),
        )

    go : (r : Bool) → nat_lt pair.0 p.declared ≡ r → Names p (if r then Declared pair.0 else local_name p.nodes b (new_of p.nodes pair.0)) scope.decl
    go true r = (ltb-true pair.0 p.declared r, scope.found)
    go false r = local scope.visible r

pub ask_fits : (p : CoreProgram) → IsWellFormed p → (locals : List ℕ) → AreNews p locals → (ask : Constraint) → AreInScope p locals ask
    → (b : List ℕ) → length b ≡ length locals → ConstraintFits p b ask
ask_fits p is locals news [] scope b long = tt
ask_fits p is locals news (pair ∷ ask) scope b long = (pair_fits p is locals news pair scope.0 b long, ask_fits p is locals news ask scope.1 b long)

always : (p : CoreProgram) → IsWellFormed p → (n : ℕ) (locals : List ℕ) (a : Agent) → IsPlaced p n locals a → AlwaysFits p a (length locals)
always p is n locals Skip h = tt
always p is n locals (Tell c) h = ask_fits p is locals h.news c h.scoped.tokens
always p is n locals (Then c a) h = (ask_fits p is locals h.news c h.scoped.0.tokens, always p is (suc n) locals a ((IsPlaced-goes_down p).then_body n locals c a h))
always p is n locals (Else c a) h = (ask_fits p is locals h.news c h.scoped.0.tokens, always p is (suc n) locals a ((IsPlaced-goes_down p).else_body n locals c a h))
always p is n locals (Par a b) h = (
  always p is (suc n) locals a ((IsPlaced-goes_down p).left n locals a b h),
  always p is (suc n + size a) locals b ((IsPlaced-goes_down p).right n locals a b h),
)
always p is n locals (New cell a) h = always p is (suc n) (cell ∷ locals) a ((IsPlaced-goes_down p).new_body n locals cell a h)
always p is n locals (Hence a) h = always p is (suc n) locals a ((IsPlaced-goes_down p).hence_body n locals a h)
always p is n locals (Next a) h = always p is (suc n) locals a ((IsPlaced-goes_down p).next_body n locals a h)

-- each constraint below a node fits under any births, as many as new nodes enclose it
pub scoped_fits : (p : CoreProgram) → IsWellFormed p → (n : ℕ) → n < length p.nodes → AlwaysFits p (agent_at p.nodes n) (depth_of p.nodes n)
scoped_fits p is n lt =
    let at = placed p is n lt in
    subst (AlwaysFits p (agent_at p.nodes n)) (sym (depth_of-place p.nodes n at.0 (agent_at p.nodes n) at.1.place)) (always p is n at.0 (agent_at p.nodes n) at.1)

-- the same of the whole program
pub root_fits : (p : CoreProgram) → IsWellFormed p → AlwaysFits p (agent_at p.nodes 0) 0
root_fits p is = always p is 0 [] (agent_at p.nodes 0) (root_placed p is)

-- the constraint of a node, which is empty where it has none
abbrev pub ask_of : Node → Constraint
ask_of (nodes.Tell ask) = ask
ask_of (nodes.Then ask body) = ask
ask_of (nodes.Else ask body) = ask
ask_of _ = []

own_ask : (p : CoreProgram) (part : ℕ → Agent) (node : Node) (d : ℕ) → AlwaysFits p (agent_of part node) d → (b : List ℕ) → length b ≡ d → ConstraintFits p b (ask_of node)
own_ask p part (nodes.Tell ask) d h b e = h b e
own_ask p part (nodes.Then ask body) d h b e = h.0 b e
own_ask p part (nodes.Else ask body) d h b e = h.0 b e
own_ask p part _ d h b e = tt

-- the constraint of a node fits under the births of its closures
pub node_fits : (p : CoreProgram) → IsWellFormed p → (n : ℕ) (node : Node) → slice_get p.nodes n ≡ Some node → (b : List ℕ) → length b ≡ depth_of p.nodes n → ConstraintFits p b (ask_of node)
node_fits p is n node g b e =
    let lt = slice_get_within p.nodes n node g in
    let tree = (node_of_listing p.nodes is.tree n node g).tree in
    own_ask p (agent_at p.nodes) node (depth_of p.nodes n) (subst (λ (a : Agent). AlwaysFits p a (depth_of p.nodes n)) tree (scoped_fits p is n lt)) b e

-- what fits under any births fits under these
pub AgentFits-under : (p : CoreProgram) (t : ℕ) (a : Agent) (b : List ℕ) (d : ℕ) → length b ≡ d → AlwaysFits p a d → AgentFits p t a b
AgentFits-under p t Skip b d e h = tt
AgentFits-under p t (Tell c) b d e h = h b e
AgentFits-under p t (Then c a) b d e h = (h.0 b e, AgentFits-under p t a b d e h.1)
AgentFits-under p t (Else c a) b d e h = (h.0 b e, AgentFits-under p t a b d e h.1)
AgentFits-under p t (Par a a') b d e h = (AgentFits-under p t a b d e h.0, AgentFits-under p t a' b d e h.1)
AgentFits-under p t (New cell a) b d e h = AgentFits-under p t a (b ++ t ∷ []) (suc d) (omega (arith, length-append b (t ∷ []))) h
AgentFits-under p t (Hence a) b d e h = tt
AgentFits-under p t (Next a) b d e h = tt

-- the agent of each closure fits under its births, whenever it is started
pub closure_fits : (p : CoreProgram) → IsWellFormed p → (n : ℕ) (b : List ℕ) → IsClosure p n b → (t : ℕ) → AgentFits p t (agent_at p.nodes n) b
closure_fits p is n b closure t = AgentFits-under p t (agent_at p.nodes n) b (depth_of p.nodes n) closure.long (scoped_fits p is n closure.node)

-- the root without births is a closure
pub root-IsClosure : (p : CoreProgram) → IsWellFormed p → IsClosure p 0 []
root-IsClosure p is = record { node = has_node p.nodes is.tree; long = sym (depth_of-place p.nodes 0 [] (agent_at p.nodes 0) (root_place p.nodes is.tree)) }
