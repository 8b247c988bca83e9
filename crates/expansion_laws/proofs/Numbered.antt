-- Where a part of a symbolic agent stands in its program: its nodes, the origins of these, the binders of its cells, and the news around it.
use Rattle.std.proofs.Common.{◌≡◌, ℕ, suc, ◌+◌, ◌<◌, ◌≤◌, List, [], ◌∷◌, length, Some, refl, sym, ap, subst, arith, length-append, inl, inr}
use Rattle.std.specs.Prelude.{Option, slice_get}
use Rattle.agent_core.specs.declared.node.Node.TheVariants as nodes
use Rattle.agent_core.specs.Agents.{Agent, Constraint, agent_at}
use Rattle.agent_core.specs.Agents as agent
use Rattle.agent_core.specs.Programs.{CoreProgram}
use Rattle.agent_core.specs.Listing as core
use Rattle.agent_core.specs.WellFormed.{IsAmong}
use Rattle.agent_core.specs.Names.{depth_of}
use Rattle.agent_core.proofs.Standing.{StandsAt, stands-itself, stands-head, stands-tail, stands-left, stands-right}
use Rattle.agent_core.proofs.ListingTrees.{listed_tree, root_tree}
use Rattle.agent_core.proofs.Places.{Place, Place-goes_down, root_place, depth_of-place}
use Rattle.expansion_laws.specs.SymbolicAgents.{SymbolicAgent, Skip, Tell, Then, Else, Par, New, Hence, Next, origins, binders}
use Rattle.expansion_laws.specs.Numbering.{Binding, binding, bound_agent, bound_constraint}
use Rattle.expansion_laws.proofs.Walks.{cells_of}

-- the new of this cell stands around the nodes from k on, so many, and so many news stand around it
pub record IsOver (p : CoreProgram) (k size depth cell : ℕ) : Type 0 where
  pub new : ℕ
  pub body : ℕ
  pub found : slice_get p.nodes new ≡ Some (nodes.New cell body)
  pub deep : depth_of p.nodes new ≡ depth
  pub behind : new < k
  pub inside : k + size ≤ new + core.size (agent_at p.nodes new)

-- the news of these cells stand around the nodes, the first one innermost
abbrev pub AreOver : CoreProgram → ℕ → ℕ → List ℕ → Type 0
AreOver p k size [] = Unit {0}
AreOver p k size (cell ∷ cells) = IsOver p k size (length cells) cell × AreOver p k size cells

pub over_one : (p : CoreProgram) (k size : ℕ) (cells : List ℕ) (cell : ℕ) → AreOver p k size cells → IsAmong cells cell → (depth : ℕ) × (depth < length cells) × IsOver p k size depth cell
over_one p k size [] cell over among = absurd among
over_one p k size (first ∷ cells) cell over (inl same) = (length cells, omega arith, subst (IsOver p k size (length cells)) (sym same) over.0)
over_one p k size (first ∷ cells) cell over (inr among) = let r = over_one p k size cells cell over.1 among in let lt = r.1 in (r.0, omega arith, r.2)

-- what stands around some nodes stands around fewer of them
narrower : (p : CoreProgram) (k i size part : ℕ) → k ≤ i → i + part ≤ k + size → (cells : List ℕ) → AreOver p k size cells → AreOver p i part cells
narrower p k i size part from to [] h = tt
narrower p k i size part from to (cell ∷ cells) h =
    let o = h.0 in
    let behind = o.behind in
    let inside = o.inside in
    (record { new = o.new; body = o.body; found = o.found; deep = o.deep; behind = omega arith; inside = omega arith }, narrower p k i size part from to cells h.1)

-- the part stands from node k on, its cells from number n on
pub record IsNumbered (p : CoreProgram) (os : List (Option ℕ)) (ms : List ℕ) (scope : List Binding) (k n : ℕ) (d : SymbolicAgent) : Type 0 where
  pub place : Place p.nodes k (cells_of scope) (bound_agent scope n d)
  pub from : StandsAt (Option ℕ) os k (origins d)
  pub bound : StandsAt ℕ ms n (binders d)
  pub over : AreOver p k (core.size (bound_agent scope n d)) (cells_of scope)

-- a part has an origin for each node
pub length-origins : (scope : List Binding) (n : ℕ) (d : SymbolicAgent) → length (origins d) ≡ core.size (bound_agent scope n d)
length-origins scope n (Skip o) = refl
length-origins scope n (Tell o c) = refl
length-origins scope n (Then o c a) = ap suc (length-origins scope n a)
length-origins scope n (Else o c a) = ap suc (length-origins scope n a)
length-origins scope n (Par o l r) =
    let left = length-origins scope n l in
    let right = length-origins scope (n + length (binders l)) r in
    omega (arith, length-append (origins l) (origins r))
length-origins scope n (New o binder a) = ap suc (length-origins (binding binder n ∷ scope) (suc n) a)
length-origins scope n (Hence o a) = ap suc (length-origins scope n a)
length-origins scope n (Next o a) = ap suc (length-origins scope n a)

module _ (p : CoreProgram) (os : List (Option ℕ)) (ms : List ℕ) where
  abbrev IsPart : List Binding → ℕ → ℕ → SymbolicAgent → Type 0
  IsPart scope k n d = IsNumbered p os ms scope k n d

  -- the only part of a node that is no new
  one_part : (scope : List Binding) (k n : ℕ) (d a : SymbolicAgent) (o : Option ℕ) → Place p.nodes (suc k) (cells_of scope) (bound_agent scope n a) → core.size (bound_agent scope n d) ≡ suc (core.size (bound_agent scope n a))
      → origins d ≡ o ∷ origins a → binders d ≡ binders a → IsPart scope k n d → IsPart scope (suc k) n a
  one_part scope k n d a o place long from bound h = record {
    place = place;
    from = stands-tail (subst (StandsAt (Option ℕ) os k) from h.from);
    bound = subst (StandsAt ℕ ms n) bound h.bound;
    over = narrower p k (suc k) (core.size (bound_agent scope n d)) (core.size (bound_agent scope n a)) (omega arith) (omega arith) (cells_of scope) h.over;
  }

  pub then_part : (scope : List Binding) (k n : ℕ) (o : Option ℕ) (c : Constraint) (a : SymbolicAgent) → IsPart scope k n (Then o c a) → IsPart scope (suc k) n a
  then_part scope k n o c a h = one_part scope k n (Then o c a) a o ((Place-goes_down p.nodes).then_body k (cells_of scope) (bound_constraint scope c) (bound_agent scope n a) h.place) refl refl refl h

  pub else_part : (scope : List Binding) (k n : ℕ) (o : Option ℕ) (c : Constraint) (a : SymbolicAgent) → IsPart scope k n (Else o c a) → IsPart scope (suc k) n a
  else_part scope k n o c a h = one_part scope k n (Else o c a) a o ((Place-goes_down p.nodes).else_body k (cells_of scope) (bound_constraint scope c) (bound_agent scope n a) h.place) refl refl refl h

  pub hence_part : (scope : List Binding) (k n : ℕ) (o : Option ℕ) (a : SymbolicAgent) → IsPart scope k n (Hence o a) → IsPart scope (suc k) n a
  hence_part scope k n o a h = one_part scope k n (Hence o a) a o ((Place-goes_down p.nodes).hence_body k (cells_of scope) (bound_agent scope n a) h.place) refl refl refl h

  pub next_part : (scope : List Binding) (k n : ℕ) (o : Option ℕ) (a : SymbolicAgent) → IsPart scope k n (Next o a) → IsPart scope (suc k) n a
  next_part scope k n o a h = one_part scope k n (Next o a) a o ((Place-goes_down p.nodes).next_body k (cells_of scope) (bound_agent scope n a) h.place) refl refl refl h

  pub left_part : (scope : List Binding) (k n : ℕ) (o : Option ℕ) (l r : SymbolicAgent) → IsPart scope k n (Par o l r) → IsPart scope (suc k) n l
  left_part scope k n o l r h =
      let x = bound_agent scope n l in
      let y = bound_agent scope (n + length (binders l)) r in
      record {
        place = (Place-goes_down p.nodes).left k (cells_of scope) x y h.place;
        from = stands-left (origins l) (origins r) (stands-tail h.from);
        bound = stands-left (binders l) (binders r) h.bound;
        over = narrower p k (suc k) (suc (core.size x + core.size y)) (core.size x) (omega arith) (omega arith) (cells_of scope) h.over;
      }

  pub right_part : (scope : List Binding) (k n : ℕ) (o : Option ℕ) (l r : SymbolicAgent) → IsPart scope k n (Par o l r) → IsPart scope (suc k + core.size (bound_agent scope n l)) (n + length (binders l)) r
  right_part scope k n o l r h =
      let x = bound_agent scope n l in
      let y = bound_agent scope (n + length (binders l)) r in
      let long = length-origins scope n l in
      record {
        place = (Place-goes_down p.nodes).right k (cells_of scope) x y h.place;
        from = stands-right (origins l) (origins r) (stands-tail h.from) (suc k + core.size x) (omega arith);
        bound = stands-right (binders l) (binders r) h.bound (n + length (binders l)) refl;
        over = narrower p k (suc k + core.size x) (suc (core.size x + core.size y)) (core.size y) (omega arith) (omega arith) (cells_of scope) h.over;
      }

  pub new_part : (scope : List Binding) (k n : ℕ) (o : Option ℕ) (binder : ℕ) (a : SymbolicAgent) → IsPart scope k n (New o binder a) → IsPart (binding binder n ∷ scope) (suc k) (suc n) a
  new_part scope k n o binder a h =
      let x = bound_agent (binding binder n ∷ scope) (suc n) a in
      let long : core.size (agent_at p.nodes k) ≡ suc (core.size x) = ap core.size (listed_tree p.nodes k (agent.New n x) h.place.listed) in
      record {
        place = (Place-goes_down p.nodes).new_body k (cells_of scope) n x h.place;
        from = stands-tail h.from;
        bound = stands-tail h.bound;
        over = (
          record {
            new = k;
            body = suc k;
            found = stands-head h.place.listed;
            deep = depth_of-place p.nodes k (cells_of scope) (agent.New n x) h.place;
            behind = omega arith;
            inside = omega arith;
          },
          narrower p k (suc k) (suc (core.size x)) (core.size x) (omega arith) (omega arith) (cells_of scope) h.over,
        );
      }

-- the whole symbolic agent stands at the root
pub root_part : (p : CoreProgram) (ms : List ℕ) (n : ℕ) (d : SymbolicAgent) → p.nodes ≡ core.listing 0 (bound_agent [] n d) → StandsAt ℕ ms n (binders d) → IsNumbered p (origins d) ms [] 0 n d
root_part p ms n d listed bound = record {
  place = subst (λ (a : Agent). Place p.nodes 0 [] a) (root_tree p.nodes (bound_agent [] n d, listed)) (root_place p.nodes (bound_agent [] n d, listed));
  from = stands-itself refl;
  bound = bound;
  over = tt;
}
