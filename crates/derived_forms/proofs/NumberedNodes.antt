-- Agents with the numbers of their nodes, found from the last node to the first.
use Rattle.std.proofs.Common.{◌≡◌, ℕ, suc, ◌+◌, List, [], ◌∷◌, ◌++◌, length, refl, ap, sym, ◌∙◌, subst, arith}
use Rattle.std.specs.Prelude.{map}
use Rattle.std.specs.List.{flat_map}
use Rattle.std.proofs.lemmas.List.{append-nil, length_push, map-append}
use Rattle.agent_core.specs.Agents.{Agent, Skip, Tell, Then, Else, Par, New, Hence, Next}
use Rattle.agent_core.specs.Listing.{listing, size}
use Rattle.agent_core.specs.declared.node.Node.{Node}
use Rattle.agent_core.specs.declared.node.Node.TheVariants as nodes
use Rattle.derived_forms.specs.declared.flat_node.FlatNode.{FlatNode}
use Rattle.derived_forms.specs.declared.flat_node.FlatNode.TheVariants as flat_node
use Rattle.derived_forms.specs.Numbered.{agent_flat_nodes, first_node, agent_first_flat_node, part_ends}
use Rattle.derived_forms.proofs.Forests.{Follows, IsRow, Splits, behind, behind_all, row-behind}
use Rattle.derived_forms.proofs.Backwards.{IsBack, back_start, back_step, back_end}

-- an agent, and the number of its first node
pub record Numbered : Type 0 where
  pub number : ℕ
  pub agent : Agent

abbrev pub numbered : ℕ → Agent → Numbered
numbered n a = record { number = n; agent = a }

-- its nodes without numbers and with them, its parts, and where it ends
abbrev pub list_of : Numbered → List FlatNode
list_of d = agent_flat_nodes d.agent

abbrev pub head_of : Numbered → FlatNode
head_of d = agent_first_flat_node d.agent

abbrev pub nodes_of : Numbered → List Node
nodes_of d = listing d.number d.agent

abbrev pub number_of : Numbered → ℕ
number_of d = d.number

abbrev pub size_of : Numbered → ℕ
size_of d = size d.agent

abbrev pub end_of : Numbered → ℕ
end_of d = d.number + size d.agent

abbrev pub agent_parts : ℕ → Agent → List Numbered
agent_parts n Skip = []
agent_parts n (Tell c) = []
agent_parts n (Then c a) = numbered (suc n) a ∷ []
agent_parts n (Else c a) = numbered (suc n) a ∷ []
agent_parts n (Par a b) = numbered (suc n) a ∷ numbered (suc n + size a) b ∷ []
agent_parts n (New cell a) = numbered (suc n) a ∷ []
agent_parts n (Hence a) = numbered (suc n) a ∷ []
agent_parts n (Next a) = numbered (suc n) a ∷ []

abbrev pub parts_of : Numbered → List Numbered
parts_of d = agent_parts d.number d.agent

one_part : {X : Type 0} (x : X) (l : List X) → x ∷ l ≡ x ∷ (l ++ [])
one_part {X} x l = ap (λ (m : List X). x ∷ m) (sym (append-nil l))

flat_nodes-split : (n : ℕ) (a : Agent) → agent_flat_nodes a ≡ agent_first_flat_node a ∷ flat_map list_of (agent_parts n a)
flat_nodes-split n Skip = refl
flat_nodes-split n (Tell c) = refl
flat_nodes-split n (Then c a) = one_part (flat_node.Then c) (agent_flat_nodes a)
flat_nodes-split n (Else c a) = one_part (flat_node.Else c) (agent_flat_nodes a)
flat_nodes-split n (Par a b) = ap (λ (m : List FlatNode). flat_node.Par ∷ (agent_flat_nodes a ++ m)) (sym (append-nil (agent_flat_nodes b)))
flat_nodes-split n (New cell a) = one_part (flat_node.New cell) (agent_flat_nodes a)
flat_nodes-split n (Hence a) = one_part flat_node.Hence (agent_flat_nodes a)
flat_nodes-split n (Next a) = one_part flat_node.Next (agent_flat_nodes a)

list-split : Splits parts_of list_of head_of
list-split d = flat_nodes-split d.number d.agent

nodes-split : (n : ℕ) (a : Agent) → listing n a ≡ first_node n a ∷ flat_map nodes_of (agent_parts n a)
nodes-split n Skip = refl
nodes-split n (Tell c) = refl
nodes-split n (Then c a) = one_part (nodes.Then c (suc n)) (listing (suc n) a)
nodes-split n (Else c a) = one_part (nodes.Else c (suc n)) (listing (suc n) a)
nodes-split n (Par a b) = ap (λ (m : List Node). nodes.Par (suc n) (suc n + size a) ∷ (listing (suc n) a ++ m)) (sym (append-nil (listing (suc n + size a) b)))
nodes-split n (New cell a) = one_part (nodes.New cell (suc n)) (listing (suc n) a)
nodes-split n (Hence a) = one_part (nodes.Hence (suc n)) (listing (suc n) a)
nodes-split n (Next a) = one_part (nodes.Next (suc n)) (listing (suc n) a)

agent_follows : (n : ℕ) (a : Agent) → Follows parts_of number_of size_of (numbered n a) (suc n)
agent_follows n Skip = record { row = tt; end = omega arith }
agent_follows n (Tell c) = record { row = tt; end = omega arith }
agent_follows n (Then c a) = record { row = (refl, tt); end = omega arith }
agent_follows n (Else c a) = record { row = (refl, tt); end = omega arith }
agent_follows n (Par a b) = record { row = (refl, (refl, tt)); end = omega arith }
agent_follows n (New cell a) = record { row = (refl, tt); end = omega arith }
agent_follows n (Hence a) = record { row = (refl, tt); end = omega arith }
agent_follows n (Next a) = record { row = (refl, tt); end = omega arith }

parts_follow : (d : Numbered) → Follows parts_of number_of size_of d (suc (number_of d))
parts_follow d = agent_follows d.number d.agent

parts_end : (n : ℕ) (a : Agent) → map end_of (agent_parts n a) ≡ part_ends (suc n) a
parts_end n Skip = refl
parts_end n (Tell c) = refl
parts_end n (Then c a) = refl
parts_end n (Else c a) = refl
parts_end n (Par a b) = refl
parts_end n (New cell a) = refl
parts_end n (Hence a) = refl
parts_end n (Next a) = refl

-- These nodes are to come; the agents behind them have these nodes, and end at these numbers.
pub record IsNumbered (a : Agent) (front : List FlatNode) (ends : List ℕ) (done : List Node) : Type 0 where
  pub back : IsBack parts_of list_of nodes_of (numbered 0 a ∷ []) [] front done
  pub ending : ends ≡ map end_of (behind parts_of (length front) (numbered 0 a ∷ []))

pub number_start : (a : Agent) (front : List FlatNode) (ends : List ℕ) (done : List Node) → front ≡ agent_flat_nodes a → ends ≡ [] → done ≡ [] → IsNumbered a front ends done
number_start a front ends done all none empty =
    let e : front ≡ flat_map list_of (numbered 0 a ∷ []) = all ∙ sym (append-nil (agent_flat_nodes a)) in record {
      back = back_start parts_of list_of head_of nodes_of list-split (numbered 0 a ∷ []) [] front done e empty;
      ending = none ∙ ap (map end_of) (sym (behind_all parts_of list_of head_of list-split (length front) (numbered 0 a ∷ []) (ap length e)));
    }

-- the agent that begins at the last node to come, which has number n, and where those behind it end
pub record Numbers (a : Agent) (n : ℕ) (front : List FlatNode) (p : FlatNode) (ends : List ℕ) (done : List Node) : Type 0 where
  pub agent : Agent
  pub later : List ℕ
  pub first : p ≡ agent_first_flat_node agent
  pub parts : ends ≡ part_ends (suc n) agent ++ later
  pub next : (new : List ℕ) (node : Node) → node ≡ first_node n agent → new ≡ (n + size agent) ∷ later → IsNumbered a front new (node ∷ done)

-- the same, where the agent has its own number
numbers_at : (a : Agent) (n : ℕ) (front : List FlatNode) (p : FlatNode) (ends : List ℕ) (done later : List Node) (d : Numbered) (others : List Numbered) → number_of d ≡ n → p ≡ head_of d → behind parts_of (length front) (numbered 0 a ∷ []) ≡ d ∷ others → ends ≡ map end_of (parts_of d ++ others) → done ≡ flat_map nodes_of (parts_of d) ++ later → ((new : List Node) → new ≡ nodes_of d ++ later → IsBack parts_of list_of nodes_of (numbered 0 a ∷ []) [] front new) → Numbers a n front p ends done
numbers_at a n front p ends done later d others e first here behind_it made next = record {
  agent = d.agent;
  later = map end_of others;
  first = first;
  parts =
      behind_it
      ∙ map-append end_of (parts_of d) others
      ∙ ap (λ (l : List ℕ). l ++ map end_of others) (parts_end d.number d.agent)
      ∙ ap (λ (k : ℕ). part_ends (suc k) d.agent ++ map end_of others) e;
  next = λ new node f g. record {
    back = next (node ∷ done)
        (ap (λ (x : Node). x ∷ done) (f ∙ ap (λ (k : ℕ). first_node k d.agent) (sym e))
        ∙ ap (λ (l : List Node). first_node d.number d.agent ∷ l) made
        ∙ ap (λ (l : List Node). l ++ later) (sym (nodes-split d.number d.agent)));
    ending = g ∙ ap (λ (k : ℕ). (k + size d.agent) ∷ map end_of others) (sym e) ∙ ap (map end_of) (sym here);
  };
}

pub number_step : (a : Agent) (n : ℕ) (whole front : List FlatNode) (p : FlatNode) (ends : List ℕ) (done : List Node) → n ≡ length front → whole ≡ front ++ p ∷ [] → IsNumbered a whole ends done → Numbers a n front p ends done
number_step a n whole front p ends done e popped is =
    let b = back_step parts_of list_of head_of nodes_of list-split (numbered 0 a ∷ []) [] whole front p done popped is.back in
    let row = subst (IsRow number_of size_of (length front)) b.here (row-behind parts_of number_of size_of parts_follow (length front) (numbered 0 a ∷ []) (refl, tt)) in
    let long : length whole ≡ suc (length front) = let f = ap length popped in let g = length_push front p in omega arith in
    numbers_at a n front p ends done b.later b.tree b.others (row.0 ∙ sym e) b.node b.here
    (is.ending ∙ ap (λ (k : ℕ). map end_of (behind parts_of k (numbered 0 a ∷ []))) long ∙ ap (map end_of) b.opened) b.parts_made b.next

pub number_end : (a : Agent) (front : List FlatNode) (ends : List ℕ) (done : List Node) → front ≡ [] → IsNumbered a front ends done → done ≡ listing 0 a
number_end a front ends done none is =
    back_end parts_of list_of nodes_of (numbered 0 a ∷ []) [] front done none is.back
    ∙ append-nil (flat_map nodes_of (numbered 0 a ∷ []))
    ∙ append-nil (listing 0 a)
