-- The nodes that are left make the parts that are still to be written, and these the rest of the text.
use Rattle.std.proofs.Common.{◌≡◌, ℕ, suc, ◌+◌, ◌-◌, ◌*◌, ◌<◌, ◌≤◌, Bool, true, false, List, [], ◌∷◌, ◌++◌, length, drop, get_or, refl, sym, ap, ◌∙◌, subst, arith, append_assoc, add-one, drop-cons, length-append, length-drop}
use Rattle.std.proofs.lemmas.List.{append-nil, length-reverse, reverse-append}
use Rattle.std.specs.Prelude.{codes, reverse}
use Rattle.agent_core.specs.declared.node.CellDecl.{CellDecl}
use Rattle.agent_core.specs.declared.node.Node.{Node}
use Rattle.agent_core.specs.declared.node.Node.TheVariants as nodes
use Rattle.agent_core.specs.Agents.{Agent, Skip, Tell, Then, Else, Par, New, Hence, Next, agent_at}
use Rattle.agent_core.specs.Listing.{size, listing, IsListing}
use Rattle.agent_core.proofs.ListingTrees.{root_tree}
use Rattle.core_text.specs.CoreTexts.{constraint_text, decl_at, as_unit, agent_text}
use Rattle.core_text.specs.Beginnings.{beginning, pending_of}
use Rattle.core_text.specs.declared.agents.Pending.{Pending}
use Rattle.core_text.specs.declared.agents.Pending.TheVariants.{Part, Bars, Brace}

-- the text of an agent that is to be one unit or not
abbrev pub part_text : List CellDecl → Bool → Agent → List ℕ
part_text cells unit Skip = agent_text cells Skip
part_text cells unit (Tell c) = agent_text cells (Tell c)
part_text cells unit (Then c a) = agent_text cells (Then c a)
part_text cells unit (Else c a) = agent_text cells (Else c a)
part_text cells true (Par l r) = as_unit (Par l r) (agent_text cells (Par l r))
part_text cells false (Par l r) = agent_text cells (Par l r)
part_text cells unit (New cell a) = agent_text cells (New cell a)
part_text cells unit (Hence a) = agent_text cells (Hence a)
part_text cells unit (Next a) = agent_text cells (Next a)

unit-text : (cells : List CellDecl) (a : Agent) → as_unit a (agent_text cells a) ≡ part_text cells true a
unit-text cells Skip = refl
unit-text cells (Tell c) = refl
unit-text cells (Then c a) = refl
unit-text cells (Else c a) = refl
unit-text cells (Par l r) = refl
unit-text cells (New cell a) = refl
unit-text cells (Hence a) = refl
unit-text cells (Next a) = refl

pub plain-text : (cells : List CellDecl) (a : Agent) → agent_text cells a ≡ part_text cells false a
plain-text cells Skip = refl
plain-text cells (Tell c) = refl
plain-text cells (Then c a) = refl
plain-text cells (Else c a) = refl
plain-text cells (Par l r) = refl
plain-text cells (New cell a) = refl
plain-text cells (Hence a) = refl
plain-text cells (Next a) = refl

-- a part stands in front: the nodes begin with those of an agent, the text with that agent's, and the others make the rest
pub record PartInFront (cells : List CellDecl) (unit : Bool) (Others : List Node → List ℕ → Type 0) (left : List Node) (text : List ℕ) : Type 0 where
  pub number : ℕ
  pub agent : Agent
  pub rest : List Node
  pub later : List ℕ
  pub nodes : left ≡ listing number agent ++ rest
  pub writes : text ≡ part_text cells unit agent ++ later
  pub others : Others rest later

-- a fixed text stands in front, and the others make the rest
pub record FixedTextInFront (fixed : List ℕ) (Others : List Node → List ℕ → Type 0) (left : List Node) (text : List ℕ) : Type 0 where
  pub later : List ℕ
  pub writes : text ≡ fixed ++ later
  pub others : Others left later

-- what is pending makes of the nodes that are left this text
abbrev pub Writes : List CellDecl → List Pending → List Node → List ℕ → Type 0
Writes cells [] left text = text ≡ []
Writes cells (Part unit ∷ ps) left text = PartInFront cells unit (Writes cells ps) left text
Writes cells (Bars ∷ ps) left text = FixedTextInFront (codes " || ") (Writes cells ps) left text
Writes cells (Brace ∷ ps) left text = FixedTextInFront (codes " }") (Writes cells ps) left text

-- the first node of a part that stands in front: it writes its beginning, and what is pending then writes the rest
pub record NodeInFront (cells : List CellDecl) (unit : Bool) (ps : List Pending) (left : List Node) (text : List ℕ) : Type 0 where
  pub node : Node
  pub rest : List Node
  pub later : List ℕ
  pub nodes : left ≡ node ∷ rest
  pub writes : text ≡ beginning cells unit node ++ later
  pub pending : Writes cells (pending_of unit node ++ ps) rest later

-- PARTS

module _ (cells : List CellDecl) (ps : List Pending) (rest : List Node) (later : List ℕ) (others : Writes cells ps rest later) where
  part : (unit : Bool) (n : ℕ) (a : Agent) → Writes cells (Part unit ∷ ps) (listing n a ++ rest) (part_text cells unit a ++ later)
  part unit n a = record { number = n; agent = a; rest = rest; later = later; nodes = refl; writes = refl; others = others }

  -- a text and a unit behind it
  with_unit : (front : List ℕ) (a : Agent) → (front ++ as_unit a (agent_text cells a)) ++ later ≡ front ++ (part_text cells true a ++ later)
  with_unit front a = append_assoc front (as_unit a (agent_text cells a)) later ∙ ap (λ t. front ++ (t ++ later)) (unit-text cells a)

  par_text : (l r : Agent) → agent_text cells (Par l r) ++ later ≡ part_text cells true l ++ (codes " || " ++ (part_text cells false r ++ later))
  par_text l r =
      simp append_assoc
      (ap (λ t. t ++ (codes " || " ++ (agent_text cells r ++ later))) (unit-text cells l) ∙ ap (λ t. part_text cells true l ++ (codes " || " ++ (t ++ later))) (plain-text cells r))

  -- both parts of a par, with the bars between them
  par_parts : (n m : ℕ) (l r : Agent) → Writes cells (Part true ∷ Bars ∷ Part false ∷ ps) ((listing n l ++ listing m r) ++ rest) (agent_text cells (Par l r) ++ later)
  par_parts n m l r = record {
    number = n;
    agent = l;
    rest = listing m r ++ rest;
    later = codes " || " ++ (part_text cells false r ++ later);
    nodes = append_assoc (listing n l) (listing m r) rest;
    writes = par_text l r;
    others = record { later = part_text cells false r ++ later; writes = refl; others = part false m r };
  }

  closed : Writes cells (Brace ∷ ps) rest (codes " }" ++ later)
  closed = record { later = later; writes = refl; others = others }

in_front : (cells : List CellDecl) (unit : Bool) (ps : List Pending) (n : ℕ) (a : Agent) (rest : List Node) (later : List ℕ) → Writes cells ps rest later
    → NodeInFront cells unit ps (listing n a ++ rest) (part_text cells unit a ++ later)
in_front cells unit ps n Skip rest later w = record { node = nodes.Skip; rest = rest; later = later; nodes = refl; writes = refl; pending = w }
in_front cells unit ps n (Tell c) rest later w = record { node = nodes.Tell c; rest = rest; later = later; nodes = refl; writes = refl; pending = w }
in_front cells unit ps n (Then c a) rest later w = record {
  node = nodes.Then c (suc n);
  rest = listing (suc n) a ++ rest;
  later = part_text cells true a ++ later;
  nodes = refl;
  writes = with_unit cells ps rest later w (codes "if " ++ constraint_text cells c ++ codes " then ") a;
  pending = part cells ps rest later w true (suc n) a;
}
in_front cells unit ps n (Else c a) rest later w = record {
  node = nodes.Else c (suc n);
  rest = listing (suc n) a ++ rest;
  later = part_text cells true a ++ later;
  nodes = refl;
  writes = with_unit cells ps rest later w (codes "if " ++ constraint_text cells c ++ codes " else ") a;
  pending = part cells ps rest later w true (suc n) a;
}
in_front cells unit ps n (New cell a) rest later w = record {
  node = nodes.New cell (suc n);
  rest = listing (suc n) a ++ rest;
  later = part_text cells true a ++ later;
  nodes = refl;
  writes = with_unit cells ps rest later w (codes "new " ++ decl_at cells cell ++ codes " in ") a;
  pending = part cells ps rest later w true (suc n) a;
}
in_front cells unit ps n (Hence a) rest later w = record {
  node = nodes.Hence (suc n);
  rest = listing (suc n) a ++ rest;
  later = part_text cells true a ++ later;
  nodes = refl;
  writes = with_unit cells ps rest later w (codes "hence ") a;
  pending = part cells ps rest later w true (suc n) a;
}
in_front cells unit ps n (Next a) rest later w = record {
  node = nodes.Next (suc n);
  rest = listing (suc n) a ++ rest;
  later = part_text cells true a ++ later;
  nodes = refl;
  writes = with_unit cells ps rest later w (codes "next ") a;
  pending = part cells ps rest later w true (suc n) a;
}
in_front cells false ps n (Par l r) rest later w = record {
  node = nodes.Par (suc n) (suc n + size l);
  rest = (listing (suc n) l ++ listing (suc n + size l) r) ++ rest;
  later = agent_text cells (Par l r) ++ later;
  nodes = refl;
  writes = refl;
  pending = par_parts cells ps rest later w (suc n) (suc n + size l) l r;
}
in_front cells true ps n (Par l r) rest later w = record {
  node = nodes.Par (suc n) (suc n + size l);
  rest = (listing (suc n) l ++ listing (suc n + size l) r) ++ rest;
  later = agent_text cells (Par l r) ++ (codes " }" ++ later);
  nodes = refl;
  writes = append_assoc (codes "{ " ++ agent_text cells (Par l r)) (codes " }") later;
  pending = par_parts cells (Brace ∷ ps) rest (codes " }" ++ later) (closed cells ps rest later w) (suc n) (suc n + size l) l r;
}

-- a part that stands in front begins with a node
pub node_in_front : (cells : List CellDecl) (unit : Bool) (ps : List Pending) (left : List Node) (text : List ℕ) → Writes cells (Part unit ∷ ps) left text → NodeInFront cells unit ps left text
node_in_front cells unit ps left text w =
    let at = in_front cells unit ps w.number w.agent w.rest w.later w.others in
    record { node = at.node; rest = at.rest; later = at.later; nodes = w.nodes ∙ at.nodes; writes = w.writes ∙ at.writes; pending = at.pending }

-- THE WHOLE

-- so far this text was written of the whole, and this many nodes; what is pending writes the rest
pub record Printed (cells : List CellDecl) (whole : List ℕ) (all : List Node) (at : ℕ) (ps : List Pending) (text : List ℕ) : Type 0 where
  pub left : List ℕ
  pub whole_is : text ++ left ≡ whole
  pub pending : Writes cells ps (drop at all) left

-- nothing is written yet: the root is pending
pub printed-start : (cells : List CellDecl) (all : List Node) (text : List ℕ) → IsListing all → Printed cells (text ++ agent_text cells (agent_at all 0)) all 0 (Part false ∷ []) text
printed-start cells all text w = record {
  left = agent_text cells (agent_at all 0);
  whole_is = refl;
  pending = record {
    number = 0;
    agent = agent_at all 0;
    rest = [];
    later = [];
    nodes = w.1 ∙ ap (listing 0) (sym (root_tree all w)) ∙ sym (append-nil (listing 0 (agent_at all 0)));
    writes = plain-text cells (agent_at all 0) ∙ sym (append-nil (part_text cells false (agent_at all 0)));
    others = refl;
  };
}

-- nothing is left
pub printed-end : (cells : List CellDecl) (whole : List ℕ) (all : List Node) (at : ℕ) (text : List ℕ) → Printed cells whole all at [] text → text ≡ whole
printed-end cells whole all at text w = sym (append-nil text) ∙ ap (λ (t : List ℕ). text ++ t) (sym w.pending) ∙ w.whole_is

within : (all : List Node) (at : ℕ) (node : Node) (rest : List Node) → drop at all ≡ node ∷ rest → at < length all
within all at node rest e = let n = ap length e in omega (arith, length-drop at all)

module _ (cells : List CellDecl) (whole : List ℕ) (all : List Node) (at : ℕ) (qs : List Pending) (text : List ℕ) where
  fixed_written : (fixed left after : List ℕ) → text ++ left ≡ whole → after ≡ text ++ fixed → (m : FixedTextInFront fixed (Writes cells qs) (drop at all) left) → Printed cells whole all at qs after
  fixed_written fixed left after e ea m = record {
    left = m.later;
    whole_is = ap (λ (t : List ℕ). t ++ m.later) ea ∙ append_assoc text fixed m.later ∙ ap (λ (t : List ℕ). text ++ t) (sym m.writes) ∙ e;
    pending = m.others;
  }

  pub printed-bars : (after : List ℕ) → Printed cells whole all at (Bars ∷ qs) text → after ≡ text ++ codes " || " → Printed cells whole all at qs after
  printed-bars after w ea = fixed_written (codes " || ") w.left after w.whole_is ea w.pending

  pub printed-brace : (after : List ℕ) → Printed cells whole all at (Brace ∷ qs) text → after ≡ text ++ codes " }" → Printed cells whole all at qs after
  printed-brace after w ea = fixed_written (codes " }") w.left after w.whole_is ea w.pending

  module _ (unit : Bool) (w : Printed cells whole all at (Part unit ∷ qs) text) where
    abbrev front : NodeInFront cells unit qs (drop at all) w.left
    front = node_in_front cells unit qs (drop at all) w.left w.pending

    -- a node is left where a part is pending
    pub node_left : at < length all
    node_left = within all at front.node front.rest front.nodes

    pub printed-node : (node : Node) (after : List ℕ) (ps : List Pending) → node ≡ get_or all at node → after ≡ text ++ beginning cells unit node → ps ≡ pending_of unit node ++ qs → Printed cells whole all (at + 1) ps after
    printed-node node after ps is ea ep =
        let split : drop at all ≡ node ∷ drop (at + 1) all = rw add-one (drop-cons all at node node_left ∙ ap (λ (x : Node). x ∷ drop (suc at) all) (sym is)) in
        let both : node ∷ drop (at + 1) all ≡ front.node ∷ front.rest = sym split ∙ front.nodes in
        let same : front.node ≡ node = cc in
        let others : front.rest ≡ drop (at + 1) all = cc in
        record {
          left = front.later;
          whole_is = ap (λ (t : List ℕ). t ++ front.later) ea ∙ append_assoc text (beginning cells unit node) front.later
              ∙ ap (λ (x : Node). text ++ (beginning cells unit x ++ front.later)) (sym same) ∙ ap (λ (t : List ℕ). text ++ t) (sym front.writes) ∙ w.whole_is;
          pending = subst (λ (xs : List Pending). Writes cells xs (drop (at + 1) all) front.later) (sym ep)
              (subst (λ (xs : List Node). Writes cells (pending_of unit node ++ qs) xs front.later) others
              (subst (λ (x : Node). Writes cells (pending_of unit x ++ qs) front.rest front.later) same front.pending));
        }

-- what is popped off the end of the pending parts stands first
pub popped : (before after : List Pending) (next here : Pending) → before ≡ after ++ next ∷ [] → next ≡ here → reverse before ≡ here ∷ reverse after
popped before after next here e is = ap reverse e ∙ reverse-append after (next ∷ []) ∙ ap (λ (p : Pending). p ∷ reverse after) is

few_pending : (unit : Bool) (node : Node) → length (pending_of unit node) ≤ 4
few_pending unit nodes.Skip = omega arith
few_pending unit (nodes.Tell c) = omega arith
few_pending unit (nodes.Then c body) = omega arith
few_pending unit (nodes.Else c body) = omega arith
few_pending true (nodes.Par left right) = omega arith
few_pending false (nodes.Par left right) = omega arith
few_pending unit (nodes.New cell body) = omega arith
few_pending unit (nodes.Hence body) = omega arith
few_pending unit (nodes.Next body) = omega arith

-- a node takes the place of the four parts, at most, that it leaves pending
pub fewer : (unit : Bool) (node : Node) (before after now : List Pending) (n at : ℕ) → length before ≡ length after + 1 → reverse now ≡ pending_of unit node ++ reverse after → at < n
    → length now + 4 * (n - (at + 1)) < length before + 4 * (n - at)
fewer unit node before after now n at one e lt =
    let few = few_pending unit node in
    let l = ap length e in
    omega (arith, length-append (pending_of unit node) (reverse after), length-reverse now, length-reverse after)
