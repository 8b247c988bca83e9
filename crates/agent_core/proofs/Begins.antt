-- A list of nodes that begins with the listing of a tree, by the kind of its first node.
use Rattle.std.proofs.Common.{◌≡◌, ℕ, suc, ◌+◌, ◌-◌, List, [], ◌∷◌, ◌++◌, Some, None, length, refl, sym, ap, ◌∙◌, arith, append_assoc, length-append, ◌⊎◌, inl, inr}
use Rattle.std.specs.Prelude.{Option, IfSome, IfNone, IsTrue, Bool, true, ◌==◌}
use Rattle.std.proofs.lemmas.List.{append-nil}
use Rattle.std.proofs.lemmas.Bool.{eqb-true}
use Rattle.agent_core.specs.declared.node.Node.{Node}
use Rattle.agent_core.specs.declared.node.Node.TheVariants as nodes
use Rattle.agent_core.specs.Agents.{Agent, Constraint, Skip, Tell, Then, Else, Par, New, Hence, Next}
use Rattle.agent_core.specs.Listing.{size, listing, IsListing}
use Rattle.agent_core.proofs.ListingTrees.{length-listing, size-some, one_front}

-- an empty list begins with no tree
pub listing_some : (n : ℕ) (a : Agent) (r all : List Node) → length all ≡ 0 → all ≡ listing n a ++ r → ⊥
listing_some n a r all z e = let h = ap length e in omega (arith, length-append (listing n a) r, length-listing n a, size-some a)

-- A LEAF

pub leaf_some : (n : ℕ) (node : Node) (all rest : List Node) → (node ≡ nodes.Skip) ⊎ ((c : Constraint) × (node ≡ nodes.Tell c)) → all ≡ node ∷ rest → (a : Agent) × (all ≡ listing n a ++ rest)
leaf_some n node all rest (inl is) e = (Skip, e ∙ ap (λ (x : Node). x ∷ rest) is)
leaf_some n node all rest (inr is) e = (Tell is.0, e ∙ ap (λ (x : Node). x ∷ rest) is.1)

-- A NODE WITH ONE PART

-- the node has this one part
abbrev pub HasBody : Node → ℕ → Type 0
HasBody node body =
    ((c : Constraint) × (node ≡ nodes.Then c body))
    ⊎ (((c : Constraint) × (node ≡ nodes.Else c body)) ⊎ (((cell : ℕ) × (node ≡ nodes.New cell body)) ⊎ ((node ≡ nodes.Hence body) ⊎ (node ≡ nodes.Next body))))

abbrev only_part : Node → Option ℕ
only_part (nodes.Then c body) = Some body
only_part (nodes.Else c body) = Some body
only_part (nodes.New cell body) = Some body
only_part (nodes.Hence body) = Some body
only_part (nodes.Next body) = Some body
only_part _ = None

only_part-is : (node : Node) (body : ℕ) → HasBody node body → only_part node ≡ Some body
only_part-is node body (inl h) = ap only_part h.1
only_part-is node body (inr (inl h)) = ap only_part h.1
only_part-is node body (inr (inr (inl h))) = ap only_part h.1
only_part-is node body (inr (inr (inr (inl h)))) = ap only_part h
only_part-is node body (inr (inr (inr (inr h)))) = ap only_part h

-- the tree of a node, over that of its part
over : (n body : ℕ) (node : Node) → HasBody node body → body ≡ suc n → (b : Agent) → (a : Agent) × (node ∷ listing (suc n) b ≡ listing n a)
over n body node (inl h) e b = (Then h.0 b, ap (λ (x : Node). x ∷ listing (suc n) b) (h.1 ∙ ap (nodes.Then h.0) e))
over n body node (inr (inl h)) e b = (Else h.0 b, ap (λ (x : Node). x ∷ listing (suc n) b) (h.1 ∙ ap (nodes.Else h.0) e))
over n body node (inr (inr (inl h))) e b = (New h.0 b, ap (λ (x : Node). x ∷ listing (suc n) b) (h.1 ∙ ap (nodes.New h.0) e))
over n body node (inr (inr (inr (inl h)))) e b = (Hence b, ap (λ (x : Node). x ∷ listing (suc n) b) (h ∙ ap nodes.Hence e))
over n body node (inr (inr (inr (inr h)))) e b = (Next b, ap (λ (x : Node). x ∷ listing (suc n) b) (h ∙ ap nodes.Next e))

-- the part of a tree that begins with a node that has one
under : (n body : ℕ) (node : Node) (rest : List Node) → only_part node ≡ Some body → (a : Agent) (r : List Node) → node ∷ rest ≡ listing n a ++ r
    → (body ≡ suc n) × ((b : Agent) × (rest ≡ listing (suc n) b ++ r))
under n body node rest h Skip r e = absurd (let f : node ≡ nodes.Skip = cc in let g = sym h ∙ ap only_part f in cc)
under n body node rest h (Tell c) r e = absurd (let f : node ≡ nodes.Tell c = cc in let g = sym h ∙ ap only_part f in cc)
under n body node rest h (Par a b) r e = absurd (let f : node ≡ nodes.Par (suc n) (suc n + size a) = cc in let g = sym h ∙ ap only_part f in cc)
under n body node rest h (Then c a) r e = let f : node ≡ nodes.Then c (suc n) = cc in let g = sym h ∙ ap only_part f in (cc, (a, cc))
under n body node rest h (Else c a) r e = let f : node ≡ nodes.Else c (suc n) = cc in let g = sym h ∙ ap only_part f in (cc, (a, cc))
under n body node rest h (New cell a) r e = let f : node ≡ nodes.New cell (suc n) = cc in let g = sym h ∙ ap only_part f in (cc, (a, cc))
under n body node rest h (Hence a) r e = let f : node ≡ nodes.Hence (suc n) = cc in let g = sym h ∙ ap only_part f in (cc, (a, cc))
under n body node rest h (Next a) r e = let f : node ≡ nodes.Next (suc n) = cc in let g = sym h ∙ ap only_part f in (cc, (a, cc))

module _ (n body : ℕ) (node : Node) (all rest : List Node) (has : HasBody node body) (e : all ≡ node ∷ rest) where
  pub body_not : (body ≡ suc n → ⊥) → (a : Agent) (r : List Node) → all ≡ listing n a ++ r → ⊥
  body_not differ a r f = differ (under n body node rest (only_part-is node body has) a r (sym e ∙ f)).0

  pub body_some : {X : Type 0} (o : Option X) (now : X → List Node) (m : ℕ) → m ≡ suc n → body ≡ suc n
      → IfSome o (λ x. (b : Agent) × (rest ≡ listing m b ++ now x)) → IfSome o (λ x. (a : Agent) × (all ≡ listing n a ++ now x))
  body_some None now m em eb h = tt
  body_some (Some x) now m em eb h =
      let tree = over n body node has eb h.0 in
      (tree.0, e ∙ ap (λ (ys : List Node). node ∷ ys) (h.1 ∙ ap (λ (k : ℕ). listing k h.0 ++ now x) em) ∙ ap (λ (ys : List Node). ys ++ now x) tree.1)

  pub body_none : {X : Type 0} (o : Option X) (m : ℕ) → m ≡ suc n
      → IfNone o ((b : Agent) (r : List Node) → rest ≡ listing m b ++ r → ⊥) → IfNone o ((a : Agent) (r : List Node) → all ≡ listing n a ++ r → ⊥)
  body_none None m em h = λ a r f.
      let part = under n body node rest (only_part-is node body has) a r (sym e ∙ f) in
      h part.1.0 r (part.1.1 ∙ ap (λ (k : ℕ). listing k part.1.0 ++ r) (sym em))
  body_none (Some x) m em h = tt

-- A PAR

-- the parts of a tree that begins with a par
pub under_Par : (n left right : ℕ) (rest : List Node) (a : Agent) (r : List Node) → nodes.Par left right ∷ rest ≡ listing n a ++ r
    → (left ≡ suc n) × ((l : Agent) × (k : Agent) × (right ≡ suc n + size l) × (rest ≡ listing (suc n) l ++ (listing right k ++ r)))
under_Par n left right rest Skip r e = absurd (cc)
under_Par n left right rest (Tell c') r e = absurd (cc)
under_Par n left right rest (Then c' a') r e = absurd (cc)
under_Par n left right rest (Else c' a') r e = absurd (cc)
under_Par n left right rest (Par l' r') r e = let f : right ≡ suc n + size l' = cc in let g : rest ≡ (listing (suc n) l' ++ listing (suc n + size l') r') ++ r = cc in (cc, (l', r', f, g ∙ append_assoc (listing (suc n) l') (listing (suc n + size l') r') r ∙ ap (λ (m : ℕ). listing (suc n) l' ++ (listing m r' ++ r)) (sym f)))
under_Par n left right rest (New cell' a') r e = absurd (cc)
under_Par n left right rest (Hence a') r e = absurd (cc)
under_Par n left right rest (Next a') r e = absurd (cc)

-- a par whose left part was found
module _ (n m left right next : ℕ) (all rest after : List Node) (a : Agent) (em : m ≡ suc n) (el : left ≡ suc n) (e : all ≡ nodes.Par left right ∷ rest) (found : rest ≡ listing m a ++ after) (en : next ≡ m + (length rest - length after)) where
  next_is : next ≡ suc n + size a
  next_is = let h = ap length found in omega (arith, length-append (listing m a) after, length-listing m a)

  -- another par begins with the same left part
  same_left : (b : Agent) (r : List Node) → all ≡ listing n b ++ r → (right ≡ next) × ((k : Agent) × (after ≡ listing right k ++ r))
  same_left b r f =
      let i = under_Par n left right rest b r (sym e ∙ f) in
      let front = one_front (suc n) a i.1.0 after (listing right i.1.1 ++ r) (ap (λ (k : ℕ). listing k a ++ after) (sym em) ∙ sym found ∙ i.1.3) in
      (i.1.2 ∙ ap (λ (x : Agent). suc n + size x) (sym front.0) ∙ sym next_is, (i.1.1, front.1))

  pub par_not : (right ≡ next → ⊥) → (b : Agent) (r : List Node) → all ≡ listing n b ++ r → ⊥
  par_not differ b r f = differ (same_left b r f).0

  pub par_none : {X : Type 0} (o : Option X) → right ≡ next → IfNone o ((b : Agent) (r : List Node) → after ≡ listing next b ++ r → ⊥) → IfNone o ((b : Agent) (r : List Node) → all ≡ listing n b ++ r → ⊥)
  par_none None er h = λ b r f. let s = same_left b r f in h s.1.0 r (s.1.1 ∙ ap (λ (k : ℕ). listing k s.1.0 ++ r) er)
  par_none (Some x) er h = tt

  pub par_some : {X : Type 0} (o : Option X) (now : X → List Node) → right ≡ next → IfSome o (λ x. (b : Agent) × (after ≡ listing next b ++ now x)) → IfSome o (λ x. (b : Agent) × (all ≡ listing n b ++ now x))
  par_some None now er h = tt
  par_some (Some x) now er h =
      let rest_is : rest ≡ listing (suc n) a ++ (listing (suc n + size a) h.0 ++ now x) =
      found ∙ ap (λ (k : ℕ). listing k a ++ after) em ∙ ap (λ (ys : List Node). listing (suc n) a ++ ys) (h.1 ∙ ap (λ (k : ℕ). listing k h.0 ++ now x) next_is) in (
        Par a h.0,
        e ∙ ap (λ (k : ℕ). nodes.Par k right ∷ rest) el ∙ ap (λ (k : ℕ). nodes.Par (suc n) k ∷ rest) (er ∙ next_is)
            ∙ ap (λ (ys : List Node). nodes.Par (suc n) (suc n + size a) ∷ ys) (rest_is ∙ sym (append_assoc (listing (suc n) a) (listing (suc n + size a) h.0) (now x))),
      )

empty_of : (xs : List Node) → (length xs == 0) ≡ true → xs ≡ []
empty_of [] e = refl
empty_of (x ∷ xs) e = absurd (let h : suc (length xs) ≡ 0 = eqb-true (suc (length xs)) 0 e in omega arith)

-- the list is one tree where nothing is left behind the tree that it begins with
pub whole_tree : (all rest : List Node) (a : Agent) (b : Bool) → all ≡ listing 0 a ++ rest → b ≡ (length rest == 0) → (IsTrue b → IsListing all) × (IsListing all → IsTrue b)
whole_tree all rest a b e eb = (
  λ t. (a, e ∙ ap (λ (ys : List Node). listing 0 a ++ ys) (empty_of rest (sym eb ∙ t)) ∙ append-nil (listing 0 a)),
  λ w. eb ∙ ap (λ (ys : List Node). length ys == 0) (one_front 0 a w.0 rest [] (sym e ∙ w.1 ∙ sym (append-nil (listing 0 w.0)))).1,
)
