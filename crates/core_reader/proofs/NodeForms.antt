-- Nodes and their forms: the forms of an agent's nodes are the listing of its tree, and nodes with the same forms are
-- the same.
use Rattle.std.proofs.Common.{◌≡◌, ℕ, zero, suc, ◌+◌, List, [], ◌∷◌, ◌++◌, refl, ap, sym, ◌∙◌, arith}
use Rattle.std.specs.Prelude.{All, map}
use Rattle.std.proofs.lemmas.List.{map-append}
use Rattle.agent_core.specs.declared.node.Node.{Node}
use Rattle.agent_core.specs.declared.node.Node.TheVariants as nodes
use Rattle.agent_core.specs.Agents.{Agent, Skip, Tell, Then, Else, Par, New, Hence, Next}
use Rattle.agent_core.specs.Listing.{size, listing}
use Rattle.tdcc_reader.specs.declared.surface.Form.TheVariants as form
use Rattle.tdcc_reader.specs.Trees as tree
use Rattle.core_reader.specs.Trees.{tree_of}
use Rattle.core_reader.specs.Forms.{form_of_node, IsCoreForm}

pub same_size : (a : Agent) → tree.form_count (tree_of a) ≡ size a
same_size Skip = refl
same_size (Tell c) = refl
same_size (Then c a) = ap suc (same_size a)
same_size (Else c a) = ap suc (same_size a)
same_size (Par l r) = ap (λ n. suc (n + tree.form_count (tree_of r))) (same_size l) ∙ ap (λ n. suc (size l + n)) (same_size r)
same_size (New cell a) = ap suc (same_size a)
same_size (Hence a) = ap suc (same_size a)
same_size (Next a) = ap suc (same_size a)

-- The forms of an agent's nodes are the forms of its tree.
pub forms_listed : (n : ℕ) (a : Agent) → map form_of_node (listing n a) ≡ tree.form_listing n (tree_of a)
forms_listed n Skip = refl
forms_listed n (Tell c) = refl
forms_listed n (Then c a) = ap (λ l. form.Then c (suc n) ∷ l) (forms_listed (suc n) a)
forms_listed n (Else c a) = ap (λ l. form.Else c (suc n) ∷ l) (forms_listed (suc n) a)
forms_listed n (Par l r) =
    ap (λ q. form.Par (suc n) (suc n + size l) ∷ q) (map-append form_of_node (listing (suc n) l) (listing (suc n + size l) r)
    ∙ ap (λ q. q ++ map form_of_node (listing (suc n + size l) r)) (forms_listed (suc n) l)
    ∙ ap (λ q. tree.form_listing (suc n) (tree_of l) ++ q) (forms_listed (suc n + size l) r))
    ∙ ap (λ k. form.Par (suc n) (suc n + k) ∷ (tree.form_listing (suc n) (tree_of l) ++ tree.form_listing (suc n + k) (tree_of r))) (sym (same_size l))
forms_listed n (New cell a) = ap (λ l. form.New cell (suc n) ∷ l) (forms_listed (suc n) a)
forms_listed n (Hence a) = ap (λ l. form.Hence (suc n) ∷ l) (forms_listed (suc n) a)
forms_listed n (Next a) = ap (λ l. form.Next (suc n) ∷ l) (forms_listed (suc n) a)

same_node : (a b : Node) → form_of_node a ≡ form_of_node b → a ≡ b
same_node nodes.Skip nodes.Skip e = refl
same_node (nodes.Tell c) (nodes.Tell d) e = cc
same_node (nodes.Then c x) (nodes.Then d y) e = cc
same_node (nodes.Else c x) (nodes.Else d y) e = cc
same_node (nodes.Par l r) (nodes.Par m s) e = cc
same_node (nodes.New c x) (nodes.New d y) e = cc
same_node (nodes.Hence x) (nodes.Hence y) e = cc
same_node (nodes.Next x) (nodes.Next y) e = cc
same_node a b e = cc

head_same : {X : Type 0} {x y : X} {xs ys : List X} → x ∷ xs ≡ y ∷ ys → x ≡ y
head_same e = cc

tail_same : {X : Type 0} {x y : X} {xs ys : List X} → x ∷ xs ≡ y ∷ ys → xs ≡ ys
tail_same e = cc

-- Nodes with the same forms are the same.
pub same_nodes : (xs ys : List Node) → map form_of_node xs ≡ map form_of_node ys → xs ≡ ys
same_nodes [] [] e = refl
same_nodes [] (y ∷ ys) e = cc
same_nodes (x ∷ xs) [] e = cc
same_nodes (x ∷ xs) (y ∷ ys) e = let h : x ≡ y = same_node x y (head_same e) in let t : xs ≡ ys = same_nodes xs ys (tail_same e) in cc

core_form : (a : Node) → IsCoreForm (form_of_node a)
core_form nodes.Skip = tt
core_form (nodes.Tell c) = tt
core_form (nodes.Then c x) = tt
core_form (nodes.Else c x) = tt
core_form (nodes.Par l r) = tt
core_form (nodes.New c x) = tt
core_form (nodes.Hence x) = tt
core_form (nodes.Next x) = tt

-- The forms of nodes are forms of the core.
pub core_forms : (xs : List Node) → All IsCoreForm (map form_of_node xs)
core_forms [] k d h = absurd (omega arith)
core_forms (x ∷ xs) zero d h = core_form x
core_forms (x ∷ xs) (suc k) d h = core_forms xs k d (omega arith)
