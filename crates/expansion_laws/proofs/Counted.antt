-- How many nodes and cells the agent of a symbolic agent has, and that the cells of its news are numbered in order.
use Rattle.std.proofs.Common.{◌≡◌, ℕ, zero, suc, ◌+◌, List, [], ◌∷◌, ◌++◌, length, refl, sym, ap, ◌∙◌, arith, length-append}
use Rattle.std.specs.Prelude.{filter_map, slice_get, unwrap_or}
use Rattle.std.proofs.lemmas.List.Elements.{filter_map-append}
use Rattle.agent_core.specs.declared.node.CellDecl.{CellDecl}
use Rattle.agent_core.specs.WellFormed.{cell_of, count_up}
use Rattle.agent_core.specs.Listing as core
use Rattle.expansion_laws.specs.SymbolicAgents.{SymbolicAgent, Skip, Tell, Then, Else, Par, New, Hence, Next, symbolic_size, binders}
use Rattle.expansion_laws.specs.Numbering.{Binding, binding, bound_agent, hidden, cells_from}

-- an agent has the nodes of its symbolic agent
pub size-agent_of : (scope : List Binding) (n : ℕ) (a : SymbolicAgent) → core.size (bound_agent scope n a) ≡ symbolic_size a
size-agent_of scope n (Skip o) = refl
size-agent_of scope n (Tell o c) = refl
size-agent_of scope n (Then o c a) = ap suc (size-agent_of scope n a)
size-agent_of scope n (Else o c a) = ap suc (size-agent_of scope n a)
size-agent_of scope n (Par o a b) = let left = size-agent_of scope n a in let right = size-agent_of scope (n + length (binders a)) b in omega arith
size-agent_of scope n (New o binder a) = ap suc (size-agent_of (binding binder n ∷ scope) (suc n) a)
size-agent_of scope n (Hence o a) = ap suc (size-agent_of scope n a)
size-agent_of scope n (Next o a) = ap suc (size-agent_of scope n a)

count_up-append : (n a b : ℕ) → count_up n a ++ count_up (n + a) b ≡ count_up n (a + b)
count_up-append n zero b = let e : n + 0 ≡ n = omega arith in let f : 0 + b ≡ b = omega arith in ap (λ k. count_up k b) e ∙ ap (count_up n) (sym f)
count_up-append n (suc a) b =
    let e : n + suc a ≡ suc n + a = omega arith in
    let f : suc (a + b) ≡ suc a + b = omega arith in
    ap (λ k. n ∷ (count_up (suc n) a ++ count_up k b)) e ∙ ap (λ q. n ∷ q) (count_up-append (suc n) a b) ∙ ap (count_up n) f

-- the cells of the new nodes are numbered from n on, wherever the nodes stand
pub news_counted : (scope : List Binding) (n m : ℕ) (a : SymbolicAgent) → filter_map cell_of (core.listing m (bound_agent scope n a)) ≡ count_up n (length (binders a))
news_counted scope n m (Skip o) = refl
news_counted scope n m (Tell o c) = refl
news_counted scope n m (Then o c a) = news_counted scope n (suc m) a
news_counted scope n m (Else o c a) = news_counted scope n (suc m) a
news_counted scope n m (Par o a b) =
    let k : ℕ = suc m + core.size (bound_agent scope n a) in
    filter_map-append cell_of (core.listing (suc m) (bound_agent scope n a)) (core.listing k (bound_agent scope (n + length (binders a)) b))
    ∙ ap (λ q. q ++ filter_map cell_of (core.listing k (bound_agent scope (n + length (binders a)) b))) (news_counted scope n (suc m) a)
    ∙ ap (λ q. count_up n (length (binders a)) ++ q) (news_counted scope (n + length (binders a)) k b)
    ∙ count_up-append n (length (binders a)) (length (binders b))
    ∙ ap (count_up n) (sym (length-append (binders a) (binders b)))
news_counted scope n m (New o binder a) = ap (λ q. n ∷ q) (news_counted (binding binder n ∷ scope) (suc n) (suc m) a)
news_counted scope n m (Hence o a) = news_counted scope n (suc m) a
news_counted scope n m (Next o a) = news_counted scope n (suc m) a

pub length-cells_from : (cells : List CellDecl) (n : ℕ) (xs : List ℕ) → length (cells_from cells n xs) ≡ length xs
length-cells_from cells n [] = refl
length-cells_from cells n (x ∷ xs) = ap suc (length-cells_from cells (suc n) xs)

pub cells_from-append : (cells : List CellDecl) (n : ℕ) (xs ys : List ℕ) → cells_from cells n (xs ++ ys) ≡ cells_from cells n xs ++ cells_from cells (n + length xs) ys
cells_from-append cells n [] ys = let e : n ≡ n + 0 = omega arith in ap (λ k. cells_from cells k ys) e
cells_from-append cells n (x ∷ xs) ys =
    let e : suc n + length xs ≡ n + suc (length xs) = omega arith in
    ap (λ q. unwrap_or (slice_get cells x) (hidden n) ∷ q) (cells_from-append cells (suc n) xs ys ∙ ap (λ k. cells_from cells (suc n) xs ++ cells_from cells k ys) e)
