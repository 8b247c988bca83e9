-- Where an agent sits in its program: its constraints are in scope, its new nodes have fresh names, and their cells are numbered in order.
use Rattle.std.proofs.Common.{◌≡◌, ℕ, zero, suc, ◌+◌, ◌-◌, ◌≤◌, List, [], ◌∷◌, ◌++◌, length, refl, sym, ap, ◌∙◌, subst, arith, length-append}
use Rattle.std.specs.Prelude.{filter_map}
use Rattle.agent_core.specs.Agents.{Agent, Constraint, Then, Else, Par, New, Hence, Next, agent_at}
use Rattle.agent_core.specs.Programs.{CoreProgram}
use Rattle.agent_core.specs.Listing.{listing}
use Rattle.agent_core.specs.WellFormed.{Scoped, IsWellFormed, cell_of, count_up}
use Rattle.agent_core.proofs.ListingTrees.{root_tree}
use Rattle.core_reader.proofs.LocalCells.{news, news_listed}
use Rattle.core_text.specs.GoodNames.{AreFresh, HasGoodNames}

-- these are numbers in order from n on
abbrev pub Counted : ℕ → List ℕ → Type 0
Counted n xs = xs ≡ count_up n (length xs)

length-count_up : (n k : ℕ) → length (count_up n k) ≡ k
length-count_up n zero = refl
length-count_up n (suc k) = ap suc (length-count_up (suc n) k)

-- the two parts of numbers in order
counted_split : (n : ℕ) (xs ys : List ℕ) → Counted n (xs ++ ys) → Counted n xs × Counted (n + length xs) ys
counted_split n [] ys e = (refl, (let f : n + 0 ≡ n = omega arith in subst (λ (k : ℕ). ys ≡ count_up k (length ys)) (sym f) e))
counted_split n (x ∷ xs) ys e =
    let head : x ≡ n = cc in
    let tail : xs ++ ys ≡ count_up (suc n) (length (xs ++ ys)) = cc in
    let rest = counted_split (suc n) xs ys tail in
    let f : suc n + length xs ≡ n + suc (length xs) = omega arith in
    (ap (λ (k : ℕ). k ∷ xs) head ∙ ap (λ (q : List ℕ). n ∷ q) rest.0, subst (λ (k : ℕ). Counted k ys) f rest.1)

pub record Sits (p : CoreProgram) (locals : List ℕ) (n : ℕ) (a : Agent) : Type 0 where
  pub scoped : Scoped p locals a
  pub fresh : AreFresh p locals a
  pub counted : Counted n (news a)
  pub few : n + length (news a) ≤ length p.cells

module _ (p : CoreProgram) (locals : List ℕ) (n : ℕ) where
  pub sits_then : (c : Constraint) (a : Agent) → Sits p locals n (Then c a) → Sits p locals n a
  sits_then c a s = record { scoped = s.scoped.1; fresh = s.fresh; counted = s.counted; few = s.few }

  pub sits_else : (c : Constraint) (a : Agent) → Sits p locals n (Else c a) → Sits p locals n a
  sits_else c a s = record { scoped = s.scoped.1; fresh = s.fresh; counted = s.counted; few = s.few }

  pub sits_hence : (a : Agent) → Sits p locals n (Hence a) → Sits p locals n a
  sits_hence a s = record { scoped = s.scoped; fresh = s.fresh; counted = s.counted; few = s.few }

  pub sits_next : (a : Agent) → Sits p locals n (Next a) → Sits p locals n a
  sits_next a s = record { scoped = s.scoped; fresh = s.fresh; counted = s.counted; few = s.few }

  pub sits_left : (l r : Agent) → Sits p locals n (Par l r) → Sits p locals n l
  sits_left l r s =
      let few = s.few in
      let long = length-append (news l) (news r) in
      record { scoped = s.scoped.0; fresh = s.fresh.0; counted = (counted_split n (news l) (news r) s.counted).0; few = omega arith }

  pub sits_right : (l r : Agent) → Sits p locals n (Par l r) → Sits p locals (n + length (news l)) r
  sits_right l r s =
      let few = s.few in
      let long = length-append (news l) (news r) in
      record { scoped = s.scoped.1; fresh = s.fresh.1; counted = (counted_split n (news l) (news r) s.counted).1; few = omega arith }

  -- the cell of a new node is the next one
  pub sits_cell : (cell : ℕ) (a : Agent) → Sits p locals n (New cell a) → cell ≡ n
  sits_cell cell a s = let e = s.counted in cc

  pub sits_new : (cell : ℕ) (a : Agent) → Sits p locals n (New cell a) → Sits p (cell ∷ locals) (n + 1) a
  sits_new cell a s =
      let e = s.counted in
      let few = s.few in
      let tail : news a ≡ count_up (suc n) (length (news a)) = cc in
      let f : suc n ≡ n + 1 = omega arith in
      record { scoped = s.scoped; fresh = s.fresh.1; counted = subst (λ (k : ℕ). Counted k (news a)) f tail; few = omega arith }

-- the root of a program
pub root_sits : (p : CoreProgram) → IsWellFormed p → HasGoodNames p → Sits p [] p.declared (agent_at p.nodes 0)
root_sits p is good =
    let listed : p.nodes ≡ listing 0 (agent_at p.nodes 0) = is.tree.1 ∙ ap (listing 0) (sym (root_tree p.nodes is.tree)) in
    let all : news (agent_at p.nodes 0) ≡ count_up p.declared (length p.cells - p.declared) = sym (news_listed 0 (agent_at p.nodes 0)) ∙ ap (filter_map cell_of) (sym listed) ∙ is.locals in
    let many : length (news (agent_at p.nodes 0)) ≡ length p.cells - p.declared = ap length all ∙ length-count_up p.declared (length p.cells - p.declared) in
    let within = is.limits.within in
    record {
      scoped = is.scoped;
      fresh = good.locals;
      counted = all ∙ ap (count_up p.declared) (sym many);
      few = omega arith;
    }

-- the cells of its new nodes are all local cells
pub root_news : (p : CoreProgram) → IsWellFormed p → news (agent_at p.nodes 0) ≡ count_up p.declared (length p.cells - p.declared)
root_news p is =
    let listed : p.nodes ≡ listing 0 (agent_at p.nodes 0) = is.tree.1 ∙ ap (listing 0) (sym (root_tree p.nodes is.tree)) in
    sym (news_listed 0 (agent_at p.nodes 0)) ∙ ap (filter_map cell_of) (sym listed) ∙ is.locals
