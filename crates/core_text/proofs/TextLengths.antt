-- How long core texts are: a name has at most 32 bytes, a number 10, and so a node writes at most 1,000 and a declaration 64.
use Rattle.std.proofs.Common.{◌≡◌, ℕ, zero, suc, ◌+◌, ◌*◌, ◌<◌, ◌≤◌, ◌^◌, true, false, ℤ, pos, negsuc, List, [], ◌∷◌, ◌++◌, length, take, Option, Some, None, refl, sym, ap, ◌∙◌, arith, length-append, int_eq, int_le}
use Rattle.std.specs.Prelude.{◌&&◌, IsTrue, codes, flat_map, slice_get}
use Rattle.std.specs.Fmt.{signed_decimal}
use Rattle.std.specs.Option.{option_map_or}
use Rattle.std.proofs.lemmas.Fmt.{length-decimal-le}
use Rattle.std.proofs.lemmas.Int.{ints}
use Rattle.std.proofs.lemmas.List.{length-take-le}
use Rattle.token_system.specs.declared.cell.Kind.{Kind}
use Rattle.token_system.specs.declared.cell.Kind.TheVariants as kinds
use Rattle.token_system.specs.declared.cell.Token.{Token}
use Rattle.token_system.specs.declared.cell.Token.TheVariants.{On, Off, AtLeast, AtMost, Clash}
use Rattle.token_system.specs.Domain.{is_bound, is_cell}
use Rattle.token_system.specs.Tokens.{fits_kind}
use Rattle.token_system.specs.Texts.{text_of}
use Rattle.agent_core.specs.declared.node.CellDecl.{CellDecl}
use Rattle.agent_core.specs.Agents.{Agent, Constraint, Skip, Tell, Then, Else, Par, New, Hence, Next, agent_at}
use Rattle.agent_core.specs.WellFormed.{IsWellFormed, IsInScope, AreInScope, IsConstraint, Scoped}
use Rattle.agent_core.specs.Listing.{size}
use Rattle.agent_core.specs.Programs.{CoreProgram}
use Rattle.agent_core.proofs.Bools.{first_of_both, second_of_both}
use Rattle.agent_core.proofs.ListingTrees.{length-listing, root_tree}
use Rattle.program_lexemes.specs.Limits.{longest_core_text}
use Rattle.core_text.specs.CoreTexts.{domain_text, cell_text, decl_text, decl_lines, name_at, decl_at, constraint_text, as_unit, agent_text, core_text}
use Rattle.core_text.specs.GoodNames.{HasGoodNames}

-- NUMBERS AND TOKENS

number_length : (k : ℤ) → is_bound k ≡ true → length (signed_decimal k) ≤ 10
number_length (pos n) h = let b : IsTrue (is_bound (pos n)) = h in let lt : n < 10 ^ 9 = grind (arith, ints) in let few = length-decimal-le 9 n (omega arith) lt (omega arith) in omega arith
number_length (negsuc n) h = let b : IsTrue (is_bound (negsuc n)) = h in let lt : suc n < 10 ^ 9 = grind (arith, ints) in let few = length-decimal-le 9 (suc n) (omega arith) lt (omega arith) in omega arith

bound_of_number : (k : Kind) (n : ℤ) → IsTrue (fits_kind k (AtLeast n)) → is_bound n ≡ true
bound_of_number kinds.Signal n h = let e : false ≡ true = h in cc
bound_of_number kinds.Number n h = h

zero_bound : (k : ℤ) → IsTrue (int_eq k (pos 0)) → is_bound k ≡ true
zero_bound (pos n) h = let e : n ≡ 0 = grind (arith, ints) in ap (λ m. is_bound (pos m)) e
zero_bound (negsuc n) h = absurd (let e : false ≡ true = h in cc)

token_length : (x : List ℕ) (k : Kind) (t : Token) → length x ≤ 32 → IsTrue (fits_kind k t) → length (text_of x t) ≤ 44
token_length x k On short fits = omega arith
token_length x k Off short fits = omega arith
token_length x k Clash short fits = omega arith
token_length x k (AtLeast n) short fits = let few = number_length n (bound_of_number k n fits) in omega (arith, length-append (x ++ codes ">=") (signed_decimal n), length-append x (codes ">="))
token_length x k (AtMost n) short fits = let few = number_length n (bound_of_number k n fits) in omega (arith, length-append (x ++ codes "<=") (signed_decimal n), length-append x (codes "<="))

-- DECLARATIONS

low_bound : (k : Kind) (l h : ℤ) → IsTrue (is_cell k l h) → is_bound l ≡ true
low_bound kinds.Signal l h law = zero_bound l (first_of_both (int_eq l (pos 0)) (int_eq h (pos 0)) law)
low_bound kinds.Number l h law = first_of_both (is_bound l) (is_bound h) (first_of_both (is_bound l && is_bound h) (int_le l h) law)

high_bound : (k : Kind) (l h : ℤ) → IsTrue (is_cell k l h) → is_bound h ≡ true
high_bound kinds.Signal l h law = zero_bound h (second_of_both (int_eq l (pos 0)) (int_eq h (pos 0)) law)
high_bound kinds.Number l h law = second_of_both (is_bound l) (is_bound h) (first_of_both (is_bound l && is_bound h) (int_le l h) law)

domain_length : (d : CellDecl) → length (domain_text d.cell) ≤ 22
domain_length d = go d.cell.kind d.cell.lo d.cell.hi d.cell.lawful
  where
    go : (k : Kind) (l h : ℤ) → IsTrue (is_cell k l h) → length (signed_decimal l ++ codes ".." ++ signed_decimal h) ≤ 22
    go k l h law =
        let low = number_length l (low_bound k l h law) in
        let high = number_length h (high_bound k l h law) in
        omega (arith, length-append (signed_decimal l ++ codes "..") (signed_decimal h), length-append (signed_decimal l) (codes ".."))

decl_length : (d : CellDecl) → length d.name ≤ 32 → length (decl_text d) ≤ 62
decl_length d short = go d.cell.kind
  where
    go : (k : Kind) → length (cell_text k d) ≤ 62
    go kinds.Signal = omega arith
    go kinds.Number = let few = domain_length d in omega (arith, length-append (d.name ++ codes " in ") (domain_text d.cell), length-append d.name (codes " in "))

decls_length : (ds : List CellDecl) → ((i : ℕ) (d : CellDecl) → slice_get ds i ≡ Some d → length d.name ≤ 32) → length (decl_lines ds) ≤ 64 * length ds
decls_length [] short = omega arith
decls_length (d ∷ ds) short =
    let one = decl_length d (short 0 d refl) in
    let more = decls_length ds (λ i e f. short (suc i) e f) in
    omega (arith, length-append (decl_text d ++ codes ";\n") (decl_lines ds), length-append (decl_text d) (codes ";\n"))

module _ (p : CoreProgram) (good : HasGoodNames p) where
  -- the name of a cell, and its declaration
  name_length : (n : ℕ) → length (name_at p.cells n) ≤ 32
  name_length n = go (slice_get p.cells n) refl
    where
      go : (o : Option CellDecl) → slice_get p.cells n ≡ o → length (option_map_or (λ d. d.name) o []) ≤ 32
      go None e = omega arith
      go (Some d) e = (good.names n d e).short

  decl_at_length : (n : ℕ) → length (decl_at p.cells n) ≤ 62
  decl_at_length n = go (slice_get p.cells n) refl
    where
      go : (o : Option CellDecl) → slice_get p.cells n ≡ o → length (option_map_or decl_text o []) ≤ 62
      go None e = omega arith
      go (Some d) e = decl_length d (good.names n d e).short

  -- CONSTRAINTS

  pair_length : (locals : List ℕ) (x : ℕ × Token) → IsInScope p locals x → length (text_of (name_at p.cells x.0) x.1) ≤ 44
  pair_length locals x is = token_length (name_at p.cells x.0) is.decl.cell.kind x.1 (name_length x.0) is.fits

  rest_length : (locals : List ℕ) (xs : Constraint) → AreInScope p locals xs → length (flat_map (λ (x : ℕ × Token). codes " & " ++ text_of (name_at p.cells x.0) x.1) xs) ≤ 47 * length xs
  rest_length locals [] are = omega arith
  rest_length locals (x ∷ xs) are =
      let one = pair_length locals x are.0 in
      let more = rest_length locals xs are.1 in
      omega (arith, length-append (codes " & " ++ text_of (name_at p.cells x.0) x.1) (flat_map (λ (y : ℕ × Token). codes " & " ++ text_of (name_at p.cells y.0) y.1) xs))

  ask_length : (locals : List ℕ) (c : Constraint) → IsConstraint p locals c → length (constraint_text p.cells c) ≤ 752
  ask_length locals c is = go c is.few is.tokens
    where
      go : (xs : Constraint) → length xs ≤ 16 → AreInScope p locals xs → length (constraint_text p.cells xs) ≤ 752
      go [] few are = omega arith
      go (x ∷ xs) few are =
          let one = pair_length locals x are.0 in
          let more = rest_length locals xs are.1 in
          omega (arith, length-append (text_of (name_at p.cells x.0) x.1) (flat_map (λ (y : ℕ × Token). codes " & " ++ text_of (name_at p.cells y.0) y.1) xs))

  -- AGENTS: as many bytes as 1,000 for each node, less what braces around it take

  unit_length : (a : Agent) (text : List ℕ) → length (as_unit a text) ≤ length text + 4
  unit_length Skip text = omega arith
  unit_length (Tell c) text = omega arith
  unit_length (Then c a) text = omega arith
  unit_length (Else c a) text = omega arith
  unit_length (Par l r) text = omega (arith, length-append text (codes " }"))
  unit_length (New cell a) text = omega arith
  unit_length (Hence a) text = omega arith
  unit_length (Next a) text = omega arith

  agent_length : (a : Agent) (locals : List ℕ) → Scoped p locals a → length (agent_text p.cells a) + 4 ≤ 1000 * size a
  agent_length Skip locals h = omega arith
  agent_length (Tell c) locals h = let few = ask_length locals c h in omega arith
  agent_length (Then c a) locals h =
      let few = ask_length locals c h.0 in
      let body = agent_length a locals h.1 in
      let unit = unit_length a (agent_text p.cells a) in
      omega (arith, length-append (constraint_text p.cells c ++ codes " then ") (as_unit a (agent_text p.cells a)), length-append (constraint_text p.cells c) (codes " then "))
  agent_length (Else c a) locals h =
      let few = ask_length locals c h.0 in
      let body = agent_length a locals h.1 in
      let unit = unit_length a (agent_text p.cells a) in
      omega (arith, length-append (constraint_text p.cells c ++ codes " else ") (as_unit a (agent_text p.cells a)), length-append (constraint_text p.cells c) (codes " else "))
  agent_length (Par l r) locals h =
      let left = agent_length l locals h.0 in
      let right = agent_length r locals h.1 in
      let unit = unit_length l (agent_text p.cells l) in
      omega (arith, length-append (as_unit l (agent_text p.cells l) ++ codes " || ") (agent_text p.cells r), length-append (as_unit l (agent_text p.cells l)) (codes " || "))
  agent_length (New cell a) locals h =
      let few = decl_at_length cell in
      let body = agent_length a (cell ∷ locals) h in
      let unit = unit_length a (agent_text p.cells a) in
      omega (arith, length-append (decl_at p.cells cell ++ codes " in ") (as_unit a (agent_text p.cells a)), length-append (decl_at p.cells cell) (codes " in "))
  agent_length (Hence a) locals h = let body = agent_length a locals h in let unit = unit_length a (agent_text p.cells a) in omega arith
  agent_length (Next a) locals h = let body = agent_length a locals h in let unit = unit_length a (agent_text p.cells a) in omega arith

-- what stands in the front of a list stands in the list
front-get : (xs : List CellDecl) (n i : ℕ) (d : CellDecl) → slice_get (take n xs) i ≡ Some d → slice_get xs i ≡ Some d
front-get [] zero i d e = e
front-get [] (suc n) i d e = e
front-get (x ∷ xs) zero i d e = absurd (cc)
front-get (x ∷ xs) (suc n) zero d e = e
front-get (x ∷ xs) (suc n) (suc i) d e = front-get xs n i d e

pub text_length : (p : CoreProgram) → IsWellFormed p → HasGoodNames p → length (core_text p) ≤ longest_core_text
text_length p is good =
    let root = root_tree p.nodes is.tree in
    let nodes = ap length is.tree.1 ∙ length-listing 0 is.tree.0 ∙ ap size (sym root) in
    let few_nodes = is.limits.few_nodes in
    let few = is.limits.few_declared in
    let agent = agent_length p good (agent_at p.nodes 0) [] is.scoped in
    let decls = decls_length (take p.declared p.cells) (λ i d e. (good.names i d (front-get p.cells p.declared i d e)).short) in
    let front = length-take-le p.declared p.cells is.limits.within in
    omega (arith, nodes, length-append (decl_lines (take p.declared p.cells) ++ agent_text p.cells (agent_at p.nodes 0)) (codes "\n"), length-append (decl_lines (take p.declared p.cells)) (agent_text p.cells (agent_at p.nodes 0)))
