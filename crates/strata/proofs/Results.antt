-- What the search for the first case and the table of the bounds say of a program.
use Rattle.std.proofs.Common.{◌≡◌, inl, ℕ, ◌+◌, ◌<◌, Bool, true, false, List, ◌∷◌, Some, None, Vec, length, take, refl, sym, ap, ◌∙◌, subst, arith}
use Rattle.std.specs.Prelude.{Option, All, slice_index, slice_index_or}
use Rattle.std.specs.declared.alloc.Global.{Global}
use Rattle.std.proofs.lemmas.List.{length-take-le, get_or-take}
use Rattle.agent_core.specs.Limits.{most_cells}
use Rattle.agent_core.specs.declared.node.CellDecl.{CellDecl}
use Rattle.agent_core.specs.declared.node.Node.{Node}
use Rattle.agent_core.specs.Programs.{CoreProgram}
use Rattle.agent_core.specs.WellFormed.{IsWellFormed}
use Rattle.agent_core.specs.Strata.{Edge, edges, cases, In, Each, Stratifies, IsLeastTable, HasNoTable, IsFirstCase}
use Rattle.agent_core.specs.Strata as strata
use Rattle.order_tables.specs.declared.bound.Bound.{Bound}
use Rattle.order_tables.specs.Bounds.{Satisfies, Within, HasTable, IsLeast}
use Rattle.order_tables.specs.Reaching.{AreReaching}
use Rattle.order_tables.proofs.Lists.{all_by, any_default}
use Rattle.order_tables.proofs.Spread.{true_false}
use Rattle.order_tables.proofs.Tables.{IsBad}
use Rattle.strata.specs.declared.search.Case.{Case}
use Rattle.strata.specs.declared.fault.StrataFault.TheVariants.{NotStratified}
use Rattle.strata.specs.Items.{program_bounds}
use Rattle.strata.specs.Search.{first_that, reaches_back, edge_case, named}
use Rattle.strata.specs.Answers.{NamesFirstCase, HasNoFirstCase}
use Rattle.strata.proofs.Members.{in_left, in_right, in_each, each_in, map_in, contains_in}
use Rattle.strata.proofs.EdgeBounds.{edge_bound, edge_bounds, from_path, back-none, edges-inside, good-table, least-inside}
use Rattle.strata.proofs.Carried.{bounds-meet_edges, edges-bounds}
use Rattle.strata.proofs.Reached.{bounds-edges}
use Rattle.strata.proofs.Extended.{full, full-meets, at_cell, bounds-within}
use Rattle.strata.proofs.CaseEdges.{case-edge, edge-case}
use Rattle.strata.proofs.Searches.{IsFirst, first-is, none-is}

sum_of : (p : CoreProgram) (cs : List CellDecl) (ns : List Node) → cs ≡ p.cells → ns ≡ p.nodes → length cs + length ns ≡ length p.cells + length p.nodes
sum_of p cs ns ec en = ap (λ (xs : List CellDecl). length xs + length ns) ec ∙ ap (λ (xs : List Node). length p.cells + length xs) en

-- what was found of lists that are the program's
pub rows_are : (p : CoreProgram) (cs : List CellDecl) (ns : List Node) (list : List Bound) (rows same : List (Vec Bool Global)) → cs ≡ p.cells → ns ≡ p.nodes → list ≡ program_bounds p → same ≡ rows
    → AreReaching list (length cs + length ns) (length cs) rows → AreReaching (program_bounds p) (length p.cells + length p.nodes) (length p.cells) same
rows_are p cs ns list rows same ec en el er h =
    subst (AreReaching (program_bounds p) (length p.cells + length p.nodes) (length p.cells)) (sym er) (subst (λ (n : ℕ). AreReaching (program_bounds p) (length p.cells + length p.nodes) n rows) (ap length ec)
    (subst (λ (n : ℕ). AreReaching (program_bounds p) n (length cs) rows) (sum_of p cs ns ec en) (subst (λ (xs : List Bound). AreReaching xs (length cs + length ns) (length cs) rows) el h)))

pub list-within : (p : CoreProgram) → IsWellFormed p → (cs : List CellDecl) (ns : List Node) (list : List Bound) → cs ≡ p.cells → ns ≡ p.nodes → list ≡ program_bounds p → All (Within (length cs + length ns)) list
list-within p is cs ns list ec en el =
    subst (λ (n : ℕ). All (Within n) list) (sym (sum_of p cs ns ec en)) (subst (λ (es : List Bound). All (Within (length p.cells + length p.nodes)) es) (sym el) (bounds-within p is))

module _ (p : CoreProgram) (is : IsWellFormed p) (rows : List (Vec Bool Global)) (are : AreReaching (program_bounds p) (length p.cells + length p.nodes) (length p.cells) rows) where
  abbrev test : Edge → Bool
  test e = reaches_back rows (edge_case e)

  -- by the rows, the told cell of an edge reaches the asked one exactly where it does by edges
  back : (e : Edge) → In e (edges p) → test e ≡ true → strata.Reaches (edges p) e.told e.guard.cell
  back e i h = let w = in_each _ (edges p) e (edges-inside p is) i in bounds-edges p e.told is e.guard.cell w.1 w.0 ((are.each e.told e.guard.cell w.1).0 h)

  not_back : (e : Edge) → In e (edges p) → test e ≡ false → strata.Reaches (edges p) e.told e.guard.cell → ⊥
  not_back e i h r = let w = in_each _ (edges p) e (edges-inside p is) i in true_false (sym ((are.each e.told e.guard.cell w.1).1 (edges-bounds p is.tree e.told e.guard.cell r)) ∙ h)

  -- WHERE ONE IS FOUND

  first_case : (e : Edge) → IsFirst test (cases p) e → IsFirstCase p e × HasNoTable p
  first_case e f =
      let i : In e (cases p) = subst (In e) (sym f.stands) (in_right e f.before (e ∷ f.later) (inl refl)) in
      let edge = case-edge p is e i in
      let bad = back e edge.0 f.passes in (
        record {
          before = f.before;
          later = f.later;
          stands = f.stands;
          bad = bad;
          none = each_in (λ (x : Edge). strata.Reaches (edges p) x.told x.guard.cell → ⊥) f.before (λ x j.
              not_back x (case-edge p is x (subst (In x) (sym f.stands) (in_left x f.before (e ∷ f.later) j))).0 (in_each (λ (y : Edge). test y ≡ false) f.before x f.none j));
        },
        back-none p e edge.0 edge.1 bad,
      )

  pub found-case : (node : ℕ) (c : Case) → Some (node, c) ≡ named (first_that test (cases p)) → NamesFirstCase p (NotStratified c.guard c.told node) × HasNoTable p
  found-case node c h = go (first_that test (cases p)) refl h
    where
      go : (o : Option Edge) → first_that test (cases p) ≡ o → Some (node, c) ≡ named o → NamesFirstCase p (NotStratified c.guard c.told node) × HasNoTable p
      go None f e = absurd (cc)
      go (Some x) f e =
          let r = first_case x (first-is test (cases p) x f) in
          let same : (node, c) ≡ (x.guard.node, edge_case x) = cc in
          ((x, r.0, ap (λ (y : ℕ × Case). y.1.guard) (sym same), ap (λ (y : ℕ × Case). y.1.told) (sym same), ap (λ (y : ℕ × Case). y.0) (sym same)), r.1)

  -- WHERE NONE IS FOUND

  module _ (h : None ≡ named (first_that test (cases p))) where
    all_pass : Each (λ e. test e ≡ false) (cases p)
    all_pass = go (first_that test (cases p)) refl h
      where
        go : (o : Option Edge) → first_that test (cases p) ≡ o → None ≡ named o → Each (λ e. test e ≡ false) (cases p)
        go None f e = none-is test (cases p) f
        go (Some x) f e = absurd (cc)

    pub no_first : HasNoFirstCase p
    no_first e f =
        let i : In e (cases p) = subst (In e) (sym f.stands) (in_right e f.before (e ∷ f.later) (inl refl)) in
        not_back e (case-edge p is e i).0 (in_each (λ (x : Edge). test x ≡ false) (cases p) e all_pass i) f.bad

    none_bad : All (λ a. IsBad (edge_bounds p) a → ⊥) (edge_bounds p)
    none_bad = all_by (λ a. IsBad (edge_bounds p) a → ⊥) (edge_bounds p) (λ a i bad.
        let x = map_in edge_bound a (edges p) (contains_in a (edge_bounds p) i) in
        let own = subst (IsBad (edge_bounds p)) x.2 bad in
        let case = edge-case p is x.0 x.1 own.0 in
        not_back x.0 x.1 (in_each (λ (y : Edge). test y ≡ false) (cases p) x.0 all_pass case) (own.1.0, from_path (edges p) own.1.0 x.0.told x.0.guard.cell own.1.1))

    pub has_table : HasTable (program_bounds p)
    has_table = let t = good-table p is none_bad in (full p t.0 t.1, full-meets p t.0 t.1 is)

-- THE TABLE

module _ (p : CoreProgram) (is : IsWellFormed p) (t : List ℕ) (long : length t ≡ length p.cells + length p.nodes) (meets : All (Satisfies t) (program_bounds p)) (least : IsLeast (program_bounds p) t) where
  abbrev cells : ℕ
  cells = length p.cells

  -- the cells' part of it
  abbrev cut : List ℕ
  cut = take cells t

  front : (c : ℕ) → c < cells → slice_index cut c ≡ slice_index t c
  front c lt = get_or-take cells t c 0 lt

  cut-meets : (e : Edge) → In e (edges p) → strata.Meets cut e
  cut-meets e i =
      let w = in_each _ (edges p) e (edges-inside p is) i in
      let a = front e.guard.cell w.0 in
      let b = front e.told w.1 in
      let m : strata.Meets t e = in_each (strata.Meets t) (edges p) e (bounds-meet_edges p is.tree t meets) i in
      omega arith

  cut-stratifies : Stratifies p cut
  cut-stratifies = record { long = length-take-le cells t (omega arith); each = each_in (strata.Meets cut) (edges p) cut-meets }

  cut-least : IsLeastTable p cut
  cut-least other s c lt =
      let h = least (full p other s) (full-meets p other s is) c (omega arith) in
      let a = front c lt in
      let b = at_cell p other s c lt in
      omega arith

  cut-small : All (λ n. n < most_cells) cut
  cut-small k d lt =
      let l = cut-stratifies.long in
      let few = is.limits.few_cells in
      let below = least-inside p is cut cut-stratifies cut-least k (omega arith) in
      let same : slice_index_or cut k d ≡ slice_index cut k = any_default cut k d 0 lt in
      omega arith

-- of lists that are the program's
pub table-is : (p : CoreProgram) → IsWellFormed p → (cs : List CellDecl) (ns : List Node) (list : List Bound) (t found : List ℕ) → cs ≡ p.cells → ns ≡ p.nodes → list ≡ program_bounds p
    → length t ≡ length cs + length ns → All (Satisfies t) list → IsLeast list t → found ≡ take (length cs) t
    → Stratifies p found × IsLeastTable p found × All (λ n. n < most_cells) found
table-is p is cs ns list t found ec en el long meets least ef =
    let same : found ≡ take (length p.cells) t = ef ∙ ap (λ (xs : List CellDecl). take (length xs) t) ec in
    let whole = long ∙ sum_of p cs ns ec en in
    let own : All (Satisfies t) (program_bounds p) = subst (λ (es : List Bound). All (Satisfies t) es) el meets in
    let low : IsLeast (program_bounds p) t = subst (λ (es : List Bound). IsLeast es t) el least in
    subst (λ (xs : List ℕ). Stratifies p xs × IsLeastTable p xs × All (λ n. n < most_cells) xs) (sym same) (cut-stratifies p is t whole own low, cut-least p is t whole own low, cut-small p is t whole own low)
