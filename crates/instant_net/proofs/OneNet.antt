-- Roots have one net at an instant: its cells, guards and leaves are what their names, their asks and kinds, and their links say.
use Rattle.std.proofs.Common.{◌≡◌, ℕ, zero, suc, ◌+◌, ◌<◌, ◌≤◌, List, [], ◌∷◌, ◌++◌, length, map, Some, None, refl, sym, ap, ◌∙◌, subst, arith, ◌⊎◌, inl, inr}
use Rattle.std.specs.Prelude.{Option, All, Contains, flat_map, slice_get, slice_index, slice_index_or, if◌then◌else◌}
use Rattle.std.specs.declared.cmp.Ordering.TheVariants.{Less}
use Rattle.std.proofs.lemmas.List.Elements.{All-contains}
use Rattle.token_system.specs.declared.name.CellName.{CellName}
use Rattle.token_system.specs.declared.name.CellName.TheVariants.{Declared}
use Rattle.token_system.specs.declared.cell.Cell.{Cell}
use Rattle.token_system.specs.declared.cell.Token.{Token}
use Rattle.token_system.specs.Names.{name_cmp, name_total}
use Rattle.agent_core.specs.declared.node.Closure.{Closure}
use Rattle.agent_core.specs.declared.node.CellDecl.{CellDecl}
use Rattle.agent_core.specs.Programs.{CoreProgram}
use Rattle.agent_core.specs.Names.{Names, cell_named}
use Rattle.agent_core.specs.Strata.{Each}
use Rattle.agent_core.proofs.OneStore.{Names-one}
use Rattle.agent_laws.proofs.Eachs.{Each-append, all_each, each_all}
use Rattle.instant_net.specs.declared.parts.Atom.{Atom}
use Rattle.instant_net.specs.declared.parts.NetCell.{NetCell}
use Rattle.instant_net.specs.declared.parts.NetGuard.{NetGuard}
use Rattle.instant_net.specs.declared.parts.NetLeaf.{NetLeaf}
use Rattle.instant_net.specs.declared.parts.LeafKind.{LeafKind}
use Rattle.instant_net.specs.declared.parts.LeafKind.TheVariants as kinds
use Rattle.instant_net.specs.NamedLeaves.{Named, NamedGuard, Kind, NamedLeaf, told_by, names_of}
use Rattle.agent_core.specs.Occurrences.{Occurrence}
use Rattle.instant_net.specs.Nets.{Flat, AtomFits, named_at, named_atoms, named_guard, named_kind, named_leaf, named_occurrence, net_leaves, path_to, paths_from, atoms_of, IsLinkBelow}
use Rattle.instant_net.specs.Links.{GuardLinks, links_of}
use Rattle.instant_net.specs.Opened.{IsCellOf, AreInOrder, IsNetOf}
use Rattle.token_system.specs.declared.cell.Kind.{Kind as CellKind}
use Rattle.token_system.specs.Tokens.{is_signal}
use Rattle.instant_net.specs.WordParts.{word_of}
use Rattle.instant_net.specs.Words.{own_hows, signals, AreLaidOutFrom}
use Rattle.instant_net.specs.Collecting.{cell_names}
use Rattle.instant_net.proofs.Lists.{same-elements, Contains-map, All-by_get}
use Rattle.instant_net.proofs.CellPlaces.{has-place}
use Rattle.instant_net.proofs.StoreLookups.{first_name, in_order_tail, less_differs, names_apart}
use Rattle.instant_net.proofs.PartTells.{split}

-- NAMES IN ORDER

-- a name of these cells is the first one, or a later one, and then it lies behind the first
first_or_later : (c : NetCell) (cells : List NetCell) (n : CellName) → AreInOrder (c ∷ cells) → Contains (cell_names (c ∷ cells)) n → (c.name ≡ n) ⊎ (Contains (cell_names cells) n × (name_cmp c.name n ≡ Less))
first_or_later c cells n o (zero, lt, e) = inl e
first_or_later c cells n o (suc k, lt, e) =
    let there : Contains (cell_names cells) n = (k, omega arith, e) in
    let at = has-place cells n there in
    inr (there, subst (λ (q : CellName). name_cmp c.name q ≡ Less) at.1.named (first_name c cells at.0 at.1.found o at.1.stands))

abbrev Within : List NetCell → List NetCell → Type 0
Within cells cells' = (n : CellName) → Contains (cell_names cells) n → Contains (cell_names cells') n

-- cells of the same names, each list in order, have the same list of names
names_same : (cells cells' : List NetCell) → AreInOrder cells → AreInOrder cells' → Within cells cells' → Within cells' cells → cell_names cells ≡ cell_names cells'
names_same [] [] o o' h h' = refl
names_same [] (d ∷ ds) o o' h h' = absurd (let x = h' d.name (0, omega arith, refl) in let lt = x.1 in omega arith)
names_same (c ∷ cs) [] o o' h h' = absurd (let x = h c.name (0, omega arith, refl) in let lt = x.1 in omega arith)
names_same (c ∷ cs) (d ∷ ds) o o' h h' = ap (λ (n : CellName). n ∷ cell_names cs) same ∙ ap (λ ns. d.name ∷ ns) (names_same cs ds (in_order_tail c cs o) (in_order_tail d ds o') down up)
  where
    heads : (d.name ≡ c.name) ⊎ (Contains (cell_names ds) c.name × (name_cmp d.name c.name ≡ Less)) → (c.name ≡ d.name) ⊎ (Contains (cell_names cs) d.name × (name_cmp c.name d.name ≡ Less)) → c.name ≡ d.name
    heads (inl e) g = sym e
    heads (inr f) (inl e) = e
    heads (inr f) (inr g) = absurd (less_differs c.name c.name (name_total.trans c.name d.name c.name g.1 f.1) refl)

    same : c.name ≡ d.name
    same = heads (first_or_later d ds c.name o' (h c.name (0, omega arith, refl))) (first_or_later c cs d.name o (h' d.name (0, omega arith, refl)))

    behind : (x : NetCell) (xs : List NetCell) (n : CellName) → AreInOrder (x ∷ xs) → Contains (cell_names xs) n → name_cmp x.name n ≡ Less
    behind x xs n o there =
        let at = has-place xs n there in
        subst (λ (q : CellName). name_cmp x.name q ≡ Less) at.1.named (first_name x xs at.0 at.1.found o at.1.stands)

    past : (x : NetCell) (xs : List NetCell) (n : CellName) → name_cmp x.name n ≡ Less → (x.name ≡ n) ⊎ (Contains (cell_names xs) n × (name_cmp x.name n ≡ Less)) → Contains (cell_names xs) n
    past x xs n less (inl e) = absurd (less_differs x.name n less e)
    past x xs n less (inr f) = f.0

    down : Within cs ds
    down n there =
        past d ds n (subst (λ (q : CellName). name_cmp q n ≡ Less) same (behind c cs n o there))
        (first_or_later d ds n o' (h n (let k = there.0 in let lt = there.1 in (suc k, omega arith, there.2))))

    up : Within ds cs
    up n there =
        past c cs n (subst (λ (q : CellName). name_cmp q n ≡ Less) (sym same) (behind d ds n o' there))
        (first_or_later c cs n o (h' n (let k = there.0 in let lt = there.1 in (suc k, omega arith, there.2))))

-- CELLS

first_of : {X : Type 0} (x y : X) (xs ys : List X) → x ∷ xs ≡ y ∷ ys → x ≡ y
first_of x y xs ys e = cc

rest_of : {X : Type 0} (x y : X) (xs ys : List X) → x ∷ xs ≡ y ∷ ys → xs ≡ ys
rest_of x y xs ys e = cc

module _ (p : CoreProgram) (table : List ℕ) where
  one_cell : (c d : NetCell) → IsCellOf p table c → IsCellOf p table d → c.name ≡ d.name → c.first ≡ d.first → c.word ≡ d.word → c ≡ d
  one_cell c d x y same first word =
      let decl : x.decl ≡ y.decl = Names-one p d.name x.decl y.decl (subst (λ (n : CellName). Names p n x.decl) same x.named) y.named in
      let cell : c.cell ≡ d.cell = x.cell ∙ ap (λ (z : CellDecl). z.cell) decl ∙ sym y.cell in
      let stratum : c.stratum ≡ d.stratum = x.stratum ∙ ap (λ (n : CellName). slice_index table (cell_named p n)) same ∙ sym y.stratum in
      ap (λ (n : CellName). record { name = n; cell = c.cell; stratum = c.stratum; first = c.first; word = c.word }) same
      ∙ ap (λ (z : Cell). record { name = d.name; cell = z; stratum = c.stratum; first = c.first; word = c.word }) cell
      ∙ ap (λ (s : ℕ). record { name = d.name; cell = d.cell; stratum = s; first = c.first; word = c.word }) stratum
      ∙ ap (λ (f : ℕ). record { name = d.name; cell = d.cell; stratum = d.stratum; first = f; word = c.word }) first
      ∙ ap (λ (w : ℕ). record { name = d.name; cell = d.cell; stratum = d.stratum; first = d.first; word = w }) word

  one_kind : (c d : NetCell) → IsCellOf p table c → IsCellOf p table d → c.name ≡ d.name → c.cell.kind ≡ d.cell.kind
  one_kind c d x y same =
      let decl : x.decl ≡ y.decl = Names-one p d.name x.decl y.decl (subst (λ (n : CellName). Names p n x.decl) same x.named) y.named in
      ap (λ (z : Cell). z.kind) (x.cell ∙ ap (λ (z : CellDecl). z.cell) decl ∙ sym y.cell)

  signals_same : (cells cells' : List NetCell) → Each (IsCellOf p table) cells → Each (IsCellOf p table) cells' → cell_names cells ≡ cell_names cells' → signals cells ≡ signals cells'
  signals_same [] [] h h' e = refl
  signals_same [] (d ∷ ds) h h' e = absurd (cc)
  signals_same (c ∷ cs) [] h h' e = absurd (cc)
  signals_same (c ∷ cs) (d ∷ ds) h h' e =
      ap (λ (k : CellKind). if is_signal k then suc (signals cs) else signals cs) (one_kind c d h.0 h'.0 (first_of c.name d.name (cell_names cs) (cell_names ds) e))
      ∙ ap (λ n. if is_signal d.cell.kind then suc n else n) (signals_same cs ds h.1 h'.1 (rest_of c.name d.name (cell_names cs) (cell_names ds) e))

  cells_same : (cells cells' : List NetCell) (s q r : ℕ) → Each (IsCellOf p table) cells → Each (IsCellOf p table) cells' → AreLaidOutFrom s q r cells → AreLaidOutFrom s q r cells' → cell_names cells ≡ cell_names cells' → cells ≡ cells'
  cells_same [] [] s q r h h' l l' e = refl
  cells_same [] (d ∷ ds) s q r h h' l l' e = absurd (cc)
  cells_same (c ∷ cs) [] s q r h h' l l' e = absurd (cc)
  cells_same (c ∷ cs) (d ∷ ds) s q r h h' l l' e =
      let name = first_of c.name d.name (cell_names cs) (cell_names ds) e in
      let kind = one_kind c d h.0 h'.0 name in
      let first : c.first ≡ d.first = l.0 ∙ ap (λ (k : CellKind). if is_signal k then q else r) kind ∙ sym l'.0 in
      let same : c ≡ d = one_cell c d h.0 h'.0 name first (l.1 ∙ ap (word_of s) first ∙ sym l'.1) in
      ap (λ (x : NetCell). x ∷ cs) same
      ∙ ap (λ xs. d ∷ xs)
      (cells_same cs ds s (if is_signal d.cell.kind then suc q else q) (r + length (own_hows d.cell.kind)) h.1 h'.1
      (subst (λ (k : CellKind). AreLaidOutFrom s (if is_signal k then suc q else q) (r + length (own_hows k)) cs) kind l.2) l'.2
      (rest_of c.name d.name (cell_names cs) (cell_names ds) e))

-- THE NAMES THAT A NET'S LEAVES SPEAK OF

module _ (cells : List NetCell) where
  abbrev HasName : Named → Type 0
  HasName x = Contains (cell_names cells) x.name

  atoms_there : (atoms : List Atom) → Each HasName (named_atoms cells atoms)
  atoms_there [] = tt
  atoms_there (a ∷ atoms) = Each-append HasName (named_at (slice_get cells a.cell) a) (named_atoms cells atoms) (at (slice_get cells a.cell) refl) (atoms_there atoms)
    where
      at : (o : Option NetCell) → slice_get cells a.cell ≡ o → Each HasName (named_at o a)
      at None e = tt
      at (Some c) e = (Contains-map (λ (x : NetCell). x.name) cells c (same-elements cells c a.cell e), tt)

  abbrev AsksThere : NamedGuard → Type 0
  AsksThere g = Each HasName g.ask

  path_at : (paths : List (List NamedGuard)) (k : ℕ) → Each (Each AsksThere) paths → Each AsksThere (slice_index_or paths k [])
  path_at [] k h = tt
  path_at (y ∷ paths) zero h = h.0
  path_at (y ∷ paths) (suc k) h = path_at paths k h.1

  path_there : (paths : List (List NamedGuard)) (o : Option ℕ) → Each (Each AsksThere) paths → Each AsksThere (path_to paths o)
  path_there paths None h = tt
  path_there paths (Some k) h = path_at paths k h

  paths_there : (paths : List (List NamedGuard)) (guards : List NetGuard) → Each (Each AsksThere) paths → Each (Each AsksThere) (paths_from cells paths guards)
  paths_there paths [] h = h
  paths_there paths (g ∷ guards) h =
      let x : List NamedGuard = path_to paths g.above ++ named_guard cells g ∷ [] in
      paths_there (paths ++ x ∷ []) guards
      (Each-append (Each AsksThere) paths (x ∷ []) h (Each-append AsksThere (path_to paths g.above) (named_guard cells g ∷ []) (path_there paths g.above h) (atoms_there g.ask, tt), tt))

  told_there : (kind : LeafKind) → Each HasName (told_by (named_kind cells kind))
  told_there (kinds.Tells told) = atoms_there told
  told_there kinds.Idle = tt
  told_there (kinds.StartsHence c) = tt
  told_there (kinds.StartsNext c) = tt

  names_there : (xs : List Named) → Each HasName xs → Each (Contains (cell_names cells)) (map (λ x. x.name) xs)
  names_there [] h = tt
  names_there (x ∷ xs) h = (h.0, names_there xs h.1)

  asks_there : (path : List NamedGuard) → Each AsksThere path → Each HasName (flat_map (λ g. g.ask) path)
  asks_there [] h = tt
  asks_there (g ∷ path) h = Each-append HasName g.ask (flat_map (λ (x : NamedGuard). x.ask) path) h.0 (asks_there path h.1)

spoken_there : (net : Flat) (ls : List NetLeaf) → Each (Contains (cell_names net.cells)) (flat_map names_of (map (named_leaf net) ls))
spoken_there net [] = tt
spoken_there net (l ∷ ls) =
    let path : List NamedGuard = (named_leaf net l).path in
    let told : List Named = told_by (named_kind net.cells l.kind) in
    Each-append (Contains (cell_names net.cells)) (names_of (named_leaf net l)) (flat_map names_of (map (named_leaf net) ls))
    (names_there net.cells (told ++ flat_map (λ (g : NamedGuard). g.ask) path)
    (Each-append (HasName net.cells) told (flat_map (λ (g : NamedGuard). g.ask) path) (told_there net.cells l.kind)
    (asks_there net.cells path (path_there net.cells (paths_from net.cells [] net.guards) l.last (paths_there net.cells [] net.guards tt)))))
    (spoken_there net ls)

-- GUARDS AND LEAVES, OVER THE SAME CELLS

abbrev kind_of : List NetCell → NetLeaf → Kind
kind_of cells l = named_kind cells l.kind

module _ (cells : List NetCell) (order : AreInOrder cells) where
  one_place : (i j : ℕ) (c d : NetCell) → slice_get cells i ≡ Some c → slice_get cells j ≡ Some d → c.name ≡ d.name → i ≡ j
  one_place i j c d e f same = go (split i j) (split j i)
    where
      go : (i < j) ⊎ (j ≤ i) → (j < i) ⊎ (i ≤ j) → i ≡ j
      go (inl a) b = absurd (names_apart cells i j c d order e f a same)
      go (inr a) (inl b) = absurd (names_apart cells j i d c order f e b (sym same))
      go (inr a) (inr b) = omega arith

  abbrev named_as : NetCell → Atom → Named
  named_as c a = record { name = c.name; cell = c.cell; token = a.token }

  named_first : (a : Atom) (atoms : List Atom) (c : NetCell) → slice_get cells a.cell ≡ Some c → named_atoms cells (a ∷ atoms) ≡ named_as c a ∷ named_atoms cells atoms
  named_first a atoms c e = ap (λ (o : Option NetCell). named_at o a ++ named_atoms cells atoms) e

  atoms_same : (xs ys : List Atom) → Each (AtomFits cells) xs → Each (AtomFits cells) ys → named_atoms cells xs ≡ named_atoms cells ys → xs ≡ ys
  atoms_same [] [] f g e = refl
  atoms_same [] (b ∷ ys) f g e = absurd (let h = e ∙ named_first b ys g.0.0 g.0.1 in cc)
  atoms_same (a ∷ xs) [] f g e = absurd (let h = sym (named_first a xs f.0.0 f.0.1) ∙ e in cc)
  atoms_same (a ∷ xs) (b ∷ ys) f g e =
      let c : NetCell = f.0.0 in
      let d : NetCell = g.0.0 in
      let both : named_as c a ∷ named_atoms cells xs ≡ named_as d b ∷ named_atoms cells ys = sym (named_first a xs c f.0.1) ∙ e ∙ named_first b ys d g.0.1 in
      let one : named_as c a ≡ named_as d b = first_of (named_as c a) (named_as d b) (named_atoms cells xs) (named_atoms cells ys) both in
      let place : a.cell ≡ b.cell = one_place a.cell b.cell c d f.0.1 g.0.1 (ap (λ (x : Named). x.name) one) in
      let token : a.token ≡ b.token = ap (λ (x : Named). x.token) one in
      ap (λ (k : ℕ). record { cell = k; token = a.token } ∷ xs) place ∙ ap (λ (t : Token). record { cell = b.cell; token = t } ∷ xs) token
      ∙ ap (λ zs. b ∷ zs) (atoms_same xs ys f.1 g.1 (rest_of (named_as c a) (named_as d b) (named_atoms cells xs) (named_atoms cells ys) both))

  guard_same : (g h : NetGuard) → All (AtomFits cells) g.ask → All (AtomFits cells) h.ask → named_guard cells g ≡ named_guard cells h → links_of g ≡ links_of h → g ≡ h
  guard_same g h f f' e l =
      let ask : g.ask ≡ h.ask = atoms_same g.ask h.ask (all_each (AtomFits cells) g.ask f) (all_each (AtomFits cells) h.ask f') (ap (λ (x : NamedGuard). x.ask) e) in
      ap (λ s. record { negative = s; ask = g.ask; above = g.above; first = g.first; past = g.past }) (ap (λ (x : NamedGuard). x.negative) e)
      ∙ ap (λ xs. record { negative = h.negative; ask = xs; above = g.above; first = g.first; past = g.past }) ask
      ∙ ap (λ (x : GuardLinks). record { negative = h.negative; ask = h.ask; above = x.above; first = x.first; past = x.past }) l

  guards_same : (gs hs : List NetGuard) → Each (λ g. All (AtomFits cells) g.ask) gs → Each (λ g. All (AtomFits cells) g.ask) hs
      → map (named_guard cells) gs ≡ map (named_guard cells) hs → map links_of gs ≡ map links_of hs → gs ≡ hs
  guards_same [] [] f f' e l = refl
  guards_same [] (h ∷ hs) f f' e l = absurd (cc)
  guards_same (g ∷ gs) [] f f' e l = absurd (cc)
  guards_same (g ∷ gs) (h ∷ hs) f f' e l =
      ap (λ (x : NetGuard). x ∷ gs) (guard_same g h f.0 f'.0 (first_of _ _ _ _ e) (first_of _ _ _ _ l))
      ∙ ap (λ xs. h ∷ xs) (guards_same gs hs f.1 f'.1 (rest_of _ _ _ _ e) (rest_of _ _ _ _ l))

  kind_same : (x y : LeafKind) → All (AtomFits cells) (atoms_of x) → All (AtomFits cells) (atoms_of y) → named_kind cells x ≡ named_kind cells y → x ≡ y
  kind_same kinds.Idle kinds.Idle f g e = refl
  kind_same (kinds.Tells xs) (kinds.Tells ys) f g e =
      ap kinds.Tells (atoms_same xs ys (all_each (AtomFits cells) xs f) (all_each (AtomFits cells) ys g) (let h : named_atoms cells xs ≡ named_atoms cells ys = cc in h))
  kind_same (kinds.StartsHence c) (kinds.StartsHence d) f g e = ap kinds.StartsHence (let h : c ≡ d = cc in h)
  kind_same (kinds.StartsNext c) (kinds.StartsNext d) f g e = ap kinds.StartsNext (let h : c ≡ d = cc in h)
  kind_same kinds.Idle (kinds.Tells ys) f g e = absurd (cc)
  kind_same kinds.Idle (kinds.StartsHence d) f g e = absurd (cc)
  kind_same kinds.Idle (kinds.StartsNext d) f g e = absurd (cc)
  kind_same (kinds.Tells xs) kinds.Idle f g e = absurd (cc)
  kind_same (kinds.Tells xs) (kinds.StartsHence d) f g e = absurd (cc)
  kind_same (kinds.Tells xs) (kinds.StartsNext d) f g e = absurd (cc)
  kind_same (kinds.StartsHence c) kinds.Idle f g e = absurd (cc)
  kind_same (kinds.StartsHence c) (kinds.Tells ys) f g e = absurd (cc)
  kind_same (kinds.StartsHence c) (kinds.StartsNext d) f g e = absurd (cc)
  kind_same (kinds.StartsNext c) kinds.Idle f g e = absurd (cc)
  kind_same (kinds.StartsNext c) (kinds.Tells ys) f g e = absurd (cc)
  kind_same (kinds.StartsNext c) (kinds.StartsHence d) f g e = absurd (cc)

  leaves_same : (ls ms : List NetLeaf) → Each (λ l. All (AtomFits cells) (atoms_of l.kind)) ls → Each (λ l. All (AtomFits cells) (atoms_of l.kind)) ms
      → map (kind_of cells) ls ≡ map (kind_of cells) ms → map (λ l. l.last) ls ≡ map (λ l. l.last) ms → ls ≡ ms
  leaves_same [] [] f g e l = refl
  leaves_same [] (y ∷ ys) f g e l = absurd (cc)
  leaves_same (x ∷ xs) [] f g e l = absurd (cc)
  leaves_same (x ∷ xs) (y ∷ ys) f g e l =
      ap (λ (k : LeafKind). record { kind = k; last = x.last } ∷ xs) (kind_same x.kind y.kind f.0 g.0 (first_of _ _ _ _ e))
      ∙ ap (λ (o : Option ℕ). record { kind = y.kind; last = o } ∷ xs) (first_of _ _ _ _ l)
      ∙ ap (λ zs. y ∷ zs) (leaves_same xs ys f.1 g.1 (rest_of _ _ _ _ e) (rest_of _ _ _ _ l))

-- what is read off the named guards and leaves
guards_read : (net : Flat) (gs : List NetGuard) → map (λ o. o.guard) (map (named_occurrence net) gs) ≡ map (named_guard net.cells) gs
guards_read net [] = refl
guards_read net (g ∷ gs) = ap (λ xs. named_guard net.cells g ∷ xs) (guards_read net gs)

kinds_read : (net : Flat) (ls : List NetLeaf) → map (λ l. l.kind) (map (named_leaf net) ls) ≡ map (kind_of net.cells) ls
kinds_read net [] = refl
kinds_read net (l ∷ ls) = ap (λ xs. named_kind net.cells l.kind ∷ xs) (kinds_read net ls)

-- NETS

module _ (p : CoreProgram) (table : List ℕ) (rs : List Closure) (t : ℕ) where
  names_within : (net net' : Flat) → IsNetOf p table rs t net → IsNetOf p table rs t net' → Within net.cells net'.cells
  names_within net net' is is' n there =
      let at = has-place net.cells n there in
      subst (Contains (cell_names net'.cells)) at.1.named (cell_within at.1.found (same-elements net.cells at.1.found at.0 at.1.stands))
    where
      cell_within : (c : NetCell) → Contains net.cells c → Contains (cell_names net'.cells) c.name
      cell_within c own = go (All-contains (λ (x : NetCell). ((k : ℕ) × (x.name ≡ Declared k)) ⊎ Contains (flat_map names_of (net_leaves net)) x.name) net.cells c is.cells.spoken own)
        where
          go : ((k : ℕ) × (c.name ≡ Declared k)) ⊎ Contains (flat_map names_of (net_leaves net)) c.name → Contains (cell_names net'.cells) c.name
          go (inl (k, e)) =
              let one = All-contains (IsCellOf p table) net.cells c is.cells.cells own in
              let named : Names p (Declared k) one.decl = subst (λ (q : CellName). Names p q one.decl) e one.named in
              let d = is'.cells.declared k named.0 in
              subst (Contains (cell_names net'.cells)) (d.2 ∙ sym e) (Contains-map (λ (x : NetCell). x.name) net'.cells d.0 (same-elements net'.cells d.0 k d.1))
          go (inr spoken) =
              let here : Contains (flat_map names_of (net_leaves net')) c.name = subst (λ ls. Contains (flat_map names_of ls) c.name) (is.leaves ∙ sym is'.leaves) spoken in
              All-contains (Contains (cell_names net'.cells)) (flat_map names_of (net_leaves net')) c.name (each_all _ _ (spoken_there net' net'.leaves)) here

  guards_fit : (net : Flat) → IsNetOf p table rs t net → Each (λ g. All (AtomFits net.cells) g.ask) net.guards
  guards_fit net is = all_each _ net.guards (All-by_get (λ g. All (AtomFits net.cells) g.ask) net.guards (λ k g at. (is.whole.guards k g at).0))

  leaves_fit : (net : Flat) → IsNetOf p table rs t net → Each (λ l. All (AtomFits net.cells) (atoms_of l.kind)) net.leaves
  leaves_fit net is = go net.leaves (all_each _ net.leaves is.whole.leaves)
    where
      go : (ls : List NetLeaf) → Each (λ l. All (AtomFits net.cells) (atoms_of l.kind) × IsLinkBelow (length net.guards) l.last) ls → Each (λ l. All (AtomFits net.cells) (atoms_of l.kind)) ls
      go [] h = tt
      go (l ∷ ls) h = (h.0.0, go ls h.1)

  pub one_net : (net net' : Flat) → IsNetOf p table rs t net → IsNetOf p table rs t net' → net ≡ net'
  one_net net net' is is' =
      ap (λ (n : ℕ). record { instant = n; strata = net.strata; cells = net.cells; guards = net.guards; leaves = net.leaves }) (is.instant ∙ sym is'.instant)
      ∙ ap (λ (n : ℕ). record { instant = net'.instant; strata = n; cells = net.cells; guards = net.guards; leaves = net.leaves }) (is.strata ∙ sym is'.strata)
      ∙ ap (λ xs. record { instant = net'.instant; strata = net'.strata; cells = xs; guards = net.guards; leaves = net.leaves }) cells
      ∙ ap (λ xs. record { instant = net'.instant; strata = net'.strata; cells = net'.cells; guards = xs; leaves = net.leaves }) guards
      ∙ ap (λ xs. record { instant = net'.instant; strata = net'.strata; cells = net'.cells; guards = net'.guards; leaves = xs }) leaves
    where
      cells : net.cells ≡ net'.cells
      cells =
          let names = names_same net.cells net'.cells is.cells.order is'.cells.order (names_within net net' is is') (names_within net' net is' is) in
          let many = signals_same p table net.cells net'.cells (all_each _ net.cells is.cells.cells) (all_each _ net'.cells is'.cells.cells) names in
          cells_same p table net.cells net'.cells (signals net.cells) 0 (signals net.cells) (all_each _ net.cells is.cells.cells) (all_each _ net'.cells is'.cells.cells) is.cells.laid_out
          (subst (λ (n : ℕ). AreLaidOutFrom n 0 n net'.cells) (sym many) is'.cells.laid_out) names

      guards : net.guards ≡ net'.guards
      guards =
          guards_same net'.cells is'.cells.order net.guards net'.guards
          (subst (λ xs. Each (λ g. All (AtomFits xs) g.ask) net.guards) cells (guards_fit net is)) (guards_fit net' is')
          (ap (λ xs. map (named_guard xs) net.guards) (sym cells) ∙ sym (guards_read net net.guards)
          ∙ ap (map (λ (o : Occurrence NamedGuard). o.guard)) (is.guards ∙ sym is'.guards) ∙ guards_read net' net'.guards)
          (is.links.guards_are ∙ sym is'.links.guards_are)

      leaves : net.leaves ≡ net'.leaves
      leaves =
          leaves_same net'.cells is'.cells.order net.leaves net'.leaves
          (subst (λ xs. Each (λ l. All (AtomFits xs) (atoms_of l.kind)) net.leaves) cells (leaves_fit net is)) (leaves_fit net' is')
          (ap (λ xs. map (kind_of xs) net.leaves) (sym cells) ∙ sym (kinds_read net net.leaves)
          ∙ ap (map (λ (l : NamedLeaf). l.kind)) (is.leaves ∙ sym is'.leaves) ∙ kinds_read net' net'.leaves)
          (is.links.leaves_are ∙ sym is'.links.leaves_are)
