-- Trees that stand behind one another, each with the list of its nodes in preorder: what is left of them behind so many nodes.
use Rattle.std.proofs.Common.{◌≡◌, ℕ, zero, suc, ◌+◌, ◌≤◌, List, [], ◌∷◌, ◌++◌, length, drop, refl, ap, sym, ◌∙◌, subst, arith}
use Rattle.std.specs.List.{flat_map}
use Rattle.std.proofs.lemmas.List.{append_assoc, length-append, drop_at, drop_all}
use Rattle.std.proofs.lemmas.List.Concat.{flat_map-append}

-- the first tree is taken apart, and its parts stand in its place
abbrev pub opened : {T : Type 0} → (T → List T) → List T → List T
opened parts [] = []
opened parts (d ∷ ds) = parts d ++ ds

-- the trees behind the first so many nodes
unfoldable pub behind : {T : Type 0} → (T → List T) → ℕ → List T → List T
behind parts zero ds = ds
behind parts (suc k) ds = opened parts (behind parts k ds)

-- the list of a tree is its first node and the lists of its parts
abbrev pub Splits : {T X : Type 0} → (T → List T) → (T → List X) → (T → X) → Type 0
Splits {T} parts list head = (d : T) → list d ≡ head d ∷ flat_map list (parts d)

pub behind-zero : {T : Type 0} (parts : T → List T) (ds : List T) → behind parts 0 ds ≡ ds
unfolding behind
behind-zero parts ds = refl

pub behind-suc : {T : Type 0} (parts : T → List T) (k : ℕ) (ds : List T) → behind parts (suc k) ds ≡ opened parts (behind parts k ds)
unfolding behind
behind-suc parts k ds = refl

drop-suc : {X : Type 0} (k : ℕ) (xs : List X) → drop (suc k) xs ≡ drop 1 (drop k xs)
drop-suc zero xs = refl
drop-suc (suc k) [] = refl
drop-suc (suc k) (x ∷ xs) = drop-suc k xs

list-opened : {T X : Type 0} (parts : T → List T) (list : T → List X) (head : T → X) → Splits parts list head → (ds : List T) → flat_map list (opened parts ds) ≡ drop 1 (flat_map list ds)
list-opened parts list head splits [] = refl
list-opened {T} {X} parts list head splits (d ∷ ds) = flat_map-append list (parts d) ds ∙ ap (λ (l : List X). drop 1 (l ++ flat_map list ds)) (sym (splits d))

-- What is left is the list behind so many nodes.
pub list-behind : {T X : Type 0} (parts : T → List T) (list : T → List X) (head : T → X) → Splits parts list head → (k : ℕ) (ds : List T) → flat_map list (behind parts k ds) ≡ drop k (flat_map list ds)
list-behind parts list head splits zero ds = ap (flat_map list) (behind-zero parts ds)
list-behind parts list head splits (suc k) ds =
    ap (flat_map list) (behind-suc parts k ds)
    ∙ list-opened parts list head splits (behind parts k ds)
    ∙ ap (drop 1) (list-behind parts list head splits k ds)
    ∙ sym (drop-suc k (flat_map list ds))

-- the first of these trees, and those behind it, where their lists begin with this node
pub record First {T X : Type 0} (parts : T → List T) (list : T → List X) (head : T → X) (ds : List T) (x : X) (later : List X) : Type 0 where
  pub tree : T
  pub others : List T
  pub are : ds ≡ tree ∷ others
  pub node : x ≡ head tree
  pub rest : later ≡ flat_map list (parts tree ++ others)

pub first_tree : {T X : Type 0} (parts : T → List T) (list : T → List X) (head : T → X) → Splits parts list head → (ds : List T) (x : X) (later : List X) → flat_map list ds ≡ x ∷ later → First parts list head ds x later
first_tree parts list head splits [] x later e = cc
first_tree {T} {X} parts list head splits (d ∷ ds) x later e =
    let s : (head d ∷ flat_map list (parts d)) ++ flat_map list ds ≡ x ∷ later = ap (λ (l : List X). l ++ flat_map list ds) (sym (splits d)) ∙ e in
    let a = flat_map-append list (parts d) ds in
    let t : flat_map list (parts d) ++ flat_map list ds ≡ later = cc in
    record { tree = d; others = ds; are = refl; node = cc; rest = sym (a ∙ t) }

-- no tree is left behind all nodes
pub none_behind : {T X : Type 0} (parts : T → List T) (list : T → List X) (head : T → X) → Splits parts list head → (ds : List T) → flat_map list ds ≡ [] → ds ≡ []
none_behind parts list head splits [] e = refl
none_behind {T} {X} parts list head splits (d ∷ ds) e =
    let s : (head d ∷ flat_map list (parts d)) ++ flat_map list ds ≡ [] = ap (λ (l : List X). l ++ flat_map list ds) (sym (splits d)) ∙ e in cc

pub behind_all : {T X : Type 0} (parts : T → List T) (list : T → List X) (head : T → X) → Splits parts list head → (k : ℕ) (ds : List T) → k ≡ length (flat_map list ds) → behind parts k ds ≡ []
behind_all parts list head splits k ds e =
    let few : length (flat_map list ds) ≤ k = omega arith in
    none_behind parts list head splits (behind parts k ds) (list-behind parts list head splits k ds ∙ drop_all k (flat_map list ds) few)

-- One node further to the front: the tree that begins there, and those behind it.
pub record Step {T X : Type 0} (parts : T → List T) (list : T → List X) (head : T → X) (ds : List T) (front : List X) (x : X) (k : ℕ) : Type 0 where
  pub tree : T
  pub others : List T
  pub here : behind parts k ds ≡ tree ∷ others
  pub next : behind parts (suc k) ds ≡ parts tree ++ others
  pub node : x ≡ head tree
  pub whole : front ++ flat_map list (behind parts k ds) ≡ flat_map list ds

from_front : {T X : Type 0} (parts : T → List T) (list : T → List X) (head : T → X) → Splits parts list head → (ds : List T) (front later : List X) (x : X) (k : ℕ) → length front ≡ k → front ++ (x ∷ later) ≡ flat_map list ds → Step parts list head ds front x k
from_front {T} {X} parts list head splits ds front later x k long whole =
    let here : flat_map list (behind parts k ds) ≡ x ∷ later = list-behind parts list head splits k ds ∙ ap (drop k) (sym whole) ∙ drop_at front (x ∷ later) k long in
    let f = first_tree parts list head splits (behind parts k ds) x later here in
    record {
      tree = f.tree;
      others = f.others;
      here = f.are;
      next = behind-suc parts k ds ∙ ap (opened parts) f.are;
      node = f.node;
      whole = ap (λ (l : List X). front ++ l) here ∙ whole;
    }

pub step_back : {T X : Type 0} (parts : T → List T) (list : T → List X) (head : T → X) → Splits parts list head → (ds : List T) (front : List X) (x : X) (k : ℕ) → length front ≡ k → (front ++ x ∷ []) ++ flat_map list (behind parts (suc k) ds) ≡ flat_map list ds → Step parts list head ds front x k
step_back parts list head splits ds front x k long whole =
    from_front parts list head splits ds front (flat_map list (behind parts (suc k) ds)) x k long (sym (append_assoc front (x ∷ []) (flat_map list (behind parts (suc k) ds))) ∙ whole)

-- trees that are numbered one behind the other, from n on
abbrev pub IsRow : {T : Type 0} → (T → ℕ) → (T → ℕ) → ℕ → List T → Type 0
IsRow number width n [] = Unit {0}
IsRow number width n (d ∷ ds) = (number d ≡ n) × IsRow number width (n + width d) ds

-- the width of trees together
abbrev pub widths : {T : Type 0} → (T → ℕ) → List T → ℕ
widths width [] = 0
widths width (d ∷ ds) = width d + widths width ds

pub row-append : {T : Type 0} (number width : T → ℕ) (n : ℕ) (xs ys : List T) → IsRow number width n xs → IsRow number width (n + widths width xs) ys → IsRow number width n (xs ++ ys)
row-append number width n [] ys p q = let e : n + 0 ≡ n = omega arith in subst (λ (m : ℕ). IsRow number width m ys) e q
row-append number width n (x ∷ xs) ys p q =
    let e : n + (width x + widths width xs) ≡ n + width x + widths width xs = omega arith in
    (p.0, row-append number width (n + width x) xs ys p.1 (subst (λ (m : ℕ). IsRow number width m ys) e q))

-- the parts of a tree are a row from here on, which ends where the tree ends
pub record Follows {T : Type 0} (parts : T → List T) (number width : T → ℕ) (d : T) (n : ℕ) : Type 0 where
  pub row : IsRow number width n (parts d)
  pub end : n + widths width (parts d) ≡ number d + width d

pub row-parts : {T : Type 0} (parts : T → List T) (number width : T → ℕ) (d : T) (ds : List T) (m n : ℕ) → IsRow number width m (d ∷ ds) → Follows parts number width d n → IsRow number width n (parts d ++ ds)
row-parts parts number width d ds m n (first, row) follows =
    let e : m + width d ≡ n + widths width (parts d) = let h = follows.end in omega arith in
    row-append number width n (parts d) ds follows.row (subst (λ (k : ℕ). IsRow number width k ds) e row)

row-opened : {T : Type 0} (parts : T → List T) (number width : T → ℕ) → ((d : T) → Follows parts number width d (suc (number d))) → (k : ℕ) (ds : List T) → IsRow number width k ds → IsRow number width (suc k) (opened parts ds)
row-opened parts number width follows k [] row = tt
row-opened {T} parts number width follows k (d ∷ ds) row = row-parts parts number width d ds k (suc k) row (subst (λ (n : ℕ). Follows parts number width d (suc n)) row.0 (follows d))

-- Where the parts of each tree are a row from behind its own number, so are the trees behind so many nodes.
pub row-behind : {T : Type 0} (parts : T → List T) (number width : T → ℕ) → ((d : T) → Follows parts number width d (suc (number d))) → (k : ℕ) (ds : List T) → IsRow number width 0 ds → IsRow number width k (behind parts k ds)
row-behind parts number width follows zero ds row = subst (IsRow number width 0) (sym (behind-zero parts ds)) row
row-behind {T} parts number width follows (suc k) ds row = subst (IsRow number width (suc k)) (sym (behind-suc parts k ds)) (row-opened parts number width follows k (behind parts k ds) (row-behind parts number width follows k ds row))

opened_shorter : {T X : Type 0} (parts : T → List T) (list : T → List X) → ((d : T) → length (flat_map list (parts d)) ≤ length (list d)) → (ds : List T) → length (flat_map list (opened parts ds)) ≤ length (flat_map list ds)
opened_shorter parts list shorter [] = omega arith
opened_shorter {T} {X} parts list shorter (d ∷ ds) =
    let e = ap length (flat_map-append list (parts d) ds) in
    let a = length-append (flat_map list (parts d)) (flat_map list ds) in
    let b = length-append (list d) (flat_map list ds) in
    let s = shorter d in omega arith

-- Where no tree has a longer list than its parts together, what is left has no longer lists.
pub behind_shorter : {T X : Type 0} (parts : T → List T) (list : T → List X) → ((d : T) → length (flat_map list (parts d)) ≤ length (list d)) → (k : ℕ) (ds : List T) → length (flat_map list (behind parts k ds)) ≤ length (flat_map list ds)
behind_shorter parts list shorter zero ds = let e = ap (λ l. length (flat_map list l)) (behind-zero parts ds) in omega arith
behind_shorter {T} {X} parts list shorter (suc k) ds =
    let e = ap (λ (l : List T). length (flat_map list l)) (behind-suc parts k ds) in
    let s = opened_shorter parts list shorter (behind parts k ds) in
    let i = behind_shorter parts list shorter k ds in omega arith
