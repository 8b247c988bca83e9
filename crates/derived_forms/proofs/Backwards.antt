-- A walk over the nodes of trees from the last one to the first: for each tree of which all nodes are passed, a list is made,
-- and the lists of a tree's parts become that of the tree.
use Rattle.std.proofs.Common.{◌≡◌, ℕ, suc, ◌+◌, ◌≤◌, List, [], ◌∷◌, ◌++◌, length, refl, ap, sym, ◌∙◌, arith}
use Rattle.std.specs.List.{flat_map}
use Rattle.std.proofs.lemmas.List.{append-nil, append_assoc, length-append, length_push}
use Rattle.std.proofs.lemmas.List.Concat.{flat_map-append}
use Rattle.derived_forms.proofs.Forests.{Splits, behind, behind-zero, behind_all, behind_shorter, step_back}

-- These nodes are to come, and what is made belongs to the trees behind them, in front of the rest.
pub record IsBack {T X Y : Type 0} (parts : T → List T) (list : T → List X) (made : T → List Y) (ds : List T) (rest : List Y) (front : List X) (done : List Y) : Type 0 where
  pub left : front ++ flat_map list (behind parts (length front) ds) ≡ flat_map list ds
  pub put : done ≡ flat_map made (behind parts (length front) ds) ++ rest

pub back_start : {T X Y : Type 0} (parts : T → List T) (list : T → List X) (head : T → X) (made : T → List Y) → Splits parts list head → (ds : List T) (rest : List Y) (front : List X) (done : List Y) → front ≡ flat_map list ds → done ≡ rest → IsBack parts list made ds rest front done
back_start {T} {X} {Y} parts list head made splits ds rest front done all none =
    let end = behind_all parts list head splits (length front) ds (ap length all) in
    record {
      left = ap (λ (ts : List T). front ++ flat_map list ts) end ∙ append-nil front ∙ all;
      put = none ∙ ap (λ (ts : List T). flat_map made ts ++ rest) (sym end);
    }

-- The tree that begins at the last node to come, and what is made for those behind it.
pub record Back {T X Y : Type 0} (parts : T → List T) (list : T → List X) (head : T → X) (made : T → List Y) (ds : List T) (rest : List Y) (front : List X) (x : X) (done : List Y) : Type 0 where
  pub tree : T
  pub others : List T
  pub later : List Y
  pub here : behind parts (length front) ds ≡ tree ∷ others
  pub opened : behind parts (suc (length front)) ds ≡ parts tree ++ others
  pub node : x ≡ head tree
  pub parts_made : done ≡ flat_map made (parts tree) ++ later
  pub next : (new : List Y) → new ≡ made tree ++ later → IsBack parts list made ds rest front new
  pub fits : ((d : T) → length (flat_map made (parts d)) ≤ length (made d)) → length (made tree) + length later ≤ length (flat_map made ds) + length rest

-- what is made with one tree more is a part of the whole
tree_fits : {T Y : Type 0} (parts : T → List T) (made : T → List Y) (ds : List T) (rest : List Y) (k : ℕ) (tree : T) (others : List T) → behind parts k ds ≡ tree ∷ others → ((d : T) → length (flat_map made (parts d)) ≤ length (made d)) → length (made tree) + length (flat_map made others ++ rest) ≤ length (flat_map made ds) + length rest
tree_fits {T} {Y} parts made ds rest k tree others here shorter =
    let s = behind_shorter parts made shorter k ds in
    let e = ap (λ (ts : List T). length (flat_map made ts)) here in
    let f = length-append (made tree) (flat_map made others) in
    let g = length-append (flat_map made others) rest in omega arith

back_from : {T X Y : Type 0} (parts : T → List T) (list : T → List X) (head : T → X) (made : T → List Y) → Splits parts list head → (ds : List T) (rest : List Y) (front : List X) (x : X) (done : List Y) → (front ++ x ∷ []) ++ flat_map list (behind parts (suc (length front)) ds) ≡ flat_map list ds → done ≡ flat_map made (behind parts (suc (length front)) ds) ++ rest → Back parts list head made ds rest front x done
back_from {T} {X} {Y} parts list head made splits ds rest front x done left put =
    let s = step_back parts list head splits ds front x (length front) refl left in
    record {
      tree = s.tree;
      others = s.others;
      later = flat_map made s.others ++ rest;
      here = s.here;
      opened = s.next;
      node = s.node;
      parts_made =
          put
          ∙ ap (λ (ts : List T). flat_map made ts ++ rest) s.next
          ∙ ap (λ (l : List Y). l ++ rest) (flat_map-append made (parts s.tree) s.others)
          ∙ append_assoc (flat_map made (parts s.tree)) (flat_map made s.others) rest;
      next = λ new e. record {
        left = s.whole;
        put = e ∙ sym (append_assoc (made s.tree) (flat_map made s.others) rest) ∙ ap (λ (ts : List T). flat_map made ts ++ rest) (sym s.here);
      };
      fits = tree_fits parts made ds rest (length front) s.tree s.others s.here;
    }

pub back_step : {T X Y : Type 0} (parts : T → List T) (list : T → List X) (head : T → X) (made : T → List Y) → Splits parts list head → (ds : List T) (rest : List Y) (whole front : List X) (x : X) (done : List Y) → whole ≡ front ++ x ∷ [] → IsBack parts list made ds rest whole done → Back parts list head made ds rest front x done
back_step {T} {X} {Y} parts list head made splits ds rest whole front x done popped b =
    let long : length whole ≡ suc (length front) = let e = ap length popped in let f = length_push front x in omega arith in
    back_from parts list head made splits ds rest front x done
    (ap (λ (l : List X). l ++ flat_map list (behind parts (suc (length front)) ds)) (sym popped) ∙ ap (λ (k : ℕ). whole ++ flat_map list (behind parts k ds)) (sym long) ∙ b.left)
    (b.put ∙ ap (λ (k : ℕ). flat_map made (behind parts k ds) ++ rest) long)

pub back_end : {T X Y : Type 0} (parts : T → List T) (list : T → List X) (made : T → List Y) (ds : List T) (rest : List Y) (front : List X) (done : List Y) → front ≡ [] → IsBack parts list made ds rest front done → done ≡ flat_map made ds ++ rest
back_end {T} {X} {Y} parts list made ds rest front done none b =
    b.put
    ∙ ap (λ (l : List X). flat_map made (behind parts (length l) ds) ++ rest) none
    ∙ ap (λ (ts : List T). flat_map made ts ++ rest) (behind-zero parts ds)
