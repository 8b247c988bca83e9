-- Adding numbers to the lists of an index, key by key.
use Rattle.std.proofs.Common.{◌≡◌, ◌⊎◌, inl, inr, ℕ, zero, suc, ◌+◌, ◌<◌, ◌≤◌, Bool, true, false, List, [], ◌∷◌, ◌++◌, length, get_or, set, take, refl, sym, ap, ◌∙◌, subst, arith, length-set, get_or-set_same, get_or-set_other}
use Rattle.std.specs.Prelude.{◌==◌, ◌||◌, slice_index_or, if◌then◌else◌}
use Rattle.std.proofs.lemmas.Bool.{cases_eq}
use Rattle.std.proofs.lemmas.Bool.Decides.{nat_tests}
use Rattle.std.proofs.lemmas.List.{append-nil, take_more, take_all}
use Rattle.instant_net.specs.declared.parts.Atom.{Atom}
use Rattle.parked_asks.specs.Watches.{asks_for, AddsAt}

-- nothing was added yet
pub adds-none : (test : ℕ → Bool) (n : ℕ) (index : List (List ℕ)) → ((k : ℕ) → test k ≡ false) → AddsAt test n index index
adds-none test n index none = record { keys = refl; each = λ k lt. sym (ap (λ (b : Bool). slice_index_or index k [] ++ (if b then n ∷ [] else [])) (none k) ∙ append-nil (slice_index_or index k [])) }

-- by another test of the same keys
pub adds-same : (test other : ℕ → Bool) (n : ℕ) (before after : List (List ℕ)) → ((k : ℕ) → test k ≡ other k) → AddsAt test n before after → AddsAt other n before after
adds-same test other n before after same adds = record {
  keys = adds.keys;
  each = λ k lt. adds.each k lt ∙ ap (λ (b : Bool). slice_index_or before k [] ++ (if b then n ∷ [] else [])) (same k);
}

-- under one key more
pub adds-pushed : (test other : ℕ → Bool) (n key : ℕ) (before after : List (List ℕ)) → key < length before → test key ≡ false → ((k : ℕ) → other k ≡ (test k || (key == k))) → AddsAt test n before after
    → AddsAt other n before (set after key (slice_index_or after key [] ++ n ∷ []))
adds-pushed test other n key before after there fresh more adds = record { keys = length-set after key _ ∙ adds.keys; each = each }
  where
    new : List ℕ
    new = slice_index_or after key [] ++ n ∷ []

    had : AddsAt test n before after
    had = adds

    key_is : other key ≡ true
    key_is = more key ∙ ap (λ (b : Bool). b || (key == key)) fresh ∙ grind (arith, nat_tests)

    other_is : (k : ℕ) → (k ≡ key → ⊥) → other k ≡ test k
    other_is k ne = more k ∙ go (test k) (key == k) (grind (arith, nat_tests, ne))
      where
        go : (a b : Bool) → b ≡ false → (a || b) ≡ a
        go true b e = refl
        go false b e = e

    each : (k : ℕ) → k < length before → slice_index_or (set after key new) k [] ≡ slice_index_or before k [] ++ (if other k then n ∷ [] else [])
    each k lt = go (cases_eq k key)
      where
        go : (k ≡ key) ⊎ (k ≡ key → ⊥) → slice_index_or (set after key new) k [] ≡ slice_index_or before k [] ++ (if other k then n ∷ [] else [])
        go (inl same) =
            let long = had.keys in
            subst (λ (m : ℕ). slice_index_or (set after key new) m [] ≡ slice_index_or before m [] ++ (if other m then n ∷ [] else [])) (sym same)
            (get_or-set_same after key new [] (omega arith)
            ∙ ap (λ (ns : List ℕ). ns ++ n ∷ []) (had.each key there ∙ ap (λ (b : Bool). slice_index_or before key [] ++ (if b then n ∷ [] else [])) fresh ∙ append-nil (slice_index_or before key []))
            ∙ ap (λ (b : Bool). slice_index_or before key [] ++ (if b then n ∷ [] else [])) (sym key_is))
        go (inr ne) =
            get_or-set_other after key k new [] ne
            ∙ had.each k lt
            ∙ ap (λ (b : Bool). slice_index_or before k [] ++ (if b then n ∷ [] else [])) (sym (other_is k ne))

-- CELLS OF AN ASK

pub asks-push : (cell : ℕ) (ask : List Atom) (a : Atom) → asks_for cell (ask ++ a ∷ []) ≡ (asks_for cell ask || (a.cell == cell))
asks-push cell [] a = go (a.cell == cell)
  where
    go : (b : Bool) → (b || false) ≡ (false || b)
    go true = refl
    go false = refl
asks-push cell (x ∷ ask) a = ap (λ (b : Bool). (x.cell == cell) || b) (asks-push cell ask a) ∙ go (x.cell == cell) (asks_for cell ask) (a.cell == cell)
  where
    go : (a b c : Bool) → (a || (b || c)) ≡ ((a || b) || c)
    go true b c = refl
    go false b c = refl

pub asks-next : (cell : ℕ) (ask : List Atom) (i : ℕ) (d : Atom) → i < length ask → asks_for cell (take (i + 1) ask) ≡ (asks_for cell (take i ask) || ((get_or ask i d).cell == cell))
asks-next cell ask i d lt = ap (asks_for cell) (take_more ask i d lt) ∙ asks-push cell (take i ask) (get_or ask i d)

pub asks-found : (cell : ℕ) (ask : List Atom) (i : ℕ) (d : Atom) → i < length ask → (get_or ask i d).cell ≡ cell → asks_for cell ask ≡ true
asks-found cell [] i d lt e = absurd (omega arith)
asks-found cell (x ∷ ask) zero d lt e = ap (λ (b : Bool). b || asks_for cell ask) (let t : (x.cell == cell) ≡ true = grind (arith, nat_tests, e) in t)
asks-found cell (x ∷ ask) (suc i) d lt e = ap (λ (b : Bool). (x.cell == cell) || b) (asks-found cell ask i d (omega arith) e) ∙ go (x.cell == cell)
  where
    go : (b : Bool) → (b || true) ≡ true
    go true = refl
    go false = refl

-- none of the first ones is of the cell
pub asks-missed : (cell : ℕ) (ask : List Atom) (i : ℕ) (d : Atom) → i < length ask → asks_for cell (take i ask) ≡ false → ((get_or ask i d).cell ≡ cell → ⊥) → asks_for cell (take (i + 1) ask) ≡ false
asks-missed cell ask i d lt before ne =
    asks-next cell ask i d lt ∙ ap (λ (b : Bool). b || ((get_or ask i d).cell == cell)) before ∙ (let f : ((get_or ask i d).cell == cell) ≡ false = grind (arith, nat_tests, ne) in f)

-- a cell that was asked for already
module _ (ask : List Atom) (i : ℕ) (d : Atom) (lt : i < length ask) where
  again : (cell : ℕ) → asks_for (get_or ask i d).cell (take i ask) ≡ true → asks_for cell (take i ask) ≡ asks_for cell (take (i + 1) ask)
  again cell e = sym (asks-next cell ask i d lt ∙ go (cases_eq (get_or ask i d).cell cell))
    where
      go : ((get_or ask i d).cell ≡ cell) ⊎ ((get_or ask i d).cell ≡ cell → ⊥) → (asks_for cell (take i ask) || ((get_or ask i d).cell == cell)) ≡ asks_for cell (take i ask)
      go (inl same) = let t : asks_for cell (take i ask) ≡ true = subst (λ (n : ℕ). asks_for n (take i ask) ≡ true) same e in ap (λ (b : Bool). b || ((get_or ask i d).cell == cell)) t ∙ sym t
      go (inr ne) = let f : ((get_or ask i d).cell == cell) ≡ false = grind (arith, nat_tests, ne) in ap (λ (b : Bool). asks_for cell (take i ask) || b) f ∙ drops (asks_for cell (take i ask))
        where
          drops : (b : Bool) → (b || false) ≡ b
          drops true = refl
          drops false = refl

  pub adds-again : (n : ℕ) (before after : List (List ℕ)) → asks_for (get_or ask i d).cell (take i ask) ≡ true → AddsAt (λ cell. asks_for cell (take i ask)) n before after → AddsAt (λ cell. asks_for cell (take (i + 1) ask)) n before after
  adds-again n before after e = adds-same (λ cell. asks_for cell (take i ask)) (λ cell. asks_for cell (take (i + 1) ask)) n before after (λ cell. again cell e)

  pub adds-fresh : (n : ℕ) (before after : List (List ℕ)) → (get_or ask i d).cell < length before → asks_for (get_or ask i d).cell (take i ask) ≡ false → AddsAt (λ cell. asks_for cell (take i ask)) n before after
      → AddsAt (λ cell. asks_for cell (take (i + 1) ask)) n before (set after (get_or ask i d).cell (slice_index_or after (get_or ask i d).cell [] ++ n ∷ []))
  adds-fresh n before after there fresh =
      adds-pushed (λ cell. asks_for cell (take i ask)) (λ cell. asks_for cell (take (i + 1) ask)) n (get_or ask i d).cell before after there fresh (λ cell. asks-next cell ask i d lt)

pub adds-all : (ask : List Atom) (i n : ℕ) (before after : List (List ℕ)) → length ask ≤ i → AddsAt (λ cell. asks_for cell (take i ask)) n before after → AddsAt (λ cell. asks_for cell ask) n before after
adds-all ask i n before after le = subst (λ (xs : List Atom). AddsAt (λ cell. asks_for cell xs) n before after) (take_all i ask le)
