-- Stores are the closed sets of tokens of named cells.
use Rattle.std.proofs.Common.{◌≡◌, Bool, true, false, cond, List, [], ◌∷◌, ◌++◌, Option, Some, None, IfSome, refl, sym, ap, ◌∙◌, subst, append_assoc}
use Rattle.std.specs.Prelude.{T, All, map as list_map, unwrap_or}
use Rattle.std.specs.FinMap as map
use Rattle.std.specs.FinMap.{find, get, insert, get-insert, is_sorted}
use Rattle.std.specs.FinMap.Entries.{below_all}
use Rattle.std.specs.Ordering.{eq_by_cmp, is_eq}
use Rattle.std.specs.Cmp.{eq_by_cmp_equiv}
use Rattle.std.proofs.lemmas.List.{append-nil}
use Rattle.token_system.specs.declared.cell.Cell.{Cell}
use Rattle.token_system.specs.declared.cell.Token.{Token}
use Rattle.token_system.specs.declared.cell.Value.{Value}
use Rattle.token_system.specs.declared.name.CellName.{CellName}
use Rattle.token_system.specs.Names.{name_cmp, name_total}
use Rattle.token_system.specs.Tokens.{Fits}
use Rattle.token_system.specs.Values.{bottom_of, value_eq, value_tokens, value_with, StandsFor}
use Rattle.token_system.specs.Stores.{StoreMap, value_at, after_tell, CanHold, IsKeptFor}
use Rattle.token_system.specs.StoreJoins.{AreKeptFor}
use Rattle.token_system.proofs.Alike.{true_false}
use Rattle.token_system.proofs.Adding.{added, kinds_agree, value_eq-itself}
use Rattle.token_system.proofs.EntryWalks.{get-entry}
use Rattle.token_system.proofs.Places.{first_of_both, second_of_both, less_is}
use Rattle.token_system.proofs.Standing.{bottom-stands}
use Rattle.token_system.proofs.StoreLaws.{stores-same}
use Rattle.token_system.proofs.Telling.{equal_names, get-told_other, told-stands, value_kept}
use Rattle.token_system.proofs.ValueTokens.{tokens-fit, tokens-stand}
use Rattle.agent_core.specs.Strata.{Each}
use Rattle.agent_laws.proofs.Eachs.{Each-append, Each-map, all_each, each_all}
use Rattle.denotation_laws.specs.Laws.{told_on, FitNames, IsClosedStore}

-- WHAT A LIST TELLS OF A NAME

told_on-append : (n : CellName) (ts us : List (CellName × Token)) → told_on n (ts ++ us) ≡ told_on n ts ++ told_on n us
told_on-append n [] us = refl
told_on-append n (x ∷ ts) us = elim (eq_by_cmp name_cmp n x.0) as (λ b. cond b (x.1 ∷ told_on n (ts ++ us)) (told_on n (ts ++ us)) ≡ cond b (x.1 ∷ told_on n ts) (told_on n ts) ++ told_on n us) [
  | true ↦ ap (λ (l : List Token). x.1 ∷ l) (told_on-append n ts us)
  | false ↦ told_on-append n ts us
]

same_name : (n : CellName) → eq_by_cmp name_cmp n n ≡ true
same_name = (eq_by_cmp_equiv name_total).refl

-- TOKENS HAVE ONE STORE

module _ (cell_of : CellName → Cell) where
  kept_here : (s : StoreMap) → AreKeptFor cell_of s → (n : CellName) → IfSome (get s n) (IsKeptFor (cell_of n))
  kept_here s h n = go (get s n) refl
    where
      go : (o : Option Value) → get s n ≡ o → IfSome o (IsKeptFor (cell_of n))
      go None e = tt
      go (Some v) e = h n v e

  module _ (s : StoreMap) (n : CellName) (t : Token) (h : AreKeptFor cell_of s) (fit : Fits (cell_of n) t) where
    abbrev c : Cell
    c = cell_of n

    abbrev risen : Value
    risen = value_with (value_at s n c) t

    risen_kept : value_eq risen (bottom_of c) ≡ false → IsKeptFor c risen
    risen_kept e =
        let is = value_kept c (get s n) (kept_here s h n) in
        let a = added c.lo c.hi c.kind (value_at s n c) t c.lawful is.domain is.proper fit in
        record {
          value = record { domain = a.domain; proper = a.proper };
          not_bottom = λ b. true_false (sym (subst (λ (z : Value). value_eq z (bottom_of c) ≡ true) (sym b) (value_eq-itself (bottom_of c))) ∙ e);
        }

    -- a store with one token more keeps values of these cells
    told_kept : AreKeptFor cell_of (after_tell s n c t)
    told_kept q y = go (value_eq risen (bottom_of c)) refl
      where
        go : (b : Bool) → value_eq risen (bottom_of c) ≡ b → get (cond b s (insert s n risen)) q ≡ Some y → IsKeptFor (cell_of q) y
        go true eb e = h q y e
        go false eb e = at (eq_by_cmp name_cmp q n) refl
          where
            at : (r : Bool) → eq_by_cmp name_cmp q n ≡ r → IsKeptFor (cell_of q) y
            at true r =
                let got : Some risen ≡ Some y = sym (get-insert name_total s n risen q ∙ ap (λ b. cond b (Some risen) (get s q)) r) ∙ e in
                let same : risen ≡ y = cc in
                subst (λ (m : CellName). IsKeptFor (cell_of m) y) (sym (equal_names q n r)) (subst (IsKeptFor c) same (risen_kept eb))
            at false r = h q y (sym (get-insert name_total s n risen q ∙ ap (λ b. cond b (Some risen) (get s q)) r) ∙ e)

    can_hold : CanHold s n c t
    can_hold =
        let is = value_kept c (get s n) (kept_here s h n) in
        record { fits = fit; kind = kinds_agree c.kind c.lo c.hi (value_at s n c) t is.domain fit }

    -- and has for each name what the list with that token tells of it
    told_stands : (ts : List (CellName × Token)) → ((q : CellName) → StandsFor (cell_of q) (value_at s q (cell_of q)) (told_on q ts)) → (q : CellName) → StandsFor (cell_of q) (value_at (after_tell s n c t) q (cell_of q)) (told_on q (ts ++ (n, t) ∷ []))
    told_stands ts stands q = subst (StandsFor (cell_of q) (value_at (after_tell s n c t) q (cell_of q))) (sym (told_on-append q ts ((n, t) ∷ []))) (go (eq_by_cmp name_cmp q n) refl)
      where
        go : (b : Bool) → eq_by_cmp name_cmp q n ≡ b → StandsFor (cell_of q) (value_at (after_tell s n c t) q (cell_of q)) (told_on q ts ++ cond b (t ∷ []) [])
        go true b =
            subst (λ (m : CellName). StandsFor (cell_of m) (value_at (after_tell s n c t) m (cell_of m)) (told_on m ts ++ t ∷ [])) (sym (equal_names q n b))
            (told-stands s n c t can_hold (kept_here s h n) (told_on n ts) (stands n))
        go false b =
            let differ : q ≡ n → ⊥ = λ e. true_false (sym (subst (λ (m : CellName). eq_by_cmp name_cmp m n ≡ true) (sym e) (same_name n)) ∙ b) in
            subst (StandsFor (cell_of q) (value_at (after_tell s n c t) q (cell_of q))) (sym (append-nil (told_on q ts)))
            (subst (λ (v : Value). StandsFor (cell_of q) v (told_on q ts)) (ap (λ o. unwrap_or o (bottom_of (cell_of q))) (sym (get-told_other s n q c t differ))) (stands q))

  -- the empty store stands for no tokens
  none-closed : IsClosedStore cell_of [] map.empty
  none-closed = record {
    kept = λ n v e. absurd (let none : None ≡ Some v = sym (map.get-empty name_cmp n) ∙ e in cc);
    stands = λ n. subst (λ (o : Option Value). StandsFor (cell_of n) (unwrap_or o (bottom_of (cell_of n))) []) (sym (map.get-empty name_cmp n)) (bottom-stands (cell_of n));
  }

  with_more : (rest done : List (CellName × Token)) (s : StoreMap) → IsClosedStore cell_of done s → Each (λ (x : CellName × Token). Fits (cell_of x.0) x.1) rest → (w : StoreMap) × IsClosedStore cell_of (done ++ rest) w
  with_more [] done s h f = (s, subst (λ (ts : List (CellName × Token)). IsClosedStore cell_of ts s) (sym (append-nil done)) h)
  with_more (x ∷ rest) done s h f =
      let r = with_more rest (done ++ x ∷ []) (after_tell s x.0 (cell_of x.0) x.1)
      (record { kept = told_kept s x.0 x.1 h.kept f.0; stands = told_stands s x.0 x.1 h.kept f.0 done h.stands }) f.1 in
      (r.0, subst (λ (ts : List (CellName × Token)). IsClosedStore cell_of ts r.0) (append_assoc done (x ∷ []) rest) r.1)

  pub has_store : (ts : List (CellName × Token)) → FitNames cell_of ts → (s : StoreMap) × IsClosedStore cell_of ts s
  has_store ts f = with_more ts [] map.empty none-closed (all_each (λ (x : CellName × Token). Fits (cell_of x.0) x.1) ts f)

  pub one_store : (ts : List (CellName × Token)) (r s : StoreMap) → IsClosedStore cell_of ts r → IsClosedStore cell_of ts s → r ≡ s
  one_store ts r s h g =
      stores-same cell_of r s h.kept g.kept
      (λ n t f e. (g.stands n t f).1 ((h.stands n t f).0 e))
      (λ n t f e. (h.stands n t f).1 ((g.stands n t f).0 e))

-- STORES HAVE TOKENS

-- the tokens of each entry, under its name
entry_tokens : List (CellName × Value) → List (CellName × Token)
entry_tokens [] = []
entry_tokens (e ∷ es) = list_map (λ t. (e.0, t)) (value_tokens e.1) ++ entry_tokens es

told_on-named : (q n : CellName) (ts : List Token) (b : Bool) → eq_by_cmp name_cmp q n ≡ b → told_on q (list_map (λ t. (n, t)) ts) ≡ cond b ts []
told_on-named q n [] true e = refl
told_on-named q n [] false e = refl
told_on-named q n (t ∷ ts) true e = ap (λ r. cond r (t ∷ told_on q (list_map (λ t. (n, t)) ts)) (told_on q (list_map (λ t. (n, t)) ts))) e ∙ ap (λ (l : List Token). t ∷ l) (told_on-named q n ts true e)
told_on-named q n (t ∷ ts) false e = ap (λ r. cond r (t ∷ told_on q (list_map (λ t. (n, t)) ts)) (told_on q (list_map (λ t. (n, t)) ts))) e ∙ told_on-named q n ts false e

-- the first of sorted entries has a name that none behind it has
none_behind : (n : CellName) (es : List (CellName × Value)) → T (below_all name_cmp n es) → find name_cmp n es ≡ None
none_behind n [] h = refl
none_behind n (e ∷ es) h = ap (λ b. cond b (Some e.1) (find name_cmp n es)) (ap is_eq (less_is (name_cmp n e.0) (first_of_both _ _ h))) ∙ none_behind n es (second_of_both _ _ h)

tokens_kept : Option Value → List Token
tokens_kept None = []
tokens_kept (Some v) = value_tokens v

told_on-entries : (q : CellName) (es : List (CellName × Value)) → T (is_sorted name_cmp es) → told_on q (entry_tokens es) ≡ tokens_kept (find name_cmp q es)
unfolding entry_tokens tokens_kept
told_on-entries q [] s = refl
told_on-entries q (e ∷ es) s =
    told_on-append q (list_map (λ t. (e.0, t)) (value_tokens e.1)) (entry_tokens es)
    ∙ ap (λ (l : List Token). l ++ told_on q (entry_tokens es)) (told_on-named q e.0 (value_tokens e.1) (eq_by_cmp name_cmp q e.0) refl)
    ∙ ap (λ (l : List Token). cond (eq_by_cmp name_cmp q e.0) (value_tokens e.1) [] ++ l) (told_on-entries q es (second_of_both _ _ s))
    ∙ go (eq_by_cmp name_cmp q e.0) refl
  where
    go : (b : Bool) → eq_by_cmp name_cmp q e.0 ≡ b → cond b (value_tokens e.1) [] ++ tokens_kept (find name_cmp q es) ≡ tokens_kept (cond b (Some e.1) (find name_cmp q es))
    go true b =
        ap (λ (o : Option Value). value_tokens e.1 ++ tokens_kept o) (subst (λ (m : CellName). find name_cmp m es ≡ None) (sym (equal_names q e.0 b)) (none_behind e.0 es (first_of_both _ _ s)))
        ∙ append-nil (value_tokens e.1)
    go false b = refl

module _ (cell_of : CellName → Cell) (s : StoreMap) (h : AreKeptFor cell_of s) where
  all_kept : Each (λ (e : CellName × Value). IsKeptFor (cell_of e.0) e.1) (map.entries s)
  all_kept = all_each (λ (e : CellName × Value). IsKeptFor (cell_of e.0) e.1) (map.entries s) (λ k d lt. h _ _ (get-entry s k d lt))

  named_fit : (n : CellName) (ts : List Token) → Each (Fits (cell_of n)) ts → Each (λ (x : CellName × Token). Fits (cell_of x.0) x.1) (list_map (λ t. (n, t)) ts)
  named_fit n [] f = tt
  named_fit n (t ∷ ts) f = (f.0, named_fit n ts f.1)

  entries_fit : (es : List (CellName × Value)) → Each (λ (e : CellName × Value). IsKeptFor (cell_of e.0) e.1) es → Each (λ (x : CellName × Token). Fits (cell_of x.0) x.1) (entry_tokens es)
  unfolding entry_tokens
  entries_fit [] k = tt
  entries_fit (e ∷ es) k =
      Each-append (λ (x : CellName × Token). Fits (cell_of x.0) x.1) (list_map (λ t. (e.0, t)) (value_tokens e.1)) (entry_tokens es)
      (named_fit e.0 (value_tokens e.1) (all_each (Fits (cell_of e.0)) (value_tokens e.1) (tokens-fit (cell_of e.0) e.1 k.0.value))) (entries_fit es k.1)

  entries_stand : (n : CellName) → StandsFor (cell_of n) (value_at s n (cell_of n)) (told_on n (entry_tokens (map.entries s)))
  unfolding tokens_kept
  entries_stand n =
      subst (StandsFor (cell_of n) (value_at s n (cell_of n))) (sym (told_on-entries n (map.entries s) (map.entries_sorted s) ∙ ap tokens_kept (sym (map.get-entries s n))))
      (go (get s n) refl)
    where
      go : (o : Option Value) → get s n ≡ o → StandsFor (cell_of n) (unwrap_or o (bottom_of (cell_of n))) (tokens_kept o)
      go None e = bottom-stands (cell_of n)
      go (Some v) e = tokens-stand (cell_of n) v (h n v e).value

  pub store_tokens : (ts : List (CellName × Token)) × FitNames cell_of ts × IsClosedStore cell_of ts s
  store_tokens = (
    entry_tokens (map.entries s),
    each_all (λ (x : CellName × Token). Fits (cell_of x.0) x.1) (entry_tokens (map.entries s)) (entries_fit (map.entries s) all_kept),
    record { kept = h; stands = entries_stand },
  )
