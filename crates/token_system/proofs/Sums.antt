-- The value that sums tokens up: of a number the tightest of their bounds, of a signal whether on and off are among them. It stands for them, and with one token more it sums that up too.
use Rattle.std.proofs.Common.{◌≡◌, ◌⊎◌, inl, inr, Bool, true, false, cond, ◌&&◌, not, ℤ, List, [], ◌∷◌, ◌++◌, refl, sym, subst, arith}
use Rattle.std.specs.Prelude.{◌≤ℤ◌, ◌↔◌, IsTrue, int_le, int_lt, Contains}
use Rattle.std.proofs.lemmas.Int.{ints}
use Rattle.std.proofs.lemmas.List.Elements.{Contains-append_left, Contains-push, Contains-push_cases}
use Rattle.token_system.specs.Domain.{is_cell}
use Rattle.token_system.specs.declared.cell.Kind.{Kind}
use Rattle.token_system.specs.declared.cell.Kind.TheVariants as kinds
use Rattle.token_system.specs.declared.cell.Cell.{Cell}
use Rattle.token_system.specs.declared.cell.Token.{Token}
use Rattle.token_system.specs.declared.cell.Token.TheVariants.{On, Off, AtLeast, AtMost, Clash}
use Rattle.token_system.specs.declared.cell.Value.{Value}
use Rattle.token_system.specs.declared.cell.Value.TheVariants as values
use Rattle.token_system.specs.Tokens.{Fits, fits_kind, IsLower, IsUpper, Clashes, AreOpposed, TokensEntail, EntailsWithoutClash}
use Rattle.token_system.specs.Values.{StandsFor, value_with, value_entails, bottom_for}
use Rattle.token_system.proofs.Alike.{true_false}
use Rattle.token_system.proofs.Adding.{clash_added}
use Rattle.token_system.proofs.ByKind.{Fitting, on, off, at_least, at_most, fitting}
use Rattle.token_system.proofs.ByKind as by

-- the cell of these fields
abbrev pub cell_of : (k : Kind) (lo hi : ℤ) → IsTrue (is_cell k lo hi) → Cell
cell_of k lo hi l = record { kind = k; lo = lo; hi = hi; lawful = l }

-- a is the greatest lower bound and b the least upper one, they do not cross, and no clash is told
pub record Bounds (c : Cell) (ts : List Token) (a b : ℤ) : Type 0 where
  pub low : IsLower c ts a
  pub lowest : (j : ℤ) → IsLower c ts j → j ≤ℤ a
  pub high : IsUpper c ts b
  pub highest : (k : ℤ) → IsUpper c ts k → b ≤ℤ k
  pub calm : Contains ts Clash → ⊥
  pub proper : a ≤ℤ b

-- on and off say whether the tokens of these names are told, not both are, and no clash is told
pub record Signs (ts : List Token) (on off : Bool) : Type 0 where
  pub on_told : IsTrue on → Contains ts On
  pub told_on : Contains ts On → IsTrue on
  pub off_told : IsTrue off → Contains ts Off
  pub told_off : Contains ts Off → IsTrue off
  pub calm : Contains ts Clash → ⊥
  pub proper : IsTrue (not (on && off))

-- the value sums up the tokens of a cell of this kind
pub data SumsUp (c : Cell) (ts : List Token) : Kind → Value → Type 0 where
  signs : (a b : Bool) → Signs ts a b → SumsUp c ts kinds.Signal (values.Signal a b)
  bounds : (a b : ℤ) → Bounds c ts a b → SumsUp c ts kinds.Number (values.Number a b)
  clashes : (k : Kind) → Clashes c ts → SumsUp c ts k values.Clash

pub none_told : (x : Token) → Contains [] x → ⊥
none_told x h = let l = h.1 in omega arith

module _ (c : Cell) (ts : List Token) (t : Token) where
  still_told : (x : Token) → Contains ts x → Contains (ts ++ t ∷ []) x
  still_told x h = Contains-append_left ts (t ∷ []) x h

  -- a token that is told after another is told was told before, or is that other one
  told_before : (x : Token) (A : Type 0) → (Contains ts x → A) → (t ≡ x → A) → Contains (ts ++ t ∷ []) x → A
  told_before x A f g h = go (Contains-push_cases ts t x h)
    where
      go : Contains ts x ⊎ (t ≡ x) → A
      go (inl h) = f h
      go (inr e) = g e

  still_lower : (j : ℤ) → IsLower c ts j → IsLower c (ts ++ t ∷ []) j
  still_lower j (inl e) = inl e
  still_lower j (inr h) = inr (still_told (AtLeast j) h)

  still_upper : (j : ℤ) → IsUpper c ts j → IsUpper c (ts ++ t ∷ []) j
  still_upper j (inl e) = inl e
  still_upper j (inr h) = inr (still_told (AtMost j) h)

  lower_before : (j : ℤ) (A : Type 0) → (IsLower c ts j → A) → (t ≡ AtLeast j → A) → IsLower c (ts ++ t ∷ []) j → A
  lower_before j A f g (inl e) = f (inl e)
  lower_before j A f g (inr h) = told_before (AtLeast j) A (λ x. f (inr x)) g h

  upper_before : (j : ℤ) (A : Type 0) → (IsUpper c ts j → A) → (t ≡ AtMost j → A) → IsUpper c (ts ++ t ∷ []) j → A
  upper_before j A f g (inl e) = f (inl e)
  upper_before j A f g (inr h) = told_before (AtMost j) A (λ x. f (inr x)) g h

  still_opposed : (k : Kind) → AreOpposed c k ts → AreOpposed c k (ts ++ t ∷ [])
  still_opposed kinds.Signal h = (still_told On h.0, still_told Off h.1)
  still_opposed kinds.Number h = (h.0, h.1, h.2, still_lower h.0 h.3, still_upper h.1 h.4)

  still_clashes : Clashes c ts → Clashes c (ts ++ t ∷ [])
  still_clashes (inl h) = inl (still_told Clash h)
  still_clashes (inr h) = inr (still_opposed c.kind h)

-- NUMBERS

module _ (lo hi : ℤ) (l : IsTrue (is_cell kinds.Number lo hi)) where
  abbrev number : Cell
  number = cell_of kinds.Number lo hi l

  number_bottom : Bounds number [] lo hi
  number_bottom = record {
    low = inl refl;
    lowest = λ j h. low_is j h;
    high = inl refl;
    highest = λ j h. high_is j h;
    calm = none_told Clash;
    proper = grind (arith, ints);
  }
    where
      low_is : (j : ℤ) → IsLower number [] j → j ≤ℤ lo
      low_is j (inl e) = grind (arith, ints)
      low_is j (inr h) = absurd (none_told (AtLeast j) h)

      high_is : (j : ℤ) → IsUpper number [] j → hi ≤ℤ j
      high_is j (inl e) = grind (arith, ints)
      high_is j (inr h) = absurd (none_told (AtMost j) h)

  module _ (ts : List Token) (a b k : ℤ) (i : Bounds number ts a b) where
    with_lower : (p q : Bool) → int_le k a ≡ p → int_lt b k ≡ q
        → SumsUp number (ts ++ AtLeast k ∷ []) kinds.Number (cond p (values.Number a b) (cond q values.Clash (values.Number k b)))
    with_lower true q ep eq = bounds a b (record {
      low = still_lower number ts (AtLeast k) a i.low;
      lowest = λ j. lower_before number ts (AtLeast k) j (j ≤ℤ a) (i.lowest j) (λ e. let s : k ≡ j = cc in subst (λ (x : ℤ). x ≤ℤ a) s (grind (arith, ints)));
      high = still_upper number ts (AtLeast k) b i.high;
      highest = λ j. upper_before number ts (AtLeast k) j (b ≤ℤ j) (i.highest j) (λ e. absurd (cc));
      calm = told_before number ts (AtLeast k) Clash ⊥ i.calm (λ e. cc);
      proper = i.proper;
    })
    with_lower false true ep eq = clashes kinds.Number (inr (k, b, grind (arith, ints), inr (Contains-push ts (AtLeast k)), still_upper number ts (AtLeast k) b i.high))
    with_lower false false ep eq = bounds k b (record {
      low = inr (Contains-push ts (AtLeast k));
      lowest = λ j. lower_before number ts (AtLeast k) j (j ≤ℤ k) (λ h. let f = i.lowest j h in grind (arith, ints)) (λ e. let s : k ≡ j = cc in subst (λ (x : ℤ). x ≤ℤ k) s (grind (arith, ints)));
      high = still_upper number ts (AtLeast k) b i.high;
      highest = λ j. upper_before number ts (AtLeast k) j (b ≤ℤ j) (i.highest j) (λ e. absurd (cc));
      calm = told_before number ts (AtLeast k) Clash ⊥ i.calm (λ e. cc);
      proper = grind (arith, ints);
    })

    with_upper : (p q : Bool) → int_le b k ≡ p → int_lt k a ≡ q
        → SumsUp number (ts ++ AtMost k ∷ []) kinds.Number (cond p (values.Number a b) (cond q values.Clash (values.Number a k)))
    with_upper true q ep eq = bounds a b (record {
      low = still_lower number ts (AtMost k) a i.low;
      lowest = λ j. lower_before number ts (AtMost k) j (j ≤ℤ a) (i.lowest j) (λ e. absurd (cc));
      high = still_upper number ts (AtMost k) b i.high;
      highest = λ j. upper_before number ts (AtMost k) j (b ≤ℤ j) (i.highest j) (λ e. let s : k ≡ j = cc in subst (λ (x : ℤ). b ≤ℤ x) s (grind (arith, ints)));
      calm = told_before number ts (AtMost k) Clash ⊥ i.calm (λ e. cc);
      proper = i.proper;
    })
    with_upper false true ep eq = clashes kinds.Number (inr (a, k, grind (arith, ints), still_lower number ts (AtMost k) a i.low, inr (Contains-push ts (AtMost k))))
    with_upper false false ep eq = bounds a k (record {
      low = still_lower number ts (AtMost k) a i.low;
      lowest = λ j. lower_before number ts (AtMost k) j (j ≤ℤ a) (i.lowest j) (λ e. absurd (cc));
      high = inr (Contains-push ts (AtMost k));
      highest = λ j. upper_before number ts (AtMost k) j (k ≤ℤ j) (λ h. let f = i.highest j h in grind (arith, ints)) (λ e. let s : k ≡ j = cc in subst (λ (x : ℤ). k ≤ℤ x) s (grind (arith, ints)));
      calm = told_before number ts (AtMost k) Clash ⊥ i.calm (λ e. cc);
      proper = grind (arith, ints);
    })

    no_clash : Clashes number ts → ⊥
    no_clash (inl h) = i.calm h
    no_clash (inr h) = let x = i.lowest h.0 h.3 in let y = i.highest h.1 h.4 in let p = i.proper in let q = h.2 in grind (arith, ints)

-- SIGNALS

module _ (lo hi : ℤ) (l : IsTrue (is_cell kinds.Signal lo hi)) where
  abbrev signal : Cell
  signal = cell_of kinds.Signal lo hi l

  signal_bottom : Signs [] false false
  signal_bottom = record {
    on_told = λ h. absurd (true_false (sym h));
    told_on = λ h. absurd (none_told On h);
    off_told = λ h. absurd (true_false (sym h));
    told_off = λ h. absurd (none_told Off h);
    calm = none_told Clash;
    proper = refl;
  }

  module _ (ts : List Token) where
    with_on : (a b : Bool) → Signs ts a b → SumsUp signal (ts ++ On ∷ []) kinds.Signal (cond b values.Clash (values.Signal true b))
    with_on a true i = clashes kinds.Signal (inr (Contains-push ts On, still_told signal ts On Off (i.off_told refl)))
    with_on a false i = signs true false (record {
      on_told = λ h. Contains-push ts On;
      told_on = λ h. refl;
      off_told = λ h. absurd (true_false (sym h));
      told_off = told_before signal ts On Off (IsTrue false) i.told_off (λ e. absurd (cc));
      calm = told_before signal ts On Clash ⊥ i.calm (λ e. cc);
      proper = refl;
    })

    with_off : (a b : Bool) → Signs ts a b → SumsUp signal (ts ++ Off ∷ []) kinds.Signal (cond a values.Clash (values.Signal a true))
    with_off true b i = clashes kinds.Signal (inr (still_told signal ts Off On (i.on_told refl), Contains-push ts Off))
    with_off false b i = signs false true (record {
      on_told = λ h. absurd (true_false (sym h));
      told_on = told_before signal ts Off On (IsTrue false) i.told_on (λ e. absurd (cc));
      off_told = λ h. Contains-push ts Off;
      told_off = λ h. refl;
      calm = told_before signal ts Off Clash ⊥ i.calm (λ e. cc);
      proper = refl;
    })

    no_signal_clash : (a b : Bool) → Signs ts a b → Clashes signal ts → ⊥
    no_signal_clash a b i (inl h) = i.calm h
    no_signal_clash a b i (inr h) = go a b (i.told_on h.0) (i.told_off h.1) i.proper
      where
        go : (a b : Bool) → IsTrue a → IsTrue b → IsTrue (not (a && b)) → ⊥
        go true true p q r = true_false (sym r)
        go true false p q r = true_false (sym q)
        go false b p q r = true_false (sym p)

-- EACH KIND

-- what tokens entail that do not clash
calm_entails : (c : Cell) (ts : List Token) (t : Token) (b : Bool) → Fits c t → (Clashes c ts → ⊥) → (IsTrue b → EntailsWithoutClash c ts t) → (EntailsWithoutClash c ts t → IsTrue b) → (IsTrue b) ↔ (TokensEntail c ts t)
calm_entails c ts t b f none g h = (λ x. (f, inr (g x)), λ x. go x.1)
  where
    go : Clashes c ts ⊎ EntailsWithoutClash c ts t → IsTrue b
    go (inl x) = absurd (none x)
    go (inr x) = h x

-- a value that is no clash does not entail one
no_clash_entailed : (c : Cell) (ts : List Token) → Fits c Clash → (Clashes c ts → ⊥) → (IsTrue false) ↔ (TokensEntail c ts Clash)
no_clash_entailed c ts f none = calm_entails c ts Clash false f none (λ h. absurd (true_false (sym h))) (λ h. absurd h)

module _ (lo hi : ℤ) where
  pub bottom-sums_up : (k : Kind) (l : IsTrue (is_cell k lo hi)) → SumsUp (cell_of k lo hi l) [] k (bottom_for k lo hi)
  bottom-sums_up kinds.Signal l = signs false false (signal_bottom lo hi l)
  bottom-sums_up kinds.Number l = bounds lo hi (number_bottom lo hi l)

  with_fitting : (k : Kind) (l : IsTrue (is_cell k lo hi)) (ts : List Token) (v : Value) (t : Token) → SumsUp (cell_of k lo hi l) ts k v → Fitting k t → SumsUp (cell_of k lo hi l) (ts ++ t ∷ []) k (value_with v t)
  with_fitting _ l ts _ t (clashes k h) f = clashes k (still_clashes (cell_of k lo hi l) ts t h)
  with_fitting _ l ts v _ s (by.Fitting.clash k) = subst (SumsUp (cell_of k lo hi l) (ts ++ Clash ∷ []) k) (sym (clash_added v)) (clashes k (inl (Contains-push ts Clash)))
  with_fitting _ l ts _ _ (signs a b s) on = with_on lo hi l ts a b s
  with_fitting _ l ts _ _ (signs a b s) off = with_off lo hi l ts a b s
  with_fitting _ l ts _ _ (bounds a b s) (at_least k f) = with_lower lo hi l ts a b k s _ _ refl refl
  with_fitting _ l ts _ _ (bounds a b s) (at_most k f) = with_upper lo hi l ts a b k s _ _ refl refl

  pub with-sums_up : (k : Kind) (l : IsTrue (is_cell k lo hi)) (ts : List Token) (v : Value) (t : Token) → SumsUp (cell_of k lo hi l) ts k v → IsTrue (fits_kind k t) → SumsUp (cell_of k lo hi l) (ts ++ t ∷ []) k (value_with v t)
  with-sums_up k l ts v t s f = with_fitting k l ts v t s (fitting k t f)

  stands_by : (k : Kind) (l : IsTrue (is_cell k lo hi)) (ts : List Token) (v : Value) → SumsUp (cell_of k lo hi l) ts k v → (t : Token) → IsTrue (fits_kind k t) → Fitting k t → (IsTrue (value_entails v t)) ↔ (TokensEntail (cell_of k lo hi l) ts t)
  stands_by _ l ts _ (clashes k h) t f g = (λ x. (f, inl h), λ x. refl)
  stands_by _ l ts _ (signs a b s) _ f on = calm_entails (signal lo hi l) ts On a f (no_signal_clash lo hi l ts a b s) s.on_told s.told_on
  stands_by _ l ts _ (signs a b s) _ f off = calm_entails (signal lo hi l) ts Off b f (no_signal_clash lo hi l ts a b s) s.off_told s.told_off
  stands_by _ l ts _ (signs a b s) _ f (by.Fitting.clash _) = no_clash_entailed (signal lo hi l) ts f (no_signal_clash lo hi l ts a b s)
  stands_by _ l ts _ (bounds a b s) _ f (at_least k g) = calm_entails (number lo hi l) ts (AtLeast k) (int_le k a) f (no_clash lo hi l ts a b k s) (λ h. (a, s.low, grind (arith, ints))) (λ h. let x = s.lowest h.0 h.1 in let y = h.2 in grind (arith, ints))
  stands_by _ l ts _ (bounds a b s) _ f (at_most k g) = calm_entails (number lo hi l) ts (AtMost k) (int_le b k) f (no_clash lo hi l ts a b k s) (λ h. (b, s.high, grind (arith, ints))) (λ h. let x = s.highest h.0 h.1 in let y = h.2 in grind (arith, ints))
  stands_by _ l ts _ (bounds a b s) _ f (by.Fitting.clash _) = no_clash_entailed (number lo hi l) ts f (no_clash lo hi l ts a b a s)

  -- a value that sums tokens up stands for them
  pub sum-stands : (k : Kind) (l : IsTrue (is_cell k lo hi)) (ts : List Token) (v : Value) → SumsUp (cell_of k lo hi l) ts k v → StandsFor (cell_of k lo hi l) v ts
  sum-stands k l ts v s t f = stands_by k l ts v s t f (fitting k t f)
