-- The join of two values sums up the tokens of both, so it stands for them.
use Rattle.std.proofs.Common.{◌≡◌, ◌⊎◌, inl, inr, Bool, true, false, cond, ◌&&◌, ◌||◌, not, ℤ, List, ◌++◌, refl, sym, subst, arith}
use Rattle.std.specs.Prelude.{◌≤ℤ◌, IsTrue, int_lt, Contains}
use Rattle.std.specs.Int.{int_max, int_min}
use Rattle.std.proofs.lemmas.Int.{ints}
use Rattle.std.proofs.lemmas.List.Elements.{Contains-append_left, Contains-append_right, Contains-append_cases}
use Rattle.token_system.specs.Domain.{is_cell}
use Rattle.token_system.specs.declared.cell.Kind.{Kind}
use Rattle.token_system.specs.declared.cell.Kind.TheVariants as kinds
use Rattle.token_system.specs.declared.cell.Cell.{Cell}
use Rattle.token_system.specs.declared.cell.Token.{Token}
use Rattle.token_system.specs.declared.cell.Token.TheVariants.{On, Off, AtLeast, AtMost, Clash}
use Rattle.token_system.specs.declared.cell.Value.{Value}
use Rattle.token_system.specs.declared.cell.Value.TheVariants as values
use Rattle.token_system.specs.Tokens.{IsLower, IsUpper, Clashes, AreOpposed}
use Rattle.token_system.specs.Values.{StandsFor, IsValueOf}
use Rattle.token_system.specs.Joins.{value_join, signal_of, number_between}
use Rattle.token_system.proofs.Alike.{true_false}
use Rattle.token_system.proofs.Sums.{cell_of, Bounds, Signs, SumsUp, signs, bounds, clashes, sum-stands}
use Rattle.token_system.proofs.Standing.{stands-sums_up}

module _ (c : Cell) (ts us : List Token) where
  told_in_either : (x : Token) (A : Type 0) → (Contains ts x → A) → (Contains us x → A) → Contains (ts ++ us) x → A
  told_in_either x A f g h = go (Contains-append_cases ts us x h)
    where
      go : Contains ts x ⊎ Contains us x → A
      go (inl h) = f h
      go (inr h) = g h

  lower_left : (j : ℤ) → IsLower c ts j → IsLower c (ts ++ us) j
  lower_left j (inl e) = inl e
  lower_left j (inr h) = inr (Contains-append_left ts us (AtLeast j) h)

  lower_right : (j : ℤ) → IsLower c us j → IsLower c (ts ++ us) j
  lower_right j (inl e) = inl e
  lower_right j (inr h) = inr (Contains-append_right ts us (AtLeast j) h)

  upper_left : (j : ℤ) → IsUpper c ts j → IsUpper c (ts ++ us) j
  upper_left j (inl e) = inl e
  upper_left j (inr h) = inr (Contains-append_left ts us (AtMost j) h)

  upper_right : (j : ℤ) → IsUpper c us j → IsUpper c (ts ++ us) j
  upper_right j (inl e) = inl e
  upper_right j (inr h) = inr (Contains-append_right ts us (AtMost j) h)

  lower_in_either : (j : ℤ) (A : Type 0) → (IsLower c ts j → A) → (IsLower c us j → A) → IsLower c (ts ++ us) j → A
  lower_in_either j A f g (inl e) = f (inl e)
  lower_in_either j A f g (inr h) = told_in_either (AtLeast j) A (λ x. f (inr x)) (λ x. g (inr x)) h

  upper_in_either : (j : ℤ) (A : Type 0) → (IsUpper c ts j → A) → (IsUpper c us j → A) → IsUpper c (ts ++ us) j → A
  upper_in_either j A f g (inl e) = f (inl e)
  upper_in_either j A f g (inr h) = told_in_either (AtMost j) A (λ x. f (inr x)) (λ x. g (inr x)) h

  opposed_left : (k : Kind) → AreOpposed c k ts → AreOpposed c k (ts ++ us)
  opposed_left kinds.Signal h = (Contains-append_left ts us On h.0, Contains-append_left ts us Off h.1)
  opposed_left kinds.Number h = (h.0, h.1, h.2, lower_left h.0 h.3, upper_left h.1 h.4)

  opposed_right : (k : Kind) → AreOpposed c k us → AreOpposed c k (ts ++ us)
  opposed_right kinds.Signal h = (Contains-append_right ts us On h.0, Contains-append_right ts us Off h.1)
  opposed_right kinds.Number h = (h.0, h.1, h.2, lower_right h.0 h.3, upper_right h.1 h.4)

  clashes_left : Clashes c ts → Clashes c (ts ++ us)
  clashes_left (inl h) = inl (Contains-append_left ts us Clash h)
  clashes_left (inr h) = inr (opposed_left c.kind h)

  clashes_right : Clashes c us → Clashes c (ts ++ us)
  clashes_right (inl h) = inl (Contains-append_right ts us Clash h)
  clashes_right (inr h) = inr (opposed_right c.kind h)

  -- NUMBERS

  -- the greater of the two greatest lower bounds is that of both lists
  greatest_lower : (a e : ℤ) → ((j : ℤ) → IsLower c ts j → j ≤ℤ a) → ((j : ℤ) → IsLower c us j → j ≤ℤ e) → IsLower c ts a → IsLower c us e
      → IsLower c (ts ++ us) (int_max a e) × ((j : ℤ) → IsLower c (ts ++ us) j → j ≤ℤ int_max a e)
  greatest_lower a e f g x y = (is_lower _ refl, λ j. lower_in_either j (j ≤ℤ int_max a e) (λ h. let r = f j h in grind (arith, ints)) (λ h. let r = g j h in grind (arith, ints)))
    where
      is_lower : (p : Bool) → int_lt e a ≡ p → IsLower c (ts ++ us) (cond p a e)
      is_lower true q = lower_left a x
      is_lower false q = lower_right e y

  least_upper : (b d : ℤ) → ((k : ℤ) → IsUpper c ts k → b ≤ℤ k) → ((k : ℤ) → IsUpper c us k → d ≤ℤ k) → IsUpper c ts b → IsUpper c us d
      → IsUpper c (ts ++ us) (int_min b d) × ((k : ℤ) → IsUpper c (ts ++ us) k → int_min b d ≤ℤ k)
  least_upper b d f g x y = (is_upper _ refl, λ k. upper_in_either k (int_min b d ≤ℤ k) (λ h. let r = f k h in grind (arith, ints)) (λ h. let r = g k h in grind (arith, ints)))
    where
      is_upper : (p : Bool) → int_lt d b ≡ p → IsUpper c (ts ++ us) (cond p d b)
      is_upper true q = upper_right d y
      is_upper false q = upper_left b x

  -- SIGNALS

  either_told : (x : Token) (a e : Bool) → (IsTrue a → Contains ts x) → (IsTrue e → Contains us x) → IsTrue (a || e) → Contains (ts ++ us) x
  either_told x true e f g h = Contains-append_left ts us x (f refl)
  either_told x false e f g h = Contains-append_right ts us x (g h)

  told_either : (x : Token) (a e : Bool) → (Contains ts x → IsTrue a) → (Contains us x → IsTrue e) → Contains (ts ++ us) x → IsTrue (a || e)
  told_either x true e f g h = refl
  told_either x false e f g h = told_in_either x (IsTrue e) (λ y. absurd (true_false (sym (f y)))) g h

module _ (lo hi : ℤ) (l : IsTrue (is_cell kinds.Number lo hi)) (ts us : List Token) where
  abbrev number : Cell
  number = cell_of kinds.Number lo hi l

  number_made : (a b : ℤ) → IsLower number (ts ++ us) a × ((j : ℤ) → IsLower number (ts ++ us) j → j ≤ℤ a) → IsUpper number (ts ++ us) b × ((k : ℤ) → IsUpper number (ts ++ us) k → b ≤ℤ k)
      → (Contains (ts ++ us) Clash → ⊥) → (p : Bool) → int_lt b a ≡ p → SumsUp number (ts ++ us) kinds.Number (cond p values.Clash (values.Number a b))
  number_made a b x y calm true e = clashes kinds.Number (inr (a, b, grind (arith, ints), x.0, y.0))
  number_made a b x y calm false e = bounds a b (record { low = x.0; lowest = x.1; high = y.0; highest = y.1; calm = calm; proper = grind (arith, ints) })

  numbers_join : (a b c d : ℤ) → Bounds number ts a b → Bounds number us c d → SumsUp number (ts ++ us) kinds.Number (number_between (int_max a c) (int_min b d))
  numbers_join a b c d i j =
      number_made (int_max a c) (int_min b d) (greatest_lower number ts us a c i.lowest j.lowest i.low j.low) (least_upper number ts us b d i.highest j.highest i.high j.high)
      (told_in_either number ts us Clash ⊥ i.calm j.calm) _ refl

both_true : (x y : Bool) → (x && y) ≡ true → IsTrue x × IsTrue y
both_true true true e = (refl, refl)
both_true true false e = absurd (true_false (sym e))
both_true false y e = absurd (true_false (sym e))

module _ (lo hi : ℤ) (l : IsTrue (is_cell kinds.Signal lo hi)) (ts us : List Token) where
  abbrev signal : Cell
  signal = cell_of kinds.Signal lo hi l

  signal_made : (x y : Bool) → (IsTrue x → Contains (ts ++ us) On) → (Contains (ts ++ us) On → IsTrue x) → (IsTrue y → Contains (ts ++ us) Off) → (Contains (ts ++ us) Off → IsTrue y)
      → (Contains (ts ++ us) Clash → ⊥) → (p : Bool) → (x && y) ≡ p → SumsUp signal (ts ++ us) kinds.Signal (cond p values.Clash (values.Signal x y))
  signal_made x y f g h k calm true e = let w = both_true x y e in clashes kinds.Signal (inr (f w.0, h w.1))
  signal_made x y f g h k calm false e = signs x y (record { on_told = f; told_on = g; off_told = h; told_off = k; calm = calm; proper = subst (λ (b : Bool). IsTrue (not b)) (sym e) refl })

  signals_join : (a b c d : Bool) → Signs ts a b → Signs us c d → SumsUp signal (ts ++ us) kinds.Signal (signal_of (a || c) (b || d))
  signals_join a b c d i j =
      signal_made (a || c) (b || d) (either_told signal ts us On a c i.on_told j.on_told) (told_either signal ts us On a c i.told_on j.told_on)
      (either_told signal ts us Off b d i.off_told j.off_told) (told_either signal ts us Off b d i.told_off j.told_off) (told_in_either signal ts us Clash ⊥ i.calm j.calm) _ refl

join_clash : (v : Value) → value_join v values.Clash ≡ values.Clash
join_clash values.Clash = refl
join_clash (values.Signal a b) = refl
join_clash (values.Number a b) = refl

join-sums_up : (lo hi : ℤ) (ts us : List Token) (k : Kind) (l : IsTrue (is_cell k lo hi)) (v w : Value) → SumsUp (cell_of k lo hi l) ts k v → SumsUp (cell_of k lo hi l) us k w → SumsUp (cell_of k lo hi l) (ts ++ us) k (value_join v w)
join-sums_up lo hi ts us _ l _ w (clashes k h) t = clashes k (clashes_left (cell_of k lo hi l) ts us h)
join-sums_up lo hi ts us _ l v _ s (clashes k h) = subst (SumsUp (cell_of k lo hi l) (ts ++ us) k) (sym (join_clash v)) (clashes k (clashes_right (cell_of k lo hi l) ts us h))
join-sums_up lo hi ts us _ l _ _ (signs a b s) (signs c d t) = signals_join lo hi l ts us a b c d s t
join-sums_up lo hi ts us _ l _ _ (bounds a b s) (bounds c d t) = numbers_join lo hi l ts us a b c d s t

-- the join of two values of a cell stands for the tokens of both
pub join-stands : (c : Cell) (ts us : List Token) (v w : Value) → IsValueOf c v → IsValueOf c w → StandsFor c v ts → StandsFor c w us → StandsFor c (value_join v w) (ts ++ us)
join-stands c ts us v w vv vw sv sw =
    sum-stands c.lo c.hi c.kind c.lawful (ts ++ us) (value_join v w) (join-sums_up c.lo c.hi ts us c.kind c.lawful v w (stands-sums_up c ts v vv sv) (stands-sums_up c us w vw sw))

-- the same of a result that is known to be that join
pub result_stands : (v w x : Value) → x ≡ value_join v w → (c : Cell) (ts us : List Token) → IsValueOf c v → IsValueOf c w → StandsFor c v ts → StandsFor c w us → StandsFor c x (ts ++ us)
result_stands v w x e c ts us vv vw sv sw = subst (λ (y : Value). StandsFor c y (ts ++ us)) (sym e) (join-stands c ts us v w vv vw sv sw)
