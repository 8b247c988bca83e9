-- The order of values: the test agrees with what they entail, it is an order, and the join is the least upper bound in it.
use Rattle.std.proofs.Common.{◌≡◌, Bool, true, false, cond, ◌&&◌, ◌||◌, ℤ, refl, sym, ap, ◌∙◌, subst, arith}
use Rattle.std.specs.Prelude.{◌↔◌, ◌≤ℤ◌, IsTrue, int_le, int_lt}
use Rattle.std.specs.Int.{int_max, int_min}
use Rattle.std.specs.Int.Signed.{≤ℤ_refl}
use Rattle.std.proofs.lemmas.Int.{ints}
use Rattle.token_system.specs.Domain.{is_cell}
use Rattle.token_system.specs.declared.cell.Kind.{Kind}
use Rattle.token_system.specs.declared.cell.Cell.{Cell}
use Rattle.token_system.specs.declared.cell.Token.TheVariants.{On, Off, AtLeast, AtMost, Clash}
use Rattle.token_system.specs.declared.cell.Value.{Value}
use Rattle.token_system.specs.declared.cell.Value.TheVariants as values
use Rattle.token_system.specs.Values.{IsProper, IsValueOf}
use Rattle.token_system.specs.Joins.{IsBelow, implies, value_leq, value_join, signal_of, number_between}
use Rattle.token_system.proofs.Alike.{Covers, true_false, within_bound, le_itself, same_tokens, clash_alone}
use Rattle.token_system.proofs.Adding.{signal_covers, number_covers, clash_covers}
use Rattle.token_system.proofs.ByKind.{OfKind, of_kind}
use Rattle.token_system.proofs.ByKind as by

implied : (a b : Bool) → IsTrue (implies a b) → IsTrue a → IsTrue b
implied true b h p = h
implied false b h p = absurd (true_false (sym p))

implying : (a b : Bool) → (IsTrue a → IsTrue b) → IsTrue (implies a b)
implying true b f = f refl
implying false b f = refl

both : (a b : Bool) → IsTrue a → IsTrue b → IsTrue (a && b)
both true b p q = q
both false b p q = p

first : (a b : Bool) → IsTrue (a && b) → IsTrue a
first true b h = refl
first false b h = h

second : (a b : Bool) → IsTrue (a && b) → IsTrue b
second true b h = h
second false b h = absurd (true_false (sym h))

between : (a b c : ℤ) → a ≤ℤ b → b ≤ℤ c → a ≤ℤ c
between a b c p q = grind (arith, ints)

between_same : (a b : ℤ) → a ≤ℤ b → b ≤ℤ a → a ≡ b
between_same a b p q = grind (arith, ints)

-- what the test says of two numbers
tighter : (a b c d : ℤ) → IsTrue (value_leq (values.Number a b) (values.Number c d)) → (a ≤ℤ c) × (d ≤ℤ b)
tighter a b c d h =
    let low : IsTrue (int_le a c) = first (int_le a c) (int_le d b) h in
    let high : IsTrue (int_le d b) = second (int_le a c) (int_le d b) h in
    (grind (arith, ints), grind (arith, ints))

from_tighter : (a b c d : ℤ) → a ≤ℤ c → d ≤ℤ b → IsTrue (value_leq (values.Number a b) (values.Number c d))
from_tighter a b c d p q = both (int_le a c) (int_le d b) (grind (arith, ints)) (grind (arith, ints))

-- what the test finds, case by case
data Leq : Value → Value → Type 0 where
  top : (x : Value) → Leq x values.Clash
  signals : (a b c d : Bool) → IsTrue (implies a c) → IsTrue (implies b d) → Leq (values.Signal a b) (values.Signal c d)
  numbers : (a b c d : ℤ) → a ≤ℤ c → d ≤ℤ b → Leq (values.Number a b) (values.Number c d)

leq_case : (x y : Value) → IsTrue (value_leq x y) → Leq x y
leq_case x values.Clash h = top x
leq_case (values.Signal a b) (values.Signal c d) h = signals a b c d (first _ _ h) (second _ _ h)
leq_case (values.Number a b) (values.Number c d) h = let t = tighter a b c d h in numbers a b c d t.0 t.1
leq_case (values.Signal a b) (values.Number c d) h = absurd (true_false (sym h))
leq_case (values.Number a b) (values.Signal c d) h = absurd (true_false (sym h))
leq_case values.Clash (values.Signal c d) h = absurd (true_false (sym h))
leq_case values.Clash (values.Number c d) h = absurd (true_false (sym h))

case_leq : (x y : Value) → Leq x y → IsTrue (value_leq x y)
case_leq x _ (top _) = refl
case_leq _ _ (signals a b c d p q) = both _ _ p q
case_leq _ _ (numbers a b c d p q) = from_tighter a b c d p q

-- THE TEST AND WHAT IS ENTAILED

covers_by : (k : Kind) (lo hi : ℤ) (x y : Value) → Leq x y → OfKind lo hi k x → Covers k x y
covers_by k lo hi x _ (top _) d = clash_covers k x
covers_by _ lo hi _ _ (signals a b c e p q) (by.signal _ _) = signal_covers a b c e (implied a c p) (implied b e q)
covers_by _ lo hi _ _ (numbers a b c e p q) (by.number _ _ _ _) = number_covers a b c e p q

leq_by : (k : Kind) (lo hi : ℤ) (x y : Value) → IsTrue (is_cell k lo hi) → OfKind lo hi k x → IsProper x → OfKind lo hi k y → Covers k x y → Leq x y
leq_by _ lo hi x _ l d p (by.OfKind.clash k) h = top x
leq_by _ lo hi _ y l (by.OfKind.clash k) p d h = subst (λ (z : Value). Leq values.Clash z) (sym (clash_alone y (h Clash refl refl))) (top values.Clash)
leq_by _ lo hi _ _ l (by.signal a b) p (by.signal c e) h = signals a b c e (implying a c (h On refl)) (implying b e (h Off refl))
leq_by _ lo hi _ _ l (by.number a b la bh) p (by.number c e _ _) h =
    let u = within_bound lo a hi b l la p bh in
    let t = tighter a b c e (both _ _ (h (AtLeast a) u.0 (le_itself a)) (h (AtMost b) u.1 (le_itself b))) in
    numbers a b c e t.0 t.1

-- the test says of values of a cell whether the second entails all that the first does
pub leq-is_below : (x y : Value) (b : Bool) → b ≡ value_leq x y → (c : Cell) → IsValueOf c x → IsValueOf c y → (IsTrue b) ↔ (IsBelow c x y)
leq-is_below x y b e c vx vy = (
  λ h. covers_by c.kind c.lo c.hi x y (leq_case x y (sym e ∙ h)) (of_kind c.lo c.hi c.kind x vx.domain),
  λ h. e ∙ case_leq x y (leq_by c.kind c.lo c.hi x y c.lawful (of_kind c.lo c.hi c.kind x vx.domain) vx.proper (of_kind c.lo c.hi c.kind y vy.domain) h),
)

-- values of a cell that entail the same tokens are equal
pub below-antisymm : (c : Cell) (x y : Value) → IsValueOf c x → IsValueOf c y → IsBelow c x y → IsBelow c y x → x ≡ y
below-antisymm c x y vx vy xy yx = same_tokens c.kind c.lo c.hi x y c.lawful vx.domain vx.proper vy.domain vy.proper xy yx

-- AN ORDER

bool_itself : (a : Bool) → IsTrue (implies a a)
bool_itself true = refl
bool_itself false = refl

pub leq-refl : (x : Value) → IsTrue (value_leq x x)
leq-refl values.Clash = refl
leq-refl (values.Signal a b) = both _ _ (bool_itself a) (bool_itself b)
leq-refl (values.Number a b) = from_tighter a b a b (≤ℤ_refl a) (≤ℤ_refl b)

trans_by : (x y z : Value) → Leq x y → Leq y z → Leq x z
trans_by x y _ p (top _) = top x
trans_by _ _ _ (signals a b c d p q) (signals _ _ e f r s) = signals a b e f (implying a e (λ h. implied c e r (implied a c p h))) (implying b f (λ h. implied d f s (implied b d q h)))
trans_by _ _ _ (numbers a b c d p q) (numbers _ _ e f r s) = numbers a b e f (between a c e p r) (between f d b s q)

pub leq-trans : (x y z : Value) → IsTrue (value_leq x y) → IsTrue (value_leq y z) → IsTrue (value_leq x z)
leq-trans x y z p q = case_leq x z (trans_by x y z (leq_case x y p) (leq_case y z q))

same_both : (a b : Bool) → IsTrue (implies a b) → IsTrue (implies b a) → a ≡ b
same_both true true p q = refl
same_both true false p q = sym p
same_both false true p q = q
same_both false false p q = refl

top_alone : (x : Value) → Leq values.Clash x → x ≡ values.Clash
top_alone _ (top _) = refl

antisymm_by : (x y : Value) → Leq x y → IsTrue (value_leq y x) → x ≡ y
antisymm_by x _ (top _) h = top_alone x (leq_case values.Clash x h)
antisymm_by _ _ (signals a b c d p q) h = ap (λ e. values.Signal e b) (same_both a c p (first _ _ h)) ∙ ap (values.Signal c) (same_both b d q (second _ _ h))
antisymm_by _ _ (numbers a b c d p q) h = let t = tighter c d a b h in ap (λ n. values.Number n b) (between_same a c p t.0) ∙ ap (values.Number c) (between_same b d t.1 q)

pub leq-antisymm : (x y : Value) → IsTrue (value_leq x y) → IsTrue (value_leq y x) → x ≡ y
leq-antisymm x y p q = antisymm_by x y (leq_case x y p) q

-- THE LEAST UPPER BOUND

or_first : (a b : Bool) → IsTrue (implies a (a || b))
or_first true b = refl
or_first false b = refl

or_second : (a b : Bool) → IsTrue (implies b (a || b))
or_second true true = refl
or_second true false = refl
or_second false b = bool_itself b

or_least : (a b x : Bool) → IsTrue (implies a x) → IsTrue (implies b x) → IsTrue (implies (a || b) x)
or_least true b x p q = p
or_least false b x p q = q

max_first : (a c : ℤ) → a ≤ℤ int_max a c
max_first a c = grind (arith, ints)

max_second : (a c : ℤ) → c ≤ℤ int_max a c
max_second a c = grind (arith, ints)

max_least : (a c e : ℤ) → a ≤ℤ e → c ≤ℤ e → int_max a c ≤ℤ e
max_least a c e p q = grind (arith, ints)

min_first : (b d : ℤ) → int_min b d ≤ℤ b
min_first b d = grind (arith, ints)

min_second : (b d : ℤ) → int_min b d ≤ℤ d
min_second b d = grind (arith, ints)

min_greatest : (b d f : ℤ) → f ≤ℤ b → f ≤ℤ d → f ≤ℤ int_min b d
min_greatest b d f p q = grind (arith, ints)

-- the join, case by case: of values that have none it is a clash
data Join : Value → Value → Value → Type 0 where
  of_signals : (a b c d : Bool) → Join (values.Signal a b) (values.Signal c d) (signal_of (a || c) (b || d))
  of_numbers : (a b c d : ℤ) → Join (values.Number a b) (values.Number c d) (number_between (int_max a c) (int_min b d))
  of_others : (x y : Value) → Join x y values.Clash

join_case : (x y : Value) → Join x y (value_join x y)
join_case (values.Signal a b) (values.Signal c d) = of_signals a b c d
join_case (values.Number a b) (values.Number c d) = of_numbers a b c d
join_case (values.Signal a b) (values.Number c d) = of_others (values.Signal a b) (values.Number c d)
join_case (values.Signal a b) values.Clash = of_others (values.Signal a b) values.Clash
join_case (values.Number a b) (values.Signal c d) = of_others (values.Number a b) (values.Signal c d)
join_case (values.Number a b) values.Clash = of_others (values.Number a b) values.Clash
join_case values.Clash y = of_others values.Clash y

-- what is below both parts of a value is below the value that they make, a clash among others
above_made : (v w : Value) (b : Bool) → Leq v w → Leq v (cond b values.Clash w)
above_made v w true h = top v
above_made v w false h = h

above_first : (x y z : Value) → Join x y z → Leq x z
above_first _ _ _ (of_signals a b c d) = above_made (values.Signal a b) (values.Signal (a || c) (b || d)) ((a || c) && (b || d)) (signals a b (a || c) (b || d) (or_first a c) (or_first b d))
above_first _ _ _ (of_numbers a b c d) = above_made (values.Number a b) (values.Number (int_max a c) (int_min b d)) (int_lt (int_min b d) (int_max a c)) (numbers a b (int_max a c) (int_min b d) (max_first a c) (min_first b d))
above_first x _ _ (of_others _ _) = top x

above_second : (x y z : Value) → Join x y z → Leq y z
above_second _ _ _ (of_signals a b c d) = above_made (values.Signal c d) (values.Signal (a || c) (b || d)) ((a || c) && (b || d)) (signals c d (a || c) (b || d) (or_second a c) (or_second b d))
above_second _ _ _ (of_numbers a b c d) = above_made (values.Number c d) (values.Number (int_max a c) (int_min b d)) (int_lt (int_min b d) (int_max a c)) (numbers c d (int_max a c) (int_min b d) (max_second a c) (min_second b d))
above_second _ y _ (of_others _ _) = top y

pub join-above_first : (x y : Value) → IsTrue (value_leq x (value_join x y))
join-above_first x y = case_leq x (value_join x y) (above_first x y (value_join x y) (join_case x y))

pub join-above_second : (x y : Value) → IsTrue (value_leq y (value_join x y))
join-above_second x y = case_leq y (value_join x y) (above_second x y (value_join x y) (join_case x y))

signal_below : (on off x y : Bool) → IsProper (values.Signal x y) → IsTrue (implies on x) → IsTrue (implies off y) → IsTrue (value_leq (signal_of on off) (values.Signal x y))
signal_below true true true true p h k = absurd (true_false (sym p))
signal_below true true false y p h k = absurd (true_false (sym h))
signal_below true true true false p h k = absurd (true_false (sym k))
signal_below true false x y p h k = both _ _ h k
signal_below false off x y p h k = both _ _ h k

number_below : (lo hi x y : ℤ) → IsProper (values.Number x y) → lo ≤ℤ x → y ≤ℤ hi → IsTrue (value_leq (number_between lo hi) (values.Number x y))
number_below lo hi x y p h k = go _ refl
  where
    go : (b : Bool) → int_lt hi lo ≡ b → IsTrue (value_leq (cond b values.Clash (values.Number lo hi)) (values.Number x y))
    go true e = absurd (let lt = e in grind (arith, ints))
    go false e = from_tighter lo hi x y h k

least_by : (x y z : Value) → IsProper z → Leq x z → Leq y z → IsTrue (value_leq (value_join x y) z)
least_by x y _ p (top _) k = refl
least_by _ _ _ p (signals a b _ _ h i) (signals c d e f k l) = signal_below (a || c) (b || d) e f p (or_least a c e h k) (or_least b d f i l)
least_by _ _ _ p (numbers a b _ _ h i) (numbers c d e f k l) = number_below (int_max a c) (int_min b d) e f p (max_least a c e h k) (min_greatest b d f i l)

pub join-least : (x y z : Value) → IsProper z → IsTrue (value_leq x z) → IsTrue (value_leq y z) → IsTrue (value_leq (value_join x y) z)
join-least x y z p h k = least_by x y z p (leq_case x z h) (leq_case y z k)
