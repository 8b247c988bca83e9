-- Which leaf tells first: from the parts of a list of leaves to the whole.
use Rattle.std.proofs.Common.{◌≡◌, inl, ℕ, Bool, true, false, ◌&&◌, not, List, [], ◌∷◌, ◌++◌, refl, sym, ap, ◌∙◌, subst}
use Rattle.std.specs.Prelude.{Result, IfOk, Ok, Err, IsTrue}
use Rattle.std.specs.List.{list_all}
use Rattle.std.proofs.lemmas.List.Folds.{list_all-append}
use Rattle.token_system.specs.Stores.{StoreMap}
use Rattle.agent_core.specs.Programs.{CoreProgram}
use Rattle.agent_core.specs.Agents.{Agent, Constraint, Skip, Tell, Then, Else, Par, New, Hence, Next}
use Rattle.agent_core.specs.Leaves.{Guard, Positive, Negative, Leaf, leaf, leaves_of, tells, allows, runs}
use Rattle.agent_core.specs.Strata.{Each}
use Rattle.agent_laws.proofs.Eachs.{Each-append}
use Rattle.strata.proofs.Members.{in_left, in_right}
use Rattle.agent_core.specs.Stores.{IsStore}
use Rattle.agent_core.specs.Rests.{entails}
use Rattle.denotation_laws.specs.Dues.{is_upto, is_news, is_due, Tells, TellsOne}

module _ (p : CoreProgram) (table : List ℕ) (k : ℕ) where
  -- WHAT IS NEWS

  never : (x : Bool) → (x && false) ≡ false
  never true = refl
  never false = refl

  pub not_upto-news : (u : StoreMap) (b : List ℕ) (c : Constraint) → is_upto table k c ≡ false → is_news p table k u b c ≡ false
  not_upto-news u b c e = ap (λ x. x && not (entails p b u c)) e

  pub told-news : (u : StoreMap) (b : List ℕ) (c : Constraint) → entails p b u c ≡ true → is_news p table k u b c ≡ false
  told-news u b c e = ap (λ x. is_upto table k c && not x) e ∙ never (is_upto table k c)

  pub upto-news : (u : StoreMap) (b : List ℕ) (c : Constraint) → is_upto table k c ≡ true → entails p b u c ≡ false → IsTrue (is_news p table k u b c)
  upto-news u b c e f = ap (λ x. x && not (entails p b u c)) e ∙ ap not f

  -- ONE THAT TELLS

  abbrev pub One : List Leaf → StoreMap → Bool → StoreMap → Type 0
  One = TellsOne p table k

  -- of no leaves none tells
  pub one-none : (u w : StoreMap) → w ≡ u → One [] u false w
  one-none u w e = (tt, e)

  -- the first part has a leaf that tells
  pub one-left : (ls ms : List Leaf) (u w : StoreMap) → One ls u true w → One (ls ++ ms) u true w
  one-left ls ms u w h = (h.0, in_left h.0 ls ms h.1, h.2, h.3)

  -- the first part has none
  pub one-right : (ls ms : List Leaf) (u v w : StoreMap) (told : Bool) → One ls u false v → One ms v told w → One (ls ++ ms) u told w
  one-right ls ms u v w true h g =
      let m = subst (λ (x : StoreMap). One ms x true w) h.1 g in
      (m.0, in_right m.0 ls ms m.1, m.2, m.3)
  one-right ls ms u v w false h g =
      let m = subst (λ (x : StoreMap). One ms x false w) h.1 g in
      (Each-append (λ l. is_due p table k u l ≡ false) ls ms h.0 m.0, m.1)

  -- the same of an answer that says which it is
  pub answer-left : (ls ms : List Leaf) (u w : StoreMap) (told : Bool) → told ≡ true → One ls u told w → One (ls ++ ms) u true w
  answer-left ls ms u w told e h = one-left ls ms u w (subst (λ (b : Bool). One ls u b w) e h)

  pub answer-right : {E : Type 0} (r : Result Bool E) (ls ms : List Leaf) (u v w : StoreMap) (told : Bool) → told ≡ false → One ls u told v → IfOk r (λ b. One ms v b w) → IfOk r (λ b. One (ls ++ ms) u b w)
  answer-right (Ok b) ls ms u v w told e h g = one-right ls ms u v w b (subst (λ (x : Bool). One ls u x v) e h) g
  answer-right (Err x) ls ms u v w told e h g = tt

  -- answers over lists that are the same
  pub answer-same : {E : Type 0} (r : Result Bool E) (ls ms : List Leaf) (u w : StoreMap) → ls ≡ ms → IfOk r (λ b. One ls u b w) → IfOk r (λ b. One ms u b w)
  answer-same r ls ms u w e h = subst (λ (x : List Leaf). IfOk r (λ b. One x u b w)) e h

  -- where none tells, the store is what it was
  pub one-store : (ls : List Leaf) (u : StoreMap) (told : Bool) → told ≡ false → (w : StoreMap) → One ls u told w → IsStore p u → IsStore p w
  one-store ls u told e w h store = subst (IsStore p) (sym (subst (λ (b : Bool). One ls u b w) e h).1) store

  -- A LEAF ALONE

  neither : (a b : Bool) → a ≡ false → (a && b) ≡ false
  neither a b e = ap (λ x. x && b) e

  pub one-tell : (u w : StoreMap) (n : ℕ) (c : Constraint) (b : List ℕ) (path : List Guard) (told : Bool) → IsTrue (list_all (allows p u) path) → Tells p table k b c u told w → One (leaf n (Tell c) b path ∷ []) u told w
  one-tell u w n c b path true run h = (leaf n (Tell c) b path, inl refl, ap (λ x. x && is_news p table k u b c) run ∙ h.0, h.1)
  one-tell u w n c b path false run h = ((ap (λ x. x && is_news p table k u b c) run ∙ h.0, tt), h.1)

  -- BLOCKED LEAVES

  blocked_more : (u : StoreMap) (path : List Guard) (g : Guard) → list_all (allows p u) path ≡ false → list_all (allows p u) (path ++ g ∷ []) ≡ false
  blocked_more u path g e = list_all-append (allows p u) path (g ∷ []) ∙ ap (λ x. x && list_all (allows p u) (g ∷ [])) e

  -- below a guard that the store does not allow no leaf is to tell
  pub blocked : (u : StoreMap) (t : ℕ) (a : Agent) (n : ℕ) (b : List ℕ) (path : List Guard) → list_all (allows p u) path ≡ false → Each (λ l. is_due p table k u l ≡ false) (leaves_of t a n b path)
  blocked u t Skip n b path e = (neither _ _ e, tt)
  blocked u t (Tell c) n b path e = (neither _ _ e, tt)
  blocked u t (Hence a) n b path e = (neither _ _ e, tt)
  blocked u t (Next a) n b path e = (neither _ _ e, tt)
  blocked u t (Par l r) n b path e =
      Each-append (λ x. is_due p table k u x ≡ false) (leaves_of t l _ b path) (leaves_of t r _ b path) (blocked u t l _ b path e) (blocked u t r _ b path e)
  blocked u t (Then c a) n b path e = blocked u t a _ b (path ++ Positive b c ∷ []) (blocked_more u path (Positive b c) e)
  blocked u t (Else c a) n b path e = blocked u t a _ b (path ++ Negative b c ∷ []) (blocked_more u path (Negative b c) e)
  blocked u t (New cell a) n b path e = blocked u t a _ (b ++ t ∷ []) path e

  -- leaves that tell nothing are not to tell
  pub quiet : (u : StoreMap) (l : Leaf) → tells l.agent ≡ [] → is_due p table k u l ≡ false
  quiet u l e = ap (λ (c : Constraint). runs p u l && is_news p table k u l.births c) e ∙ never (runs p u l)

  -- a guard more that the store allows
  pub allowed_more : (u : StoreMap) (path : List Guard) (g : Guard) → IsTrue (list_all (allows p u) path) → IsTrue (allows p u g) → IsTrue (list_all (allows p u) (path ++ g ∷ []))
  allowed_more u path g h e =
      list_all-append (allows p u) path (g ∷ []) ∙ ap (λ x. x && (allows p u g && true)) h ∙ ap (λ x. x && true) e

  -- a guard more that it does not allow
  pub refused_more : (u : StoreMap) (path : List Guard) (g : Guard) → allows p u g ≡ false → list_all (allows p u) (path ++ g ∷ []) ≡ false
  refused_more u path g e = list_all-append (allows p u) path (g ∷ []) ∙ go (list_all (allows p u) path) (allows p u g) e
    where
      go : (x y : Bool) → y ≡ false → (x && (y && true)) ≡ false
      go true y e = ap (λ z. z && true) e
      go false y e = refl
