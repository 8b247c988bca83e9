-- Which leaf tells first of a node that was started some instants ago, by the kind of the node.
use Rattle.std.proofs.Common.{◌≡◌, ◌⊎◌, inl, inr, ℕ, suc, ◌+◌, ◌-◌, ◌<◌, ◌≤◌, Bool, true, false, if◌then◌else◌, List, [], ◌∷◌, ◌++◌, Some, None, length, drop, get_or, refl, sym, ap, ◌∙◌, subst, arith}
use Rattle.std.specs.Prelude.{Option, Result, IfOk, MatchOption, slice_get, flat_map}
use Rattle.std.specs.FinMap.{empty}
use Rattle.std.proofs.lemmas.Grind.{flat_map-append}
use Rattle.std.proofs.lemmas.Result.{IfOk-weaker}
use Rattle.std.proofs.lemmas.List.{append-nil, drop_more, drop_all}
use Rattle.token_system.specs.Stores.{StoreMap}
use Rattle.agent_core.specs.declared.node.Closure.{Closure}
use Rattle.agent_core.specs.declared.node.Node.{Node}
use Rattle.agent_core.specs.declared.node.Node.TheVariants as nodes
use Rattle.agent_core.specs.Programs.{CoreProgram}
use Rattle.agent_core.specs.Agents.{Agent, Constraint, agent_of, agent_at}
use Rattle.agent_core.specs.Listing.{size}
use Rattle.agent_core.specs.Names.{IsClosure}
use Rattle.agent_core.specs.WellFormed.{IsWellFormed}
use Rattle.agent_core.specs.RestsAfter.{suffixes}
use Rattle.agent_core.specs.Closures.{started}
use Rattle.agent_core.specs.Rests.{entails}
use Rattle.agent_core.specs.Leaves.{Leaf, leaves_of, leaves}
use Rattle.agent_core.proofs.RestTests.{facts}
use Rattle.denotation_laws.specs.Dues.{TellsOne, TellsBelow, leaves_since, leaves_of_hence}
use Rattle.denotation_laws.proofs.Steps.{one-right, answer-left}

abbrev leaves_at : CoreProgram → ℕ → Closure → List Leaf
leaves_at p t r = leaves_of t (agent_at p.nodes r.node) r.node r.births []

leaves-append : (p : CoreProgram) (t : ℕ) (rs qs : List Closure) → leaves p (rs ++ qs) t ≡ leaves p rs t ++ leaves p qs t
leaves-append p t rs qs = flat_map-append (leaves_at p t) rs qs

-- with no store closed, the leaves are those of the node that is started now
since-now : (p : CoreProgram) (t n : ℕ) (b : List ℕ) (z : List StoreMap) → length z ≡ 0 → leaves_of t (agent_at p.nodes n) n b [] ≡ leaves_since p t n b z
since-now p t n b [] e = sym (append-nil (leaves_of t (agent_at p.nodes n) n b []))
since-now p t n b (w ∷ z) e = absurd (omega arith)

-- of nothing there is no first
pub none_left : {X : Type 0} (r : Option X) (n : ℕ) (Q : X → Type 0) → MatchOption r (n ≡ 0) Q → ((x : X) → r ≡ Some x → ⊥) → n ≡ 0
none_left None n Q h other = h
none_left (Some x) n Q h other = absurd (other x refl)

pub just_started : {E : Type 0} (r : Result Bool E) (p : CoreProgram) (table : List ℕ) (k t n : ℕ) (b : List ℕ) (z : List StoreMap) (u w : StoreMap) → length z ≡ 0
    → IfOk r (λ x. TellsBelow p table k t n b u x w) → IfOk r (λ x. TellsOne p table k (leaves_since p t n b z) u x w)
just_started r p table k t n b z u w e h =
    IfOk-weaker r (λ x. TellsBelow p table k t n b u x w) (λ x. TellsOne p table k (leaves_since p t n b z) u x w)
    (λ x more. subst (λ (ls : List Leaf). TellsOne p table k ls u x w) (since-now p t n b z e) (more [] refl)) h

-- after the closed stores w ∷ z
module _ (p : CoreProgram) (is : IsWellFormed p) (n : ℕ) (b : List ℕ) (closure : IsClosure p n b) (t : ℕ) (closed : List StoreMap) (w : StoreMap) (z : List StoreMap) (split : closed ≡ w ∷ z) where
  abbrev start : ℕ
  start = t - length (w ∷ z)

  abbrev of_agent : Agent → ℕ → List ℕ → List Closure
  of_agent a m births = started p (w ∷ z) a m births start

  -- a node has the leaves of the agent that it stands for
  since-node : (node : Node) → slice_get p.nodes n ≡ Some node → leaves p (of_agent (agent_of (agent_at p.nodes) node) n b) t ≡ leaves_since p t n b closed
  since-node node found =
      ap (λ (a : Agent). leaves p (of_agent a n b) t) (sym (facts p is n b closure node found).tree)
      ∙ ap (λ (y : List StoreMap). leaves p (started p y (agent_at p.nodes n) n b (t - length y)) t) (sym split)

  -- what a body has after the same stores
  body : (m : ℕ) (births : List ℕ) (place : ℕ) → m ≡ place → leaves_since p t m births closed ≡ leaves p (of_agent (agent_at p.nodes m) place births) t
  body m births place e =
      ap (λ (y : List StoreMap). leaves p (started p y (agent_at p.nodes m) m births (t - length y)) t) split
      ∙ ap (λ (i : ℕ). leaves p (of_agent (agent_at p.nodes m) i births) t) e

  pub silent-since : (d : Node) → slice_get p.nodes n ≡ Some d → (d ≡ nodes.Skip) ⊎ ((c : Constraint) × (d ≡ nodes.Tell c)) → [] ≡ leaves_since p t n b closed
  silent-since d found (inl e) = since-node nodes.Skip (found ∙ ap Some e)
  silent-since d found (inr e) = since-node (nodes.Tell e.0) (found ∙ ap Some e.1)

  pub par-since : (left right : ℕ) → slice_get p.nodes n ≡ Some (nodes.Par left right) → leaves_since p t left b closed ++ leaves_since p t right b closed ≡ leaves_since p t n b closed
  par-since left right found =
      let at = (facts p is n b closure (nodes.Par left right) found).follow in
      let place : right ≡ suc n + size (agent_at p.nodes left) = at.1 ∙ ap (λ (i : ℕ). suc n + size (agent_at p.nodes i)) (sym at.0) in
      ap (λ (ls : List Leaf). ls ++ leaves_since p t right b closed) (body left b (suc n) at.0)
      ∙ ap (λ (ls : List Leaf). leaves p (of_agent (agent_at p.nodes left) (suc n) b) t ++ ls) (body right b (suc n + size (agent_at p.nodes left)) place)
      ∙ sym (leaves-append p t (of_agent (agent_at p.nodes left) (suc n) b) (of_agent (agent_at p.nodes right) (suc n + size (agent_at p.nodes left)) b))
      ∙ since-node (nodes.Par left right) found

  pub then-waits : (c : Constraint) (m : ℕ) → slice_get p.nodes n ≡ Some (nodes.Then c m) → entails p b w c ≡ false → [] ≡ leaves_since p t n b closed
  then-waits c m found e =
      ap (λ (x : Bool). leaves p (if x then of_agent (agent_at p.nodes m) (suc n) b else []) t) (sym e) ∙ since-node (nodes.Then c m) found

  pub then-since : (c : Constraint) (m : ℕ) → slice_get p.nodes n ≡ Some (nodes.Then c m) → entails p b w c ≡ true → leaves_since p t m b closed ≡ leaves_since p t n b closed
  then-since c m found e =
      body m b (suc n) (facts p is n b closure (nodes.Then c m) found).follow
      ∙ ap (λ (x : Bool). leaves p (if x then of_agent (agent_at p.nodes m) (suc n) b else []) t) (sym e) ∙ since-node (nodes.Then c m) found

  pub else-waits : (c : Constraint) (m : ℕ) → slice_get p.nodes n ≡ Some (nodes.Else c m) → entails p b w c ≡ true → [] ≡ leaves_since p t n b closed
  else-waits c m found e =
      ap (λ (x : Bool). leaves p (if x then [] else of_agent (agent_at p.nodes m) (suc n) b) t) (sym e) ∙ since-node (nodes.Else c m) found

  pub else-since : (c : Constraint) (m : ℕ) → slice_get p.nodes n ≡ Some (nodes.Else c m) → entails p b w c ≡ false → leaves_since p t m b closed ≡ leaves_since p t n b closed
  else-since c m found e =
      body m b (suc n) (facts p is n b closure (nodes.Else c m) found).follow
      ∙ ap (λ (x : Bool). leaves p (if x then [] else of_agent (agent_at p.nodes m) (suc n) b) t) (sym e) ∙ since-node (nodes.Else c m) found

  pub new-since : (cell m : ℕ) → slice_get p.nodes n ≡ Some (nodes.New cell m) → (births : List ℕ) → births ≡ b ++ (t - length closed) ∷ [] → leaves_since p t m births closed ≡ leaves_since p t n b closed
  new-since cell m found births e =
      ap (λ (x : List ℕ). leaves_since p t m x closed) (e ∙ ap (λ (y : List StoreMap). b ++ (t - length y) ∷ []) split)
      ∙ body m (b ++ start ∷ []) (suc n) (facts p is n b closure (nodes.New cell m) found).follow
      ∙ since-node (nodes.New cell m) found

  pub next-since : (m : ℕ) → slice_get p.nodes n ≡ Some (nodes.Next m) → length closed ≤ t → leaves_since p t m b z ≡ leaves_since p t n b closed
  next-since m found few =
      let long : suc (length z) ≤ t = subst (λ (y : List StoreMap). length y ≤ t) split few in
      let later : t - length z ≡ start + 1 = omega arith in
      ap (λ (s : ℕ). leaves p (started p z (agent_at p.nodes m) m b s) t) later
      ∙ ap (λ (i : ℕ). leaves p (started p z (agent_at p.nodes m) i b (start + 1)) t) (facts p is n b closure (nodes.Next m) found).follow
      ∙ since-node (nodes.Next m) found

  pub hence-since : (m : ℕ) → slice_get p.nodes n ≡ Some (nodes.Hence m) → length closed ≤ t → leaves_of_hence p t m b z ≡ leaves_since p t n b closed
  hence-since m found few =
      let long : suc (length z) ≤ t = subst (λ (y : List StoreMap). length y ≤ t) split few in
      let later : t ≡ start + 1 + length z = omega arith in
      ap (λ (s : ℕ). leaves p (flat_map (λ y. started p y (agent_at p.nodes m) m b (s - length y)) (suffixes z)) t) later
      ∙ ap (λ (i : ℕ). leaves p (flat_map (λ y. started p y (agent_at p.nodes m) i b (start + 1 + length z - length y)) (suffixes z)) t) (facts p is n b closure (nodes.Hence m) found).follow
      ∙ since-node (nodes.Hence m) found

-- A LOOP OVER SUFFIXES

-- the node is started at the instant of each suffix of z
module _ (p : CoreProgram) (table : List ℕ) (k t n : ℕ) (b : List ℕ) (z : List StoreMap) (u : StoreMap) where
  abbrev One : List Leaf → Bool → StoreMap → Type 0
  One ls told w = TellsOne p table k ls u told w

  -- the leaves of the suffixes from the j-th on
  abbrev rest : ℕ → List Leaf
  rest j = leaves_of_hence p t n b (drop j z)

  -- none of the suffixes before the j-th has a leaf that is to tell, and nothing is told
  pub record AreLeft (j : ℕ) (v : StoreMap) : Type 0 where
    pub same : v ≡ u
    pub decide : (told : Bool) (w : StoreMap) → One (rest j) told w → One (leaves_of_hence p t n b z) told w

  pub left-start : AreLeft 0 u
  left-start = record { same = refl; decide = λ told w h. h }

  rest-more : (j : ℕ) → j < length z → leaves_since p t n b (drop j z) ++ rest (j + 1) ≡ rest j
  rest-more j lt =
      let more = drop_more z j empty lt in
      ap (λ (y : List StoreMap). leaves_since p t n b y ++ rest (j + 1)) more
      ∙ sym (leaves-append p t (started p (get_or z j empty ∷ drop (j + 1) z) (agent_at p.nodes n) n b (t - length (get_or z j empty ∷ drop (j + 1) z)))
      (flat_map (λ y. started p y (agent_at p.nodes n) n b (t - length y)) (suffixes (drop (j + 1) z))))
      ∙ ap (λ (y : List StoreMap). leaves_of_hence p t n b y) (sym more)

  module _ (j : ℕ) (v : StoreMap) (left : AreLeft j v) where
    -- the answer for the j-th suffix, as it was asked
    at_u : (told : Bool) (w : StoreMap) (ls : List Leaf) → TellsOne p table k ls v told w → One ls told w
    at_u told w ls h = subst (λ (x : StoreMap). TellsOne p table k ls x told w) left.same h

    pub one-tells : (told : Bool) → told ≡ true → (w : StoreMap) → j < length z → (y : List StoreMap) → y ≡ drop j z → TellsOne p table k (leaves_since p t n b y) v told w → One (leaves_of_hence p t n b z) true w
    one-tells told e w lt y same h =
        left.decide true w (subst (λ (ls : List Leaf). One ls true w) (rest-more j lt)
        (answer-left p table k (leaves_since p t n b (drop j z)) (rest (j + 1)) u w told e
        (subst (λ (x : List StoreMap). One (leaves_since p t n b x) told w) same (at_u told w (leaves_since p t n b y) h))))

    pub none-tells : (told : Bool) → told ≡ false → (w : StoreMap) → j < length z → (y : List StoreMap) → y ≡ drop j z → TellsOne p table k (leaves_since p t n b y) v told w → AreLeft (j + 1) w
    none-tells told e w lt y same h =
        let none : One (leaves_since p t n b (drop j z)) false w =
        subst (λ (x : Bool). One (leaves_since p t n b (drop j z)) x w) e (subst (λ (x : List StoreMap). One (leaves_since p t n b x) told w) same (at_u told w (leaves_since p t n b y) h)) in
        record {
          same = none.1;
          decide = λ r x more. left.decide r x (subst (λ (ls : List Leaf). One ls r x) (rest-more j lt)
              (one-right p table k (leaves_since p t n b (drop j z)) (rest (j + 1)) u w x r none (subst (λ (y : StoreMap). TellsOne p table k (rest (j + 1)) y r x) (sym none.1) more)));
        }

    rest-last : length z ≤ j → leaves_of t (agent_at p.nodes n) n b [] ≡ rest j
    rest-last le =
        sym (append-nil (leaves_of t (agent_at p.nodes n) n b [])) ∙ ap (λ (y : List StoreMap). leaves_of_hence p t n b y) (sym (drop_all j z le))

    pub last-tells : {E : Type 0} (r : Result Bool E) (w : StoreMap) → length z ≤ j → IfOk r (λ x. TellsBelow p table k t n b v x w) → IfOk r (λ x. One (leaves_of_hence p t n b z) x w)
    last-tells r w le h =
        IfOk-weaker r (λ x. TellsBelow p table k t n b v x w) (λ x. One (leaves_of_hence p t n b z) x w)
        (λ x more. left.decide x w (subst (λ (ls : List Leaf). One ls x w) (rest-last le) (at_u x w (leaves_of t (agent_at p.nodes n) n b []) (more [] refl)))) h
