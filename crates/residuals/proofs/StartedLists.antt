-- The closures that the leaves of a net start, leaf by leaf.
use Rattle.std.proofs.Common.{◌≡◌, ℕ, ◌+◌, ◌<◌, ◌≤◌, Bool, true, false, cond, List, [], ◌∷◌, ◌++◌, length, map, take, get_or, ◌⊎◌, inl, inr, Some, None, refl, sym, ap, ◌∙◌, arith, append_assoc}
use Rattle.std.specs.Prelude.{Option, slice_get}
use Rattle.std.specs.List.{cons_option}
use Rattle.std.proofs.lemmas.List.{map-append, append-nil, take_all, take_more}
use Rattle.std.proofs.lemmas.Option.{slice_get_within, get_or_from_slice_get, slice_get_cases}
use Rattle.token_system.specs.Stores.{StoreMap}
use Rattle.agent_core.specs.declared.node.Closure.{Closure}
use Rattle.agent_core.specs.Closures.{sorted}
use Rattle.instant_net.specs.declared.parts.NetLeaf.{NetLeaf}
use Rattle.instant_net.specs.declared.parts.LeafKind.{LeafKind}
use Rattle.instant_net.specs.declared.parts.LeafKind.TheVariants as kinds
use Rattle.instant_net.specs.NamedLeaves.{Kind, NamedLeaf, runs_named}
use Rattle.instant_net.specs.Nets.{Flat, named_kind, named_leaf}
use Rattle.instant_net.specs.Readers.{starts_kind, starts_of, is_hence_kind, is_hence_of}
use Rattle.residuals.specs.RootLists.{RootLists}
use Rattle.residuals.specs.NextRoots.{hence_body, next_body, started_of, next_lists}
use Rattle.residuals.proofs.StartedLeaves.{started_of-append, started_of-one}

module _ (net : Flat) (w : StoreMap) where
  -- what the first i leaves start
  abbrev pub begun : (Kind → Option Closure) → ℕ → List Closure
  begun body i = started_of body (map (named_leaf net) (take i net.leaves)) w

  -- of the first i leaves, the nexts that run have started these closures, and the hences those behind the old ones
  pub record AreBegun (old once stay : List Closure) (i : ℕ) : Type 0 where
    pub once_is : once ≡ begun next_body i
    pub stay_is : stay ≡ old ++ begun hence_body i

  -- what is started at a leaf, where the store runs it
  abbrev one : Bool → Option Closure → List Closure
  one ran o = cond ran (cons_option o []) []

  begun-more : (body : Kind → Option Closure) (i : ℕ) (l : NetLeaf) (o : Option Closure) → slice_get net.leaves i ≡ Some l → body (named_kind net.cells l.kind) ≡ o
      → begun body (i + 1) ≡ begun body i ++ one (runs_named w (named_leaf net l)) o
  begun-more body i l o at e =
      ap (λ (ls : List NetLeaf). started_of body (map (named_leaf net) ls) w) (take_more net.leaves i l (slice_get_within net.leaves i l at) ∙ ap (λ (x : NetLeaf). take i net.leaves ++ x ∷ []) (get_or_from_slice_get net.leaves i l l at))
      ∙ ap (λ (ls : List NamedLeaf). started_of body ls w) (map-append (named_leaf net) (take i net.leaves) (l ∷ []))
      ∙ started_of-append body w (map (named_leaf net) (take i net.leaves)) (named_leaf net l ∷ [])
      ∙ ap (λ (cs : List Closure). begun body i ++ cs) (started_of-one body w (named_leaf net l) o e)

  -- what a leaf of this kind starts: as a next, and as a hence
  record Starts (k : LeafKind) (next hence : Option Closure) : Type 0 where
    by_next : next_body (named_kind net.cells k) ≡ next
    by_hence : hence_body (named_kind net.cells k) ≡ hence

  starts_none : (k : LeafKind) → starts_kind k ≡ None → Starts k None None
  starts_none kinds.Idle e = record { by_next = refl; by_hence = refl }
  starts_none (kinds.Tells told) e = record { by_next = refl; by_hence = refl }
  starts_none (kinds.StartsHence c) e = absurd (cc)
  starts_none (kinds.StartsNext c) e = absurd (cc)

  starts_hence : (k : LeafKind) (c : Closure) → starts_kind k ≡ Some c → is_hence_kind k ≡ true → Starts k None (Some c)
  starts_hence (kinds.StartsHence d) c e h = record { by_next = refl; by_hence = e }
  starts_hence kinds.Idle c e h = absurd (cc)
  starts_hence (kinds.Tells told) c e h = absurd (cc)
  starts_hence (kinds.StartsNext d) c e h = absurd (cc)

  starts_next : (k : LeafKind) (c : Closure) → starts_kind k ≡ Some c → is_hence_kind k ≡ false → Starts k (Some c) None
  starts_next (kinds.StartsNext d) c e h = record { by_next = e; by_hence = refl }
  starts_next kinds.Idle c e h = absurd (cc)
  starts_next (kinds.Tells told) c e h = absurd (cc)
  starts_next (kinds.StartsHence d) c e h = absurd (cc)

  there : (i : ℕ) → i < length net.leaves → (l : NetLeaf) × (slice_get net.leaves i ≡ Some l)
  there i lt = go (slice_get_cases net.leaves i).1
    where
      go : ((l : NetLeaf) × (i < length net.leaves) × (slice_get net.leaves i ≡ Some l) × (get_or net.leaves i l ≡ l)) ⊎ ((length net.leaves ≤ i) × (slice_get net.leaves i ≡ None)) → (l : NetLeaf) × (slice_get net.leaves i ≡ Some l)
      go (inl (l, h, e, f)) = (l, e)
      go (inr (le, e)) = absurd (omega arith)

  -- where nothing is started
  none_more : (ran : Bool) (cs : List Closure) → cs ≡ cs ++ one ran None
  none_more true cs = sym (append-nil cs)
  none_more false cs = sym (append-nil cs)

  idle_more : (ran : Bool) (o : Option Closure) (cs : List Closure) → ran ≡ false → cs ≡ cs ++ one ran o
  idle_more ran o cs e = sym (append-nil cs) ∙ ap (λ (r : Bool). cs ++ one r o) (sym e)

  one_more : (ran : Bool) (c : Closure) (cs : List Closure) → ran ≡ true → cs ++ c ∷ [] ≡ cs ++ one ran (Some c)
  one_more ran c cs e = ap (λ (r : Bool). cs ++ one r (Some c)) (sym e)

  module _ (old once stay : List Closure) (i : ℕ) (so : AreBegun old once stay i) where
    with_leaf : (l : NetLeaf) (n h : Option Closure) → slice_get net.leaves i ≡ Some l → Starts l.kind n h → (once' stay' : List Closure)
        → once' ≡ once ++ one (runs_named w (named_leaf net l)) n → stay' ≡ stay ++ one (runs_named w (named_leaf net l)) h → AreBegun old once' stay' (i + 1)
    with_leaf l n h at s once' stay' e f = record {
      once_is = e ∙ ap (λ (cs : List Closure). cs ++ one (runs_named w (named_leaf net l)) n) so.once_is ∙ sym (begun-more next_body i l n at s.by_next);
      stay_is =
          f ∙ ap (λ (cs : List Closure). cs ++ one (runs_named w (named_leaf net l)) h) so.stay_is ∙ append_assoc old (begun hence_body i) (one (runs_named w (named_leaf net l)) h)
          ∙ ap (λ (cs : List Closure). old ++ cs) (sym (begun-more hence_body i l h at s.by_hence));
    }

    -- a leaf that starts nothing
    pub begun-none : i < length net.leaves → starts_of (slice_get net.leaves i) ≡ None → AreBegun old once stay (i + 1)
    begun-none lt none = go (there i lt)
      where
        go : (l : NetLeaf) × (slice_get net.leaves i ≡ Some l) → AreBegun old once stay (i + 1)
        go (l, at) = with_leaf l None None at (starts_none l.kind (ap starts_of (sym at) ∙ none)) once stay (none_more (runs_named w (named_leaf net l)) once) (none_more (runs_named w (named_leaf net l)) stay)

    module _ (lt : i < length net.leaves) (ran : Bool) (by : (l : NetLeaf) → slice_get net.leaves i ≡ Some l → ran ≡ runs_named w (named_leaf net l)) (once' stay' : List Closure) where
      -- one that the store does not run
      pub begun-idle : ran ≡ false → once' ≡ once → stay' ≡ stay → AreBegun old once' stay' (i + 1)
      begun-idle fails e f = go (there i lt)
        where
          go : (l : NetLeaf) × (slice_get net.leaves i ≡ Some l) → AreBegun old once' stay' (i + 1)
          go (l, at) =
              let n : Option Closure = next_body (named_kind net.cells l.kind) in
              let h : Option Closure = hence_body (named_kind net.cells l.kind) in
              let is : runs_named w (named_leaf net l) ≡ false = sym (by l at) ∙ fails in
              with_leaf l n h at (record { by_next = refl; by_hence = refl }) once' stay' (e ∙ idle_more _ n once is) (f ∙ idle_more _ h stay is)

      module _ (yes : ran ≡ true) (c : Closure) (starts : starts_of (slice_get net.leaves i) ≡ Some c) where
        -- a hence that the store runs
        pub begun-hence : is_hence_of (slice_get net.leaves i) ≡ true → once' ≡ once → stay' ≡ stay ++ c ∷ [] → AreBegun old once' stay' (i + 1)
        begun-hence hence e f = go (there i lt)
          where
            go : (l : NetLeaf) × (slice_get net.leaves i ≡ Some l) → AreBegun old once' stay' (i + 1)
            go (l, at) =
                let is : runs_named w (named_leaf net l) ≡ true = sym (by l at) ∙ yes in
                with_leaf l None (Some c) at (starts_hence l.kind c (ap starts_of (sym at) ∙ starts) (ap is_hence_of (sym at) ∙ hence)) once' stay' (e ∙ none_more _ once) (f ∙ one_more _ c stay is)

        -- a next that it runs
        pub begun-next : is_hence_of (slice_get net.leaves i) ≡ false → once' ≡ once ++ c ∷ [] → stay' ≡ stay → AreBegun old once' stay' (i + 1)
        begun-next hence e f = go (there i lt)
          where
            go : (l : NetLeaf) × (slice_get net.leaves i ≡ Some l) → AreBegun old once' stay' (i + 1)
            go (l, at) =
                let is : runs_named w (named_leaf net l) ≡ true = sym (by l at) ∙ yes in
                with_leaf l (Some c) None at (starts_next l.kind c (ap starts_of (sym at) ∙ starts) (ap is_hence_of (sym at) ∙ hence)) once' stay' (e ∙ one_more _ c once is) (f ∙ none_more _ stay)

  -- past the last leaf
  pub begun-all : (now : RootLists) (once stay once' stay' : List Closure) (i : ℕ) → AreBegun now.stay once stay i → length net.leaves ≤ i → once' ≡ sorted once → stay' ≡ sorted stay
      → record { once = once'; stay = stay' } ≡ next_lists net w now
  begun-all now once stay once' stay' i so le e f =
      let all : take i net.leaves ≡ net.leaves = take_all i net.leaves le in
      let left : once' ≡ sorted (started_of next_body (map (named_leaf net) net.leaves) w) =
      e ∙ ap sorted (so.once_is ∙ ap (λ (ls : List NetLeaf). started_of next_body (map (named_leaf net) ls) w) all) in
      let right : stay' ≡ sorted (now.stay ++ started_of hence_body (map (named_leaf net) net.leaves) w) =
      f ∙ ap sorted (so.stay_is ∙ ap (λ (ls : List NetLeaf). now.stay ++ started_of hence_body (map (named_leaf net) ls) w) all) in
      λ j. record { once = left j; stay = right j }
