-- What a symbolic agent has where its agent is one of a program: each constraint has 1 to 16 tokens whose binders are in scope and which
-- fit the cells that these stand for, and each new has a name that no cell around it has.
use Rattle.std.proofs.Common.{◌≡◌, ◌⊎◌, inl, inr, ℕ, ◌<◌, ◌≤◌, List, ◌∷◌, length, Option, refl, sym, subst, arith}
use Rattle.std.specs.Prelude.{slice_get, unwrap_or}
use Rattle.std.proofs.lemmas.Option.{slice_get_past}
use Rattle.token_system.specs.Tokens.{Fits}
use Rattle.token_system.specs.declared.cell.Cell.{Cell}
use Rattle.token_system.specs.declared.cell.Token.{Token}
use Rattle.token_system.specs.declared.cell.Token.TheVariants.{On}
use Rattle.agent_core.specs.declared.node.CellDecl.{CellDecl}
use Rattle.agent_core.specs.Agents.{Constraint}
use Rattle.agent_core.specs.WellFormed.{IsAmong}
use Rattle.agent_core.specs.Strata.{Each}
use Rattle.agent_laws.proofs.Eachs.{Each-map}
use Rattle.core_text.specs.CoreTexts.{name_at}
use Rattle.expansion_laws.specs.SymbolicAgents.{SymbolicAgent, Skip, Tell, Then, Else, Par, New, Hence, Next}
use Rattle.expansion_laws.specs.Table.{signal_on}
use Rattle.expansion_laws.specs.Numbering.{hidden}

-- the cell that a binder stands for: one of the surface, or a hidden signal
abbrev pub like : List CellDecl → ℕ → Cell
like cells binder = (unwrap_or (slice_get cells binder) (hidden 0)).cell

-- the binder is that of a declared cell, or one of these, and the token fits its cell
pub record Means (cells : List CellDecl) (declared : ℕ) (around : List ℕ) (pair : ℕ × Token) : Type 0 where
  pub visible : (pair.0 < declared) ⊎ IsAmong around pair.0
  pub fits : Fits (like cells pair.0) pair.1

pub record IsMeant (cells : List CellDecl) (declared : ℕ) (around : List ℕ) (ask : Constraint) : Type 0 where
  pub some : 1 ≤ length ask
  pub few : length ask ≤ 16
  pub tokens : Each (Means cells declared around) ask

-- where the binder is that of a cell of the surface, no such cell in scope has its name
abbrev pub IsNew : List CellDecl → ℕ → List ℕ → ℕ → Type 0
IsNew cells declared around binder = binder < length cells → (c : ℕ) → c < length cells → (c < declared) ⊎ IsAmong around c → name_at cells c ≡ name_at cells binder → ⊥

-- the symbolic agent under news with these binders, the innermost first
abbrev pub Sound : List CellDecl → ℕ → List ℕ → SymbolicAgent → Type 0
Sound cells declared around (Skip o) = Unit {0}
Sound cells declared around (Tell o c) = IsMeant cells declared around c
Sound cells declared around (Then o c a) = IsMeant cells declared around c × Sound cells declared around a
Sound cells declared around (Else o c a) = IsMeant cells declared around c × Sound cells declared around a
Sound cells declared around (Par o a b) = Sound cells declared around a × Sound cells declared around b
Sound cells declared around (New o binder a) = IsNew cells declared around binder × Sound cells declared (binder ∷ around) a
Sound cells declared around (Hence o a) = Sound cells declared around a
Sound cells declared around (Next o a) = Sound cells declared around a

-- each binder of the first is one of the second
abbrev pub AreIn : List ℕ → List ℕ → Type 0
AreIn xs ys = (m : ℕ) → IsAmong xs m → IsAmong ys m

pub in_more : (binder : ℕ) (xs : List ℕ) → AreIn xs (binder ∷ xs)
in_more binder xs m h = inr h

-- the second has the binders of the first, and beside them hidden ones alone
pub record Widens (cells : List CellDecl) (xs ys : List ℕ) : Type 0 where
  pub keeps : AreIn xs ys
  pub adds : (m : ℕ) → IsAmong ys m → IsAmong xs m ⊎ (length cells ≤ m)

module _ (cells : List CellDecl) (declared : ℕ) where
  pub widens_same : (xs : List ℕ) → Widens cells xs xs
  widens_same xs = record { keeps = λ m h. h; adds = λ m h. inl h }

  pub widens_hidden : (k : ℕ) (xs : List ℕ) → length cells ≤ k → Widens cells xs (k ∷ xs)
  widens_hidden k xs past = record { keeps = in_more k xs; adds = adds }
    where
      adds : (m : ℕ) → IsAmong (k ∷ xs) m → IsAmong xs m ⊎ (length cells ≤ m)
      adds m (inl e) = inr (omega arith)
      adds m (inr h) = inl h

  pub widens_under : (binder : ℕ) (xs ys : List ℕ) → Widens cells xs ys → Widens cells (binder ∷ xs) (binder ∷ ys)
  widens_under binder xs ys w = record { keeps = keeps; adds = adds }
    where
      keeps : AreIn (binder ∷ xs) (binder ∷ ys)
      keeps m (inl e) = inl e
      keeps m (inr h) = inr (w.keeps m h)

      under : (m : ℕ) → IsAmong xs m ⊎ (length cells ≤ m) → IsAmong (binder ∷ xs) m ⊎ (length cells ≤ m)
      under m (inl h) = inl (inr h)
      under m (inr past) = inr past

      adds : (m : ℕ) → IsAmong (binder ∷ ys) m → IsAmong (binder ∷ xs) m ⊎ (length cells ≤ m)
      adds m (inl e) = inl (inl e)
      adds m (inr h) = under m (w.adds m h)

  -- IN MORE NEWS

  pub meant_in : (xs ys : List ℕ) (c : Constraint) → AreIn xs ys → IsMeant cells declared xs c → IsMeant cells declared ys c
  meant_in xs ys c are h = record { some = h.some; few = h.few; tokens = Each-map (Means cells declared xs) (Means cells declared ys) (λ pair p. record { visible = seen pair.0 p.visible; fits = p.fits }) c h.tokens }
    where
      seen : (m : ℕ) → (m < declared) ⊎ IsAmong xs m → (m < declared) ⊎ IsAmong ys m
      seen m (inl lt) = inl lt
      seen m (inr among) = inr (are m among)

  new_wider : (xs ys : List ℕ) (binder : ℕ) → Widens cells xs ys → IsNew cells declared xs binder → IsNew cells declared ys binder
  new_wider xs ys binder w new within c lt visible same = new within c lt (seen visible) same
    where
      local : IsAmong xs c ⊎ (length cells ≤ c) → (c < declared) ⊎ IsAmong xs c
      local (inl h) = inr h
      local (inr past) = absurd (omega arith)

      seen : (c < declared) ⊎ IsAmong ys c → (c < declared) ⊎ IsAmong xs c
      seen (inl h) = inl h
      seen (inr h) = local (w.adds c h)

  -- hidden news around a symbolic agent change nothing
  pub sound_wider : (xs ys : List ℕ) (a : SymbolicAgent) → Widens cells xs ys → Sound cells declared xs a → Sound cells declared ys a
  sound_wider xs ys (Skip o) w h = tt
  sound_wider xs ys (Tell o c) w h = meant_in xs ys c w.keeps h
  sound_wider xs ys (Then o c a) w h = (meant_in xs ys c w.keeps h.0, sound_wider xs ys a w h.1)
  sound_wider xs ys (Else o c a) w h = (meant_in xs ys c w.keeps h.0, sound_wider xs ys a w h.1)
  sound_wider xs ys (Par o a b) w h = (sound_wider xs ys a w h.0, sound_wider xs ys b w h.1)
  sound_wider xs ys (New o binder a) w h = (new_wider xs ys binder w h.0, sound_wider (binder ∷ xs) (binder ∷ ys) a (widens_under binder xs ys w) h.1)
  sound_wider xs ys (Hence o a) w h = sound_wider xs ys a w h
  sound_wider xs ys (Next o a) w h = sound_wider xs ys a w h

  -- a hidden signal may be asked for and told under its new
  pub on_meant : (k : ℕ) (xs : List ℕ) → length cells ≤ k → IsAmong xs k → IsMeant cells declared xs (signal_on k)
  on_meant k xs past among =
      let fits : Fits (like cells k) On = subst (λ (o : Option CellDecl). Fits (unwrap_or o (hidden 0)).cell On) (sym (slice_get_past cells k past)) refl in
      record { some = omega arith; few = omega arith; tokens = (record { visible = inr among; fits = fits }, tt) }

  pub hidden_new : (k : ℕ) (xs : List ℕ) → length cells ≤ k → IsNew cells declared xs k
  hidden_new k xs past within = absurd (omega arith)
