-- Laying out cells, one after another.
use Rattle.std.proofs.Common.{◌≡◌, ℕ, suc, ◌+◌, ◌≤◌, List, [], ◌∷◌, ◌++◌, length, take, drop, refl, sym, ap, ◌∙◌, subst}
use Rattle.std.specs.Prelude.{map, if◌then◌else◌}
use Rattle.std.proofs.lemmas.List.{append-nil, drop_all, take_all}
use Rattle.token_system.specs.Tokens.{is_signal}
use Rattle.instant_net.specs.declared.parts.NetCell.{NetCell}
use Rattle.instant_net.specs.Collecting.{unplaced}
use Rattle.instant_net.specs.WordParts.{word_of}
use Rattle.instant_net.specs.Words.{own_hows, signals, AreLaidOut, AreLaidOutFrom}

-- the cell with its place, where the next signal has part q and the next other cell part r
abbrev pub placed_cell : ℕ → ℕ → ℕ → NetCell → NetCell
placed_cell s q r c = record c { first = if is_signal c.cell.kind then q else r; word = word_of s (if is_signal c.cell.kind then q else r) }

abbrev pub next_signal : NetCell → ℕ → ℕ
next_signal c q = if is_signal c.cell.kind then suc q else q

-- the cells with their places
abbrev pub placed_from : ℕ → ℕ → ℕ → List NetCell → List NetCell
placed_from s q r [] = []
placed_from s q r (c ∷ cells) = placed_cell s q r c ∷ placed_from s (next_signal c q) (r + length (own_hows c.cell.kind)) cells

placed-signals : (s q r : ℕ) (cells : List NetCell) → signals (placed_from s q r cells) ≡ signals cells
placed-signals s q r [] = refl
placed-signals s q r (c ∷ cells) = ap (λ n. if is_signal c.cell.kind then suc n else n) (placed-signals s (next_signal c q) (r + length (own_hows c.cell.kind)) cells)

placed-AreLaidOutFrom : (s q r : ℕ) (cells : List NetCell) → AreLaidOutFrom s q r (placed_from s q r cells)
placed-AreLaidOutFrom s q r [] = tt
placed-AreLaidOutFrom s q r (c ∷ cells) = (refl, refl, placed-AreLaidOutFrom s (next_signal c q) (r + length (own_hows c.cell.kind)) cells)

pub placed-AreLaidOut : (cells : List NetCell) → AreLaidOut (placed_from (signals cells) 0 (signals cells) cells)
placed-AreLaidOut cells = subst (λ (n : ℕ). AreLaidOutFrom n 0 n (placed_from (signals cells) 0 (signals cells) cells)) (sym (placed-signals (signals cells) 0 (signals cells) cells)) (placed-AreLaidOutFrom (signals cells) 0 (signals cells) cells)

pub placed-same : (s q r : ℕ) (cells : List NetCell) → map unplaced (placed_from s q r cells) ≡ map unplaced cells
placed-same s q r [] = refl
placed-same s q r (c ∷ cells) = ap (λ xs. unplaced c ∷ xs) (placed-same s (next_signal c q) (r + length (own_hows c.cell.kind)) cells)

-- behind the last there is nothing to place
pub all-placed : (s q r k : ℕ) (cells : List NetCell) → length cells ≤ k → take k cells ++ placed_from s q r (drop k cells) ≡ cells
all-placed s q r k cells le =
    ap (λ xs. take k cells ++ placed_from s q r xs) (drop_all k cells le) ∙ append-nil (take k cells) ∙ take_all k cells le
