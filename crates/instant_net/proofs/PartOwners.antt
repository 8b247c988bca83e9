-- Each part is one of a cell's, and of one cell alone.
use Rattle.std.proofs.Common.{◌≡◌, ◌≢◌, ◌⊎◌, inl, inr, ℕ, zero, suc, ◌+◌, ◌-◌, ◌*◌, ◌<◌, ◌≤◌, Bool, true, false, List, [], ◌∷◌, ◌++◌, length, map, refl, sym, ap, ◌∙◌, arith, length-append, Some}
use Rattle.std.specs.Prelude.{filter, flat_map, slice_get, if◌then◌else◌}
use Rattle.std.proofs.lemmas.Bool.{cases_eq}
use Rattle.std.proofs.lemmas.List.{length-map}
use Rattle.token_system.specs.Tokens.{is_signal}
use Rattle.token_system.specs.declared.cell.Kind.{Kind}
use Rattle.token_system.specs.declared.cell.Kind.TheVariants.{Signal, Number}
use Rattle.instant_net.specs.declared.parts.NetCell.{NetCell}
use Rattle.instant_net.specs.Words.{kind_hows, own_hows, signals, AreLaidOut, AreLaidOutFrom}
use Rattle.instant_net.specs.PartLists.{part_cells, parts}
use Rattle.instant_net.proofs.Lists.{get-left, get-right}
use Rattle.instant_net.proofs.PartTells.{split}
use Rattle.instant_net.proofs.WordPlaces.{width, other_hows, cell_apart, here, is_first, other_count}

abbrev signal_cells : List NetCell → List NetCell
signal_cells cells = filter (λ c. is_signal c.cell.kind) cells

abbrev other_cells : List NetCell → List NetCell
other_cells cells = flat_map (λ c. map (λ _. c) (own_hows c.cell.kind)) cells

-- COUNTS

many_signals : (cells : List NetCell) → length (signal_cells cells) ≡ signals cells
many_signals [] = refl
many_signals (c ∷ cells) = go (is_signal c.cell.kind) (many_signals cells)
  where
    go : (b : Bool) → length (signal_cells cells) ≡ signals cells → length (if b then c ∷ signal_cells cells else signal_cells cells) ≡ (if b then suc (signals cells) else signals cells)
    go true h = ap suc h
    go false h = h

many_others : (cells : List NetCell) → length (other_cells cells) ≡ length (other_hows cells)
many_others [] = refl
many_others (c ∷ cells) =
    let rest = many_others cells in
    omega (arith, length-append (map (λ _. c) (own_hows c.cell.kind)) (other_cells cells), length-append (own_hows c.cell.kind) (other_hows cells), length-map (own_hows c.cell.kind) (λ _. c))

-- a signal has one part, and another cell two
pub parts_count : (cells : List NetCell) → parts cells + signals cells ≡ 2 * length cells
parts_count cells =
    let a = many_signals cells in
    let b = many_others cells in
    let all = other_count cells in
    omega (arith, length-append (signal_cells cells) (other_cells cells))

-- WHOSE A PART IS

-- the cell at a place is a signal with this part, and its place among the signals is i
record OwnsSignal (cells : List NetCell) (i part : ℕ) : Type 0 where
  place : ℕ
  cell : NetCell
  at : slice_get cells place ≡ Some cell
  among : slice_get (signal_cells cells) i ≡ Some cell
  kind : cell.cell.kind ≡ Signal
  first : cell.first ≡ part

signal_owner : (cells : List NetCell) (s q r i : ℕ) → AreLaidOutFrom s q r cells → i < signals cells → OwnsSignal cells i (q + i)
signal_owner [] s q r i laid h = absurd (omega arith)
signal_owner (d ∷ cells) s q r i laid h = go (λ q r i rest h. signal_owner cells s q r i rest h) d.cell.kind refl i laid.0 laid.2 h
  where
    behind : (k : Kind) → d.cell.kind ≡ k → is_signal k ≡ false → (i part : ℕ) → OwnsSignal cells i part → OwnsSignal (d ∷ cells) i part
    behind k e other i part o = record {
      place = suc o.place;
      cell = o.cell;
      at = o.at;
      among = ap (λ b. slice_get (if b then d ∷ signal_cells cells else signal_cells cells) i) (ap is_signal e ∙ other) ∙ o.among;
      kind = o.kind;
      first = o.first;
    }

    go : ((q r i : ℕ) → AreLaidOutFrom s q r cells → i < signals cells → OwnsSignal cells i (q + i)) → (k : Kind) → d.cell.kind ≡ k → (i : ℕ) → d.first ≡ (if is_signal k then q else r)
        → AreLaidOutFrom s (if is_signal k then suc q else q) (r + length (own_hows k)) cells → i < (if is_signal k then suc (signals cells) else signals cells) → OwnsSignal (d ∷ cells) i (q + i)
    go more Signal e zero first rest h = record {
      place = 0;
      cell = d;
      at = refl;
      among = ap (λ b. slice_get (if b then d ∷ signal_cells cells else signal_cells cells) 0) (ap is_signal e);
      kind = e;
      first = omega arith;
    }
    go more Signal e (suc i) first rest h =
        let o = more (suc q) (r + 0) i rest (omega arith) in
        let part = o.first in
        record {
          place = suc o.place;
          cell = o.cell;
          at = o.at;
          among = ap (λ b. slice_get (if b then d ∷ signal_cells cells else signal_cells cells) (suc i)) (ap is_signal e) ∙ o.among;
          kind = o.kind;
          first = omega arith;
        }
    go more Number e i first rest h = behind Number e refl i (q + i) (more q (r + 2) i rest h)

-- the cell at a place is a number with this part, and its place among the parts of numbers is i
record OwnsOther (cells : List NetCell) (i part : ℕ) : Type 0 where
  place : ℕ
  cell : NetCell
  at : slice_get cells place ≡ Some cell
  among : slice_get (other_cells cells) i ≡ Some cell
  kind : cell.cell.kind ≡ Number
  low : cell.first ≤ part
  high : part < cell.first + 2

other_owner : (cells : List NetCell) (s q r i : ℕ) → AreLaidOutFrom s q r cells → i < length (other_cells cells) → OwnsOther cells i (r + i)
other_owner [] s q r i laid h = absurd (omega arith)
other_owner (d ∷ cells) s q r i laid h = go (λ q r i rest h. other_owner cells s q r i rest h) d.cell.kind refl i laid.0 laid.2 h
  where
    go : ((q r i : ℕ) → AreLaidOutFrom s q r cells → i < length (other_cells cells) → OwnsOther cells i (r + i)) → (k : Kind) → d.cell.kind ≡ k → (i : ℕ) → d.first ≡ (if is_signal k then q else r)
        → AreLaidOutFrom s (if is_signal k then suc q else q) (r + length (own_hows k)) cells → i < length (map (λ _. d) (own_hows k) ++ other_cells cells) → OwnsOther (d ∷ cells) i (r + i)
    go more Signal e i first rest h =
        let o = more (suc q) (r + 0) i rest h in
        let low = o.low in
        let high = o.high in
        record {
          place = suc o.place;
          cell = o.cell;
          at = o.at;
          among = ap (λ k. slice_get (map (λ _. d) (own_hows k) ++ other_cells cells) i) e ∙ o.among;
          kind = o.kind;
          low = omega arith;
          high = omega arith;
        }
    go more Number e zero first rest h = record {
      place = 0;
      cell = d;
      at = refl;
      among = ap (λ k. slice_get (map (λ _. d) (own_hows k) ++ other_cells cells) 0) e;
      kind = e;
      low = omega arith;
      high = omega arith;
    }
    go more Number e (suc zero) first rest h = record {
      place = 0;
      cell = d;
      at = refl;
      among = ap (λ k. slice_get (map (λ _. d) (own_hows k) ++ other_cells cells) 1) e;
      kind = e;
      low = omega arith;
      high = omega arith;
    }
    go more Number e (suc (suc i)) first rest h =
        let o = more q (r + 2) i rest (omega arith) in
        let low = o.low in
        let high = o.high in
        record {
          place = suc o.place;
          cell = o.cell;
          at = o.at;
          among = ap (λ k. slice_get (map (λ _. d) (own_hows k) ++ other_cells cells) (suc (suc i))) e ∙ o.among;
          kind = o.kind;
          low = omega arith;
          high = omega arith;
        }

-- the cell at a place has the part
pub record Owns (cells : List NetCell) (part : ℕ) : Type 0 where
  pub place : ℕ
  pub cell : NetCell
  pub at : slice_get cells place ≡ Some cell
  pub among : slice_get (part_cells cells) part ≡ Some cell
  pub low : cell.first ≤ part
  pub high : part < cell.first + width cell

pub owner : (cells : List NetCell) → AreLaidOut cells → (part : ℕ) → part < parts cells → Owns cells part
owner cells laid part h = go (split part (signals cells))
  where
    one_wide : (c : NetCell) → c.cell.kind ≡ Signal → width c ≡ 1
    one_wide c e = ap (λ (k : Kind). length (kind_hows k)) e

    two_wide : (c : NetCell) → c.cell.kind ≡ Number → width c ≡ 2
    two_wide c e = ap (λ (k : Kind). length (kind_hows k)) e

    go : (part < signals cells) ⊎ (signals cells ≤ part) → Owns cells part
    go (inl l) =
        let o = signal_owner cells (signals cells) 0 (signals cells) part laid l in
        let first = o.first in
        let wide = one_wide o.cell o.kind in
        record {
          place = o.place;
          cell = o.cell;
          at = o.at;
          among = get-left (signal_cells cells) (other_cells cells) part o.cell o.among;
          low = omega arith;
          high = omega arith;
        }
    go (inr l) =
        let many = many_signals cells in
        let o = other_owner cells (signals cells) 0 (signals cells) (part - signals cells) laid (omega (arith, length-append (signal_cells cells) (other_cells cells))) in
        let low = o.low in
        let high = o.high in
        let wide = two_wide o.cell o.kind in
        record {
          place = o.place;
          cell = o.cell;
          at = o.at;
          among = get-right (signal_cells cells) (other_cells cells) (part - signals cells) part o.cell (omega arith) o.among;
          low = omega arith;
          high = omega arith;
        }

-- a cell with the part is the one that has it
pub owned : (cells : List NetCell) → AreLaidOut cells → (part place : ℕ) (c : NetCell) → part < parts cells → slice_get cells place ≡ Some c → c.first ≤ part → part < c.first + width c → slice_get (part_cells cells) part ≡ Some c
owned cells laid part place c h at low high = go (owner cells laid part h)
  where
    go : Owns cells part → slice_get (part_cells cells) part ≡ Some c
    go o = by_place (cases_eq o.place place)
      where
        by_place : (o.place ≡ place) ⊎ (o.place ≢ place) → slice_get (part_cells cells) part ≡ Some c
        by_place (inl e) = o.among ∙ sym (sym at ∙ sym (ap (slice_get cells) e) ∙ o.at)
        by_place (inr n) =
            let l = o.low in
            let u = o.high in
            absurd (cell_apart cells laid o.place place o.cell c o.at at n (part - o.cell.first) (part - c.first) (omega arith) (omega arith) (omega arith))

-- the parts of a cell are there
pub cell_parts_there : (cells : List NetCell) → AreLaidOut cells → (place : ℕ) (c : NetCell) → slice_get cells place ≡ Some c → c.first + width c ≤ parts cells
cell_parts_there cells laid place c at = go c.cell.kind refl
  where
    all : parts cells ≡ signals cells + length (other_hows cells)
    all = let count = parts_count cells in let others = other_count cells in omega arith

    go : (k : Kind) → c.cell.kind ≡ k → c.first + width c ≤ parts cells
    go Signal e =
        let wide : width c ≡ 1 = ap (λ (k : Kind). length (kind_hows k)) e in
        let first = is_first cells laid place c at e in
        let many = all in
        omega arith
    go Number e =
        let p = here cells laid place c at in
        let wide : width c ≡ 2 = ap (λ (k : Kind). length (kind_hows k)) e in
        let two : length (own_hows c.cell.kind) ≡ 2 = ap (λ (k : Kind). length (own_hows k)) e in
        let first = p.number e in
        let many = all in
        omega (arith, ap length p.hows_are, length-append p.hows_before (own_hows c.cell.kind ++ p.hows_after), length-append (own_hows c.cell.kind) p.hows_after)
