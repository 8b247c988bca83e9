-- The parts of the cells of a net, one by one: those of signals first, in the order of the cells, and then each word of the other cells, in that order. This project's own.
use Rattle.std.specs.Prelude.{ℕ, List, ◌++◌, length, filter, map, flat_map, slice_get, slice_index_or}
use Rattle.token_system.specs.Tokens.{is_signal}
use Rattle.instant_net.specs.declared.parts.NetCell.{NetCell}
use Rattle.instant_net.specs.declared.words.How.{How}
use Rattle.instant_net.specs.declared.words.How.TheVariants.{Or}
use Rattle.instant_net.specs.Readers.{stratum_of}
use Rattle.instant_net.specs.WordParts.{word_of}
use Rattle.instant_net.specs.Words.{hows, own_hows, signals}

-- the cell of each part
abbrev pub part_cells : List NetCell → List NetCell
part_cells cells = filter (λ c. is_signal c.cell.kind) cells ++ flat_map (λ c. map (λ _. c) (own_hows c.cell.kind)) cells

-- how many parts there are
abbrev pub parts : List NetCell → ℕ
parts cells = length (part_cells cells)

-- how part q is told: as its word
abbrev pub part_how : List NetCell → ℕ → How
part_how cells q = slice_index_or (hows cells) (word_of (signals cells) q) Or

-- the stratum of part q: that of its cell
abbrev pub part_stratum : List NetCell → ℕ → ℕ
part_stratum cells q = stratum_of (slice_get (part_cells cells) q)
