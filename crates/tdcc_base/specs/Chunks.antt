-- What a source in memory has left: pieces of bytes. This project's own.
use Rattle.std.specs.Prelude.{◌≡◌, ℕ, ◌<◌, ◌↔◌, min, List, [], ◌∷◌, Vec, length, drop, map, Result, IfOk, OnErr, IsErr}
use Rattle.std.specs.declared.alloc.Global.{Global}
use Rattle.tdcc_base.specs.declared.memory_source.MemSource.{MemSource}
use Rattle.tdcc_base.specs.declared.calls.Calls.{Calls}
use Rattle.tdcc_base.specs.declared.outside.Failed.{Failed}
use Rattle.tdcc_base.specs.Calls.{IsListed, Counted}

-- the bytes of each piece
abbrev pub chunk_bytes : List (Vec ℕ Global) → List (List ℕ)
chunk_bytes pieces = map (λ piece. piece.items) pieces

-- the pieces, less the first bytes of the first one
abbrev pub pieces_from : ℕ → List (Vec ℕ Global) → List (List ℕ)
pieces_from given [] = []
pieces_from given (piece ∷ pieces) = drop given piece.items ∷ chunk_bytes pieces

-- the pieces from the first that has some bytes
abbrev pub skip_empty : List (List ℕ) → List (List ℕ)
skip_empty [] = []
skip_empty ([] ∷ pieces) = skip_empty pieces
skip_empty ((byte ∷ piece) ∷ pieces) = (byte ∷ piece) ∷ pieces

-- what the source has left, from the first piece that has some bytes
abbrev pub pieces_left : MemSource → List (List ℕ)
pieces_left source = skip_empty (pieces_from source.given (drop source.place source.pieces.items))

-- the source's calls
abbrev pub source_calls : MemSource → Calls
source_calls source = source.calls

-- n bytes of the first piece were given, as many as there is room for
abbrev pub GivesOf : List (List ℕ) → List (List ℕ) → ℕ → ℕ → Type 0
GivesOf [] new room n = (n ≡ 0) × (new ≡ [])
GivesOf (piece ∷ pieces) new room n = (n ≡ min room (length piece)) × (new ≡ skip_empty (drop n piece ∷ pieces))

-- fewer bytes are given than the first piece has, where there is one
abbrev pub BeginsWithin : ℕ → List (Vec ℕ Global) → Type 0
BeginsWithin given [] = Unit {0}
BeginsWithin given (piece ∷ pieces) = given < length piece.items

-- the source stands at a piece that has some bytes left, or behind the last piece
abbrev pub AtPiece : MemSource → Type 0
AtPiece source = BeginsWithin source.given (drop source.place source.pieces.items)

-- what one read of a source in memory does: it fails exactly where its call is listed, and else gives of the first piece
pub record GivesNext (old : MemSource) (lent : List ℕ) (answer : Result ℕ Failed) (new : MemSource) : Type 0 where
  pub fails : IsErr answer ↔ IsListed (source_calls old)
  pub counts : Counted (source_calls old) (source_calls new) answer
  pub gives : IfOk answer (λ n. GivesOf (pieces_left old) (pieces_left new) (length lent) n)
  pub kept : OnErr answer (pieces_left new ≡ pieces_left old)
