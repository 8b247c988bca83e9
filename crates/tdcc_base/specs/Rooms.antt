-- What a sink in memory holds, and what it takes. This project's own.
use Rattle.std.specs.Prelude.{◌≡◌, ℕ, ◌-◌, min, if◌then◌else◌, List, length, Option, Some, None}
use Rattle.tdcc_base.specs.declared.memory_sink.MemSink.{MemSink}
use Rattle.tdcc_base.specs.declared.calls.Calls.{Calls}
use Rattle.tdcc_base.specs.Calls.{lists_none}

-- what the sink has taken
abbrev pub held : MemSink → List ℕ
held sink = sink.bytes.items

-- how many bytes the sink can hold
abbrev pub room_of : MemSink → ℕ
room_of sink = sink.room

-- how many bytes the sink takes in one write, at most
abbrev pub piece_of : MemSink → ℕ
piece_of sink = sink.piece

-- how many more bytes the sink can hold
abbrev pub free_room : MemSink → ℕ
free_room sink = room_of sink - length (held sink)

-- the sink's calls
abbrev pub sink_calls : MemSink → Calls
sink_calls sink = sink.calls

-- the room that is left, where no call is listed to fail
abbrev pub sure_room : MemSink → Option ℕ
sure_room sink = if lists_none (sink_calls sink) then Some (free_room sink) else None

-- how many of so many bytes the sink takes in one write
abbrev pub taken_of : MemSink → ℕ → ℕ
taken_of sink offered = min (min offered (free_room sink)) (piece_of sink)

-- the sink can hold as much as before, and takes as much in one write
pub record SameRoom (old new : MemSink) : Type 0 where
  pub room : room_of new ≡ room_of old
  pub piece : piece_of new ≡ piece_of old
