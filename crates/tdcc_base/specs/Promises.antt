-- What a source or a sink says beforehand of the calls to come. This project's own.
use Rattle.std.specs.Prelude.{◌≡◌, ℕ, ◌-◌, ◌<◌, ◌≤◌, Bool, Option, Some, Result, IfSome, IsOk, IsOkAnd, IsTrue}

-- a steady device stays steady and refuses nothing
abbrev pub StaysSteady : Bool → Bool → Type 0 → Type 0
StaysSteady before now refused = IsTrue before → IsTrue now × (refused → ⊥)

-- where some room is sure, a write takes bytes within it, and the rest of the room is sure
abbrev pub TakesWithin : {E : Type 0} → Option ℕ → Option ℕ → Result ℕ E → Type 0
TakesWithin before now result = IfSome before (λ room. 0 < room → IsOkAnd result (λ n. (n ≤ room) × (now ≡ Some (room - n))))

-- where the sure room is enough for so many bytes, all are taken, and the rest of the room is sure
abbrev pub TakesAllWithin : {T E : Type 0} → Option ℕ → Option ℕ → ℕ → Result T E → Type 0
TakesAllWithin before now count result = IfSome before (λ room. count ≤ room → IsOk result × (now ≡ Some (room - count)))
