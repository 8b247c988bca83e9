-- What is left of a sure room, write by write.
use Rattle.std.proofs.Common.{◌≡◌, ℕ, ◌+◌, ◌-◌, ◌<◌, ◌≤◌, refl, ap, ◌∙◌, subst, arith}
use Rattle.std.specs.Prelude.{Option, Some, None, Result, Ok, Err, IfSome}
use Rattle.tdcc_base.specs.Promises.{TakesWithin, TakesAllWithin}
use Rattle.tdcc_base.specs.declared.outside.Failed.{Failed}

-- where the sure room was enough for all bytes, the room less those that were written is sure
abbrev pub IsRoomLeft : Option ℕ → Option ℕ → ℕ → ℕ → Type 0
IsRoomLeft before now all written = IfSome before (λ room. all ≤ room → now ≡ Some (room - written))

pub IsRoomLeft-start : (before : Option ℕ) (all : ℕ) → IsRoomLeft before before all 0
IsRoomLeft-start None all = tt
IsRoomLeft-start (Some room) all = λ enough. let none : room ≡ room - 0 = omega arith in ap Some none

pub IsRoomLeft-write : (before mid now : Option ℕ) (all written n : ℕ) → IsRoomLeft before mid all written → written < all → TakesWithin {E = Failed} mid now (Ok n) → IsRoomLeft before now all (written + n)
IsRoomLeft-write None mid now all written n left more takes = tt
IsRoomLeft-write (Some room) mid now all written n left more takes = λ enough.
    let taken = subst (λ (m : Option ℕ). TakesWithin {E = Failed} m now (Ok n)) (left enough) takes (omega arith) in
    let less : room - written - n ≡ room - (written + n) = omega arith in
    taken.1 ∙ ap Some less

pub no_fault_within : {T : Type 0} (before mid now : Option ℕ) (all written : ℕ) (fault : Failed) (result : Result T Failed) → IsRoomLeft before mid all written → written < all → TakesWithin mid now (Err fault) → TakesAllWithin before now all result
no_fault_within None mid now all written fault result left more takes = tt
no_fault_within (Some room) mid now all written fault result left more takes = λ enough.
    absurd (subst (λ (m : Option ℕ). TakesWithin {E = Failed} m now (Err fault)) (left enough) takes (omega arith))

pub all_within : (before now : Option ℕ) (all written : ℕ) → IsRoomLeft before now all written → written ≤ all → all ≤ written → TakesAllWithin {T = Unit {0}} {E = Failed} before now all (Ok (tt {0}))
all_within None now all written left within done = tt
all_within (Some room) now all written left within done = λ enough. let whole : room - written ≡ room - all = omega arith in (refl, left enough ∙ ap Some whole)
