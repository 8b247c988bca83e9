-- The settings of a run: flags with their numbers, in any order, each kind once at most. This project's own.
use Rattle.std.specs.Prelude.{◌≡◌, ◌≢◌, ℕ, ◌≤◌, List, [], ◌∷◌, length, codes, AllPairs, Contains, Option, Some, ◌↔◌, ⊤}
use Rattle.std.specs.Int.{IsInRange}
use Rattle.std.specs.Str.Parse.{IsNumeral, digits_value}
use Rattle.command_words.specs.Limits.{most_word_digits, most_workers, default_fuel, greatest_net, default_net}
use Rattle.command_words.specs.declared.settings.Limits.{Limits}
use Rattle.command_words.specs.declared.settings.Setting.{Setting}
use Rattle.command_words.specs.declared.settings.Setting.TheVariants.{Workers, Fuel, Net}
use Rattle.command_words.specs.declared.settings.Settings.{Settings}

-- the word is one digit or more, but not too many, which write this number
pub record IsNumber (word : List ℕ) (n : ℕ) : Type 0 where
  pub digits : IsNumeral 10 word
  pub short : length word ≤ most_word_digits
  pub value : n ≡ digits_value 10 word

-- there is a worker and a leaf at least, and not too many of them; any number is a fuel
abbrev pub IsAllowed : Setting → Type 0
IsAllowed (Workers n) = IsInRange 1 most_workers n
IsAllowed (Fuel n) = ⊤
IsAllowed (Net n) = IsInRange 1 greatest_net n

-- the word in front of a setting's number
abbrev pub flag_of : Setting → List ℕ
flag_of (Workers n) = codes "--workers"
flag_of (Fuel n) = codes "--fuel"
flag_of (Net n) = codes "--net"

-- and the number
abbrev pub number_in : Setting → ℕ
number_in (Workers n) = n
number_in (Fuel n) = n
number_in (Net n) = n

-- the flag and the number are this setting
pub record IsSetting (flag number : List ℕ) (s : Setting) : Type 0 where
  pub is : flag ≡ flag_of s
  pub writes : IsNumber number (number_in s)
  pub allowed : IsAllowed s

-- the words are these settings, one behind the other
abbrev pub AreSettings : List (List ℕ) → List Setting → Type 0
AreSettings [] [] = Unit {0}
AreSettings (flag ∷ number ∷ words) (s ∷ ss) = IsSetting flag number s × AreSettings words ss
AreSettings _ _ = ⊥

-- no two of these settings are of one kind
abbrev pub AreOnce : List Setting → Type 0
AreOnce ss = AllPairs (λ a b. flag_of a ≢ flag_of b) ss

-- a limit is the number that is set for it, or the default where none is set
pub record IsLimit (ss : List Setting) (set : ℕ → Setting) (default n : ℕ) : Type 0 where
  pub given : (k : ℕ) → Contains ss (set k) → n ≡ k
  pub else_default : ((k : ℕ) → Contains ss (set k) → ⊥) → n ≡ default

-- the limits that these settings leave, with the defaults where nothing else is set
pub record AreLimits (ss : List Setting) (limits : Limits) : Type 0 where
  pub fuel : IsLimit ss Fuel default_fuel limits.fuel
  pub net : IsLimit ss Net default_net limits.net

-- the words are settings, each kind once at most, that leave these limits
pub record GiveLimits (words : List (List ℕ)) (limits : Limits) : Type 0 where
  pub settings : List Setting
  pub are : AreSettings words settings
  pub once : AreOnce settings
  pub left : AreLimits settings limits

-- a number is kept exactly where it is set
abbrev pub KeepsNumber : List Setting → (ℕ → Setting) → Option ℕ → Type 0
KeepsNumber ss set kept = (n : ℕ) → Contains ss (set n) ↔ (kept ≡ Some n)

-- the numbers of these settings are kept, each kind once
pub record KeepsSettings (kept : Settings) (ss : List Setting) : Type 0 where
  pub once : AreOnce ss
  pub workers : KeepsNumber ss Workers kept.workers
  pub fuel : KeepsNumber ss Fuel kept.fuel
  pub net : KeepsNumber ss Net kept.net
