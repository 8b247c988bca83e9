-- Words that are joined one after another with others of their place.
use Rattle.std.proofs.Common.{◌≡◌, ◌≢◌, ◌⊎◌, inl, inr, ℕ, ◌+◌, ◌<◌, ◌≤◌, List, length, refl, sym, ap, ◌∙◌, arith, length-set, get_or-set_same, get_or-set_other}
use Rattle.std.specs.Prelude.{slice_index, slice_index_or}
use Rattle.std.proofs.lemmas.Bool.{cases_eq}
use Rattle.std.proofs.lemmas.List.FromFn.{fill_by_all}
use Rattle.instant_net.specs.declared.words.How.{How}
use Rattle.instant_net.specs.declared.words.How.TheVariants.{Or}
use Rattle.instant_net.specs.Words.{lub, tell_word, told_to}
use Rattle.instant_net.specs.Seen.{join_words}

abbrev joined_at : List How → List ℕ → List ℕ → ℕ → ℕ
joined_at ways u w k = lub (slice_index_or ways k Or) (slice_index u k) (slice_index w k)

-- the words before this place are the joins of both, and the others those of u
pub record AreJoinedBelow (ways : List How) (place : ℕ) (u w now : List ℕ) : Type 0 where
  pub long : length now ≡ length u
  pub joined : (k : ℕ) → k < place → slice_index now k ≡ joined_at ways u w k
  pub kept : (k : ℕ) → place ≤ k → slice_index now k ≡ slice_index u k

pub none-joined : (ways : List How) (u w : List ℕ) → AreJoinedBelow ways 0 u w u
none-joined ways u w = record { long = refl; joined = λ k h. absurd (omega arith); kept = λ k h. refl }

pub next-joined : (ways : List How) (place : ℕ) (u w now : List ℕ) → AreJoinedBelow ways place u w now → place < length u
    → AreJoinedBelow ways (place + 1) u w (tell_word now (told_to place (slice_index_or ways place Or) (slice_index w place)))
next-joined ways place u w now are within = record {
  long = length-set now place _ ∙ are.long;
  joined = λ k h. go k h (cases_eq k place);
  kept = λ k h. get_or-set_other now place k _ 0 (other k h) ∙ are.kept k (omega arith);
}
  where
    other : (k : ℕ) → place + 1 ≤ k → k ≢ place
    other k h e = omega arith

    here : slice_index (tell_word now (told_to place (slice_index_or ways place Or) (slice_index w place))) place ≡ joined_at ways u w place
    here =
        let long = are.long in
        get_or-set_same now place _ 0 (omega arith) ∙ ap (λ x. lub (slice_index_or ways place Or) x (slice_index w place)) (are.kept place (omega arith))

    go : (k : ℕ) → k < place + 1 → (k ≡ place) ⊎ (k ≢ place) → slice_index (tell_word now (told_to place (slice_index_or ways place Or) (slice_index w place))) k ≡ joined_at ways u w k
    go k h (inl e) = ap (slice_index (tell_word now (told_to place (slice_index_or ways place Or) (slice_index w place)))) e ∙ here ∙ sym (ap (joined_at ways u w) e)
    go k h (inr n) = get_or-set_other now place k _ 0 n ∙ are.joined k (less k h n)
      where
        less : (k : ℕ) → k < place + 1 → k ≢ place → k < place
        less k h n = omega arith

pub all-joined : (ways : List How) (place : ℕ) (u w now : List ℕ) → AreJoinedBelow ways place u w now → length u ≤ place → now ≡ join_words ways u w
all-joined ways place u w now are past = fill_by_all (joined_at ways u w) now (length u) 0 are.long (λ k h. are.joined k (omega arith))
