-- The cells of the new nodes of an agent are those of its tree.
use Rattle.std.proofs.Common.{◌≡◌, ℕ, suc, ◌+◌, List, [], ◌∷◌, ◌++◌, refl, ap, ◌∙◌}
use Rattle.std.specs.Prelude.{filter_map}
use Rattle.std.proofs.lemmas.List.Elements.{filter_map-append}
use Rattle.agent_core.specs.Agents.{Agent, Skip, Tell, Then, Else, Par, New, Hence, Next}
use Rattle.agent_core.specs.WellFormed.{cell_of}
use Rattle.agent_core.specs.Listing.{size, listing}
use Rattle.surface_laws.specs.Surfaces.{new_cells}
use Rattle.core_reader.specs.Trees.{tree_of}

-- the cells of the new nodes of an agent
abbrev pub news : Agent → List ℕ
news Skip = []
news (Tell c) = []
news (Then c a) = news a
news (Else c a) = news a
news (Par l r) = news l ++ news r
news (New cell a) = cell ∷ news a
news (Hence a) = news a
news (Next a) = news a

pub news_listed : (n : ℕ) (a : Agent) → filter_map cell_of (listing n a) ≡ news a
news_listed n Skip = refl
news_listed n (Tell c) = refl
news_listed n (Then c a) = news_listed (suc n) a
news_listed n (Else c a) = news_listed (suc n) a
news_listed n (Par l r) =
    filter_map-append cell_of (listing (suc n) l) (listing (suc n + size l) r)
    ∙ ap (λ q. q ++ filter_map cell_of (listing (suc n + size l) r)) (news_listed (suc n) l)
    ∙ ap (λ q. news l ++ q) (news_listed (suc n + size l) r)
news_listed n (New cell a) = ap (λ q. cell ∷ q) (news_listed (suc n) a)
news_listed n (Hence a) = news_listed (suc n) a
news_listed n (Next a) = news_listed (suc n) a

pub news_tree : (a : Agent) → news a ≡ new_cells (tree_of a)
news_tree Skip = refl
news_tree (Tell c) = refl
news_tree (Then c a) = news_tree a
news_tree (Else c a) = news_tree a
news_tree (Par l r) = ap (λ q. q ++ news r) (news_tree l) ∙ ap (λ q. new_cells (tree_of l) ++ q) (news_tree r)
news_tree (New cell a) = ap (λ q. cell ∷ q) (news_tree a)
news_tree (Hence a) = news_tree a
news_tree (Next a) = news_tree a
