-- The code by which a proof tells books apart: a book is stored as the tuple of its parts.
use Rattle.std.specs.Prelude.{ℕ, List, refl}
use Rattle.std.specs.Coded.{Coded, code_by, coded×, coded_list, coded_ℕ}
use Rattle.token_system.specs.Stores.{StoreMap}
use Rattle.token_system.specs.contracts.store.Store as store
use Rattle.agent_core.specs.Programs.{CoreProgram}
use Rattle.agent_core.specs.contracts.program.Program as program
use Rattle.residuals.specs.RootLists.{RootLists}
use Rattle.residuals.specs.contracts.roots.Roots as root_lists
use Rattle.run_book.specs.Books.{BookView}

abbrev pub coded_stores : Coded (List StoreMap)
coded_stores = coded_list store.the_row.coded

abbrev pub book_code : Coded BookView
book_code =
    code_by (CoreProgram × (List ℕ × (List StoreMap × (List StoreMap × RootLists))))
    (coded× program.the_row.coded (coded× (coded_list coded_ℕ) (coded× coded_stores (coded× coded_stores root_lists.the_row.coded))))
    (λ b. (b.program, (b.levels, (b.ins, (b.outs, b.roots)))))
    (λ t. record { program = t.0; levels = t.1.0; ins = t.1.1.0; outs = t.1.1.1.0; roots = t.1.1.1.1 })
    (λ _. refl)
