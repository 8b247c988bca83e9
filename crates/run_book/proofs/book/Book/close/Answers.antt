use Rattle.std.proofs.Common.{◌≤◌, length, sym, ap, ◌∙◌, subst, take}
use Rattle.instant_net.specs.Words.{store_in}
use Rattle.residuals.specs.NextRoots.{FollowRoots}
use Rattle.token_system.specs.DeclaredParts.{IsDeclaredPart}
use Rattle.run_book.specs.Books.{BookView, IsBook}
use Rattle.run_book.proofs.FrontParts.{declared_within, front-part}
use Rattle.run_book.proofs.Closings.{closed_book-seen, Closes, closes}
use Rattle.run_book.proofs.book.Book.close.Goals as goal

pub declared_store-requires-clause-cells : goal.declared_store-requires-clause-cells
declared_store-requires-clause-cells c =
    subst (λ n. n ≤ length c.args.net.now.cells) (sym (c.declared-declared.ensures.number ∙ ap (λ (b : BookView). b.program.declared) c.self.view_is))
    (declared_within c.args.self.now.program c.args.self.now.levels c.args.net.now c.requires.net.cells)

-- the book as it is opened, and as it is left
abbrev before : goal.In_ok-push → BookView
before c = record { program = c.self.inside.program; levels = c.self.inside.levels; ins = c.self.inside.entries.ins.items; outs = c.self.inside.entries.outs.items; roots = c.self.inside.entries.roots }

abbrev after : goal.In_ok-push → BookView
after c = record { program = c.self.inside.program; levels = c.self.inside.levels; ins = c.push.new.self.ins.items; outs = c.push.new.self.outs.items; roots = c.push.new.self.roots }

declared : (c : goal.In_ok-push) → IsDeclaredPart (store_in c.args.net.now.cells c.args.words.now) c.in_ok-out.out
declared c =
    subst (IsDeclaredPart (store_in c.args.net.now.cells c.args.words.now))
    (sym (c.in_ok-out.ensures ∙ ap (λ n. store_in (take n c.args.net.now.cells) c.args.words.now) (c.declared-declared.ensures.number ∙ ap (λ (b : BookView). b.program.declared) c.self.view_is)))
    (front-part c.args.self.now.program c.args.self.now.levels c.args.net.now c.requires.net.cells c.args.words.now)

closing : (c : goal.In_ok-push) → Closes c.args.self.now (after c) c.args.input (store_in c.args.net.now.cells c.args.words.now)
closing c =
    subst (λ (b : BookView). Closes c.args.self.now b c.args.input (store_in c.args.net.now.cells c.args.words.now)) (sym (closed_book-seen (before c) c.args.self.now c.self.view_is c.args.input c.in_ok-out.out c.in_ok-next.next c.push.new.self.ins.items c.push.new.self.outs.items c.push.new.self.roots c.in_ok-push.ensures.ins c.in_ok-push.ensures.outs c.in_ok-push.ensures.roots))
    (closes c.args.self.now (subst IsBook c.self.view_is c.self.invariant) c.net_outputs_law.ensures c.args.net.now c.requires.net c.args.input (store_in c.args.net.now.cells c.args.words.now) c.in_ok-out.out c.requires.input c.requires.output (declared c) c.in_ok-next.next
    (subst (λ (b : BookView). FollowRoots c.args.net.now (store_in c.args.net.now.cells c.args.words.now) b.roots c.in_ok-next.next) c.self.view_is c.in_ok-next.ensures.follow) c.requires.room)

pub invariant_of-self-2 : goal.invariant_of-self-2
invariant_of-self-2 c = (closing c).book

pub returns-clause-closed : goal.returns-clause-closed
returns-clause-closed c = (closing c).closed

pub returns-clause-keeps : goal.returns-clause-keeps
returns-clause-keeps c = (closing c).keeps
