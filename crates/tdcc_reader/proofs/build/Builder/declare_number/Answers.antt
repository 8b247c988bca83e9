use Rattle.std.proofs.Common.{◌≡◌, ap, ◌∙◌, w64}
use Rattle.std.proofs.lemmas.Int.{to_z-of_z}
use Rattle.tdcc_reader.specs.Surfaces.{declared_as, declared_number}
use Rattle.tdcc_reader.specs.BuildPass.{builds_declaration, built_view}
use Rattle.tdcc_reader.proofs.build.Builder.declare_number.Goals as goal

pub returns : goal.returns
returns c =
    let low = to_z-of_z w64 c.args.low c.ranges.low in
    let high = to_z-of_z w64 c.args.high c.ranges.high in
    let e : declared_as c.args.name.now c.number_cell.result ≡ declared_number c.args.name.now c.args.low c.args.high = simp (low, high) at (c.number_cell.ensures c.args.name.now) in
    c.in_ok-declare.ensures ∙ ap (λ v. builds_declaration c.args.name.now v (built_view c.args.self.now)) e
