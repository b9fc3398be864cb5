-- A product that does not fit has an entry beyond every limit.
use Rattle.modular.specs.Matrix.{entries, ◌·◌}
use Rattle.table.proofs.Limits.{within_fits}
use Rattle.table.proofs.limit.Limit.product.Goals as goal

pub returns-in_err-product : goal.returns-in_err-product
returns-in_err-product c = rw c.from_residual.ensures (λ h. c.in_err-product.ensures (within_fits c.args.self.most (entries c.args.x · entries c.args.y) c.args.self.small h))
