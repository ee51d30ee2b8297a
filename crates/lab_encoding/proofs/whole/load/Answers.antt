use Rattle.std.proofs.Common.{arith}
use Rattle.lab_encoding.proofs.WholeLaws.{found, only}
use Rattle.lab_encoding.proofs.whole.load.Goals as goal

pub returns-clause-found : goal.returns-clause-found
returns-clause-found g c =
    found g.T.Spelled.form g.met.T.Spelled.lawful c.args.bytes.now c.read.result
    (λ i. omega (arith, c.type_inv.bytes i))
    c.read.ensures

pub returns-clause-only : goal.returns-clause-only
returns-clause-only g c =
    only g.T.Spelled.form g.met.T.Spelled.lawful c.args.bytes.now c.read.result c.read.ensures
