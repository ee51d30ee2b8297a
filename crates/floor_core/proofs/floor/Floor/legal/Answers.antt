use Rattle.std.proofs.Common.{arith}
use Rattle.floor_core.proofs.floor.Floor.legal.Goals as goal

pub returns-then-self : goal.returns-then-self
returns-then-self g c = grind arith

pub returns-in-Claim : goal.returns-in-Claim
returns-in-Claim g c = grind arith

pub returns-in-Post : goal.returns-in-Post
returns-in-Post g c = grind arith

pub returns-in-Report : goal.returns-in-Report
returns-in-Report g c = grind arith

pub returns-in-Close : goal.returns-in-Close
returns-in-Close g c = grind arith
