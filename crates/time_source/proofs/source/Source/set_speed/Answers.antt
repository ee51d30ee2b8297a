use Rattle.std.proofs.Common.{◌<◌, refl, arith}
use Rattle.std.proofs.Math.Seq.{take-set-lt}
use Rattle.std.proofs.lemmas.List.{length-take-le}
use Rattle.time_source.proofs.source.Source.set_speed.Goals as goal

pub returns : goal.returns
returns c =
    let s = c.self.inside in
    let member = rw (← c.self.view_is) at c.requires.member in
    let below : c.args.board.0 < s.count = omega (arith, member, length-take-le s.count s.places (omega arith)) in
    rw (← c.self.view_is, c.from.ensures, c.new.ensures, take-set-lt s.count s.places c.args.board.0 _ below) refl
