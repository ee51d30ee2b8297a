use Rattle.std.proofs.Common.{◌<◌, refl, arith}
use Rattle.std.proofs.Math.Seq.{take-set-lt}
use Rattle.std.proofs.lemmas.List.{length-take-le}
use Rattle.time_source.specs.Inner.Source.{tree_of}
use Rattle.time_source.proofs.SourceLemmas.{elapsed-put}
use Rattle.time_source.proofs.source.Source.put.Goals as goal

pub returns : goal.returns
returns c =
    let s = c.self.inside in
    let board = c.args.board.0 in
    let handle = c.args.handle in
    let opened = rw (← c.self.view_is) at c.requires.opened in
    let member = rw (← c.self.view_is) at c.requires.member in
    let later = rw (← c.self.view_is) at c.requires.later in
    let below : board < s.count = omega (arith, member, length-take-le s.count s.places (omega arith)) in
    record {
      placed = rw (← c.self.view_is, c.from.ensures, take-set-lt s.count s.places board handle below) refl;
      rises =
          rw (← c.self.view_is, c.from.ensures, take-set-lt s.count s.places board handle below)
          (elapsed-put (tree_of s) board handle opened member later);
    }
