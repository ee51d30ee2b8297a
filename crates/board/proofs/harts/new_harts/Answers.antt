use Rattle.std.proofs.Common.{rules, ◌≡◌, ◌+◌, [], ◌∷◌, ◌++◌, arith}
use Rattle.rv_hart.specs.Core.{initial_with}
use Rattle.board.specs.New.{new_cores}
use Rattle.std.proofs.lemmas.List.FromFn.{map-range_with_len_more}
use Rattle.board.proofs.harts.new_harts.Goals as goal

-- src/harts.rt:18:5
pub loop-number-init : goal.loop-number-init
loop-number-init c = search rules

-- src/harts.rt:18:5
pub loop-number-preserved : goal.loop-number-preserved
loop-number-preserved c =
    let n = c.loop-number.number in
    let more : new_cores (n + 1) c.args.letters ≡ new_cores n c.args.letters ++ initial_with c.args.letters n ∷ [] =
    map-range_with_len_more (initial_with c.args.letters) 0 n n (omega arith) in
    search rules

-- src/harts.rt:14:1
pub returns : goal.returns
returns c = search rules
