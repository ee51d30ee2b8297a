use Rattle.std.proofs.Common.{◌≡◌, ◌++◌, ◌∷◌, [], refl, rules}
use Rattle.board.proofs.outbox.Outbox.enter.Goals as goal

pub returns-clause-ok : goal.returns-clause-ok
returns-clause-ok c = λ s.
    let pushed : c.push.new.self.items ≡ c.args.self.now.entries.items ++ c.entry-entry.result ∷ [] = search rules in
    rw (c.count_entry.ensures, pushed, c.entry-entry.ensures s) refl
