use Rattle.std.proofs.Common.{◌≡◌, true, List, get_or, set, subst, sym}
use Rattle.std.specs.Prelude.{Result, Ok, Err, OnErr}
use Rattle.log_text.specs.declared.line.OpenLine.{OpenLine}
use Rattle.log_text.specs.Line.{are_unended}
use Rattle.log_text.proofs.Rising.{kept, lengthened, lengthened_unended}
use Rattle.log_text.proofs.lines.Lines.lengthen.Goals as goal

pub invariant_of-self-2 : goal.invariant_of-self-2
invariant_of-self-2 c =
    let held : c.self.inside.lines.items ≡ c.args.self.now = c.self.view_is in
    subst (λ (lines : List OpenLine). are_unended (set lines c.args.place c.gather.new.line) ≡ true) (sym held)
    (lengthened_unended c.args.member c.args.self.now c.args.place c.requires.place c.requires.unended c.args.at
    c.args.byte c.requires.goes_on c.index_mut.result.now c.gather.new.line
    (subst (λ (lines : List OpenLine). c.index_mut.result.now ≡ get_or lines c.args.place c.index_mut.result.now) held
    c.index_mut.ensures.value)
    (c.in_ok-gather.ensures {u = tt}).ok)

pub returns-clause-ok : goal.returns-clause-ok
returns-clause-ok c =
    let held : c.self.inside.lines.items ≡ c.args.self.now = c.self.view_is in
    rw held
    (lengthened c.args.member c.args.self.now c.args.place c.requires.place c.requires.unended c.args.at c.args.byte
    c.requires.goes_on c.index_mut.result.now c.gather.new.line
    (subst (λ (lines : List OpenLine). c.index_mut.result.now ≡ get_or lines c.args.place c.index_mut.result.now) held
    c.index_mut.ensures.value)
    (c.in_ok-gather.ensures {u = tt}).ok)

on_err : {T E P : Type 0} (r : Result T E) → P → OnErr r P
on_err (Ok x) p = tt
on_err (Err e) p = p

pub returns-in_err-gather-clause-err : goal.returns-in_err-gather-clause-err
returns-in_err-gather-clause-err c =
    let held : c.self.inside.lines.items ≡ c.args.self.now = c.self.view_is in
    let same =
    kept c.args.self.now c.args.place c.index_mut.result.now c.gather.new.line
    (subst (λ (lines : List OpenLine). c.index_mut.result.now ≡ get_or lines c.args.place c.index_mut.result.now) held
    c.index_mut.ensures.value)
    c.in_err-gather.ensures.err in
    rw held (on_err c.from_residual.result same)
