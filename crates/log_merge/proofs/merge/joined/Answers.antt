-- One list is all of them.
use Rattle.std.proofs.Common.{◌≡◌, ◌∙◌, List, [], ◌∷◌, length, get_or, ap, sym, append-nil, arith}
use Rattle.std.specs.Prelude.{Vec}
use Rattle.std.specs.declared.alloc.Global.{Global}
use Rattle.dev_core.specs.declared.post.Entry.{Entry}
use Rattle.log_merge.specs.Merge.{all_entries}
use Rattle.log_merge.proofs.merge.joined.Goals as goal

one_list :
    (lists : List (Vec Entry Global)) (list : Vec Entry Global) → length lists ≡ 1 → list ≡ get_or lists 0 list →
    list.items ≡ all_entries lists
one_list [] list one is = absurd (omega (arith, one))
one_list (x ∷ []) list one is = ap (λ (it : Vec Entry Global). it.items) is ∙ sym (append-nil x.items)
one_list (x ∷ y ∷ rest) list one is = absurd (omega (arith, one))

pub returns-then-len-eq1 : goal.returns-then-len-eq1
returns-then-len-eq1 c =
    let counted = c.args.lists.ok in
    let one : length c.args.lists.items ≡ 1 = omega arith in
    ap (λ (it : Vec Entry Global). it.items) c.replace.ensures.value
    ∙ one_list c.args.lists.items c.index_mut.result.now one c.index_mut.ensures.value
