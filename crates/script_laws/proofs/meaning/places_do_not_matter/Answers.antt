use Rattle.std.proofs.Common.{arith}
use Rattle.lab_state.specs.Run.{run}
use Rattle.script_laws.proofs.PlaceLemmas.{PlacesAside}
use Rattle.script_laws.proofs.SameLemmas.{from_one}
use Rattle.script_laws.proofs.meaning.places_do_not_matter.Goals as goal

pub returns : goal.returns
returns c = λ held kept s other few few_too same.
    let places = c.places_change_no_line.ensures in
    let leaves = c.lines_leave_the_script.ensures in
    let facts : PlacesAside = record {
      next = places.next;
      included = places.included;
      ran = places.macro_;
      counted = leaves.counted;
      in_file = leaves.included;
      in_macro = leaves.macro_;
    } in
    from_one facts 100001 100001 run held kept s other same few few_too (omega arith) (omega arith)
