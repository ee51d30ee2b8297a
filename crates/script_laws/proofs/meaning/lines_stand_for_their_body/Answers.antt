use Rattle.lab_state.specs.Run.{run}
use Rattle.script_laws.proofs.BodyLemmas.{file_one, macro_one}
use Rattle.script_laws.proofs.PlaceLemmas.{PlacesAside}
use Rattle.script_laws.proofs.meaning.lines_stand_for_their_body.Goals as goal

pub returns-clause-file : goal.returns-clause-file
returns-clause-file c = λ held kept s flow opened other file line path text n next asks there opens few same.
    let places = c.places_change_no_line.ensures in
    let leaves = c.lines_leave_the_script.ensures in
    let facts : PlacesAside = record {
      next = places.next;
      included = places.included;
      ran = places.macro_;
      counted = leaves.counted;
      in_file = leaves.included;
      in_macro = leaves.macro_;
    } in
    file_one facts run held kept s other file n line flow opened next few same path text asks there opens

pub returns-clause-macro_ : goal.returns-clause-macro_
returns-clause-macro_ c = λ held kept s flow opened other file line name n next asks opens few same.
    let places = c.places_change_no_line.ensures in
    let leaves = c.lines_leave_the_script.ensures in
    let facts : PlacesAside = record {
      next = places.next;
      included = places.included;
      ran = places.macro_;
      counted = leaves.counted;
      in_file = leaves.included;
      in_macro = leaves.macro_;
    } in
    macro_one facts run held kept s other file n line flow opened next few same name asks opens
