use Rattle.lab_snap.proofs.LoadedLemmas.{loaded_saved, saved_fits, saved_loaded}
use Rattle.lab_snap.proofs.loading.saving_agrees.Goals as goal

pub returns : goal.returns
returns c = record {
  loaded = loaded_saved c.states_are_put_back.ensures.same;
  fit = saved_fits;
  saved = saved_loaded;
}
