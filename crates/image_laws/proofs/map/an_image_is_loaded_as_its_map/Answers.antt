-- The map of the parts, from its lemmas.
use Rattle.image_laws.proofs.MapLemmas.{only_memories, parts_held}
use Rattle.image_laws.proofs.PlaceLemmas.{stand_apart}
use Rattle.image_laws.proofs.map.an_image_is_loaded_as_its_map.Goals as goal

pub returns-clause-bytes : goal.returns-clause-bytes
returns-clause-bytes c = λ v parts address valid sizes. parts_held parts v address (stand_apart v.space valid sizes)

pub returns-clause-others : goal.returns-clause-others
returns-clause-others c = λ v parts. only_memories parts v
