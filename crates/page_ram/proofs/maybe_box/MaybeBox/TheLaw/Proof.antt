-- A `&` to a place is made where one to its value is. Assumes `Logic`.
use Rattle.std.proofs.Common.{[], ◌++◌}
use denote.RattleType.{RattleType}
use denote.Param.Laws.{Laws}
use denote.Param.Shared.{copy_shared}
use denote.Struct.Field.{RawPtr-field}
use denote.Struct.Laws.{RawPtr-copy}
use denote.Struct.Lending.{of_Lends}
use Rattle.std.specs.contracts.alloc.Global as global
use Rattle.std.proofs.alloc.Global.TheLaws as heap
use Rattle.page_ram.specs.contracts.maybe_box.MaybeBox as C
use Rattle.page_ram.proofs.maybe_box.MaybeBox.TheLaw.Statement.{statement}
use Rattle.page_ram.proofs.MaybeBoxShares.{maybe_box_shares_laws, Lends-maybe_box}
use base.Fml.{Incl-trans}
use contract.BorrowLft.{meet_⊑_left}

pub shares : (T : RattleType) (L : Laws T) → statement T L
shares T L = of_Lends (C.struct T) (C.the_codes T.Denot T.coded global.the_row.coded) (C.the_heap T) (C.the_lent T)
    (λ d p. maybe_box_shares_laws T L.shr_laws d.at d.held)
    (copy_shared RawPtr-field RawPtr-copy, (heap.the_field_shared, tt))
    (λ M 𝓤 𝓛 d p. Lends-maybe_box 𝓛 (C.the_row T).lives T L (Incl-trans (meet_⊑_left (T.lives ++ []) _)
    (meet_⊑_left T.lives [])) d.alloc d.at d.held)
