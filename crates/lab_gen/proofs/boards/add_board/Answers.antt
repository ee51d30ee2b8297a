use Rattle.std.proofs.Common.{refl}
use Rattle.lab_gen.proofs.Apart.{name_free, member_free}
use Rattle.lab_gen.proofs.MoreBoards.{count_is, last_has_uart, first_hub, hub_of_uarts, joined_last}
use Rattle.lab_gen.proofs.boards.add_board.Goals as goal

pub add_bare-requires-clause-count : goal.add_bare-requires-clause-count
add_bare-requires-clause-count g c = count_is _ _ _ c.requires.before

pub add_bare-requires-clause-free : goal.add_bare-requires-clause-free
add_bare-requires-clause-free g c = name_free _ _ _ c.requires.few c.requires.before

pub equip-requires : goal.equip-requires
equip-requires g c = rw (c.in_ok-b.ensures.ok, c.in_ok-b.ensures.number, c.requires.before) refl

pub join-requires-clause-hub : goal.join-requires-clause-hub
join-requires-clause-hub g c = first_hub _ _ _ c.in_ok-equip.ensures

pub join-requires-clause-device : goal.join-requires-clause-device
join-requires-clause-device g c = last_has_uart _ _ _ c.in_ok-equip.ensures

pub join-requires-clause-uarts : goal.join-requires-clause-uarts
join-requires-clause-uarts g c = hub_of_uarts _ _ _ c.in_ok-equip.ensures

pub join-requires-clause-free : goal.join-requires-clause-free
join-requires-clause-free g c = member_free _ _ _ _ c.in_ok-equip.ensures

pub returns : goal.returns
returns g c = rw (← c.in_ok-b.ensures.number) (joined_last _ _ _ _ c.in_ok-equip.ensures c.in_ok-join.ensures)
