use Rattle.std.proofs.Common.{◌≡◌, ◌*◌}
use Rattle.page_ram.specs.Access.{page_size}
use Rattle.page_ram.specs.Bytes.{zeros}
use Rattle.page_ram.specs.Inner.Directory.{bytes_of, IsPaged}
use Rattle.page_ram.proofs.ram.PageRam.new.Given as goal

abbrev pub invariant-loop : goal.invariant-loop
invariant-loop l = record {
  paged : IsPaged l.pages.items;
  zero : bytes_of l.pages.items ≡ zeros (l.counter * page_size);
}
