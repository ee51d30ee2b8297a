use Rattle.std.proofs.Common.{◌∙◌, refl, sym}
use Rattle.board.specs.Changes.{with_bytes}
use Rattle.page_ram.specs.LittleEndian.{little_endian}
use Rattle.resc_vars.specs.declared.cause.ScriptCause.TheVariants.{Address}
use Rattle.monitor.specs.Memory.{is_word}
use Rattle.monitor.specs.Selected.{equipped}
use Rattle.monitor.proofs.BoardLemmas.{tested_rules}
use Rattle.monitor.proofs.MemoryLemmas.{four_bytes}
use Rattle.monitor.proofs.monitor.Monitor.write_word.Goals as goal

pub returns : goal.returns
returns g c =
    let bytes = c.to_le_bytes.ensures ∙ four_bytes c.args.value in
    tested_rules c.args.self.now _ (equipped c.args.self.now.state) c.in_ok-b.b.0 (λ v. is_word v c.args.at) Address
    (λ v. with_bytes v c.args.at (little_endian 4 c.args.value)) c.new.result.items c.requires.unspent
    c.in_ok-b.ensures.ok (λ v seen. sym (c.is_word.ensures v seen) ∙ c.if-not-is_word.false)
    (rw (← c.self.view_is, c.in_ok-copy_in.ensures.ok, bytes) refl)
    c.new.ensures.items
