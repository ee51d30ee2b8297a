use Rattle.std.proofs.Common.{◌++◌, ◌∙◌, ap, string_bytes, inl, inr, arith}
use Rattle.log_text.proofs.Digits.{escaped_hex}
use Rattle.log_text.proofs.line.show.Goals as goal
use Rattle.log_text.proofs.line.show.Goals.{in_default-via-then-byte-lt32}
use Rattle.log_text.proofs.line.show.Goals.{in_default-via-else-byte-lt32+else-byte-lt127}

pub returns-in_ok-write-in_default : goal.returns-in_ok-write-in_default
returns-in_ok-write-in_default c =
    let wrote =
    rw (c.in_radix.ensures, c.laid_out.ensures) at (c.in_ok-write-in_default.ensures {u = tt}).bytes in
    wrote ∙ ap (λ shown. string_bytes c.args.text.now ++ shown) (elim c.in_default.branch [
      | in_default-via-then-byte-lt32 w ↦ escaped_hex c.args.byte (λ is. omega arith)
          (λ is. omega arith) (λ is. omega arith) (inl (omega arith))
      | in_default-via-else-byte-lt32+else-byte-lt127 w ↦ escaped_hex c.args.byte (λ is. omega arith)
          (λ is. omega arith) (λ is. omega arith) (inr (omega arith))
    ])
