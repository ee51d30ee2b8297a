-- The texts of the operands: a register that stands first, and two others.
use Rattle.std.specs.Prelude.{ℕ, ◌==◌, length, List, [], if◌then◌else◌, Option, Some, None}
use Rattle.std.specs.Str.{byte}
use Rattle.rv_asm.specs.declared.shapes.Shape.{Shape}
use Rattle.rv_asm.specs.declared.shapes.Shape.TheVariants.{Registers, Immediate, Shift, Load, Store, Branch, Upper}
use Rattle.rv_asm.specs.declared.shapes.Shape.TheVariants.{Jump, Csr, CsrImmediate, Bare}
use Rattle.rv_asm.specs.Texts.{cut}
use Rattle.rv_asm.specs.Operands.{operand_and, register_and, ◌>>=◌}

-- the register that stands first, and what follows its comma; 0 where there are no operands
abbrev pub first_of : Shape → List ℕ → Option (ℕ × List ℕ)
first_of Registers text = register_and text
first_of Immediate text = register_and text
first_of Shift text = register_and text
first_of Load text = register_and text
first_of Store text = register_and text
first_of Branch text = register_and text
first_of Upper text = register_and text
first_of Jump text = register_and text
first_of Csr text = register_and text
first_of CsrImmediate text = register_and text
first_of Bare text = Some (0, text)

-- a number, and the operand in parentheses after it
abbrev pub place_parts : List ℕ → Option (List ℕ × List ℕ)
place_parts text = do
  number ← cut (byte "(") text
  base ← cut (byte ")") number.1
  if length base.1 == 0 then Some (number.0, base.0) else None

-- the operands after the first register; where there is one alone or none, the last is empty
abbrev pub others_of : Shape → List ℕ → Option (List ℕ × List ℕ)
others_of Registers text = operand_and text
others_of Immediate text = operand_and text
others_of Shift text = operand_and text
others_of Load text = place_parts text
others_of Store text = place_parts text
others_of Branch text = operand_and text
others_of Upper text = Some (text, [])
others_of Jump text = Some (text, [])
others_of Csr text = operand_and text
others_of CsrImmediate text = operand_and text
others_of Bare text = Some (text, [])
