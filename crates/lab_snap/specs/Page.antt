-- The pages of a memory that a snapshot has.
use Rattle.std.specs.Prelude.{ℕ, List}
use Rattle.lab_encoding.specs.Form.{Form}
use Rattle.lab_encoding.specs.Combine.{bytes, number, ◌⊗◌}

-- a page number and the page
abbrev pub page_form : ℕ → Form (ℕ × List ℕ)
page_form s = number 4 ⊗ bytes s
