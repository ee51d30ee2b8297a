-- How deep the bodies of a script lie.
use Rattle.std.specs.Prelude.{ℕ}

-- how many bodies may be open beside the script: macros, included scripts and platform files
abbrev pub depth_limit : ℕ
depth_limit = 8
