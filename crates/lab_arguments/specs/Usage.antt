-- The line that is written where the words are refused.
use Rattle.std.specs.Prelude.{ℕ, List, codes}

-- how the program is called, with a line feed at the end
abbrev pub usage_line : List ℕ
usage_line =
    codes "usage: lab run SCRIPT [--workers N] [--until TIME] | check SCRIPT | gen SEED BOARDS [--workers N]\n"
