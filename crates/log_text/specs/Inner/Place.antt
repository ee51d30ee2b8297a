-- Where a member's own line stands among lines that rise by member.
use Rattle.std.specs.Prelude.{ℕ, Bool, nat_lt, ◌&&◌, not, List, length, slice_index_or}
use Rattle.std.specs.List.{prefix_len}
use Rattle.lab_num.specs.declared.key.Member.{Member}
use Rattle.lab_num.specs.Key.{same_member}
use Rattle.log_text.specs.declared.line.OpenLine.{OpenLine}
use Rattle.log_text.specs.Line.{blank, is_ending, is_lower}

-- how many lines come before it
abbrev pub place_of : Member → List OpenLine → ℕ
place_of m lines = prefix_len (λ line. is_lower line.member m) lines

-- whether the line at a place is the member's own
abbrev pub stands_at : Member → List OpenLine → ℕ → Bool
stands_at m lines place =
    nat_lt place (length lines) && same_member (slice_index_or lines place (blank m)).member m

-- whether it is, and a byte does not end it
abbrev pub goes_on : Member → List OpenLine → ℕ → ℕ → Bool
goes_on m lines place byte =
    stands_at m lines place && not (is_ending (slice_index_or lines place (blank m)) byte)
