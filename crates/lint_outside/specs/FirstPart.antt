-- The part of a piece that a sink takes before it fails.
use Rattle.std.specs.Prelude.{ℕ, ◌-◌, List, length, take, if◌then◌else◌, nat_lt}

-- only so many bytes of a piece, or all but the last byte of a shorter one
abbrev pub first_part : ℕ → List ℕ → List ℕ
first_part taken piece = take (if nat_lt (length piece) taken then length piece - 1 else taken) piece
