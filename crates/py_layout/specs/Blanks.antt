-- The two widths of blanks at a line's head: in the first a tab goes to the next multiple of 8, in the second it counts 1;
-- a form feed sets both to 0.
use Rattle.std.specs.Prelude.{ℕ, ◌+◌, ◌*◌, ◌/◌, ◌==◌, if◌then◌else◌, List, fold}
use Rattle.py_layout.specs.declared.item.Widths.{Widths}

abbrev pub no_widths : Widths
no_widths = record { wide = 0; narrow = 0 }

-- the widths behind one character more
abbrev pub widths_behind : Widths → ℕ → Widths
widths_behind widths c =
    if c == 9 then record { wide = (widths.wide / 8 + 1) * 8; narrow = widths.narrow + 1 }
    else (if c == 12 then no_widths else record { wide = widths.wide + 1; narrow = widths.narrow + 1 })

-- the widths of blanks and form feeds
abbrev pub widths_of : List ℕ → Widths
widths_of blanks = fold widths_behind no_widths blanks
