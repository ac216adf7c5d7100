-- What the layout sees of a text's pieces: an item for each piece, and a stop where no piece could be read.
use Rattle.std.specs.Prelude.{ℕ, ◌==◌, if◌then◌else◌, List, [], ◌∷◌, ◌++◌, take, drop, Option, Some, None}
use Rattle.py_lexeme.specs.declared.piece.Kind.{Kind}
use Rattle.py_lexeme.specs.declared.piece.Kind.TheVariants as kind
use Rattle.py_lexeme.specs.declared.piece.Piece.{Piece}
use Rattle.py_lexeme.specs.declared.piece.Stop as stop
use Rattle.py_layout.specs.declared.item.Item.{Item}
use Rattle.py_layout.specs.declared.item.Item.TheVariants as item
use Rattle.py_layout.specs.declared.item.Bracket.TheVariants.{Round, Square, Curly}
use Rattle.py_layout.specs.Blanks.{widths_of}

-- a bracket, or another operator
abbrev pub operator_item : List ℕ → Item
operator_item (c ∷ []) =
    if c == 40 then item.Open Round
    else (if c == 41 then item.Close Round
    else (if c == 91 then item.Open Square
    else (if c == 93 then item.Close Square
    else (if c == 123 then item.Open Curly
    else (if c == 125 then item.Close Curly
    else item.Plain)))))
operator_item _ = item.Plain

-- the item of a piece, by its kind and its characters
abbrev pub item_of : Kind → List ℕ → Item
item_of kind.Blank t = item.Blank (widths_of t)
item_of kind.LineEnd t = item.LineEnd
item_of kind.Comment t = item.Comment
item_of kind.Join t = item.Join
item_of kind.Op t = operator_item t
item_of _ t = item.Plain

-- the items of the pieces at the front of the characters
abbrev pub items_of : List ℕ → List Piece → List Item
items_of cs [] = []
items_of cs (piece ∷ pieces) = item_of piece.kind (take piece.len cs) ∷ items_of (drop piece.len cs) pieces

-- a stop, where the cut has one
abbrev pub stop_item : Option stop.Stop → List Item
stop_item None = []
stop_item (Some at) = item.Stop ∷ []

-- the items of a text that is cut so
abbrev pub all_items : List ℕ → List Piece → Option stop.Stop → List Item
all_items cs pieces at = items_of cs pieces ++ stop_item at
