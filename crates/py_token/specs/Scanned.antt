-- The tokens and comments of a text, from its pieces: each by its byte places, its line and its column. The text begins at
-- some place of a source.
use Rattle.std.specs.Prelude.{ℕ, ◌-◌, Bool, List, [], ◌∷◌, ◌++◌, length, take, drop, encode_utf8_all, Option, Some, None}
use Rattle.py_lexeme.specs.declared.piece.Kind.{Kind}
use Rattle.py_lexeme.specs.declared.piece.Kind.TheVariants as kind
use Rattle.py_lexeme.specs.declared.piece.Piece.{Piece}
use Rattle.py_layout.specs.Comments.{is_head_behind}
use Rattle.lint_values.specs.declared.place.Pos.{Pos}
use Rattle.py_source.specs.Places.{pos_from}
use Rattle.py_token.specs.declared.token.Comment.{Comment}
use Rattle.py_token.specs.declared.token.Token.{Token}
use Rattle.py_token.specs.declared.token.TokenKind.{TokenKind}
use Rattle.py_token.specs.declared.token.TokenKind.TheVariants as token_kind
use Rattle.py_token.specs.Items.{item_of}

-- the byte place in the text at which the rest of its characters begins
abbrev pub start_of : List ℕ → List ℕ → ℕ
start_of text rest = length text - length (encode_utf8_all rest)

-- blanks, line ends, comments and joins are no tokens
abbrev pub kind_of : Kind → Option TokenKind
kind_of kind.Name = Some token_kind.Name
kind_of kind.Keyword = Some token_kind.Keyword
kind_of kind.Number = Some token_kind.Number
kind_of kind.Str = Some token_kind.Str
kind_of kind.FStr = Some token_kind.FStr
kind_of kind.Op = Some token_kind.Op
kind_of _ = None

-- the token with these places, if the piece is one
abbrev pub token_at : Option TokenKind → ℕ → ℕ → Pos → List Token
token_at None start end pos = []
token_at (Some of_kind) start end pos = record { kind = of_kind; start = start; end = end; pos = pos } ∷ []

-- the token of the piece at the front of the rest, if it is one
abbrev pub token_of : Pos → List ℕ → List ℕ → Piece → List Token
token_of from text rest piece = token_at (kind_of piece.kind) (start_of text rest) (start_of text (drop piece.len rest)) (pos_from from (start_of text rest) text)

-- the tokens of the pieces at the front of the rest
abbrev pub tokens_from : Pos → List ℕ → List ℕ → List Piece → List Token
tokens_from from text rest [] = []
tokens_from from text rest (piece ∷ pieces) =
    token_of from text rest piece ++ tokens_from from text (drop piece.len rest) pieces

-- the comment with these places, if the piece is one
abbrev pub comment_at : Kind → Bool → ℕ → ℕ → Pos → List Comment
comment_at kind.Comment head start end pos = record { pos = pos; start = start; end = end; alone = head } ∷ []
comment_at _ head start end pos = []

-- the comment of the piece at the front of the rest, if it is one; it is alone where only blanks stand before it on its line
abbrev pub comment_of : Pos → List ℕ → Bool → List ℕ → Piece → List Comment
comment_of from text head rest piece =
    comment_at piece.kind head (start_of text rest) (start_of text (drop piece.len rest)) (pos_from from (start_of text rest) text)

-- the comments of the pieces at the front of the rest, where only blanks stand before it on its line, or more
abbrev pub comments_from : Pos → List ℕ → Bool → List ℕ → List Piece → List Comment
comments_from from text head rest [] = []
comments_from from text head rest (piece ∷ pieces) =
    comment_of from text head rest piece
    ++ comments_from from text (is_head_behind head (item_of piece.kind (take piece.len rest))) (drop piece.len rest) pieces
