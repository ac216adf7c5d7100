-- The lines on which an action acts, by its verb and by where its comment stands.
use Rattle.std.specs.Prelude.{ℕ, ◌+◌, ◌==◌, Bool, true, not, ◌&&◌, ◌||◌, nat_le, nat_lt, min, if◌then◌else◌, List, fold, slice_get, Option, None, Some}
use Rattle.std.specs.List.{prefix_len}
use Rattle.lint_values.specs.declared.place.Pos.{Pos}
use Rattle.py_token.specs.declared.token.Comment.{Comment}
use Rattle.py_token.specs.declared.token.Token.{Token}
use Rattle.py_token.specs.Tokenized.{Tokenized}
use Rattle.pragma_scope.specs.declared.action.Verb.{Verb}
use Rattle.pragma_scope.specs.declared.action.Verb.TheVariants.{Disable, Enable, DisableNext}
use Rattle.pragma_scope.specs.declared.block.Block.{Block}
use Rattle.pragma_scope.specs.declared.region.Region.{Region}
use Rattle.pragma_scope.specs.Blocks.{last_of_lines}
use Rattle.pragma_scope.specs.LogicalLines.{line_region}

-- a place before another
abbrev pub is_before : Pos → Pos → Bool
is_before a b = nat_lt a.line b.line || (a.line == b.line && nat_lt a.col b.col)

-- ---- a comment alone on its line

-- how many tokens do not begin behind a place
abbrev pub passed : Tokenized → ℕ → ℕ
passed read place = prefix_len (λ token. nat_le token.start place) read.tokens

-- the first token behind a comment
abbrev pub token_behind : Tokenized → Comment → Option Token
token_behind read comment = slice_get read.tokens (passed read comment.start)

-- a block begins at a token or before it: where the token is the first behind a comment, no part of the block's header
-- stands behind the comment
abbrev pub begins_by : Option Token → Block → Bool
begins_by None block = true
begins_by (Some token) block = not (is_before token.pos block.start)

-- a block holds a comment, behind which this token is the first
abbrev pub holds : Option Token → Comment → Block → Bool
holds token comment block = begins_by token block && nat_le comment.pos.line block.last

-- the innermost block that holds a comment
abbrev pub innermost : Option Token → Comment → List Block → Option Block
innermost token comment blocks = fold (λ found block. if holds token comment block then Some block else found) None blocks

-- a comment stands before the first of these statements, or there is none
abbrev pub is_on_top : Comment → Option Pos → Bool
is_on_top comment None = true
is_on_top comment (Some begin) = is_before comment.pos begin

-- from the comment's line to the end of the block; before its first statement, all of it with its header
abbrev pub region_in : Comment → Option Block → Region
region_in comment None = record { first = comment.pos.line; last = last_of_lines }
region_in comment (Some block) = record { first = if is_on_top comment block.statements then block.header else comment.pos.line; last = block.last }

abbrev pub block_region : Tokenized → List Block → Comment → Region
block_region read blocks comment = region_in comment (innermost (token_behind read comment) comment blocks)

-- ---- every comment

-- the next line
abbrev pub next_line : Comment → Region
next_line comment = record { first = min (comment.pos.line + 1) last_of_lines; last = min (comment.pos.line + 1) last_of_lines }

-- a comment alone on its line acts in its block, and another on its logical line
abbrev pub comment_region : Tokenized → List Block → Comment → Region
comment_region read blocks comment = if comment.alone then block_region read blocks comment else line_region read comment

-- the lines on which an action of a comment acts
abbrev pub region_of : Tokenized → List Block → Comment → Verb → Region
region_of read blocks comment Disable = comment_region read blocks comment
region_of read blocks comment Enable = comment_region read blocks comment
region_of read blocks comment DisableNext = next_line comment
