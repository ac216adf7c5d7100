-- The expression of a field: strings and single bytes, up to the first end that stands outside its brackets.
use Rattle.std.specs.Prelude.{◌≡◌, ◌≢◌, ℕ, ◌+◌, ◌-◌, ◌≤◌, ◌<◌, Bool, true, false, not, ◌&&◌, ◌||◌, ◌==◌, ◌⊎◌, if◌then◌else◌, List, [], ◌∷◌, ◌++◌, length, drop}
use Rattle.std.specs.List.{concat, prefix_len}
use Rattle.fstr_parse.specs.Bytes.{Text, byte, is_blank, is_quote, is_opening, is_closing}
use Rattle.fstr_parse.specs.Rows.{Row}

-- the length of an `=` and of the blanks and line ends behind it, and 0 where none stands here
unfoldable pub equals_len : Text → ℕ
equals_len text = if byte text 0 == 61 then 1 + prefix_len is_blank (drop 1 text) else 0

-- here stands a `}`, a `:`, or a `!` without `=` behind it
unfoldable pub is_mark : Text → Bool
is_mark text = byte text 0 == 125 || (byte text 0 == 58 || (byte text 0 == 33 && not (byte text 1 == 61)))

-- here an expression may end: before a mark, or before an `=` that one follows
unfoldable pub is_end : Text → Bool
is_end text = is_mark (drop (equals_len text) text)

-- how many quotes begin the string that stands here: three where three stand, and else one
unfoldable pub quotes_len : Text → ℕ
quotes_len text = if byte text 1 == byte text 0 && byte text 2 == byte text 0 then 3 else 1

-- so many of the quotes stand here
unfoldable pub are_quotes : ℕ → ℕ → Text → Bool
are_quotes quote count text = byte text 0 == quote && (count == 1 || (byte text 1 == quote && byte text 2 == quote))

-- what stands behind the first quotes of a string
abbrev pub inside : Text → Text
inside text = drop (quotes_len text) text

-- so many bytes behind the first quotes of a string are its own: in none of these places do the quotes stand again, or
-- a backslash
pub record IsBody (text : Text) (body : ℕ) : Type 0 where
  pub quote : is_quote (byte text 0) ≡ true
  pub within : body ≤ length (inside text)
  pub unquoted : (place : ℕ) → place < body → are_quotes (byte text 0) (quotes_len text) (drop place (inside text)) ≡ false
  pub plain : (place : ℕ) → place < body → byte (inside text) place ≢ 92

-- a string of this length stands here: it goes on to the first place where its quotes stand again
pub record IsString (text : Text) (len : ℕ) : Type 0 where
  pub body : ℕ
  pub own : IsBody text body
  pub closed : are_quotes (byte text 0) (quotes_len text) (drop body (inside text)) ≡ true
  pub size : len ≡ quotes_len text + body + quotes_len text

-- a string begins here, and comes to the text's end or a backslash before its quotes stand again
pub record IsOpened (text stop : Text) : Type 0 where
  pub body : ℕ
  pub own : IsBody text body
  pub here : stop ≡ drop body (inside text)
  pub halts : (stop ≡ []) ⊎ (byte stop 0 ≡ 92)

-- here an expression ends, in which so many brackets are open
abbrev pub ends_at : ℕ → Text → Bool
ends_at brackets text = brackets == 0 && is_end text

-- how many brackets are open behind a step: they are counted as one kind, and never below 0
unfoldable pub brackets_behind : ℕ → Text → ℕ
brackets_behind brackets step =
    if is_opening (byte step 0) then brackets + 1 else (if is_closing (byte step 0) then brackets - 1 else brackets)

-- a step of an expression in which so many brackets are open: a whole string, or any byte but a quote, a backslash and
-- a `#`, where the expression does not end
pub data IsStep (brackets : ℕ) (step behind : Text) : Type 0 where
  whole_string : IsString (step ++ behind) (length step) → IsStep brackets step behind
  single_byte : (b : ℕ) → is_quote b ≡ false → b ≢ 92 → b ≢ 35 → ends_at brackets (b ∷ behind) ≡ false → step ≡ b ∷ [] → IsStep brackets step behind

-- the text's first bytes, so many, are an expression's: a row of steps, behind which it ends for the first time
pub record IsExpression (text : Text) (len : ℕ) : Type 0 where
  pub steps : List Text
  pub rest : Text
  pub is : text ≡ concat steps ++ rest
  pub size : len ≡ length (concat steps)
  pub row : Row IsStep brackets_behind 0 steps 0 rest
  pub ends : is_end rest ≡ true

-- the text's end, a backslash or a `#` stands here
abbrev pub Halts : Text → Type 0
Halts stop = (stop ≡ []) ⊎ (byte stop 0 ≡ 92 ⊎ byte stop 0 ≡ 35)

-- an expression that begins with this text has not ended and can't go on at the stop, which stands behind a row of
-- steps, or within a string that begins there
pub record IsHalted (text stop : Text) : Type 0 where
  pub steps : List Text
  pub brackets : ℕ
  pub rest : Text
  pub is : text ≡ concat steps ++ rest
  pub row : Row IsStep brackets_behind 0 steps brackets rest
  pub unended : ends_at brackets rest ≡ false
  pub reached : ((stop ≡ rest) × Halts stop) ⊎ IsOpened rest stop
