-- The normal forms of the names among the tokens: a name without an entry is its own form.
use Rattle.std.specs.Prelude.{◌≡◌, ◌≢◌, ℕ, ◌<◌, List, length, slice_index_or, Option, None, MatchOption}
use Rattle.std.specs.Ordering.{nat_cmp}
use Rattle.std.specs.BTreeMap.{BTreeMap, get}
use Rattle.py_normal_form.specs.NormalForm.{normal_form_of}
use Rattle.py_source.specs.Spans.{bytes_of}
use Rattle.py_token.specs.Spans.{span_of}
use Rattle.py_token.specs.declared.token.Token.{Token}
use Rattle.py_token.specs.declared.token.TokenKind.{TokenKind}
use Rattle.py_token.specs.declared.token.TokenKind.TheVariants.{Name, Keyword, Number, Str, FStr, Op}

-- from the numbers of tokens to the forms that are kept
abbrev pub Forms : Type 0
Forms = BTreeMap ℕ (List ℕ)

-- what is kept of a name gives its form, and of other tokens nothing is asked
abbrev pub IsFormOf : TokenKind → List ℕ → Option (List ℕ) → Type 0
IsFormOf Name text kept = MatchOption kept (normal_form_of text ≡ text) (λ form. form ≡ normal_form_of text)
IsFormOf Keyword text kept = Unit {0}
IsFormOf Number text kept = Unit {0}
IsFormOf Str text kept = Unit {0}
IsFormOf FStr text kept = Unit {0}
IsFormOf Op text kept = Unit {0}

-- what is kept gives the form of each of the first tokens, so many, that is a name
abbrev pub HasFormsUpTo : ℕ → List ℕ → List Token → Forms → Type 0
HasFormsUpTo count text tokens forms =
    (k : ℕ) (d : Token) → k < count → k < length tokens → IsFormOf (slice_index_or tokens k d).kind (bytes_of text (span_of (slice_index_or tokens k d))) (get nat_cmp forms k)

-- what is kept gives the form of each name among the tokens
abbrev pub HasForms : List ℕ → List Token → Forms → Type 0
HasForms text tokens forms = HasFormsUpTo (length tokens) text tokens forms

-- one more token was looked at, of which nothing was kept: only its own entry may be new
pub record AddsForm (old now : Forms) (i : ℕ) (kind : TokenKind) (text : List ℕ) : Type 0 where
  pub here : get nat_cmp old i ≡ None → IsFormOf kind text (get nat_cmp now i)
  pub others : (q : ℕ) → q ≢ i → get nat_cmp now q ≡ get nat_cmp old q
