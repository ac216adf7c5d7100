-- A text with a stop has no layout.
use Rattle.std.proofs.Common.{◌≡◌, ℕ, Bool, true, not, List, [], ◌∷◌, refl, ◌++◌, sym, ap, ◌∙◌, subst, append-nil, chars, Option, Some, None, Result, Ok, Err, OnOk, is_err, false}
use Rattle.py_source.specs.Physical.{ArePhysical}
use Rattle.py_lexeme.specs.declared.piece.Piece.{Piece}
use Rattle.py_lexeme.specs.declared.piece.Stop.{Stop}
use Rattle.py_lexeme.specs.Faults.{IsCut}
use Rattle.py_layout.specs.declared.item.Item.{Item}
use Rattle.py_layout.specs.declared.logical.Logical.{Logical}
use Rattle.py_layout.proofs.StopLaws.{stop_not_laid_out}
use Rattle.py_layout.specs.FirstFault.{IsLaidOut}
use Rattle.py_token.specs.Items.{items_of, stop_item}
use Rattle.py_token.specs.Scanned.{comments_from, tokens_from}
use Rattle.py_token.specs.Settings.{inside_brackets, seen}
use Rattle.py_token.specs.declared.setting.Setting.{Setting}
use Rattle.py_token.specs.Tokenized.{IsRead, Tokenized}

-- a stop is a stop inside brackets too
pub seen_stop : (inside : Bool) (items : List Item) (stop : Option Stop) → seen inside items ++ stop_item stop ≡ seen inside (items ++ stop_item stop)
seen_stop false items stop = refl
seen_stop true [] None = refl
seen_stop true [] (Some stop) = refl
seen_stop true (item ∷ items) stop = ap (λ xs. inside_brackets item ∷ xs) (seen_stop true items stop)

-- what a text is read as, where its items have a layout
pub is_read : (setting : Setting) (text : List ℕ) (pieces : List Piece) (stop : Option Stop) (lines : List Logical) (read : Tokenized) → IsCut (chars text) pieces stop → IsLaidOut (seen setting.inside (items_of (chars text) pieces) ++ stop_item stop) lines → read.text ≡ text → read.tokens ≡ tokens_from setting.from text (chars text) pieces → read.lines ≡ lines → read.comments ≡ comments_from setting.from text (not setting.inside) (chars text) pieces → ArePhysical text read.physical → IsRead setting text read
is_read setting text pieces (Some stop) lines read cut laid same tokens is_lines comments physical = absurd (stop_not_laid_out (seen setting.inside (items_of (chars text) pieces)) lines laid)
is_read setting text pieces None lines read cut laid same tokens is_lines comments physical =
    record {
      pieces = pieces;
      cut = cut;
      same = same;
      tokens = tokens;
      lines = subst (IsLaidOut (seen setting.inside (items_of (chars text) pieces))) (sym is_lines) (subst (λ items. IsLaidOut items lines) (append-nil (seen setting.inside (items_of (chars text) pieces))) laid);
      comments = comments;
      physical = physical;
    }

-- the same, where the parts have names
pub is_read_at : (setting : Setting) (text cs : List ℕ) (pieces named : List Piece) (stop : Option Stop) (front items : List Item) (lines : List Logical) (read : Tokenized) → cs ≡ chars text → named ≡ pieces → IsCut cs pieces stop → front ≡ seen setting.inside (items_of cs named) → items ≡ front ++ stop_item stop → IsLaidOut items lines → read.text ≡ text → read.tokens ≡ tokens_from setting.from text cs named → read.lines ≡ lines → read.comments ≡ comments_from setting.from text (not setting.inside) cs named → ArePhysical text read.physical → IsRead setting text read
is_read_at setting text cs pieces named stop front items lines read same is_named cut is_front is_items laid is_text tokens is_lines comments physical =
    let there : items ≡ seen setting.inside (items_of (chars text) pieces) ++ stop_item stop = is_items ∙ ap (λ xs. xs ++ stop_item stop) (is_front ∙ ap (λ ps. seen setting.inside (items_of cs ps)) is_named ∙ ap (λ x. seen setting.inside (items_of x pieces)) same) in
    is_read setting text pieces stop lines read
    (subst (λ x. IsCut x pieces stop) same cut)
    (subst (λ xs. IsLaidOut xs lines) there laid)
    is_text
    (tokens ∙ ap (tokens_from setting.from text cs) is_named ∙ ap (λ x. tokens_from setting.from text x pieces) same)
    is_lines
    (comments ∙ ap (comments_from setting.from text (not setting.inside) cs) is_named ∙ ap (λ x. comments_from setting.from text (not setting.inside) x pieces) same)
    physical

-- what holds of an Ok, where there is no error
pub on_ok_gives : {T E : Type 0} (answer : Result T E) (P : Type 0) → OnOk answer P → is_err answer ≡ false → P
on_ok_gives (Ok value) P holds none = holds
on_ok_gives (Err fault) P holds none = absurd (cc none)
