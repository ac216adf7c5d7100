-- Items with a stop have no layout.
use Rattle.std.proofs.Common.{◌≡◌, ℕ, ◌+◌, ◌==◌, List, [], ◌∷◌, ◌++◌, length, Ok, Err}
use Rattle.std.proofs.lemmas.Bool.{cond_both}
use Rattle.py_layout.specs.declared.bracket.Opened.{Opened}
use Rattle.py_layout.specs.declared.item.Item.{Item}
use Rattle.py_layout.specs.declared.item.Item.TheVariants as item
use Rattle.py_layout.specs.declared.fault.ItemCause.TheVariants.{CloseBracket, TooDeep}
use Rattle.py_layout.specs.declared.logical.Logical.{Logical}
use Rattle.py_layout.specs.Brackets.{open_behind, is_same}
use Rattle.py_layout.specs.FirstFault.{IsLaidOut}

stop_stops : (opened : List Opened) (place : ℕ) (items : List Item) (left : List Opened) → open_behind opened place (items ++ item.Stop ∷ []) ≡ Ok left → ⊥
stop_stops opened place [] left h = cc h
stop_stops opened place (item.Open bracket ∷ items) left h =
    cond_both (length opened == 200) (Err (place, TooDeep)) (open_behind (record { bracket = bracket; place = place } ∷ opened) (place + 1) (items ++ item.Stop ∷ [])) (λ answer. answer ≡ Ok left → ⊥)
    (λ _ same. cc same)
    (λ _ same. stop_stops (record { bracket = bracket; place = place } ∷ opened) (place + 1) items left same)
    h
stop_stops [] place (item.Close bracket ∷ items) left h = cc h
stop_stops (innermost ∷ opened) place (item.Close bracket ∷ items) left h =
    cond_both (is_same innermost.bracket bracket) (open_behind opened (place + 1) (items ++ item.Stop ∷ [])) (Err (place, CloseBracket)) (λ answer. answer ≡ Ok left → ⊥)
    (λ _ same. stop_stops opened (place + 1) items left same)
    (λ _ same. cc same)
    h
stop_stops opened place (item.Stop ∷ items) left h = cc h
stop_stops opened place (item.Blank widths ∷ items) left h = stop_stops opened (place + 1) items left h
stop_stops opened place (item.Comment ∷ items) left h = stop_stops opened (place + 1) items left h
stop_stops opened place (item.Join ∷ items) left h = stop_stops opened (place + 1) items left h
stop_stops opened place (item.LineEnd ∷ items) left h = stop_stops opened (place + 1) items left h
stop_stops opened place (item.Plain ∷ items) left h = stop_stops opened (place + 1) items left h

pub stop_not_laid_out : (items : List Item) (lines : List Logical) → IsLaidOut (items ++ item.Stop ∷ []) lines → ⊥
stop_not_laid_out items lines laid = stop_stops [] 0 items [] laid.closed
