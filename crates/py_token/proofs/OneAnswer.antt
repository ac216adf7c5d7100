-- A source is read in one way, or has one first fault.
use Rattle.std.proofs.Common.{◌≡◌, ℕ, not, List, sym, ap, ◌∙◌, subst, append-nil, chars, inl, inr, None, Result, Ok, Err, IfOk, IfErr}
use Rattle.lint_values.specs.declared.place.Pos.{Pos}
use Rattle.py_source.specs.Decoding.{without_mark}
use Rattle.py_source.specs.Places.{pos_from, pos_of}
use Rattle.py_source.proofs.DecodingLaws.{source_unique}
use Rattle.py_source.proofs.LineLaws.{physical_unique}
use Rattle.py_lexeme.proofs.CutLaws.{IsCut-unique}
use Rattle.py_layout.specs.FirstFault as layout
use Rattle.py_layout.proofs.FirstLaws.{first_fault_unique, laid_out_faultless, laid_out_unique}
use Rattle.py_token.specs.declared.fault.TokenCause.{TokenCause}
use Rattle.py_token.specs.declared.fault.TokenFault.{TokenFault}
use Rattle.py_token.specs.declared.fault.TokenFault.TheVariants.{At, Memory}
use Rattle.py_token.specs.FirstFault.{IsFileFault, IsFirstFault, IsTextFault, fault_rest, source_cause, text_cause}
use Rattle.py_token.specs.Items.{all_items, items_of}
use Rattle.py_token.specs.Scanned.{comments_from, start_of, tokens_from}
use Rattle.py_token.specs.Settings.{seen, whole}
use Rattle.py_token.specs.declared.setting.Setting.{Setting}
use Rattle.py_token.specs.Tokenized.{FaultsOnly, GivesOnly, IsRead, IsTokenized, OnFault, Tokenized}

-- a text is read in one way
pub read_unique : (setting : Setting) (text : List ℕ) (a b : Tokenized) → IsRead setting text a → IsRead setting text b → a ≡ b
read_unique setting text a b one other =
    let pieces : one.pieces ≡ other.pieces = (IsCut-unique (chars text) one.pieces other.pieces None None one.cut other.cut).0 in
    let same : a.text ≡ b.text = one.same ∙ sym other.same in
    let tokens : a.tokens ≡ b.tokens = one.tokens ∙ ap (tokens_from setting.from text (chars text)) pieces ∙ sym other.tokens in
    let comments : a.comments ≡ b.comments = one.comments ∙ ap (comments_from setting.from text (not setting.inside) (chars text)) pieces ∙ sym other.comments in
    let lines : a.lines ≡ b.lines = laid_out_unique (seen setting.inside (items_of (chars text) other.pieces)) a.lines b.lines (subst (λ ps. layout.IsLaidOut (seen setting.inside (items_of (chars text) ps)) a.lines) pieces one.lines) other.lines in
    let physical : a.physical ≡ b.physical = physical_unique 0 text a.physical b.physical one.physical other.physical in
    λ i. record { text = same i; tokens = tokens i; lines = lines i; comments = comments i; physical = physical i }

text_fault_unique : (setting : Setting) (text : List ℕ) (p q : Pos) (c d : TokenCause) → IsTextFault setting text p c → IsTextFault setting text q d → (p ≡ q) × (c ≡ d)
text_fault_unique setting text p q c d one other =
    let cut = IsCut-unique (chars text) one.pieces other.pieces one.stop other.stop one.cut other.cut in
    let items : seen setting.inside (all_items (chars text) one.pieces one.stop) ≡ seen setting.inside (all_items (chars text) other.pieces other.stop) = λ i. seen setting.inside (all_items (chars text) (cut.0 i) (cut.1 i)) in
    let first = first_fault_unique (seen setting.inside (all_items (chars text) other.pieces other.stop)) one.place other.place one.found other.found (subst (λ xs. layout.IsFirstFault xs one.place one.found) items one.first) other.first in (
      one.here ∙ (λ i. pos_from setting.from (start_of text (fault_rest (chars text) (cut.0 i) (cut.1 i) (first.0 i) (first.1 i))) text) ∙ sym other.here,
      one.told ∙ (λ i. text_cause (cut.1 i) (first.1 i)) ∙ sym other.told,
    )

file_fault_unique : (bytes : List ℕ) (p q : Pos) (c d : TokenCause) → IsFileFault bytes p c → IsFileFault bytes q d → (p ≡ q) × (c ≡ d)
file_fault_unique bytes p q c d one other =
    let same = source_unique bytes one.place other.place one.found other.found one.fault other.fault in (
      one.here ∙ ap (λ f. pos_of (without_mark bytes) f.place) same ∙ sym other.here,
      one.told ∙ ap (λ f. source_cause f.cause) same ∙ sym other.told,
    )

first_unique : (bytes : List ℕ) (p q : Pos) (c d : TokenCause) → IsFirstFault bytes p c → IsFirstFault bytes q d → (p ≡ q) × (c ≡ d)
first_unique bytes p q c d (inl one) (inl other) = file_fault_unique bytes p q c d one other
first_unique bytes p q c d (inl one) (inr other) = absurd (other.0 one.place one.found one.fault)
first_unique bytes p q c d (inr one) (inl other) = absurd (one.0 other.place other.found other.fault)
first_unique bytes p q c d (inr one) (inr other) = text_fault_unique whole (without_mark bytes) p q c d one.1 other.1

-- a text that is read has no fault
pub read_faultless : (setting : Setting) (text : List ℕ) (read : Tokenized) (pos : Pos) (cause : TokenCause) → IsRead setting text read → IsTextFault setting text pos cause → ⊥
read_faultless setting text read pos cause is fault =
    let cut = IsCut-unique (chars text) fault.pieces is.pieces fault.stop None fault.cut is.cut in
    let items : seen setting.inside (all_items (chars text) fault.pieces fault.stop) ≡ seen setting.inside (items_of (chars text) is.pieces) = ap (seen setting.inside) ((λ i. all_items (chars text) (cut.0 i) (cut.1 i)) ∙ append-nil (items_of (chars text) is.pieces)) in
    laid_out_faultless (seen setting.inside (items_of (chars text) is.pieces)) read.lines fault.place fault.found is.lines (subst (λ xs. layout.IsFirstFault xs fault.place fault.found) items fault.first)

tokenized_faultless : (bytes : List ℕ) (read : Tokenized) (pos : Pos) (cause : TokenCause) → IsTokenized bytes read → IsFirstFault bytes pos cause → ⊥
tokenized_faultless bytes read pos cause is (inl file) = is.faultless file.place file.found file.fault
tokenized_faultless bytes read pos cause is (inr first) = read_faultless whole (without_mark bytes) read pos cause is.text first.1

-- an answer that is right is the only one
pub every_from : (bytes : List ℕ) (answer : Result Tokenized TokenFault) → IfOk answer (IsTokenized bytes) → IfErr answer (OnFault (IsFirstFault bytes)) → (read : Tokenized) → IsTokenized bytes read → GivesOnly answer read
every_from bytes (Ok found) is fault read other = read_unique whole (without_mark bytes) found read is.text other.text
every_from bytes (Err (At pos cause)) is fault read other = tokenized_faultless bytes read pos cause other fault
every_from bytes (Err Memory) is fault read other = tt

pub every_fault_from : (bytes : List ℕ) (answer : Result Tokenized TokenFault) → IfOk answer (IsTokenized bytes) → IfErr answer (OnFault (IsFirstFault bytes)) → (pos : Pos) (cause : TokenCause) → IsFirstFault bytes pos cause → FaultsOnly answer pos cause
every_fault_from bytes (Ok found) is fault pos cause first = tokenized_faultless bytes found pos cause is first
every_fault_from bytes (Err (At at other)) is fault pos cause first = first_unique bytes at pos other cause fault first
every_fault_from bytes (Err Memory) is fault pos cause first = tt

-- the same of a part inside brackets
pub every_in_field : (setting : Setting) (text : List ℕ) (answer : Result Tokenized TokenFault) → IfOk answer (IsRead setting text) → IfErr answer (OnFault (IsTextFault setting text)) → (read : Tokenized) → IsRead setting text read → GivesOnly answer read
every_in_field setting text (Ok found) is fault read other = read_unique setting text found read is other
every_in_field setting text (Err (At pos cause)) is fault read other = read_faultless setting text read pos cause other fault
every_in_field setting text (Err Memory) is fault read other = tt

pub every_fault_in_field : (setting : Setting) (text : List ℕ) (answer : Result Tokenized TokenFault) → IfOk answer (IsRead setting text) → IfErr answer (OnFault (IsTextFault setting text)) → (pos : Pos) (cause : TokenCause) → IsTextFault setting text pos cause → FaultsOnly answer pos cause
every_fault_in_field setting text (Ok found) is fault pos cause first = read_faultless setting text found pos cause is first
every_fault_in_field setting text (Err (At at other)) is fault pos cause first = text_fault_unique setting text at pos other cause fault first
every_fault_in_field setting text (Err Memory) is fault pos cause first = tt
