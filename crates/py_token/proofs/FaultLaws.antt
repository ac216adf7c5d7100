-- The first fault of a text stands where the characters before it end.
use Rattle.std.proofs.Common.{◌≡◌, ℕ, ◌-◌, ◌<◌, List, length, take, ap, ◌∙◌, subst, encode_utf8_all, chars, IsUtf8, Option}
use Rattle.lint_values.specs.declared.place.Pos.{Pos}
use Rattle.py_source.specs.Places.{pos_from}
use Rattle.py_lexeme.specs.declared.piece.Piece.{Piece}
use Rattle.py_lexeme.specs.declared.piece.Stop.{Stop}
use Rattle.py_lexeme.specs.Faults.{IsCut}
use Rattle.py_layout.specs.declared.fault.LayoutCause.{LayoutCause}
use Rattle.py_layout.specs.FirstFault as layout
use Rattle.py_token.specs.declared.fault.TokenCause.{TokenCause}
use Rattle.py_token.specs.declared.setting.Setting.{Setting}
use Rattle.py_token.specs.FirstFault.{IsTextFault, fault_rest, text_cause}
use Rattle.py_token.specs.Items.{all_items}
use Rattle.py_token.specs.Scanned.{start_of}
use Rattle.py_token.specs.Settings.{seen}
use Rattle.py_token.proofs.TextLaws.{fault_in_text_at}

pub text_fault_at : (setting : Setting) (text cs rest : List ℕ) (pieces named : List Piece) (stop : Option Stop) (n : ℕ) (cause : LayoutCause) (pos : Pos) (told : TokenCause) → IsUtf8 text → cs ≡ chars text → named ≡ pieces → rest ≡ fault_rest cs named stop n cause → IsCut cs pieces stop → layout.IsFirstFault (seen setting.inside (all_items cs pieces stop)) n cause → n < length (seen setting.inside (all_items cs pieces stop)) → pos ≡ pos_from setting.from (length (encode_utf8_all (take (length cs - length rest) cs))) (encode_utf8_all cs) → told ≡ text_cause stop cause → IsTextFault setting text pos told
text_fault_at setting text cs rest pieces named stop n cause pos told utf8 same is_named is_rest cut first within is_pos is_told =
    let there = fault_in_text_at setting.inside text cs rest pieces named stop n cause utf8 same is_named is_rest cut within in
    let rest_there : rest ≡ fault_rest (chars text) pieces stop n cause = is_rest ∙ ap (λ ps. fault_rest cs ps stop n cause) is_named ∙ ap (λ x. fault_rest x pieces stop n cause) same in
    record {
      pieces = pieces;
      stop = stop;
      place = n;
      found = cause;
      cut = subst (λ x. IsCut x pieces stop) same cut;
      first = subst (λ x. layout.IsFirstFault (seen setting.inside (all_items x pieces stop)) n cause) same first;
      here = is_pos ∙ ap (λ k. pos_from setting.from k (encode_utf8_all cs)) there.place ∙ ap (pos_from setting.from (start_of text rest)) there.bytes ∙ ap (λ r. pos_from setting.from (start_of text r) text) rest_there;
      told = is_told;
    }
