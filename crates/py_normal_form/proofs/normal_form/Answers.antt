use Rattle.std.proofs.Common.{◌≡◌, rules, ◌∙◌, ap, subst, sym, encode_utf8_all}
use Rattle.std.specs.Str.{IsAscii, chars}
use Rattle.std.proofs.lemmas.Str.{encodes-chars, chars-IsAscii}
use Rattle.std.proofs.lemmas.Str.Ascii.{All-from_ascii}
use Rattle.unicode_normalization.specs.Forms.{Nfkc}
use Rattle.unicode_normalization.specs.Forms.{nfkc}
use Rattle.unicode_normalization.proofs.FormsLemmas.{normalize-ascii}
use Rattle.py_normal_form.proofs.normal_form.Goals as goal

pub returns-then-is_ascii : goal.returns-then-is_ascii
returns-then-is_ascii c =
    let name = c.args.name.now in
    let ascii : IsAscii name = search rules in
    let spelt : chars name ≡ name = chars-IsAscii name ascii in
    let kept : nfkc (chars name) ≡ chars name = subst (λ cs. nfkc cs ≡ cs) (sym spelt) (normalize-ascii Nfkc name (All-from_ascii name ascii)) in
    record { ascii = ascii; own = ap encode_utf8_all kept ∙ encodes-chars name c.utf8.name }
